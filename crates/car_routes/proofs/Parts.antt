-- The routes of all parts, one after the other, are those of all nodes.
use Rattle.std.proofs.Common.{◌≡◌, ℕ, zero, suc, ◌+◌, ◌-◌, ◌*◌, ◌<◌, ◌≤◌, min, List, [], ◌∷◌, ◌++◌, map, sym, ◌∙◌, ap, arith}
use Rattle.std.proofs.lemmas.List.{flat_map_more, FromFn.map-range_with_len_more}
use Rattle.std.specs.{Int.div_ceil, List.flat_map, List.range_with_len}
use Rattle.car_routes.specs.declared.searches.TheConstants.{PART_NODES}

-- a part begins within the nodes
pub part_within : (part nodes : ℕ) → part < div_ceil nodes PART_NODES → part * PART_NODES < nodes
part_within part nodes less = omega arith

module _ {X : Type 0} (f : ℕ → X) where
  range_join : (low a b : ℕ) → map f (range_with_len low (a + b)) ≡ map f (range_with_len low a) ++ map f (range_with_len (low + a) b)
  range_join low zero b =
      let count : zero + b ≡ b = omega arith in
      let start : low ≡ low + zero = omega arith in
      ap (λ (n : ℕ). map f (range_with_len low n)) count ∙ ap (λ (m : ℕ). map f (range_with_len m b)) start
  range_join low (suc a) b =
      let count : suc a + b ≡ suc (a + b) = omega arith in
      let start : low + 1 + a ≡ low + suc a = omega arith in
      ap (λ (n : ℕ). map f (range_with_len low n)) count
      ∙ ap (λ (xs : List X). f low ∷ xs) (range_join (low + 1) a b)
      ∙ ap (λ (m : ℕ). f low ∷ (map f (range_with_len (low + 1) a) ++ map f (range_with_len m b))) start

  abbrev part_of : ℕ → ℕ → List X
  part_of nodes part = map f (range_with_len (part * PART_NODES) (min (part * PART_NODES + PART_NODES) nodes - part * PART_NODES))

  parts_to : (nodes count : ℕ) → count ≤ div_ceil nodes PART_NODES
      → flat_map (λ (part : List X). part) (map (part_of nodes) (range_with_len 0 count)) ≡ map f (range_with_len 0 (min (count * PART_NODES) nodes))
  parts_to nodes zero within =
      let none : 0 ≡ min (zero * PART_NODES) nodes = omega arith in
      ap (λ (n : ℕ). map f (range_with_len 0 n)) none
  parts_to nodes (suc count) within =
      let before = parts_to nodes count (omega arith) in
      let begins = part_within count nodes (omega arith) in
      let next : suc count ≡ count + 1 = omega arith in
      let so_many : min (count * PART_NODES) nodes ≡ count * PART_NODES = omega arith in
      let more : count * PART_NODES + (min (count * PART_NODES + PART_NODES) nodes - count * PART_NODES) ≡ min (suc count * PART_NODES) nodes =
      omega arith in
      let start : 0 + count * PART_NODES ≡ count * PART_NODES = omega arith in
      ap (λ (n : ℕ). flat_map (λ (part : List X). part) (map (part_of nodes) (range_with_len 0 n))) next
      ∙ ap (flat_map (λ (part : List X). part)) (map-range_with_len_more (part_of nodes) 0 count count (omega arith))
      ∙ sym (flat_map_more (λ (part : List X). part) [] (map (part_of nodes) (range_with_len 0 count)) (part_of nodes count))
      ∙ ap (λ (xs : List X). xs ++ part_of nodes count) (before ∙ ap (λ (n : ℕ). map f (range_with_len 0 n)) so_many)
      ∙ ap (λ (m : ℕ). map f (range_with_len 0 (count * PART_NODES)) ++ map f (range_with_len m
      (min (count * PART_NODES + PART_NODES) nodes - count * PART_NODES))) (sym start)
      ∙ sym (range_join 0 (count * PART_NODES) (min (count * PART_NODES + PART_NODES) nodes - count * PART_NODES))
      ∙ ap (λ (n : ℕ). map f (range_with_len 0 n)) more

  -- all parts together
  pub parts_all : (nodes : ℕ) → flat_map (λ (part : List X). part) (map (part_of nodes) (range_with_len 0 (div_ceil nodes PART_NODES)))
      ≡ map f (range_with_len 0 nodes)
  parts_all nodes =
      let whole : min (div_ceil nodes PART_NODES * PART_NODES) nodes ≡ nodes = omega arith in
      parts_to nodes (div_ceil nodes PART_NODES) (omega arith) ∙ ap (λ (n : ℕ). map f (range_with_len 0 n)) whole
