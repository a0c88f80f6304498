-- The links of a grid by their places: each step to a node beside another is a link, so that a way leads from each node to each other one.
use Rattle.std.proofs.Common.{◌≡◌, ◌∙◌, ◌<◌, ◌≤◌, ◌+◌, ◌-◌, ◌*◌, ◌/◌, ◌%◌, ◌++◌, ℕ, zero, suc, arith, ap, sym, subst, refl, inl, inr, Bool, true, false, List}
use Rattle.std.proofs.{Common.[], Common.◌∷◌, Common.length, Common.length-append, lemmas.Bool.cases_eq, lemmas.Bool.Decides.nat_tests}
use Rattle.std.proofs.lemmas.{List.get_or-append-add, List.get_or_append_left, Nat.div-add-mod', Nat.div-mul-add, Nat.mod-mul-add, Nat.mod_below}
use Rattle.std.specs.{List.flat_map, List.range_with_len, Prelude.get_or, Prelude.nat_lt}
use Rattle.walks.specs.Walks.{Ends}
use Rattle.workload.specs.Links.{grid_links, link_if, links_from}
use Rattle.law_generated.proofs.{Grid.down_there, Grid.right_there, Ways.IsShortWay, Ways.IsWay, Ways.across}

-- a link stands at a place of a list
abbrev pub IsPlaced : List (ℕ × ℕ) → ℕ × ℕ → Type 0
IsPlaced links link = (place : ℕ) × (place < length links) × (get_or links place (0, 0) ≡ link)

placed_first : (xs ys : List (ℕ × ℕ)) (link : ℕ × ℕ) → IsPlaced xs link → IsPlaced (xs ++ ys) link
placed_first xs ys link is =
    (is.0, omega (arith, is.1, length-append xs ys), get_or_append_left xs ys (0, 0) is.0 is.1 ∙ is.2)

placed_later : (xs ys : List (ℕ × ℕ)) (link : ℕ × ℕ) → IsPlaced ys link → IsPlaced (xs ++ ys) link
placed_later xs ys link is =
    (length xs + is.0, omega (arith, is.1, length-append xs ys), get_or-append-add xs ys is.0 (0, 0) ∙ is.2)

placed_if : (there : Bool) (from to : ℕ) → there ≡ true → IsPlaced (link_if there from to) (from, to)
placed_if true from to h = (0, omega arith, refl)
placed_if false from to h = absurd (cc h)

placed_among : (f : ℕ → List (ℕ × ℕ)) (link : ℕ × ℕ) (k a n : ℕ) → a ≤ k → k < a + n → IsPlaced (f k) link
    → IsPlaced (flat_map f (range_with_len a n)) link
placed_among f link k a zero least less is = absurd (omega (arith, least, less))
placed_among f link k a (suc n) least less is = elim (cases_eq a k) [
  | inl here ↦ placed_first (f a) (flat_map f (range_with_len (a + 1) n)) link (subst (λ (j : ℕ). IsPlaced (f j) link) (sym here) is)
  | inr later ↦ placed_later (f a) (flat_map f (range_with_len (a + 1) n)) link
      (placed_among f link k (a + 1) n (omega (arith, least, later)) (omega (arith, less)) is)
]

-- a link is a way of one link
one_way : (ends : Ends) (from to : ℕ) → IsPlaced ends (from, to) → IsWay ends from to 1
one_way ends from to is = (
  is.0 ∷ [],
  (is.1, ap (λ (link : ℕ × ℕ). link.0) is.2, ap (λ (link : ℕ × ℕ). link.1) is.2),
  refl,
)

below : (a b : ℕ) → a < b → nat_lt a b ≡ true
below a b h = grind (arith, nat_tests)

module _ (size : ℕ) (some : 2 ≤ size) where
  abbrev right_if : ℕ → List (ℕ × ℕ)
  right_if node = link_if (nat_lt (node % size + 1) size) node (node + 1)

  abbrev left_if : ℕ → List (ℕ × ℕ)
  left_if node = link_if (nat_lt 0 (node % size)) node (node - 1)

  abbrev down_if : ℕ → List (ℕ × ℕ)
  down_if node = link_if (nat_lt (node / size + 1) size) node (node + size)

  abbrev up_if : ℕ → List (ℕ × ℕ)
  up_if node = link_if (nat_lt 0 (node / size)) node (node - size)

  -- the links that begin at a node are among all of them
  in_grid : (node : ℕ) (link : ℕ × ℕ) → node < size * size → IsPlaced (((right_if node ++ left_if node) ++ down_if node) ++ up_if node) link
      → IsPlaced (grid_links size) link
  unfolding grid_links links_from
  in_grid node link less is = placed_among (links_from size) link node 0 (size * size) (omega arith) (omega (arith, less)) is

  right_placed : (node : ℕ) → node < size * size → node % size + 1 < size → IsPlaced (grid_links size) (node, node + 1)
  right_placed node less within =
      in_grid node (node, node + 1) less (placed_first ((right_if node ++ left_if node) ++ down_if node) (up_if node) (node, node + 1)
      (placed_first (right_if node ++ left_if node) (down_if node) (node, node + 1)
      (placed_first (right_if node) (left_if node) (node, node + 1)
      (placed_if (nat_lt (node % size + 1) size) node (node + 1) (below (node % size + 1) size within)))))

  left_placed : (node : ℕ) → node < size * size → 0 < node % size → IsPlaced (grid_links size) (node, node - 1)
  left_placed node less within =
      in_grid node (node, node - 1) less (placed_first ((right_if node ++ left_if node) ++ down_if node) (up_if node) (node, node - 1)
      (placed_first (right_if node ++ left_if node) (down_if node) (node, node - 1)
      (placed_later (right_if node) (left_if node) (node, node - 1)
      (placed_if (nat_lt 0 (node % size)) node (node - 1) (below 0 (node % size) within)))))

  down_placed : (node : ℕ) → node < size * size → node / size + 1 < size → IsPlaced (grid_links size) (node, node + size)
  down_placed node less within =
      in_grid node (node, node + size) less (placed_first ((right_if node ++ left_if node) ++ down_if node) (up_if node) (node, node + size)
      (placed_later (right_if node ++ left_if node) (down_if node) (node, node + size)
      (placed_if (nat_lt (node / size + 1) size) node (node + size) (below (node / size + 1) size within))))

  up_placed : (node : ℕ) → node < size * size → 0 < node / size → IsPlaced (grid_links size) (node, node - size)
  up_placed node less within =
      in_grid node (node, node - size) less (placed_later ((right_if node ++ left_if node) ++ down_if node) (up_if node) (node, node - size)
      (placed_if (nat_lt 0 (node / size)) node (node - size) (below 0 (node / size) within)))

  -- THE FOUR STEPS
  right : (node : ℕ) → node < size * size → node % size + 1 < size → IsWay (grid_links size) node (node + 1) 1
  right node less within = one_way (grid_links size) node (node + 1) (right_placed node less within)

  left : (node : ℕ) → node < size * size → node % size + 1 < size → IsWay (grid_links size) (node + 1) node 1
  left node less within =
      let whole : node / size * size + (node % size + 1) ≡ node + 1 = omega (arith, div-add-mod' node size) in
      let column : (node + 1) % size ≡ node % size + 1 =
      ap (λ (n : ℕ). n % size) (sym whole) ∙ mod-mul-add (node / size) size (node % size + 1) within in
      let back : node + 1 - 1 ≡ node = omega arith in
      one_way (grid_links size) (node + 1) node (subst (λ (n : ℕ). IsPlaced (grid_links size) (node + 1, n)) back
      (left_placed (node + 1) (right_there size some node less within) (omega (arith, column))))

  down : (node : ℕ) → node < size * size → node / size + 1 < size → IsWay (grid_links size) node (node + size) 1
  down node less within = one_way (grid_links size) node (node + size) (down_placed node less within)

  up : (node : ℕ) → node < size * size → node / size + 1 < size → IsWay (grid_links size) (node + size) node 1
  up node less within =
      let whole : (node / size + 1) * size + node % size ≡ node + size = omega (arith, div-add-mod' node size) in
      let row : (node + size) / size ≡ node / size + 1 =
      ap (λ (n : ℕ). n / size) (sym whole) ∙ div-mul-add (node / size + 1) size (node % size) (mod_below node size (omega (arith, some))) in
      let back : node + size - size ≡ node = omega arith in
      one_way (grid_links size) (node + size) node (subst (λ (n : ℕ). IsPlaced (grid_links size) (node + size, n)) back
      (up_placed (node + size) (down_there size some node less within) (omega (arith, row))))

  -- a way of few links leads from each node to each other one
  pub grid_between : (from to : ℕ) → from < size * size → to < size * size → IsShortWay (grid_links size) from to (size + size)
  grid_between = across (grid_links size) size some right left down up
