-- What nodes of a partition put into queues of other partitions, by the partition.
use Rattle.traffic.proofs.Common.{◌≡◌, ℕ, List, [], ◌∷◌, ◌++◌, ◌∙◌, ap, refl, sym, inl, inr, cases_Bool, true, false, Bool, not, ◌&&◌, ◌≤◌, arith, and_parts}
use Rattle.traffic.proofs.Common.{or_parts, if◌then◌else◌, map, filter, flat_map, filter-append, flat_map-append, sum_by-cons, eqb, eqb-true, eq-eqb, Setup}
use Rattle.traffic.proofs.Common.{World, link_row, node_turns, Untouched, touches, same, on, listed}
use Rattle.traffic.proofs.Nodes.{node_untouched}
use Rattle.traffic.specs.declared.{moves.Move.Move, moves.Move.TheVariants.Transfer, riders.Rider.Rider, stage.Stage.TheVariants.Queue, world.Row.Row}
use Rattle.law_one_place.proofs.{Boarding.one_rider, Places.among_riders}
use Rattle.law_partitions.proofs.Spare.{listed-cons}
use Rattle.parts.specs.{Owners.Owner, Owners.owner_of, Owners.begins_in, Owners.leads, Parts.Passed, Parts.Freed, Parts.is_some_freed, Parts.enters_queue}
use Rattle.law_parcels.specs.Sending.{goes_to}

-- BY THE PARTITION
no_row : (b : Bool) (now : Row) → (if b && false then now ∷ [] else []) ≡ []
no_row true now = refl
no_row false now = refl

-- a row that goes to a partition, out of those that go to others: where it goes at all its link begins here
one_row : (f : Row → Bool) (x y z w : Bool) (now : Row) → f now ≡ y → (z ≡ true → x ≡ true) → (y ≡ true → w ≡ false)
    → (if (x && y) && z then now ∷ [] else []) ≡ filter f (if not w && z then now ∷ [] else [])
one_row f x y false w now e h g = no_row (x && y) now ∙ sym (ap (filter f) (no_row (not w) now))
one_row f x true true w now e h g = let a = h refl in let b = g refl in rw (a, b, e) refl
one_row f x false true w now e h g =
    let a = h refl in elim (cases_Bool w) [ inl q ↦ rw (a, q) refl | inr q ↦ rw (a, q, e) refl ]

module _ (S : Setup) (own : Owner) (p q : ℕ) (other : eqb q p ≡ false) where
  abbrev there : Move → List Row
  there m = enters_queue (leads S own p q) m

  abbrev away : Move → List Row
  away m = enters_queue (λ (l : ℕ). not (eqb (owner_of S own l) p)) m

  -- a node of p puts rows into queues of links that begin there
  begins : (n l : ℕ) (x : Bool) → eqb (own n) p ≡ true → x ≡ true → (eqb (link_row S l).from n ≡ false → x ≡ false)
      → eqb (begins_in S own l) p ≡ true
  begins n l x mine e h =
      elim (cases_Bool (eqb (link_row S l).from n)) [
        | inl f ↦ ap (λ (k : ℕ). eqb (own k) p) (eqb-true (link_row S l).from n f) ∙ mine
        | inr f ↦ absurd (let z : true ≡ false = sym e ∙ h f in cc)
      ]

  one_way : (n : ℕ) → eqb (own n) p ≡ true → (m : Move) → ((l : ℕ) → eqb (link_row S l).from n ≡ false → touches l Queue m ≡ false)
      → there m ≡ filter (goes_to S own q) (away m)
  one_way n mine (Transfer a s k was now) h =
      let l = now.link in
      one_row (goes_to S own q) (eqb (begins_in S own l) p) (eqb (owner_of S own l) q) (on l Queue now) (eqb (owner_of S own l) p) now refl
      (λ e. begins n l (on l Queue now) mine e (λ f. (or_parts (same l Queue a s) (on l Queue now) (h l f)).1))
      (λ e. ap (λ (k : ℕ). eqb k p) (eqb-true (owner_of S own l) q e) ∙ other)
  one_way n mine _ h = refl

  all_ways : (n : ℕ) → eqb (own n) p ≡ true → (ms : List Move) → ((l : ℕ) → eqb (link_row S l).from n ≡ false → Untouched l Queue ms)
      → flat_map there ms ≡ filter (goes_to S own q) (flat_map away ms)
  all_ways n mine [] h = refl
  all_ways n mine (m ∷ ms) h =
      ap (λ (rows : List Row). rows ++ flat_map there ms) (one_way n mine m (λ l f. (h l f).0))
      ∙ ap (λ (rows : List Row). filter (goes_to S own q) (away m) ++ rows) (all_ways n mine ms (λ l f. (h l f).1))
      ∙ sym (filter-append (goes_to S own q) (away m) (flat_map away ms))

  -- of the nodes of p, in any world
  pub nodes_ways : (t : ℕ) (W : World) (ns : List ℕ)
      → flat_map there (flat_map (λ (n : ℕ). node_turns S t n W) (filter (λ (n : ℕ). eqb (own n) p) ns))
      ≡ filter (goes_to S own q) (flat_map away (flat_map (λ (n : ℕ). node_turns S t n W) (filter (λ (n : ℕ). eqb (own n) p) ns)))
  nodes_ways t W [] = refl
  nodes_ways t W (n ∷ ns) =
      let plan : ℕ → List Move = λ n. node_turns S t n W in
      let rest = flat_map plan (filter (λ (n : ℕ). eqb (own n) p) ns) in
      let more = nodes_ways t W ns in
      elim (cases_Bool (eqb (own n) p)) [
        | inl e ↦
            rw e (flat_map-append there (plan n) rest
            ∙ ap (λ (rows : List Row). rows ++ flat_map there rest) (all_ways n e (plan n) (λ l f. node_untouched S t n l Queue W f))
            ∙ ap (λ (rows : List Row). filter (goes_to S own q) (flat_map away (plan n)) ++ rows) more
            ∙ sym (ap (filter (goes_to S own q)) (flat_map-append away (plan n) rest)
            ∙ filter-append (goes_to S own q) (flat_map away (plan n)) (flat_map away rest)))
        | inr e ↦ rw e more
      ]

-- WITH THEIR RIDERS
-- a row with what is known of the elements of persons
abbrev pub with_elements : (ℕ → ℕ) → Row → Passed
with_elements f r = record { row = r; elements = map (λ (x : Rider). f x.person) r.vehicle.riders }

same_elements : (f g : ℕ → ℕ) (rs : List Rider) → ((j : ℕ) → 1 ≤ among_riders j rs → f j ≡ g j)
    → map (λ (x : Rider). f x.person) rs ≡ map (λ (x : Rider). g x.person) rs
same_elements f g [] h = refl
same_elements f g (x ∷ xs) h =
    let c = sum_by-cons (one_rider x.person) x xs in
    let e = eq-eqb x.person x.person refl in
    let d : one_rider x.person x ≡ 1 = (rw e refl) in
    let a = h x.person (omega arith) in
    let more = same_elements f g xs (λ j le. let k = sum_by-cons (one_rider j) x xs in h j (omega arith)) in
    ap (λ (n : ℕ). n ∷ map (λ (y : Rider). f y.person) xs) a ∙ ap (λ (ns : List ℕ). g x.person ∷ ns) more

-- rows of whose riders the same is known
pub same_passed : (f g : ℕ → ℕ) (rows : List Row) → ((j : ℕ) → 1 ≤ listed j rows → f j ≡ g j)
    → map (with_elements f) rows ≡ map (with_elements g) rows
same_passed f g [] h = refl
same_passed f g (r ∷ rs) h =
    let a = same_elements f g r.vehicle.riders (λ j le. let c = listed-cons j r rs in h j (omega arith)) in
    let more = same_passed f g rs (λ j le. let c = listed-cons j r rs in h j (omega arith)) in
    ap (λ (es : List ℕ). (let y : Passed = record { row = r; elements = es } in y) ∷ map (with_elements f) rs) a
    ∙ ap (λ (ys : List Passed). with_elements g r ∷ ys) more

-- FREED PLACES by the partition to which they are told
abbrev freed_row : (ℕ → ℕ) → ℕ → Freed
freed_row rows l = record { link = l; rows = rows l }

module _ (S : Setup) (own : Owner) (p q : ℕ) (other : eqb q p ≡ false) (rows : ℕ → ℕ) where
  abbrev over : ℕ → Bool
  over l = eqb (owner_of S own l) p && not (eqb (begins_in S own l) p)

  abbrev to_q : Freed → Bool
  to_q f = eqb (begins_in S own f.link) q

  goes : (l : ℕ) → leads S own q p l ≡ true → (over l ≡ true) × (to_q (freed_row rows l) ≡ true)
  goes l e =
      let g = and_parts (eqb (begins_in S own l) q) (eqb (owner_of S own l) p) e in
      let b : eqb (begins_in S own l) p ≡ false = ap (λ (k : ℕ). eqb k p) (eqb-true (begins_in S own l) q g.0) ∙ other in
      let o = g.1 in
      ((rw (o, b) refl), g.0)

  stays : (l : ℕ) → leads S own q p l ≡ false → over l ≡ true → to_q (freed_row rows l) ≡ false
  stays l e h =
      let o = (and_parts (eqb (owner_of S own l) p) (not (eqb (begins_in S own l) p)) h).0 in
      elim (cases_Bool (eqb (begins_in S own l) q)) [
        | inl f ↦ absurd (let z : true ≡ false = sym (rw (f, o) refl) ∙ e in cc)
        | inr f ↦ f
      ]

  pub freed_to : (ns : List ℕ)
      → filter is_some_freed (map (freed_row rows) (filter (leads S own q p) ns))
      ≡ filter to_q (filter is_some_freed (map (freed_row rows) (filter over ns)))
  freed_to [] = refl
  freed_to (n ∷ ns) =
      let more = freed_to ns in
      elim (cases_Bool (leads S own q p n)) [
        | inl e ↦
            let g = goes n e in
            let o = g.0 in
            let c = g.1 in
            elim (cases_Bool (is_some_freed (freed_row rows n))) [
              | inl f ↦ rw (e, o, f, c) (ap (λ (fs : List Freed). freed_row rows n ∷ fs) more)
              | inr f ↦ rw (e, o, f) more
            ]
        | inr e ↦
            elim (cases_Bool (over n)) [
              | inl o ↦
                  let c = stays n e o in
                  elim (cases_Bool (is_some_freed (freed_row rows n))) [ inl f ↦ rw (e, o, f, c) more | inr f ↦ rw (e, o, f) more ]
              | inr o ↦ rw (e, o) more
            ]
      ]
