-- What a partition holds of a day is of persons and links that are there.
use Rattle.traffic.proofs.Common.{◌≡◌, ◌≢◌, ℕ, zero, suc, ◌+◌, ◌-◌, ◌<◌, ◌≤◌, List, [], ◌∷◌, ◌∙◌, ap, refl, arith, inl, inr, cases_Bool, true, false, length}
use Rattle.traffic.proofs.Common.{take, map, flat_map, filter, eqb, ne_eqb, nat_lt, nat_tests, recursion_from_All, None, Setup, World, at, on, rank, holes_at}
use Rattle.traffic.proofs.Common.{hole_of, numbers, world_at, world_start, link_turns}
use Rattle.traffic.proofs.{Each.each_all, Each.each_filter, Each.each_take, Each.each_weaker, Links.link-at}
use Rattle.traffic.specs.declared.stage.Stage.{Stage, TheVariants.Queue, TheVariants.Buffer, TheVariants.Wait, TheVariants.Bay}
use Rattle.traffic.specs.declared.world.{Hole.Hole, Row.Row}
use Rattle.std.specs.List.{AllByRecursion as Each}
use Rattle.law_in_range.proofs.Seconds.{start_fit, from_fit}
use Rattle.law_in_range.specs.{Rows.Counts, Rows.IsFitRow, Rows.IsFitWorld, Setups.IsFitSetup}
use Rattle.parts.specs.Owners.{Owner, owner_of, begins_in, lag}
use Rattle.parts.specs.Parts.{Held, freed, went, went_last, late_rows, known_list, lasting, up, unheard, ready}
use Rattle.law_partitions.proofs.{Early.mid, Early.went_is, Late.freed-append, Late.freed_other, Second.C_world, Second.D_moves-are}
use Rattle.law_own_worlds.{proofs.Making.filter_none, proofs.Making.both_false, specs.Making.IsKnown}

-- PAST THE LAST LINK
pub fit_at : (z : Counts) (S : Setup) (t : ℕ) → IsFitSetup z S → IsFitWorld z (world_at S t)
fit_at z S t f = from_fit z S (world_start S) t f (start_fit z S f)

none_at : (z : Counts) (l : ℕ) (s : Stage) (W : World) → IsFitWorld z W → z.links ≤ l → at l s W ≡ []
none_at z l s W fit ge =
    filter_none (on l s) W.rows
    (each_weaker (IsFitRow z) (λ (r : Row). on l s r ≡ false)
    (λ r h. (
    let lt = h.link in
    let ne : r.link ≢ l = omega arith in
    let e : eqb r.link l ≡ false = ne_eqb r.link l ne in
    both_false (eqb (rank r.stage) (rank s)) (eqb r.link l) (λ q. absurd (cc))))
    W.rows (recursion_from_All (IsFitRow z) W.rows fit.rows))

no_holes : (z : Counts) (m : ℕ) (W : World) → IsFitWorld z W → z.links ≤ m → holes_at m W ≡ []
no_holes z m W fit ge =
    ap (map (λ (x : Hole). x.second))
    (filter_none (λ (x : Hole). eqb x.link m) W.holes
    (each_weaker (λ (x : Hole). x.link < z.links) (λ (x : Hole). eqb x.link m ≡ false)
    (λ x lt. (let ne : x.link ≢ m = omega arith in ne_eqb x.link m ne)) W.holes
    (recursion_from_All (λ (x : Hole). x.link < z.links) W.holes fit.holes)))

none_freed : (S : Setup) (t m : ℕ) (U : World) (k c : ℕ) → k + c ≤ m → freed m (flat_map (λ l. link_turns S t l U) (numbers k c)) ≡ 0
none_freed S t m U k zero le = refl
none_freed S t m U k (suc c) le =
    let ne : k ≢ m = omega arith in
    let later = flat_map (λ l. link_turns S t l U) (numbers (k + 1) c) in
    let a = freed_other m k (link_turns S t k U) ne (link-at S t k U) in
    let b = none_freed S t m U (k + 1) c (omega arith) in
    let e = freed-append m (link_turns S t k U) later in
    omega arith

none_went : (S : Setup) (m t : ℕ) → length S.links ≤ m → went S m t ≡ 0
none_went S m t ge =
    let U = C_world S t (mid S t) in
    went_is S m t ∙ ap (freed m) (D_moves-are S t U) ∙ none_freed S t m U 0 (length S.links) (omega arith)

none_went_last : (S : Setup) (m t k : ℕ) → length S.links ≤ m → went_last S m t k ≡ 0
unfolding went_last
none_went_last S m zero k ge = refl
none_went_last S m (suc t) zero ge = refl
none_went_last S m (suc t) (suc k) ge =
    let a = none_went_last S m t k ge in
    let b = none_went S m t ge in
    omega arith

-- THE LISTS
take_none : (k : ℕ) → take {A = Row} k [] ≡ []
take_none zero = refl
take_none (suc k) = refl

take_short : (k : ℕ) (xs : List Row) → length (take k xs) ≤ length xs
take_short zero xs = omega arith
take_short (suc k) [] = omega arith
take_short (suc k) (x ∷ xs) = let i = take_short k xs in omega arith

each_on : (l : ℕ) (s : Stage) (rows : List Row) → Each (λ (r : Row). on l s r ≡ true) (filter (on l s) rows)
each_on l s rows =
    each_filter (λ (r : Row). Unit {0}) (λ (r : Row). on l s r ≡ true) (on l s) (λ r e u. e) rows (each_all (λ (r : Row). Unit {0}) (λ r. tt) rows)

known_on : (S : Setup) (own : Owner) (k : ℕ → ℕ → ℕ) (t l : ℕ) (s : Stage) → Each (λ (r : Row). on l s r ≡ true) (known_list S own k t l s)
known_on S own k t l Queue =
    let rows = at l Queue (world_at S t) in
    each_take (λ (r : Row). on l Queue r ≡ true) (length rows - length (late_rows S own k t l)) rows (each_on l Queue (world_at S t).rows)
known_on S own k t l Buffer = each_on l Buffer (world_at S t).rows
known_on S own k t l Wait = each_on l Wait (world_at S t).rows
known_on S own k t l Bay = each_on l Bay (world_at S t).rows

known_none : (S : Setup) (own : Owner) (k : ℕ → ℕ → ℕ) (t l : ℕ) (s : Stage) → at l s (world_at S t) ≡ [] → known_list S own k t l s ≡ []
known_none S own k t l Queue e =
    ap (λ (rows : List Row). take (length rows - length (late_rows S own k t l)) rows) e ∙ take_none (0 - length (late_rows S own k t l))
known_none S own k t l Buffer e = e
known_none S own k t l Wait e = e
known_none S own k t l Bay e = e

-- whichever seconds of others it has not heard of
module _ (S : Setup) (own : Owner) (k : ℕ → ℕ → ℕ) (p t : ℕ) (z : Counts) (fit : IsFitSetup z S) where
  abbrev H : Held
  H = unheard S own k p t

  past : (m : ℕ) → length S.links ≤ m → z.links ≤ m
  past m ge = let n = fit.links in omega arith

  rows_on_links : (l : ℕ) (s : Stage) → Each (λ (r : Row). on l s r ≡ true) (H.list l s)
  unfolding unheard
  rows_on_links l s = elim (cases_Bool (eqb (owner_of S own l) p)) [ inl e ↦ rw e (known_on S own k t l s) | inr e ↦ rw e tt ]

  no_rows : (l : ℕ) (s : Stage) → length S.links ≤ l → H.list l s ≡ []
  unfolding unheard
  no_rows l s ge =
      elim (cases_Bool (eqb (owner_of S own l) p)) [
        | inl e ↦ rw e (known_none S own k t l s (none_at z l s (world_at S t) (fit_at z S t fit) (past l ge)))
        | inr e ↦ rw e refl
      ]

  no_places : (m : ℕ) → length S.links ≤ m → H.rows m ≡ 0
  unfolding unheard
  no_places m ge =
      let a = ap (λ (rs : List Row). length rs) (none_at z m Queue (world_at S t) (fit_at z S t fit) (past m ge)) in
      let b = none_went_last S m t (up S own k m) ge in
      elim (cases_Bool (eqb (begins_in S own m) p)) [ inl e ↦ rw e (omega arith) | inr e ↦ rw e refl ]

  none_left : (m : ℕ) → length S.links ≤ m → H.holes m ≡ []
  unfolding unheard
  none_left m ge =
      let u = t - up S own k m in
      let a = no_holes z m (world_at S u) (fit_at z S u fit) (past m ge) in
      elim (cases_Bool (eqb (begins_in S own m) p)) [ inl e ↦ rw e (ap (lasting t (hole_of S m)) a) | inr e ↦ rw e refl ]

  nobody_past : (i : ℕ) → length S.persons ≤ i → H.person i ≡ None
  unfolding unheard
  nobody_past i ge =
      let e : nat_lt i (length S.persons) ≡ false = grind (arith, nat_tests) in
      rw e refl

  enough : (m : ℕ) → begins_in S own m ≡ p → length (H.list m Queue) ≤ H.rows m
  unfolding unheard
  enough m b =
      let rows = at m Queue (world_at S t) in
      let a = take_short (length rows - length (late_rows S own k t m)) rows in
      let e : eqb (begins_in S own m) p ≡ true = eq_test (begins_in S own m) p b in
      elim (cases_Bool (eqb (owner_of S own m) p)) [ inl f ↦ rw (e, f) (omega arith) | inr f ↦ rw (e, f) (omega arith) ]
    where
      eq_test : (x y : ℕ) → x ≡ y → eqb x y ≡ true
      eq_test x y q = grind (arith, nat_tests)

  pub unheard_known : IsKnown S own p H
  unheard_known = record {
    on = rows_on_links;
    links = no_rows;
    rows = no_places;
    holes = none_left;
    persons = nobody_past;
    queue = enough;
  }

pub ready_known : (S : Setup) (own : Owner) (p t : ℕ) (z : Counts) → IsFitSetup z S → IsKnown S own p (ready S own p t)
ready_known S own p t z fit = unheard_known S own (λ q x. lag S own q x - 1) p t z fit
