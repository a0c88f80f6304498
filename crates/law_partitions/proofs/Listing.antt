-- On which link a person rides.
use Rattle.traffic.proofs.Common.{◌≡◌, ℕ, List, ap, [], ◌∷◌, arith, true, ◌+◌, Bool, inl, inr, ◌≤◌, false, eqb, cases_Bool, eqb-true, and_parts, cases_lt}
use Rattle.traffic.proofs.Common.{lt-ltb, nat_tests, filter, ◌&&◌, nat_lt, World, at, on, rank, Setup, listed, IsListed, listed_in}
use Rattle.traffic.specs.declared.{stage.Stage.Stage, world.Place.Place, world.Place.TheVariants.At}
use Rattle.traffic.specs.declared.world.{Place.TheVariants.Teleporting, Place.TheVariants.Waiting, Place.TheVariants.Riding, Place.TheVariants.Aborted, Row.Row}
use Rattle.law_one_place.proofs.Places.{rides}
use Rattle.parts.specs.Owners.{link_of_rider, link_at}
use Rattle.law_partitions.proofs.Tells.{listed-cons}

pub listed-filter : (i : ℕ) (p : Row → Bool) (rows : List Row) → listed i (filter p rows) ≤ listed i rows
listed-filter i p [] = omega arith
listed-filter i p (r ∷ rs) =
    let a = listed-cons i r rs in
    let b = listed-filter i p rs in
    elim (cases_Bool (p r)) [ inl e ↦ rw e (let c = listed-cons i r (filter p rs) in omega arith) | inr e ↦ rw e (omega arith) ]

-- two lists that have no row in common
pub listed-two : (i : ℕ) (p q : Row → Bool) → ((r : Row) → p r ≡ true → q r ≡ false) → (rows : List Row) → listed i (filter p rows) + listed i (filter q rows) ≤ listed i rows
listed-two i p q apart [] = omega arith
listed-two i p q apart (r ∷ rs) =
    let a = listed-cons i r rs in
    let b = listed-two i p q apart rs in
    let cp = listed-cons i r (filter p rs) in
    let cq = listed-cons i r (filter q rs) in
    elim (cases_Bool (p r)) [
      | inl e ↦ let f = apart r e in rw (e, f) (omega arith)
      | inr e ↦ elim (cases_Bool (q r)) [ inl f ↦ rw (e, f) (omega arith) | inr f ↦ rw (e, f) (omega arith) ]
    ]

-- who is listed once, and that in a row of link l, rides on link l
rides_on : (i l : ℕ) (p : Row → Bool) → ((r : Row) → p r ≡ true → r.link ≡ l) → (rows : List Row) → listed i rows ≤ 1 → 1 ≤ listed i (filter p rows) → link_of_rider i rows ≡ l
unfolding link_of_rider
rides_on i l p here [] few some = absurd (omega arith)
rides_on i l p here (r ∷ rs) few some =
    let a = listed-cons i r rs in
    let cp = listed-cons i r (filter p rs) in
    let le = listed-filter i p rs in
    elim (cases_lt 0 (rides i r.vehicle)) [
      | inl lt ↦
          let e : nat_lt 0 (listed_in i r) ≡ true = lt-ltb 0 (listed_in i r) lt in
          rw e (elim (cases_Bool (p r)) [
            | inl f ↦ here r f
            | inr f ↦ let some2 : 1 ≤ listed i (filter p rs) = simp f at some in absurd (omega arith)
          ])
      | inr ge ↦
          let z : listed_in i r ≡ 0 = omega arith in
          let e : nat_lt 0 (listed_in i r) ≡ false = ap (nat_lt 0) z in
          let some3 : 1 ≤ listed i (filter p rs) = elim (cases_Bool (p r)) [
            | inl f ↦ let some2 : 1 ≤ listed i (r ∷ filter p rs) = simp f at some in omega arith
            | inr f ↦ let some2 : 1 ≤ listed i (filter p rs) = simp f at some in some2
          ] in
          rw e (rides_on i l p here rs (omega arith) some3)
    ]

pub on_link : (l : ℕ) (s : Stage) (r : Row) → on l s r ≡ true → r.link ≡ l
on_link l s r e = eqb-true r.link l (and_parts (eqb (rank r.stage) (rank s)) (eqb r.link l) e).1

pub apart_lists : (l : ℕ) (s : Stage) (a : ℕ) (z : Stage) → (eqb (rank s) (rank z) && eqb l a) ≡ false → (r : Row) → on l s r ≡ true → on a z r ≡ false
apart_lists l s a z e r h = grind (arith, nat_tests)

-- a person of another place is listed on no link of p, and one of p on no other link
pub listed_home : (S : Setup) (W : World) (l : ℕ) (s : Stage) (i element : ℕ) (pl : Place) → IsListed i W.rows pl → 1 ≤ listed i (at l s W) → link_at S W i element pl ≡ l
listed_home S W l s i element (Riding v) h some = let e = h.0 in rides_on i l (on l s) (on_link l s) W.rows (omega arith) some
listed_home S W l s i element (At end) h some = let le = listed-filter i (on l s) W.rows in absurd (omega arith)
listed_home S W l s i element (Teleporting start) h some = let le = listed-filter i (on l s) W.rows in absurd (omega arith)
listed_home S W l s i element (Waiting stop since) h some = let le = listed-filter i (on l s) W.rows in absurd (omega arith)
listed_home S W l s i element (Aborted a) h some = let le = listed-filter i (on l s) W.rows in absurd (omega arith)
