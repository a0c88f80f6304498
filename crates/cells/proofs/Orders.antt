-- The order in which neighbours were ready, and the slots that a port has out.
use Rattle.std.proofs.Common.{◌≡◌, ◌≢◌, ℕ, zero, suc, ◌-◌, ◌<◌, ◌≤◌, Bool, true, false, cond, ◌||◌, eqb, List, [], ◌∷◌, ◌++◌, length, sum_by, Option, None, sym}
use Rattle.std.proofs.Common.{ap, ◌∙◌, refl, true≢false, eq-eqb, ne_eqb, le-leb, append_assoc, arith}
use Rattle.std.proofs.lemmas.{Bool.lt-leb, List.Sums.sum_by-cons}
use mathlib.Core.Logic.{dite}
use native.Mathlib.Decide.{ℕ_discrete}
use Rattle.cells.specs.Ports.{border_at, handover_at, ready_in, slots_of, filled_slots_of, all_slots_of, AreApart}
use Rattle.cells.specs.{Rings.slot, Rule.contains, declared.board.Handover.Handover, declared.board.Handover.TheVariants.Awaited}
use Rattle.cells.specs.declared.{board.Handover.TheVariants.Arrived, board.Handover.TheVariants.Taken, board.Handover.TheVariants.Put, table.Border.Border}

pub has_last : (ks : List ℕ) (k j : ℕ) → j ≡ k → contains (ks ++ k ∷ []) j ≡ true
has_last [] k j is = ap (λ b. b || false) (eq-eqb j k is)
has_last (x ∷ ks) k j is = or_true (eqb j x) (contains (ks ++ k ∷ []) j) (has_last ks k j is)
  where
    or_true : (a b : Bool) → b ≡ true → (a || b) ≡ true
    or_true true b e = refl
    or_true false b e = e

pub has_more : (ks : List ℕ) (k j : ℕ) → j ≢ k → contains (ks ++ k ∷ []) j ≡ contains ks j
has_more [] k j ne = ap (λ b. b || false) (ne_eqb j k ne)
has_more (x ∷ ks) k j ne = ap (λ b. eqb j x || b) (has_more ks k j ne)

pub has_self : (ks : List ℕ) (k : ℕ) → contains (k ∷ ks) k ≡ true
has_self ks k = ap (λ b. b || contains ks k) (eq-eqb k k refl)

pub fresh_last : (ks : List ℕ) (k : ℕ) → AreApart ks → contains ks k ≡ false → AreApart (ks ++ k ∷ [])
fresh_last [] k f un = (refl, tt)
fresh_last (x ∷ ks) k f un = dite (ℕ_discrete x k)
    (λ is. absurd (true≢false (sym (ap (λ b. b || contains ks k) (eq-eqb k x (sym is))) ∙ un)))
    (λ ne. (has_more ks k x ne ∙ f.0, fresh_last ks k f.1 (sym (ap (λ b. b || contains ks k) (ne_eqb k x (λ e. ne (sym e)))) ∙ un)))

pub fresh_popped : (ks : List ℕ) (k : ℕ) → AreApart (ks ++ k ∷ []) → AreApart ks × (contains ks k ≡ false)
fresh_popped [] k f = (tt, refl)
fresh_popped (x ∷ ks) k f = let r = fresh_popped ks k f.1 in
    let ne : k ≢ x = λ e. true≢false (sym (has_last ks k x (sym e)) ∙ f.0) in
    ((sym (has_more ks k x (λ e. ne (sym e))) ∙ f.0, r.0), ap (λ b. b || contains ks k) (ne_eqb k x ne) ∙ r.1)

module _ {P : Type 0} where
  one : (h : Handover P) → ready_in h ≤ 1
  one Awaited = omega arith
  one (Arrived x) = omega arith
  one Taken = omega arith
  one (Put y) = omega arith

  pub at_most : (hs : List (Handover P)) → sum_by ready_in hs ≤ length hs
  at_most [] = omega arith
  at_most (h ∷ hs) = let i = at_most hs in let o = one h in let c = sum_by-cons ready_in h hs in omega arith

  pub free_room : (hs : List (Handover P)) (k : ℕ) → k < length hs → handover_at hs k ≡ Awaited → sum_by ready_in hs < length hs
  free_room [] k lt is = absurd (omega arith)
  free_room (h ∷ hs) zero lt is = let i = at_most hs in let o : ready_in h ≡ 0 = ap ready_in is in let c = sum_by-cons ready_in h hs in
      omega arith
  free_room (h ∷ hs) (suc k) lt is = let i = free_room hs k (omega arith) is in let o = one h in let c = sum_by-cons ready_in h hs in
      omega arith

  pub block_late : (r : Border) (t : ℕ) → r.lag ≤ t → slots_of {P = P} r t ≡ (slot r.inward (t - r.lag), None) ∷ (
    slot r.outward t,
    None,
  ) ∷ []
  block_late r t h = ap (λ b. cond b ((slot r.inward (t - r.lag), None) ∷ (slot r.outward t, None) ∷ []) ((
    slot r.outward t,
    None,
  ) ∷ [])) (le-leb r.lag t h)

  pub block_early : (r : Border) (t : ℕ) → t < r.lag → slots_of {P = P} r t ≡ (slot r.outward t, None) ∷ []
  block_early r t h = ap (λ b. cond b ((slot r.inward (t - r.lag), None) ∷ (slot r.outward t, None) ∷ []) ((
    slot r.outward t,
    None,
  ) ∷ [])) (lt-leb r.lag t h)

  pub filled_late : (r : Border) (t : ℕ) (y : Option P) → r.lag ≤ t
      → filled_slots_of r t y ≡ (slot r.inward (t - r.lag), None) ∷ (slot r.outward t, y) ∷ []
  filled_late r t y h = ap (λ b. cond b ((slot r.inward (t - r.lag), None) ∷ (slot r.outward t, y) ∷ []) ((
    slot r.outward t,
    y,
  ) ∷ [])) (le-leb r.lag t h)

  pub filled_early : (r : Border) (t : ℕ) (y : Option P) → t < r.lag → filled_slots_of r t y ≡ (slot r.outward t, y) ∷ []
  filled_early r t y h = ap (λ b. cond b ((slot r.inward (t - r.lag), None) ∷ (slot r.outward t, y) ∷ []) ((
    slot r.outward t,
    y,
  ) ∷ [])) (lt-leb r.lag t h)

  pub blocks_last : (borders : List Border) (t : ℕ) (ks : List ℕ) (k : ℕ) (c : List (ℕ × Option P))
      → all_slots_of borders t (ks ++ k ∷ []) c ≡ slots_of (border_at borders k) t ++ all_slots_of borders t ks c
  blocks_last borders t [] k c = refl
  blocks_last borders t (x ∷ ks) k c = blocks_last borders t ks k (slots_of (border_at borders x) t ++ c)

  pub blocks_then : (borders : List Border) (t : ℕ) (ks : List ℕ) (c d : List (ℕ × Option P))
      → all_slots_of borders t ks c ++ d ≡ all_slots_of borders t ks (c ++ d)
  blocks_then borders t [] c d = refl
  blocks_then borders t (x ∷ ks) c d = blocks_then borders t ks (slots_of (border_at borders x) t ++ c) d
      ∙ ap (λ z. all_slots_of borders t ks z) (append_assoc (slots_of (border_at borders x) t) c d)
