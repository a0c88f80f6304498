-- Whom the phases of persons and departures leave as he was.
use Rattle.traffic.proofs.Common.{◌≡◌, ◌≢◌, ℕ, ◌<◌, true, false, List, ◌∙◌, ap, refl, sym, subst, arith, inl, inr, cases_lt, true≢false}
use Rattle.traffic.proofs.Common.{length, get_or, get_or_past, eq-eqb, Option, None, Some, Setup, World, person_of, nobody, on}
use Rattle.traffic.specs.declared.world.Person.{Person}
use Rattle.calendar.specs.Waking.{is_woken}
use Rattle.law_sleeping.specs.Marks.{before_nodes}
use Rattle.part_persons.specs.Dues.{AreFollowed, person_due}
use Rattle.part_lines.proofs.Standing.{stays_early}

-- who is not looked at in second t is as before
not_due : (S : Setup) (end t i : ℕ) (persons : List Person) (wakes : List (Option ℕ)) → t < end → AreFollowed S end t persons wakes
    → is_woken t wakes i ≡ false → person_due S i (get_or persons i nobody) ≢ Some t
not_due S end t i persons wakes lt h off =
    elim (cases_lt i (length persons)) [
      | inl there ↦ λ e. (
          let w = h i t there (omega arith) lt e in
          let on : is_woken t wakes i ≡ true = rw w (eq-eqb t t refl) in
          absurd (true≢false (sym on ∙ off)))
      | inr past ↦ λ e. (
          let n = get_or_past persons i nobody past in
          let z : None ≡ Some t = sym (ap (person_due S i) n) ∙ e in
          absurd (cc))
    ]

pub others_stay : (S : Setup) (end t : ℕ) (W P : World) (wakes : List (Option ℕ)) → t < end → P.persons ≡ W.persons
    → AreFollowed S end t P.persons wakes
    → (i : ℕ) → is_woken t wakes i ≡ false → person_of i (before_nodes S t W) ≡ person_of i W
others_stay S end t W P wakes lt e h i off =
    stays_early S t i W (subst (λ (ps : List Person). person_due S i (get_or ps i nobody) ≢ Some t) e (not_due S end t i P.persons wakes lt h off))
