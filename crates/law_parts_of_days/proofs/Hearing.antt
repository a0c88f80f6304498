-- The persons of a part hear what the turns of others tell.
use Rattle.traffic.proofs.Common.{◌≡◌, ℕ, List, [], ◌∙◌, ap, sym, length, flat_map, World, told, run, persons_after}
use Rattle.traffic.specs.declared.{moves.Move.Move, moves.Occurrence.Occurrence, world.Person.Person}
use Rattle.law_in_range.specs.{Rows.IsFitWorld, Setups.counts_in}
use Rattle.town.specs.{Views.setup, declared.day_input.DayInput.DayInput}
use Rattle.part_persons.{proofs.Joining.fit_as, proofs.Told.run_persons, specs.Dues.AreFollowedIn, specs.declared.persons.Persons.Persons}
use Rattle.law_parts_of_days.specs.Persons.{PersonsStand}

-- once they heard what moves of a second told, they stand for the world after these moves
pub heard_stand : (day : DayInput) (t u : ℕ) (ms : List Move) (said : List Occurrence) (V : World) (P Q : Persons)
    → IsFitWorld (counts_in day) (run (setup day) t ms V) → said ≡ flat_map told ms
    → Q.world ≡ record P.world { persons = persons_after (setup day) t said P.world.persons }
    → (AreFollowedIn day u P.world.persons P.wakes → AreFollowedIn day u Q.world.persons Q.wakes)
    → length Q.wakes ≡ length Q.world.persons → PersonsStand day u P V → PersonsStand day u Q (run (setup day) t ms V)
heard_stand day t u ms said V P Q fit s e followed looks h =
    let S = setup day in
    let now : Q.world.persons ≡ (run S t ms V).persons
    = ap (λ (W : World). W.persons) e ∙ ap (λ (es : List Occurrence). persons_after S t es P.world.persons) s
    ∙ ap (λ (ps : List Person). persons_after S t (flat_map told ms) ps) h.persons ∙ sym (run_persons S t ms V) in
    let none : Q.world.rows ≡ [] = ap (λ (W : World). W.rows) e ∙ h.rows in
    record {
      persons = now;
      rows = none;
      fit = fit_as (counts_in day) P.world (run S t ms V) Q.world h.fit fit none now (ap (λ (W : World). W.credits) e) (ap (λ (W : World). W.holes) e);
      followed = followed h.followed;
      looks = looks;
    }
