use Rattle.std.{proofs.Common.ℕ, proofs.Common.length, specs.Prelude.Bool}
use Rattle.part_places.specs.Taking.{Taking, AreTakenOf}
use Rattle.town.specs.Views.{setup}
use Rattle.part_seconds.specs.Freed.{heard_all, CanHearAll}
use Rattle.part_seconds.proofs.freed.hear_freed.Given as goal

abbrev pub invariant-loop-freed_places : goal.invariant-loop-freed_places
invariant-loop-freed_places l =
    (begins : ℕ → Bool) (t : ℕ) (T : Taking) → CanHearAll (setup l.day) begins t l.second l.yielded T
    → AreTakenOf begins (length (setup l.day).links) l.day.town.now.settings.end_second t T l.initial.places
    → AreTakenOf begins (length (setup l.day).links) l.day.town.now.settings.end_second t (heard_all (setup l.day) l.second l.yielded T)
    l.places
