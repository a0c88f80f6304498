use Rattle.std.proofs.{Common.ℕ, Common.◌<◌, Common.◌≤◌, Common.◌+◌, lemmas.List.Elements.All-from_recursion, lemmas.List.Elements.recursion_from_All}
use Rattle.traffic.specs.{Day.world_at, Rows.holes_at}
use Rattle.law_sleeping.proofs.{Waking.old_holes, Whole.day_holes}
use Rattle.law_sleeping.proofs.seconds.old_holes_do_not_count.Goals as goal

pub returns-clause-before : goal.returns-clause-before
returns-clause-before c = λ S t m lt. All-from_recursion (λ (s : ℕ). s < t) (holes_at m (world_at S t)) (day_holes S t m lt)

pub returns-clause-over : goal.returns-clause-over
returns-clause-over c = λ u h old holes e. old_holes u h old holes (recursion_from_All (λ (s : ℕ). s + h ≤ u) old e)
