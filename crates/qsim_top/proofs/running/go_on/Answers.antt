use Rattle.std.proofs.Common.{List, true, refl, sym, subst}
use Rattle.plan_memory.specs.Memories.{MemoryRows}
use Rattle.scenario.specs.Views.{scenario_view}
use Rattle.iterations.specs.Runs.{CanRun}
use Rattle.qsim_top.{proofs.Ending.ended_as, proofs.Resumed.can_go_on, specs.Answer.run_rows_of, specs.Answer.resumed_answer}
use Rattle.qsim_top.proofs.running.go_on.Goals as goal

pub iterate-outcome-requires-after_bounds : goal.iterate-outcome-requires-after_bounds
iterate-outcome-requires-after_bounds g c κs lives =
    let R = run_rows_of true (scenario_view c.args.scenario) in
    subst (λ (memories : List MemoryRows). CanRun R memories) (sym c.memories.view_is)
    (can_go_on R c.args.remembered.memories c.args.scenario.learning_in_range c.requires.fit)

pub returns : goal.returns
returns g c =
    let remembered = c.args.remembered in
    ended_as true (resumed_answer (scenario_view c.args.scenario) remembered.iteration remembered.memories) c.status_after.result _ _
    c.iterate-outcome.result c.status_after.ensures refl (λ bad. cc) (rw c.memories.view_is at c.iterate-outcome.ensures.performed)
