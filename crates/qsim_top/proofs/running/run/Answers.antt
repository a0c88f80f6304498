use Rattle.std.proofs.Common.{true, refl}
use Rattle.scenario.specs.Views.{scenario_view}
use Rattle.qsim_top.{proofs.Ending.ended_as, specs.Answer.run_answer}
use Rattle.qsim_top.proofs.running.run.Goals as goal

pub returns : goal.returns
returns g c =
    ended_as true (run_answer (scenario_view c.args.scenario)) c.status_after.result _ _ c.iterate_all-outcome.result c.status_after.ensures refl
    (λ bad. cc) c.iterate_all-outcome.ensures.performed
