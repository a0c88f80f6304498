use Rattle.scenario.specs.Views.{scenario_view}
use Rattle.qsim_top.{proofs.Grids.grid_done, proofs.Grids.grid_failed, specs.Texts.grid_line}
use Rattle.qsim_top.proofs.running.run_grid.Goals as goal

pub returns-in-Ok-clause-done : goal.returns-in-Ok-clause-done
returns-in-Ok-clause-done g c = λ size seed is.
    grid_done size seed (scenario_view c.args.scenario) c.status_after.result _ _ _ c.iterate_all-outcome.result c.status_after.ensures
    (c.in-Ok.ensures.performed (grid_line size seed) is) c.iterate_all-outcome.ensures.performed

pub returns-in-Err-clause-done : goal.returns-in-Err-clause-done
returns-in-Err-clause-done g c = λ size seed is.
    grid_failed size seed (scenario_view c.args.scenario) c.status_after-in-Err.result _ _ c.in-Err.error c.status_after-in-Err.ensures
    (c.in-Err.ensures.performed (grid_line size seed) is)
