use Rattle.plans.specs.Read.{file_rows_of}
use Rattle.scenario.{proofs.Composed.fitting_plans, specs.FilesToScenario.read_view}
use Rattle.scenario.proofs.assembling.planned_or_fault.Goals as goal

pub settled_or_fault-requires : goal.settled_or_fault-requires
settled_or_fault-requires g c =
    fitting_plans _ _ _ (read_view c.args.read) (file_rows_of c.in-Ok.plans) c.requires.read c.in-Ok.ensures.sound c.in-Ok.ensures.starts

pub returns-in-Ok : goal.returns-in-Ok
returns-in-Ok g c = rw (← c.in-Ok.ensures.rows) c.settled_or_fault.ensures
