use Rattle.std.proofs.Common.{◌≡◌, Err, refl}
use Rattle.edge_files.proofs.Worlds.{part_nothing}
use Rattle.scenario.specs.declared.faults.Stop.TheVariants as stop
use Rattle.scenario.specs.Views.{scenario_view}
use Rattle.qsim_top.specs.declared.answers.Status.TheVariants as status
use Rattle.qsim_top.specs.declared.reading.NoScenario.TheVariants as no_scenario
use Rattle.qsim_top.proofs.Worked.{answered, refused, refused_of_work, stopped_at, unkept_by}
use Rattle.qsim_top.proofs.top.do_work.Goals as goal

pub returns-in-Ok-clause-acts : goal.returns-in-Ok-clause-acts
returns-in-Ok-clause-acts g c = (
  λ texts kept a files held is.
      let read = c.in-Ok.ensures.scenario texts files in
      answered c.args.command texts (scenario_view c.in-Ok.scenario) c.work.result _ _ read.0 read.1 c.work.ensures.done kept a (held read.0) is,
  c.work.ensures.done.of_work,
)

pub returns-in-Ok-clause-unkept : goal.returns-in-Ok-clause-unkept
returns-in-Ok-clause-unkept g c = unkept_by c.args.command c.work.result c.work.ensures.done.of_work

pub returns-in-Err-Stopped-Fault-clause-acts : goal.returns-in-Err-Stopped-Fault-clause-acts
returns-in-Err-Stopped-Fault-clause-acts g c =
    let fault = c.in-Err-Stopped-Fault.fault in
    let same : c.scenario_for.result ≡ Err (no_scenario.Stopped (stop.Fault fault)) = cc in (
      λ texts kept a files held is.
          refused c.args.command texts fault c.refuse.result _ _
          (stopped_at c.scenario_for.result fault texts same (c.scenario_for.ensures.scenario texts files)) c.refuse.ensures.done kept a is,
      refused_of_work c.args.command status.Refused c.refuse.result refl c.refuse.ensures.done.ends,
    )

pub returns-in-Err-Stopped-Fault-clause-unkept : goal.returns-in-Err-Stopped-Fault-clause-unkept
returns-in-Err-Stopped-Fault-clause-unkept g c =
    unkept_by c.args.command c.refuse.result (refused_of_work c.args.command status.Refused c.refuse.result refl c.refuse.ensures.done.ends)

pub returns-in-Err-Stopped-NoMemory-clause-acts : goal.returns-in-Err-Stopped-NoMemory-clause-acts
returns-in-Err-Stopped-NoMemory-clause-acts g c = (
  λ texts kept a files held is. part_nothing _ _,
  refl,
)
