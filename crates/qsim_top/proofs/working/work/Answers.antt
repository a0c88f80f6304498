use Rattle.std.proofs.Common.{refl}
use Rattle.command_line.specs.declared.commands.Command.TheVariants as command
use Rattle.scenario.specs.Views.{scenario_view}
use Rattle.qsim_top.specs.declared.answers.Status.TheVariants as status
use Rattle.qsim_top.proofs.{Ending.told_same, Worked.work_of, Worked.run_worked, Worked.check_worked, Worked.route_worked, Worked.grid_worked, Worked.uses_it}
use Rattle.qsim_top.specs.{Answer.report, Answer.route_answer, Texts.valid_line}
use Rattle.qsim_top.proofs.working.work.Goals as goal

pub returns-in-Run-clause-done : goal.returns-in-Run-clause-done
returns-in-Run-clause-done g c = run_worked c.args.command (scenario_view c.args.scenario) c.run.result _ _ c.in-Run.is c.run.ensures

pub returns-in-Run-clause-keeper : goal.returns-in-Run-clause-keeper
returns-in-Run-clause-keeper g c off = absurd (uses_it c.args.command command.Run c.in-Run.is refl off)

pub returns-in-Resume-clause-done : goal.returns-in-Resume-clause-done
returns-in-Resume-clause-done g c =
    work_of c.args.command command.Resume (scenario_view c.args.scenario) c.resume.result _ _ c.in-Resume.is c.resume.ensures

pub returns-in-Resume-clause-keeper : goal.returns-in-Resume-clause-keeper
returns-in-Resume-clause-keeper g c off = absurd (uses_it c.args.command command.Resume c.in-Resume.is refl off)

pub returns-in-Check-clause-done : goal.returns-in-Check-clause-done
returns-in-Check-clause-done g c =
    let S = scenario_view c.args.scenario in
    let told = report status.Done (valid_line S) in
    check_worked c.args.command S c.carry_out.result _ _ c.in-Check.is
    (c.carry_out.ensures.done told (told_same c.check.result told c.check.ensures))

pub returns-in-Route-clause-done : goal.returns-in-Route-clause-done
returns-in-Route-clause-done g c =
    let S = scenario_view c.args.scenario in
    let from = c.in-Route.from in
    let to = c.in-Route.to in
    let second = c.in-Route.second in
    let told = route_answer from to second S in
    route_worked c.args.command from to second S c.carry_out-in-Route.result _ _ c.in-Route.is
    (c.carry_out-in-Route.ensures.done told (told_same c.route-answer.result told c.route-answer.ensures))

pub returns-in-Generate-clause-done : goal.returns-in-Generate-clause-done
returns-in-Generate-clause-done g c =
    let size = c.in-Generate.size in
    let seed = c.in-Generate.seed in
    grid_worked c.args.command size seed c.in-Generate.last_iteration (scenario_view c.args.scenario) c.run_grid.result _ _ c.in-Generate.is
    (c.run_grid.ensures.done size seed c.grid_line-line.ensures)
