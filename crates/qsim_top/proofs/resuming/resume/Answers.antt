use Rattle.std.proofs.Common.{None, Some}
use Rattle.scenario.specs.Views.{scenario_view}
use Rattle.qsim_top.specs.declared.answers.Status.TheVariants as status
use Rattle.qsim_top.proofs.{Ending.told_same, Resumed.held_as, Resumed.nothing_resumed, Resumed.worked_behind, Resumed.keeper_failed, Resumed.keeper_wanting}
use Rattle.qsim_top.specs.{Answer.report, Held.held_view, Texts.nothing_kept_line}
use Rattle.qsim_top.proofs.resuming.resume.Goals as goal

pub returns-in-Ok-Some : goal.returns-in-Ok-Some
returns-in-Ok-Some g c =
    let held = c.in-Ok-Some.held in
    let told = g.K.Keeper.kept c.args.keeper.now in
    worked_behind (scenario_view c.args.scenario) (Some (held_view held)) c.resume_from.result _ _ _ _ _ _ _ c.in-Ok-Some.field-0
    (held_as told c.in-Ok-Some.field-0 (Some held) c.in-Ok-Some.field-0-is c.in-Ok-Some.ensures.held) c.in-Ok-Some.ensures.ok
    c.in-Ok-Some.ensures.cause c.resume_from.ensures

pub returns-in-Ok-None : goal.returns-in-Ok-None
returns-in-Ok-None g c =
    let S = scenario_view c.args.scenario in
    let told = report status.NothingKept nothing_kept_line in
    worked_behind S None c.carry_out.result _ _ _ _ _ _ _ c.in-Ok-None.field-0
    (held_as (g.K.Keeper.kept c.args.keeper.now) c.in-Ok-None.field-0 None c.in-Ok-None.field-0-is c.in-Ok-None.ensures.held)
    c.in-Ok-None.ensures.ok c.in-Ok-None.ensures.cause
    (nothing_resumed S c.carry_out.result _ _ (c.carry_out.ensures.done told (told_same c.nothing_kept.result told c.nothing_kept.ensures)))

pub returns-in-Err-Failed : goal.returns-in-Err-Failed
returns-in-Err-Failed g c =
    keeper_failed (scenario_view c.args.scenario) _ _ _ _ _ _ c.in-Err-Failed.field-0 c.in-Err-Failed.field-0-is c.in-Err-Failed.ensures.err
    c.in-Err-Failed.ensures.cause

pub returns-in-Err-NoMemory : goal.returns-in-Err-NoMemory
returns-in-Err-NoMemory g c =
    keeper_wanting (scenario_view c.args.scenario) _ _ _ _ _ _ c.in-Err-NoMemory.field-0 c.in-Err-NoMemory.ensures.err
    c.in-Err-NoMemory.ensures.cause
