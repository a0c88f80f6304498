use Rattle.std.proofs.Common.{List, Some, subst}
use Rattle.edge_files.specs.declared.keeping.KeptRow.{KeptRow}
use Rattle.keep.specs.Fitting.{IsForeignAt}
use Rattle.scenario.specs.Views.{scenario_view}
use Rattle.qsim_top.specs.declared.answers.Status.TheVariants as status
use Rattle.qsim_top.proofs.{Ending.told_same, Resumed.resumed_by, Resumed.foreign_by, Resumed.foreign_read, Resumed.wanting_resumed}
use Rattle.qsim_top.specs.{Answer.report, Held.held_view, Texts.foreign_line}
use Rattle.qsim_top.proofs.resuming.resume_from.Goals as goal

pub returns-in-Ok : goal.returns-in-Ok
returns-in-Ok g c =
    let read = rw c.deref.ensures.value at c.in-Ok.ensures.read in
    resumed_by (scenario_view c.args.scenario) (held_view c.args.held) c.in-Ok.memories c.go_on.result _ _ read.0 read.1 c.go_on.ensures

pub returns-in-Err-Foreign : goal.returns-in-Err-Foreign
returns-in-Err-Foreign g c =
    let S = scenario_view c.args.scenario in
    let row = c.in-Err-Foreign.row in
    let told = report status.Foreign (foreign_line row) in
    foreign_by S (held_view c.args.held) row c.carry_out.result _ _
    (subst (λ (rows : List KeptRow). IsForeignAt S.town rows row) c.deref.ensures.value
    (foreign_read S.town c.deref.result.now c.in-Err-Foreign.field-0 row c.in-Err-Foreign.field-0-is c.in-Err-Foreign.ensures.read))
    (c.carry_out.ensures.done told (told_same c.foreign.result told c.foreign.ensures))

pub returns-in-Err-NoMemory : goal.returns-in-Err-NoMemory
returns-in-Err-NoMemory g c = wanting_resumed (scenario_view c.args.scenario) (Some (held_view c.args.held)) _
