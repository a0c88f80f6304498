use Rattle.qsim_top.specs.declared.answers.Status.TheVariants as status
use Rattle.qsim_top.{proofs.Ending.told_same, specs.Answer.report, specs.Texts.refused_line}
use Rattle.qsim_top.proofs.top.refuse.Goals as goal

pub returns-clause-done : goal.returns-clause-done
returns-clause-done g c =
    let told = report status.Refused (refused_line c.args.fault) in
    c.carry_out.ensures.done told (told_same c.refused.result told c.refused.ensures)
