use Rattle.std.proofs.Common.{◌∙◌}
use Rattle.qsim_top.proofs.Ending.{carried}
use Rattle.qsim_top.proofs.outcomes.do_answer.Goals as goal

pub returns-clause-done : goal.returns-clause-done
returns-clause-done g c =
    let did = c.perform-outcome.ensures in
    carried c.args.answer c.status_after.result c.deref.result.now _ _ c.perform-outcome.result c.status_after.ensures
    (c.deref.ensures.value ∙ c.effects.view_is) c.requires.sound did.done did.part did.write_later did.keep_later did.write_failed did.told did.only_write
