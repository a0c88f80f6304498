use Rattle.std.proofs.Common.{◌∙◌}
use Rattle.iterations.proofs.Outside.{one_then, first_failed, written}
use Rattle.iterations.proofs.iterating.save_and_report.Goals as goal

pub returns-in-Ok-clause-performed : goal.returns-in-Ok-clause-performed
returns-in-Ok-clause-performed g c =
    one_then _ _ _ _ _ _ _ c.in-Ok.ensures.performed (written _ _ _ _ _ (rw c.deref.ensures.value at c.write_line.ensures.performed))

pub returns-in-Ok-clause-keeper : goal.returns-in-Ok-clause-keeper
returns-in-Ok-clause-keeper g c off = c.write_line.ensures.keeper ∙ c.in-Ok.ensures.keeper off

pub returns-in-Err-clause-performed : goal.returns-in-Err-clause-performed
returns-in-Err-clause-performed g c = first_failed _ _ _ _ _ c.in-Err.ensures.performed

pub returns-in-Err-clause-keeper : goal.returns-in-Err-clause-keeper
returns-in-Err-clause-keeper g c off = c.in-Err.ensures.keeper off
