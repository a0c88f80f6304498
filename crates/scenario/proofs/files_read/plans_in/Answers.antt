use Rattle.std.proofs.Common.{refl}
use Rattle.plans.specs.Values.{plans_fault, file_rows}
use Rattle.scenario.proofs.Told.{told_in}
use Rattle.scenario.proofs.files_read.plans_in.Goals as goal

pub returns-in-Ok-clause-read : goal.returns-in-Ok-clause-read
returns-in-Ok-clause-read c =
    let bytes = c.in-Ok.bytes.now in
    told_in _ _ _ _ _ bytes (plans_fault c.args.links.now c.args.ends.now bytes) (file_rows c.args.links.now bytes) c.read_plans.result c.with_file.result
    c.with_file.ensures c.in-Ok.ensures.ok c.read_plans.ensures.read refl refl
