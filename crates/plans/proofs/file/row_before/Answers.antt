use Rattle.std.proofs.Common.{arith}
use Rattle.plans.proofs.Answering.{before_there}
use Rattle.plans.proofs.file.row_before.Goals as goal

pub returns : goal.returns
returns c = before_there c.args.rows.now c.args.place c.index-rows-place.result (omega arith) c.requires c.index-rows-place.is
