use Rattle.std.proofs.Common.{◌∙◌}
use Rattle.parted_day.proofs.neighbours.neighbours_of.Goals as goal

pub returns : goal.returns
returns c = c.borders_at.ensures ∙ c.args.run.now.near c.args.partition c.requires
