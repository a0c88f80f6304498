use Rattle.std.proofs.Common.{◌∙◌}
use Rattle.parted_day.proofs.part.TownPartPart.borders.Goals as goal

pub returns : goal.returns
returns c = c.in_ok-rows.ensures.items ∙ c.neighbours_of.ensures
