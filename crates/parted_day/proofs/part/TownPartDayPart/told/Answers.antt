use Rattle.std.proofs.Common.{◌∙◌}
use Rattle.parted_day.proofs.part.TownPartDayPart.told.Goals as goal

pub returns : goal.returns
returns c = c.deref.ensures.value ∙ c.requires.at.holds.events.last c.requires.streams c.requires.some
