use Rattle.std.proofs.Common.{refl}
use Rattle.parted_day.proofs.Standing.{stays}
use Rattle.parted_day.proofs.part.TownPartPart.absorb.Goals as goal

pub returns-clause-stands : goal.returns-clause-stands
returns-clause-stands c = stays c.args.self.now _ refl
