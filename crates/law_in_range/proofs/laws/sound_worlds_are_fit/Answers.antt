use Rattle.law_in_range.proofs.{Sounding.sound_fit, Towns.town_sound_fit}
use Rattle.law_in_range.proofs.laws.sound_worlds_are_fit.Goals as goal

pub returns : goal.returns
returns c = assumption (sound_fit, town_sound_fit)
