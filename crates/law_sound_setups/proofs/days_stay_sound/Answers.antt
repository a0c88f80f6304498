use Rattle.law_sound_setups.proofs.Laws.{start_sound, second_sound, day_sound, phases_sound}
use Rattle.law_sound_setups.proofs.days_stay_sound.Goals as goal

pub returns : goal.returns
returns c = assumption (start_sound, second_sound, day_sound, phases_sound)
