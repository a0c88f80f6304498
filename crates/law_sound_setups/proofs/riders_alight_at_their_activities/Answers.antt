use Rattle.law_sound_setups.proofs.Alighting.{riders_alight}
use Rattle.law_sound_setups.proofs.riders_alight_at_their_activities.Goals as goal

pub returns : goal.returns
returns c = riders_alight
