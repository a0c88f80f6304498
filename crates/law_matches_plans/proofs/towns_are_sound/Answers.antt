use Rattle.town.specs.{Setups.setup_of, Views.setup}
use Rattle.law_sound_setups.proofs.Laws.{day_sound}
use Rattle.law_matches_plans.proofs.Towns.{rows_sound, rows_consistent, town_sound, town_consistent}
use Rattle.law_matches_plans.proofs.towns_are_sound.Goals as goal

pub returns : goal.returns
returns c = record {
  rows = rows_sound;
  rows_consistent = rows_consistent;
  days_of_rows = λ T chosen k t town h. day_sound (setup_of T chosen k) t (rows_sound T chosen k town h);
  setups = town_sound;
  consistent = town_consistent;
  days = λ day t h. day_sound (setup day) t (town_sound day h);
}
