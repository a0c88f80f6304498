use Rattle.law_matches_plans.proofs.{Days.has_some_day, Days.stuck_last, Sound.has_sound_day}
use Rattle.law_matches_plans.proofs.trips.events_come_in_turn.Goals as goal

pub returns : goal.returns
returns c = record {
  turn = λ S i p lt. (has_some_day S i p lt).0;
  places = λ S i f g lt. (has_sound_day S i f g lt).0;
  last = search stuck_last;
}
