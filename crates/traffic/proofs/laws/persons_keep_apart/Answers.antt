use Rattle.traffic.proofs.{Common.landing_turns, Common.leaving_turns, Common.person_of}
use Rattle.traffic.proofs.Persons.{other_person, landing_moves-of, leaving_moves-of, departure_keeps}
use Rattle.traffic.proofs.laws.persons_keep_apart.Goals as goal

pub returns : goal.returns
returns c = record {
  flights = λ S t i j W ne. other_person S t i j (landing_turns S t i W) W ne (landing_moves-of S t i (person_of i W));
  leaves = λ S t i j W ne. other_person S t i j (leaving_turns S t i W) W ne (leaving_moves-of S t i (person_of i W));
  departures = departure_keeps;
}
