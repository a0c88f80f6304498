use Rattle.std.{proofs.Common.◌≡◌, proofs.Common.◌++◌, proofs.Common.length, proofs.Common.drop, proofs.Common.true, specs.List.list_all}
use Rattle.rows.specs.Plan.{is_leg}
use Rattle.walks.specs.{Alike.TakesAlike, Arrivals.Arrivals}
use Rattle.router.specs.Legs.{each_leg}
use Rattle.car_routes.specs.{Found.AreNext, Plans.routed_leg, Wanted.Pairs, Wanted.wanted_in}
use Rattle.car_routes.proofs.legs.routed_legs.Given as goal

-- the legs before this place have their routes, and those of the others are still to be taken
abbrev pub invariant-loop-place : goal.invariant-loop-place
invariant-loop-place l = record {
  legs : (arrive : Arrivals) (rest : Pairs) → TakesAlike arrive
      → AreNext l.adjacency arrive l.initial.found (wanted_in l.adjacency.ends l.acts l.legs ++ rest)
      → (l.new.items ++ each_leg (routed_leg l.adjacency arrive) (drop l.place l.acts) (drop l.place l.legs)
      ≡ each_leg (routed_leg l.adjacency arrive) l.acts l.legs)
      × AreNext l.adjacency arrive l.found (wanted_in l.adjacency.ends (drop l.place l.acts) (drop l.place l.legs) ++ rest);
  sound : list_all is_leg l.legs ≡ true → list_all is_leg l.new.items ≡ true;
  count : length l.new.items ≡ l.place;
  nodes : length l.found ≡ length l.initial.found;
}
