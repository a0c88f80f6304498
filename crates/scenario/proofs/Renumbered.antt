-- Legs with the town's numbers stay legs.
use Rattle.scenario.proofs.Common.{◌≡◌, List, map, refl, [], ◌∷◌, list_all, is_leg, Leg, leg_in_town}
use Rattle.scenario.specs.Legs.{Numbers}
use Rattle.rows.specs.declared.plan.Leg.TheVariants as leg

still_leg : (N : Numbers) (l : Leg) → is_leg (leg_in_town N l) ≡ is_leg l
still_leg N (leg.Car route) = refl
still_leg N leg = refl

pub still_legs : (N : Numbers) (legs : List Leg) → list_all is_leg (map (leg_in_town N) legs) ≡ list_all is_leg legs
still_legs N [] = refl
still_legs N (leg ∷ legs) = rw (still_leg N leg, still_legs N legs)
