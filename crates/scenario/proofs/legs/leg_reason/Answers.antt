use Rattle.scenario.proofs.legs.leg_reason.Goals as goal

pub returns-in-Car : goal.returns-in-Car
returns-in-Car c = rw c.in-Car.is (c.car_reason.ensures _ _ _)
