use Rattle.plans.proofs.leg_steps.numbered_leg.Goals as goal

pub returns-in-Car-clause-leg : goal.returns-in-Car-clause-leg
returns-in-Car-clause-leg c = rw c.in-Car.is (c.car_leg.ensures.leg _ _)
