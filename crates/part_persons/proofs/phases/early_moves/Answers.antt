use Rattle.traffic.{proofs.Common.ap, proofs.Common.sym, proofs.Common.subst, proofs.Common.person_plan, specs.declared.world.Person.Person}
use Rattle.town.specs.Views.{setup}
use Rattle.person_moves.specs.Legs.{CanLeave}
use Rattle.law_in_range.proofs.Days.{can_leave, lands_there, leaves_there, departs_there, person_there}
use Rattle.part_persons.specs.Phases.{phase_of}
use Rattle.part_persons.proofs.phases.early_moves.Goals as goal

pub landing_moves-requires : goal.landing_moves-requires
landing_moves-requires c = lands_there c.args.day.now c.args.number _ (ap phase_of c.in-Land.is) c.requires.there

pub person_of-requires : goal.person_of-requires
person_of-requires c = person_there c.args.day.now c.args.world.now c.args.number c.requires.fit
    (lands_there c.args.day.now c.args.number _ (ap phase_of c.in-Land.is) c.requires.there)

pub leaving_moves-requires-clause-there : goal.leaving_moves-requires-clause-there
leaving_moves-requires-clause-there c = leaves_there c.args.day.now c.args.number _ (ap phase_of c.in-Leave.is) c.requires.there

pub person_of-requires-in-Leave : goal.person_of-requires-in-Leave
person_of-requires-in-Leave c = person_there c.args.day.now c.args.world.now c.args.number c.requires.fit
    (leaves_there c.args.day.now c.args.number _ (ap phase_of c.in-Leave.is) c.requires.there)

pub departure_moves-requires : goal.departure_moves-requires
departure_moves-requires c = departs_there c.args.day.now c.args.number _ (ap phase_of c.in-Start.is) c.requires.there

pub leaving_moves-requires-clause-leg : goal.leaving_moves-requires-clause-leg
leaving_moves-requires-clause-leg c =
    subst (λ (P : Person). CanLeave (person_plan (setup c.args.day.now) c.args.number) P) (sym c.person_of-in-Leave.ensures) (can_leave c.args.day.now c.args.world.now c.args.number c.requires.fit)
