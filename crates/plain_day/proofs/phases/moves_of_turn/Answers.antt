use Rattle.traffic.proofs.Common.{◌≡◌, ◌<◌, ℕ, ap, arith, length, sym, subst, count_of, person_plan, Phase}
use Rattle.traffic.specs.declared.world.Person.{Person}
use Rattle.events.specs.declared.event.Phase.TheVariants as phase
use Rattle.town.specs.{Setups.setup_of, Views.setup, declared.day_input.DayInput.DayInput}
use Rattle.person_moves.specs.Legs.{CanLeave}
use Rattle.law_in_range.proofs.Days.{can_leave, lands_there, leaves_there, departs_there, person_there}
use Rattle.plain_day.proofs.phases.moves_of_turn.Goals as goal

pub landing_moves-requires : goal.landing_moves-requires
landing_moves-requires c = lands_there c.args.day.now c.args.turn.number c.args.turn.phase c.in-A.is c.requires.there

pub person_of-requires : goal.person_of-requires
person_of-requires c = person_there c.args.day.now c.args.world.now c.args.turn.number c.requires.fit
    (lands_there c.args.day.now c.args.turn.number c.args.turn.phase c.in-A.is c.requires.there)

pub leaving_moves-requires-clause-there : goal.leaving_moves-requires-clause-there
leaving_moves-requires-clause-there c = leaves_there c.args.day.now c.args.turn.number c.args.turn.phase c.in-B1.is c.requires.there

pub person_of-requires-in-B1 : goal.person_of-requires-in-B1
person_of-requires-in-B1 c = person_there c.args.day.now c.args.world.now c.args.turn.number c.requires.fit
    (leaves_there c.args.day.now c.args.turn.number c.args.turn.phase c.in-B1.is c.requires.there)

pub departure_moves-requires : goal.departure_moves-requires
departure_moves-requires c = departs_there c.args.day.now c.args.turn.number c.args.turn.phase c.in-B2.is c.requires.there

link_there : (day : DayInput) (n : ℕ) (p : Phase) → p ≡ phase.D → n < count_of (setup day) p → n < length day.town.now.network.links
unfolding setup_of
link_there day n p e h =
    let same : count_of (setup day) p ≡ length day.town.now.network.links = ap (count_of (setup day)) e in
    omega (same, h, arith)

pub link_turn-requires-clause-there : goal.link_turn-requires-clause-there
link_turn-requires-clause-there c = link_there c.args.day.now c.args.turn.number c.args.turn.phase c.in-D.is c.requires.there

pub leaving_moves-requires-clause-leg : goal.leaving_moves-requires-clause-leg
leaving_moves-requires-clause-leg c =
    subst (λ (P : Person). CanLeave (person_plan (setup c.args.day.now) c.args.turn.number) P) (sym c.person_of-in-B1.ensures) (can_leave c.args.day.now c.args.world.now c.args.turn.number c.requires.fit)
