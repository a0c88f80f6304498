use Rattle.std.proofs.{Common.◌++◌, Common.List, Common.sym, Common.◌∙◌, Common.ap, Common.arith, lemmas.List.append-nil}
use Rattle.rows.specs.declared.plan.Leg.{Leg}
use Rattle.travel_times.specs.Times.{arrivals}
use Rattle.router.proofs.Walking.{none_left}
use Rattle.replanning.specs.Legs.{rerouted_leg}
use Rattle.replanning.proofs.legs.rerouted_legs.Goals as goal

pub returns-clause-legs : goal.returns-clause-legs
returns-clause-legs c =
    let none = none_left (rerouted_leg c.args.adjacency.now (arrivals c.args.times.now)) c.args.acts.now c.args.legs.now c.loop-place.place
    (omega arith) in
    sym (append-nil c.loop-place.new.items) ∙ ap (λ (t : List Leg). c.loop-place.new.items ++ t) (sym none) ∙ c.loop-place.invariant.0
