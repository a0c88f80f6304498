use Rattle.std.{proofs.Common.◌≡◌, proofs.Common.◌++◌, proofs.Common.length, proofs.Common.drop, proofs.Common.true, specs.List.list_all}
use Rattle.rows.specs.Plan.{is_leg}
use Rattle.travel_times.specs.Times.{arrivals}
use Rattle.replanning.specs.Legs.{rerouted_legs}
use Rattle.replanning.proofs.legs.rerouted_legs.Given as goal

abbrev pub invariant-loop-place : goal.invariant-loop-place
invariant-loop-place l = (l.new.items ++ rerouted_legs l.adjacency (arrivals l.times) (drop l.place l.acts) (drop l.place l.legs)
    ≡ rerouted_legs l.adjacency (arrivals l.times) l.acts l.legs)
    × (list_all is_leg l.legs ≡ true → list_all is_leg l.new.items ≡ true)
    × (length l.new.items ≡ l.place)
