use Rattle.std.{proofs.Common.◌≡◌, specs.List.flat_map}
use Rattle.car_routes.proofs.Finding.{WayList}
use Rattle.std.proofs.Common.{List}
use Rattle.car_routes.proofs.searches.joined.Given as goal

abbrev pub invariant-loop-part : goal.invariant-loop-part
invariant-loop-part l = l.all.items ≡ flat_map (λ (part : List WayList). part) l.yielded
