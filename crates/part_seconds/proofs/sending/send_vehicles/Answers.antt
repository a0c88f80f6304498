use Rattle.std.proofs.Common.{◌∙◌, ◌++◌, [], ◌∷◌, ℕ, List, ap, sym, append-nil}
use Rattle.partition.specs.Owned.{owner_in}
use Rattle.town.specs.Views.{setup}
use Rattle.part_seconds.proofs.{Lists.next_flat, Places.more_next, Places.more_none, Places.no_vehicles, Places.next_vehicles}
use Rattle.part_seconds.specs.Sending.{vehicle_place, moved_of, with_vehicles, more_vehicles, riders_of}
use Rattle.part_seconds.proofs.sending.send_vehicles.Goals as goal

pub loop-vehicle-init : goal.loop-vehicle-init
loop-vehicle-init c = record {
  parcels = more_none _ c.args.parcels.now (λ k x. no_vehicles x);
  gone = sym (append-nil c.args.gone.now.items);
}

pub loop-vehicle-preserved : goal.loop-vehicle-preserved
loop-vehicle-preserved c =
    let S = setup c.args.exits.now.day.now in
    let own = owner_in c.args.exits.now.owner.now.of_node in
    let borders = c.args.exits.now.borders.now in
    let persons = c.args.persons.now in
    let e = c.in-Some.vehicle in
    let before = c.loop-vehicle.yielded in
    let was = c.loop-vehicle.invariant in
    let one = c.in_ok-send_vehicle.ensures in
    record {
      parcels =
          more_next (vehicle_place S own borders e) (with_vehicles (moved_of persons e ∷ [])) (more_vehicles S own borders persons before) _
          c.args.parcels.now c.loop-vehicle.parcels _ was.parcels one.parcels
          (λ k x. next_vehicles S own borders persons before e k x);
      gone = one.gone ∙ ap (λ (xs : List ℕ). xs ++ riders_of e) was.gone ∙ next_flat riders_of c.args.gone.now.items before e;
    }
