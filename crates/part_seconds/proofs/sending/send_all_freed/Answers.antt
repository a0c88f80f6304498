use Rattle.std.proofs.Common.{[], ◌∷◌}
use Rattle.partition.specs.Owned.{owner_in}
use Rattle.town.specs.Views.{setup}
use Rattle.part_seconds.specs.Sending.{freed_place, with_freed, more_freed}
use Rattle.part_seconds.proofs.Places.{more_next, more_none, no_freed, next_freed}
use Rattle.part_seconds.proofs.sending.send_all_freed.Goals as goal

pub loop-freed_places-init : goal.loop-freed_places-init
loop-freed_places-init c = more_none _ c.args.parcels.now (λ k x. no_freed x)

pub loop-freed_places-preserved : goal.loop-freed_places-preserved
loop-freed_places-preserved c =
    let S = setup c.args.exits.now.day.now in
    let own = owner_in c.args.exits.now.owner.now.of_node in
    let borders = c.args.exits.now.borders.now in
    let f = c.in-Some.freed_places in
    let before = c.loop-freed_places.yielded in
    more_next (freed_place S own borders f) (with_freed (f ∷ [])) (more_freed S own borders before) _ c.args.parcels.now c.loop-freed_places.parcels
    _ c.loop-freed_places.invariant c.in_ok-send_freed.ensures (λ k x. next_freed S own borders before f k x)
