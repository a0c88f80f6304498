use Rattle.std.{proofs.Common.◌∙◌, proofs.Common.◌++◌, proofs.Common.List, proofs.Common.ap, specs.List.flat_map, specs.Prelude.Some}
use Rattle.town.specs.Views.{setup}
use Rattle.law_partitions.specs.Alone.{person_in}
use Rattle.node_move.specs.declared.crossings.Entering.{Entering}
use Rattle.part_seconds.proofs.Coming.{come_next, comes_of, entered_of}
use Rattle.part_seconds.specs.{Arriving.all_riding, Arriving.teleporting_in, Contents.parcel_of}
use Rattle.part_seconds.proofs.arriving.arrive.Goals as goal

pub returns-clause-persons : goal.returns-clause-persons
returns-clause-persons c =
    let S = setup c.args.day.now in
    let s = c.args.second in
    let x = c.args.contents in
    come_next c.args.day.now (λ i. all_riding i x.vehicles) (λ i. flat_map (teleporting_in i s) x.teleported)
    (λ i. person_in i s (Some (parcel_of S s x))) c.args.persons.now c.bring_vehicles.new.persons c.bring_teleported.new.persons c.in_ok-bring_vehicles.ensures.persons
    c.in_ok-bring_teleported.ensures (λ i. comes_of S s i s x.vehicles x.teleported)

pub returns-clause-entering : goal.returns-clause-entering
returns-clause-entering c =
    c.in_ok-bring_vehicles.ensures.entering
    ∙ ap (λ (xs : List Entering). c.args.entering.now.items ++ xs) (entered_of (setup c.args.day.now) c.args.second c.args.contents.vehicles)
