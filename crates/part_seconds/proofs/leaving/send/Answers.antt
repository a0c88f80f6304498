use Rattle.std.proofs.Common.{◌<◌, ◌∙◌, List, ap, arith, length}
use Rattle.partition.specs.Owned.{owner_in}
use Rattle.town.specs.Views.{setup}
use Rattle.traffic.specs.declared.world.Person.{Person}
use Rattle.part_seconds.proofs.{Right.right_parcel, Sent.day_sends, Sent.day_goes}
use Rattle.part_seconds.specs.{Contents.parcel_of, Sending.parcel_for}
use Rattle.part_seconds.proofs.leaving.send.Goals as goal

pub returns-clause-count : goal.returns-clause-count
returns-clause-count c = c.in_ok-fill.ensures.count ∙ c.requires.count

pub returns-clause-parcels : goal.returns-clause-parcels
returns-clause-parcels c = λ k lt.
    let x = c.args.exits.now in
    let S = setup x.day.now in
    let own = owner_in x.owner.now.of_node in
    let p = x.partition in
    let t = c.args.second in
    let borders = x.borders.now in
    let es = c.args.leaving.entering.items in
    let ns = c.args.leaving.looked.items in
    let fs = c.args.leaving.freed.items in
    let many = c.requires.count in
    let there : k < length c.args.parcels.now = omega arith in
    ap (parcel_of S t) (c.in_ok-fill.ensures.each k there)
    ∙ ap (λ (ps : List Person). parcel_of S t (parcel_for S own p borders t ps es ns fs k))
    c.requires.persons
    ∙ right_parcel S own p t k borders c.requires.others lt es ns fs
    (day_sends x.day.now own x.owner.now.parts p t c.requires.given x.owner.now.owned) c.requires.entering c.requires.looked c.requires.same
    c.requires.freed

pub returns-clause-persons : goal.returns-clause-persons
returns-clause-persons c =
    let x = c.args.exits.now in
    let own = owner_in x.owner.now.of_node in
    day_goes x.day.now own x.owner.now.parts x.partition c.args.second c.requires.given x.owner.now.owned c.args.leaving.entering.items
    c.args.leaving.looked.items _ c.args.persons.now _ c.requires.persons c.requires.entering c.requires.same c.in_ok-fill.ensures.gone
    c.let_all_go.ensures
