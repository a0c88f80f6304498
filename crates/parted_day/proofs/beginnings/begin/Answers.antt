use Rattle.std.proofs.{Common.ℕ, Common.List, Common.◌∙◌, Common.ap, Common.length, Common.rules, lemmas.List.length-map}
use Rattle.town.specs.Views.{setup}
use Rattle.partition.specs.{Homes.home_of, Owned.owner_in}
use Rattle.part_persons.proofs.Beginning.{persons_of}
use Rattle.parted_day.proofs.Dawning.{area_begins}
use Rattle.parted_day.proofs.beginnings.begin.Goals as goal

pub new-requires-clause-homes : goal.new-requires-clause-homes
new-requires-clause-homes c =
    let run = c.args.run.now in
    let S = setup run.day.now in
    ap (λ (xs : List ℕ). length xs) run.own_homes ∙ length-map S.persons (home_of S (owner_in run.owner.now.of_node)) ∙ persons_of run.day.now

pub returns : goal.returns
returns c =
    area_begins c.args.run.now.day.now (owner_in c.args.run.now.owner.now.of_node) c.args.partition c.args.run.now.given c.len.result
    c.len-2.result _
    (c.in_ok-persons.ensures.world (owner_in c.args.run.now.owner.now.of_node) c.args.run.now.own_homes)
    c.in_ok-persons.ensures.fit (c.in_ok-persons.ensures.followed 0) c.in_ok-persons.ensures.wakes (λ s from to. c.in_ok-departures.ensures s to) (search rules) c.in_ok-lines.ensures
    c.in_ok-network.ensures (search rules) c.in_ok-queues.ensures
