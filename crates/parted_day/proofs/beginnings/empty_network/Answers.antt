use Rattle.std.{proofs.Common.ap, proofs.Common.◌∙◌, proofs.Common.rules, specs.Prelude.map, specs.Prelude.length, specs.Prelude.◌==◌}
use Rattle.law_parts_of_days.proofs.Beginning.{links_of}
use Rattle.partition.specs.Owned.{owner_in}
use Rattle.parts.specs.Owners.{owner_of}
use Rattle.town.specs.Views.{setup}
use Rattle.part_places.specs.Taking.{begins_here}
use Rattle.parted_day.{proofs.Dawning.network_begins, proofs.Own.are_links, proofs.Own.begins_among, specs.Empty.empty_link}
use Rattle.parted_day.proofs.beginnings.empty_network.Goals as goal

pub empty_links-requires : goal.empty_links-requires
empty_links-requires c =
    let run = c.args.run.now in
    let S = setup run.day.now in
    let own = owner_in run.owner.now.of_node in
    are_links (λ l. owner_of S own l == c.args.partition) (length S.links) (length run.day.now.town.now.network.links)
    c.numbers_at-ends.result.now (c.numbers_at-ends.ensures ∙ run.own_ends c.args.partition) (links_of run.day.now)

pub new-requires : goal.new-requires
new-requires c =
    let run = c.args.run.now in
    let S = setup run.day.now in
    are_links (begins_here S (owner_in run.owner.now.of_node) c.args.partition) (length S.links) (length run.day.now.town.now.network.links)
    c.numbers_at-starts.result.now (c.numbers_at-starts.ensures ∙ run.own_starts c.args.partition) (links_of run.day.now)

pub returns : goal.returns
returns c =
    let run = c.args.run.now in
    let day = run.day.now in
    let S = setup day in
    let own = owner_in run.owner.now.of_node in
    let p = c.args.partition in
    network_begins day own p run.given c.len-2.result c.len.result _
    (c.in_ok-links.ensures ∙ ap (map (empty_link S)) (c.numbers_at-ends.ensures ∙ run.own_ends p))
    (c.in_ok-places.ensures (begins_here S own p) day.town.now.settings.end_second
    (begins_among S own p c.numbers_at-starts.result.now (c.numbers_at-starts.ensures ∙ run.own_starts p)))
    (search rules) c.in_ok-link_wakes.ensures (search rules) c.in_ok-node_wakes.ensures
