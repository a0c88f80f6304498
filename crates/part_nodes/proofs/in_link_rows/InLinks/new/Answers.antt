use Rattle.std.proofs.Common.{◌∙◌, arith}
use Rattle.part_nodes.proofs.Into.{leads_within, town_links, town_into}
use Rattle.part_nodes.proofs.in_link_rows.InLinks.new.Goals as goal

pub of_list-requires-clause-table : goal.of_list-requires-clause-table
of_list-requires-clause-table c = c.requires ∙ town_links c.args.day.now

pub of_list-requires-clause-there : goal.of_list-requires-clause-there
of_list-requires-clause-there c = λ l lt. let h = leads_within c.args.day.now l lt in let e = c.len-nodes.ensures in omega arith

pub returns-clause-count : goal.returns-clause-count
returns-clause-count c =
    (town_into c.args.day.now c.len-nodes.result c.args.link_slots.now c.in_ok-in_links.in_links c.len-nodes.ensures c.in_ok-in_links.ensures).0

pub returns-clause-links : goal.returns-clause-links
returns-clause-links c =
    (town_into c.args.day.now c.len-nodes.result c.args.link_slots.now c.in_ok-in_links.in_links c.len-nodes.ensures c.in_ok-in_links.ensures).1
