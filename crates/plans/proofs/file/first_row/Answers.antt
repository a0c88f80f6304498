use Rattle.plans.proofs.Answering.{first_told, first_able, first_done}
use Rattle.plans.proofs.file.first_row.Goals as goal

pub returns-in-Some : goal.returns-in-Some
returns-in-Some c =
    first_told c.args.links.now c.args.ends.now c.index-rows-0.result c.new-nobody.result _ c.new-nobody.ensures
    c.args.rows.now c.requires c.index-rows-0.is c.row_behind.ensures _ _ c.in-Some.ensures c.fault.ensures

pub with_first-requires-clause-person : goal.with_first-requires-clause-person
with_first-requires-clause-person c = (first_able c.args.links.now c.args.ends.now c.index-rows-0.result c.new-nobody.result _ c.new-nobody.ensures c.in_default.ensures).person

pub with_first-requires-clause-kind : goal.with_first-requires-clause-kind
with_first-requires-clause-kind c = (first_able c.args.links.now c.args.ends.now c.index-rows-0.result c.new-nobody.result _ c.new-nobody.ensures c.in_default.ensures).kind

pub with_first-requires-clause-found : goal.with_first-requires-clause-found
with_first-requires-clause-found c =
    rw c.in-Ok.ensures.link (first_able c.args.links.now c.args.ends.now c.index-rows-0.result c.new-nobody.result _ c.new-nobody.ensures c.in_default.ensures).found

pub returns-in-Ok-with_first : goal.returns-in-Ok-with_first
returns-in-Ok-with_first c =
    first_done c.args.links.now c.args.ends.now c.index-rows-0.result c.new-nobody.result _ c.new-nobody.ensures
    c.args.rows.now c.requires c.index-rows-0.is c.row_behind.ensures _ c.in_default.ensures c.in-Ok-with_first.ensures
