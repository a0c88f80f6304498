use Rattle.std.proofs.Common.{rules}
use Rattle.plans.{proofs.Answering.next_told, proofs.Answering.next_able, proofs.Answering.next_read, specs.Read.progress_of}
use Rattle.plans.proofs.file.next_row.Goals as goal

pub returns-in-Some : goal.returns-in-Some
returns-in-Some c =
    next_told c.args.links.now c.args.ends.now c.args.rows.now c.args.place (progress_of c.args.read) c.index-rows-place.result c.len-legs.result _ _
    c.requires.read c.requires.within c.index-rows-place.is (search rules) c.row_before-before.ensures c.row_behind.ensures _ _ c.in-Some.ensures
    c.fault.ensures

pub with_row-requires-clause-able : goal.with_row-requires-clause-able
with_row-requires-clause-able c =
    next_able c.args.links.now c.args.ends.now c.args.rows.now c.args.place (progress_of c.args.read) c.index-rows-place.result c.len-legs.result _ _
    c.requires.read c.requires.within c.index-rows-place.is (search rules) c.row_before-before.ensures c.row_behind.ensures c.in_default.ensures

pub returns-in-Ok-with_row : goal.returns-in-Ok-with_row
returns-in-Ok-with_row c =
    next_read c.args.links.now c.args.ends.now c.args.rows.now c.args.place (progress_of c.args.read) c.index-rows-place.result c.len-legs.result _ _
    c.requires.read c.requires.within c.index-rows-place.is (search rules) c.row_before-before.ensures c.row_behind.ensures c.in_default.ensures
    (progress_of c.in-Ok-with_row.read) c.in-Ok-with_row.ensures.act c.in-Ok-with_row.ensures.leg
