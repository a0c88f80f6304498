use Rattle.std.proofs.{Common.sym, Common.None, Common.Some, lemmas.List.append-nil}
use Rattle.settings.proofs.NumberedLemmas.{numbered_more}
use Rattle.settings.proofs.numbered.numbered_tables.Goals as goal

pub loop-table-preserved-in-Continue-1 : goal.loop-table-preserved-in-Continue-1
loop-table-preserved-in-Continue-1 c =
    numbered_more c.args.kinds.now c.loop-table.yielded c.in-Some.table (Some c.in-Some-numbered.table) c.loop-table.rows.items c.push.new.self.items
    c.in-Some-numbered.ensures c.loop-table.invariant c.in_ok-push.ensures.items

pub loop-table-preserved : goal.loop-table-preserved
loop-table-preserved c =
    numbered_more c.args.kinds.now c.loop-table.yielded c.in-Some.table None c.loop-table.rows.items c.loop-table.rows.items
    c.in_default.ensures c.loop-table.invariant (sym (append-nil c.loop-table.rows.items))
