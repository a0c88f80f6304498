use Rattle.records.proofs.{ByNames.by_names, Common.List, Common.ap, Common.ℕ, Common.◌∙◌, Common.arith, Common.with_name, InTurn.read_none, InTurn.read_more}
use Rattle.records.{proofs.InTurn.read_fault, proofs.InTurn.read_all, proofs.InTurn.read_count, specs.Tables.table_lists}
use Rattle.records.proofs.table_read.read_body.Goals as goal

pub loop-place-init : goal.loop-place-init
loop-place-init g c =
    let R = g.R.RowReader in
    read_none 0 (R.value c.args.reader.now) (by_names (R.reason c.args.reader.now)) c.args.rows.now _ _ c.new-names.ensures c.new-values.ensures.items

pub loop-place-preserved : goal.loop-place-preserved
loop-place-preserved g c =
    let R = g.R.RowReader in
    let loop = c.loop-place in
    read_more 0 (R.value c.args.reader.now) (by_names (R.reason c.args.reader.now)) c.args.rows.now loop.place loop.names _ loop.values.items _ c.index-rows-place.result c.in-Ok.value
    loop.invariant c.loop-place-test.true c.index-rows-place.is c.in-Ok.ensures.row c.in-Ok.ensures.fresh
    (c.in-Ok-add_row.ensures.names ∙ ap (λ (name : List ℕ). with_name loop.names name) c.field.ensures) c.in-Ok-add_row.ensures.rows

pub returns-in-Err : goal.returns-in-Err
returns-in-Err g c =
    let R = g.R.RowReader in
    let loop = c.loop-place in
    read_fault table_lists _ 0 (R.value c.args.reader.now) (by_names (R.reason c.args.reader.now)) c.args.rows.now loop.place loop.names loop.values.items c.index-rows-place.result c.in-Err.reason _
    loop.invariant c.loop-place-test.true c.index-rows-place.is c.in-Err.ensures.row c.fault.ensures

pub returns : goal.returns
returns g c =
    let R = g.R.RowReader in
    let loop = c.loop-place in
    let all = read_all 0 (R.value c.args.reader.now) (by_names (R.reason c.args.reader.now)) c.args.rows.now loop.place loop.names loop.values.items loop.invariant (omega arith) in
    (all.0, cc (all.1, all.2))

pub invariant_of-result : goal.invariant_of-result
invariant_of-result g c =
    let R = g.R.RowReader in
    let loop = c.loop-place in
    let count = read_count 0 (R.value c.args.reader.now) (by_names (R.reason c.args.reader.now)) c.args.rows.now loop.place loop.names loop.values.items loop.invariant (omega arith) in
    omega (arith, count.0, count.1)
