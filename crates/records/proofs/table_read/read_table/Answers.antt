use Rattle.records.proofs.Common.{List, ap, ◌∙◌, map, drop, fields_of, ByteRecord, body_of, Row}
use Rattle.records.proofs.ByNames.{table_told, head_told}
use Rattle.records.proofs.table_read.read_table.Goals as goal

pub returns-in-Ok : goal.returns-in-Ok
unfolding body_of
returns-in-Ok g c =
    let R = g.R.RowReader in
    table_told (R.reason c.args.reader.now) (R.value c.args.reader.now) (R.head c.args.reader.now c.args.bytes.now) c.args.bytes.now c.read_body.result (map fields_of c.body.result.now) c.in-Ok.ensures.head
    (c.body.ensures ∙ ap (λ (rows : List ByteRecord). drop 1 (map fields_of rows)) c.deref.ensures.value ∙ ap (λ (rows : List Row). drop 1 rows) c.in-Ok.ensures.rows) c.read_body.ensures

pub returns-in-Err : goal.returns-in-Err
returns-in-Err g c =
    let R = g.R.RowReader in
    head_told (R.reason c.args.reader.now) (R.value c.args.reader.now) (R.head c.args.reader.now c.args.bytes.now) c.args.bytes.now c.in-Err.stop c.in-Err.ensures.head
