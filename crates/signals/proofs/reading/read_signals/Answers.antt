use Rattle.records.proofs.Common.{◌∙◌, ap, List, map, drop, fields_of, ByteRecord, Row, body_of, optional_head_reason}
use Rattle.signals.{proofs.Steps.answers_rows, proofs.Steps.answers_stop, proofs.Steps.answered_each, specs.Rows.signals_header, specs.Signals.signal_rows_of}
use Rattle.signals.proofs.reading.read_signals.Goals as goal

pub returns-in-Ok-clause-read : goal.returns-in-Ok-clause-read
unfolding body_of
returns-in-Ok-clause-read c =
    answers_rows c.read_body.result (optional_head_reason signals_header c.args.bytes.now) c.args.links.now c.args.ends.now c.args.bytes.now (map fields_of c.body.result.now) c.in-Ok.ensures.head
    (c.body.ensures ∙ ap (λ (rows : List ByteRecord). drop 1 (map fields_of rows)) c.deref.ensures.value ∙ ap (λ (rows : List Row). drop 1 rows) c.in-Ok.ensures.rows) c.read_body.ensures

pub returns-in-Ok-clause-each : goal.returns-in-Ok-clause-each
returns-in-Ok-clause-each c = answered_each c.read_body.result _ c.args.links.now (body_of c.args.bytes.now) (returns-in-Ok-clause-read c)

pub returns-in-Err-clause-read : goal.returns-in-Err-clause-read
returns-in-Err-clause-read c =
    answers_stop c.in-Err.stop (optional_head_reason signals_header c.args.bytes.now) c.args.links.now c.args.ends.now (body_of c.args.bytes.now) (signal_rows_of c.args.links.now (body_of c.args.bytes.now))
    c.in-Err.ensures.head
