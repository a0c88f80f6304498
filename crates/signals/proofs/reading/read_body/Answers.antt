use Rattle.records.proofs.Common.{◌∙◌, ap, arith, ℕ, None, [], map, fields_of}
use Rattle.std.specs.Prelude.{replicate}
use Rattle.signals.proofs.Steps.{read_none, read_more, read_fault, read_all}
use Rattle.signals.specs.{Rows.Seen, Signals.SignalRows, Signals.signal_rows_of, Signals.or_always, Views.seen_of}
use Rattle.signals.proofs.reading.read_body.Goals as goal

pub loop-place-init : goal.loop-place-init
loop-place-init c =
    let nothing : ℕ → Seen = λ n. record { signals = replicate n None; conflicts = [] } in
    read_none c.args.links.now c.args.ends.now c.args.rows.now (seen_of c.in-Ok.read) (c.in-Ok.ensures ∙ ap nothing c.len.ensures.count)

pub loop-place-preserved : goal.loop-place-preserved
loop-place-preserved c =
    read_more c.args.links.now c.args.ends.now c.args.rows.now c.loop-place.place (seen_of c.loop-place.read) (seen_of c.in-Ok-Ok.after) c.index-rows-place.result c.loop-place.invariant c.loop-place-test.true
    c.index-rows-place.is (rw c.in-Ok-Ok.field-0-is at c.in-Ok-Ok.ensures.read).0 (rw c.in-Ok-Ok.field-0-is at c.in-Ok-Ok.ensures.read).1 (rw c.in-Ok-Ok.field-0-is at c.in-Ok-Ok.ensures.there)

pub returns-in-Ok-Err : goal.returns-in-Ok-Err
returns-in-Ok-Err c =
    read_fault c.args.links.now c.args.ends.now c.args.rows.now c.loop-place.place (seen_of c.loop-place.read) c.index-rows-place.result c.in-Ok-Err.reason c.fault.result
    (signal_rows_of c.args.links.now (map fields_of c.args.rows.now)) c.loop-place.invariant c.loop-place-test.true c.index-rows-place.is (rw c.in-Ok-Err.field-0-is at c.in-Ok-Err.ensures.read) c.fault.ensures

pub returns-in-Ok-signals_of : goal.returns-in-Ok-signals_of
returns-in-Ok-signals_of c =
    let all = read_all c.args.links.now c.args.ends.now c.args.rows.now c.loop-place.place (seen_of c.loop-place.read) c.loop-place.invariant (omega arith) in
    let rows : Seen → SignalRows = λ seen. record { greens = map or_always seen.signals; conflicts = seen.conflicts } in
    (all.0, c.in-Ok-signals_of.ensures ∙ ap rows all.1)
