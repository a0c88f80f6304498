use Rattle.records.proofs.Common.{◌≡◌, List, ap, length, ◌∙◌, arith, map, drop, length-map, fields_of, ByteRecord, Row, rows_of}
use Rattle.plans.{proofs.Whole.body_some, proofs.Whole.body_is, proofs.Whole.answers_rows, proofs.Whole.answers_stop, specs.Kinds.plans_header}
use Rattle.plans.proofs.file.read_plans.Goals as goal

pub read_rows-requires-clause-some : goal.read_rows-requires-clause-some
read_rows-requires-clause-some c =
    let same : map fields_of c.body.result.now ≡ drop 1 (rows_of c.args.bytes.now) =
    c.body.ensures ∙ ap (λ (l : List ByteRecord). drop 1 (map fields_of l)) c.deref.ensures.value ∙ ap (λ (l : List Row). drop 1 l) c.in-Ok.ensures.rows in
    let some = body_some plans_header c.args.bytes.now c.in-Ok.ensures.head in
    omega (arith, some, ap length same, length-map c.body.result.now fields_of)

pub returns-in-Ok-clause-read : goal.returns-in-Ok-clause-read
returns-in-Ok-clause-read c =
    let same = c.body.ensures ∙ ap (λ (l : List ByteRecord). drop 1 (map fields_of l)) c.deref.ensures.value ∙ ap (λ (l : List Row). drop 1 l) c.in-Ok.ensures.rows ∙ body_is c.args.bytes.now in
    answers_rows c.read_rows.result _ c.args.links.now c.args.ends.now c.args.bytes.now _ c.in-Ok.ensures.head same c.read_rows.ensures.read

pub returns-in-Err-clause-read : goal.returns-in-Err-clause-read
returns-in-Err-clause-read c = answers_stop _ _ _ _ _ _ c.in-Err.ensures.head
