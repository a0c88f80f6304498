use Rattle.records.proofs.Common.{List, ap, ◌∙◌, map, drop, fields_of, ByteRecord, column, body_of, head_reason, Row}
use Rattle.records.proofs.InTurn.{answers_file, answers_stop}
use Rattle.network.{proofs.Free.read_few, proofs.Free.read_sound, specs.Links.link_header, specs.Links.link_reason, specs.Links.link_of}
use Rattle.network.proofs.links.read_links.Goals as goal

pub returns-in-Ok-clause-read : goal.returns-in-Ok-clause-read
unfolding body_of
returns-in-Ok-clause-read c =
    answers_file (λ r. r) c.read_body.result (head_reason link_header c.args.bytes.now) 0 (link_of c.args.nodes.now) (link_reason c.args.nodes.now) c.args.bytes.now (map fields_of c.body.result.now)
    (λ rows. (column 0 rows, map (link_of c.args.nodes.now) rows)) c.in-Ok.ensures.head
    (c.body.ensures ∙ ap (λ (rows : List ByteRecord). drop 1 (map fields_of rows)) c.deref.ensures.value ∙ ap (λ (rows : List Row). drop 1 rows) c.in-Ok.ensures.rows) c.read_body.ensures.read

pub returns-in-Err-clause-read : goal.returns-in-Err-clause-read
returns-in-Err-clause-read c =
    answers_stop (λ r. r) _ 0 (link_of c.args.nodes.now) (link_reason c.args.nodes.now) c.args.bytes.now c.in-Err.stop (head_reason link_header c.args.bytes.now) c.in-Err.ensures.head

pub returns-in-Ok-clause-few : goal.returns-in-Ok-clause-few
returns-in-Ok-clause-few c = read_few c.args.nodes.now c.args.bytes.now c.read_body.result (returns-in-Ok-clause-read c)

pub returns-in-Ok-clause-sound : goal.returns-in-Ok-clause-sound
returns-in-Ok-clause-sound c = read_sound c.args.nodes.now c.args.bytes.now c.read_body.result (returns-in-Ok-clause-read c)
