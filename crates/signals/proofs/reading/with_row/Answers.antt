use Rattle.std.proofs.Common.{◌∙◌, sym}
use Rattle.csv.specs.Records.{fields_of}
use Rattle.signals.specs.declared.kinds.RowKind.TheVariants as kind
use Rattle.signals.proofs.Steps.{other_length, row_reads, neither_reason}
use Rattle.signals.specs.{Rows.kind_reason, Rows.with_kind, Views.seen_of}
use Rattle.signals.proofs.reading.with_row.Goals as goal

pub returns-then-len-ne6-clause-read : goal.returns-then-len-ne6-clause-read
returns-then-len-ne6-clause-read c =
    other_length c.args.links.now c.args.ends.now (seen_of c.args.read) (fields_of c.args.row.now) c.len.result c.len.ensures c.if-len-ne6.true

pub returns-in_ok-found-in-Signal-clause-read : goal.returns-in_ok-found-in-Signal-clause-read
unfolding kind_reason with_kind
returns-in_ok-found-in-Signal-clause-read c =
    row_reads c.args.links.now c.args.ends.now (seen_of c.args.read) c.args.number (fields_of c.args.row.now) kind.Signal c.in_ok-found-in-Signal.found c.len.result c.len.ensures c.if-len-ne6.false
    (sym c.kind_of.ensures ∙ c.in-Signal.is) c.in_ok-found-in-Signal.ensures.read

pub returns-in_ok-found-in-Conflict-clause-read : goal.returns-in_ok-found-in-Conflict-clause-read
unfolding kind_reason with_kind
returns-in_ok-found-in-Conflict-clause-read c =
    row_reads c.args.links.now c.args.ends.now (seen_of c.args.read) c.args.number (fields_of c.args.row.now) kind.Conflict c.in_ok-found-in-Conflict.found c.len.result c.len.ensures c.if-len-ne6.false
    (sym c.kind_of.ensures ∙ c.in-Conflict.is) c.in_ok-found-in-Conflict.ensures.read

pub returns-in-Neither-clause-read : goal.returns-in-Neither-clause-read
returns-in-Neither-clause-read c =
    neither_reason c.args.links.now c.args.ends.now (seen_of c.args.read) (fields_of c.args.row.now) c.len.result c.len.ensures c.if-len-ne6.false (sym c.kind_of.ensures ∙ c.in-Neither.is)
