use Rattle.std.proofs.Common.{List, ◌++◌, sym, ◌∙◌, ap, subst}
use Rattle.events.specs.{Lines.AreInBook, Lines.event_lines, declared.event.Event.Event}
use Rattle.event_handler.specs.Handling.{IsSeen}
use Rattle.event_writer.proofs.Written.{none_written, written_but}
use Rattle.scoring.specs.Tables.{scoring_rows}
use Rattle.town.specs.Views.{setup}
use Rattle.collected_day.proofs.Writing.{as_written, whole_written, front_written}
use Rattle.collected_day.specs.{Spans.told_at_end, Taking.CanHandleMore, Taking.HasHandledMore}
use Rattle.collected_day.proofs.day.write_end.Goals as goal

pub returns-in_default-clause-written : goal.returns-in_default-clause-written
returns-in_default-clause-written g c = none_written _ _ _

pub stream_piece-requires-clause-named : goal.stream_piece-requires-clause-named
stream_piece-requires-clause-named g c =
    let is = c.deref.ensures.value ∙ c.in-Ok.ensures in
    subst (λ (es : List Event). AreInBook es c.args.book.now) (sym is) c.requires.named

pub stream_piece-requires-clause-handled : goal.stream_piece-requires-clause-handled
stream_piece-requires-clause-handled g c =
    let is = c.deref.ensures.value ∙ c.in-Ok.ensures in
    subst (λ (es : List Event). CanHandleMore (scoring_rows c.args.tables.now) es c.args.handler) (sym is) c.requires.can

pub returns-in-Err-clause-written : goal.returns-in-Err-clause-written
returns-in-Err-clause-written g c =
    let is = c.deref.ensures.value ∙ c.in-Ok.ensures in
    front_written (ap (λ es. event_lines es c.args.book.now) is) c.in-Err.ensures.written

pub finish-requires : goal.finish-requires
finish-requires g c =
    let is = c.deref.ensures.value ∙ c.in-Ok.ensures in
    let can = c.requires.can in
    let took = subst
    (λ (es : List Event). HasHandledMore (scoring_rows c.args.tables.now) es c.args.handler c.stream_piece.new.handler) is
    c.in-Ok-stream_piece.ensures.handled in
    (_, took can.0 can.1 can.2 can.3)

pub returns-in-Ok-finish-clause-written : goal.returns-in-Ok-finish-clause-written
returns-in-Ok-finish-clause-written g c =
    let is = c.deref.ensures.value ∙ c.in-Ok.ensures in
    whole_written _ (ap (λ es. event_lines es c.args.book.now) is) c.in-Ok-stream_piece.ensures.written

pub returns-in-Ok-finish-clause-seen : goal.returns-in-Ok-finish-clause-seen
returns-in-Ok-finish-clause-seen g c = λ taken rest has can.
    let is = c.deref.ensures.value ∙ c.in-Ok.ensures in
    let took = subst
    (λ (es : List Event). HasHandledMore (scoring_rows c.args.tables.now) es c.args.handler c.stream_piece.new.handler) is
    c.in-Ok-stream_piece.ensures.handled in
    let run = c.args.run.now in
    let all = taken ++ told_at_end (setup (g.T.DayPart.day run)) (g.T.Part.net run).end in
    subst (λ ks. IsSeen (scoring_rows c.args.tables.now) ks all c.in-Ok-finish.seen) c.in-Ok-stream_piece.ensures.kinds
    (c.in-Ok-finish.ensures.seen all (took taken rest has can))

pub returns-in-Ok-finish-clause-links : goal.returns-in-Ok-finish-clause-links
returns-in-Ok-finish-clause-links g c = c.in-Ok-finish.ensures.links ∙ c.in-Ok-stream_piece.ensures.links

pub returns-clause-written : goal.returns-clause-written
returns-clause-written g c =
    let is = c.deref.ensures.value ∙ c.in-Ok.ensures in
    written_but _ _ _ _ _ _ (as_written (ap (λ es. event_lines es c.args.book.now) is) c.in-Ok-stream_piece.ensures.written)
