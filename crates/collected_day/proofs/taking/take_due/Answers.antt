use Rattle.std.proofs.Common.{◌∙◌, List, ap, sym, refl, subst, arith}
use Rattle.events.specs.{Lines.AreInBook, Lines.event_lines, declared.event.Event.Event}
use Rattle.scoring.specs.Tables.{scoring_rows}
use Rattle.town.specs.Views.{setup}
use Rattle.collected_day.specs.Taking.{CanHandleMore, HasHandledMore}
use Rattle.collected_day.proofs.Due.{none_due, none_handled, due_is, taken_next}
use Rattle.collected_day.proofs.taking.take_due.Goals as goal

pub returns-then-taking-second : goal.returns-then-taking-second
returns-then-taking-second g c = λ day owner end h.
    let x = c.args.taking.now in
    let over = c.if-taking-second.true in
    let within = h.within in
    let none = none_due (setup day) x.second c.args.second over in
    record {
      taking = record {
        spans = h.spans;
        coming = h.coming;
        begins = h.begins;
        ended = h.ended;
        due = h.due;
        early = h.early;
        within = h.within;
      };
      second = omega (arith, over, within);
      text = c.new.ensures.items ∙ sym (ap (λ es. event_lines es c.args.book.now) none);
      handled = none_handled (scoring_rows c.args.tables.now) _ x.handler none;
      kinds = refl;
      links = refl;
    }

pub next_span-requires : goal.next_span-requires
next_span-requires g c =
    let due = c.requires.due in
    record { coming = (due.0, due.1, due.2, due.3.spans, due.3.coming) }

pub take_piece-requires-clause-named : goal.take_piece-requires-clause-named
take_piece-requires-clause-named g c =
    let due = c.requires.due in
    let h = due.3 in
    let x = c.args.taking.now in
    let is = c.deref.ensures.value ∙ (c.in_ok-events.ensures due.0 due.1 due.2 h.spans h.coming).1
    ∙ due_is g.S.Stream.told_in_spans due.0 due.1 due.2 c.args.second x h c.if-taking-second.false in
    subst (λ (es : List Event). AreInBook es c.args.book.now) (sym is) due.4

pub take_piece-requires-clause-handled : goal.take_piece-requires-clause-handled
take_piece-requires-clause-handled g c =
    let due = c.requires.due in
    let h = due.3 in
    let x = c.args.taking.now in
    let is = c.deref.ensures.value ∙ (c.in_ok-events.ensures due.0 due.1 due.2 h.spans h.coming).1
    ∙ due_is g.S.Stream.told_in_spans due.0 due.1 due.2 c.args.second x h c.if-taking-second.false in
    subst (λ (es : List Event). CanHandleMore (scoring_rows c.args.tables.now) es x.handler) (sym is) due.5

pub returns : goal.returns
returns g c = λ day owner end h.
    let x = c.args.taking.now in
    let later = c.if-taking-second.false in
    let came = c.in_ok-events.ensures day owner end h.spans h.coming in
    let is = c.deref.ensures.value ∙ came.1 ∙ due_is g.S.Stream.told_in_spans day owner end c.args.second x h later in
    let piece = c.in_ok-taking.ensures in
    record {
      taking = taken_next g.S.Stream.told_in_spans day owner end c.args.second x h later _ refl came.0;
      second = refl;
      text = piece.text ∙ ap (λ es. event_lines es c.args.book.now) is;
      handled = subst (λ (es : List Event). HasHandledMore (scoring_rows c.args.tables.now) es x.handler c.take_piece.new.handler) is
          piece.handled;
      kinds = piece.kinds;
      links = piece.links;
    }
