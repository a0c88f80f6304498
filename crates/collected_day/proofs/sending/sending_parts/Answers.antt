use Rattle.std.proofs.Common.{◌≡◌, ◌<◌, ◌∙◌, ◌*◌, ◌≤◌, List, [], ◌∷◌, false, Some, ap, sym, refl, subst, arith, length, length-append, get_or, rules}
use Rattle.std.proofs.lemmas.{Iterator.Adapters.YieldsList-from_vec, Iterator.Consumers.YieldsList-turn, Iterator.Consumers.YieldsList-end, List.length_push}
use Rattle.event_pipe.specs.{Pipes.sent, Pipes.free, declared.senders.Sender.Sender}
use Rattle.step_core.specs.Views.{EachAt}
use Rattle.workers.proofs.Starting.{map_itself, each_next}
use Rattle.collected_day.{proofs.Handed.first_sending, proofs.Handed.started, specs.Sending.IsSendingOf}
use Rattle.collected_day.specs.declared.{sending.Outgoing.Outgoing, sending.SendingPart.SendingPart, spans.TheConstants.SPAN_SECONDS, stream.Spanwise.Spanwise}
use Rattle.collected_day.proofs.sending.sending_parts.Goals as goal

pub start-requires : goal.start-requires
start-requires g c =
    let turn = YieldsList-turn
    (YieldsList-from_vec {s = c.into_iter-sender-iterator.result} c.senders.inside.rows.items (search rules) (search rules))
    c.loop-sender.yielded c.loop-sender.sender-iterator c.loop-sender.yielded_by c.next.result c.next.new.self c.in-Some.sender c.in-Some.is
    c.next.ensures.steps in
    let t : length c.loop-sender.yielded < length c.senders.inside.rows.items = turn.0 in
    let many = c.requires.senders.many in
    let view = ap length c.senders.view_is in
    let counted = c.loop-sender.invariant.counted in
    omega (arith, t, many, view, counted)

pub loop-sender-preserved : goal.loop-sender-preserved
loop-sender-preserved g c =
    let run = c.args.run.now in
    let told = g.S.Stream.told_in_spans in
    let see = g.T.Part.see in
    let n = c.loop-sender.number in
    let i = c.loop-sender.invariant in
    let turn = YieldsList-turn
    (YieldsList-from_vec {s = c.into_iter-sender-iterator.result} c.senders.inside.rows.items (search rules) (search rules))
    c.loop-sender.yielded c.loop-sender.sender-iterator c.loop-sender.yielded_by c.next.result c.next.new.self c.in-Some.sender c.in-Some.is
    c.next.ensures.steps in
    let t : length c.loop-sender.yielded < length c.senders.inside.rows.items = turn.0 in
    let many = c.requires.senders.many in
    let view = ap length c.senders.view_is in
    let counted = i.counted in
    let inside : n < (g.T.Part.net run).parts = omega (arith, t, many, view, counted) in
    let s : Sender (Spanwise g.row.S.Denot) = c.in-Some.sender in
    let own : get_or c.args.senders n s ≡ s =
    ap (λ (l : List (Sender (Spanwise g.row.S.Denot))). get_or l n s) (sym c.senders.view_is)
    ∙ ap (λ k. get_or c.senders.inside.rows.items k s) counted ∙ sym turn.1 in
    let first = ap sent (sym own) ∙ c.requires.senders.labels n s inside in
    let room = subst (λ (z : Sender (Spanwise g.row.S.Denot)). (g.T.Part.net run).end ≤ free z * SPAN_SECONDS) own
    (c.requires.senders.room n s inside) in
    let at = c.in_ok-start.ensures in
    let o : Outgoing g.row.S.Denot = record { sender = s; partition = n; done = 0; began = 0; kept = c.new.result } in
    let x : SendingPart g.row.S.Denot g.row.T.Denot g.row.T-Run.Denot g.row.T-Parcel.Denot =
    record { part = c.in_ok-start.field-0; outgoing = Some o; spent = false } in
    let sending = first_sending told (g.T.DayPart.day run) (g.T.DayPart.owner run) (g.T.Part.net run).end n
    (see c.in_ok-start.field-0).number (see c.in_ok-start.field-0).seconds o c.requires.told at.number at.seconds refl refl refl
    c.new.ensures.items first room in
    let long = ap length c.in_ok-push.ensures.items ∙ length_push c.loop-sender.parts.items x in
    let more = length-append c.loop-sender.yielded (s ∷ []) in
    record {
      counted = omega (arith, counted, more);
      many = (let m = i.many in omega (arith, long, m));
      start = each_next g.T.Part.nothing (λ y. see y.part)
          (IsSendingOf told g.T.DayPart.day g.T.DayPart.owner g.T.DayPart.streams g.T.Part.net see g.T.Part.stands run)
          (λ p. length (g.T.Part.borders run p)) n c.loop-sender.parts.items c.push.new.self.items x i.many i.start
          (started told g.T.DayPart.day g.T.DayPart.owner g.T.DayPart.streams g.T.Part.net see g.T.Part.stands g.T.Part.nothing run n
          (length (g.T.Part.borders run n)) x o refl refl at c.requires.streams inside sending)
          c.in_ok-push.ensures.items;
    }

pub returns-clause-count : goal.returns-clause-count
returns-clause-count g c =
    let end = YieldsList-end
    (YieldsList-from_vec {s = c.into_iter-sender-iterator.result} c.senders.inside.rows.items (search rules) (search rules))
    c.loop-sender.yielded c.loop-sender.sender-iterator c.loop-sender.yielded_by c.next.result c.next.new.self c.in-None.is
    c.next.ensures.steps in
    let i = c.loop-sender.invariant in
    i.many ∙ i.counted ∙ ap length (sym (map_itself c.loop-sender.yielded) ∙ end.0) ∙ ap length c.senders.view_is
    ∙ c.requires.senders.many

pub returns-clause-start : goal.returns-clause-start
returns-clause-start g c =
    let run = c.args.run.now in
    let end = YieldsList-end
    (YieldsList-from_vec {s = c.into_iter-sender-iterator.result} c.senders.inside.rows.items (search rules) (search rules))
    c.loop-sender.yielded c.loop-sender.sender-iterator c.loop-sender.yielded_by c.next.result c.next.new.self c.in-None.is
    c.next.ensures.steps in
    let i = c.loop-sender.invariant in
    let all : c.loop-sender.number ≡ (g.T.Part.net run).parts =
    i.counted ∙ ap length (sym (map_itself c.loop-sender.yielded) ∙ end.0) ∙ ap length c.senders.view_is
    ∙ c.requires.senders.many in
    subst (λ k. EachAt g.T.Part.nothing (λ y. g.T.Part.see y.part)
    (IsSendingOf g.S.Stream.told_in_spans g.T.DayPart.day g.T.DayPart.owner g.T.DayPart.streams g.T.Part.net
    g.T.Part.see g.T.Part.stands run) 0
    (λ p. length (g.T.Part.borders run p)) k c.loop-sender.parts.items) all i.start
