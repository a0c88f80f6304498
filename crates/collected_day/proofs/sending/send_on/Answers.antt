use Rattle.std.proofs.Common.{◌≡◌, ◌<◌, ◌+◌, ◌-◌, ◌++◌, List, inl, inr, arith, refl, ◌∙◌, ap}
use Rattle.events.specs.declared.event.Event.{Event}
use Rattle.collected_day.proofs.Handed.{keeps, over_is, is_allowed, goes_over}
use Rattle.collected_day.proofs.sending.send_on.Goals.{else-done-began-lt-SPAN_SECONDS-via-then-done-began-lt-SPAN_SECONDS+else-done-end}
use Rattle.collected_day.proofs.sending.send_on.Goals.{else-done-began-lt-SPAN_SECONDS-via-else-done-began-lt-SPAN_SECONDS}
use Rattle.collected_day.proofs.sending.send_on.Goals as goal

pub returns-then-done-end : goal.returns-then-done-end
returns-then-done-end g c =
    let run = c.args.run.now in
    let v = g.T.Part.see c.args.part.now in
    let x = c.args.outgoing in
    let some = c.requires.some in
    let within = c.requires.within in
    keeps g.S.Stream.told_in_spans (g.T.DayPart.day run) (g.T.DayPart.owner run) (g.T.Part.net run).end v.number (v.seconds - 1) v.seconds x
    c.requires.sending (omega (arith, some, within)) (omega (arith, some)) _ refl refl refl refl
    (c.in_ok-extend_from_slice.ensures.items ∙ ap (λ (l : List Event). x.kept.items ++ l) c.told.ensures)
    c.if-done-began-lt-SPAN_SECONDS.true (let e = c.end.ensures in let f = c.if-done-end.true in omega (arith, e, f))

pub offer-requires : goal.offer-requires
offer-requires g c =
    let run = c.args.run.now in
    let v = g.T.Part.see c.args.part.now in
    let x = c.args.outgoing in
    let end = (g.T.Part.net run).end in
    let some = c.requires.some in
    let within = c.requires.within in
    let early : v.seconds - 1 < end = omega (arith, some, within) in
    let next : v.seconds ≡ (v.seconds - 1) + 1 = omega (arith, some) in
    record {
      allowed = is_allowed g.S.Stream.told_in_spans (g.T.DayPart.day run) (g.T.DayPart.owner run) end v.number (v.seconds - 1) v.seconds x
          c.requires.sending early next c.extend_from_slice.new.self.items _ within
          (c.in_ok-extend_from_slice.ensures.items ∙ ap (λ (l : List Event). x.kept.items ++ l) c.told.ensures)
          (over_is g.S.Stream.told_in_spans (g.T.DayPart.day run) (g.T.DayPart.owner run) end v.number (v.seconds - 1) v.seconds x
          c.requires.sending early next
          (elim c.else-done-began-lt-SPAN_SECONDS.branch [
            | else-done-began-lt-SPAN_SECONDS-via-then-done-began-lt-SPAN_SECONDS+else-done-end w ↦
                let e = w.end.ensures in let f = w.if-done-end.false in inr (omega (arith, e, f))
            | else-done-began-lt-SPAN_SECONDS-via-else-done-began-lt-SPAN_SECONDS w ↦ inl w.if-done-began-lt-SPAN_SECONDS.false
          ])) refl;
    }

pub returns : goal.returns
returns g c =
    let run = c.args.run.now in
    let v = g.T.Part.see c.args.part.now in
    let x = c.args.outgoing in
    let end = (g.T.Part.net run).end in
    let some = c.requires.some in
    let within = c.requires.within in
    let early : v.seconds - 1 < end = omega (arith, some, within) in
    let next : v.seconds ≡ (v.seconds - 1) + 1 = omega (arith, some) in
    goes_over g.S.Stream.told_in_spans (g.T.DayPart.day run) (g.T.DayPart.owner run) end v.number (v.seconds - 1) v.seconds x
    c.requires.sending early next c.extend_from_slice.new.self.items _ _ within
    (c.in_ok-extend_from_slice.ensures.items ∙ ap (λ (l : List Event). x.kept.items ++ l) c.told.ensures)
    (over_is g.S.Stream.told_in_spans (g.T.DayPart.day run) (g.T.DayPart.owner run) end v.number (v.seconds - 1) v.seconds x
    c.requires.sending early next
    (elim c.else-done-began-lt-SPAN_SECONDS.branch [
      | else-done-began-lt-SPAN_SECONDS-via-then-done-began-lt-SPAN_SECONDS+else-done-end w ↦
          let e = w.end.ensures in let f = w.if-done-end.false in inr (omega (arith, e, f))
      | else-done-began-lt-SPAN_SECONDS-via-else-done-began-lt-SPAN_SECONDS w ↦ inl w.if-done-began-lt-SPAN_SECONDS.false
    ]))
    refl c.in-Sent.ensures.sends.0 c.in-Sent.ensures.sends.1 refl refl refl c.new.ensures.items
