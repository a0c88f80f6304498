use Rattle.std.proofs.Common.{◌≡◌, length}
use Rattle.step_core.specs.Views.{EachAt}
use Rattle.collected_day.specs.Sending.{IsSendingOf}
use Rattle.collected_day.proofs.sending.sending_parts.Given as goal

abbrev pub invariant-loop-sender : goal.invariant-loop-sender
invariant-loop-sender g l = record {
  counted : l.number ≡ length l.yielded;
  many : length l.parts.items ≡ l.number;
  start : EachAt g.T.Part.nothing (λ x. g.T.Part.see x.part)
      (IsSendingOf g.S.Stream.told_in_spans g.T.DayPart.day g.T.DayPart.owner g.T.DayPart.streams g.T.Part.net
      g.T.Part.see g.T.Part.stands l.run)
      0 (λ p. length (g.T.Part.borders l.run p)) l.number l.parts.items;
}
