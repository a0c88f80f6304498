-- Partitions that send what they tell.
use Rattle.std.specs.Prelude.{◌≡◌, ℕ, ◌+◌, ◌-◌, ◌*◌, ◌<◌, ◌≤◌, Bool, true, false, List, [], ◌∷◌, length, get_or, IfSome}
use Rattle.events.specs.declared.event.Event.{Event}
use Rattle.event_pipe.specs.{Pieces.label, Pipes.sent, Pipes.free, declared.senders.Sender.Sender}
use Rattle.town.specs.declared.day_input.DayInput.{DayInput}
use Rattle.partition.specs.declared.owner.Owner.{Owner}
use Rattle.step_core.specs.{Nets.Net, Views.PartView}
use Rattle.collected_day.specs.{Spans.told_from, Streams.told_in_span, Streams.pieces_to}
use Rattle.collected_day.specs.declared.{sending.Outgoing.Outgoing, sending.SendingPart.SendingPart, spans.TheConstants.SPAN_SECONDS}

-- Partition p of a day of so many seconds has done t of them, and has sent its label and what it told in the spans before the one in
-- which it is, and keeps what it told in that. A place is free for each span that is left. Behind the last second all spans are sent.
pub record IsSending {S : Type 0} (told : ℕ → ℕ → List Event) (day : DayInput) (owner : Owner) (end p t : ℕ) (x : Outgoing S)
    : Type 0 where
  pub tells : (k : ℕ) → told p k ≡ told_in_span day owner end p k
  pub number : x.partition ≡ p
  pub seconds : x.done ≡ t
  pub spans : ℕ
  pub sent : sent x.sender ≡ pieces_to told p spans
  pub room : end ≤ (spans + free x.sender) * SPAN_SECONDS
  pub begins : t < end → x.began ≡ spans * SPAN_SECONDS
  pub begun : t < end → spans * SPAN_SECONDS ≤ t
  pub early : t < end → t < spans * SPAN_SECONDS + SPAN_SECONDS
  pub kept : t < end → x.kept.items ≡ told_from day owner p (spans * SPAN_SECONDS) (t - spans * SPAN_SECONDS)
  pub ended : end ≤ t → end ≤ spans * SPAN_SECONDS

-- one of the partitions of a run whose events are taken while the day goes on, which sends
pub record SendsOn {S : Type 0} (told : ℕ → ℕ → List Event) (day : DayInput) (owner : Owner) (streams : Bool) (net : Net)
    (p t : ℕ) (x : Outgoing S) : Type 0 where
  pub goes : streams ≡ true
  pub there : p < net.parts
  pub sending : IsSending told day owner net.end p t x

-- a partition that is not spent, stands for what it holds after its seconds, and sends what it told, where it has a sender
pub record IsSendingOf {S T R P : Type 0} (told : ℕ → ℕ → List Event) (day : R → DayInput) (owner : R → Owner)
    (streams : R → Bool) (net : R → Net) (see : T → PartView P) (stands : R → T → Type 0) (run : R) (x : SendingPart S T R P)
    : Type 0 where
  pub part : stands run x.part
  pub outgoing : IfSome x.outgoing (SendsOn told (day run) (owner run) (streams run) (net run) (see x.part).number (see x.part).seconds)
  pub whole : x.spent ≡ false

-- the senders of so many partitions by number, each of which has sent the label alone, and has a place free for each span of the day
pub record AreNewSenders {P : Type 0} (end count : ℕ) (senders : List (Sender P)) : Type 0 where
  pub many : length senders ≡ count
  pub labels : (p : ℕ) (d : Sender P) → p < count → sent (get_or senders p d) ≡ label p ∷ []
  pub room : (p : ℕ) (d : Sender P) → p < count → end ≤ free (get_or senders p d) * SPAN_SECONDS
