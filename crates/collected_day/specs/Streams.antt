-- What the partitions of a day tell span by span, and the pieces in which they hand it over.
use Rattle.std.specs.Prelude.{◌≡◌, ℕ, ◌-◌, ◌*◌, ◌<◌, List, [], ◌∷◌, length, map}
use Rattle.events.specs.declared.event.Event.{Event}
use Rattle.event_pipe.specs.{Pieces.label, Pipes.parts, Pipes.gathered, declared.gathering.Gather.Gather, declared.pieces.Piece.Piece}
use Rattle.law_in_range.specs.Setups.{HaveFittingPlans}
use Rattle.town.specs.declared.day_input.DayInput.{DayInput}
use Rattle.partition.specs.declared.owner.Owner.{Owner}
use Rattle.traffic.specs.Lists.{below}
use Rattle.collected_day.specs.{Spans.told_from, declared.spans.TheConstants.SPAN_SECONDS}

-- how many seconds the k-th span of a day of so many seconds has: those of a span, or what is left of the day where that is less (a
-- subtraction stops at 0)
abbrev pub span_length : ℕ → ℕ → ℕ
span_length end k = SPAN_SECONDS - (SPAN_SECONDS - (end - k * SPAN_SECONDS))

-- what belongs to partition p in the k-th span
abbrev pub told_in_span : DayInput → Owner → ℕ → ℕ → ℕ → List Event
told_in_span day owner end p k = told_from day owner p (k * SPAN_SECONDS) (span_length end k)

-- these are what the partitions of a day tell
abbrev pub TellsOf : (ℕ → ℕ → List Event) → DayInput → Owner → ℕ → Type 0
TellsOf told day owner end = (p k : ℕ) → told p k ≡ told_in_span day owner end p k

-- the piece of partition p of the k-th span
abbrev pub span_piece : (ℕ → ℕ → List Event) → ℕ → ℕ → Piece
span_piece told p k = record { partition = p; events = told p k }

-- the pieces of partition p of the first n spans, behind its label
abbrev pub pieces_to : (ℕ → ℕ → List Event) → ℕ → ℕ → List Piece
pieces_to told p n = label p ∷ map (span_piece told p) (below n)

-- THE PROMISE: first comes a piece with no events, the label; behind it and k others (k from 0) comes what the label's partition tells
-- in the k-th span
abbrev pub IsNext : (ℕ → ℕ → List Event) → List Piece → Piece → Type 0
IsNext told [] x = x.events ≡ []
IsNext told (first ∷ before) x = x ≡ span_piece told first.partition (length before)

-- of each of so many partitions the pieces of the first n spans were gathered
pub record HasGathered {P : Type 0} (told : ℕ → ℕ → List Event) (count n : ℕ) (g : Gather P) : Type 0 where
  pub many : parts g ≡ count
  pub pieces : (p : ℕ) → p < count → gathered g p ≡ pieces_to told p n

-- the pieces of the first n spans were gathered of a day of so many seconds, whose plans fit and whose partitions tell this
pub record IsComing {P : Type 0} (told : ℕ → ℕ → List Event) (day : DayInput) (owner : Owner) (end n : ℕ) (g : Gather P)
    : Type 0 where
  pub given : HaveFittingPlans day
  pub tells : TellsOf told day owner end
  pub has : HasGathered told owner.parts n g
