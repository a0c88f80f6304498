-- Spans of two signals, compared by what their seconds leave over of a circle.
use Rattle.std.specs.Prelude.{◌≡◌, ℕ, ◌+◌, ◌-◌, ◌*◌, ◌%◌, min, Bool, ◌&&◌, ◌||◌, nat_lt, nat_le, if◌then◌else◌}
use Rattle.std.specs.List.{list_any}
use Rattle.rows.specs.Greens.{Phases}
use Rattle.signals.specs.declared.arcs.Arc.{Arc}

-- x is a multiple of a less a multiple of b
abbrev pub IsOver : ℕ → ℕ → ℕ → Type 0
IsOver a b x = (u : ℕ) × (v : ℕ) × (a * u ≡ b * v + x)

-- x is what a multiple of the one cycle is over a multiple of the other, either way
pub record IsBetween (a b x : ℕ) : Type 0 where
  pub first : IsOver a b x
  pub second : IsOver b a x

-- the seconds of the day in which a span of a signal begins, on a circle of so many seconds, and how many seconds of the cycle it has
unfoldable pub arc_of : ℕ → Phases → ℕ × ℕ → Arc
arc_of circle p span = record { start = (span.0 % circle + p.offset) % circle; seconds = min span.1 p.cycle - span.0 }

-- from one second of the circle on to the other
abbrev pub seconds_to : ℕ → ℕ → ℕ → ℕ
seconds_to circle here there = if nat_le here there then there - here else there + circle - here

-- two arcs have a second of the circle in common: the one begins within the other
unfoldable pub meet : ℕ → Arc → Arc → Bool
meet circle a b =
    nat_lt 0 a.seconds && nat_lt 0 b.seconds && (nat_lt (seconds_to circle a.start b.start) a.seconds || nat_lt (seconds_to circle b.start a.start) b.seconds)

-- an arc meets that of some span of a signal
abbrev pub meets_some : ℕ → Arc → Phases → Bool
meets_some circle arc p = list_any (λ span. meet circle arc (arc_of circle p span)) p.spans

-- some span of the one signal meets some span of the other
abbrev pub some_meet : ℕ → Phases → Phases → Bool
some_meet circle a b = list_any (λ span. meets_some circle (arc_of circle a span) b) a.spans
