-- Signals: when a link is green.
use Rattle.std.specs.Prelude.{ℕ, ◌+◌, ◌-◌, ◌%◌, ◌<◌, ◌≤◌, Bool, ◌&&◌, nat_le, nat_lt, List, [], ◌∷◌, get_or}
use Rattle.std.specs.List.{list_any}
use Rattle.limits.specs.declared.TheConstants.{MAX_CYCLE}

-- the cycle of a signal in seconds, its offset, and the spans of the cycle in which it is green
pub record Phases : Type 0 where
  pub cycle : ℕ
  pub offset : ℕ
  pub spans : List (ℕ × ℕ)

-- a cycle of 1 to 3,600 seconds, and an offset below it
pub record IsLawful (p : Phases) : Type 0 where
  pub least : 1 ≤ p.cycle
  pub most : p.cycle ≤ MAX_CYCLE
  pub offset : p.offset < p.cycle

-- the span holds the second of the cycle
abbrev pub holds : ℕ → ℕ × ℕ → Bool
holds second span = nat_le span.0 second && nat_lt second span.1

-- the second of the cycle in a second of the day
abbrev pub phase_of : Phases → ℕ → ℕ
phase_of p t = (t + p.cycle - p.offset) % p.cycle

-- some span holds that second
unfoldable pub is_green : Phases → ℕ → Bool
is_green p t = list_any (holds (phase_of p t)) p.spans

-- a link without a signal is always green
abbrev pub always : Phases
always = record { cycle = 1; offset = 0; spans = (0, 1) ∷ [] }

-- the signal of a link
abbrev pub green_at : List Phases → ℕ → Phases
green_at greens link = get_or greens link always
