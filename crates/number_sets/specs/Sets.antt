-- Sets of numbers below 64, each as the number that has a bit for each of them.
use Rattle.std.specs.Prelude.{◌≡◌, ℕ, ◌<◌, ◌≤◌, ◌^◌, Bool, true, false, ◌==◌}
use Rattle.std.specs.Int.{bit_at}

abbrev pub IsSet : ℕ → Type 0
IsSet bits = bits < 2 ^ 64

-- whether k is in the set
abbrev pub has : ℕ → ℕ → Bool
has bits k = bit_at bits k == 1

-- n is the least number of the set from this one on
pub record IsNext (bits from n : ℕ) : Type 0 where
  pub least : from ≤ n
  pub small : n < 64
  pub there : has bits n ≡ true
  pub none : (k : ℕ) → from ≤ k → k < n → has bits k ≡ false
