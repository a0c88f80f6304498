-- Numbers that are neither too large nor too small.
use Rattle.std.specs.Prelude.{Bool, ◌&&◌, ℤ, neg_ℤ, int_le, ◌≤ℤ◌}

-- whether a number is at most so large, and at least as large as the negative of that
abbrev pub is_within : ℤ → ℤ → Bool
is_within most z = int_le (neg_ℤ most) z && int_le z most

-- the same as a fact
abbrev pub IsWithin : ℤ → ℤ → Type 0
IsWithin most z = (neg_ℤ most ≤ℤ z) × (z ≤ℤ most)
