-- The weights of plans.
use Rattle.std.proofs.{Common.ℕ, Common.◌-◌, Common.◌^◌, Common.◌≤◌, Common.arith, Math.Nat.pow-le-pow_right}

-- a power of two up to 2^30
pub small_power : (k : ℕ) → k ≤ 30 → 2 ^ k ≤ 2 ^ 30
small_power k few = pow-le-pow_right {n = 2} (omega arith) few
