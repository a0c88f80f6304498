-- A refusal has its cause outside, and a count shows it.
use Rattle.std.specs.Prelude.{◌≡◌, ℕ, ◌+◌, ◌-◌, ◌^◌, ◌≤◌, min, max, Result, OnErr, Err}
use Rattle.edge_files.specs.declared.keeping.KeepFail.{KeepFail}
use Rattle.edge_files.specs.declared.keeping.KeepFail.TheVariants as fail

-- one more, in a count that stays at 2 ^ 64 - 1 once it is there
abbrev pub up : ℕ → ℕ
up count = max count (min (count + 1) (2 ^ 64 - 1))

-- the count rose, or stands at its last value
abbrev pub Rose : ℕ → ℕ → Type 0
Rose before now = up before ≤ now

-- the count of faults did not fall, and rose where the call failed
pub record HasCause {T E : Type 0} (before now : ℕ) (result : Result T E) : Type 0 where
  pub later : before ≤ now
  pub failed : OnErr result (Rose before now)

-- the same of a keeper, which may also want memory
pub record KeepHasCause {T : Type 0} (before now : ℕ) (result : Result T KeepFail) : Type 0 where
  pub later : before ≤ now
  pub failed : result ≡ Err fail.Failed → Rose before now
