-- The links of other partitions in the own world of a partition.
use Rattle.std.specs.Prelude.{◌≡◌, ℕ, false, [], ◌==◌}
use Rattle.traffic.specs.{Rows.at, Setup.Setup, declared.stage.Stage.Stage}
use Rattle.parts.specs.Owners.{Owner, owner_of}
use Rattle.law_own_worlds.specs.Days.{world_before}
use Rattle.law_own_seconds.specs.Seconds.{world_early}

-- nobody is on them before a second, nor once persons and departures have set out
pub record OthersAreEmpty (S : Setup) (own : Owner) (p t : ℕ) : Type 0 where
  pub start : (l : ℕ) (s : Stage) → (owner_of S own l == p) ≡ false → at l s (world_before S own p t) ≡ []
  pub early : (l : ℕ) (s : Stage) → (owner_of S own l == p) ≡ false → at l s (world_early S own p t) ≡ []
