-- How many vehicles leave the queues of links in the own world of a partition.
use Rattle.std.specs.Prelude.{◌≡◌, ℕ, ◌+◌, ◌<◌, false, ◌++◌, length, replicate, ◌==◌}
use Rattle.traffic.specs.{Day.moves_of, Rows.at, Rows.holes_at, Setup.Setup, declared.stage.Stage.TheVariants.Queue}
use Rattle.parts.specs.{Owners.Owner, Owners.owner_of, Owners.begins_in, Parts.freed}
use Rattle.law_own_worlds.specs.Days.{my_link_turns}
use Rattle.law_own_seconds.specs.Seconds.{held_crossed, held_driven, world_crossed, world_driven}

-- how many left that of link m in second t, in the turns of p's links
abbrev pub left_by : Setup → Owner → ℕ → ℕ → ℕ → ℕ
left_by S own p t m = freed m (moves_of (my_link_turns S own p t))

-- Each leaves a hole of this second; of a link that begins in p so many rows fewer are known of, and of a link of another partition none
-- leaves.
pub record LeaveHoles (S : Setup) (own : Owner) (p t : ℕ) : Type 0 where
  pub queue :
      (m : ℕ) → m < length S.links
      → length (at m Queue (world_driven S own p t)) + left_by S own p t m ≡ length (at m Queue (world_crossed S own p t))
  pub holes : (m : ℕ) → holes_at m (world_driven S own p t) ≡ holes_at m (world_crossed S own p t) ++ replicate (left_by S own p t m) t
  pub known_rows :
      (m : ℕ) → m < length S.links → begins_in S own m ≡ p
      → (held_driven S own p t).rows m + left_by S own p t m ≡ (held_crossed S own p t).rows m
  pub known_holes : (m : ℕ) → (held_driven S own p t).holes m ≡ (held_crossed S own p t).holes m ++ replicate (left_by S own p t m) t
  pub none : (m : ℕ) → (owner_of S own m == p) ≡ false → left_by S own p t m ≡ 0
