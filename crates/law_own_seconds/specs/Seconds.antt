-- What a partition holds in the course of second t of a day, and its own world then.
use Rattle.std.specs.Prelude.{ℕ}
use Rattle.traffic.specs.{Rows.World, Setup.Setup}
use Rattle.parts.specs.{Owners.Owner, Parts.Held, Parts.ready}
use Rattle.law_partitions.specs.Alone.{early, after_C, after_D}
use Rattle.law_own_worlds.specs.{Days.world_before, OwnWorlds.set_out, OwnWorlds.crossed, OwnWorlds.driven}

-- before its nodes have their turns, before its links have theirs, and once these had them
abbrev pub held_early : Setup → Owner → ℕ → ℕ → Held
held_early S own p t = early S own p t (ready S own p t)

abbrev pub held_crossed : Setup → Owner → ℕ → ℕ → Held
held_crossed S own p t = after_C S own p t (held_early S own p t)

abbrev pub held_driven : Setup → Owner → ℕ → ℕ → Held
held_driven S own p t = after_D S own p t (held_crossed S own p t)

abbrev pub world_early : Setup → Owner → ℕ → ℕ → World
world_early S own p t = set_out S own p t (world_before S own p t)

abbrev pub world_crossed : Setup → Owner → ℕ → ℕ → World
world_crossed S own p t = crossed S own p t (world_before S own p t)

abbrev pub world_driven : Setup → Owner → ℕ → ℕ → World
world_driven S own p t = driven S own p t (world_before S own p t)
