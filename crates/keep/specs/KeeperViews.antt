-- What contracts see of a keeper in memory.
use Rattle.std.specs.Prelude.{option_map}
use Rattle.edge_files.specs.Keeping.{kept_of}
use Rattle.keep.specs.{InMemory.KeeperHeld, declared.memory_keeper.Checkpoint.Checkpoint, declared.memory_keeper.MemoryKeeper.TheInside.Inside}

abbrev pub keeper_held : Inside → KeeperHeld
keeper_held k = record {
  kept = option_map (λ (c : Checkpoint). kept_of c.iteration c.rows.items) k.kept;
  calls = k.calls;
}
