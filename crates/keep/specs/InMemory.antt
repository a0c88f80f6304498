-- A keeper in memory, of which chosen calls fail.
use Rattle.std.specs.Prelude.{Option, if◌then◌else◌}
use Rattle.edge_files.specs.{InMemory.CallCounts, InMemory.next_fails, InMemory.passed_call, InMemory.failed_call, Keeping.Kept}

-- what is kept, and the calls
pub record KeeperHeld : Type 0 where
  pub kept : Option Kept
  pub calls : CallCounts

-- one more call, which keeps what was kept
abbrev pub after_call : KeeperHeld → KeeperHeld
after_call held = record {
  kept = held.kept;
  calls = if next_fails held.calls then failed_call held.calls else passed_call held.calls;
}
