use Rattle.std.proofs.Common.{arith}
use Rattle.node_move.proofs.Entries.{none_there, other_there}
use Rattle.node_move.proofs.spaces.entry_of.Goals as goal

pub returns-then-number-entries : goal.returns-then-number-entries
returns-then-number-entries c = none_there c.args.starts.now c.args.entries.now c.args.link (omega arith)

pub returns-then-entries-number : goal.returns-then-entries-number
returns-then-entries-number c = other_there c.args.starts.now c.args.entries.now c.args.link _ c.entry_number-number.ensures (omega arith) c.if-entries-number.true
