use Rattle.std.proofs.Common.{arith}
use Rattle.event_handler.proofs.Counting.{counted_more}
use Rattle.event_handler.proofs.counts.EventCounts.with.Goals as goal

pub returns-clause-counted : goal.returns-clause-counted
returns-clause-counted c = λ taken counted. counted_more c.args.self _ taken c.args.events.now counted (omega arith) (omega arith)
