use Rattle.std.proofs.Common.{rules}
use Rattle.fixed_flow.proofs.Window.{window}
use Rattle.fixed_flow.proofs.credits.most_passing.Goals as goal

pub returns-clause-flow : goal.returns-clause-flow
returns-clause-flow c = window c.args.per_second c.args.seconds _ (search rules)
