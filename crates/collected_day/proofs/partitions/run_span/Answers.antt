use Rattle.std.proofs.Common.{arith}
use Rattle.collected_day.proofs.Together.{goes_on}
use Rattle.collected_day.proofs.partitions.run_span.Goals as goal

pub returns-clause-under_way : goal.returns-clause-under_way
returns-clause-under_way g c =
    let until = c.span_end-until.ensures in
    let end = c.end.ensures in
    goes_on g.T.Part.net g.T.Part.borders g.T.Part.nothing g.T.Part.see g.T.Part.stands g.T.Part.spent g.T.Part.right c.args.run.now
    c.args.partitions.second c.span_end-until.result c.args.partitions.running c.in_ok-later.later c.requires.under_way
    c.requires.before_end
    (let w = until.within.0 in omega arith) (λ early. until.whole (omega arith)) c.in_ok-later.ensures
