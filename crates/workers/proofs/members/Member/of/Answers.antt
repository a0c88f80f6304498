use Rattle.std.proofs.Common.{false, refl}
use Rattle.workers.{proofs.Resting.goes_on, proofs.Starting.starts, specs.declared.members.Member.Member}
use Rattle.workers.proofs.members.Member.of.Goals as goal

pub returns-clause-member : goal.returns-clause-member
returns-clause-member g c = λ run board at.
    let e = c.in_ok-port.ensures in
    let m : Member g.row.T.Denot g.row.T-Run.Denot g.row.T-Parcel.Denot =
    record { part = c.args.part; port = c.in_ok-port.port; stopped = false } in
    goes_on (g.T.Part.net run).end g.T.Part.borders g.T.Part.nothing g.T.Part.see g.T.Part.stands g.T.Part.spent g.T.Part.right run
    c.args.board.now m refl
    (starts (g.T.Part.net run).end g.T.Part.borders g.T.Part.nothing g.T.Part.see g.T.Part.stands g.T.Part.right run c.args.board.now m
    c.args.number
    e.port.0 e.port.1 e.port.2 e.awaited e.counts.1 e.counts.2 at)
