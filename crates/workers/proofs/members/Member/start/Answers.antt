use Rattle.std.proofs.Common.{arith}
use Rattle.workers.proofs.members.Member.start.Goals as goal

pub of-requires-clause-there : goal.of-requires-clause-there
of-requires-clause-there g c κs within =
    let many = c.requires.board.many in
    let there = c.requires.there in
    omega (arith, many, there)

pub returns-clause-member : goal.returns-clause-member
returns-clause-member g c = c.in_ok-member.ensures.member c.args.run.now c.requires.board c.in_ok-part.ensures
