use Rattle.std.proofs.Common.{arith, refl, ◌∙◌}
use Rattle.person_moves.proofs.Counting.{went_on, went_through}
use Rattle.law_in_range.proofs.Dawn.{told_at_end, ends_told}
use Rattle.plain_day.proofs.days.push_ends.Goals as goal

pub push_stranded-requires-clause-there : goal.push_stranded-requires-clause-there
push_stranded-requires-clause-there c = omega (c.loop-i-test.true, c.len-i-end.ensures.count, c.requires.given.each, arith)

pub loop-i-preserved : goal.loop-i-preserved
loop-i-preserved c =
    let f = told_at_end c.args.day.now c.args.world.now in
    rw c.in_ok-push_stranded.ensures (went_on f c.loop-i.i c.len-i-end.result c.loop-i.out.items (f c.loop-i.i) _ c.loop-i-test.true refl c.loop-i.invariant)

pub returns : goal.returns
returns c =
    ends_told c.args.day.now c.args.world.now c.len-i-end.result c.args.out.now.items c.loop-i.out.items (c.len-i-end.ensures.count ∙ c.requires.given.each)
    (went_through (told_at_end c.args.day.now c.args.world.now) c.loop-i.i c.len-i-end.result c.loop-i.out.items _ c.loop-i-test.false c.loop-i.invariant)
