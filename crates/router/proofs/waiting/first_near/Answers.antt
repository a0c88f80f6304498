use Rattle.std.proofs.Common.{arith, map, Vec, Global}
use Rattle.router.{proofs.Ringing.ring_first, proofs.Ringing.ring_passed, specs.declared.waiting.Entry.Entry}
use Rattle.router.proofs.waiting.first_near.Goals as goal

pub returns-in-Some-clause-some : goal.returns-in-Some-clause-some
returns-in-Some-clause-some c =
    (ring_first c.args.from c.in-Some.second c.bucket_of-place.result c.loop-passed.passed
    (map (λ (bucket : Vec Entry Global). bucket.items) c.args.buckets.now) c.requires.ring
    (let value = c.bucket_of-place.ensures.value in omega arith)
    (let few = c.requires.count in let less = c.loop-passed-test.true in omega arith)
    c.loop-passed.invariant c.in-Some.ensures.some).0

pub returns-in-Some-clause-before : goal.returns-in-Some-clause-before
returns-in-Some-clause-before c =
    let at = (ring_first c.args.from c.in-Some.second c.bucket_of-place.result c.loop-passed.passed
    (map (λ (bucket : Vec Entry Global). bucket.items) c.args.buckets.now) c.requires.ring
    (let value = c.bucket_of-place.ensures.value in omega arith)
    (let few = c.requires.count in let less = c.loop-passed-test.true in omega arith)
    c.loop-passed.invariant c.in-Some.ensures.some).1 in
    let less = c.loop-passed-test.true in
    omega arith

pub returns-clause-none : goal.returns-clause-none
returns-clause-none c =
    let done = c.loop-passed-test.false in
    ring_passed c.args.from c.args.count (map (λ (bucket : Vec Entry Global). bucket.items) c.args.buckets.now) c.requires.ring
    (λ j within. c.loop-passed.invariant j (omega arith))
