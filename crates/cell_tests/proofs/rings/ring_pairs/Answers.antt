use Rattle.std.proofs.Common.{◌≡◌, ◌-◌, subst, arith}
use Rattle.cell_tests.proofs.Pairs.{AreRing, ring_is, ring_more, ring_one}
use Rattle.cell_tests.proofs.rings.ring_pairs.Goals as goal

pub loop-p-init : goal.loop-p-init
loop-p-init c = ring_one c.args.count c.args.there c.args.back c.new-pairs.result.items c.push.new.self.items c.new-pairs.ensures.items
    c.in_ok-push.ensures.items

pub loop-p-preserved : goal.loop-p-preserved
loop-p-preserved c = ring_more c.args.count c.args.there c.args.back c.loop-p.p c.loop-p.pairs.items c.push-in-loop-p.new.self.items
    c.loop-p.invariant c.in_ok-push-2.ensures.items

pub returns : goal.returns
returns c = let a = c.args in let all : c.loop-p.p ≡ a.count - 1 = omega arith in
    ring_is a.count a.there a.back c.requires.count.0 c.loop-p.pairs.items
    (subst (λ n. AreRing a.count a.there a.back n c.loop-p.pairs.items) all c.loop-p.invariant)
    c.requires.there.0 c.requires.there.1 c.requires.back.0 c.requires.back.1
