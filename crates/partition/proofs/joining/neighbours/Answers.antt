use Rattle.std.{proofs.Common.◌≡◌, proofs.Common.◌++◌, proofs.Common.arith, proofs.Common.subst, specs.Prelude.filter}
use Rattle.town.specs.Views.{setup}
use Rattle.partition.{proofs.Pairs.pairs_more, proofs.Pairs.pairs_are, specs.Neighbours.is_joined, specs.Neighbours.pairs_from, specs.Owned.owner_in}
use Rattle.partition.proofs.joining.neighbours.Goals as goal

pub loop-lesser-preserved : goal.loop-lesser-preserved
loop-lesser-preserved c =
    let table = c.in_ok-joined.joined.items in
    let parts = c.args.owner.now.parts in
    let k = c.loop-lesser.lesser in
    pairs_more table parts k c.loop-lesser.pairs.items c.push_pairs.new.pairs.items c.loop-lesser.invariant
    (subst (λ t. c.push_pairs.new.pairs.items ≡ c.loop-lesser.pairs.items ++ filter (is_joined t) (pairs_from parts k)) c.deref.ensures.value c.in_ok-push_pairs.ensures)

pub returns : goal.returns
returns c =
    let a = c.loop-lesser-test.false in
    let b = c.loop-lesser.auto.lesser-end in
    pairs_are (setup c.args.day.now) (owner_in c.args.owner.now.of_node) c.in_ok-joined.joined.items c.args.owner.now.parts c.loop-lesser.lesser c.loop-lesser.pairs.items
    c.args.owner.now.few (omega (arith, a, b)) c.in_ok-joined.ensures.1 c.loop-lesser.invariant
