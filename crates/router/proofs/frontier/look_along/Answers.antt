use Rattle.std.proofs.Common.{ℕ, ap, ◌∙◌}
use Rattle.walks.specs.Rounds.{label_at}
use Rattle.router.proofs.Stars.{spoke_starts}
use Rattle.router.proofs.frontier.look_along.Goals as goal

pub look-requires-clause-left : goal.look-requires-clause-left
look-requires-clause-left c =
    ap (λ (n : ℕ). label_at c.loop-place.frontier.labels.items n)
    (spoke_starts c.args.adjacency.now.nodes c.args.adjacency.now.ends c.out_of-links.result.now c.loop-place.place c.args.node
    c.loop-place-test.true
    c.out_of-links.ensures.each) ∙ c.loop-place.invariant.left
