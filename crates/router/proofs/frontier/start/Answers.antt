use Rattle.std.proofs.Common.{ℕ, List, [], length, Option, None, ap, subst, ◌∙◌}
use Rattle.std.proofs.lemmas.List.{length-replicate}
use Rattle.router.specs.Frontiers.{IsFrontier}
use Rattle.router.proofs.frontier.start.Goals as goal

pub returns-clause-search : goal.returns-clause-search
returns-clause-search c ends arrive =
    subst (λ (n : ℕ). IsFrontier n ends arrive c.in_ok-frontier.frontier [])
    (ap (λ (ls : List (Option ℕ)). length ls) c.in_ok-labels.ensures ∙ length-replicate {A = Option ℕ} c.args.nodes None)
    (c.in_ok-frontier.ensures.search ends arrive)
