use Rattle.std.proofs.Common.{ℕ, List, length, sym, ◌∙◌, ap, arith}
use Rattle.iterations.{proofs.PlanLines.own_end, proofs.PlanLines.written_count, specs.Written.written_plans}
use Rattle.iterations.proofs.ends.push_own.Goals as goal

pub returns : goal.returns
returns c =
    sym (own_end c.args.town.now.book c.args.person c.loop-index.index (written_plans c.args.memory.now) c.loop-index.text.items
    (omega (arith, written_count c.args.memory.now, ap (λ (ps : List ℕ). length ps) c.in_ok-places.ensures, c.len-index-end.ensures, c.loop-index-test.false)))
    ∙ c.loop-index.invariant
