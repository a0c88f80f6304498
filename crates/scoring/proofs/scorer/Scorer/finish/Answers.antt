use Rattle.std.proofs.Common.{lit≤, ◌+ℤ◌, ℤ, ap, ◌∙◌}
use Rattle.scoring.{proofs.Bounds.code_sum, proofs.Bounds.wider, proofs.Finishing.score_is, proofs.Taking.sum_small, specs.Tables.scoring_rows}
use Rattle.scoring.proofs.scorer.Scorer.finish.Goals as goal

pub returns-clause-score : goal.returns-clause-score
returns-clause-score c = λ taken stands.
    code_sum c.args.self.sum c.last_worth.result
    (wider 78000000000000 2000000000000000000 c.args.self.sum (lit≤ tt) (sum_small (scoring_rows c.args.tables.now) c.args.self taken stands))
    (wider 2000000000000 2000000000000000000 c.last_worth.result (lit≤ tt) c.last_worth.ensures.within)
    ∙ ap (λ (z : ℤ). c.args.self.sum +ℤ z) c.last_worth.ensures.value ∙ score_is (scoring_rows c.args.tables.now) c.args.self taken stands
