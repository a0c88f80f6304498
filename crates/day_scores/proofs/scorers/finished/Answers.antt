use Rattle.std.proofs.{Common.◌≡◌, Common.◌++◌, Common.◌∷◌, Common.[], Common.ℤ, Common.ap, Common.◌∙◌, lemmas.List.Elements.All-push}
use Rattle.events.specs.Persons.{own_events}
use Rattle.scoring.specs.{Ranges.IsWithin, Tables.scoring_rows, declared.TheConstants.MAX_SCORE}
use Rattle.day_scores.{proofs.Ending.scores-more, proofs.Ending.scores-all, proofs.Ending.score-code, specs.Scores.scores_of}
use Rattle.day_scores.proofs.scorers.finished.Goals as goal

pub finish-score-requires : goal.finish-score-requires
finish-score-requires c = (own_events c.loop-scorer.scorer-index c.requires.0, c.requires.1.each c.loop-scorer.scorer-index _ c.loop-scorer-test.true)

pub loop-scorer-preserved : goal.loop-scorer-preserved
loop-scorer-preserved c =
    let R = scoring_rows c.args.tables.now in
    let i = c.loop-scorer.scorer-index in
    let score = c.finish-score.result in
    let pushed : c.push.new.self.items ≡ c.loop-scorer.scores.items ++ score ∷ [] =
    c.in_ok-push.ensures.items ∙ ap (λ (z : ℤ). c.loop-scorer.scores.items ++ z ∷ []) (score-code score c.finish-score.ensures.small) in
    rw pushed (
      (λ taken stand.
          scores-more R taken c.args.scorers.now i _ score c.loop-scorer.scores.items _ c.loop-scorer-test.true
          (c.finish-score.ensures.score (own_events i taken) (stand.each i _ c.loop-scorer-test.true)) (c.loop-scorer.invariant.0 taken stand)),
      All-push (IsWithin MAX_SCORE) c.loop-scorer.scores.items score c.loop-scorer.invariant.1 c.finish-score.ensures.small,
    )

pub returns-clause-scores : goal.returns-clause-scores
unfolding scores_of
returns-clause-scores c = λ taken stand. scores-all (scoring_rows c.args.tables.now) taken c.args.scorers.now c.loop-scorer.scorer-index c.loop-scorer.scores.items _ c.loop-scorer-test.false (c.loop-scorer.invariant.0 taken stand)
