use Rattle.std.proofs.Common.{◌≡◌, ◌≤◌, ◌*◌, ◌+◌, pos, ℤ, take, get_or, to_z, w64, refl, sym, subst, arith}
use Rattle.std.proofs.lemmas.{Int.ints, List.Elements.All-get_or}
use Rattle.scoring.specs.{Ranges.IsWithin, Score.total, declared.TheConstants.MAX_SCORE}
use Rattle.day_scores.proofs.Ending.{sum-more, sum-within, sum-code}
use Rattle.day_scores.proofs.sums.sum_of.Goals as goal

pub loop-score-init : goal.loop-score-init
unfolding total
loop-score-init c = (refl, (omega (arith, ints), omega (arith, ints)))

pub loop-score-preserved : goal.loop-score-preserved
loop-score-preserved c =
    let i = c.loop-score.score-index in
    let zs = c.args.scores.now in
    let z = get_or zs i (pos 0) in
    let sum = to_z w64 c.loop-score.sum-bits in
    let few : i ≤ 65536 = omega (arith, c.loop-score-test.true, c.requires.few) in
    let small : IsWithin MAX_SCORE z = All-get_or (IsWithin MAX_SCORE) zs i (pos 0) c.loop-score-test.true c.requires.within in
    let code = sum-code c.loop-score.sum-bits sum z i refl few c.loop-score.invariant.1 small in
    subst (λ (s : ℤ). (s ≡ total (take (i + 1) zs)) × IsWithin (pos (100000000000000 * (i + 1))) s) (sym code)
    (sum-more zs i (pos 0) sum c.loop-score-test.true c.loop-score.invariant.0, sum-within i sum z c.loop-score.invariant.1 small)
