use Rattle.std.proofs.{Common.◌≡◌, Common.to_z, Common.of_z, Common.w64, Common.sym, Common.◌∙◌, Common.arith, lemmas.Int.ints}
use Rattle.scoring.proofs.{Bounds.code_same, Lines.point-within, PointsLemmas.point_at, PointsLemmas.along-stop, PointsLemmas.along-go, PointsLemmas.along-end}
use Rattle.scoring.proofs.values.along.Goals as goal

pub returns-then-seconds-next : goal.returns-then-seconds-next
returns-then-seconds-next c =
    let same : to_z w64 (of_z w64 c.on_line.result) ≡ c.on_line.result = omega (arith, ints) in
    same ∙ c.on_line.ensures ∙ sym (along-stop c.loop-next.before c.args.later.now c.loop-next.next-index c.args.seconds _ c.loop-next-test.true c.if-seconds-next.true)
    ∙ sym c.loop-next.invariant.2

pub loop-next-preserved : goal.loop-next-preserved
loop-next-preserved c = (
  c.if-seconds-next.false,
  point_at c.args.later.now c.loop-next.next-index _ c.requires.later_in c.loop-next-test.true,
  c.loop-next.invariant.2 ∙ along-go c.loop-next.before c.args.later.now c.loop-next.next-index c.args.seconds _ c.loop-next-test.true c.if-seconds-next.false,
)

pub returns : goal.returns
returns c =
    let f = point-within c.loop-next.before c.loop-next.invariant.1 in let f0 = f.0 in let f1 = f.1 in
    code_same c.loop-next.before.1 (omega (arith, ints), omega (arith, ints))
    ∙ sym (along-end c.loop-next.before c.args.later.now c.loop-next.next-index c.args.seconds c.loop-next-test.false) ∙ sym c.loop-next.invariant.2
