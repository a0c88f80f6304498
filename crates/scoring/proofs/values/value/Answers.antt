use Rattle.std.proofs.{Common.◌≡◌, Common.to_z, Common.of_z, Common.w64, Common.sym, Common.subst, Common.◌∙◌, Common.arith, lemmas.Int.ints}
use Rattle.scoring.proofs.PointsLemmas.{value-within, others_in, before_first, from_first}
use Rattle.scoring.specs.{Ranges.IsWithin, declared.TheConstants.MAX_WORTH}
use Rattle.scoring.proofs.values.value.Goals as goal

pub returns-then-seconds-first-clause-value : goal.returns-then-seconds-first-clause-value
returns-then-seconds-first-clause-value c =
    before_first c.args.points.now _ c.args.seconds c.requires.some c.requires.within c.requires.rising c.if-seconds-first.true

pub returns-then-seconds-first-clause-within : goal.returns-then-seconds-first-clause-within
returns-then-seconds-first-clause-within c =
    let same = before_first c.args.points.now _ c.args.seconds c.requires.some c.requires.within c.requires.rising c.if-seconds-first.true in
    subst (IsWithin MAX_WORTH) (sym same) (value-within c.args.points.now c.args.seconds c.requires.some c.requires.within c.requires.rising)

pub along-requires-clause-later_in : goal.along-requires-clause-later_in
along-requires-clause-later_in c = others_in c.args.points.now c.requires.within

pub returns-clause-value : goal.returns-clause-value
returns-clause-value c =
    let same : to_z w64 (of_z w64 c.along.result) ≡ c.along.result = omega (arith, ints) in
    same ∙ c.along.ensures ∙ from_first c.args.points.now _ c.args.seconds c.requires.some c.requires.rising c.if-seconds-first.false

pub returns-clause-within : goal.returns-clause-within
returns-clause-within c =
    let same : to_z w64 (of_z w64 c.along.result) ≡ c.along.result = omega (arith, ints) in
    let is = same ∙ c.along.ensures ∙ from_first c.args.points.now _ c.args.seconds c.requires.some c.requires.rising c.if-seconds-first.false in
    subst (IsWithin MAX_WORTH) (sym is) (value-within c.args.points.now c.args.seconds c.requires.some c.requires.within c.requires.rising)
