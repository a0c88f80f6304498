use Rattle.std.proofs.Common.{◌<◌, get_or, length, length-take, take, sym, subst, ◌∙◌, below_more, arith}
use Rattle.std.proofs.lemmas.List.{take_more, get_or_default}
use Rattle.events.specs.declared.event.Event.{Event}
use Rattle.scoring.proofs.{MayLemmas.few_follow, days.score_of.Goals.then-place-ge-MAX_EVENTS-via-then-place-ge-MAX_EVENTS}
use Rattle.scoring.{proofs.days.score_of.Goals.then-place-ge-MAX_EVENTS-via-else-place-ge-MAX_EVENTS+then-not-may_take, specs.Tables.scoring_rows}
use Rattle.scoring.specs.Taken.{MayFollow, IsTakenBy}
use Rattle.scoring.proofs.days.score_of.Goals as goal

pub loop-place-init : goal.loop-place-init
loop-place-init c = (c.new-scorer.ensures.kind, c.new-scorer.ensures.stands (scoring_rows c.args.tables.now), λ k none d. absurd (omega arith))

pub returns-then-place-ge-MAX_EVENTS-clause-all : goal.returns-then-place-ge-MAX_EVENTS-clause-all
returns-then-place-ge-MAX_EVENTS-clause-all c = (
  (λ no. cc),
  (λ all. elim c.then-place-ge-MAX_EVENTS.branch [
    | then-place-ge-MAX_EVENTS-via-then-place-ge-MAX_EVENTS w ↦
        absurd (let few = few_follow c.args.events.now c.loop-place.place c.loop-place-test.true all in omega arith)
    | then-place-ge-MAX_EVENTS-via-else-place-ge-MAX_EVENTS+then-not-may_take w ↦
        (let few : length (take c.loop-place.place c.args.events.now) < 64 = omega (arith, length-take c.loop-place.place c.args.events.now) in
        let told = (w.may_take.ensures (scoring_rows c.args.tables.now) (take c.loop-place.place c.args.events.now) c.loop-place.invariant.1 few).1
        (all c.loop-place.place c.loop-place-test.true _) in
        cc)
  ]),
)

pub loop-place-preserved : goal.loop-place-preserved
loop-place-preserved c =
    let few : length (take c.loop-place.place c.args.events.now) < 64 = omega (arith, length-take c.loop-place.place c.args.events.now) in
    let follows = (c.may_take.ensures (scoring_rows c.args.tables.now) (take c.loop-place.place c.args.events.now) c.loop-place.invariant.1 few).0 c.if-not-may_take.false in (
      c.take.ensures.kind ∙ c.loop-place.invariant.0,
      subst (IsTakenBy (scoring_rows c.args.tables.now) c.take.new.self) (sym (take_more c.args.events.now c.loop-place.place _ c.loop-place-test.true))
          (c.take.ensures.stands (take c.loop-place.place c.args.events.now) c.loop-place.invariant.1 follows),
      below_more (λ k. (d : Event) → MayFollow (take k c.args.events.now) (get_or c.args.events.now k d)) c.loop-place.place c.loop-place.invariant.2
          (λ d. subst (MayFollow (take c.loop-place.place c.args.events.now))
          (get_or_default c.args.events.now c.loop-place.place _ d c.loop-place-test.true) follows),
    )
