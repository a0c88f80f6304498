use Rattle.std.proofs.Common.{◌≡◌, ◌++◌, List, length, map, take, refl, sym, subst, ◌∙◌, append-nil}
use Rattle.std.proofs.lemmas.List.{length-map, take_all}
use Rattle.events.specs.declared.event.Event.{Event}
use Rattle.scoring.specs.{Tables.scoring_rows, Taken.first_kind_of}
use Rattle.day_scores.{proofs.Standing.kinds-count, proofs.Standing.come-more, proofs.Standing.come-next, specs.Standing.StandFor}
use Rattle.day_scores.proofs.scorers.take_events.Goals as goal

pub loop-event-init : goal.loop-event-init
loop-event-init c = record {
  kinds = refl;
  stand = λ taken stand come.
      subst (StandFor (scoring_rows c.args.tables.now) c.args.scorers.now.items) (sym (append-nil taken)) stand;
}

pub take_event-requires : goal.take_event-requires
take_event-requires c =
    let first = c.args.scorers.now.items in
    let ss = c.loop-event.scorers.items in
    let i = c.loop-event.event-index in
    let here = c.loop-event-test.true in
    let taken = c.requires.0 in
    let count : length first ≡ length ss =
    sym (length-map first first_kind_of) ∙ kinds-count ss (map first_kind_of first) c.loop-event.invariant.kinds in (
      taken ++ take i c.args.events.now,
      c.loop-event.invariant.stand taken c.requires.1 c.requires.2,
      come-next (length first) (length ss) taken c.args.events.now i _ here count c.requires.2,
    )

pub loop-event-preserved : goal.loop-event-preserved
loop-event-preserved c =
    let first = c.args.scorers.now.items in
    let ss = c.loop-event.scorers.items in
    let i = c.loop-event.event-index in
    let here = c.loop-event-test.true in
    let count : length first ≡ length ss =
    sym (length-map first first_kind_of) ∙ kinds-count ss (map first_kind_of first) c.loop-event.invariant.kinds in
    record {
      kinds = c.take_event.ensures.kinds ∙ c.loop-event.invariant.kinds;
      stand = λ taken stand come.
          come-more (scoring_rows c.args.tables.now) ss c.take_event.new.scorers.items (length first) taken c.args.events.now i _ here
          count come (c.loop-event.invariant.stand taken stand come) c.take_event.ensures.stand;
    }

pub returns-clause-stand : goal.returns-clause-stand
returns-clause-stand c = λ taken stand come.
    let R = scoring_rows c.args.tables.now in
    subst (λ (es : List Event). StandFor R c.loop-event.scorers.items (taken ++ es))
    (take_all c.loop-event.event-index c.args.events.now c.loop-event-test.false) (c.loop-event.invariant.stand taken stand come)
