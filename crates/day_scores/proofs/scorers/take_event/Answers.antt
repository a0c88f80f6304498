use Rattle.std.proofs.{Common.◌<◌, Common.length, Common.refl, Common.sym, Common.subst, Common.ap, Common.◌∙◌, Common.arith, lemmas.Bool.eq-eqb}
use Rattle.scoring.specs.{Tables.scoring_rows, Taken.first_kind_of, Taken.IsTakenBy, declared.scorer.Scorer.Scorer}
use Rattle.events.specs.Persons.{own_events}
use Rattle.day_scores.proofs.{Persons.himself, Standing.person_named, Standing.kinds-set}
use Rattle.day_scores.proofs.scorers.take_event.Goals as goal

pub returns-clause-kinds : goal.returns-clause-kinds
returns-clause-kinds c =
    let ss = c.args.scorers.now.items in
    let there : c.in-Some.person < length ss = omega (arith, c.len.ensures) in
    kinds-set ss c.in-Some.person c.index.result.now c.take.new.self there (c.take.ensures.kind ∙ ap first_kind_of c.index.ensures)

pub returns-clause-stand : goal.returns-clause-stand
returns-clause-stand c = λ taken stand may.
    let R = scoring_rows c.args.tables.now in
    let ss = c.args.scorers.now.items in
    let i = c.in-Some.person in
    let there : i < length ss = omega (arith, c.len.ensures) in
    let his = himself i i c.args.event.now c.in-Some.is (eq-eqb i i refl) in
    let before = subst (λ (s : Scorer). IsTakenBy R s (own_events i taken)) (sym c.index.ensures)
    (stand.each i c.index.result.now there) in
    person_named R ss taken c.args.event.now i c.take.new.self c.in-Some.is there
    (c.take.ensures.stands (own_events i taken) before (may.follows i there his)) stand
