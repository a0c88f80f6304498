use Rattle.std.proofs.{Common.◌++◌, Common.◌∷◌, Common.[], Common.sym, Common.subst, Common.arith, lemmas.Int.ints}
use Rattle.scoring.proofs.Taking.{taken_more, sum_small, first_kind-with_event}
use Rattle.scoring.specs.{Tables.scoring_rows, Taken.IsTakenBy, declared.scorer.Scorer.Scorer}
use Rattle.scoring.proofs.scorer.Scorer.take.Goals as goal

pub with_event-requires-clause-small : goal.with_event-requires-clause-small
with_event-requires-clause-small c =
    let h = sum_small (scoring_rows c.args.tables.now) c.args.self.now c.requires.0 c.requires.1 in
    let h0 = h.0 in let h1 = h.1 in (omega (arith, ints), omega (arith, ints))

pub returns-clause-kind : goal.returns-clause-kind
returns-clause-kind c = rw (c.with_event.ensures) (first_kind-with_event (scoring_rows c.args.tables.now) c.args.self.now c.args.event.now.word c.args.event.now.more c.args.event.now.key.second)

pub returns-clause-stands : goal.returns-clause-stands
returns-clause-stands c = λ taken stands follows.
    subst (λ (s : Scorer). IsTakenBy (scoring_rows c.args.tables.now) s (taken ++ c.args.event.now ∷ [])) (sym c.with_event.ensures)
    (taken_more c.args.tables.now c.args.self.now taken c.args.event.now stands follows)
