use Rattle.std.proofs.Common.{◌∙◌, List, length, map, sym, ap, subst}
use Rattle.scoring.specs.{Tables.scoring_rows, Taken.first_kind_of, declared.scorer.Scorer.Scorer}
use Rattle.day_scores.{proofs.Persons.piece_comes, specs.Standing.StandFor, specs.Standing.AllCome}
use Rattle.day_scores.proofs.scorers.Scorers.take.Goals as goal

pub take_events-requires : goal.take_events-requires
take_events-requires c =
    let R = scoring_rows c.args.tables.now in
    let es = c.args.events.now in
    let taken = c.requires.0 in (
      taken,
      subst (λ (ss : List Scorer). StandFor R ss taken) (sym c.self.view_is) c.requires.2,
      subst (λ (ss : List Scorer). AllCome (length ss) taken es) (sym c.self.view_is)
          (piece_comes (length c.args.self.now) taken es c.requires.1 c.requires.3),
    )

pub returns-clause-kinds : goal.returns-clause-kinds
returns-clause-kinds c = c.take_events.ensures.kinds ∙ ap (λ (ss : List Scorer). map first_kind_of ss) c.self.view_is

pub returns-clause-stand : goal.returns-clause-stand
returns-clause-stand c = λ taken rest stand scored.
    let R = scoring_rows c.args.tables.now in
    let es = c.args.events.now in
    c.take_events.ensures.stand taken (subst (λ (ss : List Scorer). StandFor R ss taken) (sym c.self.view_is) stand)
    (subst (λ (ss : List Scorer). AllCome (length ss) taken es) (sym c.self.view_is)
    (piece_comes (length c.args.self.now) taken es rest scored))
