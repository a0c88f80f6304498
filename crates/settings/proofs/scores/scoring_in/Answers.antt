use Rattle.std.proofs.Common.{sym, ◌∙◌}
use Rattle.serde_json.specs.View.{members_view}
use Rattle.settings.{proofs.ScoringRead.scoring_told, specs.Scoring.costs_of}
use Rattle.settings.proofs.scores.scoring_in.Goals as goal

pub returns-in-Ok-Some : goal.returns-in-Ok-Some
returns-in-Ok-Some c =
    scoring_told c.with_tables.result (members_view c.args.settings.now.entries) (costs_of c.in-Ok.costs) c.in-Ok-Some.tables c.in-Ok.ensures.good.0 c.in-Ok.ensures.good.1
    (sym c.in-Ok-Some.field-0-is ∙ c.in-Ok-Some.ensures.tables) c.with_tables.ensures
