-- A day can be written with its scores.
use Rattle.traffic.proofs.Common.{◌≡◌, ℕ, List, ◌∙◌, length, ap, length-map, map, Event, PlanRows}
use Rattle.std.specs.Prelude.{ℤ}
use Rattle.day_scores.{proofs.Ending.scores-count, specs.Scores.first_kind, specs.Scores.scores_of}
use Rattle.scoring.specs.Tables.{ScoringRows}
use Rattle.town.specs.{Views.rows_of, declared.town.Town.Town}
use Rattle.iterations.specs.Runs.{HasNames}

-- as many scores as plans
pub scores_each : (R : ScoringRows) (plans : List PlanRows) (kinds : List ℕ) (events : List Event) (scores : List ℤ) → kinds ≡ map first_kind plans
    → scores ≡ scores_of R kinds events → length scores ≡ length plans
scores_each R plans kinds events scores kinds_are scores_are =
    ap (λ (l : List ℤ). length l) scores_are ∙ scores-count R kinds events ∙ ap (λ (l : List ℕ). length l) kinds_are ∙ length-map plans first_kind

-- the names of a town
pub town_names : (town : Town) → HasNames (rows_of town)
town_names town = record {
  links = ap (λ (names : List (List ℕ)). length names) town.named.links ∙ town.network.each_link;
  stops = ap (λ (names : List (List ℕ)). length names) town.named.stops ∙ town.stops.each;
}
