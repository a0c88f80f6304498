-- What is reported of the routes of files without a fault.
use Rattle.std.proofs.Common.{◌≡◌, ◌∙◌, ℕ, List, [], ◌∷◌, length, Option, None, Some, refl, sym, ap, subst}
use Rattle.std.specs.Prelude.{◌↔◌}
use Rattle.edge_files.specs.declared.effects.Effect.{Effect}
use Rattle.edge_files.specs.declared.effects.Effect.TheVariants as effect
use Rattle.rows.specs.Joined.{ends_of}
use Rattle.walks.specs.Walks.{AreWithin}
use Rattle.router.proofs.Graphs.{network_within}
use Rattle.town.specs.declared.town.Town.{Town}
use Rattle.route_report.proofs.Reports.{none_is, report_is}
use Rattle.route_report.specs.{Report.RoadMap, Report.map_of, Report.route_text, Reported.NoWay}
use Rattle.scenario.specs.{FilesToScenario.ScenarioRows, FilesToScenario.scenario_fault, FilesToScenario.scenario_rows, Texts.Texts}
use Rattle.law_valid_files.{proofs.Valid.scenario_valid, specs.Valid.IsScenario}
use Rattle.qsim_top.specs.Answer.{IsAnswer, road_map, roads_of, report, route_or_none}
use Rattle.qsim_top.specs.{Laws.ReportsRoutes, declared.answers.Answer.Answer}
use Rattle.qsim_top.specs.declared.answers.Status.TheVariants as status

-- there is no way exactly where there is no text
no_way_is : (text : Option (List ℕ)) (P : Type 0) → ((text ≡ None) ↔ P) → (((route_or_none text).status ≡ status.NoWay) ↔ P)
no_way_is None P same = (λ is. same.0 refl, λ p. refl)
no_way_is (Some text) P same =
    (λ is. let bad : status.Done ≡ status.NoWay = is in absurd (cc bad), λ p. let bad : Some text ≡ None = same.1 p in absurd (cc bad))

-- the text of the first effect
abbrev first_text : List Effect → List ℕ
first_text [] = []
first_text (effect.Write file text ∷ effects) = text
first_text (effect.Save iteration rows ∷ effects) = []

-- a text that is reported as done is that of the route
text_is : (route : Option (List ℕ)) (text : List ℕ) → route_or_none route ≡ report status.Done text → route ≡ Some text
text_is None text is =
    let bad : status.NoWay ≡ status.Done = ap (λ (a : Answer). a.status) is in
    absurd (cc bad)
text_is (Some route) text is = ap (λ (t : List ℕ). Some t) (ap (λ (a : Answer). first_text a.effects) is)

reports : (S : ScenarioRows) → IsScenario S → ReportsRoutes S
reports S valid =
    let inside : AreWithin (length S.node_names) (ends_of S.town.links) =
    subst (λ (n : ℕ). AreWithin n (ends_of S.town.links)) (sym valid.each_node) (network_within (length S.town.nodes) S.town.links valid.town.links) in
    record {
      no_way = λ from to second. no_way_is (route_text (road_map S) from to second) (NoWay (road_map S) from to)
          (none_is (road_map S) from to second inside);
      least = λ from to second text is. report_is (road_map S) from to second inside text
          (text_is (route_text (road_map S) from to second) text is);
    }

pub files_report : (texts : Texts) → scenario_fault texts ≡ None → ReportsRoutes (scenario_rows texts)
files_report texts none = reports (scenario_rows texts) (scenario_valid texts none)

-- the text of a route on a town's network is that by the names of its book
pub town_route : (town : Town) (from to : List ℕ) (second : ℕ) (text : Option (List ℕ)) (a : Answer)
    → text ≡ route_text (map_of town.network) from to second → IsAnswer (route_or_none text) a
    → IsAnswer (route_or_none (route_text (roads_of town) from to second)) a
town_route town from to second text a is told =
    let roads : List (List ℕ) → RoadMap =
    λ names. record { node_names = town.network.node_names; link_names = names; links = town.network.links } in
    subst (λ (t : Option (List ℕ)). IsAnswer (route_or_none t) a)
    (is ∙ ap (λ (names : List (List ℕ)). route_text (roads names) from to second) (sym town.named.links)) told
