-- The plans of a file without a fault fit the town.
use Rattle.scenario.proofs.{AllFit.all_meet, Common.◌≡◌, Common.List, Common.ℕ, Common.map, Common.sym, Common.ap, Common.length, Common.refl, Common.None}
use Rattle.scenario.proofs.Common.{true, IsSound, PlanFileRows, Tables, ends_of, NetworkRows, ScheduleRows, leg_checks_in, plans_cross_fault, town_of, all_fit}
use Rattle.scenario.proofs.{Common.AreThere, Common.plan_in_town, Common.all_plans_fault, Common.Values, Common.TownRows, LegFits.Meets, Told.file_none}
use Rattle.std.specs.List.{AllByRecursion as Each}
use Rattle.edge_files.specs.declared.files.InFile.TheVariants as file
use Rattle.plans.proofs.Shapes.{IsPlan}
use Rattle.rows.specs.Greens.{Phases}

meets : (v : Values) (R : NetworkRows) (P : PlanFileRows) (S : ScheduleRows) (G : List Phases) → AreThere (length S.lines) (leg_checks_in P S) → length R.link_names ≡ length R.links
    → Meets (town_of v R P.persons P.kinds S G) (leg_checks_in P S) (record { kinds = P.kinds; lines = P.lines; stops = P.stops; links = R.link_names }) (ends_of R.links)
unfolding town_of leg_checks_in
meets v R P S G there each = record { there = there; same_stops = refl; same_routes = refl; same_links = sym each; same_kinds = refl; same_ends = refl; settled = λ here there. refl }

pub plans_fit : (v : Values) (R : NetworkRows) (P : PlanFileRows) (S : ScheduleRows) (G : List Phases) → AreThere (length S.lines) (leg_checks_in P S) → length R.link_names ≡ length R.links → IsSound R.link_names (ends_of R.links) P → Each (Each IsPlan) P.plans
    → plans_cross_fault P S ≡ None → all_fit (town_of v R P.persons P.kinds S G) (map (map (plan_in_town (leg_checks_in P S).numbers)) P.plans) ≡ true
unfolding plans_cross_fault
plans_fit v R P S G there each sound kept none =
    let tables : Tables = record { kinds = P.kinds; lines = P.lines; stops = P.stops; links = R.link_names } in
    all_meet (town_of v R P.persons P.kinds S G) (leg_checks_in P S) tables (ends_of R.links) (meets v R P S G there each) P.starts P.plans sound.sound kept
    (file_none file.Plans (all_plans_fault (leg_checks_in P S) P.starts P.plans) none)

pub persons_are : (v : Values) (R : NetworkRows) (persons kinds : List (List ℕ)) (S : ScheduleRows) (G : List Phases) (T : TownRows) → T ≡ town_of v R persons kinds S G → T.book.persons ≡ persons
unfolding town_of
persons_are v R persons kinds S G T is = ap (λ (t : TownRows). t.book.persons) is
