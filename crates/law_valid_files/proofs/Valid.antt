-- Files without a fault give a scenario of which a run can be made.
use Rattle.std.proofs.Common.{◌≡◌, ℕ, ◌<◌, ◌≤◌, true, List, length, map, None, refl, ◌∙◌, subst}
use Rattle.std.{proofs.lemmas.List.length-map, proofs.lemmas.List.Elements.All-from_recursion, specs.List.list_all}
use Rattle.edge_files.specs.declared.files.InFile.TheVariants as file
use Rattle.records.{proofs.Unrefused.no_reason, specs.Faults.fault_at, specs.Files.body_of}
use Rattle.network.specs.{Links.links_fault, Nodes.node_names}
use Rattle.plan_memory.specs.Memories.{first_memory}
use Rattle.plans.{proofs.AllRows.AreFreePlans, proofs.AllRows.plans_free, specs.Values.PlanFileRows, specs.Values.plans_fault}
use Rattle.rows.specs.{Greens.Phases, Joined.ends_of, Schedules.is_stop, Schedules.is_route, Settings.AreInRange}
use Rattle.settings.specs.{Faults.FileValues, Faults.settings_fault, Faults.file_of, Values.Values}
use Rattle.signals.proofs.Steps.{greens_length}
use Rattle.town.specs.Rows.{IsTown}
use Rattle.law_replanning.specs.Memories.{IsMemoryIn}
use Rattle.scenario.proofs.Filled.{filled_sound, filled_kept}
use Rattle.scenario.proofs.{Free.free_files, FreeSchedules.schedule_free, RowByRow.same_crossing, Settling.plans_fit, There.are_there, Told.bytes_free}
use Rattle.scenario.specs.FilesToScenario.{NetworkRows, ScheduleRows, IsSchedule, leg_checks_in, town_of, persons_on, schedule_rows_of, signals_on, planned_of}
use Rattle.scenario.specs.FilesToScenario.{filled_in, scenario_of, on_network, network_rows_of, plans_cross_fault, scenario_fault, scenario_rows}
use Rattle.scenario.specs.{Fitting.all_fit, LegChecks.AreThere, Legs.numbers_in, Legs.plan_in_town, Texts.Texts, Texts.bytes_in}
use Rattle.router.proofs.Graphs.{network_within}
use Rattle.law_valid_files.proofs.{NetworkRows.AreNetworkRows, NetworkRows.network_free, Numbers.AreSound, Numbers.settings_free, Persons.all_in_town}
use Rattle.law_valid_files.{proofs.Persons.each_memory, proofs.Persons.each_first, specs.Valid.IsScenario, specs.Valid.IsFirst}

-- THE TOWN
town_is : (v : Values) (network : NetworkRows) (persons kinds : List (List ℕ)) (t : ScheduleRows) (greens : List Phases) → AreInRange v.traffic → AreNetworkRows network → IsSchedule (length network.link_names) (ends_of network.links) t → length persons ≤ 65536
    → length greens ≡ length network.links → IsTown (town_of v network persons kinds t greens)
unfolding town_of
town_is v network persons kinds t greens settings r s few each_green = record {
  settings = settings;
  few_persons = few;
  few_links = r.few;
  links = r.links;
  few_stops = s.few_stops;
  stops = subst (λ (n : ℕ). list_all (is_stop n) t.stops ≡ true) r.each_link s.stops;
  few_routes = s.few_routes;
  routes = subst (λ (n : ℕ). list_all (is_route (length t.lines) n (ends_of network.links) t.stops) t.routes ≡ true) r.each_link s.routes;
  few_departures = s.few_departures;
  departures = s.departures;
  greens = each_green;
}

persons_named : (v : Values) (network : NetworkRows) (persons kinds : List (List ℕ)) (t : ScheduleRows) (greens : List Phases) → length persons ≡ length (town_of v network persons kinds t greens).book.persons
unfolding town_of
persons_named v network persons kinds t greens = refl

nodes_are : (v : Values) (network : NetworkRows) (persons kinds : List (List ℕ)) (t : ScheduleRows) (greens : List Phases)
    → length network.nodes ≡ length (town_of v network persons kinds t greens).nodes
unfolding town_of
nodes_are v network persons kinds t greens = refl

-- THE PLANS
all_there : (P : PlanFileRows) (links : ℕ) (ends : List (ℕ × ℕ)) (t : ScheduleRows) → IsSchedule links ends t → AreThere (length t.lines) (leg_checks_in P t)
unfolding leg_checks_in
all_there P links ends t s = record {
  lines = λ n k h. are_there P.lines t.lines (numbers_in P.lines t.lines) refl n k h;
  stops = λ n k h. subst (λ (count : ℕ). k < count) s.each_stop (are_there P.stops t.stop_names (numbers_in P.stops t.stop_names) refl n k h);
}

-- plans whose routes are filled
planned_is : (v : FileValues) (network : NetworkRows) (P : PlanFileRows) (t : ScheduleRows) (greens : List Phases) → AreSound v.day → AreNetworkRows network → AreFreePlans network.link_names (ends_of network.links) P
    → IsSchedule (length network.link_names) (ends_of network.links) t → length greens ≡ length network.links → plans_cross_fault P t ≡ None
    → IsScenario (scenario_of v (planned_of v.day network P t greens))
unfolding planned_of
planned_is v network P t greens settings r p s each_green free =
    let T = town_of v.day network P.persons P.kinds t greens in
    let N = (leg_checks_in P t).numbers in
    let plans = map (map (plan_in_town N)) P.plans in
    let memories = map first_memory plans in
    let fit : all_fit T plans ≡ true = plans_fit v.day network P t greens (all_there P (length network.link_names) (ends_of network.links) t s) r.each_link p.sound p.plans free in
    let all = all_in_town T N P.plans p.plans fit in
    record {
      town = town_is v.day network P.persons P.kinds t greens settings.traffic r s p.sound.few each_green;
      each_node = r.each_node ∙ nodes_are v.day network P.persons P.kinds t greens;
      each = length-map plans first_memory ∙ length-map P.plans (map (plan_in_town N)) ∙ p.sound.each ∙ persons_named v.day network P.persons P.kinds t greens;
      memories = All-from_recursion (IsMemoryIn T) memories (each_memory T memories all);
      first = All-from_recursion IsFirst memories (each_first T memories all);
      learning = settings.learning;
      few_iterations = settings.few_iterations;
    }

-- plans as they were read
scenario_is : (v : FileValues) (network : NetworkRows) (P : PlanFileRows) (t : ScheduleRows) (greens : List Phases) → AreSound v.day → AreNetworkRows network → AreFreePlans network.link_names (ends_of network.links) P
    → IsSchedule (length network.link_names) (ends_of network.links) t → length greens ≡ length network.links → plans_cross_fault (filled_in network P) t ≡ None
    → IsScenario (scenario_of v (planned_of v.day network (filled_in network P) t greens))
scenario_is v network P t greens settings r p s each_green free =
    let inside = network_within (length network.nodes) network.links r.links in
    planned_is v network (filled_in network P) t greens settings r (record {
      sound = filled_sound network inside P r.each_link p.sound;
      plans = filled_kept network inside P r.each_link p.sound p.plans;
    }) s each_green free

-- ALL FILES
pub scenario_valid : (texts : Texts) → scenario_fault texts ≡ None → IsScenario (scenario_rows texts)
unfolding scenario_rows on_network
scenario_valid T none =
    let free = free_files T none in
    let network = network_rows_of T in
    let ends = ends_of network.links in
    let t = schedule_rows_of network.link_names T in
    let settings = settings_free (bytes_in T file.Settings) (no_reason 0 _ (bytes_free T file.Settings (λ bytes. fault_at 0 (settings_fault bytes)) free.settings)) in
    let r = network_free T (bytes_free T file.Links (links_fault (node_names (bytes_in T file.Nodes))) free.links) in
    let inside = network_within (length network.nodes) network.links r.links in
    let p = plans_free network.link_names ends (bytes_in T file.Plans) (bytes_free T file.Plans (plans_fault network.link_names ends) free.others.persons) in
    let s = schedule_free network.link_names ends T free.others.schedule in
    let each_green = greens_length network.link_names (body_of (bytes_in T file.Signals)) ∙ r.each_link in
    scenario_is (file_of (bytes_in T file.Settings)) network (persons_on network.link_names T) t (signals_on network.link_names T).greens settings r p s each_green
    (same_crossing network T t inside r.each_link free.others.persons ∙ free.others.legs)
