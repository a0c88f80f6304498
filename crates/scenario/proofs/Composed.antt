-- What the files on network give, file by file.
use Rattle.std.proofs.Common.{◌≡◌, ◌<◌, ◌^◌, ◌∙◌, ℕ, List, length, map, Option, None, Result, Ok, refl, ap, subst, lit<}
use Rattle.std.{proofs.lemmas.List.length-map, specs.List.All}
use Rattle.records.specs.{Faults.fault_at, Files.body_of}
use Rattle.edge_files.specs.declared.files.InFile.TheVariants as file
use Rattle.rows.specs.{Joined.ends_of, Joined.ends_of_link, declared.network.LinkRow.LinkRow, declared.network.NodeRow.NodeRow}
use Rattle.network.specs.{Links.links_fault, Links.link_names, Links.link_of, Nodes.nodes_fault, Nodes.node_names, Nodes.node_of}
use Rattle.plans.specs.{Progress.IsSound, Values.PlanFileRows}
use Rattle.settings.specs.{Faults.FileValues, Faults.settings_fault, Faults.file_of, Values.Values}
use Rattle.scenario.proofs.{RowByRow.same_crossing, Told.first_stop, Told.later_stop, Told.both_none, Told.none_of}
use Rattle.scenario.specs.{Faults.fault_in, Faults.StopsAt, Faults.Tells, FilesToScenario.NetworkRows, FilesToScenario.ReadRows, FilesToScenario.IsReadOn}
use Rattle.scenario.specs.FilesToScenario.{PlannedRows, network_rows_of, schedule_rows_of, read_on, with_filled, planned_from, network_fault, persons_fault}
use Rattle.scenario.specs.FilesToScenario.{read_faults, read_fault, joint_fault, filled_fault, on_network, on_network_fault, scenario_of, scenario_on}
use Rattle.scenario.specs.{FilesToScenario.scenario_fault, FilesToScenario.scenario_rows, Texts.Texts, Texts.bytes_in, Views.planned_view, Views.scenario_view}
use Rattle.scenario.specs.declared.{faults.ScenarioFault.ScenarioFault, faults.Stop.Stop, planned.PlannedTown.PlannedTown, scenario.Scenario.Scenario}
use Rattle.walks.specs.Walks.{AreWithin}

-- THE NETWORK
-- a stop at links.csv, behind nodes.csv
pub links_told : (s : Stop) (T : Texts) (names : List (List ℕ)) → fault_in T file.Nodes nodes_fault ≡ None → names ≡ node_names (bytes_in T file.Nodes)
    → StopsAt s (fault_in T file.Links (links_fault names)) → StopsAt s (network_fault T)
unfolding network_fault
links_told s T names none is told = later_stop s _ _ none (rw (← is) told)

-- neither of the two has a fault
pub network_none : (T : Texts) (names : List (List ℕ)) → fault_in T file.Nodes nodes_fault ≡ None → names ≡ node_names (bytes_in T file.Nodes)
    → fault_in T file.Links (links_fault names) ≡ None → network_fault T ≡ None
unfolding network_fault
network_none T names none is links = both_none _ _ none (rw (← is) links)

-- and what they give
pub network_is : (T : Texts) (names : List (List ℕ)) (nodes : List NodeRow) (link_list : List (List ℕ)) (links : List LinkRow)
    → names ≡ node_names (bytes_in T file.Nodes) → nodes ≡ map node_of (body_of (bytes_in T file.Nodes)) → link_list ≡ link_names (bytes_in T file.Links) → links ≡ map (link_of names) (body_of (bytes_in T file.Links))
    → record { node_names = names; nodes = nodes; link_names = link_list; links = links } ≡ network_rows_of T
unfolding network_rows_of
network_is T names nodes link_list links a b c d = rw (d, c, b, a) refl

-- THE FILES ON A NETWORK
-- the ends are one for each name
pub ends_count : (ends : List (ℕ × ℕ)) (links : List LinkRow) (names : List (List ℕ)) → ends ≡ ends_of links → length names ≡ length links → length ends ≡ length names
unfolding ends_of
ends_count ends links names is each = rw (is, length-map links ends_of_link, each)

-- a stop at the files that are read over the network
pub read_told : (s : Stop) (R : NetworkRows) (T : Texts) (ends : List (ℕ × ℕ)) → ends ≡ ends_of R.links → StopsAt s (read_fault R.link_names ends T) → StopsAt s (on_network_fault R T)
unfolding on_network_fault
read_told s R T ends is told = rw (← is) (first_stop s _ _ told)

persons_none : (links : List (List ℕ)) (ends : List (ℕ × ℕ)) (T : Texts) → read_fault links ends T ≡ None → persons_fault links ends T ≡ None
persons_none links ends T none = none_of (read_faults links ends T) none 0 None (lit< tt)

-- what was read fits the network whose ends and names these are
pub read_sound : (R : NetworkRows) (ends : List (ℕ × ℕ)) (read : ReadRows) → ends ≡ ends_of R.links → length R.link_names ≡ length R.links
    → IsReadOn (length R.link_names) R.link_names ends read → IsReadOn (length R.links) R.link_names (ends_of R.links) read
read_sound R ends read is each fitting = rw (← is, ← each) fitting

-- and it does so with other plans that fit
pub fitting_plans : (count : ℕ) (links : List (List ℕ)) (ends : List (ℕ × ℕ)) (read : ReadRows) (plans : PlanFileRows) → IsReadOn count links ends read → IsSound links ends plans
    → All (λ row. row < 2 ^ 30) plans.starts → IsReadOn count links ends (record read { plans = plans })
fitting_plans count links ends read plans fitting sound starts = assumption (fitting, sound, starts)

-- what may be wrong with files that have no fault by themselves, row by row and plan by plan
joint_is : (R : NetworkRows) (T : Texts) → AreWithin (length R.nodes) (ends_of R.links) → length R.link_names ≡ length R.links → persons_fault R.link_names (ends_of R.links) T ≡ None
    → filled_fault (with_filled R (read_on R.link_names T)) ≡ joint_fault R T (read_on R.link_names T)
unfolding filled_fault joint_fault
joint_is R T inside each none = rw (same_crossing R T (schedule_rows_of R.link_names T) inside each none)

-- the town of what was read, or the first fault of it together, is that of the files
pub all_told : (r : Result PlannedTown Stop) (v : Values) (R : NetworkRows) (read : ReadRows) (T : Texts) (ends : List (ℕ × ℕ)) → AreWithin (length R.nodes) (ends_of R.links)
    → length R.link_names ≡ length R.links → ends ≡ ends_of R.links → read_fault R.link_names ends T ≡ None → read ≡ read_on R.link_names T
    → Tells planned_view r (filled_fault (with_filled R read)) (planned_from v R (with_filled R read)) → Tells planned_view r (on_network_fault R T) (on_network v R T)
unfolding on_network_fault on_network
all_told r v R read T ends inside each is none same told =
    let no_fault = rw is at none in
    let as_given = subst (λ (w : ReadRows). Tells planned_view r (filled_fault (with_filled R w)) (planned_from v R (with_filled R w))) same told in
    rw (no_fault, ← joint_is R T inside each (persons_none R.link_names (ends_of R.links) T no_fault)) as_given

-- ALL FILES
-- the scenario is told beside what the files on network tell
pub scenario_told : (planned : PlannedTown) (scenario : Scenario) (fault : Option ScenarioFault) (value : PlannedRows) (v : FileValues)
    → Tells planned_view (Ok planned) fault value → scenario_view scenario ≡ scenario_of v (planned_view planned)
    → Tells scenario_view (Ok scenario) fault (scenario_of v value)
scenario_told planned scenario fault value v told is = (told.0, is ∙ ap (λ (p : PlannedRows). scenario_of v p) told.1)

-- what the files on network tell is what all files tell, where settings and network have no fault
pub files_told : (r : Result Scenario Stop) (T : Texts) (v : FileValues) (R : NetworkRows) → fault_in T file.Settings (λ bytes. fault_at 0 (settings_fault bytes)) ≡ None → network_fault T ≡ None
    → v ≡ file_of (bytes_in T file.Settings) → R ≡ network_rows_of T → Tells scenario_view r (on_network_fault R T) (scenario_on v R T)
    → Tells scenario_view r (scenario_fault T) (scenario_rows T)
unfolding scenario_fault scenario_rows
files_told r T v R no_settings no_network settings network told =
    let with_settings = subst (λ (s : FileValues). Tells scenario_view r (on_network_fault R T) (scenario_on s R T)) settings told in
    rw (no_settings, no_network, ← network) with_settings
