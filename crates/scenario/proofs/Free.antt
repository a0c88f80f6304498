-- Files without a fault: none of their parts has one.
use Rattle.std.{proofs.Common.lit<, specs.List.All}
use Rattle.scenario.proofs.Common.{◌≡◌, None, fault_at, fault_in, Texts, bytes_in, ends_of, node_names, links_fault, settings_fault}
use Rattle.scenario.proofs.Common.{network_fault, network_rows_of, persons_fault, schedule_fault, schedule_rows_of, on_network_fault, scenario_fault}
use Rattle.scenario.specs.FilesToScenario.{NetworkRows, read_faults, cross_fault, joint_fault, signals_on, signals_file_fault, conflict_fault}
use Rattle.scenario.proofs.Told.{none_of, all_none, both_none}
use Rattle.edge_files.specs.declared.files.InFile.TheVariants as file
use Rattle.network.specs.Nodes.{nodes_fault}
use Rattle.records.proofs.Unrefused.{or_none}

-- what is read over a network
pub record AreFreeOn (network : NetworkRows) (T : Texts) : Type 0 where
  pub persons : persons_fault network.link_names (ends_of network.links) T ≡ None
  pub schedule : schedule_fault network.link_names (ends_of network.links) T ≡ None
  pub signals : signals_file_fault network.link_names (ends_of network.links) T ≡ None
  pub legs : cross_fault network (bytes_in T file.Plans) (schedule_rows_of network.link_names T) ≡ None
  pub conflicts : conflict_fault (signals_on network.link_names T) ≡ None

pub record AreFree (T : Texts) : Type 0 where
  pub settings : fault_in T file.Settings (λ bytes. fault_at 0 (settings_fault bytes)) ≡ None
  pub nodes : fault_in T file.Nodes nodes_fault ≡ None
  pub links : fault_in T file.Links (links_fault (node_names (bytes_in T file.Nodes))) ≡ None
  pub others : AreFreeOn (network_rows_of T) T

free_on : (network : NetworkRows) (T : Texts) → on_network_fault network T ≡ None → AreFreeOn network T
unfolding on_network_fault joint_fault
free_on network T none =
    let both = or_none _ _ none in
    let read = none_of (read_faults network.link_names (ends_of network.links) T) both.0 in
    let joint = or_none _ _ both.1 in
    record {
      persons = read 0 None (lit< tt);
      schedule = read 1 None (lit< tt);
      signals = read 2 None (lit< tt);
      legs = joint.0;
      conflicts = joint.1;
    }

pub free_files : (T : Texts) → scenario_fault T ≡ None → AreFree T
unfolding scenario_fault network_fault
free_files T none =
    let a = or_none _ _ none in
    let b = or_none _ _ a.1 in
    let n = or_none _ _ b.0 in
    record { settings = a.0; nodes = n.0; links = n.1; others = free_on (network_rows_of T) T b.1 }

-- and files of which no part has one have no fault
pub free_together : (T : Texts) → fault_in T file.Settings (λ bytes. fault_at 0 (settings_fault bytes)) ≡ None → network_fault T ≡ None
    → All (λ fault. fault ≡ None) (read_faults (network_rows_of T).link_names (ends_of (network_rows_of T).links) T)
    → cross_fault (network_rows_of T) (bytes_in T file.Plans) (schedule_rows_of (network_rows_of T).link_names T) ≡ None
    → conflict_fault (signals_on (network_rows_of T).link_names T) ≡ None → scenario_fault T ≡ None
unfolding scenario_fault on_network_fault joint_fault
free_together T settings network read legs conflicts =
    both_none _ _ settings (both_none _ _ network (both_none _ _ (all_none (read_faults (network_rows_of T).link_names (ends_of (network_rows_of T).links) T) read) (both_none _ _ legs conflicts)))
