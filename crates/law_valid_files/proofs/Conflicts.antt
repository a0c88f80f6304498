-- The links of a conflict in files without a fault are never green together.
use Rattle.std.{proofs.Common.◌≡◌, proofs.Common.None, specs.List.All}
use Rattle.edge_files.specs.declared.files.InFile.TheVariants as file
use Rattle.records.specs.Files.{body_of}
use Rattle.rows.specs.Joined.{ends_of}
use Rattle.signals.{proofs.Lawful.never_both, specs.Signals.signals_fault, specs.Signals.signal_rows_of, specs.Signals.clash_fault, specs.Signals.AreNeverGreen}
use Rattle.scenario.proofs.{Free.free_files, Told.bytes_free, Told.file_none}
use Rattle.scenario.specs.FilesToScenario.{network_rows_of, town_of, planned_of, on_network, conflict_fault, scenario_fault, scenario_rows, conflicts_in}
use Rattle.scenario.specs.Texts.{Texts, bytes_in}

pub conflicts_kept : (texts : Texts) → scenario_fault texts ≡ None → All (AreNeverGreen (scenario_rows texts).town.greens) (conflicts_in texts)
unfolding conflict_fault scenario_rows on_network planned_of town_of
conflicts_kept T none =
    let free = (free_files T none).others in
    let network = network_rows_of T in
    let ends = ends_of network.links in
    let given = signal_rows_of network.link_names (body_of (bytes_in T file.Signals)) in
    never_both network.link_names ends (bytes_in T file.Signals) (bytes_free T file.Signals (signals_fault network.link_names ends) free.signals)
    (file_none file.Signals (clash_fault given) free.conflicts)
