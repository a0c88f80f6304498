-- The names that most proofs on scenarios cite, passed on from one place. Declares nothing.
pub use Rattle.std.proofs.Common.{◌≡◌, List, ℕ, map, sym, ◌∙◌, ap, length, refl, subst, None, true, Option, arith, ◌<◌, Some, ◌≤◌, [], ◌∷◌, ◌&&◌, ◌^◌, drop}
pub use Rattle.std.proofs.Common.{Bool, false, get_or, Result, append_assoc, not, suc, ◌++◌, ◌+◌}
pub use Rattle.std.proofs.lemmas.Bool.{and_parts}
pub use Rattle.std.proofs.lemmas.Bool.Decides.{nat_tests}
pub use Rattle.std.proofs.lemmas.List.{length-map}
pub use Rattle.std.specs.List.{list_all, All, flat_map}
pub use Rattle.std.specs.Prelude.{nat_le, unwrap_or}
pub use Rattle.edge_files.specs.declared.files.InFile.{InFile}
pub use Rattle.edge_files.specs.declared.reasons.RowFault.{RowFault}
unfoldable pub use Rattle.rows.specs.Networks.{is_link}
pub use Rattle.network.specs.Links.{links_fault}
unfoldable pub use Rattle.network.specs.Links.{link_of}
pub use Rattle.network.specs.Nodes.{node_names}
unfoldable pub use Rattle.network.specs.Nodes.{node_of}
pub use Rattle.plans.specs.Progress.{IsSound}
pub use Rattle.plans.specs.Read.{file_rows_of}
pub use Rattle.plans.specs.Values.{PlanFileRows, Tables, file_rows}
pub use Rattle.records.specs.Faults.{or_else, fault_at}
pub use Rattle.records.specs.Fields.{field}
unfoldable pub use Rattle.records.specs.Files.{body_of}
pub use Rattle.records.specs.Rows.{Row}
pub use Rattle.rows.specs.Greens.{always}
unfoldable pub use Rattle.rows.specs.Joined.{ends_of}
pub use Rattle.rows.specs.Plan.{is_leg}
pub use Rattle.rows.specs.PlanRows.{PlanRows, all_plan_rows, plan_rows}
pub use Rattle.rows.specs.declared.network.LinkRow.{LinkRow}
pub use Rattle.rows.specs.declared.network.NodeRow.{NodeRow}
pub use Rattle.rows.specs.declared.plan.Leg.{Leg}
pub use Rattle.rows.specs.declared.plan.Plan.{Plan}
pub use Rattle.scenario.specs.Faults.{StopsAt, Tells, fault_in, in_file}
pub use Rattle.scenario.specs.FilesToScenario.{IsSchedule, NetworkRows, ScenarioRows, ScheduleRows, persons_fault, persons_on, route_names, schedule_view, stop_names, stop_rows}
unfoldable pub use Rattle.scenario.specs.FilesToScenario.{scenario_fault, scenario_rows, schedule_fault, schedule_rows_of, leg_checks_in}
unfoldable pub use Rattle.scenario.specs.FilesToScenario.{network_fault, network_rows_of, plans_cross_fault, on_network, on_network_fault, planned_of}
unfoldable pub use Rattle.scenario.specs.FilesToScenario.{town_of}
pub use Rattle.scenario.specs.Fitting.{all_fit, are_few}
unfoldable pub use Rattle.scenario.specs.Fitting.{are_fitting}
pub use Rattle.scenario.specs.LegChecks.{AreThere, leg_checks_of, numbers_of}
pub use Rattle.scenario.specs.Legs.{plan_in_town, LegChecks, all_plans_fault, leg_in_town}
unfoldable pub use Rattle.scenario.specs.Legs.{plans_fault, plan_fault, numbers_in}
pub use Rattle.scenario.specs.Texts.{Texts, bytes_in}
pub use Rattle.scenario.specs.Views.{texts_of, network_view}
pub use Rattle.schedule.specs.Departures.{departures_fault}
unfoldable pub use Rattle.schedule.specs.Departures.{departure_of}
pub use Rattle.schedule.specs.Routes.{lines_of, routes_fault, routes_of}
pub use Rattle.schedule.specs.Stops.{stops_fault}
pub use Rattle.settings.specs.Faults.{values_of}
unfoldable pub use Rattle.settings.specs.Faults.{settings_fault, settings_of}
pub use Rattle.settings.specs.Values.{Values}
unfoldable pub use Rattle.town.specs.Fits.{fits}
pub use Rattle.town.specs.Rows.{TownRows}
unfoldable pub use Rattle.town.specs.Setups.{setup_of}
pub use Rattle.town.specs.Views.{rows_of}
