-- What the commands report.
use Rattle.std.specs.Prelude.{ℕ, ◌-◌, ◌*◌, codes, decimal, List, ◌++◌, length}
use Rattle.edge_files.specs.{Files.in_file_name, Reasons.reason_number, Reasons.reason_name}
use Rattle.scenario.specs.{FilesToScenario.ScenarioRows, declared.faults.ScenarioFault.ScenarioFault}
use Rattle.workload.specs.declared.TheConstants.{PERSONS_PER_NODE}

-- the report of a refused scenario: the file, the row, and the reason by number and name
unfoldable pub refused_line : ScenarioFault → List ℕ
refused_line fault =
    codes "refused," ++ in_file_name fault.file ++ codes "," ++ decimal fault.row ++ codes "," ++ decimal (reason_number fault.reason)
    ++ codes "," ++ reason_name fault.reason ++ codes "\n"

-- the report of a route that does not exist
abbrev pub no_way_line : List ℕ
no_way_line = codes "no way\n"

-- the report that nothing is kept from which a run could go on
abbrev pub nothing_kept_line : List ℕ
nothing_kept_line = codes "nothing kept\n"

-- the report of kept rows that do not fit: the place of the first one with which it shows
unfoldable pub foreign_line : ℕ → List ℕ
foreign_line place = codes "foreign," ++ decimal place ++ codes "\n"

-- the first line of the report of a grid: its size and seed, and how many nodes, links and persons it has
unfoldable pub grid_counts : ℕ → ℕ → ℕ → ℕ → ℕ → List ℕ
grid_counts size seed nodes links persons =
    codes "grid," ++ decimal size ++ codes "," ++ decimal seed ++ codes "," ++ decimal nodes
    ++ codes "," ++ decimal links ++ codes "," ++ decimal persons ++ codes "\n"

-- the same of a grid of this size
abbrev pub grid_line : ℕ → ℕ → List ℕ
grid_line size seed = grid_counts size seed (size * size) (4 * size * (size - 1)) (PERSONS_PER_NODE * size * size)

-- the report of a valid scenario: how many nodes, links, persons, stops, routes and departures
unfoldable pub valid_counts : ℕ → ℕ → ℕ → ℕ → ℕ → ℕ → List ℕ
valid_counts nodes links persons stops routes departures =
    codes "valid," ++ decimal nodes ++ codes "," ++ decimal links ++ codes "," ++ decimal persons
    ++ codes "," ++ decimal stops ++ codes "," ++ decimal routes ++ codes "," ++ decimal departures ++ codes "\n"

-- the same of a scenario
abbrev pub valid_line : ScenarioRows → List ℕ
valid_line S =
    valid_counts (length S.town.nodes) (length S.town.links) (length S.town.book.persons) (length S.town.stops) (length S.town.routes) (length S.town.departures)
