-- The files' names in the current folder, and their order.
use Rattle.std.specs.Prelude.{ℕ, List, [], get_or, codes, Option, None, Some}
use denote.Enum.Declared.{tag_of}
use Rattle.edge_files.specs.contracts.files.InFile.{the_type}
use Rattle.edge_files.specs.declared.files.{InFile.InFile, OutFile.OutFile, TheConstants.FILE_NAMES}
use Rattle.edge_files.specs.declared.files.OutFile.TheVariants as out

-- the place of a file that is read among all of them: its number in the enumeration, from 0
abbrev pub in_place : InFile → ℕ
in_place file = tag_of the_type file

-- the name of a file that is read: that of its place
unfoldable pub in_file_name : InFile → List ℕ
in_file_name file = (get_or FILE_NAMES (in_place file) (file, record { now = [] })).1.now

-- the name of a file that is written; the report is none of the folder
unfoldable pub out_file_name : OutFile → Option (List ℕ)
out_file_name out.Events = Some (codes "events.csv")
out_file_name out.Scores = Some (codes "scores.csv")
out_file_name out.Plans = Some (codes "plans_out.csv")
out_file_name out.Report = None

-- the place of a file that is written among all of them
abbrev pub out_place : OutFile → ℕ
out_place out.Events = 0
out_place out.Scores = 1
out_place out.Plans = 2
out_place out.Report = 3
