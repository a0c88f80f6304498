-- What the words of the command line ask for.
use Rattle.std.specs.Prelude.{⊤, ℕ, Bool, false, ◌||◌, bytes_eq, codes, if◌then◌else◌, List, [], ◌∷◌, Option, None, Some}
use Rattle.clap.specs.{Kinds.Kinds, Words.Row, Words.fault_of, Words.matches_of}
use Rattle.clap.specs.declared.error.kind.ErrorKind.{ErrorKind, TheVariants.DisplayHelp}
use Rattle.command_line.specs.Commands.{command_named, simple_command, command_with, partitions_in, workers_in, streams_in, IsInRange}
use Rattle.command_line.specs.declared.{TheConstants.DEFAULT_PARTITIONS, TheConstants.DEFAULT_WORKERS, commands.Command.Command}
use Rattle.command_line.specs.declared.commands.CommandName.{CommandName, TheVariants.Run, TheVariants.Resume, TheVariants.Check, TheVariants.Route}
use Rattle.command_line.specs.declared.{commands.CommandName.TheVariants.Generate, reading.Asked.Asked}
use Rattle.command_line.specs.declared.reading.Asked.TheVariants as asked

-- words ask for a command's work, with its days in so many partitions and by so many workers, and their events written while they run or
-- not, or for help, or they are refused
pub data Case : Type 0 where
  Work : Command → ℕ → ℕ → Bool → Case
  Help : Case
  Refused : Case

-- the case of an answer, whatever text the user is told
abbrev pub asked_case : Asked → Case
asked_case (asked.Work command spread streams) = Work command spread.partitions spread.workers streams
asked_case (asked.Help text) = Help
asked_case (asked.Refused text) = Refused

-- the numbers of the command that is asked for are within their bounds, as those of its spread are by their type
abbrev pub AsksInRange : Asked → Type 0
AsksInRange (asked.Work command spread streams) = IsInRange command
AsksInRange (asked.Help text) = ⊤
AsksInRange (asked.Refused text) = ⊤

-- the word asks how the program is used
abbrev pub asks_for_help : List ℕ → Bool
asks_for_help word = bytes_eq word (codes "-h") || bytes_eq word (codes "--help")

-- the case of words that clap does not take, by the kind of its answer
abbrev pub kind_case : ErrorKind → Case
kind_case DisplayHelp = Help
kind_case _ = Refused

-- the work of a command that simulates days, and that of one that simulates none, which is not divided and streams nothing
abbrev pub simulation : Command → List Row → Case
simulation command rows = Work command (partitions_in rows) (workers_in rows) (streams_in rows)

abbrev pub undivided : Command → Case
undivided command = Work command DEFAULT_PARTITIONS DEFAULT_WORKERS false

-- the work that is asked for by what was given
abbrev pub work_with : CommandName → List Row → Case
work_with Run rows = simulation (command_with Run rows) rows
work_with Resume rows = simulation (command_with Resume rows) rows
work_with Check rows = undivided (command_with Check rows)
work_with Route rows = undivided (command_with Route rows)
work_with Generate rows = simulation (command_with Generate rows) rows

-- the case by the kinds that clap may answer, of which there is one at most, and none where it takes the words
abbrev pub kinds_case : Case → Kinds → Case
kinds_case work [] = work
kinds_case work (kind ∷ kinds) = kind_case kind

-- clap reads the program's name and the words behind the command's name
abbrev pub simple_case : CommandName → List (List ℕ) → Case
simple_case name words =
    kinds_case (work_with name (matches_of (simple_command name) words)) (fault_of (simple_command name) words)

-- words that name no command are refused
abbrev pub command_case : Option CommandName → List (List ℕ) → Case
command_case None words = Refused
command_case (Some name) words = simple_case name words

-- the first two words are the program's name and that of the command, or a question for help
unfoldable pub case_of : List (List ℕ) → Case
case_of [] = Refused
case_of (program ∷ []) = Refused
case_of (program ∷ second ∷ others) =
    if asks_for_help second then Help else command_case (command_named second) (program ∷ others)
