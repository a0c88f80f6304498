-- The commands of the program.
use Rattle.std.specs.Prelude.{◌≤◌, ⊤, ℕ, Bool, pos, true, false, bytes_eq, codes, unwrap_or, if◌then◌else◌, List, [], Option, None, Some}
use Rattle.std.specs.{Option.option_map_or, Str.Parse.digits_value, Str.Parse.without_leading_plus}
use Rattle.clap.specs.Words.{App, Row, Rule, new_app, new_rule, with_rule, first_of, one_of}
use Rattle.clap.specs.declared.builder.action.ArgAction.TheVariants.{Set, SetTrue}
use Rattle.clap.specs.declared.builder.value_parser.ValueParser.TheVariants as parsers
use Rattle.learning.specs.declared.TheConstants.{LAST_ITERATION}
use Rattle.limits.specs.declared.TheConstants.{LAST_SECOND, MAX_PARTITIONS}
use Rattle.workload.specs.{Grids.IsGrid, declared.TheConstants.LEAST_SIZE, declared.TheConstants.MOST_SIZE}
use Rattle.command_line.specs.declared.TheConstants.{DEFAULT_LAST_ITERATION, DEFAULT_PARTITIONS, DEFAULT_WORKERS}
use Rattle.command_line.specs.declared.commands.{Command.Command, CommandName.CommandName}
use Rattle.command_line.specs.declared.commands.CommandName.TheVariants.{Run, Resume, Check, Route, Generate}
use Rattle.command_line.specs.declared.commands.Command.TheVariants as command

-- the command that a word names
unfoldable pub command_named : List ℕ → Option CommandName
command_named word =
    if bytes_eq word (codes "run") then Some Run
    else (if bytes_eq word (codes "resume") then Some Resume
    else (if bytes_eq word (codes "check") then Some Check
    else (if bytes_eq word (codes "route") then Some Route
    else (if bytes_eq word (codes "generate") then Some Generate else None))))

-- a position that must be given
abbrev pub position : List ℕ → Rule
position id = record (new_rule id) { required = true; action = Some Set }

-- a position for a number within bounds
abbrev pub number_position : List ℕ → ℕ → ℕ → Rule
number_position id least most = record (position id) { parser = Some (parsers.Signed (pos least) (pos most)) }

-- a position for a second of the day, from 0 to 172,800
abbrev pub second_position : List ℕ → Rule
second_position id = number_position id 0 LAST_SECOND

-- a position for the size of a grid, from 3 to 100
abbrev pub size_position : List ℕ → Rule
size_position id = number_position id LEAST_SIZE MOST_SIZE

-- a position for any number of 64 bits
abbrev pub seed_position : List ℕ → Rule
seed_position id = record (position id) { parser = Some (parsers.Unsigned 0 18446744073709551615) }

-- an option that has a value and is given once at most
abbrev pub single_option : List ℕ → Rule
single_option id = record (new_rule id) { long = Some id; action = Some Set; value_names = 1 }

-- one for a number within bounds
abbrev pub number_option : List ℕ → ℕ → ℕ → Rule
number_option id least most = record (single_option id) { parser = Some (parsers.Signed (pos least) (pos most)) }

-- for the number of an iteration, from 0 to 1,000
abbrev pub iteration_option : List ℕ → Rule
iteration_option id = number_option id 0 LAST_ITERATION

-- for how many partitions or workers there are, from 1 to 64
abbrev pub count_option : List ℕ → Rule
count_option id = number_option id 1 MAX_PARTITIONS

-- an option that has no value and is given once at most
abbrev pub flag : List ℕ → Rule
flag id = record (new_rule id) { long = Some id; action = Some SetTrue; parser = Some parsers.Bool }

-- a command that also takes the options which say among how many partitions the network is divided, and how many workers compute them
abbrev pub with_spread : App → App
with_spread app = with_rule (with_rule app (count_option (codes "partitions"))) (count_option (codes "workers"))

-- one that takes all options which say how days are computed: also the flag for events that are written while a day runs
abbrev pub with_execution : App → App
with_execution app = with_rule (with_spread app) (flag (codes "stream"))

-- what clap reads behind a command's name: its positions and options, but no subcommand and no version flag
abbrev pub simple_command : CommandName → App
simple_command Run = with_execution (new_app (codes "run"))
simple_command Resume = with_execution (new_app (codes "resume"))
simple_command Check = new_app (codes "check")
simple_command Route = with_rule (with_rule (with_rule (new_app (codes "route")) (position (codes "FROM"))) (position (codes "TO")))
    (second_position (codes "SECOND"))
simple_command Generate = with_execution (with_rule (with_rule (with_rule (new_app (codes "generate")) (size_position (codes "SIZE")))
    (seed_position (codes "SEED"))) (iteration_option (codes "last-iteration")))

-- the word that was given for a position
abbrev pub text_in : List ℕ → List Row → List ℕ
text_in id rows = unwrap_or (first_of id rows) []

-- the number that a text says, with or without a plus sign
abbrev pub number_of : List ℕ → ℕ
number_of text = digits_value 10 (without_leading_plus text)

-- the number that was given for a position
abbrev pub number_in : List ℕ → List Row → ℕ
number_in id rows = number_of (unwrap_or (one_of id rows) [])

-- the number that was given for an option, or its default
abbrev pub number_or : List ℕ → ℕ → List Row → ℕ
number_or id default rows = option_map_or number_of (one_of id rows) default

-- a command with what was given for its positions and options
abbrev pub command_with : CommandName → List Row → Command
command_with Run rows = command.Run
command_with Resume rows = command.Resume
command_with Check rows = command.Check
command_with Route rows = command.Route (text_in (codes "FROM") rows) (text_in (codes "TO") rows) (number_in (codes "SECOND") rows)
command_with Generate rows = command.Generate (number_in (codes "SIZE") rows) (number_in (codes "SEED") rows)
    (number_or (codes "last-iteration") DEFAULT_LAST_ITERATION rows)

-- among how many partitions the network is divided, and how many workers compute them: as many as were given, or 1
abbrev pub partitions_in : List Row → ℕ
partitions_in rows = number_or (codes "partitions") DEFAULT_PARTITIONS rows

abbrev pub workers_in : List Row → ℕ
workers_in rows = number_or (codes "workers") DEFAULT_WORKERS rows

-- whether a flag was given
abbrev pub is_set : List ℕ → List Row → Bool
is_set id rows = option_map_or (λ (text : List ℕ). bytes_eq text (codes "true")) (one_of id rows) false

-- whether the events of a day are to be written while it runs
abbrev pub streams_in : List Row → Bool
streams_in rows = is_set (codes "stream") rows

-- the numbers of a command are within their bounds
abbrev pub IsInRange : Command → Type 0
IsInRange command.Run = ⊤
IsInRange command.Resume = ⊤
IsInRange command.Check = ⊤
IsInRange (command.Route from to second) = second ≤ LAST_SECOND
IsInRange (command.Generate size seed last_iteration) = IsGrid size last_iteration
