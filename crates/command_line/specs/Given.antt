-- The positions and options of a command, and what clap gives for them.
use Rattle.std.specs.Prelude.{◌≡◌, ◌≤◌, ◌⊎◌, ℕ, pos, false, codes, List, [], None, Some}
use Rattle.clap.specs.{Built.AddsArg, Facts.args_of, Facts.groups_of, Facts.least_values}
use Rattle.clap.specs.Words.{IsPlainArg, IsSignedIn, IsUnsignedIn, Rule, one_text, rule_of, without_minus}
use Rattle.clap.specs.declared.{builder.arg.Arg.Arg, builder.command.Command.Command, builder.command.Command.TheViews.out-Command, parser.matches.Found.Found}
use Rattle.learning.specs.declared.TheConstants.{LAST_ITERATION}
use Rattle.limits.specs.declared.TheConstants.{LAST_SECOND, MAX_PARTITIONS}
use Rattle.workload.specs.declared.TheConstants.{LEAST_SIZE, MOST_SIZE}
use Rattle.command_line.specs.Commands.{count_option, flag}

-- the argument has this rule and no other: it stands alone, belongs to its command, and has one value at least, which is not split
pub record IsArgument (rule : Rule) (arg : Arg) : Type 0 where
  pub ruled : rule_of arg ≡ rule
  pub plain : IsPlainArg arg
  pub local : arg.global ≡ false
  pub unsplit : arg.val_delim ≡ None
  pub valued : 1 ≤ least_values arg

-- a command to which nothing was added
pub record IsBare (command : Command) : Type 0 where
  pub args : args_of command ≡ []
  pub groups : groups_of command ≡ []
  pub globals : (out-Command command).has_globals ≡ false
  pub negates : (out-Command command).subcommand_negates_reqs ≡ false

-- the options that say how days are computed were added to a command, the one behind the other
pub record AddsExecution (old new : Command) : Type 0 where
  pub partitions : Arg
  pub workers : Arg
  pub stream : Arg
  pub divided : Command
  pub spread : Command
  pub is_partitions : IsArgument (count_option (codes "partitions")) partitions
  pub is_workers : IsArgument (count_option (codes "workers")) workers
  pub is_stream : IsArgument (flag (codes "stream")) stream
  pub adds_partitions : AddsArg old partitions divided
  pub adds_workers : AddsArg divided workers spread
  pub adds_stream : AddsArg spread stream new

-- a number within bounds was given for this argument
abbrev pub HasNumber : ℕ → ℕ → List ℕ → Found → Type 0
HasNumber least most id found =
    (text : List ℕ) × (one_text found id ≡ Some (without_minus text)) × IsSignedIn (pos least) (pos most) text

-- a number of 64 bits was
abbrev pub HasLongNumber : List ℕ → Found → Type 0
HasLongNumber id found = (text : List ℕ) × (one_text found id ≡ Some text) × IsUnsignedIn 0 18446744073709551615 text

-- where anything was given for this argument, it is a number within bounds
abbrev pub MayHaveNumber : ℕ → ℕ → List ℕ → Found → Type 0
MayHaveNumber least most id found = (given : List ℕ) → one_text found id ≡ Some given
    → (text : List ℕ) × (given ≡ without_minus text) × IsSignedIn (pos least) (pos most) text

-- what was given for `route`
abbrev pub HasSecond : Found → Type 0
HasSecond = HasNumber 0 LAST_SECOND (codes "SECOND")

-- where anything was given for an option that takes a count, it is 1 to 64
abbrev pub HasCount : List ℕ → Found → Type 0
HasCount = MayHaveNumber 1 MAX_PARTITIONS

-- where anything was given for a flag, it is whether it is set
abbrev pub HasFlag : List ℕ → Found → Type 0
HasFlag id found = (given : List ℕ) → one_text found id ≡ Some given → (given ≡ codes "true") ⊎ (given ≡ codes "false")

-- what was given for `--partitions`, `--workers` and `--stream`
pub record HasExecution (found : Found) : Type 0 where
  pub partitions : HasCount (codes "partitions") found
  pub workers : HasCount (codes "workers") found
  pub stream : HasFlag (codes "stream") found

-- what was given for `generate`
pub record HasGrid (found : Found) : Type 0 where
  pub size : HasNumber LEAST_SIZE MOST_SIZE (codes "SIZE") found
  pub seed : HasLongNumber (codes "SEED") found
  pub last : MayHaveNumber 0 LAST_ITERATION (codes "last-iteration") found
