-- What a run of several days is made from.
use Rattle.std.specs.Prelude.{◌≡◌, ℕ, Bool, true, List, length, All}
use Rattle.learning.specs.{Ranges.AreInRange, declared.settings.Learning.Learning}
use Rattle.plan_memory.specs.Memories.{MemoryRows}
use Rattle.scoring.specs.Tables.{ScoringRows}
use Rattle.plan_text.specs.Lines.{IsBook}
use Rattle.town.specs.Rows.{TownRows, IsTown}
use Rattle.law_replanning.specs.Memories.{IsMemoryIn, all_hold_fitting}

-- a town, what its days are worth to its persons, the settings of replanning, the number of the last iteration, and whether what is
-- remembered after each iteration is kept
pub record RunRows : Type 0 where
  pub town : TownRows
  pub scoring : ScoringRows
  pub learning : Learning
  pub last_iteration : ℕ
  pub keeps : Bool

-- the same run to another last iteration
abbrev pub until : RunRows → ℕ → RunRows
until R last = record {
  town = R.town;
  scoring = R.scoring;
  learning = R.learning;
  last_iteration = last;
  keeps = R.keeps;
}

-- the settings are in their ranges, and each person of the town remembers plans that fit it
pub record CanRun (R : RunRows) (memories : List MemoryRows) : Type 0 where
  pub learning : AreInRange R.learning
  pub each : length memories ≡ length R.town.book.persons
  pub fit : all_hold_fitting R.town memories ≡ true

-- the book has a name for each link and stop
pub record HasNames (T : TownRows) : Type 0 where
  pub links : length T.book.links ≡ length T.links
  pub stops : length T.book.stops ≡ length T.stops

-- a run of a town whose rows are sound and have their names in its book, which begins with a memory of each person, of whose plans days can
-- be made
pub record IsRun (R : RunRows) (first : List MemoryRows) : Type 0 where
  pub town : IsTown R.town
  pub names : HasNames R.town
  pub book : IsBook R.town.book
  pub learning : AreInRange R.learning
  pub each : length first ≡ length R.town.book.persons
  pub memories : All (IsMemoryIn R.town) first
