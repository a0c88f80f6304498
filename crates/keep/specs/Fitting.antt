-- Kept rows that fit a town, and the place at which other rows do not.
use Rattle.std.specs.Prelude.{◌≡◌, ◌<◌, ◌≤◌, ◌+◌, ℕ, Bool, true, List, ◌++◌, length, take, All, Result, Ok, Err}
use Rattle.std.specs.List.{list_all}
use Rattle.rows.specs.PlanRows.{PlanRows}
use Rattle.edge_files.specs.declared.keeping.KeptRow.{KeptRow}
use Rattle.events.specs.declared.event.Book.{Book}
use Rattle.plan_text.specs.Lines.{are_in_book, is_plan_in}
use Rattle.plan_memory.specs.{Memories.MemoryRows, declared.TheConstants.MAX_HELD}
use Rattle.town.specs.{Fits.fits, Rows.TownRows}
use Rattle.keep.specs.{Kept.kept_rows, declared.reading.KeptError.KeptError}
use Rattle.keep.specs.declared.reading.KeptError.TheVariants as stop

-- every number of each plan of a memory, and of all memories, has a name in the book
abbrev pub are_named : Book → MemoryRows → Bool
are_named book m = list_all (λ (p : PlanRows). are_in_book book p.acts p.legs) m.plans

abbrev pub all_named : Book → List MemoryRows → Bool
all_named book memories = list_all (are_named book) memories

-- a memory: 1 to 6 plans, each with a score or none, of which one is chosen; each is a plan whose numbers have names in the book
pub record IsReadable (book : Book) (m : MemoryRows) : Type 0 where
  pub few : length m.plans ≤ MAX_HELD
  pub each : length m.scores ≡ length m.plans
  pub chosen : m.chosen < length m.plans
  pub plans : list_all (is_plan_in book) m.plans ≡ true

-- a memory that a person of a town may have: each of its plans fits the town
pub record IsKeptMemory (T : TownRows) (m : MemoryRows) : Type 0 where
  pub memory : IsReadable T.book m
  pub fit : list_all (fits T) m.plans ≡ true

-- such a memory of each person of the town, by number
pub record AreMemories (T : TownRows) (memories : List MemoryRows) : Type 0 where
  pub count : length memories ≡ length T.book.persons
  pub each : All (IsKeptMemory T) memories

-- rows that fit the town: those of memories of its persons
pub record AreRowsOf (T : TownRows) (rows : List KeptRow) (memories : List MemoryRows) : Type 0 where
  pub fit : AreMemories T memories
  pub are : rows ≡ kept_rows T.book memories

-- rows with which rows that fit begin
pub record Begin (T : TownRows) (rows : List KeptRow) : Type 0 where
  pub more : List KeptRow
  pub memories : List MemoryRows
  pub whole : AreRowsOf T (rows ++ more) memories

-- Rows that do not fit, and the place of the first one with which it shows: the least place such that the rows up to it, with it, begin no
-- rows that fit, or the number of rows where all of them begin such rows, and some are missing.
pub record IsForeignAt (T : TownRows) (rows : List KeptRow) (place : ℕ) : Type 0 where
  pub within : place ≤ length rows
  pub before : (n : ℕ) → n < place → Begin T (take (n + 1) rows)
  pub here : place < length rows → Begin T (take (place + 1) rows) → ⊥
  pub unfit : (memories : List MemoryRows) → AreRowsOf T rows memories → ⊥

-- What is read of rows: the one list of memories whose rows they are, or the place at which they do not fit. Want of memory says nothing.
abbrev pub IsRead : TownRows → List KeptRow → Result (List MemoryRows) KeptError → Type 0
IsRead T rows (Ok memories) = AreRowsOf T rows memories × ((others : List MemoryRows) → AreRowsOf T rows others → others ≡ memories)
IsRead T rows (Err (stop.Foreign place)) = IsForeignAt T rows place
IsRead T rows (Err stop.NoMemory) = Unit {0}
