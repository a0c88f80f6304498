-- What a keeper holds.
use Rattle.std.specs.Prelude.{◌≡◌, ◌⊎◌, ◌++◌, ℕ, List, [], Option, None, Some, option_map}
use Rattle.edge_files.specs.declared.keeping.KeptRow.{KeptRow}

-- an iteration and the plans at its end
pub record Kept : Type 0 where
  pub iteration : ℕ
  pub rows : List KeptRow

-- what a save of these keeps
abbrev pub kept_of : ℕ → List KeptRow → Kept
kept_of iteration rows = record { iteration = iteration; rows = rows }

-- what is kept, if anything, where that is told
abbrev pub Told : Type 0
Told = Option (Option Kept)

-- what was told is told still
abbrev pub StaysTold : Told → Told → Type 0
StaysTold None new = Unit {0}
StaysTold (Some before) None = ⊥
StaysTold (Some before) (Some after) = Unit {0}

-- what was told becomes this
abbrev pub Becomes : Told → Told → Option Kept → Type 0
Becomes None new now = Unit {0}
Becomes (Some before) new now = new ≡ Some now

-- what was told stays
abbrev pub Stays : Told → Told → Type 0
Stays None new = Unit {0}
Stays (Some before) new = new ≡ Some before

-- what was told stays, or is told no more
abbrev pub StaysIfTold : Told → Told → Type 0
StaysIfTold None new = Unit {0}
StaysIfTold (Some before) None = Unit {0}
StaysIfTold (Some before) (Some after) = after ≡ before

-- the old or the new rows stand whole, where it is told still
abbrev pub KeepsOrBecomes : Told → Told → Kept → Type 0
KeepsOrBecomes None new now = Unit {0}
KeepsOrBecomes (Some before) None now = Unit {0}
KeepsOrBecomes (Some before) (Some after) now = (after ≡ before) ⊎ (after ≡ Some now)

-- the iteration is the kept one, and None where nothing is kept
abbrev pub IsTold : Told → Option ℕ → Type 0
IsTold None last = Unit {0}
IsTold (Some kept) last = last ≡ option_map (λ k. k.iteration) kept

-- the rows that are kept
abbrev pub rows_of : Option Kept → List KeptRow
rows_of None = []
rows_of (Some kept) = kept.rows

-- the kept rows come behind those of the list
abbrev pub Loads : Told → List KeptRow → List KeptRow → Type 0
Loads None old new = Unit {0}
Loads (Some kept) old new = new ≡ old ++ rows_of kept
