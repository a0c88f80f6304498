-- What a call makes of what the database keeps: said where the disk is still clean after the call, whatever was kept before it.
use Rattle.std.specs.Prelude.{◌⊎◌, ℕ, ℤ, List, Option, IsTrue}
use Rattle.sqlite.specs.{State.State, State.HasCleanDisk, Tree.Trees}
use Rattle.keep_sql.specs.Table.{Holds, AreTreesOf}

-- an iteration and a body, or nothing
abbrev pub What : Type 0
What = Option (ℤ × List ℕ)

abbrev pub ForWhat : State → State → (What → Type 0) → Type 0
ForWhat old new says = HasCleanDisk new → (what : What) → Holds old what → says what

-- the same while the database is open, as it is but for an earlier failure of the disk
abbrev pub ForWhatIfOpen : State → State → (What → Type 0) → Type 0
ForWhatIfOpen old new says = HasCleanDisk new → IsTrue new.is_open → (what : What) → Holds old what → says what

-- the trees are those of a database that keeps what was kept before
abbrev pub AreOld : State → Trees → Type 0
AreOld old trees = (what : What) → Holds old what → AreTreesOf what trees

-- or of one that keeps something new
abbrev pub AreOldOr : State → What → Trees → Type 0
AreOldOr old new trees = (what : What) → Holds old what → AreTreesOf what trees ⊎ AreTreesOf new trees

-- what a crash may leave after the call is the old or the new, whole
abbrev pub LeavesOldOr : State → State → What → Type 0
LeavesOldOr old new what = ForWhat old new (λ before. (trees : Trees) → new.may_leave trees → AreTreesOf before trees ⊎ AreTreesOf what trees)
