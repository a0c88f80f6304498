-- The seconds of a calendar, in blocks of so many.
use Rattle.std.specs.Prelude.{◌≡◌, ℕ, zero, suc, ◌<◌, ◌/◌, ◌%◌, List, [], ◌∷◌, ◌++◌, length, get_or, map, vec_items, ◌==◌, if◌then◌else◌}
use Rattle.std.specs.{Prelude.Vec, Prelude.Option, Prelude.None, declared.alloc.Global.Global}
use Rattle.calendar.specs.{Due.Due, declared.TheConstants.BLOCK_SECONDS}

-- a block: of each of its seconds, as far as there are rows, the last hook
abbrev pub Block : Type 0
Block = Vec (Option ℕ) Global

-- the rows of the block of a second
abbrev pub rows_at : List Block → ℕ → List (Option ℕ)
rows_at blocks t = get_or (map vec_items blocks) (t / BLOCK_SECONDS) []

-- the last hook of second t
abbrev pub head_at : List Block → ℕ → Option ℕ
head_at blocks t = get_or (rows_at blocks t) (t % BLOCK_SECONDS) None

-- second t has a row
abbrev pub HasRow : ℕ → List Block → Type 0
HasRow t blocks = t % BLOCK_SECONDS < length (rows_at blocks t)

-- one row has this hook now, and all others have what they had
abbrev pub HasHeadIn : ℕ → Option ℕ → List (Option ℕ) → List (Option ℕ) → Type 0
HasHeadIn r head old new = (k : ℕ) → get_or new k None ≡ (if k == r then head else get_or old k None)

-- one second has this hook now, and all others have what they had
abbrev pub HasHead : ℕ → Option ℕ → List Block → List Block → Type 0
HasHead t head old new = (u : ℕ) → head_at new u ≡ (if u == t then head else head_at old u)

-- each row has the hook that it had
abbrev pub HaveSameHeadsIn : List (Option ℕ) → List (Option ℕ) → Type 0
HaveSameHeadsIn old new = (k : ℕ) → get_or new k None ≡ get_or old k None

-- each second has the hook that it had
abbrev pub HaveSameHeads : List Block → List Block → Type 0
HaveSameHeads old new = (u : ℕ) → head_at new u ≡ head_at old u

-- so many seconds of a block: in one that has no row nothing is due
unfoldable pub seconds_of : ℕ → Due → Due
seconds_of zero rows = []
seconds_of (suc n) [] = [] ∷ seconds_of n []
seconds_of (suc n) (row ∷ rows) = row ∷ seconds_of n rows

-- the seconds of blocks of so many, one block behind the other
unfoldable pub all_seconds : ℕ → List Due → Due
all_seconds n [] = []
all_seconds n (rows ∷ blocks) = seconds_of n rows ++ all_seconds n blocks
