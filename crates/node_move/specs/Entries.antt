-- Where the entries of links stand.
use Rattle.std.specs.Prelude.{◌≡◌, ◌≢◌, ℕ, zero, suc, ◌+◌, ◌-◌, ◌/◌, ◌<◌, ◌⊎◌, List, [], ◌∷◌, length, get_or, ◌==◌, if◌then◌else◌}
use Rattle.std.specs.Prelude.{Option, None, Some}
use Rattle.traffic.specs.declared.node_views.OutLink.{OutLink}
use Rattle.node_move.specs.{Starts.entry_number, declared.TheConstants.BLOCK_LINKS, declared.space.Entry.Entry}

-- entry number k, where it is there and is that of link m
abbrev pub entry_at : List Entry → ℕ → ℕ → Option Entry
entry_at [] m k = None
entry_at (e ∷ es) m zero = if e.link == m then Some e else None
entry_at (e ∷ es) m (suc k) = entry_at es m k

-- where the block of each link begins, and the entries
pub record SpaceRows : Type 0 where
  pub starts : List ℕ
  pub entries : List Entry

abbrev pub rows_of : List ℕ → List Entry → SpaceRows
rows_of starts es = record { starts = starts; entries = es }

-- the entry of link m, where it has one
unfoldable pub entry_in : SpaceRows → ℕ → Option Entry
entry_in rows m = entry_at rows.entries m (entry_number rows.starts m)

-- no entry
abbrev pub no_entry : Entry
no_entry = record { link = 0; holes = 0; places = record { taken = 0; storage = 0; seconds = 0 } }

-- entry number k is that of link m
pub record StandsAt (starts : List ℕ) (es : List Entry) (m k : ℕ) : Type 0 where
  pub within : k < length es
  pub number : entry_number starts m ≡ k
  pub link : (get_or es k no_entry).link ≡ m

-- the block of an entry: its links have their entries side by side
abbrev pub block_at : List Entry → ℕ → ℕ
block_at es j = (get_or es j no_entry).link / BLOCK_LINKS

-- none of the entries is in block q
abbrev pub HasNone : List Entry → ℕ → Type 0
HasNone es q = (j : ℕ) → j < length es → block_at es j ≢ q

-- the entries of block q stand from this place on
abbrev pub IsBlock : List Entry → ℕ → ℕ → Type 0
IsBlock es q start = (k : ℕ) → k < BLOCK_LINKS → (start + k < length es) × (block_at es (start + k) ≡ q)

-- the entries of each block stand where it begins, if there are any
pub record AreBlocks (starts : List ℕ) (es : List Entry) : Type 0 where
  pub each : (q : ℕ) → HasNone es q ⊎ IsBlock es q (get_or starts q 0)

-- the places and the holes of an entry
abbrev pub places_of : Option Entry → Option OutLink
places_of None = None
places_of (Some e) = Some e.places

abbrev pub holes_of : Option Entry → ℕ
holes_of None = 0
holes_of (Some e) = e.holes

-- how many places are taken, none where there are none
abbrev pub taken_of : Option OutLink → ℕ
taken_of None = 0
taken_of (Some p) = p.taken

-- so many fewer places are taken
abbrev pub fewer : ℕ → Option OutLink → Option OutLink
fewer k None = None
fewer k (Some p) = Some (record p { taken = p.taken - k })

-- the entry once one of its places is free, which was a hole
abbrev pub freed : Entry → Entry
freed e = record e { holes = e.holes - 1; places = record e.places { taken = e.places.taken - 1 } }

-- so many holes, where there are places
abbrev pub holes_put : ℕ → Option OutLink → ℕ
holes_put k None = 0
holes_put k (Some p) = k

-- entry number k is that of link m, or to be it: its block is there
pub record HasItsBlock (starts : List ℕ) (es : List Entry) (m k : ℕ) : Type 0 where
  pub within : k < length es
  pub number : entry_number starts m ≡ k
  pub block : block_at es k ≡ m / BLOCK_LINKS

-- the block of link m is not there: no entry of it stands where its own would
abbrev pub HasNoBlock : List ℕ → List Entry → ℕ → Type 0
HasNoBlock starts es m = entry_number starts m < length es → block_at es (entry_number starts m) ≢ m / BLOCK_LINKS
