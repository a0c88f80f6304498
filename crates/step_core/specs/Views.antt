-- What the core sees of a partition, and what it owes it.
use Rattle.std.specs.Prelude.{◌≡◌, ℕ, ◌-◌, ◌<◌, ◌≤◌, List, length, get_or}
use Rattle.step_core.specs.{Nets.border_at, declared.part.Border.Border}

-- Which partition it is, how many seconds it has done, and what lies in the places of its neighbours: what came, and what is to go. Where
-- nothing came or goes, a parcel with nothing in it lies there.
pub record PartView (P : Type 0) : Type 0 where
  pub number : ℕ
  pub seconds : ℕ
  pub inbox : List P
  pub outbox : List P

-- of parcels, where this is the one with nothing in it
module _ {P : Type 0} (nothing : P) where
  -- what lies in the place of a neighbour
  abbrev pub in_place : List P → ℕ → P
  in_place places k = get_or places k nothing

  -- so many places, and nothing lies in them
  pub record AreEmpty (count : ℕ) (places : List P) : Type 0 where
    pub many : length places ≡ count
    pub none : (k : ℕ) → k < count → in_place places k ≡ nothing

  -- k is the first of these places, from this one on, in which something may lie
  pub record IsNextPlace (places : List P) (from k : ℕ) : Type 0 where
    pub least : from ≤ k
    pub there : k < length places
    pub none : (j : ℕ) → from ≤ j → j < k → in_place places j ≡ nothing

  -- Before p does second t it has the parcel of second t - lag of each neighbour, where that is a second of the day, and else nothing.
  pub record IsHeard (right : ℕ → ℕ → ℕ → P → Type 0) (p t : ℕ) (b : Border) (x : P) : Type 0 where
    pub came : b.lag ≤ t → right b.neighbour p (t - b.lag) x
    pub none : t < b.lag → x ≡ nothing

  abbrev pub HasHeard : (ℕ → ℕ → ℕ → P → Type 0) → ℕ → ℕ → List Border → List P → Type 0
  HasHeard right p t rows places = (k : ℕ) → k < length rows → IsHeard right p t (border_at rows k) (in_place places k)

  -- Once it has done second t it has a parcel of that second for each neighbour.
  abbrev pub HasSent : (ℕ → ℕ → ℕ → P → Type 0) → ℕ → ℕ → List Border → List P → Type 0
  HasSent right p t rows places = (k : ℕ) → k < length rows → right p (border_at rows k).neighbour t (in_place places k)

  -- partition p after t seconds, with nothing absorbed since then, and places for so many neighbours
  pub record HasDone {T : Type 0} (see : T → PartView P) (stands : T → Type 0) (p t count : ℕ) (x : T) : Type 0 where
    pub number : (see x).number ≡ p
    pub seconds : (see x).seconds ≡ t
    pub holds : stands x
    pub empty : AreEmpty count (see x).inbox
    pub places : length (see x).outbox ≡ count

  -- the same, with nothing left that is to go
  pub record IsAt {T : Type 0} (see : T → PartView P) (stands : T → Type 0) (p t count : ℕ) (x : T) : Type 0 where
    pub number : (see x).number ≡ p
    pub seconds : (see x).seconds ≡ t
    pub holds : stands x
    pub empty : AreEmpty count (see x).inbox
    pub gone : AreEmpty count (see x).outbox

  -- partitions 0 to n - 1 in order, each after t seconds, with places for so many neighbours
  abbrev pub EachAt : {T : Type 0} → (T → PartView P) → (T → Type 0) → ℕ → (ℕ → ℕ) → ℕ → List T → Type 0
  EachAt {T} see stands t degree n parts = (p : ℕ) (d : T) → p < n → IsAt see stands p t (degree p) (get_or parts p d)

-- what holds of the one in a run holds of the other
abbrev pub Stays : {R T : Type 0} → (R → T → Type 0) → T → T → Type 0
Stays {R} {T} stands old new = (run : R) → stands run old → stands run new
