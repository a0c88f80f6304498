-- The words and the slots of a board, as functions. Each ordered pair of neighbours has a channel, and each channel a ring of 64 slots.
-- The rings lie 65 slots apart (SLOTS_APART); the slot behind each ring is never used.
-- W is the word of a partition (the seconds that it has done), H what lies in a slot (none where it is out with a seat), and m says of a
-- channel whether its receiver has marked its sender as ready in the second that it is about to do.
use Rattle.std.specs.Prelude.{◌≡◌, ◌≢◌, ℕ, ◌+◌, ◌-◌, ◌*◌, ◌%◌, ◌<◌, ◌≤◌, Bool, true, false, cond, ◌||◌, eqb, Option, None}
use mathlib.Core.Option.{some, none}
use mathlib.Core.Option as maybe
use Rattle.cells.specs.declared.TheConstants.{SLOTS, SLOTS_APART}
use Rattle.limits.specs.declared.TheConstants.{MAX_LAG}

-- the slot of a channel for the parcel of a second
abbrev pub slot : ℕ → ℕ → ℕ
slot e s = SLOTS_APART * e + s % SLOTS

-- n channels among the partitions below `count`: each goes from one partition to another, with a lag, and has a twin that goes back
pub record AreChannels (count n : ℕ) (from to lag twin : ℕ → ℕ) : Type 0 where
  pub from_in : (e : ℕ) → e < n → from e < count
  pub to_in : (e : ℕ) → e < n → to e < count
  pub apart : (e : ℕ) → e < n → from e ≢ to e
  pub soon : (e : ℕ) → e < n → 1 ≤ lag e
  pub late : (e : ℕ) → e < n → lag e ≤ MAX_LAG
  pub twin_in : (e : ℕ) → e < n → twin e < n
  pub back : (e : ℕ) → e < n → from (twin e) ≡ to e
  pub forth : (e : ℕ) → e < n → to (twin e) ≡ from e
  pub again : (e : ℕ) → e < n → twin (twin e) ≡ e

-- the marks with one more, of channel e
abbrev pub mark : (ℕ → Bool) → ℕ → ℕ → Bool
mark m e x = eqb x e || m x

-- the marks without those of partition p
abbrev pub clear : (ℕ → Bool) → (ℕ → ℕ) → ℕ → ℕ → Bool
clear m to p x = cond (eqb (to x) p) false (m x)

-- What holds between any two steps. A parcel of second s in channel e belongs to its slot while the sender has done more than s seconds
-- (s < W (from e)) and the receiver is still to absorb it (W (to e) ≤ s + lag e).
pub record AreRings {S : Type 0} (right : ℕ → ℕ → ℕ → Option S → Type 0) (n : ℕ) (from to lag twin : ℕ → ℕ) (W : ℕ → ℕ)
    (H : ℕ → maybe.Option (maybe.Option (Option S))) (m : ℕ → Bool) : Type 0 where
  -- no word is further than the lag past a neighbour's
  pub near : (e : ℕ) → e < n → W (to e) ≤ W (from e) + lag e
  -- a neighbour that is marked as ready is far enough
  pub ready : (e : ℕ) → e < n → m e ≡ true → W (to e) < W (from e) + lag e
  -- each parcel that belongs to a slot lies in it and is the right one, but for the one that a receiver with a mark has out; where it is
  -- right that none was sent, none lies there
  pub full : (e s : ℕ) → e < n → W (to e) ≤ s + lag e → s < W (from e) → (m e ≡ true → W (to e) ≢ s + lag e)
      → (x : Option S) × (H (slot e s) ≡ some (some x)) × right (from e) (to e) s x
  -- the slot of that parcel is out
  pub received : (e : ℕ) → e < n → m e ≡ true → lag e ≤ W (to e) → H (slot e (W (to e) - lag e)) ≡ some none
  -- each slot that no parcel belongs to is empty, but for the one that a sender with a mark has out
  pub free : (e s : ℕ) → e < n → W (from e) ≤ s → s < SLOTS + (W (to e) - lag e) → (m (twin e) ≡ true → s ≢ W (from e))
      → H (slot e s) ≡ some (some None)
  -- that slot, for the parcel of the second that the sender is about to do, is out
  pub lent : (e : ℕ) → e < n → m (twin e) ≡ true → H (slot e (W (from e))) ≡ some none
