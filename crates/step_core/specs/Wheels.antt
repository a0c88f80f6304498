-- What lies in the wheel of a partition: what was sent to it and is not absorbed, in the row of the second in which it is due.
use Rattle.std.specs.Prelude.{◌≡◌, ◌≢◌, ℕ, ◌+◌, ◌*◌, ◌%◌, ◌<◌, ◌≤◌, Bool, false, length, get_or}
use Rattle.limits.specs.declared.TheConstants.{MAX_PARTITIONS}
use Rattle.number_sets.specs.Sets.{has}
use Rattle.step_core.specs.declared.wheel.{TheConstants.WHEEL, Wheel.Wheel}

-- the row of a second, and of the place of a sender in it the index of what lies there, sender by sender
abbrev pub row_of : ℕ → ℕ
row_of u = u % WHEEL

abbrev pub place_in : ℕ → ℕ → ℕ
place_in u a = a * WHEEL + row_of u

-- each sender has a lag, each row a set of senders, and a place for each sender
pub record IsWhole {P : Type 0} (w : Wheel P) : Type 0 where
  pub senders : length w.lags.items ≡ MAX_PARTITIONS
  pub rows : length w.noted.items ≡ WHEEL
  pub places : length w.parcels.items ≡ WHEEL * MAX_PARTITIONS

-- how long a parcel of a sender is on its way, and when that of a second is due
abbrev pub lag_in : {P : Type 0} → Wheel P → ℕ → ℕ
lag_in w a = get_or w.lags.items a 0

abbrev pub due_in : {P : Type 0} → Wheel P → ℕ → ℕ → ℕ
due_in w t a = t + lag_in w a

-- the senders of whom something may lie in the row of a second, and whether this is one of them
abbrev pub notes_at : {P : Type 0} → Wheel P → ℕ → ℕ
notes_at w u = get_or w.noted.items (row_of u) 0

abbrev pub is_noted : {P : Type 0} → Wheel P → ℕ → ℕ → Bool
is_noted w u a = has (notes_at w u) a

-- where this is the parcel with nothing in it
module _ {P : Type 0} (nothing : P) where
  -- what lies in the row of a second in the place of a sender
  abbrev pub lies : Wheel P → ℕ → ℕ → P
  lies w u a = get_or w.parcels.items (place_in u a) nothing

  -- it is whole, and of a sender who is not noted nothing lies
  pub record IsNoted (w : Wheel P) : Type 0 where
    pub whole : IsWhole w
    pub quiet : (u a : ℕ) → a < MAX_PARTITIONS → is_noted w u a ≡ false → lies w u a ≡ nothing

  -- A partition has done t seconds, and of its neighbours a has done s. Of each second of a whose parcel is due and not absorbed the right
  -- one lies in its wheel. Before the first of them comes from a nothing does.
  pub record IsFilled (right : ℕ → P → Type 0) (s t lag a : ℕ) (w : Wheel P) : Type 0 where
    pub full : (u : ℕ) → u < s → t ≤ u + lag → right u (lies w (u + lag) a)
    pub before : (u : ℕ) → t ≤ u → u < lag → lies w u a ≡ nothing

  -- nothing lies where a parcel of a later second of a will
  abbrev pub HasRoom : ℕ → ℕ → ℕ → ℕ → Wheel P → Type 0
  HasRoom s t lag a w = (u : ℕ) → s + lag ≤ u → u < t + WHEEL → lies w u a ≡ nothing

  -- once x came from a and is due in second u
  pub record IsPut (u a : ℕ) (x : P) (old new : Wheel P) : Type 0 where
    pub noted : IsNoted new
    pub lags : new.lags.items ≡ old.lags.items
    pub here : lies new u a ≡ x
    pub rest : (v : ℕ) → row_of v ≢ row_of u → lies new v a ≡ lies old v a
    pub others : (v b : ℕ) → b < MAX_PARTITIONS → b ≢ a → lies new v b ≡ lies old v b
