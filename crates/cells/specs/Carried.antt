-- What a port carries when it publishes.
use Rattle.std.specs.Prelude.{◌≡◌, ℕ, ◌-◌, ◌<◌, ◌≤◌, ◌⊎◌, List, [], ◌∷◌, Option, None}
use Rattle.cells.specs.Rings.{slot}

-- the slot k is carried with the value y
abbrev pub Carries : {A : Type 0} → List (ℕ × A) → ℕ → A → Type 0
Carries [] k y = ⊥
Carries (x ∷ xs) k y = ((x.0 ≡ k) × (x.1 ≡ y)) ⊎ Carries xs k y

-- of partition p, which is about to publish second t
module _ {S : Type 0} (right : ℕ → ℕ → ℕ → Option S → Type 0) (n : ℕ) (from to lag twin : ℕ → ℕ) (p t : ℕ) where
  -- an in-slot, which is empty
  abbrev pub IsEmptied : ℕ → Option S → Type 0
  IsEmptied k y = (e : ℕ) × (e < n) × (to e ≡ p) × (lag e ≤ t) × (k ≡ slot e (t - lag e)) × (y ≡ None)

  -- an out-slot, which has the right parcel, or none where that is right
  abbrev pub IsFilled : ℕ → Option S → Type 0
  IsFilled k y = (e : ℕ) × (e < n) × (from e ≡ p) × (k ≡ slot e t) × right p (to e) t y

  -- nothing else is carried
  abbrev pub AreOfSecond : List (ℕ × Option S) → Type 0
  AreOfSecond c = (k : ℕ) (y : Option S) → Carries c k y → IsEmptied k y ⊎ IsFilled k y

  abbrev pub CarriesSlot : List (ℕ × Option S) → ℕ → Type 0
  CarriesSlot c k = (y : Option S) × Carries c k y

  -- both slots of the channel e into p are carried
  abbrev pub CarriesBoth : List (ℕ × Option S) → ℕ → Type 0
  CarriesBoth c e = (lag e ≤ t → CarriesSlot c (slot e (t - lag e))) × CarriesSlot c (slot (twin e) t)
