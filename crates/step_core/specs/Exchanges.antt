-- What a partition takes out of its wheel before a second, and puts into those of its neighbours after it.
use Rattle.std.specs.Prelude.{◌≡◌, ◌≢◌, ℕ, ◌+◌, ◌<◌, ◌≤◌, List, length, get_or}
use Rattle.limits.specs.declared.TheConstants.{MAX_PARTITIONS}
use Rattle.step_core.specs.{Cores.done_at, Nets.border_at, Views.PartView, Views.Stays, Views.in_place, Views.IsHeard}
use Rattle.step_core.specs.Wheels.{IsNoted, row_of, due_in, lies, IsPut}
use Rattle.step_core.specs.declared.{hearing.Late.Late, part.Border.Border, wheel.Wheel.Wheel}

abbrev pub neighbour_at : List Border → ℕ → ℕ
neighbour_at rows k = (border_at rows k).neighbour

abbrev pub lag_at : List Border → ℕ → ℕ
lag_at rows k = (border_at rows k).lag

-- neighbours, ascending, all of them among as many partitions as there may be
pub record AreListed (rows : List Border) : Type 0 where
  pub each : (k : ℕ) → k < length rows → neighbour_at rows k < MAX_PARTITIONS
  pub ascend : (j k : ℕ) → j < k → k < length rows → neighbour_at rows j < neighbour_at rows k

-- neighbours ascend
abbrev pub Ascend : List Border → Type 0
Ascend rows = (j k : ℕ) → j < k → k < length rows → neighbour_at rows j < neighbour_at rows k

-- the neighbour at place k is this partition
pub record IsPlaceOf (rows : List Border) (q k : ℕ) : Type 0 where
  pub there : k < length rows
  pub is : neighbour_at rows k ≡ q

-- b is none of the first k of these
abbrev pub IsBeside : List Border → ℕ → ℕ → Type 0
IsBeside rows k b = (j : ℕ) → j < k → neighbour_at rows j ≡ b → ⊥

module _ {P : Type 0} (nothing : P) where
  -- WHAT IS TAKEN
  -- what those of the neighbours that have a lesser number than b sent was taken out of the row of second t, and lies in their places
  pub record HaveHeard (t : ℕ) (rows : List Border) (b : ℕ) (old new : Wheel P) (inbox : List P) : Type 0 where
    pub noted : IsNoted nothing new
    pub lags : new.lags.items ≡ old.lags.items
    pub degree : length inbox ≡ length rows
    pub came : (k : ℕ) → k < length rows → neighbour_at rows k < b → in_place nothing inbox k ≡ lies nothing old t (neighbour_at rows k)
    pub none : (k : ℕ) → k < length rows → b ≤ neighbour_at rows k → in_place nothing inbox k ≡ nothing
    pub taken : (k : ℕ) → k < length rows → neighbour_at rows k < b → lies nothing new t (neighbour_at rows k) ≡ nothing
    pub rest : (a : ℕ) → a < MAX_PARTITIONS → b ≤ a → lies nothing new t a ≡ lies nothing old t a
    pub others : (u a : ℕ) → a < MAX_PARTITIONS → row_of u ≢ row_of t → lies nothing new u a ≡ lies nothing old u a

  -- nothing that a neighbour sent lies in the row of second t any more
  pub record AreTaken (t : ℕ) (rows : List Border) (old new : Wheel P) : Type 0 where
    pub noted : IsNoted nothing new
    pub lags : new.lags.items ≡ old.lags.items
    pub taken : (k : ℕ) → k < length rows → lies nothing new t (neighbour_at rows k) ≡ nothing
    pub others : (u a : ℕ) → a < MAX_PARTITIONS → row_of u ≢ row_of t → lies nothing new u a ≡ lies nothing old u a

  module _ {R T : Type 0} (see : T → PartView P) (stands : R → T → Type 0) where
    -- a partition that is otherwise as it was has what those of its neighbours sent for second t that have a lesser number than b
    pub record AreHeard (t : ℕ) (rows : List Border) (b : ℕ) (old new : Wheel P) (before after : T) : Type 0 where
      pub heard : HaveHeard t rows b old new (see after).inbox
      pub outbox : (see after).outbox ≡ (see before).outbox
      pub number : (see after).number ≡ (see before).number
      pub seconds : (see after).seconds ≡ (see before).seconds
      pub stays : Stays stands before after

    -- it has what all of them sent for it, and that is taken
    pub record HasTakenIn (t : ℕ) (rows : List Border) (old new : Wheel P) (before after : T) : Type 0 where
      pub taken : AreTaken t rows old new
      pub came : (k : ℕ) → k < length rows → in_place nothing (see after).inbox k ≡ lies nothing old t (neighbour_at rows k)
      pub degree : length (see after).inbox ≡ length rows
      pub outbox : (see after).outbox ≡ (see before).outbox
      pub number : (see after).number ≡ (see before).number
      pub seconds : (see after).seconds ≡ (see before).seconds
      pub stays : Stays stands before after

  -- WHAT IS SENT
  -- what p, in second t, sends to the first k of its neighbours was put into their wheels
  pub record HaveSent (t p : ℕ) (rows : List Border) (k : ℕ) (old new : List (Wheel P)) (before outbox : List P) : Type 0 where
    pub long : length new ≡ length old
    pub degree : length outbox ≡ length before
    pub gone : (j : ℕ) → j < k → in_place nothing outbox j ≡ nothing
    pub kept : (j : ℕ) → k ≤ j → in_place nothing outbox j ≡ in_place nothing before j
    pub sent : (j : ℕ) (d : Wheel P) → j < k → IsPut nothing (due_in (get_or old (neighbour_at rows j) d) t p) p
        (in_place nothing before j) (get_or old (neighbour_at rows j) d) (get_or new (neighbour_at rows j) d)
    pub others : (b : ℕ) (d : Wheel P) → IsBeside rows k b → get_or new b d ≡ get_or old b d

  module _ {R T : Type 0} (see : T → PartView P) (stands : R → T → Type 0) where
    -- by a partition that is otherwise as it was
    pub record AreSent (t p : ℕ) (rows : List Border) (k : ℕ) (old new : List (Wheel P)) (before after : T) : Type 0 where
      pub sent : HaveSent t p rows k old new (see before).outbox (see after).outbox
      pub inbox : (see after).inbox ≡ (see before).inbox
      pub number : (see after).number ≡ (see before).number
      pub seconds : (see after).seconds ≡ (see before).seconds
      pub stays : Stays stands before after

  -- A SECOND
  -- the wheels are there, whole and noted, and have room for what p sends to its neighbours in second t
  pub record HaveRoom (t p : ℕ) (rows : List Border) (wheels : List (Wheel P)) : Type 0 where
    pub few : p < MAX_PARTITIONS
    pub listed : AreListed rows
    pub there : (k : ℕ) → k < length rows → neighbour_at rows k < length wheels
    pub noted : (b : ℕ) (d : Wheel P) → b < length wheels → IsNoted nothing (get_or wheels b d)
    pub room : (k : ℕ) (d : Wheel P) → k < length rows
        → lies nothing (get_or wheels (neighbour_at rows k) d) (due_in (get_or wheels (neighbour_at rows k) d) t p) p ≡ nothing

  -- moreover these are others than p, whose own wheel has what they sent for second t
  pub record IsReady (right : ℕ → ℕ → ℕ → P → Type 0) (t p : ℕ) (rows : List Border) (wheels : List (Wheel P)) : Type 0 where
    pub have : HaveRoom t p rows wheels
    pub here : p < length wheels
    pub other : (k : ℕ) → k < length rows → neighbour_at rows k ≡ p → ⊥
    pub heard : (k : ℕ) (d : Wheel P) → k < length rows
        → IsHeard nothing right p t (border_at rows k) (lies nothing (get_or wheels p d) t (neighbour_at rows k))

  -- one right parcel came from a, due in second u
  pub record IsGiven (R : P → Type 0) (u a : ℕ) (old new : Wheel P) : Type 0 where
    pub parcel : P
    pub right : R parcel
    pub put : IsPut nothing u a parcel old new

  -- before second t p has taken what its neighbours sent, and sent nothing
  pub record HasTaken (t p : ℕ) (rows : List Border) (old new : List (Wheel P)) : Type 0 where
    pub long : length new ≡ length old
    pub taken : (d : Wheel P) → AreTaken t rows (get_or old p d) (get_or new p d)
    pub others : (b : ℕ) (d : Wheel P) → b ≢ p → get_or new b d ≡ get_or old b d

  -- in second t p has taken what its neighbours sent, and given a right parcel to each
  pub record HasExchanged (right : ℕ → ℕ → ℕ → P → Type 0) (t p : ℕ) (rows : List Border) (old new : List (Wheel P)) : Type 0 where
    pub long : length new ≡ length old
    pub taken : (d : Wheel P) → AreTaken t rows (get_or old p d) (get_or new p d)
    pub given : (k : ℕ) (d : Wheel P) → k < length rows → IsGiven (right p (neighbour_at rows k) t)
        (due_in (get_or old (neighbour_at rows k) d) t p) p (get_or old (neighbour_at rows k) d) (get_or new (neighbour_at rows k) d)
    pub others : (b : ℕ) (d : Wheel P) → b ≢ p → IsBeside rows (length rows) b → get_or new b d ≡ get_or old b d

-- WHO IS LATE
-- of these borders in second t the first neighbour that is behind by the lag or more, and how many seconds it has done
pub record IsFirstLate (rows : List Border) (t : ℕ) (done : List ℕ) (late : Late) : Type 0 where
  pub place : ℕ
  pub there : place < length rows
  pub neighbour : late.neighbour ≡ neighbour_at rows place
  pub published : late.published ≡ done_at done (neighbour_at rows place)
  pub behind : late.published + lag_at rows place ≤ t
  pub before : (j : ℕ) → j < place → t < done_at done (neighbour_at rows j) + lag_at rows j
