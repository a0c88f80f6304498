-- What a member takes from its port before a second, and puts into it after it.
use Rattle.std.specs.Prelude.{◌≡◌, ℕ, ◌<◌, ◌≤◌, true, length, Option}
use Rattle.cells.specs.Ports.{IsPort, IsUnread, SameSecond, degree, partition_of, done_of, waits, run_of, handover, is_taken, is_put}
use Rattle.cells.specs.declared.board.{Board.Board, Port.Port}
use Rattle.step_core.specs.Views.{PartView, IsHeard, Stays, in_place}
use Rattle.workers.specs.{Members.border_of, Parcels.right_or_none, declared.members.ParcelsOf.ParcelsOf}

module _ {T R P : Type 0} (right : R → ℕ → ℕ → ℕ → Option P → Type 0) (b : Board T R P) (before : Port T R P) where
  -- what goes to the first k neighbours was put
  pub record ArePut (k : ℕ) (q : Port T R P) : Type 0 where
    pub port : IsPort right b q
    pub same : SameSecond before q
    pub waits : waits q ≡ waits before
    pub put : (j : ℕ) → j < k → is_put (handover q j) ≡ true
    pub taken : (j : ℕ) → k ≤ j → j < degree before → is_taken (handover q j) ≡ true

module _ {T R P : Type 0} (nothing : P) (see : T → PartView P) (stands : R → T → Type 0) (right : R → ℕ → ℕ → ℕ → P → Type 0)
    (b : Board (ParcelsOf T) R P) (before : Port (ParcelsOf T) R P) (x : T) where
  -- what the first k neighbours sent was taken, and absorbed where something was in it
  pub record HasTakenTo (k : ℕ) (q : Port (ParcelsOf T) R P) (y : T) : Type 0 where
    pub port : IsPort (right_or_none nothing right) b q
    pub same : SameSecond before q
    pub waits : waits q ≡ waits before
    pub taken : (j : ℕ) → j < k → is_taken (handover q j) ≡ true
    pub unread : (j : ℕ) → k ≤ j → j < degree before → IsUnread q j
    pub many : length (see y).inbox ≡ degree before
    pub heard : (j : ℕ) → j < k → IsHeard nothing (right (run_of b)) (partition_of before) (done_of before) (border_of before j)
        (in_place nothing (see y).inbox j)
    pub none : (j : ℕ) → k ≤ j → j < degree before → in_place nothing (see y).inbox j ≡ nothing
    pub outbox : (see y).outbox ≡ (see x).outbox
    pub number : (see y).number ≡ (see x).number
    pub seconds : (see y).seconds ≡ (see x).seconds
    pub stays : Stays stands x y

  -- the parcels for the first k neighbours were taken out of the partition and put
  pub record HasPutTo (k : ℕ) (q : Port (ParcelsOf T) R P) (y : T) : Type 0 where
    pub put : ArePut (right_or_none nothing right) b before k q
    pub many : length (see y).outbox ≡ degree before
    pub gone : (j : ℕ) → j < k → in_place nothing (see y).outbox j ≡ nothing
    pub kept : (j : ℕ) → k ≤ j → j < degree before → in_place nothing (see y).outbox j ≡ in_place nothing (see x).outbox j
    pub inbox : (see y).inbox ≡ (see x).inbox
    pub number : (see y).number ≡ (see x).number
    pub seconds : (see y).seconds ≡ (see x).seconds
    pub stays : Stays stands x y
