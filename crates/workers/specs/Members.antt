-- Partitions with their ports on threads: what holds of them between two seconds, and what is promised of them.
use Rattle.std.specs.Fork.{slice_chunk}
use Rattle.std.specs.Prelude.{◌≡◌, ℕ, ◌+◌, ◌-◌, ◌*◌, ◌<◌, ◌≤◌, ◌⊎◌, Bool, true, false, List, length, sum_by, slice_index_or}
use Rattle.cells.specs.Ports.{IsPort, IsUntouched, degree, neighbour, lag_from, partition_of, done_of, waits, still, run_of, count_of}
use Rattle.cells.specs.declared.board.{Board.Board, Port.Port}
use Rattle.step_core.specs.{Nets.Net, Nets.IsNet, Nets.border_at, Views.PartView, Views.IsAt, declared.part.Border.Border}
use Rattle.workers.specs.{Parcels.right_or_none, declared.bundles.TheConstants.PATIENCE, declared.members.Member.Member, declared.members.ParcelsOf.ParcelsOf}
use Rattle.workers.specs.declared.members.Round.{Round, TheVariants.AllEnded, TheVariants.OneStopped, TheVariants.AllWaited, TheVariants.SomeMoved}
use Rattle.workers.specs.declared.members.Turn.{Turn, TheVariants.Ended, TheVariants.Stopped, TheVariants.Waited, TheVariants.Moved}

-- what a turn sets of the flags of its round
abbrev pub Flagged : Bool → Bool → Bool → Turn → Type 0
Flagged stopped moved waited Ended = Unit {0}
Flagged stopped moved waited Stopped = stopped ≡ true
Flagged stopped moved waited Waited = waited ≡ true
Flagged stopped moved waited Moved = moved ≡ true

abbrev pub one_if : Bool → ℕ
one_if true = 1
one_if false = 0

module _ {T R P : Type 0} where
  -- BOARDS
  -- neighbour k of a port, as its partition has it
  abbrev pub border_of : Port (ParcelsOf T) R P → ℕ → Border
  border_of q k = record { neighbour = neighbour q k; lag = lag_from q k }

  -- these are the neighbours of a port, in order, with the lags from them
  pub record HasNeighbours (rows : List Border) (q : Port (ParcelsOf T) R P) : Type 0 where
    pub many : length rows ≡ degree q
    pub each : (k : ℕ) → k < degree q → border_at rows k ≡ border_of q k

  -- the board is one of this run: its partitions are those of the run, and each port has the neighbours that the run has for its partition
  pub record IsBoardOfRun (net : R → Net) (borders : R → ℕ → List Border) (nothing : P) (right : R → ℕ → ℕ → ℕ → P → Type 0)
      (run : R) (b : Board (ParcelsOf T) R P) : Type 0 where
    pub sound : IsNet (net run)
    pub about : run_of b ≡ run
    pub many : count_of b ≡ (net run).parts
    pub neighbours : (q : Port (ParcelsOf T) R P) → IsPort (right_or_none nothing right) b q → HasNeighbours (borders run (partition_of q)) q

  -- MEMBERS
  abbrev pub number_of : Member T R P → ℕ
  number_of m = partition_of m.port

  -- the seconds that it has done
  abbrev pub seconds_of : Member T R P → ℕ
  seconds_of m = done_of m.port

  -- it found no memory in a second
  abbrev pub is_stopped : Member T R P → Bool
  is_stopped m = m.stopped

  -- how many looks answered that a neighbour is not far enough: in all, and up to its last publishing (0 before the first)
  abbrev pub waits_of : Member T R P → ℕ
  waits_of m = waits m.port

  abbrev pub still_of : Member T R P → ℕ
  still_of m = still m.port

  -- the same member, at no fewer seconds
  pub record Goes (old new : Member T R P) : Type 0 where
    pub number : number_of new ≡ number_of old
    pub later : seconds_of old ≤ seconds_of new
    pub stopped : is_stopped old ≡ true → is_stopped new ≡ true

  -- what a turn was, in a run of so many seconds
  abbrev pub Turned : ℕ → Member T R P → Member T R P → Turn → Type 0
  Turned end old new Ended = (new ≡ old) × (is_stopped new ≡ false) × (seconds_of new ≡ end)
  Turned end old new Stopped = (is_stopped new ≡ true) × (seconds_of new ≡ seconds_of old)
  Turned end old new Waited = (is_stopped new ≡ false) × (seconds_of new ≡ seconds_of old) × (waits_of new ≡ waits_of old + 1)
      × (still_of new ≡ still_of old)
  Turned end old new Moved = (is_stopped new ≡ false) × (seconds_of new ≡ seconds_of old + 1) × (waits_of new ≡ waits_of old)
      × (still_of new ≡ waits_of old)

  -- the same members in order, each at no fewer seconds
  pub record AllGo (old new : List (Member T R P)) : Type 0 where
    pub long : length new ≡ length old
    pub each : (i : ℕ) (d : Member T R P) → i < length old → Goes (slice_index_or old i d) (slice_index_or new i d)

  -- none is stopped, and each has done all its seconds
  abbrev pub AllEnd : ℕ → List (Member T R P) → Type 0
  AllEnd end ms = (i : ℕ) (d : Member T R P) → i < length ms
      → (is_stopped (slice_index_or ms i d) ≡ false) × (seconds_of (slice_index_or ms i d) ≡ end)

  pub record SomeStopped (ms : List (Member T R P)) : Type 0 where
    pub place : ℕ
    pub inside : place < length ms
    pub stopped : (d : Member T R P) → is_stopped (slice_index_or ms place d) ≡ true

  -- where it has seconds left, it met n looks that were not ready, all of them since the old one and since it last published
  abbrev pub HasWaited : ℕ → ℕ → Member T R P → Member T R P → Type 0
  HasWaited end n old new = seconds_of new < end → (waits_of old + n ≤ waits_of new) × (still_of new + n ≤ waits_of new)

  -- none is stopped, and each that has seconds left waited for so long
  abbrev pub AllWait : ℕ → ℕ → List (Member T R P) → List (Member T R P) → Type 0
  AllWait end n old new = (i : ℕ) (d : Member T R P) → i < length new
      → (is_stopped (slice_index_or new i d) ≡ false) × HasWaited end n (slice_index_or old i d) (slice_index_or new i d)

  -- why members are given back
  abbrev pub Ends : ℕ → List (Member T R P) → List (Member T R P) → Type 0
  Ends end old new = AllEnd end new ⊎ SomeStopped new ⊎ AllWait end PATIENCE old new

  -- the members of all partitions below n, by number
  pub record AreAll (n : ℕ) (ms : List (Member T R P)) : Type 0 where
    pub many : length ms ≡ n
    pub numbered : (i : ℕ) (d : Member T R P) → i < length ms → number_of (slice_index_or ms i d) ≡ i

  -- ROUNDS
  -- none moved in the last n rounds
  abbrev pub Patient : ℕ → ℕ → List (Member T R P) → List (Member T R P) → Type 0
  Patient end n old new = (i : ℕ) (d : Member T R P) → i < length new → (0 < n → is_stopped (slice_index_or new i d) ≡ false)
      × (is_stopped (slice_index_or new i d) ≡ false → HasWaited end n (slice_index_or old i d) (slice_index_or new i d))

  -- the seconds that are left to all
  abbrev pub seconds_left : ℕ → List (Member T R P) → ℕ
  seconds_left end ms = sum_by (λ (m : Member T R P). end - seconds_of m) ms

  -- a turn that the flags of its round tell
  pub record TurnedAs (end : ℕ) (stopped moved waited : Bool) (old new : Member T R P) : Type 0 where
    pub goes : Goes old new
    pub turn : Turn
    pub turned : Turned end old new turn
    pub flagged : Flagged stopped moved waited turn

  -- where it has seconds left, it waited once
  abbrev pub WaitedOnce : ℕ → Member T R P → Member T R P → Type 0
  WaitedOnce end old new = seconds_of new < end
      → (waits_of new ≡ waits_of old + 1) × (still_of new ≡ still_of old) × (seconds_of new ≡ seconds_of old)

  -- A RUN UP TO A SECOND
  -- what the partitions of a run are, as the trait `Part` has it, and up to which second they are run
  module _ (until : ℕ) (borders : R → ℕ → List Border) (nothing : P) (see : T → PartView P) (stands : R → T → Type 0)
      (right : R → ℕ → ℕ → ℕ → P → Type 0) (run : R) (b : Board (ParcelsOf T) R P) where
    -- A member between two seconds: its partition holds and has told what it has after so many seconds by itself, with nothing absorbed
    -- since and nothing left that is to go, and its port is that of the partition on this board, at the same second, with nothing taken
    -- and nothing put in it.
    pub record Rests (m : Member T R P) : Type 0 where
      pub port : IsPort (right_or_none nothing right) b m.port
      pub untouched : IsUntouched m.port
      pub at : IsAt nothing see (stands run) (number_of m) (seconds_of m) (length (borders run (number_of m))) m.part
      pub within : seconds_of m ≤ until
      pub counts : still_of m ≤ waits_of m

  module _ (until : ℕ) (borders : R → ℕ → List Border) (nothing : P) (see : T → PartView P) (stands : R → T → Type 0)
      (spent : T → Type 0)
      (right : R → ℕ → ℕ → ℕ → P → Type 0) (run : R) (b : Board (ParcelsOf T) R P) where
    -- it rests, or was stopped: that alone whose partition found no memory in a second
    pub record IsMember (m : Member T R P) : Type 0 where
      pub rests : is_stopped m ≡ false → Rests until borders nothing see stands right run b m
      pub poor : is_stopped m ≡ true → spent m.part

    abbrev pub AreMembers : List (Member T R P) → Type 0
    AreMembers ms = (i : ℕ) (d : Member T R P) → i < length ms → IsMember (slice_index_or ms i d)

    pub record Went (old new : List (Member T R P)) : Type 0 where
      pub members : AreMembers new
      pub go : AllGo old new

    -- THE PROMISE with which a thread gives its members back
    pub record Ran (old new : List (Member T R P)) : Type 0 where
      pub went : Went old new
      pub ends : Ends until old new

    -- the members were cut into lists of one size, and each list was given back with the promise
    pub record RunSpread (old new : List (Member T R P)) : Type 0 where
      pub went : Went old new
      pub size : ℕ
      pub some : 0 < size
      pub ran : (n : ℕ) → n * size < length old → Ran (slice_chunk old size n) (slice_chunk new size n)

    -- the members below k had their turn in this round
    pub record RoundTo (k : ℕ) (stopped moved waited : Bool) (old new : List (Member T R P)) : Type 0 where
      pub long : length new ≡ length old
      pub members : AreMembers new
      pub turns : (j : ℕ) (d : Member T R P) → j < k
          → TurnedAs until stopped moved waited (slice_index_or old j d) (slice_index_or new j d)
      pub rest : (j : ℕ) (d : Member T R P) → k ≤ j → slice_index_or new j d ≡ slice_index_or old j d
      pub some : stopped ≡ true → SomeStopped new
      pub less : seconds_left until new + one_if moved ≤ seconds_left until old

    -- what the whole round came to
    abbrev pub Rounded : List (Member T R P) → List (Member T R P) → Round → Type 0
    Rounded old new AllEnded = Went old new × AllEnd until new
    Rounded old new OneStopped = Went old new × SomeStopped new
    Rounded old new AllWaited = Went old new × (seconds_left until new ≤ seconds_left until old)
        × ((i : ℕ) (d : Member T R P) → i < length new → (is_stopped (slice_index_or new i d) ≡ false)
        × WaitedOnce until (slice_index_or old i d) (slice_index_or new i d))
    Rounded old new SomeMoved = Went old new × (seconds_left until new + 1 ≤ seconds_left until old)
        × ((i : ℕ) (d : Member T R P) → i < length new → (is_stopped (slice_index_or new i d) ≡ false)
        × (waits_of (slice_index_or old i d) ≤ waits_of (slice_index_or new i d)))
