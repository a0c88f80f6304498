-- What clauses say of a board, its hub and its ports.
use Rattle.std.specs.Prelude.{◌≡◌, ◌≢◌, ℕ, ◌+◌, ◌-◌, ◌*◌, ◌%◌, ◌<◌, ◌≤◌, ◌⊎◌, Bool, true, false, cond, leb, List, [], ◌∷◌, ◌++◌, map, length, sum_by, Option}
use Rattle.std.specs.Prelude.{Some, None, slice_index_or, slice_set, vec_capacity}
use mathlib.Core.Option.{some, none}
use lib.ListN.{get_elem?}
use Rattle.atomic_table.specs.Table.{State}
use Rattle.cells.specs.declared.{TheConstants.SLOTS, TheConstants.SLOTS_APART, board.Board.Board, board.Hub.Hub, board.Port.Port, board.Handover.Handover}
use Rattle.cells.specs.declared.board.Handover.TheVariants.{Awaited, Arrived, Taken, Put}
use Rattle.cells.specs.declared.{board.Look.Look, board.Look.TheVariants.Ready, board.Look.TheVariants.NotYet, table.Channel.Channel, table.Border.Border}
use Rattle.cells.specs.{declared.table.View.View, Rule.contains, Rule.no_border, Rule.word_at, Rule.from_of, Rule.to_of, Rule.lag_of, Rule.twin_of}
use Rattle.cells.specs.{Rule.is_port, Rule.is_hub, Rule.IsKept, Carried.AreOfSecond, Carried.CarriesBoth, Pairs.Pair, Pairs.AreLags, Rings.slot}

-- BORDERS
-- a border is that of a channel into p
pub record IsBorder (cs : List Channel) (p : ℕ) (r : Border) : Type 0 where
  pub inside : r.inward < length cs
  pub sender : from_of cs r.inward ≡ r.from
  pub receiver : to_of cs r.inward ≡ p
  pub late : lag_of cs r.inward ≡ r.lag
  pub twin : twin_of cs r.inward ≡ r.outward

abbrev pub border_at : List Border → ℕ → Border
border_at borders k = slice_index_or borders k no_border

-- the neighbours ascend
abbrev pub Ascends : List Border → Type 0
Ascends borders = (j k : ℕ) → j < k → k < length borders → (border_at borders j).from < (border_at borders k).from

-- the borders are those of the channels into p, each once, by ascending neighbours
pub record AreBorders (cs : List Channel) (p : ℕ) (borders : List Border) : Type 0 where
  pub each : (k : ℕ) → k < length borders → IsBorder cs p (border_at borders k)
  pub all : (e : ℕ) → e < length cs → to_of cs e ≡ p → (k : ℕ) × (k < length borders) × ((border_at borders k).inward ≡ e)
  pub once : (j k : ℕ) → j < length borders → k < length borders → (border_at borders j).inward ≡ (border_at borders k).inward → j ≡ k
  pub ascend : Ascends borders

-- the borders found so far of the channels into p: those from partitions below q, and from q those of channels below e
pub record AreFound (cs : List Channel) (p q e : ℕ) (borders : List Border) : Type 0 where
  pub each : (k : ℕ) → k < length borders → IsBorder cs p (border_at borders k)
  pub before : (k : ℕ) → k < length borders
      → ((border_at borders k).from < q) ⊎ (((border_at borders k).from ≡ q) × ((border_at borders k).inward < e))
  pub all : (d : ℕ) → d < length cs → to_of cs d ≡ p → (from_of cs d < q) ⊎ ((from_of cs d ≡ q) × (d < e))
      → (k : ℕ) × (k < length borders) × ((border_at borders k).inward ≡ d)
  pub once : (j k : ℕ) → j < length borders → k < length borders → (border_at borders j).inward ≡ (border_at borders k).inward → j ≡ k
  pub climbs : (j k : ℕ) → j < k → k < length borders → (border_at borders j).from ≤ (border_at borders k).from

-- HANDOVERS
module _ {P : Type 0} where
  abbrev pub handover_at : List (Handover P) → ℕ → Handover P
  handover_at hs k = slice_index_or hs k Awaited

  abbrev pub is_awaited : Handover P → Bool
  is_awaited Awaited = true
  is_awaited (Arrived x) = false
  is_awaited Taken = false
  is_awaited (Put y) = false

  abbrev pub is_arrived : Handover P → Bool
  is_arrived Awaited = false
  is_arrived (Arrived x) = true
  is_arrived Taken = false
  is_arrived (Put y) = false

  -- the neighbour was ready, and nothing is left to be taken of it
  abbrev pub is_taken : Handover P → Bool
  is_taken Awaited = false
  is_taken (Arrived x) = false
  is_taken Taken = true
  is_taken (Put y) = true

  abbrev pub is_put : Handover P → Bool
  is_put Awaited = false
  is_put (Arrived x) = false
  is_put Taken = false
  is_put (Put y) = true

  -- what goes out to the neighbour as the second ends: what was put for it, or nothing
  abbrev pub GoesOut : Option P → Handover P → Type 0
  GoesOut y Awaited = ⊥
  GoesOut y (Arrived x) = ⊥
  GoesOut y Taken = y ≡ None
  GoesOut y (Put z) = z ≡ y

  -- one where the neighbour was ready in this second
  abbrev pub ready_in : Handover P → ℕ
  ready_in Awaited = 0
  ready_in (Arrived x) = 1
  ready_in Taken = 1
  ready_in (Put y) = 1

  -- of how many seconds of a neighbour with lag l it was taken what it sent, where second t is about to be done or being done
  abbrev pub taken_by : ℕ → ℕ → Handover P → ℕ
  taken_by l t Awaited = t - l
  taken_by l t (Arrived x) = t - l
  taken_by l t Taken = t + 1 - l
  taken_by l t (Put y) = t + 1 - l

  -- of a neighbour with lag l: it was ready, and its parcel, if there is one for this second, was not taken yet
  abbrev pub IsUnreadOf : ℕ → ℕ → Handover P → Type 0
  IsUnreadOf l t Awaited = ⊥
  IsUnreadOf l t (Arrived x) = Unit {0}
  IsUnreadOf l t Taken = t < l
  IsUnreadOf l t (Put y) = ⊥

  -- the slots of a border that a port has out in second t
  abbrev pub slots_of : Border → ℕ → List (ℕ × Option P)
  slots_of r t =
      cond (leb r.lag t) ((slot r.inward (t - r.lag), None) ∷ (slot r.outward t, None) ∷ []) ((slot r.outward t, None) ∷ [])

  -- the same with what is to be sent, a parcel or none
  abbrev pub filled_slots_of : Border → ℕ → Option P → List (ℕ × Option P)
  filled_slots_of r t y =
      cond (leb r.lag t) ((slot r.inward (t - r.lag), None) ∷ (slot r.outward t, y) ∷ []) ((slot r.outward t, y) ∷ [])

  -- those of several borders, the last ahead of the others, and then the slots c
  abbrev pub all_slots_of : List Border → ℕ → List ℕ → List (ℕ × Option P) → List (ℕ × Option P)
  all_slots_of borders t [] c = c
  all_slots_of borders t (k ∷ ks) c = all_slots_of borders t ks (slots_of (border_at borders k) t ++ c)

-- each number stands once
abbrev pub AreApart : List ℕ → Type 0
AreApart [] = Unit {0}
AreApart (k ∷ ks) = (contains ks k ≡ false) × AreApart ks

-- what a port holds of one neighbour, beside whether it has marked it and has it in its order: what was sent to it, and what it sends, is
-- right, be it a parcel or that there is none
module _ {P : Type 0} (right : ℕ → ℕ → ℕ → Option P → Type 0) (p t : ℕ) (r : Border) (marked ordered : Bool) where
  abbrev pub IsHandover : Handover P → Type 0
  IsHandover Awaited = (marked ≡ false) × (ordered ≡ false)
  IsHandover (Arrived x) = (marked ≡ true) × (ordered ≡ true) × (r.lag ≤ t) × right r.from p (t - r.lag) x
  IsHandover Taken = (marked ≡ true) × (ordered ≡ true)
  IsHandover (Put y) = (marked ≡ true) × (ordered ≡ true) × right p r.from t y

-- the same of all neighbours
abbrev pub AreHandovers : {P : Type 0} → (ℕ → ℕ → ℕ → Option P → Type 0) → ℕ → ℕ → List Border → List ℕ → List ℕ → List (Handover P) → Type 0
AreHandovers right p t borders marks order hs = (k : ℕ) → k < length borders
    → IsHandover right p t (border_at borders k) (contains marks (border_at borders k).inward) (contains order k) (handover_at hs k)

module _ {T R P : Type 0} where
  -- BOARDS
  abbrev pub run_of : Board T R P → R
  run_of b = b.table.shared.key.run.value

  -- how many partitions there are
  abbrev pub count_of : Board T R P → ℕ
  count_of b = b.count

  abbrev pub channels_in : Board T R P → List Channel
  channels_in b = b.channels.items

  -- what holds at each moment, whatever the schedule: of each state s of the table that its rule allows
  pub record IsLawful (right : R → ℕ → ℕ → ℕ → Option P → Type 0) (b : Board T R P) : Type 0 where
    -- the word of a partition is at most a neighbour's word plus the lag from it
    pub near : (s : State (Option P) (View R)) → IsKept right b.table.shared.key s → (e : ℕ) → e < length (channels_in b)
        → word_at s.words (to_of (channels_in b) e) ≤ word_at s.words (from_of (channels_in b) e) + lag_of (channels_in b) e
    -- a parcel that lies in a slot is the right one of a second that its sender has done and its receiver is still to absorb
    pub lies : (s : State (Option P) (View R)) → IsKept right b.table.shared.key s → (e i : ℕ) (x : P) → e < length (channels_in b)
        → i < SLOTS → get_elem? s.homes (SLOTS_APART * e + i) ≡ some (some (Some x))
        → (t : ℕ) × (t % SLOTS ≡ i) × (t < word_at s.words (from_of (channels_in b) e))
        × (word_at s.words (to_of (channels_in b) e) ≤ t + lag_of (channels_in b) e)
        × right (run_of b) (from_of (channels_in b) e) (to_of (channels_in b) e) t (Some x)
    -- of each second that its sender has done and its receiver is still to absorb, what lies in the slot is the right parcel, or none where
    -- that is right, unless that receiver, which is about to do the very second of absorbing it, has it out
    pub stays : (s : State (Option P) (View R)) → IsKept right b.table.shared.key s → (e t : ℕ) → e < length (channels_in b)
        → t < word_at s.words (from_of (channels_in b) e)
        → word_at s.words (to_of (channels_in b) e) ≤ t + lag_of (channels_in b) e
        → ((x : Option P) × (get_elem? s.homes (slot e t) ≡ some (some x))
        × right (run_of b) (from_of (channels_in b) e) (to_of (channels_in b) e) t x)
        ⊎ ((word_at s.words (to_of (channels_in b) e) ≡ t + lag_of (channels_in b) e) × (get_elem? s.homes (slot e t) ≡ some none))

  -- HUBS
  -- the partitions that had a port, and those whose port was joined
  abbrev pub had_port : Hub T R P → List ℕ
  had_port h = h.seat.me.0.had_port

  abbrev pub joined : Hub T R P → List ℕ
  joined h = h.seat.me.0.joined

  -- it is the hub of this board
  pub record IsHub (b : Board T R P) (h : Hub T R P) : Type 0 where
    pub table : h.seat.table_id ≡ b.table.shared.table_id
    pub role : is_hub h.seat.me.0.role ≡ true
    pub run : h.seat.me.0.run ≡ Some (run_of b)
    pub empty : h.seat.me.1 ≡ []

  -- PORTS
  abbrev pub partition_of : Port T R P → ℕ
  partition_of p = p.partition

  -- the seconds done
  abbrev pub done_of : Port T R P → ℕ
  done_of p = p.done

  abbrev pub neighbours_of : Port T R P → List ℕ
  neighbours_of p = p.neighbours.items

  abbrev pub borders_of : Port T R P → List Border
  borders_of p = p.borders.items

  -- the number of neighbours
  abbrev pub degree : Port T R P → ℕ
  degree p = length p.borders.items

  -- neighbour k, and the lag from it
  abbrev pub neighbour : Port T R P → ℕ → ℕ
  neighbour p k = (border_at p.borders.items k).from

  abbrev pub lag_from : Port T R P → ℕ → ℕ
  lag_from p k = (border_at p.borders.items k).lag

  -- how far the handing over with each neighbour has come in this second
  abbrev pub handovers_of : Port T R P → List (Handover P)
  handovers_of p = p.handovers.items

  abbrev pub handover : Port T R P → ℕ → Handover P
  handover p k = handover_at p.handovers.items k

  -- how many looks there were, and how many answered NotYet: in all, and up to the last publishing (0 before the first)
  abbrev pub looks : Port T R P → ℕ
  looks p = p.seat.me.0.looks

  abbrev pub waits : Port T R P → ℕ
  waits p = p.seat.me.0.waits

  abbrev pub still : Port T R P → ℕ
  still p = p.seat.me.0.still

  -- the partition whose word the last look read, and what that word was
  abbrev pub read_partition : Port T R P → ℕ
  read_partition p = p.seat.me.0.read_partition

  abbrev pub read_word : Port T R P → ℕ
  read_word p = p.seat.me.0.read_word

  -- of how many seconds of neighbour k it was taken what it sent: of those below this number, each once
  abbrev pub taken_count : Port T R P → ℕ → ℕ
  taken_count p k = taken_by (lag_from p k) p.done (handover p k)

  abbrev pub TakesNone : Port T R P → Port T R P → Type 0
  TakesNone old new = (k : ℕ) → k < degree old → taken_count new k ≡ taken_count old k

  -- one parcel more of neighbour k was taken, and no other
  abbrev pub TakesOne : Port T R P → Port T R P → ℕ → Type 0
  TakesOne old new k = (taken_count new k ≡ taken_count old k + 1)
      × ((j : ℕ) → j < degree old → j ≢ k → taken_count new j ≡ taken_count old j)

  -- it is a port of this board, its neighbours are those of its partition, and what it holds is right
  pub record IsPort (right : R → ℕ → ℕ → ℕ → Option P → Type 0) (b : Board T R P) (p : Port T R P) : Type 0 where
    pub table : p.seat.table_id ≡ b.table.shared.table_id
    pub role : is_port p.seat.me.0.role ≡ true
    pub run : p.seat.me.0.run ≡ Some (run_of b)
    pub partition : p.seat.me.0.partition ≡ p.partition
    pub done : p.seat.me.0.done ≡ p.done
    pub named : p.partition < b.count
    pub borders : AreBorders b.channels.items p.partition p.borders.items
    pub names : p.neighbours.items ≡ map (λ (r : Border). r.from) p.borders.items
    pub as_many : length p.neighbours.items ≡ length p.borders.items
    pub long : length p.handovers.items ≡ length p.borders.items
    pub room : length p.borders.items ≤ vec_capacity p.order
    pub held : AreHandovers (right (run_of b)) p.partition p.done p.borders.items p.seat.me.0.marks p.order.items p.handovers.items
    pub bounded : (k : ℕ) → contains p.order.items k ≡ true → k < length p.borders.items
    pub fresh : AreApart p.order.items
    pub counted : sum_by ready_in p.handovers.items ≡ length p.order.items
    pub carried : p.seat.me.1 ≡ all_slots_of p.borders.items p.done p.order.items []

  -- each port of this board has for neighbours those of its partition by the pairs xs, with the lags from them
  abbrev pub FollowsPairs : (R → ℕ → ℕ → ℕ → Option P → Type 0) → Board T R P → List Pair → Type 0
  FollowsPairs right b xs = (p : Port T R P) → IsPort right b p → AreLags xs (partition_of p) (borders_of p)

  -- nothing but handovers, and the counts of looks and waits, differs
  pub record SameSecond (old new : Port T R P) : Type 0 where
    pub partition : new.partition ≡ old.partition
    pub done : new.done ≡ old.done
    pub neighbours : new.neighbours.items ≡ old.neighbours.items
    pub borders : new.borders.items ≡ old.borders.items
    pub still : new.seat.me.0.still ≡ old.seat.me.0.still

  -- one word was read, that of neighbour k
  abbrev pub Reads : Port T R P → Port T R P → ℕ → Type 0
  Reads old new k = (looks new ≡ looks old + 1) × (read_partition new ≡ neighbour old k)

  -- at the first ready look of a second what neighbour k sent for this second arrives, if its seconds have begun; a later one changes nothing
  abbrev pub Fetches : Port T R P → Port T R P → ℕ → Type 0
  Fetches old new k = (is_awaited (handover old k) ≡ false → handovers_of new ≡ handovers_of old)
      × (is_awaited (handover old k) ≡ true → lag_from old k ≤ done_of old
      → (x : Option P) × (handovers_of new ≡ slice_set (handovers_of old) k (Arrived x)))
      × (is_awaited (handover old k) ≡ true → done_of old < lag_from old k
      → handovers_of new ≡ slice_set (handovers_of old) k Taken)

  -- what a look at neighbour k answers, by the word that it read
  abbrev pub Answers : Port T R P → Port T R P → ℕ → Look → Type 0
  Answers old new k Ready = (done_of old < read_word new + lag_from old k) × (waits new ≡ waits old) × Fetches old new k
  Answers old new k (NotYet n) = (n ≡ read_word new) × (read_word new + lag_from old k ≤ done_of old)
      × (is_awaited (handover old k) ≡ true) × (waits new ≡ waits old + 1) × (handovers_of new ≡ handovers_of old)

  -- of each neighbour was taken what it sent, and where nothing was put for it, it is right that none is sent to it
  abbrev pub IsSettled : (R → ℕ → ℕ → ℕ → Option P → Type 0) → Board T R P → Port T R P → Type 0
  IsSettled right b p = (k : ℕ) → k < degree p → (is_taken (handover p k) ≡ true)
      × (is_put (handover p k) ≡ false → right (run_of b) (partition_of p) (neighbour p k) (done_of p) None)

  -- neighbour k was ready, and its parcel, if there is one for this second, was not taken yet
  abbrev pub IsUnread : Port T R P → ℕ → Type 0
  IsUnread p k = IsUnreadOf (lag_from p k) p.done (handover p k)

  -- nothing was taken and nothing put in this second
  abbrev pub IsUntouched : Port T R P → Type 0
  IsUntouched p = (k : ℕ) → k < degree p → (is_awaited (handover p k) ≡ true) ⊎ IsUnread p k

  -- PUBLISHING
  abbrev pub PortCarriesSecond : (R → ℕ → ℕ → ℕ → Option P → Type 0) → Board T R P → Port T R P → List (ℕ × Option P) → Type 0
  PortCarriesSecond right b p c = let cs : List Channel = b.channels.items in
      AreOfSecond (right (run_of b)) (length cs) (from_of cs) (to_of cs) (lag_of cs) (twin_of cs) p.partition p.done c

  abbrev pub PortCarriesBoth : (R → ℕ → ℕ → ℕ → Option P → Type 0) → Board T R P → Port T R P → List (ℕ × Option P) → ℕ → Type 0
  PortCarriesBoth right b p c e = let cs : List Channel = b.channels.items in
      CarriesBoth (right (run_of b)) (length cs) (from_of cs) (to_of cs) (lag_of cs) (twin_of cs) p.partition p.done c e

  -- the port q has put its parcels into the slots of some neighbours, those that its order has no more, and is now p
  pub record IsFilling (right : R → ℕ → ℕ → ℕ → Option P → Type 0) (b : Board T R P) (q p : Port T R P) : Type 0 where
    pub seat : (p.seat.table_id ≡ q.seat.table_id) × (p.seat.id ≡ q.seat.id) × (p.seat.me.0 ≡ q.seat.me.0)
    pub partition : p.partition ≡ q.partition
    pub done : p.done ≡ q.done
    pub neighbours : p.neighbours ≡ q.neighbours
    pub borders : p.borders ≡ q.borders
    pub long : length p.handovers.items ≡ length q.borders.items
    pub room : vec_capacity p.order ≡ vec_capacity q.order
    pub fresh : AreApart p.order.items
    pub bounded : (k : ℕ) → contains p.order.items k ≡ true → k < length q.borders.items
    pub waiting : (k : ℕ) → k < length q.borders.items → contains p.order.items k ≡ true
        → (y : Option P) × GoesOut y (handover_at p.handovers.items k)
        × right (run_of b) q.partition (border_at q.borders.items k).from q.done y
    pub through : (k : ℕ) → k < length q.borders.items → contains p.order.items k ≡ false → handover_at p.handovers.items k ≡ Awaited
    pub carried : (d : List (ℕ × Option P)) × (p.seat.me.1 ≡ all_slots_of q.borders.items q.done p.order.items d)
        × PortCarriesSecond right b q d
        × ((k : ℕ) → k < length q.borders.items → contains p.order.items k ≡ false
        → PortCarriesBoth right b q d (border_at q.borders.items k).inward)
