-- The rule of a board's table: what holds of its words, its slots and what the seats know, between any two steps; and what the steps do.
use Rattle.std.specs.Prelude.{◌≡◌, ℕ, ◌+◌, ◌-◌, ◌*◌, ◌<◌, ◌≤◌, Bool, true, false, ◌||◌, eqb, List, [], ◌∷◌, length, Option, Some, None}
use Rattle.std.specs.Prelude.{slice_index, slice_index_or}
use mathlib.Core.Option.{some}
use lib.ListN.{get_elem?}
use Rattle.atomic_table.specs.Table.{State, Me}
use Rattle.cells.specs.Rings.{slot, AreChannels, AreRings}
use Rattle.cells.specs.declared.{TheConstants.SLOTS_APART, TheConstants.WORDS_APART, table.Border.Border, table.Channel.Channel}
use Rattle.cells.specs.declared.table.{Layout.Layout, Role.Role, Role.TheVariants.Hub, Role.TheVariants.Port, Role.TheVariants.Spent, View.View}

-- whether a list of numbers has x
abbrev pub contains : List ℕ → ℕ → Bool
contains [] x = false
contains (y ∷ ys) x = eqb x y || contains ys x

-- which word of the table is that of partition p: each has a cache line of its own
abbrev pub place : ℕ → ℕ
place p = WORDS_APART * p

-- the word of partition p
abbrev pub word_at : List ℕ → ℕ → ℕ
word_at words p = slice_index words (place p)

abbrev pub no_channel : Channel
no_channel = record { from = 0; to = 0; lag = 0; twin = 0 }

abbrev pub no_border : Border
no_border = record { from = 0; lag = 0; inward = 0; outward = 0 }

-- the parts of channel e of a list
module _ (cs : List Channel) where
  abbrev pub from_of : ℕ → ℕ
  from_of e = (slice_index_or cs e no_channel).from

  abbrev pub to_of : ℕ → ℕ
  to_of e = (slice_index_or cs e no_channel).to

  abbrev pub lag_of : ℕ → ℕ
  lag_of e = (slice_index_or cs e no_channel).lag

  abbrev pub twin_of : ℕ → ℕ
  twin_of e = (slice_index_or cs e no_channel).twin

-- the list is one of channels among the partitions below `count`
abbrev pub AreChannelsOf : ℕ → List Channel → Type 0
AreChannelsOf count cs = AreChannels count (length cs) (from_of cs) (to_of cs) (lag_of cs) (twin_of cs)

-- no two channels go from one partition to one
abbrev pub AreSingle : List Channel → Type 0
AreSingle cs = (d e : ℕ) → d < length cs → e < length cs → from_of cs d ≡ from_of cs e → to_of cs d ≡ to_of cs e → d ≡ e

abbrev pub is_port : Role → Bool
is_port Hub = false
is_port Port = true
is_port Spent = false

abbrev pub is_hub : Role → Bool
is_hub Hub = true
is_hub Port = false
is_hub Spent = false

-- what the hub knows: the run, the partitions that had a port, and those whose port was joined
abbrev pub hub_view : {R : Type 0} → R → List ℕ → List ℕ → View R
hub_view r had_port joined =
    record {
      run = Some r;
      role = Hub;
      partition = 0;
      done = 0;
      marks = [];
      waits = 0;
      still = 0;
      looks = 0;
      read_partition = 0;
      read_word = 0;
      had_port = had_port;
      joined = joined;
    }

-- the hub, after a port for p was split off
abbrev pub hub_after : {R : Type 0} → View R → ℕ → View R
hub_after v p = record v { had_port = p ∷ v.had_port }

-- the hub v, after the port w was joined
abbrev pub hub_joined : {R : Type 0} → View R → View R → View R
hub_joined v w = record v { joined = w.partition ∷ v.joined }

-- what is left of a port that was joined
abbrev pub spent_view : {R : Type 0} → View R
spent_view =
    record {
      run = None;
      role = Spent;
      partition = 0;
      done = 0;
      marks = [];
      waits = 0;
      still = 0;
      looks = 0;
      read_partition = 0;
      read_word = 0;
      had_port = [];
      joined = [];
    }

-- what a new port of partition p knows
abbrev pub port_view : {R : Type 0} → Option R → ℕ → View R
port_view r p =
    record {
      run = r;
      role = Port;
      partition = p;
      done = 0;
      marks = [];
      waits = 0;
      still = 0;
      looks = 0;
      read_partition = 0;
      read_word = 0;
      had_port = [];
      joined = [];
    }

-- `who` is the seat of a partition's port, or 0 where no port's view names it; `marked` says of each channel whether its receiver has
-- marked it as ready
module _ {R S : Type 0} (right : R → ℕ → ℕ → ℕ → Option S → Type 0) (run : R) (count n : ℕ) (from to lag twin : ℕ → ℕ) where
  -- what is so of the view of a port, at seat j
  pub record IsPortView (words : List ℕ) (who : ℕ → ℕ) (marked : ℕ → Bool) (j : ℕ) (v : View R) : Type 0 where
    pub same_run : v.run ≡ Some run
    pub named : v.partition < count
    pub at : who v.partition ≡ j
    pub later : 0 < j
    pub word : word_at words v.partition ≡ v.done
    pub marks : (e : ℕ) → e < n → to e ≡ v.partition → marked e ≡ contains v.marks e

  -- what is so of the view of the hub, at seat 0
  pub record IsHubView (words : List ℕ) (who : ℕ → ℕ) (marked : ℕ → Bool) (j : ℕ) (v : View R) : Type 0 where
    pub same_run : v.run ≡ Some run
    pub first : j ≡ 0
    -- the word of a partition that had no port yet is 0, and no view names it
    pub without_port : (p : ℕ) → p < count → contains v.had_port p ≡ false
        → (word_at words p ≡ 0) × (who p ≡ 0) × ((e : ℕ) → e < n → to e ≡ p → marked e ≡ false)
    -- the joined are those that had a port and are named by no view any more
    pub joined : (p : ℕ) → p < count → contains v.joined p ≡ true → (contains v.had_port p ≡ true) × (who p ≡ 0)
    pub gone : (p : ℕ) → p < count → contains v.had_port p ≡ true → who p ≡ 0 → contains v.joined p ≡ true

  pub record IsKeptBy (s : State (Option S) (View R)) : Type 0 where
    pub channels : AreChannels count n from to lag twin
    pub many : length s.words ≡ WORDS_APART * count
    pub wide : length s.homes ≡ SLOTS_APART * n
    pub who : ℕ → ℕ
    pub marked : ℕ → Bool
    pub rings : AreRings (right run) n from to lag twin (λ p. word_at s.words p) (λ k. get_elem? s.homes k) marked
    pub ports : (j : ℕ) (v : View R) → get_elem? s.views j ≡ some v → is_port v.role ≡ true → IsPortView s.words who marked j v
    pub hubs : (j : ℕ) (v : View R) → get_elem? s.views j ≡ some v → is_hub v.role ≡ true → IsHubView s.words who marked j v
    pub seated : (p : ℕ) → p < count → 0 < who p
        → (v : View R) × (get_elem? s.views (who p) ≡ some v) × (is_port v.role ≡ true) × (v.partition ≡ p)

-- the rule, for the run, the count and the channels that the table was told
abbrev pub IsKept : {R S : Type 0} → (R → ℕ → ℕ → ℕ → Option S → Type 0) → Layout R → State (Option S) (View R) → Type 0
IsKept right about s = let cs : List Channel = about.channels.value.items in
    IsKeptBy right about.run.value about.count (length cs) (from_of cs) (to_of cs) (lag_of cs) (twin_of cs) s

-- what a port knows after one look more, which found n in the word of the border's partition
abbrev pub after_look : {R : Type 0} → Border → ℕ → View R → View R
after_look border n v = record v { looks = v.looks + 1; read_partition = border.from; read_word = n }

module _ {R S : Type 0} where
  -- the slots that a ready look picks up: that of the parcel to be absorbed, where what lies is right, and the empty one for the parcel to be sent
  abbrev pub PicksUp : (R → ℕ → ℕ → ℕ → Option S → Type 0) → Border → Me (Option S) (View R) → List (ℕ × Option S) → Type 0
  PicksUp right border m c = (m.0.done < border.lag → c ≡ (slot border.outward m.0.done, None) ∷ m.1)
      × (border.lag ≤ m.0.done → (x : Option S)
      × (c ≡ (slot border.inward (m.0.done - border.lag), x) ∷ (slot border.outward m.0.done, None) ∷ m.1)
      × ((r : R) → m.0.run ≡ Some r → right r border.from m.0.partition (m.0.done - border.lag) x))

  -- The step of a look: word i was loaded and held n. Not ready, it counts a wait; ready for the first time, it marks the neighbour and
  -- picks up two slots; ready again, it does neither.
  abbrev pub Looks : (R → ℕ → ℕ → ℕ → Option S → Type 0) → Border → ℕ → Me (Option S) (View R) → ℕ → Me (Option S) (View R) → Type 0
  Looks right border i m n w = (i ≡ place border.from)
      × (n + border.lag ≤ m.0.done
      → (contains m.0.marks border.inward ≡ false) × (w ≡ (record (after_look border n m.0) { waits = m.0.waits + 1 }, m.1)))
      × (m.0.done < n + border.lag → contains m.0.marks border.inward ≡ true → w ≡ (after_look border n m.0, m.1))
      × (m.0.done < n + border.lag → contains m.0.marks border.inward ≡ false
      → (w.0 ≡ record (after_look border n m.0) { marks = border.inward ∷ m.0.marks }) × PicksUp right border m w.1)

  -- the step of a publishing: one second more is done, the marks go, and so do all slots
  abbrev pub Publishes : Me (Option S) (View R) → Me (Option S) (View R) → Type 0
  Publishes m w = w ≡ (record m.0 { done = m.0.done + 1; marks = []; still = m.0.waits }, [])
