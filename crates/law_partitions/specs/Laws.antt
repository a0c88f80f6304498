-- The laws of a day in parts.
use Rattle.std.specs.Prelude.{◌≡◌, ℕ, suc, ◌*◌, ◌<◌, ◌≤◌, Bool, true, false, List, ◌++◌, length, map, All, ◌==◌}
use Rattle.std.specs.List.{Contains}
use Rattle.events.specs.declared.event.{Event.Event, Mode.Mode, VehicleId.VehicleId}
use Rattle.traffic.specs.{Day.world_at, Day.day as events_of_day, Frames.Ascends, Lists.below, Persons.link_of_vehicle, Rows.at, Rows.person_of}
use Rattle.traffic.specs.Setup.{Setup, act_at, act_after, leg_at, seconds_of, hole_of}
use Rattle.traffic.specs.declared.{stage.Stage.TheVariants.Queue, world.Place.TheVariants.Riding}
use Rattle.rows.specs.declared.plan.Leg.TheVariants as leg
use Rattle.parts.specs.{Core.Core, Core.Allowed, Core.Reaches, Core.Shows, Core.advance, Merge.Merges}
use Rattle.parts.specs.Owners.{Owner, owner_of, begins_in, crosses, link_of_rider, near, longest_lag, lag}
use Rattle.parts.specs.Parts.{Held, Passed, Parcel, entering_row, known_list, late_rows, part, held, ready, out, own_events, ends_with}
use Rattle.law_partitions.specs.Alone.{absorb, given, alone, parcel_to, tells_alone}
use Rattle.law_partitions.specs.{Kept.Kept, Kept.KeptWhere, Kept.MayGoOn, Single.PersonInOne, Whole.rule, Whole.start_of, Whole.all_told}

-- every node belongs to one of so many partitions
abbrev pub IsOwner : Owner → ℕ → Type 0
IsOwner own parts = (n : ℕ) → own n < parts

-- which partitions are neighbours, and with which lags
pub record HasNeighbours (S : Setup) (own : Owner) (parts : ℕ) : Type 0 where
  -- two different partitions, each of the other
  pub others : (p : ℕ) → near S own p p ≡ false
  pub both : (p q : ℕ) → near S own p q ≡ near S own q p
  pub there : (p q : ℕ) → near S own p q ≡ true → (p < parts) × (q < parts)
  -- a lag is 1 to 32 seconds, no longer than a link over the border takes, nor than its holes take the other way, nor than a teleported leg
  pub some : (p q : ℕ) → 1 ≤ lag S own p q
  pub most : (p q : ℕ) → lag S own p q ≤ longest_lag
  pub links : (l : ℕ) → crosses S own l ≡ true → lag S own (begins_in S own l) (owner_of S own l) ≤ seconds_of S l
  pub holes : (l : ℕ) → crosses S own l ≡ true → lag S own (owner_of S own l) (begins_in S own l) ≤ hole_of S l
  pub hops : (i e : ℕ) (mode : Mode) (seconds : ℕ) → i < length S.persons → leg_at S i e ≡ leg.Teleport mode seconds
      → lag S own (owner_of S own (act_at S i e).link) (owner_of S own (act_after S i e).link) ≤ seconds

-- A second of a partition is that of the day there, and nothing of any other partition is read.
pub record SecondsAreLocal (S : Setup) (own : Owner) (parts : ℕ) : Type 0 where
  -- at the start it holds its part of the day's first world
  pub starts : (p : ℕ) → held S own p 0 ≡ part S own p 0 (world_at S 0)
  -- the queue of a link that it holds is short of the rows that came in the last seconds of which it has not heard, and of no other
  pub short : (t l : ℕ) → l < length S.links
      → at l Queue (world_at S t) ≡ known_list S own (lag S own) t l Queue ++ late_rows S own (lag S own) t l
  -- who rides is on the link of the row that lists him, which is that of his vehicle
  pub rides : (t i : ℕ) (v : VehicleId) → i < length S.persons → (person_of i (world_at S t)).place ≡ Riding v
      → link_of_vehicle v (world_at S t).rows ≡ link_of_rider i (world_at S t).rows
  -- absorbing the parcels that are due makes what it holds ready
  pub absorbs : (p t : ℕ) → absorb S own parts p t (given S own p t) (held S own p t) ≡ ready S own p t
  -- the second alone gives what it holds next, what it sends to each, and its events
  pub holds : (p t : ℕ) → alone S own p t (ready S own p t) ≡ held S own p (suc t)
  pub sends : (p q t : ℕ) → parcel_to S own p t (ready S own p t) q ≡ out S own p q t
  pub tells : (p t : ℕ) → own_events S own p t ++ tells_alone S own p t (ready S own p t) ≡ own_events S own p (suc t)
  -- a row that crosses a border is that of its vehicle as it enters the queue of its link in that second
  pub rebuilt : (p q t : ℕ) → All (λ (x : Passed). x.row ≡ entering_row S t x.row.vehicle) (out S own p q t).vehicles

-- the next state is allowed too, and is shown
pub record ShowsNext (S : Setup) (own : Owner) (parts : ℕ) (goes : ℕ → Bool) (end p : ℕ) (c d : Core Held Parcel Event) : Type 0 where
  pub allowed : Allowed (rule S own parts) end p d
  pub shows : Shows (rule S own parts) goes (advance (rule S own parts) p c) (advance (rule S own parts) p d)

-- In whatever order the lags allow partitions advance.
pub record AdvanceInAnyOrder (S : Setup) (own : Owner) (parts : ℕ) : Type 0 where
  -- each holds, has told and has sent what the day says, and none is further ahead of a neighbour than the lag
  pub kept : (end : ℕ) (ps : List ℕ) (d : Core Held Parcel Event) → Reaches (rule S own parts) end ps (start_of S own) d
      → Kept (rule S own parts) (held S own) (out S own) (own_events S own) d
  -- each person is in one part, or in one parcel that is not absorbed
  pub in_one : (end i : ℕ) → i < length S.persons → (ps : List ℕ) (d : Core Held Parcel Event)
      → Reaches (rule S own parts) end ps (start_of S own) d → PersonInOne S own parts i d.done
  -- while one has not come to the end, some may advance
  pub no_dead_end : (end p : ℕ) (c : Core Held Parcel Event) → p < parts → c.done p < end → MayGoOn (rule S own parts) end c
  -- as many allowed events as all have seconds bring all to the end
  pub to_the_end : (end : ℕ) (ps : List ℕ) (d : Core Held Parcel Event) → Reaches (rule S own parts) end ps (start_of S own) d
      → length ps ≡ parts * end → (p : ℕ) → p < parts → d.done p ≡ end
  -- a state that shows one of these has what the day says, and goes on as that one does, where the partition that advances goes on
  pub shown_kept : (goes : ℕ → Bool) (end : ℕ) (ps : List ℕ) (c d : Core Held Parcel Event)
      → Reaches (rule S own parts) end ps (start_of S own) d
      → Shows (rule S own parts) goes c d → KeptWhere (rule S own parts) goes (held S own) (out S own) (own_events S own) c
  pub shown : (goes : ℕ → Bool) (end p : ℕ) (c d : Core Held Parcel Event) → Shows (rule S own parts) goes c d → goes p ≡ true
      → Allowed (rule S own parts) end p c → ShowsNext S own parts goes end p c d

-- a person ends with one partition
pub record EndsWithOne (S : Setup) (own : Owner) (parts i : ℕ) : Type 0 where
  pub who : ℕ
  pub there : who < parts
  pub ends : (p : ℕ) → p < parts → ends_with S own parts p i ≡ (who == p)

-- What all partitions tell makes the day.
pub record MakeTheDay (S : Setup) (own : Owner) (parts : ℕ) : Type 0 where
  -- what each tells is in the order of the keys, and no two tell events with one key
  pub ascends : (p : ℕ) → Ascends (all_told S own parts p)
  pub apart : (p q : ℕ) → p < parts → q < parts → (a b : Event) → Contains (all_told S own parts p) a → Contains (all_told S own parts q) b
      → a.key ≡ b.key → p ≡ q
  -- at the end each person belongs to one of them: it has him, or sent him in a parcel that is not absorbed
  pub ends : (i : ℕ) → i < length S.persons → EndsWithOne S own parts i
  -- merged by the keys it is the day
  pub merged : Merges (map (all_told S own parts) (below parts)) (events_of_day S)

-- All of these: a day goes in parts, whoever owns which node.
pub record GoesInParts (S : Setup) (own : Owner) (parts : ℕ) : Type 0 where
  pub neighbours : HasNeighbours S own parts
  pub seconds : SecondsAreLocal S own parts
  pub order : AdvanceInAnyOrder S own parts
  pub day : MakeTheDay S own parts
