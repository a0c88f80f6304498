-- The own world of a partition between its seconds: what absorbing makes of it, and what it is once a second is over.
use Rattle.std.specs.Prelude.{◌≡◌, ℕ, suc, ◌<◌, false, List, ◌++◌, length, ◌==◌, if◌then◌else◌}
use Rattle.traffic.specs.{Persons.waiters, Rows.World, Rows.at, Rows.rank, Rows.holes_at, Rows.credit_of, Rows.person_of, Rows.nobody, Setup.Setup}
use Rattle.traffic.specs.{Setup.hole_of, declared.stage.Stage.Stage, declared.stage.Stage.TheVariants.Queue}
use Rattle.parts.specs.{Owners.Owner, Owners.owner_of, Owners.begins_in, Parts.lasting, Parts.held}
use Rattle.law_own_worlds.specs.{Days.world_before, Making.own_world}
use Rattle.law_own_seconds.specs.{Places.taken_from, Seconds.held_driven, Seconds.world_driven}
use Rattle.law_parcels.specs.{Hearing.heard_rows, Hearing.heard_persons, Hearing.last_or, Sending.is_gone}

-- the own world of p after t seconds, before it absorbs anything
abbrev pub world_held : Setup → Owner → ℕ → ℕ → World
world_held S own p t = own_world S t (held S own p t)

-- a row for each person of a setup, and a credit for each link
pub record HasAll (S : Setup) (V : World) : Type 0 where
  pub persons : length V.persons ≡ length S.persons
  pub credits : length V.credits ≡ length S.links

-- how many places of link m are taken in world V, where those are taken still that are free in second u or later
abbrev pub taken_in : Setup → ℕ → ℕ → World → ℕ
taken_in S u m V = taken_from S u m (length (at m Queue V)) (holes_at m V)

-- What absorbing the parcels of these partitions before second t makes of it.
pub record TakesIn (S : Setup) (own : Owner) (p t : ℕ) (ns : List ℕ) : Type 0 where
  pub all : HasAll S (world_held S own p t)
  pub all_before : HasAll S (world_before S own p t)
  pub queue : (l : ℕ) → owner_of S own l ≡ p → at l Queue (world_before S own p t)
      ≡ at l Queue (world_held S own p t) ++ heard_rows S own p t ns l
  pub list : (l : ℕ) (s : Stage) → (rank s == 0) ≡ false → at l s (world_before S own p t) ≡ at l s (world_held S own p t)
  pub credit : (l : ℕ) → l < length S.links → credit_of l (world_before S own p t) ≡ credit_of l (world_held S own p t)
  pub person :
      (i : ℕ) → i < length S.persons
      → person_of i (world_before S own p t) ≡ last_or (person_of i (world_held S own p t)) (heard_persons S own p t ns i)
  -- whoever comes waits at no stop
  pub waits : (l : ℕ) → waiters S l (world_before S own p t) ≡ waiters S l (world_held S own p t)
  -- a place that was left elsewhere was taken before, and is taken still
  pub taken :
      (m : ℕ) → m < length S.links → begins_in S own m ≡ p
      → taken_in S t m (world_before S own p t) ≡ taken_in S t m (world_held S own p t)

-- What it is after second t, by what the turns of the second made of it.
pub record LetsGo (S : Setup) (own : Owner) (p t : ℕ) : Type 0 where
  pub all : HasAll S (world_driven S own p t)
  pub all_held : HasAll S (world_held S own p (suc t))
  pub list : (l : ℕ) (s : Stage) → owner_of S own l ≡ p → at l s (world_held S own p (suc t)) ≡ at l s (world_driven S own p t)
  pub credit :
      (l : ℕ) → l < length S.links → owner_of S own l ≡ p
      → credit_of l (world_held S own p (suc t)) ≡ credit_of l (world_driven S own p t)
  pub person : (i : ℕ) → person_of i (world_held S own p (suc t))
      ≡ (if is_gone S own p t i then nobody else person_of i (world_driven S own p t))
  -- whoever goes waits at no stop
  pub waits : (l : ℕ) → waiters S l (world_held S own p (suc t)) ≡ waiters S l (world_driven S own p t)
  -- of the holes those are gone whose places are free
  pub rows : (m : ℕ) → begins_in S own m ≡ p → (held S own p (suc t)).rows m ≡ (held_driven S own p t).rows m
  pub holes :
      (m : ℕ) → begins_in S own m ≡ p → (held S own p (suc t)).holes m ≡ lasting (suc t) (hole_of S m) ((held_driven S own p t).holes m)
  pub taken :
      (m : ℕ) → m < length S.links → begins_in S own m ≡ p
      → taken_in S (suc t) m (world_held S own p (suc t)) ≡ taken_in S (suc t) m (world_driven S own p t)
