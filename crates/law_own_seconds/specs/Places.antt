-- How the places of links are taken in a world, as a partition knows them.
use Rattle.std.specs.Prelude.{◌≡◌, ℕ, ◌+◌, ◌<◌, ◌≤◌, false, List, length, ◌==◌}
use Rattle.traffic.specs.{Rows.World, Rows.at, Rows.holes_at, Setup.Setup, Setup.hole_of, declared.stage.Stage.TheVariants.Queue}
use Rattle.parts.specs.{Owners.Owner, Owners.owner_of, Owners.begins_in, Parts.Held, Parts.lasting, Parts.held, Parts.ready}
use Rattle.law_own_worlds.specs.{Days.world_before, Making.own_world}
use Rattle.law_own_seconds.specs.Seconds.{held_early, held_crossed, held_driven, world_early, world_crossed, world_driven}

-- how many places of link m are taken by so many rows and by these holes, where those that are free in second u or later are taken still
abbrev pub taken_from : Setup → ℕ → ℕ → ℕ → List ℕ → ℕ
taken_from S u m rows holes = rows + length (lasting u (hole_of S m) holes)

-- as many places of the links that begin in p are taken in world V as p knows by what it holds
abbrev pub KnowsPlaces : Setup → Owner → ℕ → ℕ → Held → World → Type 0
KnowsPlaces S own p u H V =
    (m : ℕ) → m < length S.links → begins_in S own m ≡ p
    → taken_from S u m (length (at m Queue V)) (holes_at m V) ≡ taken_from S u m (H.rows m) (H.holes m)

-- So it is in the own world of p in the course of second t: where those are taken still that are free in second t + 1 or later, and where
-- those of second t are, too.
pub record PlacesAreKnown (S : Setup) (own : Owner) (p t : ℕ) : Type 0 where
  pub start : (u : ℕ) → u ≤ t + 1 → KnowsPlaces S own p u (ready S own p t) (world_before S own p t)
  pub early : (u : ℕ) → u ≤ t + 1 → KnowsPlaces S own p u (held_early S own p t) (world_early S own p t)
  pub crossed : (u : ℕ) → u ≤ t + 1 → KnowsPlaces S own p u (held_crossed S own p t) (world_crossed S own p t)
  pub driven : (u : ℕ) → u ≤ t + 1 → KnowsPlaces S own p u (held_driven S own p t) (world_driven S own p t)
  -- before it absorbs anything
  pub held : (u : ℕ) → u ≤ t + 1 → KnowsPlaces S own p u (held S own p t) (own_world S t (held S own p t))
  -- persons and departures change no place, and nodes leave no holes
  pub early_rows : (m : ℕ) → (held_early S own p t).rows m ≡ (ready S own p t).rows m
  pub early_holes : (m : ℕ) → (held_early S own p t).holes m ≡ (ready S own p t).holes m
  pub crossed_holes : (m : ℕ) → (held_crossed S own p t).holes m ≡ (held_early S own p t).holes m
  -- and put vehicles into queues of links that begin in p alone
  pub crossed_queues :
      (m : ℕ) → (begins_in S own m == p) ≡ false → at m Queue (world_crossed S own p t) ≡ at m Queue (world_early S own p t)
  -- of a link that begins and ends in p it knows each vehicle
  pub own_rows :
      (m : ℕ) → owner_of S own m ≡ p → begins_in S own m ≡ p
      → (held_crossed S own p t).rows m ≡ length (at m Queue (world_crossed S own p t))
