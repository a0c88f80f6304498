-- How the places of links are taken: by the rows of their queues, and by places that were left and are not free yet.
use Rattle.std.specs.{List.Contains, Prelude.◌≡◌}
use Rattle.std.specs.Prelude.{ℕ, ◌+◌, ◌-◌, ◌<◌, ◌≤◌, Bool, true, false, List, [], ◌++◌, replicate, count_by, nat_le, ◌==◌, if◌then◌else◌, Option, None, Some}
use Rattle.traffic.specs.{Setup.Setup, Setup.storage_of, Setup.seconds_of, declared.node_views.OutLink.OutLink}
use Rattle.calendar.specs.Due.{due_at}
use Rattle.node_move.specs.{Entries.SpaceRows, Spaces.places_in, Spaces.holes_in}
use Rattle.parts.specs.Owners.{Owner, begins_in}
use Rattle.part_places.specs.declared.places.Places.{Places}

-- Of links by their numbers: how many places each has and how long it takes; how many vehicles its queue has, and the seconds in which
-- places of it that were left are free again.
pub record Taking : Type 0 where
  pub storage : ℕ → ℕ
  pub seconds : ℕ → ℕ
  pub queued : ℕ → ℕ
  pub frees : ℕ → List ℕ

-- how many of these seconds are t or later ones
abbrev pub still : ℕ → List ℕ → ℕ
still t frees = count_by (λ (u : ℕ). nat_le t u) frees

-- how often a number stands in a list
abbrev pub times : ℕ → List ℕ → ℕ
times m ns = count_by (λ (n : ℕ). n == m) ns

-- the places of a link, where those are taken that are not free before second t
abbrev pub places_of : ℕ → Taking → ℕ → OutLink
places_of t T m = record { taken = T.queued m + still t (T.frees m); storage = T.storage m; seconds = T.seconds m }

-- These are the places of those of so many links that begin here, where those that were left are free in second t or later, and in each of
-- these seconds before the end those come free that do.
pub record AreTakenOf (begins : ℕ → Bool) (count end t : ℕ) (T : Taking) (P : Places) : Type 0 where
  pub places : (m : ℕ) → m < count → begins m ≡ true → places_in P.space m ≡ Some (places_of t T m)
  pub holes : (m : ℕ) → m < count → begins m ≡ true → holes_in P.space m ≡ still t (T.frees m)
  pub freed : (m u : ℕ) → m < count → begins m ≡ true → t ≤ u → u < end → times m (due_at u P.freed) ≡ times u (T.frees m)

-- link m has no place free, where those that were left and are free in second t or later are taken
abbrev pub IsFull : ℕ → Taking → ℕ → Type 0
IsFull t T m = T.storage m ≤ T.queued m + still t (T.frees m)

-- whether link m begins in partition p
abbrev pub begins_here : Setup → Owner → ℕ → ℕ → Bool
begins_here S own p m = begins_in S own m == p

-- nobody is on the links of a setup, and no place of them was left
abbrev pub empty : Setup → Taking
empty S = record { storage = storage_of S; seconds = seconds_of S; queued = λ m. 0; frees = λ m. [] }

-- no place of link m is taken
abbrev pub free_place : Setup → ℕ → OutLink
free_place S m = record { taken = 0; storage = storage_of S m; seconds = seconds_of S m }

-- no place is taken of any of these links
abbrev pub AreFree : Setup → List ℕ → SpaceRows → Type 0
AreFree S links space = (m : ℕ) → Contains links m → places_in space m ≡ Some (free_place S m)

abbrev pub taken_in : Option OutLink → ℕ
taken_in None = 0
taken_in (Some e) = e.taken

-- whether no place is free, of these places and of those of a link
abbrev pub is_full : Option OutLink → Bool
is_full None = false
is_full (Some e) = nat_le e.storage e.taken

abbrev pub is_full_in : SpaceRows → ℕ → Bool
is_full_in space m = is_full (places_in space m)

-- link l has a queue of so many vehicles now, and the places that the others left are free in this second
abbrev pub later : ℕ → ℕ → ℕ → Taking → Taking
later l queued second T =
    record T {
      queued = λ m. if m == l then queued else T.queued m;
      frees = λ m. if m == l then T.frees m ++ replicate (T.queued m - queued) second else T.frees m;
    }
