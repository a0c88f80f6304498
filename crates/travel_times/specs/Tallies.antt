-- What is known of cars while the events of a day are gone through: on which link each is, and what was seen of each link and bin.
use Rattle.std.specs.{Option.option_map, Option.option_map_or, Prelude.◌≡◌, Prelude.ℕ, Prelude.◌+◌, Prelude.◌-◌, Prelude.◌*◌}
use Rattle.std.specs.Prelude.{◌/◌, ◌^◌, ◌<◌, ◌≤◌, ◌⊎◌, ◌++◌, max, nat_eq, ◌&&◌, sum, List, [], length, fold, slice_index_or, Option, None, Some, if◌then◌else◌}
use Rattle.events.specs.declared.event.Event.{Event}
use Rattle.travel_times.specs.Observed.{AreInOrder, AreOnLinks, tells_of, is_entry, leaves, observed, average_or}
use Rattle.travel_times.specs.Times.{LinkProfile, time_in}
use Rattle.travel_times.specs.declared.{TheConstants.BIN_SECONDS, observations.Entry.Entry, tallies.Tally.Tally}

-- no car
abbrev pub no_tally : Tally
no_tally = record { cars = 0; seconds = 0 }

-- one car more
abbrev pub with_stay : Tally → ℕ → Tally
with_stay tally seconds = record { cars = tally.cars + 1; seconds = tally.seconds + seconds }

-- no car took more seconds than a number of 32 bits tells
abbrev pub IsSmall : Tally → Type 0
IsSmall tally = tally.seconds ≤ tally.cars * 4294967295

-- the tallies of a bin
abbrev pub row_at : List (List Tally) → ℕ → List Tally
row_at rows bin = slice_index_or rows bin []

-- the tally of a link in a bin
abbrev pub tally_at : List (List Tally) → ℕ → ℕ → Tally
tally_at rows link bin = slice_index_or (row_at rows bin) link no_tally

-- each bin has a tally for each of so many links or none at all, and there are no more bins than seconds of 32 bits fill
pub record HasRows (links : ℕ) (rows : List (List Tally)) : Type 0 where
  pub each : (bin : ℕ) → (length (row_at rows bin) ≡ 0) ⊎ (length (row_at rows bin) ≡ links)
  pub few : length rows ≤ 4772186
  pub small : (link bin : ℕ) → IsSmall (tally_at rows link bin)

-- the new tallies are the old ones, but for one car more on this link in this bin
abbrev pub Adds : ℕ → ℕ → ℕ → List (List Tally) → List (List Tally) → Type 0
Adds link bin seconds old new =
    (k b : ℕ) → tally_at new k b ≡ (if nat_eq link k && nat_eq bin b then with_stay (tally_at old k b) seconds else tally_at old k b)

-- the link that a vehicle enters by an event, and when
abbrev pub entry_of : Event → Option Entry
entry_of event = if is_entry event.word then option_map (λ link. record { link = link; second = event.key.second }) event.link else None

-- the seconds of a stay that began with the entry, where the event is that the vehicle leaves this link
abbrev pub stay_of : Event → Entry → Option ℕ
stay_of event entry = if leaves entry.link event then Some (event.key.second - entry.second) else None

-- the seconds of the stay on this link since this bin that the event ends, of a car with this entry
abbrev pub ended_stay : ℕ → ℕ → Option Entry → Event → Option ℕ
ended_stay link bin None event = None
ended_stay link bin (Some entry) event = if nat_eq entry.link link && nat_eq
    (entry.second / BIN_SECONDS) bin then stay_of event entry else None

-- the new tallies are the old ones and the stay that the event ends, of a car with this entry
abbrev pub EndsStay : Event → Option Entry → List (List Tally) → List (List Tally) → Type 0
EndsStay event entry old new =
    (link bin : ℕ) → tally_at new link bin ≡ option_map_or (λ seconds. with_stay (tally_at old link bin) seconds)
    (ended_stay link bin entry event) (tally_at old link bin)

-- where a car is by the last of these events that tells of it: on a link that it has entered, or anywhere
unfoldable pub entry_after : ℕ → List Event → Option Entry
entry_after car events = fold (λ last event. if tells_of car event then entry_of event else last) None events

-- what is known after these events: the tallies of all stays that were seen in them, and where each car is
pub record IsKnown (links : ℕ) (events : List Event) (rows : List (List Tally)) (entries : List (Option Entry)) : Type 0 where
  pub rows_kept : HasRows links rows
  pub cars : (link bin : ℕ) → (tally_at rows link bin).cars ≡ length (observed link bin events)
  pub seconds : (link bin : ℕ) → (tally_at rows link bin).seconds ≡ sum (observed link bin events)
  pub entered : (car : ℕ) → slice_index_or entries car None ≡ entry_after car events

-- a piece of a day, behind the events before it: none of them is earlier than one before it, their links are among so many, and all of
-- them together can be counted
pub record IsPiece (links : ℕ) (taken events : List Event) : Type 0 where
  pub order : AreInOrder (taken ++ events)
  pub on_links : AreOnLinks links (taken ++ events)
  pub few : length (taken ++ events) < 2 ^ 64

-- the times of a profile are the averages of what was seen of this link
abbrev pub IsSeen : ℕ → ℕ → List (List Tally) → LinkProfile → Type 0
IsSeen free link rows profile =
    (profile.free ≡ free) × ((bin : ℕ) → time_in profile bin
    ≡ max 1 (average_or free (tally_at rows link bin).cars (tally_at rows link bin).seconds))
