-- Who gets what leaves a partition in a second.
use Rattle.std.specs.{List.flat_map, Prelude.◌≡◌}
use Rattle.std.specs.Prelude.{ℕ, ◌<◌, Bool, false, List, [], ◌∷◌, ◌++◌, length, map, filter, get_or, set, position, ◌==◌, if◌then◌else◌, Option, None, Some}
use Rattle.traffic.specs.{Rows.nobody, Setup.Setup, Setup.act_after, declared.riders.Rider.Rider, declared.world.Person.Person, declared.world.Place.Place}
use Rattle.traffic.specs.declared.world.Place.TheVariants as place
use Rattle.node_move.specs.declared.crossings.Entering.{Entering}
use Rattle.parts.specs.Owners.{Owner, owner_of, begins_in}
use Rattle.step_core.specs.declared.part.Border.{Border}
use Rattle.part_seconds.specs.Parcels.{nothing}
use Rattle.part_seconds.specs.declared.contents.{Contents.Contents, FreedPlaces.FreedPlaces, Moved.Moved, ParcelItem.ParcelItem, Teleported.Teleported}
use Rattle.part_seconds.specs.declared.contents.ParcelItem.TheVariants as item

-- PARCELS
-- the parcel at a place
abbrev pub parcel_at : List Contents → ℕ → Contents
parcel_at parcels k = get_or parcels k nothing

-- a parcel with more of each
abbrev pub with_vehicles : List Moved → Contents → Contents
with_vehicles ms x = record x { vehicles = x.vehicles ++ ms }

abbrev pub with_teleported : List Teleported → Contents → Contents
with_teleported fs x = record x { teleported = x.teleported ++ fs }

abbrev pub with_freed : List FreedPlaces → Contents → Contents
with_freed fs x = record x { freed = x.freed ++ fs }

-- and with one thing more
abbrev pub with_item : ParcelItem → Contents → Contents
with_item (item.Vehicle m) = with_vehicles (m ∷ [])
with_item (item.Teleported f) = with_teleported (f ∷ [])
with_item (item.Freed f) = with_freed (f ∷ [])

-- PLACES of neighbours
abbrev pub place_in : List Border → ℕ → Option ℕ
place_in borders q = position (λ (b : Border). b.neighbour == q) borders

-- whether it is this place
abbrev pub is_at : ℕ → Option ℕ → Bool
is_at k None = false
is_at k (Some j) = j == k

-- the parcels, where this is done to the one at a place
abbrev pub changed_at : Option ℕ → (Contents → Contents) → List Contents → List Contents
changed_at None f parcels = parcels
changed_at (Some k) f parcels = set parcels k (f (parcel_at parcels k))

-- as many parcels, and this was done to each of them
pub record AreMore (f : ℕ → Contents → Contents) (old new : List Contents) : Type 0 where
  pub count : length new ≡ length old
  pub each : (k : ℕ) → k < length old → parcel_at new k ≡ f k (parcel_at old k)

-- VEHICLES
abbrev pub element_of : List Person → Rider → ℕ
element_of persons x = (get_or persons x.person nobody).element

abbrev pub number_of : Rider → ℕ
number_of x = x.person

abbrev pub riders_of : Entering → List ℕ
riders_of e = map number_of e.vehicle.riders

-- with the elements of the riders among these persons
abbrev pub moved_of : List Person → Entering → Moved
moved_of persons e = record { vehicle = e.vehicle; elements = map (element_of persons) e.vehicle.riders }

abbrev pub vehicle_place : Setup → Owner → List Border → Entering → Option ℕ
vehicle_place S own borders e = place_in borders (owner_of S own e.link)

abbrev pub more_vehicles : Setup → Owner → List Border → List Person → List Entering → ℕ → Contents → Contents
more_vehicles S own borders persons es k =
    with_vehicles (map (moved_of persons) (filter (λ e. is_at k (vehicle_place S own borders e)) es))

-- TELEPORTED PERSONS
-- the partition, where it is another one than p
abbrev pub other_than : ℕ → ℕ → Option ℕ
other_than p q = if q == p then None else Some q

-- the partition to which person i at this place set out in second t, if it is another one than p
abbrev pub teleports_to : Setup → Owner → ℕ → ℕ → ℕ → ℕ → Place → Option ℕ
teleports_to S own p t i element (place.Teleporting start) =
    if start == t then other_than p (owner_of S own (act_after S i element).link) else None
teleports_to S own p t i element _ = None

-- so with person i of these
abbrev pub teleports : Setup → Owner → ℕ → ℕ → List Person → ℕ → Option ℕ
teleports S own p t persons i =
    let P = get_or persons i nobody in
    teleports_to S own p t i P.element P.place

abbrev pub one_if : Option ℕ → ℕ → List ℕ
one_if None i = []
one_if (Some q) i = i ∷ []

abbrev pub if_teleports : Setup → Owner → ℕ → ℕ → List Person → ℕ → List ℕ
if_teleports S own p t persons i = one_if (teleports S own p t persons i) i

abbrev pub place_if : List Border → Option ℕ → Option ℕ
place_if borders None = None
place_if borders (Some q) = place_in borders q

abbrev pub teleported_place : Setup → Owner → ℕ → List Border → ℕ → List Person → ℕ → Option ℕ
teleported_place S own p borders t persons i = place_if borders (teleports S own p t persons i)

abbrev pub teleported_of : List Person → ℕ → Teleported
teleported_of persons i = record { person = i; element = (get_or persons i nobody).element }

abbrev pub more_teleported : Setup → Owner → ℕ → List Border → ℕ → List Person → List ℕ → ℕ → Contents → Contents
more_teleported S own p borders t persons ns k =
    with_teleported (map (teleported_of persons) (filter (λ i. is_at k (teleported_place S own p borders t persons i)) ns))

-- FREED PLACES
abbrev pub freed_place : Setup → Owner → List Border → FreedPlaces → Option ℕ
freed_place S own borders f = place_in borders (begins_in S own f.link)

abbrev pub more_freed : Setup → Owner → List Border → List FreedPlaces → ℕ → Contents → Contents
more_freed S own borders fs k = with_freed (filter (λ f. is_at k (freed_place S own borders f)) fs)

-- WHAT LEAVES
-- the parcel for the neighbour at place k
abbrev pub parcel_for : Setup → Owner → ℕ → List Border → ℕ → List Person → List Entering → List ℕ → List FreedPlaces → ℕ → Contents
parcel_for S own p borders t persons es ns fs k =
    more_freed S own borders fs k (more_teleported S own p borders t persons ns k (more_vehicles S own borders persons es k nothing))

-- who goes with it
abbrev pub all_gone : Setup → Owner → ℕ → ℕ → List Person → List Entering → List ℕ → List ℕ
all_gone S own p t persons es ns = flat_map riders_of es ++ flat_map (if_teleports S own p t persons) ns
