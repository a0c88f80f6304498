-- Who is where when a day ends: in a parcel that is not absorbed, or with a partition.
use Rattle.std.specs.Prelude.{◌≡◌, ℕ, ◌+◌, ◌<◌, ◌≤◌, ◌⊎◌, true, List, [], ◌∷◌, length, is_some, Some}
use Rattle.std.specs.List.{AllByRecursion as Each}
use Rattle.events.specs.declared.event.VehicleId.{VehicleId}
use Rattle.traffic.specs.{Day.world_at, Persons.link_of_vehicle, Rows.World, Rows.person_of, Setup.Setup, Worlds.listed}
use Rattle.traffic.specs.declared.{riders.Rider.Rider, stage.Stage.Stage}
use Rattle.traffic.specs.declared.world.Place.TheVariants as place
use Rattle.parts.specs.Owners.{Owner, owner_of, near, lag}
use Rattle.parts.specs.Parts.{Passed, Flight, Parcel, held, out, carries, ends_with}

-- IN A PARCEL
-- in world W person i rides in vehicle v on link l, and has this element
pub record RidesSo (W : World) (l : ℕ) (v : VehicleId) (i e : ℕ) : Type 0 where
  pub state : person_of i W ≡ record { element = e; place = place.Riding v }
  pub link : link_of_vehicle v W.rows ≡ l

-- so does each of these riders who is a person of the setup, with these elements
abbrev pub RideSo : Setup → World → ℕ → VehicleId → List Rider → List ℕ → Type 0
RideSo S W l v [] es = Unit {0}
RideSo S W l v (r ∷ rs) [] = Unit {0}
RideSo S W l v (r ∷ rs) (e ∷ es) = (r.person < length S.persons → RidesSo W l v r.person e) × RideSo S W l v rs es

-- in world W this person, if the setup has him, flies since second s, and has this element
abbrev pub FliesSo : Setup → World → ℕ → Flight → Type 0
FliesSo S W s f = f.person < length S.persons → person_of f.person W ≡ record { element = f.element; place = place.Teleporting s }

-- what a parcel of second s brings is so in world W: its riders are on the links of their rows, and who set out flies
pub record IsStillSo (S : Setup) (W : World) (s : ℕ) (x : Parcel) : Type 0 where
  pub riders : Each (λ (y : Passed). RideSo S W y.row.link y.row.vehicle.id y.row.vehicle.riders y.elements) x.vehicles
  pub flights : Each (FliesSo S W s) x.flights

-- each parcel that p sent to a neighbour so late that the neighbour has not absorbed it when t seconds are done
abbrev pub LastAreSo : Setup → Owner → ℕ → ℕ → Type 0
LastAreSo S own p t =
    (q s : ℕ) → near S own p q ≡ true → s < t → t ≤ s + lag S own p q → IsStillSo S (world_at S t) s (out S own p q s)

-- WITH A PARTITION
-- person i rides on link l of partition p, and is listed there alone in what p holds after t seconds
pub record IsListedOn (S : Setup) (own : Owner) (p t i l : ℕ) : Type 0 where
  pub there : l < length S.links
  pub own_link : owner_of S own l ≡ p
  pub stage : Stage
  pub some : 1 ≤ listed i ((held S own p t).list l stage)
  pub only : (m : ℕ) (s : Stage) → 1 ≤ listed i ((held S own p t).list m s) → m ≡ l

-- whom p has then is in the state in which the day has him, and who of them rides is listed on the link of his vehicle
pub record HasThem (S : Setup) (own : Owner) (p t : ℕ) : Type 0 where
  pub state : (i : ℕ) → is_some ((held S own p t).person i) ≡ true → (held S own p t).person i ≡ Some (person_of i (world_at S t))
  pub rides :
      (i : ℕ) (v : VehicleId) → is_some ((held S own p t).person i) ≡ true → (person_of i (world_at S t)).place ≡ place.Riding v
      → IsListedOn S own p t i (link_of_vehicle v (world_at S t).rows)

-- AT THE END
-- person i is in a parcel of p that is not absorbed when the day ends
pub record IsSent (S : Setup) (own : Owner) (p i : ℕ) : Type 0 where
  pub receiver : ℕ
  pub second : ℕ
  pub near_by : near S own p receiver ≡ true
  pub before : second < S.settings.end_second
  pub late : S.settings.end_second ≤ second + lag S own p receiver
  pub in_it : carries i (out S own p receiver second) ≡ true

-- he ends with p where p has him, or where he is in such a parcel, and nowhere else
pub record EndsSo (S : Setup) (own : Owner) (parts p i : ℕ) : Type 0 where
  pub had : is_some ((held S own p S.settings.end_second).person i) ≡ true → ends_with S own parts p i ≡ true
  pub sent : IsSent S own p i → ends_with S own parts p i ≡ true
  pub either :
      ends_with S own parts p i ≡ true
      → (is_some ((held S own p S.settings.end_second).person i) ≡ true) ⊎ IsSent S own p i
