-- The words of what a move tells.
use Rattle.traffic.proofs.Common.{List, [], ℕ, Bool, true, false, flat_map, VehicleId, Word, starts, serves, arrives, aborts, leaves, enters, strands}
use Rattle.traffic.proofs.Common.{alighting, boarded, next_call, told_transfer, told_removal, told_to}
use Rattle.traffic.proofs.{LeftBehind.serving_stage, Each.each_append, Each.each_if, Each.each_flat_all}
use Rattle.traffic.specs.declared.{moves.Occurrence.Occurrence, riders.Rider.Rider}
use Rattle.traffic.specs.declared.world.Row.{Row}
use Rattle.std.specs.List.{AllByRecursion as Each}
use Rattle.events.specs.declared.event.Word.TheVariants as word

abbrev pub Words : (Word → Type 0) → List Occurrence → Type 0
Words P xs = Each (λ (x : Occurrence). P x.word) xs

-- what is asked of the words that are told at stops
pub record OfStops (P : Word → Type 0) : Type 0 where
  pub comes : P word.VehicleArrivesAtFacility
  pub leaves : P word.PersonLeavesVehicle
  pub arrives : P word.Arrival
  pub begins : P word.ActStart
  pub enters : P word.PersonEntersVehicle

pub starts_words : (P : Word → Type 0) (r : Row) → P word.VehicleEntersTraffic → Words P (starts r)
starts_words P r a = each_if (λ (x : Occurrence). P x.word) r.vehicle.started [] _ tt (a, tt)

pub leaves_words : (P : Word → Type 0) (v : VehicleId) (l : ℕ) (rs : List Rider) → P word.PersonLeavesVehicle → P word.Arrival → P word.ActStart → Words P (flat_map (leaves v l) rs)
leaves_words P v l rs a b c = each_flat_all (λ (x : Occurrence). P x.word) (leaves v l) (λ r. (a, (b, (c, tt)))) rs

pub enters_words : (P : Word → Type 0) (v : VehicleId) (rs : List Rider) → P word.PersonEntersVehicle → Words P (flat_map (enters v) rs)
enters_words P v rs a = each_flat_all (λ (x : Occurrence). P x.word) (enters v) (λ r. (a, tt)) rs

pub serves_words : (P : Word → Type 0) (r now : Row) → OfStops P → Words P (serves r now)
serves_words P r now f =
    let v = r.vehicle in
    let stop = (next_call v).stop in (
      f.comes,
      each_append (λ (x : Occurrence). P x.word) (flat_map (leaves v.id r.link) (alighting stop v.riders)) _ (leaves_words P v.id r.link (alighting stop v.riders) f.leaves f.arrives f.begins)
          (enters_words P v.id (boarded stop v.riders now.vehicle.riders) f.enters),
    )

pub arrives_words : (P : Word → Type 0) (r : Row) → P word.VehicleLeavesTraffic → OfStops P → Words P (arrives r)
arrives_words P r a f = (a, leaves_words P r.vehicle.id r.link r.vehicle.riders f.leaves f.arrives f.begins)

pub aborts_words : (P : Word → Type 0) (r : Row) → P word.VehicleAborts → P word.StuckAndAbort → Words P (aborts r)
aborts_words P r a b = (a, each_flat_all (λ (x : Occurrence). P x.word) (strands r.vehicle.id r.link) (λ x. (b, tt)) r.vehicle.riders)

-- of the front of a queue or of a wait list, that goes into a bay, or for good
pub front_words : (P : Word → Type 0) (s : Bool) (r now : Row) → P word.VehicleEntersTraffic → Words P (told_to now.stage r now) → Words P (told_transfer (serving_stage s) r now)
front_words P false r now a h = h
front_words P true r now a h = each_append (λ (x : Occurrence). P x.word) (starts r) _ (starts_words P r a) h

pub end_words : (P : Word → Type 0) (s : Bool) (r : Row) → P word.VehicleEntersTraffic → P word.VehicleLeavesTraffic → OfStops P → Words P (told_removal (serving_stage s) r)
end_words P false r a b f = arrives_words P r b f
end_words P true r a b f = each_append (λ (x : Occurrence). P x.word) (starts r) _ (starts_words P r a) (arrives_words P r b f)
