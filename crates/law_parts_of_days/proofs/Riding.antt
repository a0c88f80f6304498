-- The table of the links on which persons ride, and who is stuck by it when a day ends.
use Rattle.traffic.proofs.Common.{◌≡◌, ℕ, List, [], ◌∷◌, ◌∙◌, ap, refl, length, length-set, set, VehicleId, World, Setup, link_of_vehicle, Mode, Act, stuck_at}
use Rattle.traffic.specs.{Persons.stuck_on, declared.riders.Rider.Rider, declared.world.Place.Place, declared.world.Place.TheVariants.At}
use Rattle.traffic.specs.declared.world.{Place.TheVariants.Teleporting, Place.TheVariants.Waiting, Place.TheVariants.Riding, Place.TheVariants.Aborted, Row.Row}
use Rattle.law_parts_of_days.specs.Riding.{put_riders, put_rows}

-- THE TABLE
pub riders_length : (l : ℕ) (rs : List Rider) (table : List ℕ) → length (put_riders l rs table) ≡ length table
unfolding put_riders
riders_length l [] table = refl
riders_length l (r ∷ rs) table = riders_length l rs (set table r.person l) ∙ length-set table r.person l

pub rows_length : (l : ℕ) (rows : List Row) (table : List ℕ) → length (put_rows l rows table) ≡ length table
unfolding put_rows
rows_length l [] table = refl
rows_length l (r ∷ rs) table = rows_length l rs (put_riders l r.vehicle.riders table) ∙ riders_length l r.vehicle.riders table

-- WHO IS STUCK
pub stuck_there : (S : Setup) (W : World) (l i : ℕ) (here : Act) (mode : Mode) (p : Place)
    → ((v : VehicleId) → p ≡ Riding v → l ≡ link_of_vehicle v W.rows) → stuck_on S l i here mode p ≡ stuck_at S W i here mode p
stuck_there S W l i here mode (At end) h = refl
stuck_there S W l i here mode (Teleporting start) h = refl
stuck_there S W l i here mode (Waiting stop since) h = refl
stuck_there S W l i here mode (Riding v) h = ap (λ (k : ℕ). stuck_on S k i here mode (Riding v)) (h v refl)
stuck_there S W l i here mode (Aborted m) h = refl
