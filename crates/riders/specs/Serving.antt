-- The service of a stop: who is taken in, one after the other, while there are seats, and who is left.
use Rattle.std.specs.Prelude.{ℕ, zero, suc, Bool, List, [], ◌∷◌, if◌then◌else◌}
use Rattle.traffic.specs.{Vehicles.VehicleState, declared.stage.Stage.TheVariants.Queue, declared.world.Row.Row}

-- those behind the first so many that pass, and all who do not pass
unfoldable pub left_over : {X : Type 0} → ℕ → (X → Bool) → List X → List X
left_over zero p xs = xs
left_over (suc k) p [] = []
left_over (suc k) p (x ∷ xs) = if p x then left_over k p xs else x ∷ left_over (suc k) p xs

-- a vehicle that stops on a link
abbrev pub stopping : ℕ → VehicleState → Row
stopping l v = record { vehicle = v; link = l; stage = Queue; second = 0 }
