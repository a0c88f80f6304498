-- Which seconds share a row of a wheel.
use Rattle.std.proofs.Common.{◌≡◌, ◌≢◌, ℕ, ◌+◌, ◌*◌, ◌<◌, get_or, ap, arith}
use Rattle.step_core.specs.{Wheels.row_of, Wheels.lies, declared.wheel.Wheel.Wheel}

-- seconds of a whole turn have rows of their own
pub rows_apart : (u v : ℕ) → u < v → v < u + 64 → row_of v ≢ row_of u
rows_apart u v lt near = λ e. absurd (omega arith)

pub other_row : (u v : ℕ) → u ≢ v → u < v + 64 → v < u + 64 → row_of u ≢ row_of v
other_row u v ne f g = λ e. absurd (omega arith)

-- the same row is the same place
pub same_place : {P : Type 0} (nothing : P) (w : Wheel P) (u v a : ℕ) → row_of u ≡ row_of v → lies nothing w u a ≡ lies nothing w v a
same_place nothing w u v a e = ap (λ (r : ℕ). get_or w.parcels.items (a * 64 + r) nothing) e
