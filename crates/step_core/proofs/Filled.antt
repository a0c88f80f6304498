-- What lies in a wheel, from second to second.
use Rattle.std.proofs.Common.{◌≡◌, ◌≢◌, ℕ, ◌+◌, ◌<◌, ◌≤◌, List, ◌∙◌, sym, subst, subst₂, arith}
use mathlib.Core.Logic.{dite}
use native.Mathlib.Decide.{ℕ_discrete}
use Rattle.step_core.{proofs.Rows.rows_apart, proofs.Rows.other_row, proofs.Rows.same_place, specs.Exchanges.AreTaken}
use Rattle.step_core.specs.{Wheels.row_of, Wheels.lies, Wheels.IsFilled, Wheels.HasRoom, Wheels.IsPut, declared.part.Border.Border, declared.wheel.Wheel.Wheel}

pub filled_at : {P : Type 0} (nothing : P) (R : ℕ → P → Type 0) (s z t v lag a : ℕ) (w : Wheel P) → s ≡ z → t ≡ v
    → IsFilled nothing R s t lag a w → IsFilled nothing R z v lag a w
filled_at nothing R s z t v lag a w e f h = subst₂ (λ (x y : ℕ). IsFilled nothing R x y lag a w) e f h

pub room_at : {P : Type 0} (nothing : P) (s z t v lag a : ℕ) (w : Wheel P) → s ≡ z → t ≡ v → HasRoom nothing s t lag a w
    → HasRoom nothing z v lag a w
room_at nothing s z t v lag a w e f h = λ u le lt. h u (omega arith) (omega arith)

-- WHERE ROW t WAS TAKEN
-- its partition did second t: what a sent is due before another turn is over
module _ {P : Type 0} (nothing : P) (rows : List Border) (old new : Wheel P) (s t lag a : ℕ) (few : a < 64)
    (taken : AreTaken nothing t rows old new) (none : lies nothing new t a ≡ nothing) where
  pub taken_room : HasRoom nothing s t lag a old → HasRoom nothing s (t + 1) lag a new
  taken_room room u le lt = dite (ℕ_discrete (row_of u) (row_of t))
      (λ e. same_place nothing new u t a e ∙ none)
      (λ ne. taken.others u a few ne ∙ room u le (omega arith))

  pub taken_filled : (R : ℕ → P → Type 0) → IsFilled nothing R s t lag a old → s + lag ≤ t + 64 → lag ≤ 64
      → IsFilled nothing R s (t + 1) lag a new
  taken_filled R h ahead short = record {
    full = λ u lt le. subst (R u) (sym (taken.others (u + lag) a few (rows_apart t (u + lag) (omega arith) (omega arith))))
        (h.full u lt (omega arith));
    before = λ u le lt. taken.others u a few (rows_apart t u (omega arith) (omega arith)) ∙ h.before u (omega arith) lt;
  }

-- WHERE a PUT WHAT IT SENT IN SECOND s
module _ {P : Type 0} (nothing : P) (old new : Wheel P) (s t lag a : ℕ) (x : P) (put : IsPut nothing (s + lag) a x old new)
    (ahead : t ≤ s + lag) (near : s + lag < t + 64) where
  pub put_room : HasRoom nothing s t lag a old → HasRoom nothing (s + 1) t lag a new
  put_room room u le lt = put.rest u (other_row u (s + lag) (λ e. absurd (omega arith)) (omega arith) (omega arith))
      ∙ room u (omega arith) lt

  pub put_filled : (R : ℕ → P → Type 0) → R s x → IsFilled nothing R s t lag a old → IsFilled nothing R (s + 1) t lag a new
  put_filled R right h = record {
    full = λ u lt le. dite (ℕ_discrete u s)
        (λ e. subst (λ (v : ℕ). R v (lies nothing new (v + lag) a)) (sym e) (subst (R s) (sym put.here) right))
        (λ ne. subst (R u) (sym (put.rest (u + lag) (other_row (u + lag) (s + lag) (λ e. ne (omega arith)) (omega arith) (omega arith))))
        (h.full u (omega arith) le));
    before = λ u le lt. put.rest u (other_row u (s + lag) (λ e. absurd (omega arith)) (omega arith) (omega arith)) ∙ h.before u le lt;
  }

-- WHERE ANOTHER ONE DID
module _ {P : Type 0} (nothing : P) (old new : Wheel P) (u b : ℕ) (x : P) (put : IsPut nothing u b x old new) (s t lag a : ℕ)
    (few : a < 64) (ne : a ≢ b) where
  pub beside_room : HasRoom nothing s t lag a old → HasRoom nothing s t lag a new
  beside_room room v le lt = put.others v a few ne ∙ room v le lt

  pub beside_filled : (R : ℕ → P → Type 0) → IsFilled nothing R s t lag a old → IsFilled nothing R s t lag a new
  beside_filled R h = record {
    full = λ v lt le. subst (R v) (sym (put.others (v + lag) a few ne)) (h.full v lt le);
    before = λ v le lt. put.others v a few ne ∙ h.before v le lt;
  }
