-- Two signals of which some second has both green.
use Rattle.std.specs.Prelude.{◌≡◌, ℕ, zero, suc, ◌*◌, Bool, true, false, ◌&&◌, ◌||◌}
use Rattle.rows.specs.Greens.{Phases, is_green}

-- some second below this one has both green
unfoldable pub clash_below : Phases → Phases → ℕ → Bool
clash_below a b zero = false
clash_below a b (suc t) = (is_green a t && is_green b t) || clash_below a b t

-- some second has both green: together they repeat after the product of their cycles
unfoldable pub clash : Phases → Phases → Bool
clash a b = clash_below a b (a.cycle * b.cycle)

-- both are green in some second, however late
abbrev pub AreGreenTogether : Phases → Phases → Type 0
AreGreenTogether a b = (t : ℕ) × (is_green a t ≡ true) × (is_green b t ≡ true)
