-- Those who wait at one stop.
use Rattle.std.specs.Prelude.{◌≢◌, ℕ, List, [], ◌∷◌, filter, ◌==◌}
use Rattle.traffic.specs.{Stops.ComesBefore, Stops.in_turn, declared.world.Waiter.Waiter}

-- none of these is the person
abbrev pub NobodyIs : ℕ → List Waiter → Type 0
NobodyIs i [] = Unit {0}
NobodyIs i (w ∷ ws) = (w.person ≢ i) × NobodyIs i ws

-- all of these come before that one
abbrev pub AllBefore : List Waiter → Waiter → Type 0
AllBefore [] w = Unit {0}
AllBefore (x ∷ xs) w = ComesBefore x w × AllBefore xs w

-- who waits comes before all who stand behind, and is none of them
abbrev pub ComesBeforeAll : Waiter → List Waiter → Type 0
ComesBeforeAll w [] = Unit {0}
ComesBeforeAll w (x ∷ xs) = ComesBefore w x × ComesBeforeAll w xs

abbrev pub AreWaiting : List Waiter → Type 0
AreWaiting [] = Unit {0}
AreWaiting (w ∷ ws) = ComesBeforeAll w ws × NobodyIs w.person ws × AreWaiting ws

-- each of these waits once
abbrev pub AreOnce : List Waiter → Type 0
AreOnce [] = Unit {0}
AreOnce (w ∷ ws) = NobodyIs w.person ws × AreOnce ws

-- those of them who wait at stop s, in turn
abbrev pub at_stop : ℕ → List Waiter → List Waiter
at_stop s ws = in_turn (filter (λ (w : Waiter). w.stop == s) ws)
