-- A link's second as the loop of its caller: it goes on, a vehicle halts, the caller does its part, and it goes on.
use Rattle.std.specs.Prelude.{◌≡◌, ℕ, List, [], ◌∷◌, ◌++◌, if◌then◌else◌}
use Rattle.std.specs.List.{flat_map, AllByRecursion as Each}
use Rattle.rows.specs.declared.settings.Dwelling.{Dwelling}
use Rattle.traffic.specs.{Links.LinkState, Moves.told, Stops.left_behind, Stops.served_row, Telling.serves}
use Rattle.traffic.specs.declared.moves.{Move.Move, Move.TheVariants.Transfer, Move.TheVariants.Remove, Move.TheVariants.LeaveHole, Occurrence.Occurrence}
use Rattle.traffic.specs.declared.{numbers.Rules.Rules, stage.Stage.Stage, stage.Stage.TheVariants.Queue, world.Row.Row, world.Waiter.Waiter}
use Rattle.law_sleeping.specs.Quiet.{link_state_after_all}
use Rattle.queue_link.specs.{Links.row_on, Turns.Outcome, Turns.in_bay, Turns.moves_left}
use Rattle.queue_link.specs.declared.turns.Turn.{Turn, TheVariants.Stop, TheVariants.Done}

-- the place that a vehicle leaves in the queue of which it comes
abbrev pub hole_of : ℕ → ℕ → Stage → List Move
hole_of l t Queue = LeaveHole l t ∷ []
hole_of l t _ = []

-- the moves of a link in second t up to the one by which a vehicle halts, with that one and the hole that it leaves
unfoldable pub up_to_halt : ℕ → ℕ → List Move → List Move
up_to_halt l t [] = []
up_to_halt l t (Transfer a s k was now ∷ ms) = Transfer a s k was now ∷ (if in_bay now.stage then hole_of l t s else up_to_halt l t ms)
up_to_halt l t (Remove a s k was ∷ ms) = Remove a s k was ∷ hole_of l t s
up_to_halt l t (m ∷ ms) = m ∷ up_to_halt l t ms

-- who waits at the link's stops, the lists, and what was told, once the caller has served and parked who stops
abbrev pub waiting_behind : Turn → List Waiter → List Waiter
waiting_behind (Stop v) ws = left_behind v ws
waiting_behind _ ws = ws

abbrev pub lists_behind : Dwelling → ℕ → ℕ → List Waiter → Turn → LinkState → LinkState
lists_behind D t l ws (Stop v) L = record L { bay = L.bay ++ served_row D t l ws v ∷ [] }
lists_behind D t l ws _ L = L

abbrev pub told_behind : Dwelling → ℕ → ℕ → List Waiter → Turn → List Occurrence → List Occurrence
told_behind D t l ws (Stop v) said = said ++ serves (row_on l Queue 0 v) (served_row D t l ws v)
told_behind D t l ws _ said = said

-- the moves that are left then
abbrev pub moves_behind : Rules → ℕ → ℕ → List Waiter → Turn → LinkState → List Move
moves_behind K t l ws Done L = []
moves_behind K t l ws turn L = moves_left K t l (waiting_behind turn ws) (lists_behind K.dwell t l ws turn L)

-- the rows are on this link
abbrev pub AreOn : ℕ → List Row → Type 0
AreOn l rows = Each (λ (r : Row). r.link ≡ l) rows

-- these moves come to that outcome, and go on behind it
pub record ComeTo (K : Rules) (t l : ℕ) (ws : List Waiter) (ms : List Move) (L : LinkState) (said : List Occurrence) (o : Outcome) : Type 0 where
  pub moves : ms ≡ up_to_halt l t ms ++ moves_behind K t l ws o.turn o.lists
  pub lists : link_state_after_all l (up_to_halt l t ms) L ≡ lists_behind K.dwell t l ws o.turn o.lists
  pub told : said ++ flat_map told (up_to_halt l t ms) ≡ told_behind K.dwell t l ws o.turn o.told
