-- The second of a link whose stops have lines of their own.
use Rattle.std.specs.Prelude.{◌≡◌, ℕ, ◌-◌, ◌<◌, ◌≤◌, Bool, true, false, List, [], ◌∷◌, ◌++◌, length, get_or, if◌then◌else◌}
use Rattle.std.specs.List.{flat_map, AllByRecursion as Each}
use Rattle.limits.specs.declared.TheConstants.{LAST_SECOND, MAX_CALLS, MAX_PERSONS}
use Rattle.fixed_flow.specs.Flow.{raised_times}
use Rattle.traffic.specs.{Links.LinkState, Links.link_moves, Moves.told, Stops.next_call, Stops.calls_on, Stops.left_behind, Vehicles.VehicleState}
use Rattle.traffic.specs.declared.moves.{Move.Move, Move.TheVariants.Transfer, Occurrence.Occurrence}
use Rattle.traffic.specs.declared.{numbers.Rules.Rules, world.Row.Row, world.Waiter.Waiter}
use Rattle.law_sleeping.specs.Quiet.{link_state_after_all}
use Rattle.queue_link.specs.{Links.LinkView, Turns.in_bay, Turns.moves_left}
use Rattle.riders.specs.Waiting.{AreOnce, at_stop}

-- the lists of a link, with the gains of all seconds before t
abbrev pub lists_at : ℕ → LinkView → LinkState
lists_at t v = record v.lists { credit = raised_times v.numbers.gain (t - v.raised) v.lists.credit }

-- THOSE WHO WAIT
-- the line of a stop
abbrev pub line_at : List (List Waiter) → ℕ → List Waiter
line_at lines stop = get_or lines stop []

-- each line of a stop that lies on the link has those of them who wait there, in turn; and each of them waits once
pub record HaveLines (lies : ℕ → Bool) (lines : List (List Waiter)) (ws : List Waiter) : Type 0 where
  pub once : AreOnce ws
  pub each : (stop : ℕ) → lies stop ≡ true → line_at lines stop ≡ at_stop stop ws

-- no line has more than there are persons
abbrev pub AreShort : List (List Waiter) → Type 0
AreShort lines = Each (λ (ws : List Waiter). length ws ≤ MAX_PERSONS) lines

-- those of them who still wait once these moves of a link served the vehicles that stop
abbrev pub left_after : List Move → List Waiter → List Waiter
left_after [] ws = ws
left_after (Transfer l s k was now ∷ ms) ws = left_after ms (if in_bay now.stage then left_behind was.vehicle ws else ws)
left_after (m ∷ ms) ws = left_after ms ws

-- VEHICLES
-- a vehicle is within the limits, and its next call is at one of so many stops
pub record CanStop (stops : ℕ) (v : VehicleState) : Type 0 where
  pub few_calls : length v.calls ≤ MAX_CALLS
  pub departed : v.departed ≤ LAST_SECOND
  pub stop : v.served < length v.calls → (next_call v).stop < stops
  pub offset : (next_call v).offset ≤ LAST_SECOND
  pub few_riders : length v.riders ≤ MAX_PERSONS

-- a row of link l whose vehicle can stop
abbrev pub IsReady : ℕ → ℕ → Row → Type 0
IsReady stops l r = (r.link ≡ l) × CanStop stops r.vehicle

-- the rows that may yet stop on a link in a second that was begun are such
pub record AreReady (stops : ℕ) (v : LinkView) : Type 0 where
  pub queue : Each (IsReady stops v.numbers.link) v.lists.queue
  pub wait : Each (IsReady stops v.numbers.link) v.lists.wait

-- a vehicle whose next call is on link l stops where these stops lie
abbrev pub IsThere : (ℕ → Bool) → ℕ → Row → Type 0
IsThere lies l r = calls_on l r.vehicle ≡ true → lies (next_call r.vehicle).stop ≡ true

-- so do all that may yet stop on a link in a second that was begun
pub record StopThere (lies : ℕ → Bool) (v : LinkView) : Type 0 where
  pub queue : Each (IsThere lies v.numbers.link) v.lists.queue
  pub wait : Each (IsThere lies v.numbers.link) v.lists.wait

-- A SECOND
-- the moves that are left, where the link goes on
abbrev pub rest_of : Bool → Rules → ℕ → ℕ → List Waiter → LinkState → List Move
rest_of true K t l ws L = moves_left K t l ws L
rest_of false K t l ws L = []

-- Of the moves that are left of a second, with these lists, events and lines, some lead to those; then the link goes on or is done.
pub record LeadsOn (lies : ℕ → Bool) (goes : Bool) (K : Rules) (t l : ℕ) (ws : List Waiter) (L : LinkState) (said : List Occurrence)
    (lines : List (List Waiter)) (M : LinkState) (heard : List Occurrence) (later : List (List Waiter)) : Type 0 where
  pub moves : List Move
  pub left : List Waiter
  pub all : moves_left K t l ws L ≡ moves ++ rest_of goes K t l left M
  pub lists : link_state_after_all l moves L ≡ M
  pub events : said ++ flat_map told moves ≡ heard
  pub leaves : left_after moves ws ≡ left
  pub waits : HaveLines lies later left
  pub others : (stop : ℕ) → lies stop ≡ false → line_at later stop ≡ line_at lines stop

-- The moves of link l in second t, by those who wait and by its lists, make these lists, events and lines of those.
pub record IsSecond (lies : ℕ → Bool) (K : Rules) (t l : ℕ) (ws : List Waiter) (L : LinkState) (said : List Occurrence)
    (lines : List (List Waiter)) (M : LinkState) (heard : List Occurrence) (later : List (List Waiter)) : Type 0 where
  pub lists : M ≡ link_state_after_all l (link_moves K t l ws L) L
  pub events : heard ≡ said ++ flat_map told (link_moves K t l ws L)
  pub waits : HaveLines lies later (left_after (link_moves K t l ws L) ws)
  pub others : (stop : ℕ) → lies stop ≡ false → line_at later stop ≡ line_at lines stop
