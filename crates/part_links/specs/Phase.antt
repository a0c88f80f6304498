-- The phase of a second in which links move, of those in so many slots or of all.
use Rattle.std.specs.Prelude.{◌≡◌, ℕ, ◌+◌, ◌<◌, Bool, true, false, List, ◌++◌, length, map, filter, Option, is_some}
use Rattle.std.specs.List.{flat_map}
use Rattle.events.specs.{Keys.phase_code, declared.event.Event.Event}
use Rattle.events.specs.declared.event.Phase.TheVariants as phase
use Rattle.rows.specs.declared.settings.Dwelling.{Dwelling}
use Rattle.traffic.specs.Day.{Turn, keyed, link_turns, moves_of, turns, after, events_in}
use Rattle.traffic.specs.{Links.link_state, Links.link_moves, Lists.below, Moves.told, Persons.waiters, Rows.World, Setup.Setup}
use Rattle.traffic.specs.declared.{moves.Move.Move, moves.Occurrence.Occurrence, world.Waiter.Waiter}
use Rattle.law_sleeping.specs.Quiet.{link_state_after_all}
use Rattle.queue_link.specs.{Links.LinkView, Numbers.rules_of}
use Rattle.link_seconds.specs.Seconds.{HaveLines, lists_at, line_at, left_after}
use Rattle.calendar.specs.Waking.{wake_of}
use Rattle.node_seconds.specs.Networks.{lane, is_among}
use Rattle.part_links.specs.Links.{LinksStandAt, LinesStandAt, AreAsleep, lies_on, wake_after}

-- WHAT PERSONS HEAR
-- those of these that tell of a person
abbrev pub of_persons : List Occurrence → List Occurrence
of_persons said = filter (λ (e : Occurrence). is_some e.person) said

-- ONE LINK
-- the moves of a link in second t, where these wait at its stops
abbrev pub moves_at : Dwelling → ℕ → List Waiter → LinkView → List Move
moves_at D t ws v = link_moves (rules_of v.numbers D) t v.numbers.link ws (lists_at t v)

-- the turn of the link of number n in second t makes these lists, lines, events and reports of those
pub record IsTurn (lies : ℕ → Bool) (D : Dwelling) (t n : ℕ) (ws : List Waiter) (v w : LinkView) (lines later : List (List Waiter))
    (old_events new_events : List Event) (old_said new_said : List Occurrence) : Type 0 where
  pub link : w ≡ record v { lists = link_state_after_all v.numbers.link (moves_at D t ws v) (lists_at t v); raised = t + 1 }
  pub events : new_events ≡ old_events ++ keyed t (phase_code phase.D) n 0 (flat_map told (moves_at D t ws v))
  pub said : new_said ≡ old_said ++ of_persons (flat_map told (moves_at D t ws v))
  pub waits : HaveLines lies later (left_after (moves_at D t ws v) ws)
  pub others : (stop : ℕ) → lies stop ≡ false → line_at later stop ≡ line_at lines stop

-- SOME OF THEM
-- link l after its turn in second t, by world V
abbrev pub turned : Setup → ℕ → ℕ → World → LinkView → LinkView
turned S t l V v = record v { lists = link_state_after_all l (link_turns S t l V) (link_state l V); raised = t + 1 }

-- what the link of number n tells in its turn, with its keys and without
abbrev pub keyed_by : Setup → ℕ → World → ℕ → List Event
keyed_by S t V n = keyed t (phase_code phase.D) n 0 (flat_map told (link_turns S t n V))

abbrev pub told_by : Setup → ℕ → World → ℕ → List Occurrence
told_by S t V n = flat_map told (link_turns S t n V)

-- those who wait at the stops of link l, once it has had its turn if it is one of these
abbrev pub waiting_behind : Setup → ℕ → ℕ → World → Bool → List Waiter
waiting_behind S t l V true = left_after (link_turns S t l V) (waiters S l V)
waiting_behind S t l V false = waiters S l V

-- The links in these slots have had their turns in second t, by world V, and nobody else: what they make of links, lines, wakes and what
-- was told.
pub record AreTurned (number : ℕ → ℕ) (S : Setup) (end t : ℕ) (V : World) (ks : List ℕ) (old links : List LinkView)
    (lines : List (List Waiter)) (before wakes : List (Option ℕ)) (old_events new_events : List Event)
    (old_said new_said : List Occurrence) : Type 0 where
  pub count : length links ≡ length old
  pub slots : length wakes ≡ length before
  pub done : (k : ℕ) → k < length old → is_among k ks ≡ true → lane links k ≡ turned S t (number k) V (lane old k)
  pub left : (k : ℕ) → is_among k ks ≡ false → lane links k ≡ lane old k
  pub waits : (k : ℕ) → k < length old → HaveLines (lies_on S (number k)) lines (waiting_behind S t (number k) V (is_among k ks))
  pub woken : (k : ℕ) → k < length old → is_among k ks ≡ true → wake_of wakes k ≡ wake_after end t (lane links k)
  pub asleep : (k : ℕ) → is_among k ks ≡ false → wake_of wakes k ≡ wake_of before k
  pub events : new_events ≡ old_events ++ flat_map (λ k. keyed_by S t V (number k)) ks
  pub said : new_said ≡ old_said ++ flat_map (λ k. of_persons (told_by S t V (number k))) ks

-- ALL OF THEM
-- the turns of the links in so many slots, slot by slot
abbrev pub turns_at : (ℕ → ℕ) → ℕ → Setup → ℕ → World → List Turn
turns_at number size S t V = turns S t (link_turns S t) (map number (below size)) V

-- What these turns make of world V in second t: the links and lines stand for the world then, and so does what is told.
pub record IsPhaseBy (number : ℕ → ℕ) (size : ℕ) (us : List Turn) (S : Setup) (end t : ℕ) (V : World) (new_links : List LinkView)
    (new_lines : List (List Waiter)) (wakes : List (Option ℕ)) (old_events new_events : List Event)
    (old_said new_said : List Occurrence) : Type 0 where
  pub links : LinksStandAt number size S (t + 1) new_links (after S t us V)
  pub lines : LinesStandAt number size S new_lines (after S t us V)
  pub asleep : AreAsleep S.settings.dwell end (t + 1) new_links wakes
  pub events : new_events ≡ old_events ++ events_in t phase.D us
  pub said : new_said ≡ old_said ++ of_persons (flat_map told (moves_of us))

-- what the turns of the links in so many slots make of world V in second t
abbrev pub IsPhaseAt : (ℕ → ℕ) → ℕ → Setup → ℕ → ℕ → World → List LinkView → List (List Waiter) → List (Option ℕ) → List Event → List Event
    → List Occurrence → List Occurrence → Type 0
IsPhaseAt number size S end t V links lines wakes old new spoken heard =
    IsPhaseBy number size (turns_at number size S t V) S end t V links lines wakes old new spoken heard
