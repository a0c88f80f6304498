-- What a scorer keeps of the events that it has taken.
use Rattle.std.specs.Prelude.{◌≡◌, ◌≢◌, ℕ, ◌+◌, ◌*◌, ◌<◌, ◌≤◌, true, List, [], ◌∷◌, ◌++◌, map, length, get_or, take, drop, Option, None, Some, ℤ, pos, ◌+ℤ◌}
use Rattle.std.specs.Option.{ForSome}
use Rattle.limits.specs.declared.TheConstants.{LAST_SECOND}
use Rattle.events.specs.declared.event.{Event.Event, Word.Word}
use Rattle.events.specs.declared.event.Word.TheVariants as word
use Rattle.scoring.specs.declared.{TheConstants.MAX_EVENTS, scorer.Doing.Doing, scorer.Scorer.Scorer}
use Rattle.scoring.specs.{Ranges.IsWithin, Tables.ScoringRows, Turns.steps, Turns.InTurn, Turns.tells, Score.Activity, Score.Leg}
use Rattle.scoring.specs.Score.{starts, departures, act_ends, leg_ends, stuck_in, ended, unended, until, spells_worth, rides_worth, lateness_costs, stuck_costs}
use Rattle.scoring.specs.declared.scorer.Doing.TheVariants as doing

-- the kind of the person's first activity
abbrev pub first_kind_of : Scorer → ℕ
first_kind_of scorer = scorer.first_kind

-- an event may be taken behind others: they are few, it is within the day and in turn, and it tells what it is scored by
pub record MayFollow (taken : List Event) (event : Event) : Type 0 where
  pub few : length taken < MAX_EVENTS
  pub in_day : event.key.second ≤ LAST_SECOND
  pub in_turn : InTurn (taken ++ event ∷ [])
  pub told : tells event.word event.more ≡ true

-- each event of a list may be taken behind those before it
abbrev pub AllFollow : List Event → Type 0
AllFollow events = (k : ℕ) → k < length events → (d : Event) → MayFollow (take k events) (get_or events k d)

-- the activity that the person is at, and the leg that he is on
abbrev pub activity_of : Doing → List Activity
activity_of (doing.Activity kind since) = (kind, since) ∷ []
activity_of _ = []

abbrev pub leg_of : Doing → List Leg
leg_of (doing.Leg mode since) = (mode, since) ∷ []
leg_of _ = []

-- the last of the five words, where at first an activity has begun
abbrev pub last_of : Word → List Word → Word
last_of last [] = last
last_of last (next ∷ words) = last_of next words

abbrev pub last_step : List Event → Word
last_step events = last_of word.ActStart (steps events)

-- the last of the five words by what the person is doing
abbrev pub word_of : Doing → Word
word_of (doing.Activity kind since) = word.ActStart
word_of doing.Leaving = word.ActEnd
word_of (doing.Leg mode since) = word.Departure
word_of doing.Arriving = word.Arrival
word_of doing.Stuck = word.StuckAndAbort

-- what activities that started, legs that departed and their ends are worth, without the first activity and one that has not ended,
-- and what each time of being stuck costs
unfoldable pub settled : ScoringRows → ℕ → List Activity → List Leg → List ℕ → List ℕ → List ℕ → ℤ
settled tables first started departed act_ends leg_ends stuck =
    spells_worth tables (drop 1 (map until (ended first started act_ends)))
    +ℤ rides_worth tables departed leg_ends
    +ℤ lateness_costs tables started
    +ℤ stuck_costs tables stuck

-- the most that so many events add to a sum or take from it, of which so many tell of being stuck, in micro-utils
abbrev pub bound_of : ℕ → ℕ → ℤ
bound_of count stuck = pos (1200000000000 * count + 1000000000000 * stuck)

abbrev pub first_of : List ℕ → Option ℕ
first_of [] = None
first_of (n ∷ ns) = Some n

-- What a scorer keeps of the activities that started, the legs that departed, the ends of both, and of being stuck: when the first
-- activity ended, what the person is doing, and what all that has ended is worth, but for the first activity.
pub record Keeps (tables : ScoringRows) (scorer : Scorer) (started : List Activity) (departed : List Leg) (act_ends leg_ends stuck : List ℕ) : Type 0 where
  pub left : scorer.first_end ≡ first_of act_ends
  pub activity : activity_of scorer.doing ≡ unended scorer.first_kind started act_ends
  pub activities : length act_ends + length (activity_of scorer.doing) ≡ length started + 1
  pub leg : leg_of scorer.doing ≡ drop (length leg_ends) departed
  pub legs : length leg_ends + length (leg_of scorer.doing) ≡ length departed
  pub sum : scorer.sum ≡ settled tables scorer.first_kind started departed act_ends leg_ends stuck

-- By these tables the scorer stands for the events that it has taken: they came in turn, and it keeps what they show.
pub record IsTakenBy (tables : ScoringRows) (scorer : Scorer) (events : List Event) : Type 0 where
  pub few : length events ≤ MAX_EVENTS
  pub in_turn : InTurn events
  pub after : last_step events ≡ word_of scorer.doing
  pub free : last_step events ≢ word.StuckAndAbort → stuck_in events ≡ []
  pub once : length (stuck_in events) ≤ 1
  pub left_in_day : ForSome scorer.first_end (λ second. second ≤ LAST_SECOND)
  pub keeps : Keeps tables scorer (starts events) (departures events) (act_ends events) (leg_ends events) (stuck_in events)
  pub bound : IsWithin (bound_of (length events) (length (stuck_in events))) scorer.sum
