-- The score of a person's day: a sum over what his events show.
use Rattle.std.specs.Prelude.{ℕ, ◌+◌, ◌-◌, nat_eq, List, [], ◌∷◌, ◌++◌, map, length, drop, Option, None, Some, if◌then◌else◌, ℤ, pos, ◌+ℤ◌, ◌*ℤ◌}
use Rattle.std.specs.List.{filter_map, zip}
use Rattle.events.specs.declared.event.{Event.Event, Mode.Mode, More.More, Word.Word}
use Rattle.events.specs.declared.event.More.TheVariants as more
use Rattle.events.specs.declared.event.Word.TheVariants as word
use Rattle.scoring.specs.{Tables.ScoringRows, Tables.activity_worth, Tables.leg_worth, Tables.seconds_late, declared.TheConstants.SCORING_DAY}

-- an activity that has begun: its kind, and since when; a leg that has begun: its mode, and since when
abbrev pub Activity : Type 0
Activity = ℕ × ℕ

abbrev pub Leg : Type 0
Leg = Mode × ℕ

-- the activity that an event starts
abbrev pub started : Word → More → ℕ → Option Activity
started word.ActStart (more.Kind kind) second = Some (kind, second)
started _ _ second = None

-- the leg that departs
abbrev pub departed : Word → More → ℕ → Option Leg
departed word.Departure (more.Mode mode) second = Some (mode, second)
departed _ _ second = None

-- when an activity ends, when a leg ends (it arrives or is stuck), and when a person is stuck
abbrev pub act_ended : Word → ℕ → Option ℕ
act_ended word.ActEnd second = Some second
act_ended _ second = None

abbrev pub leg_ended : Word → ℕ → Option ℕ
leg_ended word.Arrival second = Some second
leg_ended word.StuckAndAbort second = Some second
leg_ended _ second = None

abbrev pub got_stuck : Word → ℕ → Option ℕ
got_stuck word.StuckAndAbort second = Some second
got_stuck _ second = None

-- the activities that the events start, the legs, the ends of activities and of legs, and the seconds in which the person was stuck
unfoldable pub starts : List Event → List Activity
starts events = filter_map (λ (e : Event). started e.word e.more e.key.second) events

unfoldable pub departures : List Event → List Leg
departures events = filter_map (λ (e : Event). departed e.word e.more e.key.second) events

unfoldable pub act_ends : List Event → List ℕ
act_ends events = filter_map (λ (e : Event). act_ended e.word e.key.second) events

unfoldable pub leg_ends : List Event → List ℕ
leg_ends events = filter_map (λ (e : Event). leg_ended e.word e.key.second) events

unfoldable pub stuck_in : List Event → List ℕ
stuck_in events = filter_map (λ (e : Event). got_stuck e.word e.key.second) events

-- all activities of the day, by those that events start: the first one began at 0, and no event starts it
abbrev pub activities : ℕ → List Activity → List Activity
activities first started = (first, 0) ∷ started

-- those that have ended, each with its end, and those that have not
abbrev pub ended : ℕ → List Activity → List ℕ → List (Activity × ℕ)
ended first started ends = zip (activities first started) ends

abbrev pub unended : ℕ → List Activity → List ℕ → List Activity
unended first started ends = drop (length ends) (activities first started)

-- a kind of activity and how many seconds it took
abbrev pub Spell : Type 0
Spell = ℕ × ℕ

abbrev pub until : Activity × ℕ → Spell
until a = (a.0.0, a.1 - a.0.1)

-- an activity that has not ended lasts until the end of the scoring day
abbrev pub until_midnight : Activity → Spell
until_midnight a = (a.0, SCORING_DAY - a.1)

-- Where the first activity was left, the person was not stuck and is at an activity of the first one's kind, the two are one:
-- over midnight, from the start of the last one to the end of the first one.
abbrev pub over_midnight : ℕ → List ℕ → List Activity → List ℕ → Option Spell
over_midnight first (left ∷ _) (last ∷ _) [] = if nat_eq last.0 first then Some (first, SCORING_DAY + left - last.1) else None
over_midnight first _ _ _ = None

abbrev pub with_night : Option Spell → List Spell → List Spell → List Spell
with_night (Some night) ended unended = night ∷ drop 1 ended
with_night None ended unended = ended ++ unended

-- how long the person was at activities, and of which kinds
abbrev pub spells : ℕ → List Activity → List ℕ → List ℕ → List Spell
spells first started ends stuck =
    with_night (over_midnight first ends (unended first started ends) stuck)
    (map until (ended first started ends)) (map until_midnight (unended first started ends))

-- a sum of whole numbers
unfoldable pub total : List ℤ → ℤ
total [] = pos 0
total (z ∷ zs) = z +ℤ total zs

-- what spells at activities are worth
abbrev pub spell_worth : ScoringRows → Spell → ℤ
spell_worth tables spell = activity_worth tables.tables spell.0 spell.1

abbrev pub spells_worth : ScoringRows → List Spell → ℤ
spells_worth tables spells = total (map (spell_worth tables) spells)

-- what legs that have ended are worth, each by its mode
abbrev pub ride_worth : ScoringRows → Leg × ℕ → ℤ
ride_worth tables leg = leg_worth tables.modes leg.0.0 (leg.1 - leg.0.1)

abbrev pub rides_worth : ScoringRows → List Leg → List ℕ → ℤ
rides_worth tables departed ends = total (map (ride_worth tables) (zip departed ends))

-- what it costs that activities started late
abbrev pub lateness_cost : ScoringRows → Activity → ℤ
lateness_cost tables a = tables.late_per_second *ℤ pos (seconds_late tables.tables a.0 a.1)

abbrev pub lateness_costs : ScoringRows → List Activity → ℤ
lateness_costs tables started = total (map (lateness_cost tables) started)

-- what it costs to be stuck, so many times
abbrev pub stuck_costs : ScoringRows → List ℕ → ℤ
stuck_costs tables stuck = total (map (λ _. tables.stuck) stuck)

-- The score of a person whose first activity is of the kind `first`, in micro-utils: what his activities are worth and what his legs are
-- worth, and what he pays for being late at activities and for being stuck.
unfoldable pub score : ScoringRows → ℕ → List Event → ℤ
score tables first events =
    spells_worth tables (spells first (starts events) (act_ends events) (stuck_in events))
    +ℤ rides_worth tables (departures events) (leg_ends events)
    +ℤ lateness_costs tables (starts events)
    +ℤ stuck_costs tables (stuck_in events)
