-- When a person has something to do by himself, and who is looked at then.
use Rattle.std.specs.Prelude.{◌≡◌, ℕ, ◌+◌, ◌<◌, ◌≤◌, Bool, true, false, List, [], ◌∷◌, length, get_or, set, nat_lt, if◌then◌else◌, Option, None, Some}
use Rattle.rows.specs.declared.plan.Leg.{Leg}
use Rattle.rows.specs.declared.plan.Leg.TheVariants as leg
use Rattle.traffic.specs.{Rows.nobody, Setup.Setup, Setup.leg_at, declared.moves.Occurrence.Occurrence, declared.world.Person.Person}
use Rattle.traffic.specs.declared.world.Place.{Place, TheVariants.At, TheVariants.Teleporting, TheVariants.Waiting, TheVariants.Riding, TheVariants.Aborted}
use Rattle.calendar.specs.Waking.{wake_of, within}
use Rattle.town.specs.{Views.setup, declared.day_input.DayInput.DayInput}

-- the seconds of a leg, where it is teleported
abbrev pub seconds_of : Leg → Option ℕ
seconds_of (leg.Car route) = None
seconds_of (leg.Teleport mode seconds) = Some seconds
seconds_of (leg.Transit line access egress) = None

-- so many seconds after the start
abbrev pub lands_in : ℕ → Option ℕ → Option ℕ
lands_in start None = None
lands_in start (Some seconds) = Some (start + seconds)

-- the second in which a person at this place, on this leg, has something to do by himself: his activity or his teleported leg ends
abbrev pub due_at_place : Leg → Place → Option ℕ
due_at_place w (At end) = end
due_at_place w (Teleporting start) = lands_in start (seconds_of w)
due_at_place w (Waiting stop since) = None
due_at_place w (Riding vehicle) = None
due_at_place w (Aborted link) = None

-- whether a person at this place rides
abbrev pub is_riding : Place → Bool
is_riding (At end) = false
is_riding (Teleporting start) = false
is_riding (Waiting stop since) = false
is_riding (Riding vehicle) = true
is_riding (Aborted link) = false

abbrev pub person_due : Setup → ℕ → Person → Option ℕ
person_due S i P = due_at_place (leg_at S i P.element) P.place

-- a person of these is looked at in his second of the day, where he has one
abbrev pub followed_one : Setup → ℕ → List Person → ℕ → List (Option ℕ) → List (Option ℕ)
followed_one S end persons i wakes =
    if nat_lt i (length persons) then set wakes i (within end (person_due S i (get_or persons i nobody))) else wakes

abbrev pub followed : Setup → ℕ → List Person → Option ℕ → List (Option ℕ) → List (Option ℕ)
followed S end persons None wakes = wakes
followed S end persons (Some i) wakes = followed_one S end persons i wakes

-- so are all who are told of
unfoldable pub followed_all : Setup → ℕ → List Person → List Occurrence → List (Option ℕ) → List (Option ℕ)
followed_all S end persons [] wakes = wakes
followed_all S end persons (e ∷ es) wakes = followed_all S end persons es (followed S end persons e.person wakes)

-- each person who has something to do by himself in a second from t on, before the end, is looked at in it
abbrev pub AreFollowed : Setup → ℕ → ℕ → List Person → List (Option ℕ) → Type 0
AreFollowed S end t persons wakes =
    (i u : ℕ) → i < length persons → t ≤ u → u < end → person_due S i (get_or persons i nobody) ≡ Some u → wake_of wakes i ≡ Some u

-- the same in a day
abbrev pub AreFollowedIn : DayInput → ℕ → List Person → List (Option ℕ) → Type 0
AreFollowedIn day t persons wakes = AreFollowed (setup day) day.town.now.settings.end_second t persons wakes

-- in a day everybody who is told of is looked at when it is his time
abbrev pub followed_in : DayInput → List Person → List Occurrence → List (Option ℕ) → List (Option ℕ)
followed_in day persons said wakes = followed_all (setup day) day.town.now.settings.end_second persons said wakes
