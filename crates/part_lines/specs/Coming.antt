-- Who comes to the line of a stop in a second, and what the lines are then.
use Rattle.std.specs.Prelude.{ℕ, ◌<◌, List, [], ◌∷◌, ◌++◌, length, get_or, set, ◌==◌, if◌then◌else◌, Option, None, Some}
use Rattle.rows.specs.declared.plan.Leg.{Leg}
use Rattle.traffic.specs.declared.world.Place.{Place, TheVariants.At, TheVariants.Teleporting, TheVariants.Waiting, TheVariants.Riding, TheVariants.Aborted}
use Rattle.traffic.specs.{declared.world.Person.Person, declared.world.Waiter.Waiter, Rows.nobody, Setup.Setup, Setup.leg_at, Setup.act_after}
use Rattle.link_seconds.specs.Seconds.{line_at}
use Rattle.person_moves.specs.Waiting.{waiter_on}
use Rattle.riders.specs.Waiting.{NobodyIs, AllBefore}

-- a person on this leg, with an activity of this kind after it, where he waits at a stop since second t
abbrev pub came_to : ℕ → ℕ → Leg → ℕ → Place → Option Waiter
came_to t i w kind (At end) = None
came_to t i w kind (Teleporting start) = None
came_to t i w kind (Waiting stop since) = if since == t then waiter_on i w kind stop since else None
came_to t i w kind (Riding vehicle) = None
came_to t i w kind (Aborted link) = None

abbrev pub came : Setup → ℕ → ℕ → Person → Option Waiter
came S t i P = came_to t i (leg_at S i P.element) (act_after S i P.element).kind P.place

-- the lines once he came to the line of his stop
abbrev pub with_one : Option Waiter → List (List Waiter) → List (List Waiter)
with_one None lines = lines
with_one (Some w) lines = set lines w.stop (line_at lines w.stop ++ w ∷ [])

-- the lines once those of these persons came who wait since second t, in this order
unfoldable pub joined_lines : Setup → ℕ → List Person → List ℕ → List (List Waiter) → List (List Waiter)
joined_lines S t persons [] lines = lines
joined_lines S t persons (n ∷ ns) lines = joined_lines S t persons ns (with_one (came S t n (get_or persons n nobody)) lines)

-- there is a line for his stop, and he is none of those in it and comes after them
abbrev pub CanJoin : Option Waiter → List (List Waiter) → Type 0
CanJoin None lines = Unit {0}
CanJoin (Some w) lines = (w.stop < length lines) × NobodyIs w.person (line_at lines w.stop) × AllBefore (line_at lines w.stop) w

-- and so is each of these, once those before him came
unfoldable pub CanAllJoin : Setup → ℕ → List Person → List ℕ → List (List Waiter) → Type 0
CanAllJoin S t persons [] lines = Unit {0}
CanAllJoin S t persons (n ∷ ns) lines =
    (n < length persons) × CanJoin (came S t n (get_or persons n nobody)) lines
    × CanAllJoin S t persons ns (with_one (came S t n (get_or persons n nobody)) lines)
