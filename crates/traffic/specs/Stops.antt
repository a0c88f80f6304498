-- The service of a stop: who alights, who boards, and until when the vehicle stays.
use Rattle.std.specs.List.{list_any}
use Rattle.std.specs.Prelude.{◌≡◌, ◌<◌, ◌≤◌, ◌⊎◌, ℕ, ◌+◌, ◌-◌, ◌*◌, max, Bool, true, false, not, ◌&&◌, ◌||◌, List, [], ◌∷◌, ◌++◌, length, map, filter, take}
use Rattle.std.specs.Prelude.{drop, get_or, ◌==◌, nat_lt, if◌then◌else◌, Option, None, Some}
use Rattle.events.specs.declared.lists.StopCall.{StopCall}
use Rattle.traffic.specs.declared.{riders.Rider.Rider, stage.Stage.TheVariants.Bay}
pub use Rattle.traffic.specs.declared.world.Waiter.{Waiter}
use Rattle.rows.specs.{Stops.calls_at, declared.settings.Dwelling.Dwelling}
use Rattle.traffic.specs.Rows.{VehicleState, Row}

-- the call of this number
abbrev pub call_at : List StopCall → ℕ → StopCall
call_at calls k = get_or calls k (record { stop = 0; link = 0; offset = 0; wait = false })

-- the next unserved call
abbrev pub next_call : VehicleState → StopCall
next_call v = call_at v.calls v.served

-- whether there is a next unserved call and it lies on this link
abbrev pub calls_on : ℕ → VehicleState → Bool
calls_on l v = nat_lt v.served (length v.calls) && ((next_call v).link == l)

-- a rider alights where his egress stop is the one that is served
abbrev pub is_egress : ℕ → Option ℕ → Bool
is_egress stop None = false
is_egress stop (Some egress) = egress == stop

abbrev pub alights : ℕ → Rider → Bool
alights stop r = is_egress stop r.egress

-- those who alight at a stop, and those who stay, in rider order
abbrev pub alighting : ℕ → List Rider → List Rider
alighting stop riders = filter (alights stop) riders

abbrev pub staying : ℕ → List Rider → List Rider
staying stop riders = filter (λ r. not (alights stop r)) riders

-- who waits here may board where the line is his and his egress stop is among those that are still unserved
abbrev pub may_board : VehicleState → Waiter → Bool
may_board v w = (w.stop == (next_call v).stop) && (w.line == v.line) && calls_at w.egress (drop (v.served + 1) v.calls)

-- who comes first: by the second since when they wait, then by number
abbrev pub comes_first : Waiter → Waiter → Bool
comes_first a b = nat_lt a.since b.since || ((a.since == b.since) && nat_lt a.person b.person)

-- the first comes no later than the second: he waits since an earlier second, or since the same one and his number is no higher
abbrev pub ComesBefore : Waiter → Waiter → Type 0
ComesBefore a b = (a.since < b.since) ⊎ ((a.since ≡ b.since) × (a.person ≤ b.person))

-- the list with one more who waits, before the first one who comes after
unfoldable pub among : Waiter → List Waiter → List Waiter
among w [] = w ∷ []
among w (x ∷ xs) = if comes_first w x then w ∷ x ∷ xs else x ∷ among w xs

-- those who wait, in the order in which they come
unfoldable pub in_turn : List Waiter → List Waiter
in_turn [] = []
in_turn (w ∷ ws) = among w (in_turn ws)

-- those who board: of those who may, the first ones, while fewer ride than there are seats
unfoldable pub boarding : VehicleState → List Waiter → List Waiter
boarding v waiters = take (v.seats - length (staying (next_call v).stop v.riders)) (in_turn (filter (may_board v) waiters))

abbrev pub is_person : ℕ → Waiter → Bool
is_person i w = w.person == i

-- the others keep their places
unfoldable pub left_behind : VehicleState → List Waiter → List Waiter
left_behind v waiters = filter (λ w. not (list_any (is_person w.person) (boarding v waiters))) waiters

-- who waited, as a rider
abbrev pub rider : Waiter → Rider
rider w = record { person = w.person; egress = Some w.egress; kind = w.kind }

-- the riders after the stop
unfoldable pub riders_after : VehicleState → List Waiter → List Rider
riders_after v waiters = staying (next_call v).stop v.riders ++ map rider (boarding v waiters)

-- the seconds that the vehicle stands: those in any case, and those of each who alights and who boards, at least one
abbrev pub stand : Dwelling → ℕ → ℕ → ℕ
stand D alighted boarded = max 1 (D.per_stop + D.per_alight * alighted + D.per_board * boarded)

-- and where the call says so it waits for the second that the schedule gives
abbrev pub not_before : StopCall → ℕ → ℕ → ℕ
not_before call departed second = if call.wait then max second (departed + call.offset) else second

-- the second in which the vehicle, served in second t, may go on
unfoldable pub stays_until : Dwelling → ℕ → VehicleState → List Waiter → ℕ
stays_until D t v waiters =
    let call = next_call v in
    not_before call v.departed (t + stand D (length (alighting call.stop v.riders)) (length (boarding v waiters)))

-- the vehicle after its next call is served
unfoldable pub served_vehicle : VehicleState → List Waiter → VehicleState
served_vehicle v waiters = record v { started = true; riders = riders_after v waiters; served = v.served + 1 }

-- its row in the bay of link l
abbrev pub served_row : Dwelling → ℕ → ℕ → List Waiter → VehicleState → Row
served_row D t l waiters v = record { vehicle = served_vehicle v waiters; link = l; stage = Bay; second = stays_until D t v waiters }
