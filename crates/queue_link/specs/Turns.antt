-- What a second does on a link: its begin, and what is left of it up to each vehicle that halts.
use Rattle.std.specs.Prelude.{◌≡◌, ℕ, Bool, true, false, not, List, [], ◌∷◌, ◌++◌, length, filter, nat_lt, nat_le, if◌then◌else◌, Option, None, Some}
use Rattle.fixed_flow.specs.Flow.{raised_times}
use Rattle.rows.specs.declared.settings.Dwelling.{Dwelling}
use Rattle.traffic.specs.Links.{LinkState, wait_after, is_last, may_pass, from_queue}
use Rattle.traffic.specs.{Moves.told, Stops.calls_on, Telling.starts, Telling.told_removal, Vehicles.VehicleState, declared.moves.Move.Move}
use Rattle.traffic.specs.declared.{moves.Move.TheVariants.Transfer, moves.Move.TheVariants.Remove, moves.Occurrence.Occurrence, numbers.Rules.Rules}
use Rattle.traffic.specs.declared.{stage.Stage.Stage, stage.Stage.TheVariants.Wait, stage.Stage.TheVariants.Bay, world.Row.Row, world.Waiter.Waiter}
use Rattle.law_sleeping.specs.Quiet.{link_state_after}
use Rattle.queue_link.specs.declared.{numbers.LinkNumbers.LinkNumbers, fates.Fate.Fate, fates.Fate.TheVariants.Stops, fates.Fate.TheVariants.Arrives}
use Rattle.queue_link.specs.declared.{fates.Fate.TheVariants.Passes, fates.Fate.TheVariants.Stays, turns.Turn.Turn, turns.Turn.TheVariants.Stop}
use Rattle.queue_link.specs.{declared.turns.Turn.TheVariants.Arrive, declared.turns.Turn.TheVariants.Done, Numbers.rules_of, Numbers.no_dwelling}

-- THE BEGIN
-- whether the second of a row has come
abbrev pub is_due : ℕ → Row → Bool
is_due t r = nat_le r.second t

-- the rows of a bay whose second has not come
abbrev pub left_in_bay : ℕ → List Row → List Row
left_in_bay t bay = filter (λ (r : Row). not (is_due t r)) bay

-- the lists when the bay was left in second t, with the gains of so many seconds
abbrev pub begun : ℕ → ℕ → ℕ → ℕ → LinkState → LinkState
begun gain times t l L = record L { wait = wait_after t l L; bay = left_in_bay t L.bay; credit = raised_times gain times L.credit }

-- WHAT IS LEFT
-- the moves of the queue and of the wait list that are left in a second, where these wait at the link's stops
abbrev pub moves_left : Rules → ℕ → ℕ → List Waiter → LinkState → List Move
moves_left K t l ws L = from_queue K t l ws (length L.buffer) L.credit L.queue L.wait

-- how far a link goes before somebody else has to act: why it stops there, its lists then, and what was told
pub record Outcome : Type 0 where
  pub turn : Turn
  pub lists : LinkState
  pub told : List Occurrence

abbrev pub in_bay : Stage → Bool
in_bay Bay = true
in_bay _ = false

-- what is told of a vehicle that halts at a stop, before it is served: out of the wait list it enters traffic
abbrev pub starts_from : Stage → Row → List Occurrence
starts_from Wait was = starts was
starts_from _ was = []

-- The moves of a link are done and told one by one, until a vehicle halts, which is then on no list: it goes to the bay, and is still
-- to be served; or it arrives, which is told.
unfoldable pub until_halt : ℕ → List Move → LinkState → List Occurrence → Outcome
until_halt l [] L said = record { turn = Done; lists = L; told = said }
until_halt l (Transfer a s k was now ∷ ms) L said =
    if in_bay now.stage
    then record { turn = Stop was.vehicle; lists = link_state_after l (Remove a s k was) L; told = said ++ starts_from s was }
    else until_halt l ms (link_state_after l (Transfer a s k was now) L) (said ++ told (Transfer a s k was now))
until_halt l (Remove a s k was ∷ ms) L said =
    record { turn = Arrive was.vehicle; lists = link_state_after l (Remove a s k was) L; told = said ++ told_removal s was }
until_halt l (m ∷ ms) L said = until_halt l ms (link_state_after l m L) (said ++ told m)

-- how far a link of these numbers goes in second t, whoever waits and however long vehicles stand
abbrev pub goes_on : LinkNumbers → Dwelling → List Waiter → ℕ → LinkState → List Occurrence → Outcome
goes_on n dwell ws t L said = until_halt n.link (moves_left (rules_of n dwell) t n.link ws L) L said

-- FRONTS
abbrev pub fate_by : Bool → Bool → Bool → Fate
fate_by true last pays = Stops
fate_by false true pays = Arrives
fate_by false false true = Passes
fate_by false false false = Stays

-- what comes of a vehicle at the front, with b rows in the buffer
abbrev pub fate_of : LinkNumbers → ℕ → ℕ → VehicleState → Fate
fate_of n b credit v = fate_by (calls_on n.link v) (is_last v) (may_pass (rules_of n no_dwelling) b credit)

-- and of the front of a queue in second t, and of that of a wait list
abbrev pub queue_fate : LinkNumbers → ℕ → ℕ → ℕ → List Row → Fate
queue_fate n t b credit [] = Stays
queue_fate n t b credit (r ∷ rs) = if nat_lt t r.second then Stays else fate_of n b credit r.vehicle

abbrev pub wait_fate : LinkNumbers → ℕ → ℕ → List Row → Fate
wait_fate n b credit [] = Stays
wait_fate n b credit (r ∷ rs) = fate_of n b credit r.vehicle

-- from these lists it goes on at those, or halts there
abbrev pub LeadsTo : LinkNumbers → Dwelling → List Waiter → ℕ → LinkState → List Occurrence → Option Turn → LinkState → List Occurrence
    → Type 0
LeadsTo n dwell ws t L said None M later = goes_on n dwell ws t L said ≡ goes_on n dwell ws t M later
LeadsTo n dwell ws t L said (Some turn) M later = goes_on n dwell ws t L said ≡ record { turn = turn; lists = M; told = later }
