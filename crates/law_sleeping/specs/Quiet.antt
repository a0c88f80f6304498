-- When a link has nothing to do but to gain credit, until when that lasts, and what ends it.
use Rattle.std.specs.{List.AllByRecursion as Each, Prelude.◌≡◌, Prelude.◌≢◌, Prelude.ℕ, Prelude.◌+◌}
use Rattle.std.specs.Prelude.{◌<◌, ◌≤◌, ◌⊎◌, Bool, true, false, not, ◌&&◌, ◌||◌, List, [], ◌∷◌, length, ◌-◌, ◌==◌, nat_le, if◌then◌else◌, Option, None, Some}
use Rattle.fixed_flow.specs.{Flow.raised, Flow.raised_times, Link.ceiling, declared.TheConstants.VEHICLE_COST}
use Rattle.traffic.specs.{Links.LinkState, Links.is_last, Links.may_pass, Lists.is_nil, Moves.same, Moves.at_after, Moves.credit_after, Rows.on, Stops.calls_on}
use Rattle.traffic.specs.declared.moves.Move.{Move, TheVariants.Transfer, TheVariants.Remove, TheVariants.Enter, TheVariants.Credit}
use Rattle.traffic.specs.declared.{numbers.Rules.Rules, stage.Stage.Stage, stage.Stage.TheVariants.Queue, stage.Stage.TheVariants.Buffer}
use Rattle.traffic.specs.declared.{stage.Stage.TheVariants.Wait, stage.Stage.TheVariants.Bay, world.Row.Row}

-- whether a row at the front leaves: it is served, arrives, or passes with this credit into a buffer of b rows
abbrev pub can_leave : Rules → ℕ → ℕ → ℕ → Row → Bool
can_leave K l b credit r = calls_on l r.vehicle || (is_last r.vehicle || may_pass K b credit)

-- whether the front of a queue leaves in second t, and whether that of a wait list does
abbrev pub queue_goes : Rules → ℕ → ℕ → ℕ → ℕ → List Row → Bool
queue_goes K t l b credit [] = false
queue_goes K t l b credit (r ∷ rs) = nat_le r.second t && can_leave K l b credit r

abbrev pub wait_goes : Rules → ℕ → ℕ → ℕ → List Row → Bool
wait_goes K l b credit [] = false
wait_goes K l b credit (r ∷ rs) = can_leave K l b credit r

-- in second t no vehicle leaves the bay, the queue or the wait list
pub record IsQuiet (K : Rules) (t l : ℕ) (L : LinkState) : Type 0 where
  pub bay : Each (λ (r : Row). t < r.second) L.bay
  pub queue : queue_goes K t l (length L.buffer) (raised K.gain L.credit) L.queue ≡ false
  pub wait : wait_goes K l (length L.buffer) (raised K.gain L.credit) L.wait ≡ false

-- after second t, in all seconds before this one the credit does not pay for a vehicle
abbrev pub IsPoor : ℕ → ℕ → ℕ → ℕ → Type 0
IsPoor gain t due credit = (k : ℕ) → 0 < k → t + k < due → raised_times gain k credit < VEHICLE_COST

-- The front neither stops here nor arrives, and is held up: for want of room, which is told by the mark, or of credit.
abbrev pub IsHeld : Rules → Bool → ℕ → ℕ → ℕ → ℕ → ℕ → Row → Type 0
IsHeld K blocked t due l b credit r =
    (calls_on l r.vehicle ≡ false) × (is_last r.vehicle ≡ false) × (((blocked ≡ true) × (K.room ≤ b)) ⊎ IsPoor K.gain t due credit)

abbrev pub QueueSleeps : Rules → Bool → ℕ → ℕ → ℕ → ℕ → ℕ → List Row → Type 0
QueueSleeps K blocked t due l b credit [] = Unit {0}
QueueSleeps K blocked t due l b credit (r ∷ rs) = (due ≤ r.second) ⊎ IsHeld K blocked t due l b credit r

abbrev pub WaitSleeps : Rules → Bool → ℕ → ℕ → ℕ → ℕ → ℕ → List Row → Type 0
WaitSleeps K blocked t due l b credit [] = Unit {0}
WaitSleeps K blocked t due l b credit (r ∷ rs) = IsHeld K blocked t due l b credit r

-- After second t the link has nothing to do before second due, as long as nobody else does anything; its credit is that after second t,
-- and the mark is set where a front waits for room.
pub record Sleeps (K : Rules) (blocked : Bool) (t due l : ℕ) (L : LinkState) : Type 0 where
  pub bay : Each (λ (r : Row). due ≤ r.second) L.bay
  pub queue : QueueSleeps K blocked t due l (length L.buffer) L.credit L.queue
  pub wait : WaitSleeps K blocked t due l (length L.buffer) L.credit L.wait

-- the link after k more seconds in which nothing but the credit changed
abbrev pub rested : Rules → ℕ → LinkState → LinkState
rested K k L = record L { credit = raised_times K.gain k L.credit }

-- the lists of link l after a move
abbrev pub link_state_after : ℕ → Move → LinkState → LinkState
link_state_after l m L =
    record {
      queue = at_after l Queue m L.queue;
      buffer = at_after l Buffer m L.buffer;
      wait = at_after l Wait m L.wait;
      bay = at_after l Bay m L.bay;
      credit = credit_after l m L.credit;
    }

abbrev pub link_state_after_all : ℕ → List Move → LinkState → LinkState
link_state_after_all l [] L = L
link_state_after_all l (m ∷ ms) L = link_state_after_all l ms (link_state_after l m L)

-- a row is taken from link a at stage z: if it is this link then out of the buffer, and none of its fronts waits for room
abbrev pub TakesAside : ℕ → Bool → ℕ → Stage → Type 0
TakesAside l blocked a z = (same l Queue a z ≡ false) × (same l Wait a z ≡ false) × (same l Bay a z ≡ false)
    × (same l Buffer a z ≡ true → blocked ≡ false)

-- a row comes: if to this link then behind another one, or it has nothing to do there before second due
abbrev pub ComesAside : ℕ → ℕ → LinkState → Row → Type 0
ComesAside l due L now =
    (on l Queue now ≡ true → (L.queue ≢ []) ⊎ (due ≤ now.second)) × (on l Wait now ≡ true → L.wait ≢ [])
    × (on l Bay now ≡ true → due ≤ now.second)

-- a move that does not wake the link
abbrev pub IsAside : Bool → ℕ → ℕ → LinkState → Move → Type 0
IsAside blocked due l L (Transfer a z k was now) = TakesAside l blocked a z × ComesAside l due L now
IsAside blocked due l L (Remove a z k was) = TakesAside l blocked a z
IsAside blocked due l L (Enter now) = ComesAside l due L now
IsAside blocked due l L (Credit a c) = a ≢ l
IsAside blocked due l L _ = Unit {0}

abbrev pub AreAside : Bool → ℕ → ℕ → LinkState → List Move → Type 0
AreAside blocked due l L [] = Unit {0}
AreAside blocked due l L (m ∷ ms) = IsAside blocked due l L m × AreAside blocked due l (link_state_after l m L) ms

-- after its turn in second t a link lets nobody else go in that second
pub record IsSettled (K : Rules) (t l : ℕ) (L : LinkState) : Type 0 where
  pub bay : Each (λ (r : Row). t < r.second) L.bay
  pub queue : queue_goes K t l (length L.buffer) L.credit L.queue ≡ false
  pub wait : wait_goes K l (length L.buffer) L.credit L.wait ≡ false

-- Until when a held front waits after second t: for room it waits until a row leaves the buffer, and for credit until it pays, which it
-- never
-- does where nothing is gained.
abbrev pub held_due : Rules → ℕ → ℕ → ℕ → Option ℕ
held_due K t b credit =
    if nat_le K.room b then None
    else if K.gain == 0 then None
    else Some (t + ceiling (VEHICLE_COST - credit) K.gain)

abbrev pub queue_due : Rules → ℕ → ℕ → ℕ → List Row → Option ℕ
queue_due K t b credit [] = None
queue_due K t b credit (r ∷ rs) = if nat_le r.second t then held_due K t b credit else Some r.second

abbrev pub wait_due : Rules → ℕ → ℕ → ℕ → List Row → Option ℕ
wait_due K t b credit [] = None
wait_due K t b credit (r ∷ rs) = held_due K t b credit

-- a second not after this one, where there is one
abbrev pub IsBy : ℕ → Option ℕ → Type 0
IsBy due None = Unit {0}
IsBy due (Some u) = due ≤ u

-- a second not after the least one at which a front of a settled link, or a row of its bay, may go
pub record IsDue (K : Rules) (t due : ℕ) (L : LinkState) : Type 0 where
  pub bay : Each (λ (r : Row). due ≤ r.second) L.bay
  pub queue : IsBy due (queue_due K t (length L.buffer) L.credit L.queue)
  pub wait : IsBy due (wait_due K t (length L.buffer) L.credit L.wait)

-- the mark: the buffer has no room, and a front waits
abbrev pub has_come : ℕ → List Row → Bool
has_come t [] = false
has_come t (r ∷ rs) = nat_le r.second t

abbrev pub is_blocked : Rules → ℕ → LinkState → Bool
is_blocked K t L = nat_le K.room (length L.buffer) && (has_come t L.queue || not (is_nil L.wait))
