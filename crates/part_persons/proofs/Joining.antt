-- The phases in which persons land and leave and departures start look at persons alone: in a world with the same persons they tell the
-- same, and let the same vehicles in.
use Rattle.traffic.proofs.Common.{◌≡◌, ℕ, ◌<◌, List, ◌∙◌, ap, refl, sym, subst, [], ◌∷◌, ◌++◌, length, append-nil, append_assoc, map, All-from_recursion, Event}
use Rattle.traffic.proofs.Common.{after, events_in, turns, turns_of, turns_in, TurnMoves, count_of, through, told_in, run, done, World, Setup, person_of}
use Rattle.traffic.proofs.Common.{sets_out, landing_moves, leaving_moves, departure_moves, Leg, Act, leg_at, act_after, below}
use Rattle.traffic.proofs.{Each.each_append, Walks.flight_walk, Walks.leave_walk, Walks.departure_walk}
use Rattle.traffic.specs.{Rows.nobody, declared.moves.Move.Move}
use Rattle.traffic.specs.declared.moves.Move.TheVariants.{Transfer, Remove, Enter, SetFrontSince, Credit, LeaveHole, Report}
use Rattle.traffic.specs.declared.{stage.Stage.TheVariants.Wait, world.Hole.Hole, world.Person.Person, world.Row.Row}
use Rattle.std.{proofs.Common.get_or, specs.List.AllByRecursion as Each, specs.List.All}
use Rattle.rows.specs.declared.plan.Leg.TheVariants as leg
use Rattle.law_in_range.specs.Rows.{Counts, IsFitWorld, IsFitRow, IsFitPerson}
use Rattle.part_persons.{proofs.InOrder.after_more, specs.Phases.phase_of, specs.Phases.joined}
use Rattle.part_persons.specs.declared.phases.EarlyPhase.{EarlyPhase, TheVariants.Land, TheVariants.Leave, TheVariants.Start}

-- A MOVE
-- a vehicle that is let in stands last in a wait list
pub record AtStart (r : Row) : Type 0 where
  pub stage : r.stage ≡ Wait
  pub second : r.second ≡ 0

-- it tells, or lets a vehicle in
pub IsEarly : Move → Type 0
IsEarly (Enter now) = AtStart now
IsEarly (Report says) = Unit {0}
IsEarly (Transfer l s k was now) = ⊥
IsEarly (Remove l s k was) = ⊥
IsEarly (SetFrontSince l t) = ⊥
IsEarly (Credit l c) = ⊥
IsEarly (LeaveHole l t) = ⊥

pub AreEarly : List Move → Type 0
AreEarly [] = Unit {0}
AreEarly (m ∷ ms) = IsEarly m × AreEarly ms

joined_done : (S : Setup) (t : ℕ) (m : Move) (W P : World) → IsEarly m → done S t m (joined W P) ≡ joined W (done S t m P)
unfolding IsEarly
joined_done S t (Enter now) W P h =
    let Q = done S t (Enter now) P in
    ap (λ (rs : List Row). (let X : World = record { rows = rs; persons = Q.persons; credits = W.credits; holes = W.holes } in X))
    (append_assoc W.rows P.rows (now ∷ []))
joined_done S t (Report says) W P h = refl
joined_done S t (Transfer l s k was now) W P h = absurd h
joined_done S t (Remove l s k was) W P h = absurd h
joined_done S t (SetFrontSince l u) W P h = absurd h
joined_done S t (Credit l c) W P h = absurd h
joined_done S t (LeaveHole l u) W P h = absurd h

joined_run : (S : Setup) (t : ℕ) (ms : List Move) (W P : World) → AreEarly ms → run S t ms (joined W P) ≡ joined W (run S t ms P)
unfolding AreEarly
joined_run S t [] W P h = refl
joined_run S t (m ∷ ms) W P h = ap (run S t ms) (joined_done S t m W P h.0) ∙ joined_run S t ms W (done S t m P) h.1

-- THE TURNS OF A PHASE
pub record LooksAtPersons (plan : TurnMoves) : Type 0 where
  pub looks : (n : ℕ) (W P : World) → plan n (joined W P) ≡ plan n P
  pub early : (n : ℕ) (P : World) → AreEarly (plan n P)

pub joined_turns : (S : Setup) (t : ℕ) (plan : TurnMoves) (ns : List ℕ) (W P : World) → LooksAtPersons plan
    → turns S t plan ns (joined W P) ≡ turns S t plan ns P
unfolding turns
joined_turns S t plan [] W P h = refl
joined_turns S t plan (n ∷ ns) W P h =
    let next = run S t (plan n P) P in
    ap (λ (ms : List Move). (record { number = n; moves = ms }) ∷ turns S t plan ns (run S t ms (joined W P))) (h.looks n W P)
    ∙ ap (λ (X : World). (record { number = n; moves = plan n P }) ∷ turns S t plan ns X) (joined_run S t (plan n P) W P (h.early n P))
    ∙ ap (λ us. (record { number = n; moves = plan n P }) ∷ us) (joined_turns S t plan ns W next h)

pub joined_after : (S : Setup) (t : ℕ) (plan : TurnMoves) (ns : List ℕ) (W P : World) → LooksAtPersons plan
    → after S t (turns S t plan ns P) (joined W P) ≡ joined W (after S t (turns S t plan ns P) P)
unfolding turns
joined_after S t plan [] W P h = refl
joined_after S t plan (n ∷ ns) W P h =
    let next = run S t (plan n P) P in
    let us = turns S t plan ns next in
    after_more S t (record { number = n; moves = plan n P }) us (joined W P)
    ∙ ap (after S t us) (joined_run S t (plan n P) W P (h.early n P))
    ∙ joined_after S t plan ns W next h
    ∙ ap (joined W) (sym (after_more S t (record { number = n; moves = plan n P }) us P))

-- THE PHASES
early_setting_out : (S : Setup) (i : ℕ) (w : Leg) (next : Act) → AreEarly (sets_out S i w next)
unfolding AreEarly IsEarly
early_setting_out S i (leg.Car route) next = (record { stage = refl; second = refl }, tt)
early_setting_out S i (leg.Teleport mode seconds) next = tt
early_setting_out S i (leg.Transit line access egress) next = (tt, tt)

early_landing : (S : Setup) (t i : ℕ) (P : Person) → AreEarly (landing_moves S t i P)
unfolding AreEarly IsEarly
early_landing S t i P = flight_walk AreEarly S t i P tt (λ mode seconds start p w e. (tt, tt))

early_leaving : (S : Setup) (t i : ℕ) (P : Person) → AreEarly (leaving_moves S t i P)
unfolding AreEarly IsEarly
early_leaving S t i P = leave_walk AreEarly S t i P tt (λ e. (tt, early_setting_out S i (leg_at S i P.element) (act_after S i P.element)))

early_departure : (S : Setup) (t d : ℕ) → AreEarly (departure_moves S t d)
unfolding AreEarly IsEarly
early_departure S t d = departure_walk AreEarly S t d tt (λ e. (record { stage = refl; second = refl }, tt))

pub early_phase : (S : Setup) (t : ℕ) (p : EarlyPhase) → LooksAtPersons (turns_of S t (phase_of p))
unfolding turns_of
early_phase S t Land = record { looks = λ n W P. refl; early = λ n P. early_landing S t n (person_of n P) }
early_phase S t Leave = record { looks = λ n W P. refl; early = λ n P. early_leaving S t n (person_of n P) }
early_phase S t Start = record { looks = λ n W P. refl; early = λ n P. early_departure S t n }

joined_phase : (S : Setup) (t : ℕ) (p : EarlyPhase) (W P : World)
    → after S t (turns_in S t (phase_of p) (joined W P)) (joined W P) ≡ joined W (after S t (turns_in S t (phase_of p) P) P)
unfolding turns_in
joined_phase S t p W P =
    let h = early_phase S t p in
    let ns = below (count_of S (phase_of p)) in
    ap (λ us. after S t us (joined W P)) (joined_turns S t (turns_of S t (phase_of p)) ns W P h)
    ∙ joined_after S t (turns_of S t (phase_of p)) ns W P h

joined_events : (S : Setup) (t : ℕ) (p : EarlyPhase) (W P : World)
    → events_in t (phase_of p) (turns_in S t (phase_of p) (joined W P)) ≡ events_in t (phase_of p) (turns_in S t (phase_of p) P)
unfolding turns_in
joined_events S t p W P =
    ap (λ us. events_in t (phase_of p) us)
    (joined_turns S t (turns_of S t (phase_of p)) (below (count_of S (phase_of p))) W P (early_phase S t p))

-- these phases, one after the other
pub joined_through : (S : Setup) (t : ℕ) (ps : List EarlyPhase) (W P : World)
    → through S t (map phase_of ps) (joined W P) ≡ joined W (through S t (map phase_of ps) P)
unfolding through
joined_through S t [] W P = refl
joined_through S t (p ∷ ps) W P =
    ap (through S t (map phase_of ps)) (joined_phase S t p W P)
    ∙ joined_through S t ps W (after S t (turns_in S t (phase_of p) P) P)

pub joined_told : (S : Setup) (t : ℕ) (ps : List EarlyPhase) (W P : World) → told_in S t (map phase_of ps) (joined W P) ≡ told_in S t (map phase_of ps) P
unfolding told_in
joined_told S t [] W P = refl
joined_told S t (p ∷ ps) W P =
    let next = after S t (turns_in S t (phase_of p) P) P in
    ap (λ (xs : List Event). xs ++ told_in S t (map phase_of ps) (after S t (turns_in S t (phase_of p) (joined W P)) (joined W P))) (joined_events S t p W P)
    ∙ ap (λ (X : World). events_in t (phase_of p) (turns_in S t (phase_of p) P) ++ told_in S t (map phase_of ps) X) (joined_phase S t p W P)
    ∙ ap (λ (xs : List Event). events_in t (phase_of p) (turns_in S t (phase_of p) P) ++ xs) (joined_told S t ps W next)

-- WHO IS LET IN
entered_run : (S : Setup) (t : ℕ) (ms : List Move) (P : World) → AreEarly ms → Each AtStart P.rows → Each AtStart (run S t ms P).rows
unfolding AreEarly IsEarly
entered_run S t [] P h g = g
entered_run S t (Enter now ∷ ms) P h g =
    entered_run S t ms (done S t (Enter now) P) h.1 (each_append AtStart P.rows (now ∷ []) g (h.0, tt))
entered_run S t (Report says ∷ ms) P h g = entered_run S t ms (done S t (Report says) P) h.1 g
entered_run S t (Transfer l s k was now ∷ ms) P h g = absurd h.0
entered_run S t (Remove l s k was ∷ ms) P h g = absurd h.0
entered_run S t (SetFrontSince l u ∷ ms) P h g = absurd h.0
entered_run S t (Credit l c ∷ ms) P h g = absurd h.0
entered_run S t (LeaveHole l u ∷ ms) P h g = absurd h.0

pub entered_after : (S : Setup) (t : ℕ) (plan : TurnMoves) (ns : List ℕ) (P : World) → LooksAtPersons plan → Each AtStart P.rows
    → Each AtStart (after S t (turns S t plan ns P) P).rows
unfolding turns
entered_after S t plan [] P h g = g
entered_after S t plan (n ∷ ns) P h g =
    let next = run S t (plan n P) P in
    subst (λ (X : World). Each AtStart X.rows) (sym (after_more S t (record { number = n; moves = plan n P }) (turns S t plan ns next) P))
    (entered_after S t plan ns next h (entered_run S t (plan n P) P (h.early n P) g))

-- the vehicles that these phases let in stand last in wait lists
pub entered_through : (S : Setup) (t : ℕ) (ps : List EarlyPhase) (P : World) → Each AtStart P.rows → Each AtStart (through S t (map phase_of ps) P).rows
unfolding through turns_in
entered_through S t [] P g = g
entered_through S t (p ∷ ps) P g =
    let ns = below (count_of S (phase_of p)) in
    entered_through S t ps (after S t (turns_in S t (phase_of p) P) P) (entered_after S t (turns_of S t (phase_of p)) ns P (early_phase S t p) g)

-- a world is joined with its own persons, while no vehicle of theirs waits to be put on a link
pub joined_none : (W P : World) → P.persons ≡ W.persons → P.rows ≡ [] → joined W P ≡ W
joined_none W P e r =
    ap (λ (rs : List Row). (let X : World = record { rows = W.rows ++ rs; persons = P.persons; credits = W.credits; holes = W.holes } in X)) r
    ∙ ap (λ (rs : List Row). (let X : World = record { rows = rs; persons = P.persons; credits = W.credits; holes = W.holes } in X)) (append-nil W.rows)
    ∙ ap (λ (ps : List Person). (let X : World = record { rows = W.rows; persons = ps; credits = W.credits; holes = W.holes } in X)) e

-- WHO IS FIT
-- persons as in a fit world are fit, with no vehicle
pub fit_as : (z : Counts) (P V Q : World) → IsFitWorld z P → IsFitWorld z V → Q.rows ≡ [] → Q.persons ≡ V.persons → Q.credits ≡ P.credits
    → Q.holes ≡ P.holes → IsFitWorld z Q
fit_as z P V Q p v r e c h = record {
  rows = subst (λ (rs : List Row). All (IsFitRow z) rs) (sym r) (All-from_recursion (IsFitRow z) [] tt);
  persons = λ i. subst (λ (ps : List Person). IsFitPerson z i (get_or ps i nobody)) (sym e) (v.persons i);
  one_each = ap (λ (ps : List Person). length ps) e ∙ v.one_each;
  credits = ap (λ (cs : List ℕ). length cs) c ∙ p.credits;
  holes = subst (λ (hs : List Hole). All (λ (x : Hole). x.link < z.links) hs) (sym h) p.holes;
}
