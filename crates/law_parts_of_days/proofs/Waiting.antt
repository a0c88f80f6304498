-- Who waits at stops while nodes have their turns.
use Rattle.traffic.proofs.{Moments.kept_along, NodeWalk.NodeCases, NodeWalk.node_walk, Sublists.person-done, Walks.phase_keeps}
use Rattle.traffic.proofs.Common.{◌≡◌, ℕ, zero, suc, ◌+◌, ◌<◌, ◌≤◌, List, [], ◌++◌, ◌∙◌, ap, refl, sym, arith, inl, inr, cases_lt, length, flat_map, World}
use Rattle.traffic.proofs.Common.{Setup, person_of, turns_in, turns_of, moves_of, after, node_turns, OnePlace, done, person_after_all, entered, aborts, below}
use Rattle.traffic.proofs.Common.{numbers, waits_on, waiter, waiters, leg_at, act_after}
use Rattle.traffic.specs.declared.{stage.Stage.TheVariants.Buffer, world.Person.Person, world.Place.Place, moves.Move.TheVariants.Transfer}
use Rattle.traffic.specs.declared.{moves.Move.TheVariants.Remove, moves.Move.TheVariants.SetFrontSince, world.Row.Row, world.Waiter.Waiter}
use Rattle.traffic.specs.declared.world.Place.TheVariants.{At, Teleporting, Waiting, Riding, Aborted}
use Rattle.events.specs.declared.event.Phase.TheVariants as phase
use Rattle.law_one_place.proofs.{Boarding.strands_told, Places.InOne, Places.IsOff, Places.rides, Places.rides_few, Turns.nodes_keep}
use Rattle.part_lines.proofs.News.{same_many}

-- WHO WAITS WHILE NODES HAVE THEIR TURNS
-- a person is in one place, and waits so on a link
abbrev Stays : Setup → ℕ → ℕ → List Waiter → World → Type 0
Stays S l i ws W = InOne i W × (waiter S l i (person_of i W) ≡ ws)

-- who rides waits nowhere, and so does who is in no vehicle any more
aboard : (S : Setup) (l i : ℕ) (P : Person) (p : Place) → P.place ≡ p → (IsOff p → ⊥) → waiter S l i P ≡ []
aboard S l i P (At end) e h = absurd (h tt)
aboard S l i P (Teleporting start) e h = absurd (h tt)
aboard S l i P (Waiting stop since) e h = absurd (h tt)
aboard S l i P (Riding v) e h = ap (waits_on S l i (leg_at S i P.element) (act_after S i P.element)) e
aboard S l i P (Aborted m) e h = absurd (h tt)

lost : (S : Setup) (l i m : ℕ) (P Q : Person) → Q ≡ record P { place = Aborted m } → waiter S l i Q ≡ []
lost S l i m P Q e = ap (waiter S l i) e

-- a vehicle that is removed with its riders changes nobody who waits
aborted : (S : Setup) (t l i : ℕ) (r : Row) (P : Person) → rides i r.vehicle ≤ 1 → (IsOff P.place → rides i r.vehicle ≡ 0)
    → waiter S l i (person_after_all S t i (aborts r) P) ≡ waiter S l i P
aborted S t l i r P few off =
    let s = strands_told S t i r.vehicle.id r.link r.vehicle.riders P in
    elim (cases_lt 0 (rides i r.vehicle)) [
      | inl lt ↦
          let one : rides i r.vehicle ≡ 1 = omega arith in
          let riding = aboard S l i P P.place refl (λ o. let z = off o in absurd (omega arith)) in
          lost S l i r.link P (person_after_all S t i (aborts r) P) (s.1 one) ∙ sym riding
      | inr ge ↦
          let none : rides i r.vehicle ≡ 0 = omega arith in
          ap (waiter S l i) (s.0 none)
    ]

stay_cases : (S : Setup) (t n l i : ℕ) (ws : List Waiter) → NodeCases S t n (λ W m. Stays S l i ws W → Stays S l i ws (done S t m W))
stay_cases S t n l i ws =
    let c = nodes_keep S t n i in
    record {
      enter = λ a e r xs W f q k h. (
        c.enter a e r xs W f q k h.0,
        ap (waiter S l i) (person-done S t i (Transfer a Buffer 0 r (entered t e r.vehicle)) W h.0.there) ∙ h.1,
      );
      abort = λ a r xs W f k h. (
          let few = rides_few i a Buffer 0 r W (rw f.rows refl) h.0 in (
            c.abort a r xs W f k h.0,
            ap (waiter S l i) (person-done S t i (Remove a Buffer 0 r) W h.0.there)
                ∙ aborted S t l i r (person_of i W) few.0 few.1 ∙ h.1,
          ));
      mark = λ a W k h. (
        c.mark a W k h.0,
        ap (waiter S l i) (person-done S t i (SetFrontSince a t) W h.0.there) ∙ h.1,
      );
    }

one_stays : (S : Setup) (t l i : ℕ) (V : World) → InOne i V → waiter S l i (person_of i (after S t (turns_in S t phase.C V) V)) ≡ waiter S l i (person_of i V)
unfolding turns_of
one_stays S t l i V one =
    let ws = waiter S l i (person_of i V) in
    (phase_keeps (Stays S l i ws) S t phase.C
    (λ n X lt h. kept_along (Stays S l i ws) S t (node_turns S t n X) X
    (node_walk S t n (λ W m. Stays S l i ws W → Stays S l i ws (done S t m W)) (stay_cases S t n l i ws) X) h) V (one, refl)).1

flat_same : (f g : ℕ → List Waiter) (k n : ℕ) → ((i : ℕ) → i < k + n → f i ≡ g i) → flat_map f (numbers k n) ≡ flat_map g (numbers k n)
flat_same f g k zero h = refl
flat_same f g k (suc n) h =
    ap (λ (xs : List Waiter). xs ++ flat_map f (numbers (k + 1) n)) (h k (omega arith))
    ∙ ap (λ (xs : List Waiter). g k ++ xs) (flat_same f g (k + 1) n (λ i lt. h i (omega arith)))

-- whoever waits at the stops of a link waits there after the nodes had their turns, and nobody else
pub nodes_keep_waiters : (S : Setup) (t l : ℕ) (V : World) → ((i : ℕ) → i < length V.persons → InOne i V)
    → waiters S l (after S t (turns_in S t phase.C V) V) ≡ waiters S l V
unfolding waiters
nodes_keep_waiters S t l V one =
    let W = after S t (turns_in S t phase.C V) V in
    let n = length V.persons in
    ap (λ (k : ℕ). flat_map (λ (i : ℕ). waiter S l i (person_of i W)) (below k)) (same_many S t (moves_of (turns_in S t phase.C V)) V)
    ∙ flat_same (λ (i : ℕ). waiter S l i (person_of i W)) (λ (i : ℕ). waiter S l i (person_of i V)) 0 n
    (λ i lt. one_stays S t l i V (one i (omega arith)))

-- the same where each person is in one place
pub waiters_in_one : (S : Setup) (t l : ℕ) (V : World) → OnePlace S V → waiters S l (after S t (turns_in S t phase.C V) V) ≡ waiters S l V
waiters_in_one S t l V one =
    nodes_keep_waiters S t l V (λ i lt. (
    let n = one.one_row in
    let there : i < length S.persons = omega arith in
    record { there = lt; listed = one.one_place i there }))
