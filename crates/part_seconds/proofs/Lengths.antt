-- How long lines are: no longer than there are persons.
use Rattle.traffic.proofs.Common.{◌≡◌, ℕ, zero, suc, ◌+◌, ◌<◌, ◌≤◌, Bool, true, List, [], ◌∷◌, ◌∙◌, ap, refl, sym, subst, arith, inl, inr, cases_Bool, length}
use Rattle.traffic.proofs.Common.{length-append, filter, flat_map, eqb, Leg, Act, World, Setup, person_of, recursion_from_All, numbers, waits, waits_on, waiter}
use Rattle.traffic.proofs.Common.{waiters, leg_at, act_after, link_of_stop, among, in_turn, comes_first}
use Rattle.traffic.specs.declared.world.Place.{Place, TheVariants.At, TheVariants.Teleporting, TheVariants.Waiting, TheVariants.Riding, TheVariants.Aborted}
use Rattle.traffic.specs.declared.world.Waiter.{Waiter}
use Rattle.std.proofs.lemmas.List.Elements.{All-from_get_or}
use Rattle.rows.specs.declared.plan.Leg.TheVariants as leg
use Rattle.limits.specs.declared.TheConstants.{MAX_PERSONS}
use Rattle.link_seconds.specs.Seconds.{AreShort, HaveLines, line_at}
use Rattle.part_links.specs.Links.{lies_on}

-- HOW MANY WAIT
among_length : (w : Waiter) (xs : List Waiter) → length (among w xs) ≡ suc (length xs)
unfolding among
among_length w [] = refl
among_length w (x ∷ xs) =
    elim (cases_Bool (comes_first w x)) [ inl e ↦ rw e refl | inr e ↦ rw e (ap suc (among_length w xs)) ]

turn_length : (xs : List Waiter) → length (in_turn xs) ≡ length xs
unfolding in_turn
turn_length [] = refl
turn_length (x ∷ xs) = among_length x (in_turn xs) ∙ ap suc (turn_length xs)

filter_few : (p : Waiter → Bool) (xs : List Waiter) → length (filter p xs) ≤ length xs
filter_few p [] = omega arith
filter_few p (x ∷ xs) =
    let i = filter_few p xs in
    elim (cases_Bool (p x)) [ inl e ↦ rw e (omega arith) | inr e ↦ rw e (omega arith) ]

few_on_leg : (i : ℕ) (w : Leg) (next : Act) (stop since : ℕ) → length (waits i w next stop since) ≤ 1
few_on_leg i (leg.Car route) next stop since = omega arith
few_on_leg i (leg.Teleport mode seconds) next stop since = omega arith
few_on_leg i (leg.Transit line access egress) next stop since = omega arith

few_at_place : (S : Setup) (l i : ℕ) (w : Leg) (next : Act) (p : Place) → length (waits_on S l i w next p) ≤ 1
few_at_place S l i w next (At end) = omega arith
few_at_place S l i w next (Teleporting start) = omega arith
few_at_place S l i w next (Waiting stop since) =
    let f = few_on_leg i w next stop since in
    elim (cases_Bool (eqb (link_of_stop S stop) l)) [ inl e ↦ rw e f | inr e ↦ rw e (omega arith) ]
few_at_place S l i w next (Riding v) = omega arith
few_at_place S l i w next (Aborted m) = omega arith

few_flat : (f : ℕ → List Waiter) (k n : ℕ) → ((i : ℕ) → length (f i) ≤ 1) → length (flat_map f (numbers k n)) ≤ n
few_flat f k zero h = omega arith
few_flat f k (suc n) h =
    let a = length-append (f k) (flat_map f (numbers (k + 1) n)) in
    let b = few_flat f (k + 1) n h in
    let c = h k in
    omega arith

few_wait : (S : Setup) (l : ℕ) (V : World) → length (waiters S l V) ≤ length V.persons
unfolding waiters
few_wait S l V =
    few_flat (λ (i : ℕ). waiter S l i (person_of i V)) 0 (length V.persons)
    (λ i. let P = person_of i V in few_at_place S l i (leg_at S i P.element) (act_after S i P.element) P.place)

-- no line of a stop on a link is longer than there are persons
pub one_short : (S : Setup) (l s : ℕ) (lines : List (List Waiter)) (V : World) → length V.persons ≤ MAX_PERSONS → lies_on S l s ≡ true
    → HaveLines (lies_on S l) lines (waiters S l V) → length (line_at lines s) ≤ MAX_PERSONS
one_short S l s lines V few lies have =
    let is : line_at lines s ≡ in_turn (filter (λ (w : Waiter). eqb w.stop s) (waiters S l V)) = have.each s lies in
    let a = turn_length (filter (λ (w : Waiter). eqb w.stop s) (waiters S l V)) in
    let b = filter_few (λ (w : Waiter). eqb w.stop s) (waiters S l V) in
    let c = few_wait S l V in
    subst (λ (ws : List Waiter). length ws ≤ MAX_PERSONS) (sym is) (omega arith)

-- the same of all lines
pub all_short : (lines : List (List Waiter)) → ((s : ℕ) → s < length lines → length (line_at lines s) ≤ MAX_PERSONS) → AreShort lines
all_short lines h =
    recursion_from_All (λ (ws : List Waiter). length ws ≤ MAX_PERSONS) lines
    (All-from_get_or (λ (ws : List Waiter). length ws ≤ MAX_PERSONS) lines [] h)
