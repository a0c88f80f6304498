-- Persons land and leave, and some departures start: what that makes of any world, done to the persons alone.
use Rattle.traffic.proofs.Common.{◌≡◌, ℕ, Bool, true, false, List, [], ◌∷◌, ◌++◌, ◌∙◌, ap, refl, sym, subst, inl, inr, cases_Bool, length, get_or, append-nil}
use Rattle.traffic.proofs.Common.{append_assoc, filter, filter-append, flat_map, eqb, eq-eqb, Event, Setup, World, nobody, below, at, on, rank, run, turns}
use Rattle.traffic.proofs.Common.{turns_of, turns_in, events_in, after, through, told_in, departure_turns, departure_moves, waiter, waiters, Turn}
use Rattle.traffic.proofs.Walks.{departure_walk}
use Rattle.traffic.specs.declared.{stage.Stage.Stage, stage.Stage.TheVariants.Wait, world.Person.Person, world.Row.Row}
use Rattle.std.specs.List.{AllByRecursion as Each}
use Rattle.events.specs.declared.event.Phase.TheVariants as phase
use Rattle.parts.specs.Owners.{Owner}
use Rattle.law_partitions.specs.Alone.{my_runs}
use Rattle.law_own_worlds.specs.OwnWorlds.{landed, left, set_out}
use Rattle.part_persons.specs.declared.phases.EarlyPhase.{EarlyPhase, TheVariants.Land, TheVariants.Leave, TheVariants.Start}
use Rattle.part_persons.{specs.Phases.joined, proofs.InOrder.after_more, proofs.Joining.AtStart, proofs.Joining.LooksAtPersons}
use Rattle.part_persons.proofs.Joining.{joined_turns, joined_after, early_phase, entered_after, joined_through, joined_told, joined_none, entered_through}
use Rattle.part_lines.proofs.Standing.{after_early}

-- DEPARTURES
looks : (S : Setup) (t : ℕ) → LooksAtPersons (departure_turns S t)
unfolding turns_of
looks S t = early_phase S t Start

one_keeps : (S : Setup) (t d : ℕ) (X : World) → (run S t (departure_moves S t d) X).persons ≡ X.persons
one_keeps S t d X = departure_walk (λ ms. (run S t ms X).persons ≡ X.persons) S t d refl (λ e. refl)

-- whoever starts, no person is changed
pub starts_keep : (S : Setup) (t : ℕ) (ns : List ℕ) (X : World) → (after S t (turns S t (departure_turns S t) ns X) X).persons ≡ X.persons
unfolding turns
starts_keep S t [] X = refl
starts_keep S t (n ∷ ns) X =
    let next = run S t (departure_moves S t n) X in
    ap (λ (Y : World). Y.persons) (after_more S t (record { number = n; moves = departure_moves S t n }) (turns S t (departure_turns S t) ns next) X)
    ∙ starts_keep S t ns next ∙ one_keeps S t n X

through_left : (S : Setup) (t : ℕ) (V : World) → through S t (phase.A ∷ phase.B1 ∷ []) V ≡ left S t V
unfolding through
through_left S t V = refl

told_left : (S : Setup) (t : ℕ) (V : World) → told_in S t (phase.A ∷ phase.B1 ∷ []) V
    ≡ events_in t phase.A (turns_in S t phase.A V) ++ (events_in t phase.B1 (turns_in S t phase.B1 (landed S t V)) ++ [])
unfolding told_in
told_left S t V = refl

early_persons : (S : Setup) (t : ℕ) (V : World) → (after_early S t V).persons ≡ (left S t V).persons
unfolding through turns_in turns_of
early_persons S t V = starts_keep S t (below (length S.departures)) (left S t V)

-- the same persons wait at the stops of a link
pub same_waiters : (S : Setup) (l : ℕ) (W X : World) → W.persons ≡ X.persons → waiters S l W ≡ waiters S l X
unfolding waiters
same_waiters S l W X e = ap (λ (ps : List Person). flat_map (λ (i : ℕ). waiter S l i (get_or ps i nobody)) (below (length ps))) e

regrouped : (os xs ys zs : List Event) → (os ++ (xs ++ (ys ++ []))) ++ zs ≡ os ++ (xs ++ (ys ++ zs))
regrouped os xs ys zs =
    ap (λ (es : List Event). (os ++ (xs ++ es)) ++ zs) (append-nil ys) ∙ append_assoc os (xs ++ ys) zs
    ∙ ap (λ (es : List Event). os ++ es) (append_assoc xs ys zs)

-- P1 and P2 are the world of the persons after the first two phases, and after the departures of p; V is the world with all vehicles
pub record HasSetOut (S : Setup) (own : Owner) (p t : ℕ) (V P P1 P2 : World) : Type 0 where
  pub first : P1 ≡ through S t (phase.A ∷ phase.B1 ∷ []) P
  pub second : P2 ≡ after S t (turns S t (departure_turns S t) (my_runs S own p) P1) P1
  pub persons : P.persons ≡ V.persons
  pub rows : P.rows ≡ []

module _ (S : Setup) (own : Owner) (p t : ℕ) (V P P1 P2 : World) (out : HasSetOut S own p t V P P1 P2) where
  abbrev ns : List ℕ
  ns = my_runs S own p

  abbrev both : List EarlyPhase
  both = Land ∷ Leave ∷ []

  whole : joined V P ≡ V
  whole = joined_none V P out.persons out.rows

  left_is : joined V P1 ≡ left S t V
  left_is =
      ap (joined V) out.first ∙ sym (joined_through S t both V P) ∙ ap (through S t (phase.A ∷ phase.B1 ∷ [])) whole ∙ through_left S t V

  runs_are : turns S t (departure_turns S t) ns P1 ≡ turns S t (departure_turns S t) ns (left S t V)
  runs_are = sym (joined_turns S t (departure_turns S t) ns V P1 (looks S t)) ∙ ap (turns S t (departure_turns S t) ns) left_is

  pub world_is : joined V P2 ≡ set_out S own p t V
  world_is =
      let us = turns S t (departure_turns S t) ns P1 in
      ap (joined V) out.second ∙ sym (joined_after S t (departure_turns S t) ns V P1 (looks S t))
      ∙ ap (after S t us) left_is ∙ ap (λ (vs : List Turn). after S t vs (left S t V)) runs_are

  pub persons_are : P2.persons ≡ (set_out S own p t V).persons
  persons_are = ap (λ (X : World). X.persons) world_is

  pub early_are : (after_early S t V).persons ≡ (set_out S own p t V).persons
  early_are = early_persons S t V ∙ sym (starts_keep S t ns (left S t V))

  pub at_start : Each AtStart P2.rows
  at_start =
      let none : Each AtStart P.rows = subst (λ (rs : List Row). Each AtStart rs) (sym out.rows) tt in
      let first : Each AtStart P1.rows = subst (λ (X : World). Each AtStart X.rows) (sym out.first) (entered_through S t both P none) in
      subst (λ (X : World). Each AtStart X.rows) (sym out.second) (entered_after S t (departure_turns S t) ns P1 (looks S t) first)

  -- what is told
  pub told_is : (old first mid : List Event) → first ≡ old ++ told_in S t (phase.A ∷ phase.B1 ∷ []) P
      → mid ≡ first ++ events_in t phase.B2 (turns S t (departure_turns S t) ns P1)
      → mid ≡ old ++ (events_in t phase.A (turns_in S t phase.A V) ++ (events_in t phase.B1 (turns_in S t phase.B1 (landed S t V))
      ++ events_in t phase.B2 (turns S t (departure_turns S t) ns (left S t V))))
  told_is old first mid a b =
      let xs = events_in t phase.A (turns_in S t phase.A V) in
      let ys = events_in t phase.B1 (turns_in S t phase.B1 (landed S t V)) in
      let zs = events_in t phase.B2 (turns S t (departure_turns S t) ns (left S t V)) in
      let two : told_in S t (phase.A ∷ phase.B1 ∷ []) P ≡ xs ++ (ys ++ [])
      = sym (joined_told S t both V P) ∙ ap (told_in S t (phase.A ∷ phase.B1 ∷ [])) whole ∙ told_left S t V in
      b ∙ ap (λ (us : List Turn). first ++ events_in t phase.B2 us) runs_are
      ∙ ap (λ (es : List Event). es ++ zs) (a ∙ ap (λ (es : List Event). old ++ es) two) ∙ regrouped old xs ys zs

-- WHO STARTS, ON OWN LINKS
waits_here : (r : Row) → AtStart r → on r.link Wait r ≡ true
waits_here r h =
    let e : eqb (rank r.stage) (rank Wait) ≡ true = ap (λ (s : Stage). eqb (rank s) (rank Wait)) h.stage in
    let f = eq-eqb r.link r.link refl in
    rw (e, f) refl

-- where no row stands on a link for which this does not hold, it holds for each
pub each_passes : (q : ℕ → Bool) (rs : List Row) → Each AtStart rs → ((l : ℕ) → q l ≡ false → filter (on l Wait) rs ≡ [])
    → Each (λ (r : Row). q r.link ≡ true) rs
each_passes q [] h none = tt
each_passes q (r ∷ rs) h none =
    let here = waits_here r h.0 in (
      elim (cases_Bool (q r.link)) [
        | inl e ↦ e
        | inr off ↦ absurd (let z : r ∷ filter (on r.link Wait) rs ≡ [] = (rw here at (none r.link off)) in cc)
      ],
      each_passes q rs h.1 (λ l off. rest_none l (none l off)),
    )
  where
    rest_none : (l : ℕ) → filter (on l Wait) (r ∷ rs) ≡ [] → filter (on l Wait) rs ≡ []
    rest_none l e =
        elim (cases_Bool (on l Wait r)) [
          | inl f ↦ absurd (let z : r ∷ filter (on l Wait) rs ≡ [] = (rw f at e) in cc)
          | inr f ↦ (let z : filter (on l Wait) rs ≡ [] = (rw f at e) in z)
        ]

-- of what stands last in a world nothing is on a link where nobody is
pub none_last : (l : ℕ) (V P : World) → at l Wait (joined V P) ≡ [] → filter (on l Wait) P.rows ≡ []
none_last l V P e =
    let all : filter (on l Wait) V.rows ++ filter (on l Wait) P.rows ≡ [] = sym (filter-append (on l Wait) V.rows P.rows) ∙ e in
    second_none (filter (on l Wait) V.rows) (filter (on l Wait) P.rows) all
  where
    second_none : (xs ys : List Row) → xs ++ ys ≡ [] → ys ≡ []
    second_none [] ys e = e
    second_none (x ∷ xs) ys e = absurd (cc)
