-- The lines stand for those who wait, once those came who wait since this second.
use Rattle.traffic.proofs.Common.{◌≡◌, ◌≢◌, ℕ, zero, suc, ◌+◌, ◌<◌, Bool, true, false, List, [], ◌∷◌, ◌++◌, ◌∙◌, ap, refl, sym, subst, arith, inl, inr}
use Rattle.traffic.proofs.Common.{cases_Bool, eqb, eqb-true, eqb-false, eq-eqb, ne_eqb, length, get_or, flat_map, filter, filter-append, Option, None, Some}
use Rattle.traffic.proofs.Common.{append-nil, append_assoc, Setup, World, person_of, nobody, run, TurnMoves, turns, turns_in, turns_of, after, through, below}
use Rattle.traffic.proofs.Common.{numbers, waiter, waits_on, waits, waiters, leg_at, act_after, link_of_stop, Leg, Act, in_turn, landing_moves, leaving_moves}
use Rattle.traffic.proofs.Common.{landing_turns, leaving_turns, departure_turns}
use Rattle.traffic.proofs.Persons.{other_person, TellOf, landing_moves-of, leaving_moves-of, departure_keeps}
use Rattle.traffic.specs.declared.{moves.Move.Move, world.Person.Person, world.Place.Place, world.Place.TheVariants.At, world.Place.TheVariants.Teleporting}
use Rattle.traffic.specs.declared.world.{Place.TheVariants.Waiting, Place.TheVariants.Riding, Place.TheVariants.Aborted, Waiter.Waiter}
use Rattle.std.proofs.lemmas.List.{get_or-set_same, get_or-set_other}
use Rattle.std.specs.{List.AllByRecursion as Each, Prelude.◌⊎◌, Prelude.if◌then◌else◌}
use Rattle.events.specs.declared.event.Phase.TheVariants as phase
use Rattle.rows.specs.declared.plan.Leg.TheVariants as leg
use Rattle.link_seconds.specs.Seconds.{line_at}
use Rattle.riders.specs.Waiting.{NobodyIs, AreOnce, at_stop}
use Rattle.part_persons.{proofs.Early.lands_not, proofs.Early.leaves_not, proofs.InOrder.after_more, specs.Dues.due_at_place, specs.Dues.person_due}
use Rattle.person_moves.specs.Waiting.{waiter_on}
use Rattle.part_lines.specs.Coming.{came_to, came, with_one, joined_lines, CanJoin, CanAllJoin}
use Rattle.part_lines.proofs.Behind.{IsEarlier, Joins, come_behind}
use Rattle.part_lines.proofs.News.{WaitsFrom, IsNews, IsBefore, WaitBefore, news_through, many_through}

-- WHO IS NOT DUE STAYS
stays : (S : Setup) (t i : ℕ) (plan : TurnMoves) (P : Person) → ((n : ℕ) (W : World) → person_of i W ≡ P → person_of i (run S t (plan n W) W) ≡ P)
    → (ns : List ℕ) (W : World) → person_of i W ≡ P → person_of i (after S t (turns S t plan ns W) W) ≡ P
unfolding turns
stays S t i plan P kept [] W e = e
stays S t i plan P kept (n ∷ ns) W e =
    let next = run S t (plan n W) W in
    ap (person_of i) (after_more S t (record { number = n; moves = plan n W }) (turns S t plan ns next) W)
    ∙ stays S t i plan P kept ns next (kept n W e)

by_turn : (S : Setup) (t i n : ℕ) (plan : TurnMoves) (W : World) → TellOf n (plan n W) → plan i W ≡ [] → person_of i (run S t (plan n W) W) ≡ person_of i W
by_turn S t i n plan W own none =
    elim (cases_Bool (eqb n i)) [
      | inl q ↦
          let same : n ≡ i = eqb-true n i q in
          ap (λ (k : ℕ). person_of i (run S t (plan k W) W)) same ∙ ap (λ (ms : List Move). person_of i (run S t ms W)) none
      | inr q ↦ other_person S t n i (plan n W) W (λ r. eqb-false n i q (sym r)) own
    ]

pub stays_early : (S : Setup) (t i : ℕ) (W : World) → person_due S i (person_of i W) ≢ Some t
    → person_of i (through S t (phase.A ∷ phase.B1 ∷ phase.B2 ∷ []) W) ≡ person_of i W
unfolding through turns_in turns_of
stays_early S t i W ne =
    let P = person_of i W in
    let people = below (length S.persons) in
    let W1 = after S t (turns S t (landing_turns S t) people W) W in
    let W2 = after S t (turns S t (leaving_turns S t) people W1) W1 in
    let a : person_of i W1 ≡ P
    = stays S t i (landing_turns S t) P (λ n X e. (by_turn S t i n (landing_turns S t) X (landing_moves-of S t n (person_of n X))
    (ap (landing_moves S t i) e ∙ lands_not S t i P ne) ∙ e)) people W refl in
    let b : person_of i W2 ≡ P
    = stays S t i (leaving_turns S t) P (λ n X e. (by_turn S t i n (leaving_turns S t) X (leaving_moves-of S t n (person_of n X))
    (ap (leaving_moves S t i) e ∙ leaves_not S t i P ne) ∙ e)) people W1 a in
    stays S t i (departure_turns S t) P (λ n X e. (departure_keeps S t n i X ∙ e)) (below (length S.departures)) W2 b

-- ONE WHO WAITS
unfoldable pub as_list : Option Waiter → List Waiter
as_list None = []
as_list (Some w) = w ∷ []

-- as a line has him, whenever he came
waiting_at : ℕ → Leg → ℕ → Place → Option Waiter
waiting_at i w kind (At end) = None
waiting_at i w kind (Teleporting start) = None
waiting_at i w kind (Waiting stop since) = waiter_on i w kind stop since
waiting_at i w kind (Riding vehicle) = None
waiting_at i w kind (Aborted link) = None

waiting : Setup → ℕ → Person → Option Waiter
waiting S i P = waiting_at i (leg_at S i P.element) (act_after S i P.element).kind P.place

-- at this stop
unfoldable pub at_this : ℕ → Option Waiter → List Waiter
at_this s o = filter (λ (w : Waiter). eqb w.stop s) (as_list o)

there_is : (S : Setup) (l i s stop since : ℕ) (w : Leg) (next : Act) → eqb (link_of_stop S s) l ≡ true
    → filter (λ (x : Waiter). eqb x.stop s) (if eqb (link_of_stop S stop) l then waits i w next stop since else []) ≡ at_this s (waiter_on i w next.kind stop since)
unfolding at_this as_list
there_is S l i s stop since (leg.Car route) next h = elim (cases_Bool (eqb (link_of_stop S stop) l)) [ inl e ↦ rw e refl | inr e ↦ rw e refl ]
there_is S l i s stop since (leg.Teleport mode seconds) next h = elim (cases_Bool (eqb (link_of_stop S stop) l)) [ inl e ↦ rw e refl | inr e ↦ rw e refl ]
there_is S l i s stop since (leg.Transit line access egress) next h =
    elim (cases_Bool (eqb (link_of_stop S stop) l)) [
      | inl e ↦ rw e refl
      | inr e ↦
          let ne : eqb stop s ≡ false = elim (cases_Bool (eqb stop s)) [
            | inl q ↦ absurd (let z : false ≡ true = sym e ∙ ap (λ (k : ℕ). eqb (link_of_stop S k) l) (eqb-true stop s q) ∙ h in cc)
            | inr q ↦ q
          ] in
          simp (e, ne) refl
    ]

at_place : (S : Setup) (l i s : ℕ) (w : Leg) (next : Act) (p : Place) → eqb (link_of_stop S s) l ≡ true
    → filter (λ (x : Waiter). eqb x.stop s) (waits_on S l i w next p) ≡ at_this s (waiting_at i w next.kind p)
unfolding waiting_at at_this as_list
at_place S l i s w next (At end) h = refl
at_place S l i s w next (Teleporting start) h = refl
at_place S l i s w next (Waiting stop since) h = there_is S l i s stop since w next h
at_place S l i s w next (Riding vehicle) h = refl
at_place S l i s w next (Aborted link) h = refl

is_there : (S : Setup) (l i s : ℕ) (P : Person) → eqb (link_of_stop S s) l ≡ true
    → filter (λ (x : Waiter). eqb x.stop s) (waiter S l i P) ≡ at_this s (waiting S i P)
unfolding waiting
is_there S l i s P h = at_place S l i s (leg_at S i P.element) (act_after S i P.element) P.place h

-- BEFORE AND AFTER
none_came : (t i : ℕ) (w : Leg) (kind : ℕ) (p : Place) → IsBefore t p → came_to t i w kind p ≡ None
none_came t i w kind (At end) h = refl
none_came t i w kind (Teleporting start) h = refl
none_came t i w kind (Waiting stop since) h = let e : eqb since t ≡ false = ne_eqb since t (λ q. (let e2 = q in absurd (omega arith))) in rw e refl
none_came t i w kind (Riding vehicle) h = refl
none_came t i w kind (Aborted link) h = refl

pub earlier_none : (S : Setup) (t i : ℕ) (P : Person) → IsBefore t P.place → came S t i P ≡ None
earlier_none S t i P h = none_came t i (leg_at S i P.element) (act_after S i P.element).kind P.place h

waits_early : (t i s : ℕ) (w : Leg) (kind : ℕ) (p : Place) → IsBefore t p → Each (IsEarlier t) (at_this s (waiting_at i w kind p))
unfolding waiting_at at_this as_list
waits_early t i s w kind (At end) h = tt
waits_early t i s w kind (Teleporting start) h = tt
waits_early t i s (leg.Car route) kind (Waiting stop since) h = tt
waits_early t i s (leg.Teleport mode seconds) kind (Waiting stop since) h = tt
waits_early t i s (leg.Transit line access egress) kind (Waiting stop since) h =
    elim (cases_Bool (eqb stop s)) [ inl e ↦ rw e (h, tt) | inr e ↦ rw e tt ]
waits_early t i s w kind (Riding vehicle) h = tt
waits_early t i s w kind (Aborted link) h = tt

now_came : (t i : ℕ) (w : Leg) (kind : ℕ) (p : Place) → WaitsFrom t p → waiting_at i w kind p ≡ came_to t i w kind p
unfolding waiting_at
now_came t i w kind (At end) h = refl
now_came t i w kind (Teleporting start) h = refl
now_came t i w kind (Waiting stop since) h = let e : eqb since t ≡ true = eq-eqb since t h in rw e refl
now_came t i w kind (Riding vehicle) h = refl
now_came t i w kind (Aborted link) h = refl

-- who came in this second
pub record IsNewcomer (t i : ℕ) (x : Waiter) : Type 0 where
  pub since : x.since ≡ t
  pub person : x.person ≡ i

on_leg : (t i : ℕ) (w : Leg) (kind stop since : ℕ) (x : Waiter) → since ≡ t → waiter_on i w kind stop since ≡ Some x → IsNewcomer t i x
on_leg t i (leg.Car route) kind stop since x s e = absurd (cc)
on_leg t i (leg.Teleport mode seconds) kind stop since x s e = absurd (cc)
on_leg t i (leg.Transit line access egress) kind stop since x s e =
    let y : Waiter = record { person = i; stop = stop; line = line; egress = egress; kind = kind; since = since } in
    let same : y ≡ x = cc in
    record { since = ap (λ (z : Waiter). z.since) (sym same) ∙ s; person = ap (λ (z : Waiter). z.person) (sym same) }

at_place_new : (t i : ℕ) (w : Leg) (kind : ℕ) (p : Place) (x : Waiter) → came_to t i w kind p ≡ Some x → IsNewcomer t i x
at_place_new t i w kind (At end) x e = absurd (cc)
at_place_new t i w kind (Teleporting start) x e = absurd (cc)
at_place_new t i w kind (Waiting stop since) x e =
    elim (cases_Bool (eqb since t)) [
      | inl q ↦ let f = rw q at e in on_leg t i w kind stop since x (eqb-true since t q) f
      | inr q ↦ absurd (let f = rw q at e in cc)
    ]
at_place_new t i w kind (Riding vehicle) x e = absurd (cc)
at_place_new t i w kind (Aborted link) x e = absurd (cc)

pub came_new : (S : Setup) (t i : ℕ) (P : Person) (x : Waiter) → came S t i P ≡ Some x → IsNewcomer t i x
came_new S t i P x e = at_place_new t i (leg_at S i P.element) (act_after S i P.element).kind P.place x e

comes : (t i s : ℕ) (o : Option Waiter) → ((x : Waiter) → o ≡ Some x → IsNewcomer t i x) → Joins t i [] (at_this s o) (at_this s o)
unfolding at_this as_list
comes t i s None h = inl (record { same = refl; none = refl; early = tt })
comes t i s (Some w) h =
    let n = h w refl in
    elim (cases_Bool (eqb w.stop s)) [
      | inl e ↦ inr (w, record { none = refl; now = rw e refl; is = rw e refl; since = n.since; person = n.person })
      | inr e ↦ inl (record { same = rw e refl; none = rw e refl; early = tt })
    ]

-- who waits has nothing to do by himself
due_or_none : (t i : ℕ) (w : Leg) (kind : ℕ) (p : Place) → (due_at_place w p ≢ Some t) ⊎ (waiting_at i w kind p ≡ None)
unfolding waiting_at
due_or_none t i w kind (At end) = inr refl
due_or_none t i w kind (Teleporting start) = inr refl
due_or_none t i w kind (Waiting stop since) = inl (λ e. absurd (cc))
due_or_none t i w kind (Riding vehicle) = inr refl
due_or_none t i w kind (Aborted link) = inr refl

stayed : (S : Setup) (t i s : ℕ) (P Q : Person) → IsBefore t P.place → Q ≡ P
    → Joins t i (at_this s (waiting S i P)) (at_this s (waiting S i Q)) (at_this s (came S t i Q))
unfolding waiting at_this as_list
stayed S t i s P Q h e =
    inl (record {
      same = ap (λ (X : Person). at_this s (waiting S i X)) e;
      none = ap (λ (X : Person). at_this s (came S t i X)) e ∙ ap (at_this s) (earlier_none S t i P h);
      early = waits_early t i s (leg_at S i P.element) (act_after S i P.element).kind P.place h;
    })

come_new : (S : Setup) (t i s : ℕ) (P Q : Person) → waiting S i P ≡ None → WaitsFrom t Q.place
    → Joins t i (at_this s (waiting S i P)) (at_this s (waiting S i Q)) (at_this s (came S t i Q))
unfolding waiting at_this as_list
come_new S t i s P Q none g =
    let now : waiting S i Q ≡ came S t i Q = now_came t i (leg_at S i Q.element) (act_after S i Q.element).kind Q.place g in
    subst (λ (o : Option Waiter). Joins t i (at_this s o) (at_this s (waiting S i Q)) (at_this s (came S t i Q))) (sym none)
    (subst (λ (o : Option Waiter). Joins t i [] (at_this s o) (at_this s (came S t i Q))) (sym now) (comes t i s (came S t i Q) (came_new S t i Q)))

joins : (S : Setup) (t i s : ℕ) (P Q : Person) → IsBefore t P.place → IsNews t P Q → (person_due S i P ≢ Some t → Q ≡ P)
    → Joins t i (at_this s (waiting S i P)) (at_this s (waiting S i Q)) (at_this s (came S t i Q))
unfolding waiting
joins S t i s P Q h news still =
    elim (due_or_none t i (leg_at S i P.element) (act_after S i P.element).kind P.place) [
      | inl ne ↦ stayed S t i s P Q h (still ne)
      | inr none ↦ elim news [ inl e ↦ stayed S t i s P Q h e | inr g ↦ come_new S t i s P Q none g ]
    ]

-- ALL WHO WAIT
filter_flat : (p : Waiter → Bool) (f : ℕ → List Waiter) (ns : List ℕ) → filter p (flat_map f ns) ≡ flat_map (λ (i : ℕ). filter p (f i)) ns
filter_flat p f [] = refl
filter_flat p f (n ∷ ns) = filter-append p (f n) (flat_map f ns) ∙ ap (λ (xs : List Waiter). filter p (f n) ++ xs) (filter_flat p f ns)

flat_alike : (f g : ℕ → List Waiter) (ns : List ℕ) → ((i : ℕ) → f i ≡ g i) → flat_map f ns ≡ flat_map g ns
flat_alike f g [] h = refl
flat_alike f g (n ∷ ns) h = ap (λ (xs : List Waiter). xs ++ flat_map f ns) (h n) ∙ ap (λ (xs : List Waiter). g n ++ xs) (flat_alike f g ns h)

-- those of a world who wait at a stop, and those who came there in second t, by number
at_stop_of : Setup → ℕ → World → ℕ → List Waiter
at_stop_of S s W i = at_this s (waiting S i (person_of i W))

unfoldable pub came_of : Setup → ℕ → ℕ → List Person → ℕ → List Waiter
came_of S t s persons i = at_this s (came S t i (get_or persons i nobody))

pub came_none : (S : Setup) (t s i : ℕ) (persons : List Person) → came S t i (get_or persons i nobody) ≡ None → came_of S t s persons i ≡ []
unfolding came_of at_this as_list
came_none S t s i persons e = ap (at_this s) e

waiters_at : (S : Setup) (l s : ℕ) (W : World) → eqb (link_of_stop S s) l ≡ true
    → filter (λ (x : Waiter). eqb x.stop s) (waiters S l W) ≡ flat_map (at_stop_of S s W) (below (length W.persons))
unfolding waiters at_stop_of
waiters_at S l s W h =
    filter_flat (λ (x : Waiter). eqb x.stop s) (λ (i : ℕ). waiter S l i (person_of i W)) (below (length W.persons))
    ∙ flat_alike (λ (i : ℕ). filter (λ (x : Waiter). eqb x.stop s) (waiter S l i (person_of i W))) (at_stop_of S s W) (below (length W.persons))
    (λ i. is_there S l i s (person_of i W) h)

-- the phases in which persons land and leave and departures start
abbrev pub after_early : Setup → ℕ → World → World
after_early S t W = through S t (phase.A ∷ phase.B1 ∷ phase.B2 ∷ []) W

pub come_to_line : (S : Setup) (t l s : ℕ) (W : World) → eqb (link_of_stop S s) l ≡ true → WaitBefore t W
    → at_stop s (waiters S l (after_early S t W))
    ≡ at_stop s (waiters S l W) ++ flat_map (came_of S t s (after_early S t W).persons) (below (length W.persons))
unfolding at_stop_of came_of
come_to_line S t l s W h before =
    let V = after_early S t W in
    let n = length W.persons in
    let many : length V.persons ≡ n = many_through S t (phase.A ∷ phase.B1 ∷ phase.B2 ∷ []) W in
    let each : (i : ℕ) → i < 0 + n → Joins t i (at_stop_of S s W i) (at_stop_of S s V i) (came_of S t s V.persons i)
    = λ i lt. (
    let there : i < n = omega arith in
    joins S t i s (person_of i W) (person_of i V) (before i there)
    (news_through S t i (phase.A ∷ phase.B1 ∷ phase.B2 ∷ []) W there) (stays_early S t i W)) in
    ap in_turn (waiters_at S l s V h ∙ ap (λ (k : ℕ). flat_map (at_stop_of S s V) (below k)) many)
    ∙ come_behind t (at_stop_of S s W) (at_stop_of S s V) (came_of S t s V.persons) 0 n each
    ∙ ap (λ (xs : List Waiter). in_turn xs ++ flat_map (came_of S t s V.persons) (below n)) (sym (waiters_at S l s W h))

-- EACH WAITS ONCE
-- a person is in one place of a list at most
pub record IsOne (i : ℕ) (xs : List Waiter) (w : Waiter) : Type 0 where
  pub is : xs ≡ w ∷ []
  pub person : w.person ≡ i

abbrev IsOneOrNone : ℕ → List Waiter → Type 0
IsOneOrNone i xs = (xs ≡ []) ⊎ ((w : Waiter) × IsOne i xs w)

one_on_leg : (i : ℕ) (w : Leg) (next : Act) (stop since : ℕ) → IsOneOrNone i (waits i w next stop since)
one_on_leg i (leg.Car route) next stop since = inl refl
one_on_leg i (leg.Teleport mode seconds) next stop since = inl refl
one_on_leg i (leg.Transit line access egress) next stop since =
    inr (record { person = i; stop = stop; line = line; egress = egress; kind = next.kind; since = since }, record { is = refl; person = refl })

one_at_place : (S : Setup) (l i : ℕ) (w : Leg) (next : Act) (p : Place) → IsOneOrNone i (waits_on S l i w next p)
one_at_place S l i w next (At end) = inl refl
one_at_place S l i w next (Teleporting start) = inl refl
one_at_place S l i w next (Waiting stop since) =
    elim (cases_Bool (eqb (link_of_stop S stop) l)) [ inl e ↦ rw e (one_on_leg i w next stop since) | inr e ↦ rw e (inl refl) ]
one_at_place S l i w next (Riding vehicle) = inl refl
one_at_place S l i w next (Aborted link) = inl refl

nobody_below : (f : ℕ → List Waiter) (j k n : ℕ) → ((i : ℕ) → IsOneOrNone i (f i)) → j < k → NobodyIs j (flat_map f (numbers k n))
nobody_below f j k zero h lt = tt
nobody_below f j k (suc n) h lt =
    let rest = nobody_below f j (k + 1) n h (omega arith) in
    elim (h k) [
      | inl e ↦ subst (λ (xs : List Waiter). NobodyIs j (xs ++ flat_map f (numbers (k + 1) n))) (sym e) rest
      | inr o ↦
          let p = o.1.person in
          let ne : o.0.person ≢ j = omega arith in
          subst (λ (xs : List Waiter). NobodyIs j (xs ++ flat_map f (numbers (k + 1) n))) (sym o.1.is) (ne, rest)
    ]

once_from : (f : ℕ → List Waiter) (k n : ℕ) → ((i : ℕ) → IsOneOrNone i (f i)) → AreOnce (flat_map f (numbers k n))
once_from f k zero h = tt
once_from f k (suc n) h =
    let rest = once_from f (k + 1) n h in
    elim (h k) [
      | inl e ↦ subst (λ (xs : List Waiter). AreOnce (xs ++ flat_map f (numbers (k + 1) n))) (sym e) rest
      | inr o ↦
          let p = o.1.person in
          let none = nobody_below f o.0.person (k + 1) n h (omega arith) in
          subst (λ (xs : List Waiter). AreOnce (xs ++ flat_map f (numbers (k + 1) n))) (sym o.1.is) (none, rest)
    ]

pub waiters_once : (S : Setup) (l : ℕ) (W : World) → AreOnce (waiters S l W)
unfolding waiters
waiters_once S l W =
    once_from (λ (i : ℕ). waiter S l i (person_of i W)) 0 (length W.persons)
    (λ i. one_at_place S l i (leg_at S i (person_of i W).element) (act_after S i (person_of i W).element) (person_of i W).place)

-- THE LINES
pub one_more : (o : Option Waiter) (lines : List (List Waiter)) (s : ℕ) → CanJoin o lines → line_at (with_one o lines) s ≡ line_at lines s ++ at_this s o
unfolding at_this as_list
one_more None lines s h = sym (append-nil (line_at lines s))
one_more (Some w) lines s h =
    elim (cases_Bool (eqb w.stop s)) [
      | inl q ↦
          let e : w.stop ≡ s = eqb-true w.stop s q in
          rw q (ap (λ (k : ℕ). line_at (with_one (Some w) lines) k) (sym e) ∙ get_or-set_same lines w.stop (line_at lines w.stop ++ w ∷ []) [] h.0
          ∙ ap (λ (k : ℕ). line_at lines k ++ w ∷ []) e)
      | inr q ↦ rw q (get_or-set_other lines w.stop s _ [] (λ r. eqb-false w.stop s q (sym r)) ∙ sym (append-nil (line_at lines s)))
    ]

pub joined_at : (S : Setup) (t : ℕ) (persons : List Person) (ns : List ℕ) (lines : List (List Waiter)) (s : ℕ) → CanAllJoin S t persons ns lines
    → line_at (joined_lines S t persons ns lines) s ≡ line_at lines s ++ flat_map (came_of S t s persons) ns
unfolding joined_lines CanAllJoin came_of
joined_at S t persons [] lines s h = sym (append-nil (line_at lines s))
joined_at S t persons (n ∷ ns) lines s h =
    let o = came S t n (get_or persons n nobody) in
    let later = flat_map (came_of S t s persons) ns in
    joined_at S t persons ns (with_one o lines) s h.2
    ∙ ap (λ (xs : List Waiter). xs ++ later) (one_more o lines s h.1)
    ∙ append_assoc (line_at lines s) (at_this s o) later

pub skipped : (f : ℕ → List Waiter) (awake : ℕ → Bool) (k n : ℕ) → ((i : ℕ) → i < k + n → awake i ≡ false → f i ≡ [])
    → flat_map f (filter awake (numbers k n)) ≡ flat_map f (numbers k n)
skipped f awake k zero h = refl
skipped f awake k (suc n) h =
    let rest = skipped f awake (k + 1) n (λ i lt e. h i (omega arith) e) in
    elim (cases_Bool (awake k)) [
      | inl e ↦ rw e (ap (λ (xs : List Waiter). f k ++ xs) rest)
      | inr e ↦ rw e (rest ∙ ap (λ (xs : List Waiter). xs ++ flat_map f (numbers (k + 1) n)) (sym (h k (omega arith) e)))
    ]
