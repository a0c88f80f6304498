-- Who comes to a line comes behind all in it, and the lines stand for those who wait then.
use Rattle.traffic.proofs.Common.{◌≡◌, ◌≢◌, ℕ, zero, suc, ◌+◌, ◌<◌, ◌≤◌, Bool, false, List, [], ◌∷◌, ◌++◌, ◌∙◌, ap, refl, sym, subst, arith, inl, inr}
use Rattle.traffic.proofs.Common.{cases_Bool, eqb, eq-eqb, length, get_or, flat_map, filter, Option, None, Some, Setup, World, person_of, nobody, below}
use Rattle.traffic.proofs.Common.{numbers, waits, waits_on, waiter, waiters, leg_at, act_after, link_of_stop, Leg, Act, ComesBefore, comes_first, among}
use Rattle.traffic.{proofs.Common.in_turn, proofs.Each.each_append, proofs.Each.each_kept, specs.declared.world.Person.Person, specs.declared.world.Place.Place}
use Rattle.traffic.specs.declared.world.Place.TheVariants.{At, Teleporting, Waiting, Riding, Aborted}
use Rattle.traffic.specs.declared.world.Waiter.{Waiter}
use Rattle.std.{proofs.lemmas.List.length-set, specs.List.AllByRecursion as Each, specs.Prelude.◌⊎◌}
use Rattle.rows.specs.declared.plan.Leg.TheVariants as leg
use Rattle.events.specs.declared.event.Phase.TheVariants as phase
use Rattle.calendar.specs.Waking.{is_woken, woken}
use Rattle.link_seconds.specs.Seconds.{HaveLines, line_at}
use Rattle.riders.specs.Waiting.{NobodyIs, AllBefore, at_stop}
use Rattle.part_persons.{proofs.Early.woken_all, specs.Dues.due_at_place}
use Rattle.part_lines.proofs.{Behind.IsEarlier, News.IsBefore, News.WaitBefore, News.many_through, Standing.at_this, Standing.as_list, Standing.came_of}
use Rattle.part_lines.proofs.Standing.{came_none, one_more, joined_at, skipped, come_to_line, waiters_once, after_early, came_new, earlier_none, stays_early}
use Rattle.part_lines.specs.Coming.{came, with_one, joined_lines, CanJoin, CanAllJoin}

-- WHO STANDS IN A LINE
-- he waits since before second t and does not come in it, or came in it with a number below this one
abbrev pub IsBehind : Setup → ℕ → List Person → ℕ → Waiter → Type 0
IsBehind S t persons n x = (IsEarlier t x × (came S t x.person (get_or persons x.person nobody) ≡ None)) ⊎ ((x.since ≡ t) × (x.person < n))

AllBehind : Setup → ℕ → List Person → ℕ → List Waiter → Type 0
AllBehind S t persons n xs = Each (IsBehind S t persons n) xs

more_behind : (S : Setup) (t : ℕ) (persons : List Person) (n : ℕ) (xs : List Waiter) → AllBehind S t persons n xs → AllBehind S t persons (n + 1) xs
unfolding AllBehind
more_behind S t persons n [] h = tt
more_behind S t persons n (x ∷ xs) h =
    (elim h.0 [ inl e ↦ inl e | inr e ↦ inr (e.0, let lt = e.1 in omega arith) ], more_behind S t persons n xs h.1)

is_other : (S : Setup) (t n : ℕ) (persons : List Person) (w x : Waiter) → came S t n (get_or persons n nobody) ≡ Some w → IsBehind S t persons n x → x.person ≢ n
is_other S t n persons w x e (inl h) = λ q. absurd (let z = sym e ∙ ap (λ (k : ℕ). came S t k (get_or persons k nobody)) (sym q) ∙ h.1 in cc)
is_other S t n persons w x e (inr h) = λ q. absurd (let lt = h.1 in omega arith)

nobody_is : (S : Setup) (t n : ℕ) (persons : List Person) (w : Waiter) (xs : List Waiter) → came S t n (get_or persons n nobody) ≡ Some w
    → AllBehind S t persons n xs → NobodyIs n xs
unfolding AllBehind
nobody_is S t n persons w [] e h = tt
nobody_is S t n persons w (x ∷ xs) e h = (is_other S t n persons w x e h.0, nobody_is S t n persons w xs e h.1)

one_before : (S : Setup) (t n : ℕ) (persons : List Person) (w x : Waiter) → w.since ≡ t → w.person ≡ n → IsBehind S t persons n x → ComesBefore x w
one_before S t n persons w x s p (inl h) = inl (let e = h.0 in omega arith)
one_before S t n persons w x s p (inr h) = inr (h.0 ∙ sym s, let lt = h.1 in omega arith)

all_before : (S : Setup) (t n : ℕ) (persons : List Person) (w : Waiter) (xs : List Waiter) → w.since ≡ t → w.person ≡ n
    → AllBehind S t persons n xs → AllBefore xs w
unfolding AllBehind
all_before S t n persons w [] s p h = tt
all_before S t n persons w (x ∷ xs) s p h = (one_before S t n persons w x s p h.0, all_before S t n persons w xs s p h.1)

-- THE STOPS
-- a link is one of those in so many slots with these numbers
abbrev pub IsOneOf : (ℕ → ℕ) → ℕ → ℕ → Type 0
IsOneOf number size l = (k : ℕ) × ((k < size) × (number k ≡ l))

-- who came in second t came to a stop that has a line and lies on one of these links
pub record HasStop (number : ℕ → ℕ) (size : ℕ) (S : Setup) (count : ℕ) (w : Waiter) : Type 0 where
  pub line : w.stop < count
  pub link : IsOneOf number size (link_of_stop S w.stop)

abbrev pub HaveStops : (ℕ → ℕ) → ℕ → Setup → ℕ → ℕ → List Person → Type 0
HaveStops number size S t count persons =
    (i : ℕ) (w : Waiter) → i < length persons → came S t i (get_or persons i nobody) ≡ Some w → HasStop number size S count w

-- each line of a stop on one of these links has those alone who stand there before person n comes
abbrev AreBehind : (ℕ → ℕ) → ℕ → Setup → ℕ → List Person → ℕ → List (List Waiter) → Type 0
AreBehind number size S t persons n lines =
    (s : ℕ) → IsOneOf number size (link_of_stop S s) → AllBehind S t persons n (line_at lines s)

can_join : (number : ℕ → ℕ) (size : ℕ) (S : Setup) (t n count : ℕ) (persons : List Person) (lines : List (List Waiter)) (o : Option Waiter) → o ≡ came S t n (get_or persons n nobody)
    → n < length persons → count ≡ length lines → HaveStops number size S t count persons → AreBehind number size S t persons n lines → CanJoin o lines
can_join number size S t n count persons lines None e lt c h b = tt
can_join number size S t n count persons lines (Some w) e lt c h b =
    let has = h n w lt (sym e) in
    let new = came_new S t n (get_or persons n nobody) w (sym e) in
    let behind = b w.stop has.link in (
      subst (λ (k : ℕ). w.stop < k) c has.line,
      subst (λ (k : ℕ). NobodyIs k (line_at lines w.stop)) (sym new.person) (nobody_is S t n persons w (line_at lines w.stop) (sym e) behind),
      all_before S t n persons w (line_at lines w.stop) new.since new.person behind,
    )

came_behind : (S : Setup) (t n s : ℕ) (persons : List Person) (o : Option Waiter) → o ≡ came S t n (get_or persons n nobody)
    → AllBehind S t persons (n + 1) (at_this s o)
unfolding AllBehind at_this as_list
came_behind S t n s persons None e = tt
came_behind S t n s persons (Some w) e =
    let new = came_new S t n (get_or persons n nobody) w (sym e) in
    let p = new.person in
    let lt : w.person < n + 1 = omega arith in
    elim (cases_Bool (eqb w.stop s)) [ inl q ↦ rw q (inr (new.since, lt), tt) | inr q ↦ rw q tt ]

next_behind : (number : ℕ → ℕ) (size : ℕ) (S : Setup) (t n : ℕ) (persons : List Person) (lines : List (List Waiter))
    → CanJoin (came S t n (get_or persons n nobody)) lines → AreBehind number size S t persons n lines
    → AreBehind number size S t persons (n + 1) (with_one (came S t n (get_or persons n nobody)) lines)
unfolding AllBehind
next_behind number size S t n persons lines can b = λ s on.
    let o = came S t n (get_or persons n nobody) in
    subst (λ (xs : List Waiter). AllBehind S t persons (n + 1) xs) (sym (one_more o lines s can))
    (each_append (IsBehind S t persons (n + 1)) (line_at lines s) (at_this s o) (more_behind S t persons n (line_at lines s) (b s on))
    (came_behind S t n s persons o refl))

as_many_lines : (o : Option Waiter) (lines : List (List Waiter)) → length (with_one o lines) ≡ length lines
as_many_lines None lines = refl
as_many_lines (Some w) lines = length-set lines w.stop _

can_from : (number : ℕ → ℕ) (size : ℕ) (S : Setup) (t count : ℕ) (persons : List Person) (awake : ℕ → Bool) (k n : ℕ) (lines : List (List Waiter)) → k + n ≤ length persons
    → count ≡ length lines → HaveStops number size S t count persons → AreBehind number size S t persons k lines → CanAllJoin S t persons (filter awake (numbers k n)) lines
unfolding CanAllJoin
can_from number size S t count persons awake k zero lines le c h b = tt
can_from number size S t count persons awake k (suc n) lines le c h b =
    let there : k < length persons = omega arith in
    let rest : (k + 1) + n ≤ length persons = omega arith in
    elim (cases_Bool (awake k)) [
      | inl e ↦
          let o = came S t k (get_or persons k nobody) in
          let can : CanJoin o lines = can_join number size S t k count persons lines o refl there c h b in
          rw e (there, can, can_from number size S t count persons awake (k + 1) n (with_one o lines) rest (c ∙ sym (as_many_lines o lines)) h (next_behind number size S t k persons lines can b))
      | inr e ↦
          rw e (can_from number size S t count persons awake (k + 1) n lines rest c h (λ s on. more_behind S t persons k (line_at lines s) (b s on)))
    ]

-- WHO WAITED
behind_among : (P : Waiter → Type 0) (w : Waiter) (xs : List Waiter) → P w → Each P xs → Each P (among w xs)
unfolding among
behind_among P w [] h g = (h, tt)
behind_among P w (x ∷ xs) h g = elim (cases_Bool (comes_first w x)) [ inl e ↦ rw e (h, g) | inr e ↦ rw e (g.0, behind_among P w xs h g.1) ]

behind_turn : (P : Waiter → Type 0) (xs : List Waiter) → Each P xs → Each P (in_turn xs)
unfolding in_turn
behind_turn P [] h = tt
behind_turn P (x ∷ xs) h = behind_among P x (in_turn xs) h.0 (behind_turn P xs h.1)

each_flat : (P : Waiter → Type 0) (f : ℕ → List Waiter) (k n : ℕ) → ((i : ℕ) → i < k + n → Each P (f i)) → Each P (flat_map f (numbers k n))
each_flat P f k zero h = tt
each_flat P f k (suc n) h = each_append P (f k) (flat_map f (numbers (k + 1) n)) (h k (omega arith)) (each_flat P f (k + 1) n (λ i lt. h i (omega arith)))

-- whether somebody waits at this place
IsWaiting : Place → Type 0
IsWaiting (At end) = ⊥
IsWaiting (Teleporting start) = ⊥
IsWaiting (Waiting stop since) = Unit {0}
IsWaiting (Riding vehicle) = ⊥
IsWaiting (Aborted link) = ⊥

waited_on_leg : (S : Setup) (t i : ℕ) (persons : List Person) (w : Leg) (next : Act) (stop since : ℕ) → since < t
    → came S t i (get_or persons i nobody) ≡ None → Each (IsBehind S t persons 0) (waits i w next stop since)
waited_on_leg S t i persons (leg.Car route) next stop since lt e = tt
waited_on_leg S t i persons (leg.Teleport mode seconds) next stop since lt e = tt
waited_on_leg S t i persons (leg.Transit line access egress) next stop since lt e = (inl (lt, e), tt)

waited_at_place : (S : Setup) (t l i : ℕ) (persons : List Person) (w : Leg) (next : Act) (p : Place) → IsBefore t p
    → (IsWaiting p → came S t i (get_or persons i nobody) ≡ None) → Each (IsBehind S t persons 0) (waits_on S l i w next p)
unfolding IsWaiting
waited_at_place S t l i persons w next (At end) h e = tt
waited_at_place S t l i persons w next (Teleporting start) h e = tt
waited_at_place S t l i persons w next (Waiting stop since) h e =
    elim (cases_Bool (eqb (link_of_stop S stop) l)) [ inl q ↦ rw q (waited_on_leg S t i persons w next stop since h (e tt)) | inr q ↦ rw q tt ]
waited_at_place S t l i persons w next (Riding vehicle) h e = tt
waited_at_place S t l i persons w next (Aborted link) h e = tt

not_due : (t : ℕ) (w : Leg) (p : Place) → IsWaiting p → due_at_place w p ≢ Some t
unfolding IsWaiting
not_due t w (At end) h = absurd h
not_due t w (Teleporting start) h = absurd h
not_due t w (Waiting stop since) h = λ e. absurd (cc)
not_due t w (Riding vehicle) h = absurd h
not_due t w (Aborted link) h = absurd h

waited : (S : Setup) (t l : ℕ) (W : World) → WaitBefore t W → Each (IsBehind S t (after_early S t W).persons 0) (waiters S l W)
unfolding waiters
waited S t l W before =
    let persons = (after_early S t W).persons in
    each_flat (IsBehind S t persons 0) (λ (i : ℕ). waiter S l i (person_of i W)) 0 (length W.persons)
    (λ i lt. (
    let P = person_of i W in
    let there : i < length W.persons = omega arith in
    waited_at_place S t l i persons (leg_at S i P.element) (act_after S i P.element) P.place (before i there)
    (λ w. ap (came S t i) (stays_early S t i W (not_due t (leg_at S i P.element) P.place w)) ∙ earlier_none S t i P (before i there))))

-- ALL TOGETHER
-- the lines have those who wait in a world at the stops of each of these links
abbrev pub LinesHave : (ℕ → ℕ) → ℕ → Setup → List (List Waiter) → World → Type 0
LinesHave number size S lines W =
    (k : ℕ) → k < size → HaveLines (λ (s : ℕ). eqb (link_of_stop S s) (number k)) lines (waiters S (number k) W)

lines_behind : (number : ℕ → ℕ) (size : ℕ) (S : Setup) (t : ℕ) (W : World) (lines : List (List Waiter)) → WaitBefore t W
    → LinesHave number size S lines W → AreBehind number size S t (after_early S t W).persons 0 lines
unfolding AllBehind
lines_behind number size S t W lines before have = λ s on.
    let l = link_of_stop S s in
    let P = IsBehind S t (after_early S t W).persons 0 in
    let is : HaveLines (λ (x : ℕ). eqb (link_of_stop S x) l) lines (waiters S l W)
    = subst (λ (m : ℕ). HaveLines (λ (x : ℕ). eqb (link_of_stop S x) m) lines (waiters S m W)) on.1.1 (have on.0 on.1.0) in
    subst (λ (xs : List Waiter). Each P xs) (sym (is.each s (eq-eqb l l refl)))
    (behind_turn P (filter (λ (w : Waiter). eqb w.stop s) (waiters S l W))
    (each_kept P (λ (w : Waiter). eqb w.stop s) (waiters S l W) (waited S t l W before)))

-- those who are woken can come to the lines of their stops
pub can_all_join_at : (number : ℕ → ℕ) (size : ℕ) (S : Setup) (t count : ℕ) (W : World) (wakes : List (Option ℕ)) (ns : List ℕ)
    (lines : List (List Waiter)) → WaitBefore t W → LinesHave number size S lines W → count ≡ length lines
    → HaveStops number size S t count (after_early S t W).persons → length wakes ≡ length W.persons
    → ns ≡ woken t wakes → CanAllJoin S t (after_early S t W).persons ns lines
can_all_join_at number size S t count W wakes ns lines before have c stops n e =
    let persons = (after_early S t W).persons in
    let many : length persons ≡ length W.persons = many_through S t (phase.A ∷ phase.B1 ∷ phase.B2 ∷ []) W in
    let le : 0 + length wakes ≤ length persons = omega arith in
    subst (λ (xs : List ℕ). CanAllJoin S t persons xs lines) (sym (e ∙ woken_all t wakes))
    (can_from number size S t count persons (is_woken t wakes) 0 (length wakes) lines le c stops (lines_behind number size S t W lines before have))

-- and then the lines stand for those who wait
pub lines_have_at : (number : ℕ → ℕ) (size : ℕ) (S : Setup) (t : ℕ) (W : World) (wakes : List (Option ℕ)) (ns : List ℕ)
    (lines : List (List Waiter)) → WaitBefore t W → LinesHave number size S lines W → length wakes ≡ length W.persons → ns ≡ woken t wakes
    → ((i : ℕ) → is_woken t wakes i ≡ false → person_of i (after_early S t W) ≡ person_of i W)
    → CanAllJoin S t (after_early S t W).persons ns lines
    → LinesHave number size S (joined_lines S t (after_early S t W).persons ns lines) (after_early S t W)
lines_have_at number size S t W wakes ns lines before have n e others can = λ k on.
    let l = number k in
    let V = after_early S t W in
    record {
      once = waiters_once S l V;
      each = λ s h. (
          let f = came_of S t s V.persons in
          let idle : (i : ℕ) → i < 0 + length wakes → is_woken t wakes i ≡ false → f i ≡ []
          = λ i lt off. came_none S t s i V.persons (ap (came S t i) (others i off) ∙ earlier_none S t i (person_of i W) (before i (omega arith))) in
          joined_at S t V.persons ns lines s can
          ∙ ap (λ (xs : List Waiter). xs ++ flat_map f ns) ((have k on).each s h)
          ∙ ap (λ (is : List ℕ). at_stop s (waiters S l W) ++ flat_map f is) (e ∙ woken_all t wakes)
          ∙ ap (λ (xs : List Waiter). at_stop s (waiters S l W) ++ xs)
          (skipped f (is_woken t wakes) 0 (length wakes) idle ∙ ap (λ (m : ℕ). flat_map f (below m)) n)
          ∙ sym (come_to_line S t l s W h before));
    }
