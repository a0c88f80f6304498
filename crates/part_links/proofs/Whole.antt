-- What the turns of those links that are woken make is what the turns of the links in all slots make.
use Rattle.traffic.proofs.Common.{◌≡◌, ◌≢◌, ℕ, zero, suc, ◌+◌, ◌-◌, ◌<◌, ◌≤◌, Bool, true, false, List, ◌∙◌, ap, refl, sym, subst, [], ◌∷◌, ◌++◌, inl, inr}
use Rattle.traffic.proofs.Common.{arith, length, eqb, eqb-true, eqb-false, cases_Bool, length-map, get_or-map, ne_eqb, eq-eqb, map, filter, flat_map}
use Rattle.traffic.proofs.Common.{flat_map-append, Option, None, Some, Event, Setup, World, Turn, told, phase_code, keyed, link_turns, link_state, rules}
use Rattle.traffic.proofs.Common.{raised, waiters, LinkState, run, after, turns, turn_of, moves_of, events_in, below, numbers, nat_lt}
use Rattle.traffic.proofs.{Each.each_number, Each.each_weaker, Links.link-at, Links.link_state-other, Phases.links_apart, Sublists.run-append, Turns.Fresh}
use Rattle.traffic.proofs.{Turns.Distinct, Turns.turns_at_once, Turns.moves_of-map, Waiting.waiters-other}
use Rattle.traffic.specs.declared.{moves.Move.Move, moves.Move.TheVariants.Credit, moves.Occurrence.Occurrence, numbers.Rules.Rules, world.Waiter.Waiter}
use Rattle.std.{proofs.lemmas.Bool.ltb-false, proofs.lemmas.Bool.ltb-true, specs.List.AllByRecursion as Each, specs.Prelude.max}
use Rattle.events.specs.declared.event.Phase.TheVariants as phase
use Rattle.fixed_flow.specs.Flow.{raised_times}
use Rattle.rows.specs.declared.settings.Dwelling.{Dwelling}
use Rattle.law_sleeping.proofs.{Resting.link_rest, Settling.turn_settles, Sleep.credits_run, Sleep.link_state_run}
use Rattle.law_sleeping.specs.Quiet.{IsQuiet, IsSettled, IsBy, link_state_after_all}
use Rattle.calendar.{proofs.Woken.woken_is, specs.Due.AreIn}
use Rattle.calendar.specs.Waking.{wake_of, is_second, is_woken, woken, slept, within}
use Rattle.queue_link.specs.{Links.LinkView, Numbers.rules_of, Waking.due_of}
use Rattle.link_seconds.specs.Seconds.{HaveLines, lists_at, left_after}
use Rattle.law_waking.{proofs.Lines.turn_leaves, proofs.Resting.settled_rests, specs.Resting.Rests, specs.Resting.sleeps_to}
use Rattle.node_seconds.specs.Networks.{lane, is_among, AreOnce}
use Rattle.part_links.proofs.{Heard.heard_by, Numbers.among_passed, Numbers.once_passed, Standing.link_is, Standing.rules_are}
use Rattle.part_links.specs.Links.{IsLink, AreNumbered, LinksStandAt, LinesStandAt, AreAsleep, lies_on, no_sooner, wake_after}
use Rattle.part_links.specs.Phase.{of_persons, turned, keyed_by, told_by, waiting_behind, AreTurned, turns_at, IsPhaseAt}

-- WHO IS WOKEN
woken_below : (t : ℕ) (due : List (Option ℕ)) → woken t due ≡ filter (is_woken t due) (below (length due))
woken_below t due = woken_is numbers t due (record { none = λ n. refl; more = λ n count. refl })

-- WHO WAITS AFTER THE PHASE
fresh_apart : (l : ℕ) (ns : List ℕ) → Fresh l ns → is_among l ns ≡ false
fresh_apart l [] h = refl
fresh_apart l (n ∷ ns) h = let e : eqb n l ≡ false = ne_eqb n l h.0 in rw e (fresh_apart l ns h.1)

after_first : (S : Setup) (t n : ℕ) (ns : List ℕ) (V : World) → after S t (turns S t (link_turns S t) (n ∷ ns) V) V
    ≡ after S t (turns S t (link_turns S t) ns (run S t (link_turns S t n V) V)) (run S t (link_turns S t n V) V)
unfolding turns
after_first S t n ns V =
    run-append S t (link_turns S t n V) (moves_of (turns S t (link_turns S t) ns (run S t (link_turns S t n V) V))) V

waiting_after : (S : Setup) (t l : ℕ) (ns : List ℕ) (V : World) → Distinct ns
    → waiters S l (after S t (turns S t (link_turns S t) ns V) V) ≡ waiting_behind S t l V (is_among l ns)
unfolding turns
waiting_after S t l [] V h = refl
waiting_after S t l (n ∷ ns) V h =
    let U = run S t (link_turns S t n V) V in
    let first = ap (waiters S l) (after_first S t n ns V) in
    let rest = waiting_after S t l ns U h.1 in
    elim (cases_Bool (eqb n l)) [
      | inl e ↦
          let same : n ≡ l = eqb-true n l e in
          let none : is_among l ns ≡ false = subst (λ (k : ℕ). is_among k ns ≡ false) same (fresh_apart n ns h.0) in
          let own : waiters S l U ≡ left_after (link_turns S t l V) (waiters S l V)
          = subst (λ (k : ℕ). waiters S l (run S t (link_turns S t k V) V) ≡ left_after (link_turns S t l V) (waiters S l V)) (sym same)
          (turn_leaves S t l (rules S l) (link_state l V) V) in
          first ∙ rest ∙ ap (waiting_behind S t l U) none ∙ own ∙ ap (λ (b : Bool). waiting_behind S t l V b) (sym (among_first n l ns e))
      | inr e ↦
          let ne : l ≢ n = λ q. eqb-false n l e (sym q) in
          let kept : waiters S l U ≡ waiters S l V = waiters-other S t n l (rules S n) (link_state n V) V ne in
          let plan : link_turns S t l U ≡ link_turns S t l V = links_apart S t l n V ne in
          first ∙ rest ∙ behind_same S t l U V (is_among l ns) kept plan
          ∙ ap (λ (b : Bool). waiting_behind S t l V b) (sym (among_later n l ns e))
    ]
  where
    among_first : (a b : ℕ) (xs : List ℕ) → eqb a b ≡ true → is_among b (a ∷ xs) ≡ true
    among_first a b xs q = rw q refl

    among_later : (a b : ℕ) (xs : List ℕ) → eqb a b ≡ false → is_among b (a ∷ xs) ≡ is_among b xs
    among_later a b xs q = rw q refl

    behind_same : (R : Setup) (u k : ℕ) (A B : World) (b : Bool) → waiters R k A ≡ waiters R k B → link_turns R u k A ≡ link_turns R u k B
        → waiting_behind R u k A b ≡ waiting_behind R u k B b
    behind_same R u k A B true w p = ap (λ (ms : List Move). left_after ms (waiters R k A)) p ∙ ap (left_after (link_turns R u k B)) w
    behind_same R u k A B false w p = w

-- the lists of a link once those of these numbers had their turns
state_behind : Setup → ℕ → ℕ → World → Bool → LinkState
state_behind S t l V true = link_state_after_all l (link_turns S t l V) (link_state l V)
state_behind S t l V false = link_state l V

state_after : (S : Setup) (t l : ℕ) (ns : List ℕ) (V : World) → Distinct ns → l < length V.credits
    → link_state l (after S t (turns S t (link_turns S t) ns V) V) ≡ state_behind S t l V (is_among l ns)
unfolding turns state_behind
state_after S t l [] V h long = refl
state_after S t l (n ∷ ns) V h long =
    let U = run S t (link_turns S t n V) V in
    let credits : length U.credits ≡ length V.credits = credits_run S t (link_turns S t n V) V in
    let later : l < length U.credits = omega arith in
    let rest = ap (link_state l) (after_first S t n ns V) ∙ state_after S t l ns U h.1 later in
    elim (cases_Bool (eqb n l)) [
      | inl e ↦
          let same : n ≡ l = eqb-true n l e in
          let none : is_among l ns ≡ false = subst (λ (k : ℕ). is_among k ns ≡ false) same (fresh_apart n ns h.0) in
          let own : link_state l U ≡ link_state_after_all l (link_turns S t l V) (link_state l V)
          = subst (λ (k : ℕ). link_state l (run S t (link_turns S t k V) V) ≡ link_state_after_all l (link_turns S t l V) (link_state l V)) (sym same)
          (link_state_run S t l (link_turns S t l V) V long) in
          rest ∙ ap (state_behind S t l U) none ∙ own ∙ ap (λ (b : Bool). state_behind S t l V b) (sym (is_first n l ns e))
      | inr e ↦
          let ne : l ≢ n = λ q. eqb-false n l e (sym q) in
          let kept : link_state l U ≡ link_state l V = link_state-other S t n l (link_turns S t n V) V ne (link-at S t n V) in
          let plan : link_turns S t l U ≡ link_turns S t l V = links_apart S t l n V ne in
          rest ∙ state_same S t l U V (is_among l ns) kept plan ∙ ap (λ (b : Bool). state_behind S t l V b) (sym (is_later n l ns e))
    ]
  where
    is_first : (a b : ℕ) (xs : List ℕ) → eqb a b ≡ true → is_among b (a ∷ xs) ≡ true
    is_first a b xs q = rw q refl

    is_later : (a b : ℕ) (xs : List ℕ) → eqb a b ≡ false → is_among b (a ∷ xs) ≡ is_among b xs
    is_later a b xs q = rw q refl

    state_same : (R : Setup) (u k : ℕ) (A B : World) (b : Bool) → link_state k A ≡ link_state k B → link_turns R u k A ≡ link_turns R u k B
        → state_behind R u k A b ≡ state_behind R u k B b
    state_same R u k A B true s p =
        ap (λ (ms : List Move). link_state_after_all k ms (link_state k A)) p ∙ ap (link_state_after_all k (link_turns R u k B)) s
    state_same R u k A B false s p = s

-- LINKS IN SLOTS
fresh_slots : (S : Setup) (size j k n : ℕ) (number : ℕ → ℕ) → AreNumbered S size number → j < k → k + n ≤ size
    → Fresh (number j) (map number (numbers k n))
fresh_slots S size j k zero number h lt le = tt
fresh_slots S size j k (suc n) number h lt le =
    let a : j < size = omega arith in
    let b : k < size = omega arith in
    let ne : k ≢ j = omega arith in
    (λ e. ne (h.apart k j b a e), fresh_slots S size j (k + 1) n number h (omega arith) (omega arith))

distinct_slots : (S : Setup) (size k n : ℕ) (number : ℕ → ℕ) → AreNumbered S size number → k + n ≤ size → Distinct (map number (numbers k n))
distinct_slots S size k zero number h le = tt
distinct_slots S size k (suc n) number h le =
    (fresh_slots S size k (k + 1) n number h (omega arith) (omega arith), distinct_slots S size (k + 1) n number h (omega arith))

pub distinct_numbers : (S : Setup) (size : ℕ) (number : ℕ → ℕ) → AreNumbered S size number → Distinct (map number (below size))
distinct_numbers S size number h = distinct_slots S size 0 size number h (omega arith)

among_slots : (number : ℕ → ℕ) (l k n : ℕ) → k ≤ l → l < k + n → is_among (number l) (map number (numbers k n)) ≡ true
among_slots number l k zero low high = absurd (omega arith)
among_slots number l k (suc n) low high =
    elim (cases_Bool (eqb k l)) [
      | inl e ↦
          let same : k ≡ l = eqb-true k l e in
          let own : eqb (number k) (number l) ≡ true = eq-eqb (number k) (number l) (ap number same) in
          rw own refl
      | inr e ↦
          let ne : k ≢ l = eqb-false k l e in
          elim (cases_Bool (eqb (number k) (number l))) [
            | inl q ↦ rw q refl
            | inr q ↦ rw q (among_slots number l (k + 1) n (omega arith) (omega arith))
          ]
    ]

pub all_waiting : (number : ℕ → ℕ) (size : ℕ) (S : Setup) (t k : ℕ) (V : World) → AreNumbered S size number → k < size
    → waiters S (number k) (after S t (turns_at number size S t V) V) ≡ left_after (link_turns S t (number k) V) (waiters S (number k) V)
all_waiting number size S t k V h lt =
    waiting_after S t (number k) (map number (below size)) V (distinct_numbers S size number h)
    ∙ ap (waiting_behind S t (number k) V) (among_slots number k 0 size (omega arith) (omega arith))

pub all_states : (number : ℕ → ℕ) (size : ℕ) (S : Setup) (t k : ℕ) (V : World) → AreNumbered S size number → k < size
    → number k < length V.credits → link_state (number k) (after S t (turns_at number size S t V) V)
    ≡ link_state_after_all (number k) (link_turns S t (number k) V) (link_state (number k) V)
unfolding state_behind
all_states number size S t k V h lt long =
    state_after S t (number k) (map number (below size)) V (distinct_numbers S size number h) long
    ∙ ap (state_behind S t (number k) V) (among_slots number k 0 size (omega arith) (omega arith))

-- A LINK THAT IS NOT WOKEN
quiet_turn : (S : Setup) (t l : ℕ) (V : World) (v : LinkView) → IsLink S l v → lists_at t v ≡ link_state l V
    → IsQuiet (rules_of v.numbers S.settings.dwell) t v.numbers.link (lists_at t v)
    → link_turns S t l V ≡ Credit l (raised (rules S l).gain (link_state l V).credit) ∷ []
quiet_turn S t l V v h e q =
    let a : IsQuiet (rules S l) t v.numbers.link (lists_at t v) = subst (λ (K : Rules). IsQuiet K t v.numbers.link (lists_at t v)) (rules_are S l v h) q in
    let b : IsQuiet (rules S l) t l (lists_at t v) = subst (λ (k : ℕ). IsQuiet (rules S l) t k (lists_at t v)) (link_is S l v h) a in
    let c : IsQuiet (rules S l) t l (link_state l V) = subst (λ (L : LinkState). IsQuiet (rules S l) t l L) e b in
    link_rest (rules S l) t l (waiters S l V) (link_state l V) c

-- with the gain of one second more
one_gain : (gain t k credit : ℕ) → k ≤ t → raised_times gain (t + 1 - k) credit ≡ raised gain (raised_times gain (t - k) credit)
unfolding raised_times
one_gain gain t k credit le = let e : t + 1 - k ≡ suc (t - k) = omega arith in ap (λ (n : ℕ). raised_times gain n credit) e

no_gain : (gain t credit : ℕ) → raised_times gain (t + 1 - (t + 1)) credit ≡ credit
unfolding raised_times
no_gain gain t credit = let e : t + 1 - (t + 1) ≡ 0 = omega arith in ap (λ (n : ℕ). raised_times gain n credit) e

credit_after : (l c : ℕ) (L : LinkState) → link_state_after_all l (Credit l c ∷ []) L ≡ record L { credit = c }
credit_after l c L = let e = eq-eqb l l refl in rw e refl

gain_is : (S : Setup) (l : ℕ) (v : LinkView) → IsLink S l v → v.numbers.gain ≡ (rules S l).gain
gain_is S l v h = ap (λ (K : Rules). K.gain) (rules_are S l v h)

quiet_lists : (S : Setup) (t l : ℕ) (V : World) (v : LinkView) → IsLink S l v → lists_at t v ≡ link_state l V → v.raised ≤ t
    → link_turns S t l V ≡ Credit l (raised (rules S l).gain (link_state l V).credit) ∷ []
    → lists_at (t + 1) v ≡ link_state_after_all l (link_turns S t l V) (link_state l V)
quiet_lists S t l V v h e le q =
    let gain = v.numbers.gain in
    let a : lists_at (t + 1) v ≡ record (lists_at t v) { credit = raised gain (lists_at t v).credit }
    = ap (λ (c : ℕ). record v.lists { credit = c }) (one_gain gain t v.raised v.lists.credit le) in
    a ∙ ap (λ (g : ℕ). record (lists_at t v) { credit = raised g (lists_at t v).credit }) (gain_is S l v h)
    ∙ ap (λ (L : LinkState). record L { credit = raised (rules S l).gain L.credit }) e
    ∙ sym (credit_after l (raised (rules S l).gain (link_state l V).credit) (link_state l V))
    ∙ ap (λ (ms : List Move). link_state_after_all l ms (link_state l V)) (sym q)

turned_lists : (S : Setup) (t l : ℕ) (V : World) (v w : LinkView) → w ≡ turned S t l V v
    → lists_at (t + 1) w ≡ link_state_after_all l (link_turns S t l V) (link_state l V)
turned_lists S t l V v w e =
    let M = link_state_after_all l (link_turns S t l V) (link_state l V) in
    ap (lists_at (t + 1)) e ∙ ap (λ (c : ℕ). record M { credit = c }) (no_gain v.numbers.gain t M.credit)

-- WHEN IT IS WOKEN AGAIN
later_due : (t u : ℕ) (d : Option ℕ) → no_sooner t d ≡ Some u → t ≤ u
later_due t u None e = absurd (let z : None ≡ Some u = e in cc)
later_due t u (Some w) e = let z : max t w ≡ u = (let y : Some (max t w) ≡ Some u = e in cc) in omega arith

within_is : (end u : ℕ) (d : Option ℕ) → within end d ≡ Some u → d ≡ Some u
within_is end u None e = e
within_is end u (Some w) e = elim (cases_Bool (nat_lt w end)) [ inl q ↦ rw q at e | inr q ↦ absurd (let z : None ≡ Some u = rw q at e in cc) ]

woken_later : (end t u : ℕ) (v : LinkView) → wake_after end t v ≡ Some u → t + 1 ≤ u
woken_later end t u v e = later_due (t + 1) u (due_of v.numbers t v.lists) (within_is end u (no_sooner (t + 1) (due_of v.numbers t v.lists)) e)

within_soon : (end u : ℕ) (d : Option ℕ) → within end d ≡ Some u → u < end
within_soon end u None e = absurd (let z : None ≡ Some u = e in cc)
within_soon end u (Some w) e =
    elim (cases_Bool (nat_lt w end)) [
      | inl q ↦ let same : w ≡ u = (let z : Some w ≡ Some u = rw q at e in cc) in subst (λ (k : ℕ). k < end) same (ltb-true w end q)
      | inr q ↦ absurd (let z : None ≡ Some u = rw q at e in cc)
    ]

woken_soon : (end t u : ℕ) (v : LinkView) → wake_after end t v ≡ Some u → u < end
woken_soon end t u v e = within_soon end u (no_sooner (t + 1) (due_of v.numbers t v.lists)) e

rests_less : (D : Dwelling) (now less due : ℕ) (v : LinkView) → ((x : ℕ) → now ≤ x → x < less → x < due) → Rests D now due v → Rests D now less v
rests_less D now less due v le h = λ x low high. h x low (le x low high)

rests_by : (D : Dwelling) (end t : ℕ) (v : LinkView) (d : Option ℕ) → ((due : ℕ) → IsBy due d → Rests D (t + 1) due v)
    → Rests D (t + 1) (sleeps_to end (within end (no_sooner (t + 1) d))) v
rests_by D end t v None h = h end tt
rests_by D end t v (Some u) h =
    let r = h u (omega arith) in
    elim (cases_Bool (nat_lt (max (t + 1) u) end)) [
      | inl q ↦ rw q (rests_less D (t + 1) (max (t + 1) u) u v (λ x low high. omega arith) r)
      | inr q ↦ let past : end ≤ max (t + 1) u = ltb-false (max (t + 1) u) end q in rw q (rests_less D (t + 1) end u v (λ x low high. omega arith) r)
    ]

turned_rests : (S : Setup) (end t l : ℕ) (V : World) (v w : LinkView) → IsLink S l v → w ≡ turned S t l V v
    → Rests S.settings.dwell (t + 1) (sleeps_to end (wake_after end t w)) w
turned_rests S end t l V v w h e =
    let D = S.settings.dwell in
    let W = turned S t l V v in
    let own = turn_settles (rules S l) t l (waiters S l V) (link_state l V) in
    subst (λ (x : LinkView). Rests D (t + 1) (sleeps_to end (wake_after end t x)) x) (sym e)
    (rests_by D end t W (due_of W.numbers t W.lists) (λ due by. settled_rests D t due W refl
    (subst (λ (k : ℕ). IsSettled (rules_of v.numbers D) t k W.lists) (sym (link_is S l v h))
    (subst (λ (K : Rules). IsSettled K t l W.lists) (sym (rules_are S l v h)) own)) by))

-- THE WHOLE PHASE
-- the links that are woken in second t are those in these slots
pub record Awake (number : ℕ → ℕ) (size : ℕ) (S : Setup) (end t : ℕ) (V : World) (ks : List ℕ) (old : List LinkView)
    (before now : List (Option ℕ)) : Type 0 where
  pub numbered : AreNumbered S size number
  pub stand : LinksStandAt number size S t old V
  pub asleep : AreAsleep S.settings.dwell end t old before
  pub in_day : t < end
  pub are : ks ≡ woken t before
  pub slept : now ≡ map (slept t) before

slept_off : (t : ℕ) (d : Option ℕ) → is_second t d ≡ false → slept t d ≡ d
slept_off t d e = rw e refl

sleeps_past : (end t : ℕ) (d : Option ℕ) → t < end → ((u : ℕ) → d ≡ Some u → t ≤ u) → is_second t d ≡ false → t < sleeps_to end d
sleeps_past end t None lt h e = lt
sleeps_past end t (Some u) lt h e = let ne : u ≢ t = eqb-false u t e in let le = h u refl in omega arith

told_skip : (X : Type 0) (p : ℕ → Bool) (f : ℕ → List X) (ns : List ℕ) → Each (λ (n : ℕ). p n ≡ false → f n ≡ []) ns → flat_map f (filter p ns) ≡ flat_map f ns
told_skip X p f [] h = refl
told_skip X p f (n ∷ ns) h =
    let rest = told_skip X p f ns h.1 in
    elim (cases_Bool (p n)) [
      | inl e ↦ rw e (ap (λ (xs : List X). f n ++ xs) rest)
      | inr e ↦ rw e (rest ∙ ap (λ (xs : List X). xs ++ flat_map f ns) (sym (h.0 e)))
    ]

events_map : (number : ℕ → ℕ) (S : Setup) (t : ℕ) (V : World) (ks : List ℕ)
    → events_in t phase.D (map (turn_of (link_turns S t) V) (map number ks)) ≡ flat_map (λ k. keyed_by S t V (number k)) ks
events_map number S t V [] = refl
events_map number S t V (k ∷ ks) = ap (λ (xs : List Event). keyed_by S t V (number k) ++ xs) (events_map number S t V ks)

told_map : (number : ℕ → ℕ) (S : Setup) (t : ℕ) (V : World) (ks : List ℕ)
    → flat_map told (flat_map (λ n. link_turns S t n V) (map number ks)) ≡ flat_map (λ k. told_by S t V (number k)) ks
told_map number S t V [] = refl
told_map number S t V (k ∷ ks) =
    flat_map-append told (link_turns S t (number k) V) (flat_map (λ m. link_turns S t m V) (map number ks))
    ∙ ap (λ (xs : List Occurrence). told_by S t V (number k) ++ xs) (told_map number S t V ks)

quiet_told : (S : Setup) (t n : ℕ) (V : World) (c : ℕ) → link_turns S t n V ≡ Credit n c ∷ [] → told_by S t V n ≡ []
quiet_told S t n V c e = ap (λ (ms : List Move). flat_map told ms) e

quiet_keyed : (S : Setup) (t n : ℕ) (V : World) → told_by S t V n ≡ [] → keyed_by S t V n ≡ []
unfolding keyed
quiet_keyed S t n V e = ap (λ (xs : List Occurrence). keyed t (phase_code phase.D) n 0 xs) e

module _ (number : ℕ → ℕ) (size : ℕ) (S : Setup) (end t : ℕ) (V : World) (ks : List ℕ) (old : List LinkView) (before now : List (Option ℕ))
    (g : Awake number size S end t V ks old before now) where
  slots : length before ≡ size
  slots = g.asleep.count ∙ g.stand.count

  in_old : (k : ℕ) → k < size → k < length old
  in_old k lt = let a = g.stand.count in omega arith

  numbers_are : ks ≡ filter (is_woken t before) (below size)
  numbers_are = g.are ∙ woken_below t before ∙ ap (λ (n : ℕ). filter (is_woken t before) (below n)) slots

  among_is : (k : ℕ) → k < size → is_among k ks ≡ is_second t (wake_of before k)
  among_is k lt = ap (is_among k) numbers_are ∙ among_passed (is_woken t before) k 0 size (omega arith) (omega arith)

  quiet_at : (k : ℕ) → k < size → is_among k ks ≡ false
      → link_turns S t (number k) V ≡ Credit (number k) (raised (rules S (number k)).gain (link_state (number k) V).credit) ∷ []
  quiet_at k lt out_of =
      let within_old = in_old k lt in
      let off : is_second t (wake_of before k) ≡ false = sym (among_is k lt) ∙ out_of in
      let past = sleeps_past end t (wake_of before k) g.in_day (λ u e. g.asleep.later k u within_old e) off in
      quiet_turn S t (number k) V (lane old k) (g.stand.numbers k lt) (g.stand.lists k lt) (g.asleep.rests k within_old t (omega arith) past)

  wake_kept : (k : ℕ) → k < size → is_among k ks ≡ false → wake_of now k ≡ wake_of before k
  wake_kept k lt out_of =
      let off : is_second t (wake_of before k) ≡ false = sym (among_is k lt) ∙ out_of in
      let n = slots in
      let there : k < length before = omega arith in
      ap (λ (xs : List (Option ℕ)). wake_of xs k) g.slept ∙ get_or-map (slept t) before k None None there ∙ slept_off t (wake_of before k) off

  -- what is told
  each_quiet : Each (λ (k : ℕ). is_woken t before k ≡ false → told_by S t V (number k) ≡ []) (below size)
  each_quiet =
      each_weaker (λ (k : ℕ). k < size) (λ (k : ℕ). is_woken t before k ≡ false → told_by S t V (number k) ≡ [])
      (λ k lt e. quiet_told S t (number k) V (raised (rules S (number k)).gain (link_state (number k) V).credit) (quiet_at k lt (among_is k lt ∙ e)))
      (below size) (each_number size 0 size (omega arith))

  all_told : (flat_map (λ k. keyed_by S t V (number k)) ks ≡ events_in t phase.D (turns_at number size S t V))
      × (flat_map (λ k. told_by S t V (number k)) ks ≡ flat_map told (moves_of (turns_at number size S t V)))
  all_told =
      let p = is_woken t before in
      let all = below size in
      let plan = link_turns S t in
      let tell = λ (k : ℕ). told_by S t V (number k) in
      let key = λ (k : ℕ). keyed_by S t V (number k) in
      let silent = each_weaker (λ (k : ℕ). p k ≡ false → tell k ≡ []) (λ (k : ℕ). p k ≡ false → key k ≡ [])
      (λ k h e. quiet_keyed S t (number k) V (h e)) all each_quiet in
      let at_once : turns_at number size S t V ≡ map (turn_of plan V) (map number all)
      = turns_at_once S t plan (links_apart S t) (map number all) V (distinct_numbers S size number g.numbered) in (
        ap (flat_map key) numbers_are ∙ told_skip Event p key all silent ∙ sym (events_map number S t V all) ∙ ap (events_in t phase.D) (sym at_once),
        ap (flat_map tell) numbers_are ∙ told_skip Occurrence p tell all each_quiet ∙ sym (told_map number S t V all)
            ∙ ap (λ (ms : List Move). flat_map told ms) (sym (moves_of-map plan V (map number all)))
            ∙ ap (λ (us : List Turn). flat_map told (moves_of us)) (sym at_once),
      )

  module _ (links : List LinkView) (lines : List (List Waiter)) (wakes : List (Option ℕ)) (events out : List Event) (said heard : List Occurrence)
      (h : AreTurned number S end t V ks old links lines now wakes events out said heard) where
    -- the links
    all_links : LinksStandAt number size S (t + 1) links (after S t (turns_at number size S t V) V)
    all_links =
        let After = after S t (turns_at number size S t V) V in
        let whole : (k : ℕ) → k < size
        → link_state (number k) After ≡ link_state_after_all (number k) (link_turns S t (number k) V) (link_state (number k) V)
        = λ k lt. all_states number size S t k V g.numbered lt (let a = g.stand.credits in let b = g.numbered.there k lt in omega arith) in
        record {
          count = h.count ∙ g.stand.count;
          credits = credits_run S t (moves_of (turns_at number size S t V)) V ∙ g.stand.credits;
          numbers = λ k lt.
              let q = g.stand.numbers k lt in
              elim (cases_Bool (is_among k ks)) [
                | inl a ↦ subst (IsLink S (number k)) (sym (h.done k (in_old k lt) a)) (record { numbers = q.numbers })
                | inr a ↦ subst (IsLink S (number k)) (sym (h.left k a)) q
              ];
          raised = λ k lt.
              let le = g.stand.raised k lt in
              elim (cases_Bool (is_among k ks)) [
                | inl a ↦ let e : (lane links k).raised ≡ t + 1 = ap (λ (v : LinkView). v.raised) (h.done k (in_old k lt) a) in omega arith
                | inr a ↦ let e : (lane links k).raised ≡ (lane old k).raised = ap (λ (v : LinkView). v.raised) (h.left k a) in omega arith
              ];
          lists = λ k lt.
              elim (cases_Bool (is_among k ks)) [
                | inl a ↦ turned_lists S t (number k) V (lane old k) (lane links k) (h.done k (in_old k lt) a) ∙ sym (whole k lt)
                | inr a ↦
                    ap (lists_at (t + 1)) (h.left k a)
                    ∙ quiet_lists S t (number k) V (lane old k) (g.stand.numbers k lt) (g.stand.lists k lt) (g.stand.raised k lt) (quiet_at k lt a)
                    ∙ sym (whole k lt)
              ];
        }

    -- the lines
    all_lines : LinesStandAt number size S lines (after S t (turns_at number size S t V) V)
    all_lines = λ k lt.
        let l = number k in
        let w = h.waits k (in_old k lt) in
        let whole = all_waiting number size S t k V g.numbered lt in
        let quiet : is_among k ks ≡ false → left_after (link_turns S t l V) (waiters S l V) ≡ waiters S l V
        = λ a. ap (λ (ms : List Move). left_after ms (waiters S l V)) (quiet_at k lt a) in
        let behind : waiting_behind S t l V (is_among k ks) ≡ left_after (link_turns S t l V) (waiters S l V)
        = elim (cases_Bool (is_among k ks)) [
          | inl a ↦ ap (waiting_behind S t l V) a
          | inr a ↦ ap (waiting_behind S t l V) a ∙ sym (quiet a)
        ] in
        subst (HaveLines (lies_on S l) lines) (behind ∙ sym whole) w

    -- who sleeps
    all_asleep : AreAsleep S.settings.dwell end (t + 1) links wakes
    all_asleep =
        let D = S.settings.dwell in
        let back : (k : ℕ) → k < length links → k < length old = λ k lt. (let a = h.count in omega arith) in
        let known : (k : ℕ) → k < length links → k < size = λ k lt. (let a = h.count in let b = g.stand.count in omega arith) in
        let kept : (k : ℕ) → k < length links → is_among k ks ≡ false → wake_of wakes k ≡ wake_of before k
        = λ k lt a. h.asleep k a ∙ wake_kept k (known k lt) a in
        record {
          count = h.slots ∙ ap length g.slept ∙ length-map before (slept t) ∙ g.asleep.count ∙ sym h.count;
          rests = λ k lt.
              elim (cases_Bool (is_among k ks)) [
                | inl a ↦
                    subst (λ (d : Option ℕ). Rests D (t + 1) (sleeps_to end d) (lane links k)) (sym (h.woken k (back k lt) a))
                    (turned_rests S end t (number k) V (lane old k) (lane links k) (g.stand.numbers k (known k lt)) (h.done k (back k lt) a))
                | inr a ↦
                    subst (λ (v : LinkView). Rests D (t + 1) (sleeps_to end (wake_of wakes k)) v) (sym (h.left k a))
                    (subst (λ (d : Option ℕ). Rests D (t + 1) (sleeps_to end d) (lane old k)) (sym (kept k lt a))
                    (λ x low high. g.asleep.rests k (back k lt) x (omega arith) high))
              ];
          later = λ k u lt e.
              elim (cases_Bool (is_among k ks)) [
                | inl a ↦ woken_later end t u (lane links k) (sym (h.woken k (back k lt) a) ∙ e)
                | inr a ↦
                    let was : wake_of before k ≡ Some u = sym (kept k lt a) ∙ e in
                    let le = g.asleep.later k u (back k lt) was in
                    let off : is_second t (Some u) ≡ false = ap (is_second t) (sym was) ∙ sym (among_is k (known k lt)) ∙ a in
                    let ne : u ≢ t = eqb-false u t off in
                    omega arith
              ];
          soon = λ k u lt e.
              elim (cases_Bool (is_among k ks)) [
                | inl a ↦ woken_soon end t u (lane links k) (sym (h.woken k (back k lt) a) ∙ e)
                | inr a ↦ g.asleep.soon k u (back k lt) (sym (kept k lt a) ∙ e)
              ];
        }

    whole : IsPhaseAt number size S end t V links lines wakes events out said heard
    whole = record {
      links = all_links;
      lines = all_lines;
      asleep = all_asleep;
      events = h.events ∙ ap (λ (xs : List Event). events ++ xs) all_told.0;
      said = h.said
          ∙ ap (λ (xs : List Occurrence). said ++ xs) (heard_by (λ (k : ℕ). told_by S t V (number k)) ks ∙ ap of_persons all_told.1);
    }

pub phase_is : (number : ℕ → ℕ) (size : ℕ) (S : Setup) (end t : ℕ) (V : World) (D : Dwelling) (ks : List ℕ) (old links : List LinkView)
    (lines : List (List Waiter)) (before now wakes : List (Option ℕ)) (events out : List Event) (said heard : List Occurrence)
    → AreNumbered S size number → S.settings.dwell ≡ D → LinksStandAt number size S t old V → AreAsleep D end t old before → t < end
    → ks ≡ woken t before → now ≡ map (slept t) before
    → AreTurned number S end t V ks old links lines now wakes events out said heard
    → IsPhaseAt number size S end t V links lines wakes events out said heard
phase_is number size S end t V D ks old links lines before now wakes events out said heard own d stand asleep lt ks_are now_is h =
    whole number size S end t V ks old before now
    (record {
      numbered = own;
      stand = stand;
      asleep = subst (λ (E : Dwelling). AreAsleep E end t old before) (sym d) asleep;
      in_day = lt;
      are = ks_are;
      slept = now_is;
    }) links lines wakes events out said heard h

-- WHO IS WOKEN
-- the numbers of links that are woken: each is there, and stands once
pub woken_there : (t count : ℕ) (before : List (Option ℕ)) (ns : List ℕ) → ns ≡ woken t before → length before ≡ count → AreIn count ns
woken_there t count before ns e len =
    subst (AreIn count) (sym (e ∙ woken_below t before ∙ ap (λ (k : ℕ). filter (is_woken t before) (below k)) len)) (all_in (is_woken t before) count 0 count (omega arith))
  where
    all_in : (p : ℕ → Bool) (bound k n : ℕ) → k + n ≤ bound → AreIn bound (filter p (numbers k n))
    all_in p bound k zero le = tt
    all_in p bound k (suc n) le =
        let rest = all_in p bound (k + 1) n (omega arith) in
        let first : k < bound = omega arith in
        elim (cases_Bool (p k)) [ inl q ↦ rw q (first, rest) | inr q ↦ rw q rest ]

pub woken_once : (t : ℕ) (before : List (Option ℕ)) (ns : List ℕ) → ns ≡ woken t before → AreOnce ns
woken_once t before ns e = subst AreOnce (sym (e ∙ woken_below t before)) (once_passed (is_woken t before) (length before))
