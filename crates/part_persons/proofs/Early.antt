-- Who is not woken has nothing to do in the phases in which persons land and leave.
use Rattle.traffic.proofs.Common.{◌≡◌, ◌≢◌, ℕ, ◌+◌, ◌<◌, Bool, true, false, List, ◌∙◌, ap, refl, sym, subst, [], ◌∷◌, ◌++◌, inl, inr, arith, length, get_or}
use Rattle.traffic.proofs.Common.{cases_Bool, eqb, eqb-true, eq-eqb, eqb-false, ne_eqb, true≢false, append-nil, append_assoc, length-map, get_or-map, filter}
use Rattle.traffic.proofs.Common.{map, ◌||◌, or_parts, Some, None, Option, Event, after, events_in, turns, turns_of, turns_in, TurnMoves, through, told_in, run}
use Rattle.traffic.proofs.Common.{World, Setup, person_of, landing, leaving, landing_moves, leaving_moves, landing_turns, leaving_turns, departure_turns, below}
use Rattle.traffic.proofs.Common.{numbers, act_at, leg_at, act_after, departure, Leg, Act}
use Rattle.traffic.proofs.{Each.each_all, Each.each_number, Each.each_weaker, Each.each_kept, Idle.departure_idle}
use Rattle.traffic.proofs.Persons.{flights_apart, leaves_apart, departures_apart, other_person, TellOf, landing_moves-of, leaving_moves-of}
use Rattle.traffic.{proofs.Turns.Distinct, proofs.Turns.Distinct-numbers, specs.Rows.nobody, specs.declared.moves.Move.Move}
use Rattle.traffic.specs.declared.world.{Person.Person, Place.Place, Place.TheVariants.At, Place.TheVariants.Teleporting}
use Rattle.std.specs.List.{AllByRecursion as Each}
use Rattle.events.specs.declared.event.Phase.TheVariants as phase
use Rattle.rows.specs.declared.plan.Leg.TheVariants as leg
use Rattle.law_in_range.specs.{Rows.IsFitWorld, Setups.counts_in}
use Rattle.town.specs.{Setups.setup_of, Views.setup, declared.day_input.DayInput.DayInput}
use Rattle.calendar.{proofs.Woken.AreNumbers, proofs.Woken.woken_is, specs.Due.AreIn}
use Rattle.calendar.specs.Waking.{wake_of, is_second, is_woken, woken, slept}
use Rattle.part_persons.proofs.{InOrder.all_turns, InOrder.after_more, Skipping.Idle, Skipping.distinct_filter, Skipping.skip_world, Skipping.skip_events}
use Rattle.part_persons.specs.{Dues.due_at_place, Dues.person_due, Dues.AreFollowed, Own.starts_in, Own.own_departures, Own.own_departs_in}
use Rattle.parts.specs.Owners.{Owner}

-- NOTHING TO DO
landing_none : (t i : ℕ) (w : Leg) (next : Act) (pl : Place) → due_at_place w pl ≢ Some t → landing t i w next pl ≡ []
landing_none t i (leg.Teleport mode seconds) next (Teleporting start) ne =
    elim (cases_Bool (eqb (start + seconds) t)) [
      | inl e ↦ absurd (ne (ap (λ (n : ℕ). Some n) (eqb-true (start + seconds) t e)))
      | inr e ↦ rw e refl
    ]
landing_none t i w next pl ne = refl

leaving_none : (S : Setup) (t i : ℕ) (here : Act) (w : Leg) (next : Act) (pl : Place) → due_at_place w pl ≢ Some t → leaving S t i here w next pl ≡ []
leaving_none S t i here w next (At (Some end)) ne =
    elim (cases_Bool (eqb end t)) [
      | inl e ↦ absurd (ne (ap (λ (n : ℕ). Some n) (eqb-true end t e)))
      | inr e ↦ rw e refl
    ]
leaving_none S t i here w next pl ne = refl

pub lands_not : (S : Setup) (t i : ℕ) (P : Person) → person_due S i P ≢ Some t → landing_moves S t i P ≡ []
unfolding landing_moves
lands_not S t i P ne = landing_none t i (leg_at S i P.element) (act_after S i P.element) P.place ne

pub leaves_not : (S : Setup) (t i : ℕ) (P : Person) → person_due S i P ≢ Some t → leaving_moves S t i P ≡ []
unfolding leaving_moves
leaves_not S t i P ne = leaving_none S t i (act_at S i P.element) (leg_at S i P.element) (act_after S i P.element) P.place ne

-- WHO IS WOKEN
woken_at : (t : ℕ) (wakes : List (Option ℕ)) (i : ℕ) → wake_of wakes i ≡ Some t → is_woken t wakes i ≡ true
woken_at t wakes i e = ap (is_second t) e ∙ eq-eqb t t refl

not_due : (S : Setup) (end t i : ℕ) (persons : List Person) (wakes : List (Option ℕ)) → AreFollowed S end t persons wakes → t < end → i < length persons
    → is_woken t wakes i ≡ false → person_due S i (get_or persons i nobody) ≢ Some t
not_due S end t i persons wakes h lt there e = λ due. true≢false (sym (woken_at t wakes i (h i t there (omega arith) lt due)) ∙ e)

are_numbers : AreNumbers numbers
are_numbers = record { none = λ n. refl; more = λ n count. refl }

pub woken_all : (t : ℕ) (wakes : List (Option ℕ)) → woken t wakes ≡ filter (is_woken t wakes) (below (length wakes))
woken_all t wakes = woken_is numbers t wakes are_numbers

pub woken_below : (t count : ℕ) (wakes : List (Option ℕ)) → length wakes ≡ count → AreIn count (woken t wakes)
woken_below t count wakes e =
    let P = λ (n : ℕ). n < count in
    subst (λ (ns : List ℕ). Each P ns) (sym (woken_all t wakes)) (each_kept P (is_woken t wakes) (below (length wakes)) (each_number count 0 (length wakes) (omega arith)))

pub woken_in : (t count : ℕ) (wakes : List (Option ℕ)) (due : List ℕ) → due ≡ woken t wakes → length wakes ≡ count → AreIn count due
woken_in t count wakes due d e = subst (λ (ns : List ℕ). AreIn count ns) (sym d) (woken_below t count wakes e)

pub slept_length : (t : ℕ) (wakes now : List (Option ℕ)) → now ≡ map (slept t) wakes → length now ≡ length wakes
slept_length t wakes now e = ap length e ∙ length-map wakes (slept t)

pub as_many : (day : DayInput) (W : World) → IsFitWorld (counts_in day) W → length W.persons ≡ length (setup day).persons
unfolding setup_of
as_many day W fit = fit.one_each

-- who is woken later is so still
pub taken_followed : (S : Setup) (end t : ℕ) (persons : List Person) (wakes now : List (Option ℕ)) → length wakes ≡ length persons → now ≡ map (slept t) wakes
    → AreFollowed S end t persons wakes → AreFollowed S end (t + 1) persons now
taken_followed S end t persons wakes now n e h = λ i u lt from to due.
    let w : wake_of wakes i ≡ Some u = h i u lt (omega arith) to due in
    let ne : u ≢ t = omega arith in
    let off : is_second t (Some u) ≡ false = ne_eqb u t ne in
    let there : i < length wakes = omega arith in
    ap (λ (xs : List (Option ℕ)). wake_of xs i) e ∙ get_or-map (slept t) wakes i None None there ∙ ap (slept t) w ∙ (rw off refl)

-- WHO IS NOT WOKEN STAYS
is_among : ℕ → List ℕ → Bool
is_among i [] = false
is_among i (n ∷ ns) = eqb n i || is_among i ns

others_stay : (S : Setup) (t i : ℕ) (plan : TurnMoves) → ((n : ℕ) (W : World) → TellOf n (plan n W)) → (ns : List ℕ) (W : World)
    → is_among i ns ≡ false → person_of i (after S t (turns S t plan ns W) W) ≡ person_of i W
unfolding is_among turns
others_stay S t i plan own [] W h = refl
others_stay S t i plan own (n ∷ ns) W h =
    let p = or_parts (eqb n i) (is_among i ns) h in
    let V = run S t (plan n W) W in
    ap (person_of i) (after_more S t (record { number = n; moves = plan n W }) (turns S t plan ns V) W)
    ∙ others_stay S t i plan own ns V p.1
    ∙ other_person S t n i (plan n W) W (λ q. eqb-false n i p.0 (sym q)) (own n W)

not_among : (p : ℕ → Bool) (i : ℕ) (ns : List ℕ) → p i ≡ false → is_among i (filter p ns) ≡ false
unfolding is_among
not_among p i [] e = refl
not_among p i (n ∷ ns) e =
    elim (cases_Bool (p n)) [
      | inl q ↦
          let ne : n ≢ i = λ z. true≢false (sym q ∙ ap p z ∙ e) in
          let f = ne_eqb n i ne in
          simp q (rw f (not_among p i ns e))
      | inr q ↦ simp q (not_among p i ns e)
    ]

all_idle : (count : ℕ) (awake : ℕ → Bool) (f : ℕ → List Move) → ((n : ℕ) → n < count → awake n ≡ false → f n ≡ [])
    → Each (Idle awake f) (below count)
all_idle count awake f h = each_weaker (λ (n : ℕ). n < count) (Idle awake f) h (below count) (each_number count 0 count (omega arith))

-- BOTH PHASES
pub record Early (S : Setup) (t : ℕ) (wakes : List (Option ℕ)) (W0 W2 : World) (old out : List Event) : Type 0 where
  pub world : W2 ≡ through S t (phase.A ∷ phase.B1 ∷ []) W0
  pub events : out ≡ old ++ told_in S t (phase.A ∷ phase.B1 ∷ []) W0
  pub others : (i : ℕ) → is_woken t wakes i ≡ false → person_of i W2 ≡ person_of i W0

pub early : (S : Setup) (end t : ℕ) (W0 W1 W2 : World) (wakes : List (Option ℕ)) (due : List ℕ) (old mid out : List Event)
    → length wakes ≡ length W0.persons → length W0.persons ≡ length S.persons → t < end → due ≡ woken t wakes → AreFollowed S end t W0.persons wakes
    → W1 ≡ after S t (all_turns S t phase.A due W0) W0 → mid ≡ old ++ events_in t phase.A (all_turns S t phase.A due W0)
    → W2 ≡ after S t (all_turns S t phase.B1 due W1) W1 → out ≡ mid ++ events_in t phase.B1 (all_turns S t phase.B1 due W1)
    → Early S t wakes W0 W2 old out
unfolding through told_in turns_in turns_of
early S end t W0 W1 W2 wakes due old mid out n m lt d h a ae b be =
    let awake = is_woken t wakes in
    let count = length S.persons in
    let len : length wakes ≡ count = n ∙ m in
    let is : due ≡ filter awake (below count) = d ∙ woken_all t wakes ∙ ap (λ (k : ℕ). filter awake (below k)) len in
    let lands = landing_turns S t in
    let leaves = leaving_turns S t in
    let apart = Distinct-numbers 0 count in
    let idle_a : Each (Idle awake (λ i. lands i W0)) (below count)
    = all_idle count awake (λ i. lands i W0) (λ i there e. lands_not S t i (person_of i W0) (not_due S end t i W0.persons wakes h lt (omega arith) e)) in
    let all_a = after S t (turns S t lands (below count) W0) W0 in
    let wa : W1 ≡ all_a
    = a ∙ ap (λ (ns : List ℕ). after S t (turns S t lands ns W0) W0) is ∙ skip_world S t lands awake (below count) W0 (flights_apart S t) apart idle_a in
    let ea : events_in t phase.A (turns S t lands due W0) ≡ events_in t phase.A (turns S t lands (below count) W0)
    = ap (λ (ns : List ℕ). events_in t phase.A (turns S t lands ns W0)) is ∙ skip_events S t phase.A lands awake (below count) W0 (flights_apart S t) apart idle_a in
    let stay : (i : ℕ) → awake i ≡ false → person_of i W1 ≡ person_of i W0
    = λ i e. ap (person_of i) a ∙ ap (λ (ns : List ℕ). person_of i (after S t (turns S t lands ns W0) W0)) is
    ∙ others_stay S t i lands (λ n W. landing_moves-of S t n (person_of n W)) (filter awake (below count)) W0 (not_among awake i (below count) e) in
    let left : (i : ℕ) → awake i ≡ false → person_of i W2 ≡ person_of i W1
    = λ i e. ap (person_of i) b ∙ ap (λ (ns : List ℕ). person_of i (after S t (turns S t leaves ns W1) W1)) is
    ∙ others_stay S t i leaves (λ n W. leaving_moves-of S t n (person_of n W)) (filter awake (below count)) W1 (not_among awake i (below count) e) in
    let idle_b : Each (Idle awake (λ i. leaves i W1)) (below count)
    = all_idle count awake (λ i. leaves i W1)
    (λ i there e. ap (leaving_moves S t i) (stay i e) ∙ leaves_not S t i (person_of i W0) (not_due S end t i W0.persons wakes h lt (omega arith) e)) in
    let wb : W2 ≡ after S t (turns S t leaves (below count) W1) W1
    = b ∙ ap (λ (ns : List ℕ). after S t (turns S t leaves ns W1) W1) is ∙ skip_world S t leaves awake (below count) W1 (leaves_apart S t) apart idle_b in
    let eb : events_in t phase.B1 (turns S t leaves due W1) ≡ events_in t phase.B1 (turns S t leaves (below count) W1)
    = ap (λ (ns : List ℕ). events_in t phase.B1 (turns S t leaves ns W1)) is ∙ skip_events S t phase.B1 leaves awake (below count) W1 (leaves_apart S t) apart idle_b in
    let second = λ (W : World). events_in t phase.B1 (turns S t leaves (below count) W) in
    record {
      world = wb ∙ ap (λ (W : World). after S t (turns S t leaves (below count) W) W) wa;
      events =
          be ∙ ap (λ (xs : List Event). mid ++ xs) (eb ∙ ap second wa)
          ∙ ap (λ (xs : List Event). xs ++ second all_a) (ae ∙ ap (λ (xs : List Event). old ++ xs) ea)
          ∙ append_assoc old (events_in t phase.A (turns S t lands (below count) W0)) (second all_a)
          ∙ ap (λ (xs : List Event). old ++ (events_in t phase.A (turns S t lands (below count) W0) ++ xs)) (sym (append-nil (second all_a)));
      others = λ i e. left i e ∙ stay i e;
    }

pub early_by : (S : Setup) (end t : ℕ) (W0 W1 W2 : World) (wakes : List (Option ℕ)) (due late : List ℕ) (old mid out : List Event)
    → length wakes ≡ length W0.persons → length W0.persons ≡ length S.persons → t < end → due ≡ woken t wakes → late ≡ woken t wakes
    → AreFollowed S end t W0.persons wakes
    → W1 ≡ after S t (all_turns S t phase.A due W0) W0 → mid ≡ old ++ events_in t phase.A (all_turns S t phase.A due W0)
    → W2 ≡ after S t (all_turns S t phase.B1 late W1) W1 → out ≡ mid ++ events_in t phase.B1 (all_turns S t phase.B1 late W1)
    → Early S t wakes W0 W2 old out
early_by S end t W0 W1 W2 wakes due late old mid out n m lt d l h a ae b be =
    let same : late ≡ due = l ∙ sym d in
    early S end t W0 W1 W2 wakes due old mid out n m lt d h a ae
    (b ∙ ap (λ (ns : List ℕ). after S t (all_turns S t phase.B1 ns W1) W1) same)
    (be ∙ ap (λ (ns : List ℕ). mid ++ events_in t phase.B1 (all_turns S t phase.B1 ns W1)) same)

-- DEPARTURES
-- The turns of departures ns, of which those may be left out that are not of this second.
pub record StartedAmong (S : Setup) (t : ℕ) (ns : List ℕ) (W0 W1 : World) (old out : List Event) : Type 0 where
  pub world : W1 ≡ after S t (turns S t (departure_turns S t) ns W0) W0
  pub events : out ≡ old ++ events_in t phase.B2 (turns S t (departure_turns S t) ns W0)

pub started_among : (S : Setup) (t : ℕ) (ns due : List ℕ) (W0 W1 : World) (old out : List Event) → Distinct ns
    → due ≡ filter (λ (n : ℕ). eqb (departure S n).second t) ns → W1 ≡ after S t (turns S t (departure_turns S t) due W0) W0
    → out ≡ old ++ events_in t phase.B2 (turns S t (departure_turns S t) due W0) → StartedAmong S t ns W0 W1 old out
started_among S t ns due W0 W1 old out apart d a ae =
    let awake = λ (n : ℕ). eqb (departure S n).second t in
    let starts = departure_turns S t in
    let idle : Each (Idle awake (λ n. starts n W0)) ns
    = each_all (Idle awake (λ n. starts n W0)) (λ n e. departure_idle S t n (eqb-false (departure S n).second t e)) ns in
    record {
      world = a ∙ ap (λ (ms : List ℕ). after S t (turns S t starts ms W0) W0) d ∙ skip_world S t starts awake ns W0 (departures_apart S t) apart idle;
      events =
          ae ∙ ap (λ (ms : List ℕ). old ++ events_in t phase.B2 (turns S t starts ms W0)) d
          ∙ ap (λ (xs : List Event). old ++ xs) (skip_events S t phase.B2 starts awake ns W0 (departures_apart S t) apart idle);
    }

-- those of a part
pub started_own : (S : Setup) (own : Owner) (p t : ℕ) (due : List ℕ) (W0 W1 : World) (old out : List Event) → due ≡ own_departs_in S own p t
    → W1 ≡ after S t (turns S t (departure_turns S t) due W0) W0 → out ≡ old ++ events_in t phase.B2 (turns S t (departure_turns S t) due W0)
    → StartedAmong S t (own_departures S own p) W0 W1 old out
started_own S own p t due W0 W1 old out =
    let all = below (length S.departures) in
    started_among S t (own_departures S own p) due W0 W1 old out (distinct_filter (starts_in S own p) all (Distinct-numbers 0 (length S.departures)))

pub own_in_range : (S : Setup) (own : Owner) (p t : ℕ) (due : List ℕ) → due ≡ own_departs_in S own p t → AreIn (length S.departures) due
own_in_range S own p t due e =
    let n = length S.departures in
    let there : ℕ → Type 0 = λ (d : ℕ). d < n in
    subst (λ (ns : List ℕ). AreIn n ns) (sym e)
    (each_kept there (λ (d : ℕ). eqb (departure S d).second t) (own_departures S own p)
    (each_kept there (starts_in S own p) (below n) (each_number n 0 n (omega arith))))
