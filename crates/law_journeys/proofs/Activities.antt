-- Activities end as planned.
use Rattle.traffic.proofs.Common.{person_after, ◌≡◌, ℕ, List, ◌∙◌, length, ap, refl, sym, subst, [], ◌∷◌, ◌++◌, ◌+◌, ◌*◌, ◌/◌, arith, ◌<◌, ◌≤◌, false, inl, inr, eqb, eqb-true, eqb-false, cases_Bool, suc, zero}
use Rattle.traffic.proofs.Common.{filter-append, append-nil, get_or, get_or-map, sum_by-cons, if◌then◌else◌, ◌&&◌, ◌||◌, Some, None, Option, Act, Leg, PlanRows, Phase, ◌≢◌}
use Rattle.traffic.proofs.Common.{day, events_from, world_start, world_at, world_from, at_home, first_end, ends_at, after, turns_in, turns_of, through, second, run, done, told, count_of}
use Rattle.traffic.proofs.Common.{leaving, leaving_moves, leaving_turns, departs, sets_out, nobody, car, of_person, link_of_stop, end_events, eq-eqb, World, person_of, Setup, act_at, leg_at, act_after, person_plan}
use Rattle.traffic.proofs.{Moments.along_given, Moments.along_weaker, Moments.along_both, Moments.kept_along, Persons.other_person, Persons.leaving_moves-of, Sublists.persons-length, Walks.phase_keeps, Walks.numbers_walk, Sublists.person-done}
use Rattle.traffic.specs.Moves.{arrive}
use Rattle.traffic.specs.declared.{moves.Move.Move, moves.Move.TheVariants.Enter, moves.Move.TheVariants.Report, world.Person.Person}
use Rattle.rows.specs.declared.plan.Leg.TheVariants as leg
use Rattle.events.specs.declared.event.More.TheVariants as more
use Rattle.traffic.specs.declared.world.Place.{Place, TheVariants.At, TheVariants.Teleporting, TheVariants.Waiting, TheVariants.Riding, TheVariants.Aborted}
use Rattle.std.specs.List.{AllByRecursion as Each}
use Rattle.std.specs.Prelude.{max}
use Rattle.events.specs.Persons.{names}
use Rattle.events.specs.declared.event.Phase.TheVariants as phase
use Rattle.events.specs.declared.event.Word.TheVariants as word
use Rattle.law_capacity.specs.Moves.{second_moves}
use Rattle.law_one_place.proofs.{Places.InOne, Turns.turn_keeps}
use Rattle.law_journeys.proofs.{Endings.IsStuck, Endings.end_stuck, Endings.day_news, History.KeepsHistory, History.IsKept, History.spoken, History.day_keeps, Places.one_cases, Places.one_moves, Places.start_one}
use Rattle.law_journeys.proofs.{Persons.Does, Persons.Still, Persons.GoesOn, Persons.Ends, Persons.Begins, Persons.DoesIt, Persons.IsAway, Persons.does_cases, Walk.departing, Walk.second_walk, Walk.turn}
use Rattle.law_journeys.specs.Journeys.{begins_activity, ends_activity, activities, begun, activity, EndsAt, EndAsPlanned}
use Rattle.law_journeys.specs.News.{News, news}

-- ONE AFTER THE OTHER
-- the end of the activity that he is at, where he is at one
abbrev State : Type 0
State = Option (Option ℕ)

abbrev one_begun : News → ℕ
one_begun e = if begins_activity e.what.word then 1 else 0

-- where he is after this, as activity k was the last to begin
abbrev next : Setup → ℕ → ℕ → News → State
next S i k e = if begins_activity e.what.word then Some (ends_at (activity S i (k + 1)).end e.second) else None

-- while he is at one, its end comes, in its second, which is below n
abbrev Fits : ℕ → State → News → Type 0
Fits n None e = Unit {0}
Fits n (Some d) e = (e.what.word ≡ word.ActEnd) × (d ≡ Some e.second) × (e.second < n)

abbrev Path : Setup → ℕ → ℕ → State → ℕ → List News → Type 0
Path S i n o k [] = Unit {0}
Path S i n o k (e ∷ es) = Fits n o e × Path S i n (next S i k e) (k + one_begun e) es

abbrev last_of : Setup → ℕ → State → ℕ → List News → State
last_of S i o k [] = o
last_of S i o k (e ∷ es) = last_of S i (next S i k e) (k + one_begun e) es

abbrev number_of : ℕ → List News → ℕ
number_of k [] = k
number_of k (e ∷ es) = number_of (k + one_begun e) es

path_more : (S : Setup) (i n : ℕ) (o : State) (k : ℕ) (es xs : List News) → Path S i n o k es → Path S i n (last_of S i o k es) (number_of k es) xs → Path S i n o k (es ++ xs)
path_more S i n o k [] xs h g = g
path_more S i n o k (e ∷ es) xs h g = (h.0, path_more S i n (next S i k e) (k + one_begun e) es xs h.1 g)

last_more : (S : Setup) (i : ℕ) (o : State) (k : ℕ) (es xs : List News) → last_of S i o k (es ++ xs) ≡ last_of S i (last_of S i o k es) (number_of k es) xs
last_more S i o k [] xs = refl
last_more S i o k (e ∷ es) xs = last_more S i (next S i k e) (k + one_begun e) es xs

number_more : (k : ℕ) (es xs : List News) → number_of k (es ++ xs) ≡ number_of (number_of k es) xs
number_more k [] xs = refl
number_more k (e ∷ es) xs = number_more (k + one_begun e) es xs

fits_later : (n : ℕ) (o : State) (e : News) → Fits n o e → Fits (suc n) o e
fits_later n None e h = tt
fits_later n (Some d) e h = let z = h.2 in (h.0, h.1, omega arith)

path_later : (S : Setup) (i n : ℕ) (o : State) (k : ℕ) (es : List News) → Path S i n o k es → Path S i (suc n) o k es
path_later S i n o k [] h = tt
path_later S i n o k (e ∷ es) h = (fits_later n o e h.0, path_later S i n (next S i k e) (k + one_begun e) es h.1)

-- he is where they say, after so many activities
abbrev Matches : State → ℕ → Person → Type 0
Matches None k P = IsAway P.place × (P.element ≡ 2 * k + 1)
Matches (Some d) k P = (P.place ≡ At d) × (P.element ≡ 2 * k)

abbrev first : Setup → ℕ → State
first S i = Some (activity S i 0).end

record IsOnPath (S : Setup) (i n : ℕ) (es : List News) (P : Person) : Type 0 where
  path : Path S i n (first S i) 0 es
  there : Matches (last_of S i (first S i) 0 es) (number_of 0 es) P

on_path : (S : Setup) (i n : ℕ) (es xs : List News) (Q : Person) → Path S i n (first S i) 0 es → Path S i n (last_of S i (first S i) 0 es) (number_of 0 es) xs → Matches (last_of S i (last_of S i (first S i) 0 es) (number_of 0 es) xs) (number_of (number_of 0 es) xs) Q → IsOnPath S i n (es ++ xs) Q
on_path S i n es xs Q h g m = record { path = path_more S i n (first S i) 0 es xs h g; there = rw (last_more S i (first S i) 0 es xs, number_more 0 es xs) m }

-- WHAT A MOVE DOES TO HIM
goes_on : (o : State) (k : ℕ) (P Q : Person) → IsAway P.place → IsAway Q.place → Q.element ≡ P.element → Matches o k P → Matches o k Q
goes_on None k P Q a b e m = (b, e ∙ m.1)
goes_on (Some d) k P Q a b e m = let z : IsAway (At d) = subst IsAway m.0 a in absurd z

ends_it : (S : Setup) (t i k : ℕ) (o : State) (e : News) (P Q : Person) → e.what.word ≡ word.ActEnd → e.second ≡ t → P.place ≡ At (Some t) → IsAway Q.place → Q.element ≡ P.element + 1 → Matches o k P → Fits (suc t) o e × Matches (next S i k e) (k + one_begun e) Q
ends_it S t i k None e P Q w s p a q m = let z : IsAway (At (Some t)) = subst IsAway p m.0 in absurd z
ends_it S t i k (Some d) e P Q w s p a q m =
    let d_is : At d ≡ At (Some t) = sym m.0 ∙ p in
    let due : d ≡ Some e.second = (let u : d ≡ Some t = cc in u ∙ ap (λ (x : ℕ). Some x) (sym s)) in
    let r = m.1 in
    let none : next S i k e ≡ None = rw w refl in
    let zero_more : k + one_begun e ≡ k = rw w (omega arith) in
    ((w, due, omega arith), rw (none, zero_more) (a, omega arith))

begins_it : (S : Setup) (t i k n : ℕ) (o : State) (e : News) (P Q : Person) → e.what.word ≡ word.ActStart → e.second ≡ t → IsAway P.place → Q ≡ arrive S t i P → Matches o k P → Fits n o e × Matches (next S i k e) (k + one_begun e) Q
begins_it S t i k n (Some d) e P Q w s a q m = let z : IsAway (At d) = subst IsAway m.0 a in absurd z
begins_it S t i k n None e P Q w s a q m =
    let r = m.1 in
    let half : (P.element + 1) / 2 ≡ k + 1 = omega arith in
    let act : act_at S i (P.element + 1) ≡ activity S i (k + 1) = ap (λ (j : ℕ). get_or (person_plan S i).acts j (record { kind = 0; link = 0; end = None })) half in
    let at_it : next S i k e ≡ Some (ends_at (act_at S i (P.element + 1)).end t) = rw w (ap (λ (x : Act). Some (ends_at x.end e.second)) (sym act) ∙ ap (λ (u : ℕ). Some (ends_at (act_at S i (P.element + 1)).end u)) s) in
    let one_more : k + one_begun e ≡ k + 1 = rw w refl in
    (tt, rw (at_it, one_more, q) (refl, omega arith))

does_step : (S : Setup) (t i : ℕ) (es xs : List News) (P Q : Person) → Does S t i xs P Q → IsOnPath S i (suc t) es P → IsOnPath S i (suc t) (es ++ xs) Q
does_step S t i es xs P Q (Still none same) h = rw (none, same) (on_path S i (suc t) es [] P h.path tt h.there)
does_step S t i es xs P Q (GoesOn none a b e) h = rw none (on_path S i (suc t) es [] Q h.path tt (goes_on (last_of S i (first S i) 0 es) (number_of 0 es) P Q a b e h.there))
does_step S t i es xs P Q (Ends e only w s p a q) h =
    let y = ends_it S t i (number_of 0 es) (last_of S i (first S i) 0 es) e P Q w s p a q h.there in
    rw only (on_path S i (suc t) es (e ∷ []) Q h.path (y.0, tt) y.1)
does_step S t i es xs P Q (Begins e only w s a q) h =
    let y = begins_it S t i (number_of 0 es) (suc t) (last_of S i (first S i) 0 es) e P Q w s a q h.there in
    rw only (on_path S i (suc t) es (e ∷ []) Q h.path (y.0, tt) y.1)

activities_more : (i : ℕ) (hs xs : List News) → activities i (hs ++ xs) ≡ activities i hs ++ activities i xs
activities_more i hs xs = filter-append (λ (e : News). (begins_activity e.what.word || ends_activity e.what.word) && names i e.what.person) hs xs

module _ (S : Setup) (i : ℕ) (lt : i < length S.persons) where
  abbrev OnPath : ℕ → List News → World → Type 0
  OnPath n hs W = IsOnPath S i n (activities i hs) (person_of i W)

  path_kept : IsKept OnPath S
  path_kept =
      record {
        begins = λ t hs W j. record { path = path_later S i t (first S i) 0 (activities i hs) j.path; there = j.there };
        moves = λ t. (
            let W = world_at S t in
            let does = along_given (λ V m. InOne i V) (λ V m. Does S t i (activities i (spoken t m)) (person_of i V) (person_of i (done S t m V))) S t (second_moves S t W) W (second_walk S t (DoesIt S t i) (does_cases S t i) W) (one_moves S i lt t) in
            along_weaker (λ V m. Does S t i (activities i (spoken t m)) (person_of i V) (person_of i (done S t m V))) (KeepsHistory (OnPath (suc t)) S t)
            (λ V m d hs j. rw (activities_more i hs (spoken t m)) (does_step S t i (activities i hs) (activities i (spoken t m)) (person_of i V) (person_of i (done S t m V)) d j)) S t (second_moves S t W) W does
            );
      }

-- THE START
first_is : (S : Setup) (i : ℕ) (acts : List Act) → first_end acts ≡ (get_or acts 0 (record { kind = 0; link = 0; end = None })).end
first_is S i [] = refl
first_is S i (a ∷ acts) = refl

path_start : (S : Setup) (i : ℕ) → i < length S.persons → IsOnPath S i 0 [] (person_of i (world_start S))
unfolding world_start
path_start S i lt =
    let none : PlanRows = record { acts = []; legs = [] } in
    let home : person_of i (world_start S) ≡ at_home (person_plan S i) = get_or-map at_home S.persons i none nobody lt in
    record { path = tt; there = rw home (ap (λ (d : Option ℕ). At d) (first_is S i (person_plan S i).acts), refl) }

-- NOBODY IS LATE
-- he is at no activity that ended before second n
abbrev InTime : ℕ → Person → Type 0
InTime n P = (u : ℕ) → P.place ≡ At (Some u) → n ≤ u

ends_later : (planned : Option ℕ) (t u : ℕ) → At (ends_at planned t) ≡ At (Some u) → suc t ≤ u
ends_later None t u e = absurd (cc)
ends_later (Some p) t u e = let q : max p (t + 1) ≡ u = cc in omega arith

does_in_time : (S : Setup) (t i n : ℕ) (es : List News) (P Q : Person) → n ≤ suc t → Does S t i es P Q → InTime n P → InTime n Q
does_in_time S t i n es P Q le (Still none same) h = rw same h
does_in_time S t i n es P Q le (GoesOn none a b e) h = λ u p. absurd (subst IsAway p b)
does_in_time S t i n es P Q le (Ends e only w s p a q) h = λ u p. absurd (subst IsAway p a)
does_in_time S t i n es P Q le (Begins e only w s a q) h = λ u p. (let k = ends_later (act_at S i (P.element + 1)).end t u (sym (ap (λ (X : Person). X.place) q) ∙ p) in omega arith)

-- the turn of a person whose activity ends now, or does not
leaving_cases : (T : List Move → Type 0) (S : Setup) (t j : ℕ) (here : Act) (w : Leg) (after : Act) (pl : Place) → ((pl ≡ At (Some t) → ⊥) → T []) → (pl ≡ At (Some t) → T (Report (departs j here w) ∷ sets_out S j w after)) → T (leaving S t j here w after pl)
leaving_cases T S t j here w after (At (Some end)) none some =
    elim (cases_Bool (eqb end t)) [
      | inl e ↦ rw e (some (ap (λ (x : ℕ). At (Some x)) (eqb-true end t e)))
      | inr e ↦ rw e (none (λ q. (let same : end ≡ t = cc in eqb-false end t e same)))
    ]
leaving_cases T S t j here w after (At None) none some = none (λ q. cc)
leaving_cases T S t j here w after (Teleporting start) none some = none (λ q. cc)
leaving_cases T S t j here w after (Waiting stop since) none some = none (λ q. cc)
leaving_cases T S t j here w after (Riding v) none some = none (λ q. cc)
leaving_cases T S t j here w after (Aborted l) none some = none (λ q. cc)

away_in_time : (n : ℕ) (P : Person) → IsAway P.place → InTime n P
away_in_time n P a u p = absurd (subst IsAway p a)

module _ (S : Setup) (i : ℕ) where
  record IsInTime (n : ℕ) (W : World) : Type 0 where
    one : InOne i W
    time : InTime n (person_of i W)

  -- each turn of second t keeps him in time, for this second and for the next one
  turn_in_time : (t n m : ℕ) (p : Phase) (W : World) → n ≤ suc t → m < count_of S p → IsInTime n W → IsInTime n (run S t (turns_of S t p m W) W)
  turn_in_time t n m p W le lt h =
      let ms = turns_of S t p m W in
      let one : World → Move → Type 0 = λ V m. InOne i V → InOne i (done S t m V) in
      let both = along_both (DoesIt S t i) one S t ms W (turn S t (DoesIt S t i) (does_cases S t i) p m W lt) (turn S t one (one_cases S i t) p m W lt) in
      kept_along (IsInTime n) S t ms W
      (along_weaker (λ V m. DoesIt S t i V m × one V m) (λ V m. IsInTime n V → IsInTime n (done S t m V)) (λ V m g k. record { one = g.1 k.one; time = does_in_time S t i n _ (person_of i V) (person_of i (done S t m V)) le (g.0 k.one) k.time }) S t ms W both) h

  phase_in_time : (t n : ℕ) (p : Phase) (W : World) → n ≤ suc t → IsInTime n W → IsInTime n (after S t (turns_in S t p W) W)
  phase_in_time t n p W le = phase_keeps (IsInTime n) S t p (λ m U lt h. turn_in_time t n m p U le lt h) W

  -- on his way he stays so while he sets out
  sets_away : (t : ℕ) (w : Leg) (next : Act) (V : World) → i < length V.persons → IsAway (person_of i V).place → IsAway (person_of i (run S t (sets_out S i w next) V)).place
  unfolding person_after
  sets_away t (leg.Car route) next V lt a = let q = eq-eqb i i refl in rw (person-done S t i (Enter (car i route next.kind)) V lt) (simp q tt)
  sets_away t (leg.Teleport mode seconds) next V lt a = a
  sets_away t (leg.Transit line access egress) next V lt a = let q = eq-eqb i i refl in rw (person-done S t i (Report (of_person word.WaitingForPt i (link_of_stop S access) (more.Stop access) ∷ [])) V lt) (simp q tt)

  -- his own turn in the phase in which activities end
  own_turn : (t : ℕ) (W : World) → IsInTime t W → InTime (suc t) (person_of i (run S t (leaving_moves S t i (person_of i W)) W))
  unfolding leaving_moves person_after
  own_turn t W h =
      let P = person_of i W in
      let m = departing S i W in
      let lt = h.one.there in
      let kept = persons-length S t (told m) W.persons in
      let q = eq-eqb i i refl in
      leaving_cases (λ ms. InTime (suc t) (person_of i (run S t ms W))) S t i (act_at S i P.element) (leg_at S i P.element) (act_after S i P.element) P.place
      (λ no u p. (let le = h.time u p in elim (cases_Bool (eqb u t)) [ inl e ↦ absurd (no (p ∙ ap (λ (x : ℕ). At (Some x)) (eqb-true u t e))) | inr e ↦ let ne : u ≢ t = eqb-false u t e in omega arith ]))
      (λ p. away_in_time (suc t) (person_of i (run S t (sets_out S i (leg_at S i P.element) (act_after S i P.element)) (done S t m W))) (sets_away t (leg_at S i P.element) (act_after S i P.element) (done S t m W) (omega arith) (rw (person-done S t i m W lt) (simp q tt))))

  -- in time for this second, and, once his turn has come, for the next one
  record IsThrough (t m : ℕ) (W : World) : Type 0 where
    now : IsInTime t W
    passed : i < m → InTime (suc t) (person_of i W)

  through_turn : (t m : ℕ) (W : World) → IsThrough t m W → IsThrough t (m + 1) (run S t (leaving_turns S t m W) W)
  unfolding turns_of
  through_turn t m W h =
      let V = run S t (leaving_turns S t m W) W in
      let one : InOne i V = turn_keeps S t m i phase.B1 W h.now.one in
      elim (cases_Bool (eqb i m)) [
        | inl e ↦
            let same : i ≡ m = eqb-true i m e in
            let own : InTime (suc t) (person_of i V) = subst (λ (x : ℕ). InTime (suc t) (person_of i (run S t (leaving_turns S t x W) W))) same (own_turn t W h.now) in
            record { now = record { one = one; time = λ u p. (let le = own u p in omega arith) }; passed = λ lt. own }
        | inr e ↦
            let ne : i ≢ m = eqb-false i m e in
            let same : person_of i V ≡ person_of i W = other_person S t m i (leaving_turns S t m W) W ne (leaving_moves-of S t m (person_of m W)) in
            record { now = record { one = one; time = rw same h.now.time }; passed = λ lt. rw same (h.passed (omega arith)) }
      ]

  ends_in_time : (t : ℕ) (W : World) → i < length S.persons → IsInTime t W → IsInTime (suc t) (after S t (turns_in S t phase.B1 W) W)
  unfolding turns_in turns_of
  ends_in_time t W lt h =
      let y = numbers_walk (IsThrough t) S t (leaving_turns S t) (through_turn t) 0 (length S.persons) W (record { now = h; passed = λ k. absurd (omega arith) }) in
      record { one = y.now.one; time = y.passed (omega arith) }

  second_in_time : (t : ℕ) (W : World) → i < length S.persons → IsInTime t W → IsInTime (suc t) (second S t W)
  unfolding through
  second_in_time t W lt h =
      phase_in_time t (suc t) phase.D _ (omega arith) (phase_in_time t (suc t) phase.C _ (omega arith) (phase_in_time t (suc t) phase.B2 _ (omega arith) (ends_in_time t _ lt (phase_in_time t t phase.A W (omega arith) h))))

  always_in_time : (t : ℕ) → i < length S.persons → IsInTime t (world_at S t)
  unfolding world_from
  always_in_time zero lt = record { one = start_one S i lt; time = λ u p. omega arith }
  always_in_time (suc t) lt = second_in_time t (world_at S t) lt (always_in_time t lt)

-- THE WHOLE DAY
-- at the end of the day he is at no activity that should have ended
abbrev IsOver : Setup → State → Type 0
IsOver S (Some (Some u)) = S.settings.end_second ≤ u
IsOver S _ = Unit {0}

over : (S : Setup) (o : State) (k : ℕ) (P : Person) → InTime S.settings.end_second P → Matches o k P → IsOver S o
over S None k P time m = tt
over S (Some None) k P time m = tt
over S (Some (Some u)) k P time m = time u m.0

after_one : (S : Setup) (i : ℕ) (d : Option ℕ) (k : ℕ) (es : List News) → Path S i S.settings.end_second (Some d) k es → IsOver S (last_of S i (Some d) k es) → EndsAt S d es
after_one S i None k [] h o = refl
after_one S i (Some u) k [] h o = o
after_one S i None k (e ∷ es) h o = let z = h.0.1 in absurd (cc)
after_one S i (Some u) k (e ∷ es) h o = let same : u ≡ e.second = (let z = h.0.1 in cc) in let below = h.0.2 in (h.0.0, sym same, omega arith)

after_each : (S : Setup) (i : ℕ) (o : State) (k : ℕ) (before after : List News) (e : News) → e.what.word ≡ word.ActStart → Path S i S.settings.end_second o k (before ++ e ∷ after) → IsOver S (last_of S i o k (before ++ e ∷ after)) → EndsAt S (ends_at (activity S i (k + begun before + 1)).end e.second) after
after_each S i o k [] after e w h over =
    let at_it : next S i k e ≡ Some (ends_at (activity S i (k + 1)).end e.second) = rw w refl in
    let count : k + begun [] + 1 ≡ k + 1 = omega arith in
    rw count (after_one S i (ends_at (activity S i (k + 1)).end e.second) (k + one_begun e) after (subst (λ (x : State). Path S i S.settings.end_second x (k + one_begun e) after) at_it h.1) (subst (λ (x : State). IsOver S (last_of S i x (k + one_begun e) after)) at_it over))
after_each S i o k (b ∷ before) after e w h over =
    let count : k + one_begun b + begun before + 1 ≡ k + begun (b ∷ before) + 1 = omega (arith, sum_by-cons one_begun b before) in
    rw (← count) (after_each S i (next S i k b) (k + one_begun b) before after e w h.1 over)

none_left : (i : ℕ) (es : List News) → Each IsStuck es → activities i es ≡ []
none_left i [] h = refl
none_left i (e ∷ es) h = let no : (begins_activity e.what.word || ends_activity e.what.word) && names i e.what.person ≡ false = rw h.0.word refl in simp no (none_left i es h.1)

pub end_as_planned : (S : Setup) (i : ℕ) → i < length S.persons → EndAsPlanned S i
end_as_planned S i lt =
    let end = S.settings.end_second in
    let hs = news (events_from S (world_start S) end) in
    let stuck = news (end_events S end (world_at S end)) in
    let all : activities i (news (day S)) ≡ activities i hs = ap (activities i) (day_news S) ∙ activities_more i hs stuck ∙ ap (λ xs. activities i hs ++ xs) (none_left i stuck (end_stuck S end (world_at S end))) ∙ append-nil (activities i hs) in
    let y = day_keeps (OnPath S i lt) S (path_kept S i lt) (path_start S i lt) end in
    let o = over S (last_of S i (first S i) 0 (activities i hs)) (number_of 0 (activities i hs)) (person_of i (world_at S end)) (always_in_time S i end lt).time y.there in
    record {
      first = rw all (after_one S i (activity S i 0).end 0 (activities i hs) y.path o);
      later = λ before after e is w. (
          let es : activities i hs ≡ before ++ e ∷ after = sym all ∙ is in
          let count : 0 + begun before + 1 ≡ begun before + 1 = omega arith in
          subst (λ (k : ℕ). EndsAt S (ends_at (activity S i k).end e.second) after) count
          (after_each S i (first S i) 0 before after e w (subst (Path S i end (first S i) 0) es y.path) (subst (λ (xs : List News). IsOver S (last_of S i (first S i) 0 xs)) es o))
          );
    }
