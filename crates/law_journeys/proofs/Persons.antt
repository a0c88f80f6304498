-- What each move does to one person: he stays where he is, he goes on, his activity ends, or the next one begins.
use Rattle.traffic.proofs.Common.{◌≡◌, ℕ, List, ◌∙◌, length, ap, refl, sym, subst, [], ◌∷◌, ◌++◌, ◌+◌, arith, ◌≤◌, true, false, Bool, inl, inr, eqb, cases_Bool, cases_lt}
use Rattle.traffic.proofs.Common.{map, map-append, filter-append, append-nil, flat_map, ◌&&◌, ◌||◌, ◌==◌, if◌then◌else◌, sum_by-cons, Some, Act, Leg, Mode, Word, VehicleId}
use Rattle.traffic.proofs.Common.{done, told, person_after_all, person_after, start_act, waiting, buffered, entered, World, person_of, at, Setup, act_at, leg_at, act_after}
use Rattle.traffic.proofs.Common.{served_row, served_vehicle, lands, car, transit_vehicle, departure, of_person, link_of_stop, next_call, alighting, boarding, rider, waiter, waiters, waits_on}
use Rattle.traffic.proofs.Common.{starts, serves, arrives, aborts, leaves, enters, told_transfer, told_removal, told_to, of_driver, driver}
use Rattle.traffic.proofs.{LeftBehind.serving_stage, LeftBehind.after-append, Waiting.boarded-are, NodeWalk.IsFront, Sublists.person-done, Sublists.persons-length}
use Rattle.traffic.specs.{Moves.arrive, Telling.of_vehicle}
use Rattle.traffic.specs.declared.moves.Move.{Move, TheVariants.Transfer, TheVariants.Remove, TheVariants.Enter, TheVariants.SetFrontSince}
use Rattle.traffic.specs.declared.moves.Move.TheVariants.{Credit, LeaveHole, Report}
use Rattle.traffic.specs.declared.{moves.Occurrence.Occurrence, riders.Rider.Rider, world.Person.Person}
use Rattle.traffic.specs.declared.world.Place.{Place, TheVariants.At, TheVariants.Teleporting, TheVariants.Waiting, TheVariants.Riding, TheVariants.Aborted}
use Rattle.traffic.specs.declared.stage.Stage.TheVariants.{Buffer, Bay}
use Rattle.traffic.specs.declared.world.Row.{Row}
use Rattle.traffic.specs.declared.world.Waiter.{Waiter}
use Rattle.events.specs.Persons.{names}
use Rattle.events.specs.declared.event.Word.TheVariants as word
use Rattle.events.specs.declared.event.More.TheVariants as more
use Rattle.law_one_place.proofs.Places.{InOne, IsOff, rides, among_riders, rides_few}
use Rattle.law_one_place.proofs.Boarding.{leaves_told, enters_told, strands_told, quiet, riders_are, board_few, as_riders, in_line, line_one, waits_few, waiters_in_line}
use Rattle.law_one_place.proofs.Turns.{told_front, told_end, place_of}
use Rattle.law_journeys.proofs.{History.spoken, History.at_time, Told.Words, Told.starts_words, Told.enters_words, Told.aborts_words, Walk.Cases, Walk.departing}
use Rattle.law_journeys.specs.Journeys.{begins_activity, ends_activity, activities}
use Rattle.law_journeys.specs.News.{News}

-- at no activity
abbrev pub IsAway : Place → Type 0
IsAway (At end) = ⊥
IsAway _ = Unit {0}

-- Of a person with these news of activities, in second t: he stays as he is; he is on his way, and goes on; his activity ends; or his next one
-- begins.
pub data Does (S : Setup) (t i : ℕ) (es : List News) (P Q : Person) : Type 0 where
  Still : es ≡ [] → Q ≡ P → Does S t i es P Q
  GoesOn : es ≡ [] → IsAway P.place → IsAway Q.place → Q.element ≡ P.element → Does S t i es P Q
  Ends : (e : News) → es ≡ e ∷ [] → e.what.word ≡ word.ActEnd → e.second ≡ t → P.place ≡ At (Some t) → IsAway Q.place → Q.element ≡ P.element + 1 → Does S t i es P Q
  Begins : (e : News) → es ≡ e ∷ [] → e.what.word ≡ word.ActStart → e.second ≡ t → IsAway P.place → Q ≡ arrive S t i P → Does S t i es P Q

-- WORDS
-- a word by which no activity begins or ends
abbrev IsElse : Word → Type 0
IsElse w = begins_activity w || ends_activity w ≡ false

none_of : (i t : ℕ) (xs : List Occurrence) → Words IsElse xs → activities i (map (at_time t) xs) ≡ []
none_of i t [] h = refl
none_of i t (x ∷ xs) h = let e : (begins_activity x.word || ends_activity x.word) && names i x.person ≡ false = rw h.0 refl in simp e (none_of i t xs h.1)

more_of : (i t : ℕ) (xs ys : List Occurrence) → activities i (map (at_time t) (xs ++ ys)) ≡ activities i (map (at_time t) xs) ++ activities i (map (at_time t) ys)
more_of i t xs ys = rw (map-append (at_time t) xs ys) (filter-append (λ (e : News). (begins_activity e.what.word || ends_activity e.what.word) && names i e.what.person) (map (at_time t) xs) (map (at_time t) ys))

-- behind what is told of no activity
behind : (i t : ℕ) (xs ys : List Occurrence) → Words IsElse xs → activities i (map (at_time t) (xs ++ ys)) ≡ activities i (map (at_time t) ys)
behind i t xs ys h = more_of i t xs ys ∙ ap (λ zs. zs ++ activities i (map (at_time t) ys)) (none_of i t xs h)

before : (i t : ℕ) (xs ys : List Occurrence) → Words IsElse ys → activities i (map (at_time t) (xs ++ ys)) ≡ activities i (map (at_time t) xs)
before i t xs ys h = more_of i t xs ys ∙ ap (λ zs. activities i (map (at_time t) xs) ++ zs) (none_of i t ys h) ∙ append-nil _

-- RIDERS WHO LEAVE
-- the beginning of an activity, where he is one of them
record IsBeginning (t : ℕ) (es : List News) : Type 0 where
  news : News
  only : es ≡ news ∷ []
  word : news.what.word ≡ word.ActStart
  second : news.second ≡ t

record HaveLeft (t n : ℕ) (es : List News) : Type 0 where
  none : n ≡ 0 → es ≡ []
  one : n ≡ 1 → IsBeginning t es

one_leaves : (i t : ℕ) (v : VehicleId) (l : ℕ) (r : Rider) → eqb r.person i ≡ true → IsBeginning t (activities i (map (at_time t) (leaves v l r)))
one_leaves i t v l r e = record { news = at_time t (of_person word.ActStart r.person l (more.Kind r.kind)); only = simp e; word = refl; second = refl }

none_leaves : (i t : ℕ) (v : VehicleId) (l : ℕ) (r : Rider) → eqb r.person i ≡ false → activities i (map (at_time t) (leaves v l r)) ≡ []
none_leaves i t v l r e = simp e

riders_leave : (i t : ℕ) (v : VehicleId) (l : ℕ) (rs : List Rider) → HaveLeft t (among_riders i rs) (activities i (map (at_time t) (flat_map (leaves v l) rs)))
riders_leave i t v l [] = record { none = λ h. refl; one = λ h. absurd (omega arith) }
riders_leave i t v l (r ∷ rs) =
    let c = sum_by-cons (λ (x : Rider). if x.person == i then 1 else 0) r rs in
    let y = riders_leave i t v l rs in
    let split = more_of i t (leaves v l r) (flat_map (leaves v l) rs) in
    elim (cases_Bool (eqb r.person i)) [
      | inl e ↦
          let x = one_leaves i t v l r e in
          record {
            none = λ h. absurd (grind arith);
            one = λ h. (let z = y.none (grind arith) in record { news = x.news; only = split ∙ ap (λ zs. activities i (map (at_time t) (leaves v l r)) ++ zs) z ∙ append-nil _ ∙ x.only; word = x.word; second = x.second });
          }
      | inr e ↦
          let x = split ∙ ap (λ zs. zs ++ activities i (map (at_time t) (flat_map (leaves v l) rs))) (none_leaves i t v l r e) in
          record { none = λ h. x ∙ y.none (grind arith); one = λ h. (let z = y.one (grind arith) in record { news = z.news; only = x ∙ z.only; word = z.word; second = z.second }) }
    ]

-- who rides is on his way, and not at a stop
riding : (pl : Place) → (IsOff pl → ⊥) → (v : VehicleId) × (pl ≡ Riding v)
riding (Riding v) h = (v, refl)
riding (At end) h = absurd (h tt)
riding (Teleporting start) h = absurd (h tt)
riding (Waiting stop since) h = absurd (h tt)
riding (Aborted l) h = absurd (h tt)

-- so his next activity begins where he leaves
leaves_it : (S : Setup) (t i : ℕ) (P : Person) (v : VehicleId) → P.place ≡ Riding v → start_act S t i P P.place ≡ arrive S t i P
leaves_it S t i P v e = rw e refl

waits_there : (S : Setup) (l j i : ℕ) (w : Leg) (next : Act) (pl : Place) → 1 ≤ in_line i (waits_on S l j w next pl) → IsAway pl
waits_there S l j i w next (At end) h = absurd (omega arith)
waits_there S l j i w next (Teleporting start) h = tt
waits_there S l j i w next (Waiting stop since) h = tt
waits_there S l j i w next (Riding v) h = tt
waits_there S l j i w next (Aborted m) h = tt

in_line_away : (S : Setup) (l i : ℕ) (W : World) → 1 ≤ in_line i (waiters S l W) → IsAway (person_of i W).place
unfolding waiters
in_line_away S l i W h =
    let f = λ (j : ℕ). waiter S l j (person_of j W) in
    let few : (j : ℕ) → in_line i (f j) ≤ (if j == i then 1 else 0) = λ j. waits_few S l j i (leg_at S j (person_of j W).element) (act_after S j (person_of j W).element) (person_of j W).place in
    let a = line_one f i few 0 (length W.persons) in
    let P = person_of i W in
    waits_there S l i i (leg_at S i P.element) (act_after S i P.element) P.place (omega arith)

-- VEHICLES
module _ (S : Setup) (t i : ℕ) where
  abbrev Told : List Occurrence → Person → Type 0
  Told xs P = Does S t i (activities i (map (at_time t) xs)) P (person_after_all S t i xs P)

  abbrev pub DoesIt : World → Move → Type 0
  DoesIt W m = InOne i W → Does S t i (activities i (spoken t m)) (person_of i W) (person_of i (done S t m W))

  by_told : (m : Move) (W : World) → InOne i W → Told (told m) (person_of i W) → Does S t i (activities i (spoken t m)) (person_of i W) (person_of i (done S t m W))
  by_told m W h d = subst (λ (Q : Person). Does S t i (activities i (spoken t m)) (person_of i W) Q) (sym (person-done S t i m W h.there)) d

  -- the riders of a vehicle that are let out
  out : (v : VehicleId) (l : ℕ) (rs : List Rider) (P : Person) → among_riders i rs ≤ 1 → (1 ≤ among_riders i rs → IsOff P.place → ⊥) → Told (flat_map (leaves v l) rs) P
  out v l rs P few rides_in =
      let y = leaves_told S t i v l rs P in
      let z = riders_leave i t v l rs in
      elim (cases_lt 0 (among_riders i rs)) [
        | inl lt ↦
            let r = riding P.place (rides_in (omega arith)) in
            let b = z.one (omega arith) in
            Begins b.news b.only b.word b.second (rw r.1 tt) (y.1 (omega arith) ∙ leaves_it S t i P r.0 r.1)
        | inr ge ↦ Still (z.none (omega arith)) (y.0 (omega arith))
      ]

  -- of a link's front what is told before it goes elsewhere is nothing to him
  front_told : (s : Bool) (r now : Row) (P : Person) → Told (told_to now.stage r now) P → Told (told_transfer (serving_stage s) r now) P
  front_told s r now P d =
      let acts : activities i (map (at_time t) (told_transfer (serving_stage s) r now)) ≡ activities i (map (at_time t) (told_to now.stage r now)) =
      elim s as (λ s. activities i (map (at_time t) (told_transfer (serving_stage s) r now)) ≡ activities i (map (at_time t) (told_to now.stage r now))) [
        | true ↦ behind i t (starts r) (told_to now.stage r now) (starts_words IsElse r refl)
        | false ↦ refl
      ] in
      rw (acts, told_front S t i s r now P) d

  end_told : (s : Bool) (r : Row) (P : Person) → Told (arrives r) P → Told (told_removal (serving_stage s) r) P
  end_told s r P d =
      let acts : activities i (map (at_time t) (told_removal (serving_stage s) r)) ≡ activities i (map (at_time t) (arrives r)) =
      elim s as (λ s. activities i (map (at_time t) (told_removal (serving_stage s) r)) ≡ activities i (map (at_time t) (arrives r))) [
        | true ↦ behind i t (starts r) (arrives r) (starts_words IsElse r refl)
        | false ↦ refl
      ] in
      rw (acts, told_end S t i s r P) d

  arrives_does : (a : ℕ) (s : Bool) (r : Row) (xs : List Row) (W : World) → at a (serving_stage s) W ≡ r ∷ xs → DoesIt W (Remove a (serving_stage s) 0 r)
  unfolding person_after
  arrives_does a s r xs W e h =
      let P = person_of i W in
      let v = r.vehicle in
      let few = rides_few i a (serving_stage s) 0 r W (rw e refl) h in
      let d = out v.id r.link v.riders P few.0 (λ one off. (let z = few.1 off in absurd (omega arith))) in
      let first = of_driver word.VehicleLeavesTraffic v.id r.link in
      let same : person_after_all S t i (arrives r) P ≡ person_after_all S t i (flat_map (leaves v.id r.link) v.riders) P = ap (person_after_all S t i (flat_map (leaves v.id r.link) v.riders)) (quiet S t i first (driver v.id) P refl) in
      let acts : activities i (map (at_time t) (arrives r)) ≡ activities i (map (at_time t) (flat_map (leaves v.id r.link) v.riders)) = behind i t (first ∷ []) (flat_map (leaves v.id r.link) v.riders) (refl, tt) in
      by_told (Remove a (serving_stage s) 0 r) W h (end_told s r P (rw (acts, same) d))

  serves_does : (a : ℕ) (s : Bool) (ws : List Waiter) (r : Row) (xs : List Row) (W : World) → at a (serving_stage s) W ≡ r ∷ xs → ws ≡ waiters S a W → DoesIt W (Transfer a (serving_stage s) 0 r (served_row S.settings.dwell t a ws r.vehicle))
  unfolding served_vehicle
  serves_does a s ws r xs W e w h =
      let P = person_of i W in
      let v = r.vehicle in
      let stop = (next_call v).stop in
      let outs = alighting stop v.riders in
      let ins = map rider (boarding v ws) in
      let now = served_row S.settings.dwell t a ws v in
      let few = rides_few i a (serving_stage s) 0 r W (rw e refl) h in
      let k = riders_are i stop v.riders in
      let n = board_few i v ws in
      let c = as_riders i (boarding v ws) in
      let line = waiters_in_line S a i W in
      let once : in_line i ws ≤ 1 = rw w line.once in
      let off : 1 ≤ in_line i ws → IsOff P.place = λ g. line.off (rw (← w) g) in
      let away : 1 ≤ in_line i ws → IsAway P.place = λ g. in_line_away S a i W (rw (← w) g) in
      let lets = out v.id r.link outs P (omega arith) (λ one o. (let z = few.1 o in absurd (omega arith))) in
      let Q = person_after_all S t i (flat_map (leaves v.id r.link) outs) P in
      let left = leaves_told S t i v.id r.link outs P in
      let first = of_vehicle word.VehicleArrivesAtFacility v.id r.link (more.Stop stop) in
      let all = flat_map (leaves v.id r.link) outs ++ flat_map (enters v.id) ins in
      let acts : activities i (map (at_time t) (serves r now)) ≡ activities i (map (at_time t) (flat_map (leaves v.id r.link) outs)) =
      rw (boarded-are v ws) (behind i t (first ∷ []) all (refl, tt) ∙ before i t (flat_map (leaves v.id r.link) outs) (flat_map (enters v.id) ins) (enters_words IsElse v.id ins refl)) in
      let ends = person_after_all S t i (flat_map (enters v.id) ins) Q in
      let after : person_after_all S t i (serves r now) P ≡ ends = rw (boarded-are v ws) (after-append S t i (flat_map (leaves v.id r.link) outs) (flat_map (enters v.id) ins) P) in
      let boards = enters_told S t i v.id ins Q in
      by_told (Transfer a (serving_stage s) 0 r now) W h (front_told s r now P (elim (cases_lt 0 (in_line i (boarding v ws))) [
        | inl lt ↦
            let none : among_riders i outs ≡ 0 = elim (cases_lt 0 (among_riders i outs)) [ inl o ↦ let z = few.1 (off (omega arith)) in absurd (omega arith) | inr ge ↦ omega arith ] in
            let same = left.0 none in
            let q = after ∙ boards.1 (omega arith) in
            GoesOn (acts ∙ (riders_leave i t v.id r.link outs).none none) (away (omega arith)) (rw q tt) (ap (λ (X : Person). X.element) q ∙ ap (λ (X : Person). X.element) same)
        | inr ge ↦ let q = after ∙ boards.0 (omega arith) in rw (acts, q) lets
      ]))

  -- who is removed with a vehicle
  strands_does : (n a : ℕ) (r : Row) (xs : List Row) (W : World) → IsFront S n a r xs W → DoesIt W (Remove a Buffer 0 r)
  strands_does n a r xs W f h =
      let P = person_of i W in
      let v = r.vehicle in
      let few = rides_few i a Buffer 0 r W (rw f.rows refl) h in
      let y = strands_told S t i v.id r.link v.riders P in
      let none = none_of i t (aborts r) (aborts_words IsElse r refl refl) in
      by_told (Remove a Buffer 0 r) W h (elim (cases_lt 0 (rides i v)) [
        | inl lt ↦
            let b = riding P.place (λ off. (let z = few.1 off in absurd (omega arith))) in
            let q = y.1 (omega arith) in
            GoesOn none (rw b.1 tt) (rw q tt) (ap (λ (X : Person). X.element) q)
        | inr ge ↦ Still none (y.0 (omega arith))
      ])

  -- a move that tells of nobody's activity and of nobody
  nothing : (m : Move) (W : World) → Words IsElse (told m) → person_after_all S t i (told m) (person_of i W) ≡ person_of i W → DoesIt W m
  nothing m W f same h = by_told m W h (Still (none_of i t (told m) f) same)

  pass_does : (a : ℕ) (s : Bool) (b : ℕ) (r : Row) (W : World) → DoesIt W (Transfer a (serving_stage s) 0 r (buffered t a b r))
  pass_does a s b r W h = by_told (Transfer a (serving_stage s) 0 r (buffered t a b r)) W h (front_told s r (buffered t a b r) (person_of i W) (Still refl refl))

  -- PERSONS
  land_does : (j : ℕ) (mode : Mode) (seconds start : ℕ) (next : Act) (W : World) → (person_of j W).place ≡ Teleporting start → DoesIt W (Report (lands j mode seconds next))
  unfolding person_after
  land_does j mode seconds start next W p h =
      let P = person_of i W in
      by_told (Report (lands j mode seconds next)) W h (elim (cases_Bool (eqb j i)) [
        | inl q ↦
            let there : P.place ≡ Teleporting start = place_of j i W q ∙ p in
            let e = at_time t (of_person word.ActStart j next.link (more.Kind next.kind)) in
            let over : start_act S t i P P.place ≡ arrive S t i P = rw there refl in
            Begins e (simp q) refl refl (rw there tt) (simp q over)
        | inr q ↦ Still (simp q) (simp q)
      ])

  leave_does : (j : ℕ) (W : World) → (person_of j W).place ≡ At (Some t) → DoesIt W (departing S j W)
  unfolding person_after
  leave_does j W p h =
      let P = person_of i W in
      let here = act_at S j (person_of j W).element in
      by_told (departing S j W) W h (elim (cases_Bool (eqb j i)) [
        | inl q ↦
            let e = at_time t (of_person word.ActEnd j here.link (more.Kind here.kind)) in
            Ends e (simp q) refl refl (place_of j i W q ∙ p) (simp q tt) (simp q)
        | inr q ↦ Still (simp q) (simp q)
      ])

  -- who has just left is at no activity
  left_away : (j : ℕ) (W : World) → InOne i (done S t (departing S j W) W) → eqb j i ≡ true → IsAway (person_of i (done S t (departing S j W) W)).place
  unfolding person_after
  left_away j W h q =
      let m = departing S j W in
      let e = persons-length S t (told m) W.persons in
      let lt = h.there in
      rw (person-done S t i m W (omega arith)) (simp q tt)

  drive_does : (j kind : ℕ) (route : List ℕ) (V : World) → (eqb j i ≡ true → IsAway (person_of i V).place) → DoesIt V (Enter (car j route kind))
  unfolding person_after
  drive_does j kind route V away h =
      by_told (Enter (car j route kind)) V h (elim (cases_Bool (eqb j i)) [
        | inl q ↦ GoesOn (none_of i t (told (Enter (car j route kind))) (refl, tt)) (away q) (simp q tt) (simp q)
        | inr q ↦ Still (none_of i t (told (Enter (car j route kind))) (refl, tt)) (simp q)
      ])

  wait_does : (j link stop : ℕ) (V : World) → (eqb j i ≡ true → IsAway (person_of i V).place) → DoesIt V (Report (of_person word.WaitingForPt j link (more.Stop stop) ∷ []))
  unfolding person_after
  wait_does j link stop V away h =
      let m = Report (of_person word.WaitingForPt j link (more.Stop stop) ∷ []) in
      by_told m V h (elim (cases_Bool (eqb j i)) [
        | inl q ↦ GoesOn (none_of i t (told m) (refl, tt)) (away q) (simp q tt) (simp q)
        | inr q ↦ Still (none_of i t (told m) (refl, tt)) (simp q)
      ])

  pub does_cases : Cases S t DoesIt
  does_cases =
      record {
        due = λ a k r W e u. nothing (Transfer a Bay k r (waiting a r)) W (refl, tt) refl;
        serve = λ a s ws r xs W e u c q. serves_does a s ws r xs W e q;
        arrive = λ a s r xs W e u c o. arrives_does a s r xs W e;
        pass = λ a s b r xs W e u c o. pass_does a s b r W;
        pay = λ a c W. nothing (Credit a c) W tt refl;
        free = λ a W. nothing (LeaveHole a t) W tt refl;
        nodes = λ n. record { enter = λ a e r xs W f q c. nothing (Transfer a Buffer 0 r (entered t e r.vehicle)) W (refl, (refl, tt)) refl; abort = λ a r xs W f c. strands_does n a r xs W f; mark = λ a W c. nothing (SetFrontSince a t) W tt refl };
        land = λ j mode seconds start W lt p e. land_does j mode seconds start (act_after S j (person_of j W).element) W p;
        leave = λ j W lt p. leave_does j W p;
        drive = λ j route W lt p e h. drive_does j (act_after S j (person_of j W).element).kind route (done S t (departing S j W) W) (left_away j W h) h;
        wait = λ j line access egress W lt p e h. wait_does j (link_of_stop S access) access (done S t (departing S j W) W) (left_away j W h) h;
        start = λ d W lt e. nothing (Enter (transit_vehicle d (departure S d))) W (refl, tt) refl;
      }
