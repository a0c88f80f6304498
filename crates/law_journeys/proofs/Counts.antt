-- Vehicles are conserved: each that set out is under way in one place, has arrived, or was removed; and so on each link.
use Rattle.traffic.proofs.Common.{person_of, act_after, eqb-true, ◌≡◌, ℕ, List, ◌∙◌, length, ap, refl, sym, [], ◌∷◌, ◌+◌, arith, ◌≤◌, true, false, Bool, if◌then◌else◌, inl, inr, eqb, map}
use Rattle.traffic.proofs.Common.{count_by, sum_by-cons, flat_map, cases_lt, nat_tests, ◌&&◌, ◌==◌, Option, VehicleId, Word, same_vehicle, world_start, world_at}
use Rattle.traffic.proofs.Common.{done, told, waiting, buffered, entered, World, at, Setup, served_row, served_vehicle, lands, car, transit_vehicle, departure, Departure, get_or, of_rider}
use Rattle.traffic.proofs.Common.{of_person, link_of_stop, starts, serves, arrives, aborts, enters, leaves, alighting, boarded, next_call, calls_on, told_transfer, told_to, of_driver}
use Rattle.traffic.proofs.Common.{listed, listed_in, VehicleState, rows_of, strands}
use Rattle.traffic.specs.Telling.{of_vehicle}
use Rattle.traffic.proofs.{LeftBehind.serving_stage, Each.each_append, Each.each_flat_all, Each.each_weaker, Each.each_all, Moments.along_given, NodeWalk.IsFront, Sublists.at_such}
use Rattle.traffic.specs.declared.moves.Move.{Move, TheVariants.Transfer, TheVariants.Remove, TheVariants.Enter, TheVariants.SetFrontSince}
use Rattle.traffic.specs.declared.moves.Move.TheVariants.{Credit, LeaveHole, Report}
use Rattle.traffic.specs.declared.{moves.Occurrence.Occurrence, riders.Rider.Rider, stage.Stage.Stage}
use Rattle.traffic.specs.declared.stage.Stage.TheVariants.{Queue, Buffer, Wait, Bay}
use Rattle.traffic.specs.declared.node_views.OutLink.{OutLink}
use Rattle.traffic.specs.declared.world.Row.{Row}
use Rattle.traffic.specs.declared.world.Waiter.{Waiter}
use Rattle.std.specs.List.{AllByRecursion as Each}
use Rattle.events.specs.declared.event.Word.TheVariants as word
use Rattle.events.specs.declared.event.More.TheVariants as more
use Rattle.events.specs.declared.event.VehicleId.TheVariants as vehicle
use Rattle.law_capacity.specs.Moves.{second_moves}
use Rattle.law_one_place.proofs.{Places.listed_once, Places.rides, Places.among_riders, Turns.always_kept, Vehicles.is_its, Vehicles.rows_it_has, Vehicles.rows_are, Vehicles.transit_once}
use Rattle.law_sound_setups.proofs.Fine.{found}
use Rattle.law_journeys.proofs.Balance.{IsTimeless, IsStanding, IsBalanced, balanced, takes, brings, none_counted, counted_append, counted_cons}
use Rattle.law_journeys.proofs.{Coming.front_is, Fit.Fit, Fit.IsFit, Fit.IsIts, Fit.car_not_served, Fit.fit_always, Fit.fit_moves, History.KeepsHistory, History.at_time, History.spoken}
use Rattle.law_journeys.proofs.{History.day_keeps, Told.Words, Told.OfStops, Told.serves_words, Told.leaves_words, Told.arrives_words, Told.starts_words, Told.front_words, Told.aborts_words, Walk.Cases, Walk.departing, Walk.second_walk}
use Rattle.law_journeys.specs.Journeys.{is_setting_out, sets_out, is_ending, ends_journey, is_joining, joins_link, is_leaving, leaves_link, drives_on, emitted_before, IsConserved}
use Rattle.law_journeys.specs.News.{News}

-- what is balanced at the start and by each move in a fit world is so in every second
module _ (p q : News → Bool) (h : Row → ℕ) (S : Setup) (cases : (t : ℕ) → Cases S t (λ W m. Fit S W → KeepsHistory (IsBalanced p q h) S t W m)) where
  pub always_balanced : (t : ℕ) → IsBalanced p q h (emitted_before S t) (world_at S t)
  unfolding world_start
  always_balanced t =
      day_keeps (λ n hs W. IsBalanced p q h hs W) S (record {
        begins = λ u hs W j. j;
        moves = λ u. (let W = world_at S u in along_given (λ V m. Fit S V) (KeepsHistory (IsBalanced p q h) S u) S u (second_moves S u W) W (second_walk S u _ (cases u) W) (fit_moves S u));
      }) refl t

-- a test by the word fails
abbrev Fails : (Word → Bool) → List Occurrence → Type 0
Fails b xs = Words (λ w. b w ≡ false) xs

-- LINKS
-- 1 for this vehicle on this link
abbrev placed : VehicleId → ℕ → VehicleId → ℕ → ℕ
placed v l id link = if same_vehicle id v && (link == l) then 1 else 0

abbrev on_it : VehicleId → ℕ → Row → ℕ
on_it v l r = if drives_on v l r then 1 else 0

none_comes : (v : VehicleId) (l t : ℕ) (xs : List Occurrence) → Fails is_joining xs → count_by (joins_link v l) (map (at_time t) xs) ≡ 0
none_comes v l t xs h = none_counted (joins_link v l) t xs (each_weaker (λ (x : Occurrence). is_joining x.word ≡ false) (λ x. joins_link v l (at_time t x) ≡ false) (λ x e. rw e refl) xs h)

none_goes : (v : VehicleId) (l t : ℕ) (xs : List Occurrence) → Fails is_leaving xs → count_by (leaves_link v l) (map (at_time t) xs) ≡ 0
none_goes v l t xs h = none_counted (leaves_link v l) t xs (each_weaker (λ (x : Occurrence). is_leaving x.word ≡ false) (λ x. leaves_link v l (at_time t x) ≡ false) (λ x e. rw e refl) xs h)

-- a vehicle that has started is on its link
started_on : (v : VehicleId) (l : ℕ) (r : Row) → r.vehicle.started ≡ true → on_it v l r ≡ placed v l r.vehicle.id r.link
started_on v l r e = rw e refl

-- one that enters traffic comes to its link
starts_if : (v : VehicleId) (l t : ℕ) (b : Bool) (id : VehicleId) (link : ℕ) → count_by (joins_link v l) (map (at_time t) (if b then [] else of_driver word.VehicleEntersTraffic id link ∷ [])) + (if b && (same_vehicle id v && (link == l)) then 1 else 0) ≡ placed v l id link
starts_if v l t true id link = omega arith
starts_if v l t false id link = omega (arith, counted_cons (joins_link v l) t (of_driver word.VehicleEntersTraffic id link) [])

starts_on : (v : VehicleId) (l t : ℕ) (r : Row) → count_by (joins_link v l) (map (at_time t) (starts r)) + on_it v l r ≡ placed v l r.vehicle.id r.link
starts_on v l t r = starts_if v l t r.vehicle.started r.vehicle.id r.link

module _ (v : VehicleId) (l : ℕ) (S : Setup) (t : ℕ) where
  abbrev Keeps : World → Move → Type 0
  Keeps W m = Fit S W → KeepsHistory (IsBalanced (joins_link v l) (leaves_link v l) (on_it v l)) S t W m

  timeless : IsTimeless (on_it v l)
  timeless = record { same = λ u a r e. refl }

  quiet : (m : Move) (W : World) → IsStanding m W → takes (on_it v l) m ≡ brings (on_it v l) m → Fails is_joining (told m) → Fails is_leaving (told m) → KeepsHistory (IsBalanced (joins_link v l) (leaves_link v l) (on_it v l)) S t W m
  quiet m W e same a b = balanced (joins_link v l) (leaves_link v l) (on_it v l) timeless S t m W e (let c = none_comes v l t (told m) a in let d = none_goes v l t (told m) b in omega arith)

  no_come : OfStops (λ w. is_joining w ≡ false)
  no_come = record { comes = refl; leaves = refl; arrives = refl; begins = refl; enters = refl }

  no_go : OfStops (λ w. is_leaving w ≡ false)
  no_go = record { comes = refl; leaves = refl; arrives = refl; begins = refl; enters = refl }

  front_fit : (a : ℕ) (s : Stage) (r : Row) (xs : List Row) (W : World) → Fit S W → at a s W ≡ r ∷ xs → IsFit S s a r.vehicle × (r.link ≡ a)
  front_fit a s r xs W h e = (found (IsFit S) a s 0 r W.rows h (rw e refl), (front_is (λ x. Unit {0}) a s r xs W (each_all (λ x. Unit {0}) (λ x. tt) W.rows) e).2)

  -- the front of a queue or of a wait list: it was on its link, or comes to it
  came : (a : ℕ) (s : Bool) (r now : Row) (xs : List Row) (W : World) → Fit S W → at a (serving_stage s) W ≡ r ∷ xs → Fails is_joining (told_to now.stage r now) →
      count_by (joins_link v l) (map (at_time t) (told_transfer (serving_stage s) r now)) + on_it v l r ≡ placed v l r.vehicle.id r.link
  came a false r now xs W h e f = let c = none_comes v l t (told_to now.stage r now) f in let d = started_on v l r (front_fit a Queue r xs W h e).0.started in omega arith
  came a true r now xs W h e f = let c = none_comes v l t (told_to now.stage r now) f in omega (arith, counted_append (joins_link v l) t (starts r) (told_to now.stage r now), starts_on v l t r)

  -- it goes into the bay or the buffer of its link
  front_stays : (a : ℕ) (s : Bool) (r now : Row) (xs : List Row) (W : World) → Fit S W → at a (serving_stage s) W ≡ r ∷ xs → now.vehicle.started ≡ true → now.vehicle.id ≡ r.vehicle.id → now.link ≡ a → Fails is_joining (told_to now.stage r now) → Fails is_leaving (told_to now.stage r now) →
      KeepsHistory (IsBalanced (joins_link v l) (leaves_link v l) (on_it v l)) S t W (Transfer a (serving_stage s) 0 r now)
  front_stays a s r now xs W h e started id link f g =
      let c = came a s r now xs W h e f in
      let d = none_goes v l t (told (Transfer a (serving_stage s) 0 r now)) (front_words (λ w. is_leaving w ≡ false) s r now refl g) in
      let b : on_it v l now ≡ placed v l r.vehicle.id r.link = started_on v l now started ∙ ap (λ (x : VehicleId). placed v l x now.link) id ∙ ap (placed v l r.vehicle.id) (link ∙ sym (front_fit a (serving_stage s) r xs W h e).1) in
      balanced (joins_link v l) (leaves_link v l) (on_it v l) timeless S t (Transfer a (serving_stage s) 0 r now) W (rw e refl) (omega arith)

  -- it arrives
  arrival : (r : Row) → (count_by (joins_link v l) (map (at_time t) (arrives r)) ≡ 0) × (count_by (leaves_link v l) (map (at_time t) (arrives r)) ≡ placed v l r.vehicle.id r.link)
  arrival r =
      let rest = flat_map (leaves r.vehicle.id r.link) r.vehicle.riders in
      let none = none_goes v l t rest (leaves_words (λ w. is_leaving w ≡ false) r.vehicle.id r.link r.vehicle.riders refl refl refl) in
      (none_comes v l t (arrives r) (arrives_words (λ w. is_joining w ≡ false) r refl no_come), omega (arith, counted_cons (leaves_link v l) t (of_driver word.VehicleLeavesTraffic r.vehicle.id r.link) rest))

  front_goes : (a : ℕ) (s : Bool) (r : Row) (xs : List Row) (W : World) → Fit S W → at a (serving_stage s) W ≡ r ∷ xs → KeepsHistory (IsBalanced (joins_link v l) (leaves_link v l) (on_it v l)) S t W (Remove a (serving_stage s) 0 r)
  front_goes a false r xs W h e =
      let c = arrival r in
      let d = started_on v l r (front_fit a Queue r xs W h e).0.started in
      balanced (joins_link v l) (leaves_link v l) (on_it v l) timeless S t (Remove a Queue 0 r) W (rw e refl) (omega arith)
  front_goes a true r xs W h e =
      let c = arrival r in
      let n = none_goes v l t (starts r) (starts_words (λ w. is_leaving w ≡ false) r refl) in
      balanced (joins_link v l) (leaves_link v l) (on_it v l) timeless S t (Remove a Wait 0 r) W (rw e refl)
      (omega (arith, starts_on v l t r, counted_append (joins_link v l) t (starts r) (arrives r), counted_append (leaves_link v l) t (starts r) (arrives r)))

  -- over a node
  crosses : (n a : ℕ) (e : Option OutLink) (r : Row) (xs : List Row) (W : World) → IsFront S n a r xs W → Keeps W (Transfer a Buffer 0 r (entered t e r.vehicle))
  crosses n a e r xs W f h =
      let now = entered t e r.vehicle in
      let m = Transfer a Buffer 0 r now in
      let started = (front_fit a Buffer r xs W h f.rows).0.started in
      let b = started_on v l r started in
      let c = started_on v l now started in
      let left = of_vehicle word.LeftLink r.vehicle.id r.link more.Nothing in
      let came = of_vehicle word.EnteredLink r.vehicle.id now.link more.Nothing in
      balanced (joins_link v l) (leaves_link v l) (on_it v l) timeless S t m W (rw f.rows refl)
      (omega (arith, counted_cons (joins_link v l) t left (came ∷ []), counted_cons (joins_link v l) t came [], counted_cons (leaves_link v l) t left (came ∷ []), counted_cons (leaves_link v l) t came []))

  stuck : (n a : ℕ) (r : Row) (xs : List Row) (W : World) → IsFront S n a r xs W → Keeps W (Remove a Buffer 0 r)
  stuck n a r xs W f h =
      let b = started_on v l r (front_fit a Buffer r xs W h f.rows).0.started in
      let rest = flat_map (strands r.vehicle.id r.link) r.vehicle.riders in
      let first = of_vehicle word.VehicleAborts r.vehicle.id r.link more.Nothing in
      let none = none_comes v l t (aborts r) (aborts_words (λ w. is_joining w ≡ false) r refl refl) in
      let no_more = none_goes v l t rest (each_flat_all (λ (x : Occurrence). is_leaving x.word ≡ false) (strands r.vehicle.id r.link) (λ x. (refl, tt)) r.vehicle.riders) in
      balanced (joins_link v l) (leaves_link v l) (on_it v l) timeless S t (Remove a Buffer 0 r) W (rw f.rows refl)
      (omega (arith, counted_cons (leaves_link v l) t first rest))

  link_cases : Cases S t Keeps
  unfolding served_vehicle
  link_cases =
      record {
        due = λ a k r W e u h. (let f = found (IsFit S) a Bay k r W.rows h e in let q = (at_such (λ (x : Row). Unit {0}) a Bay k r W.rows (λ j d lt. tt) e).2 in quiet (Transfer a Bay k r (waiting a r)) W e (started_on v l r f.started ∙ ap (placed v l r.vehicle.id) q ∙ sym (started_on v l (waiting a r) f.started)) (refl, tt) (refl, tt));
        serve = λ a s ws r xs W e u c q h. (let now = served_row S.settings.dwell t a ws r.vehicle in front_stays a s r now xs W h e refl refl refl (serves_words (λ w. is_joining w ≡ false) r now no_come) (serves_words (λ w. is_leaving w ≡ false) r now no_go));
        arrive = λ a s r xs W e u c o h. front_goes a s r xs W h e;
        pass = λ a s b r xs W e u c o h. front_stays a s r (buffered t a b r) xs W h e refl refl refl tt tt;
        pay = λ a c W h. quiet (Credit a c) W tt refl tt tt;
        free = λ a W h. quiet (LeaveHole a t) W tt refl tt tt;
        nodes = λ n. record { enter = λ a e r xs W f q c h. crosses n a e r xs W f h; abort = λ a r xs W f c h. stuck n a r xs W f h; mark = λ a W c h. quiet (SetFrontSince a t) W tt refl tt tt };
        land = λ i mode seconds began W lt p e h. quiet (Report (lands i mode seconds (act_after S i (person_of i W).element))) W tt refl (refl, (refl, (refl, tt))) (refl, (refl, (refl, tt)));
        leave = λ i W lt p h. quiet (departing S i W) W tt refl (refl, (refl, tt)) (refl, (refl, tt));
        drive = λ i route W lt p e h. quiet (Enter (car i route (act_after S i (person_of i W).element).kind)) (done S t (departing S i W) W) tt refl (refl, tt) (refl, tt);
        wait = λ i line access egress W lt p e h. quiet (Report (of_person word.WaitingForPt i (link_of_stop S access) (more.Stop access) ∷ [])) (done S t (departing S i W) W) tt refl (refl, tt) (refl, tt);
        start = λ d W lt e h. quiet (Enter (transit_vehicle d (departure S d))) W tt refl (refl, tt) (refl, tt);
      }

-- JOURNEYS
abbrev its : VehicleId → Row → ℕ
its v r = is_its v r.vehicle

none_sets_out : (v : VehicleId) (t : ℕ) (xs : List Occurrence) → Each (λ x. sets_out v (at_time t x) ≡ false) xs → count_by (sets_out v) (map (at_time t) xs) ≡ 0
none_sets_out v t xs h = none_counted (sets_out v) t xs h

none_ends : (v : VehicleId) (t : ℕ) (xs : List Occurrence) → Fails is_ending xs → count_by (ends_journey v) (map (at_time t) xs) ≡ 0
none_ends v t xs h = none_counted (ends_journey v) t xs (each_weaker (λ (x : Occurrence). is_ending x.word ≡ false) (λ x. ends_journey v (at_time t x) ≡ false) (λ x e. rw e refl) xs h)

-- a word by which no vehicle sets out
abbrev NoStart : Word → Type 0
NoStart w = (v : VehicleId) → is_setting_out v w ≡ false

no_start : (v : VehicleId) (t : ℕ) (xs : List Occurrence) → Words NoStart xs → Each (λ x. sets_out v (at_time t x) ≡ false) xs
no_start v t xs h = each_weaker (λ (x : Occurrence). NoStart x.word) (λ x. sets_out v (at_time t x) ≡ false) (λ x e. (let f = e v in rw f refl)) xs h

-- riders who board a vehicle that is served set no vehicle out
board_none : (S : Setup) (v : VehicleId) (l t : ℕ) (u : VehicleState) (id : VehicleId) (rs : List Rider) → IsIts S u id → calls_on l u ≡ true → Each (λ x. sets_out v (at_time t x) ≡ false) (flat_map (enters id) rs)
board_none S v l t u (vehicle.Car i) rs f c = absurd (car_not_served S l i u c f)
board_none S (vehicle.Car i) l t u (vehicle.Transit d) rs f c = each_flat_all (λ x. sets_out (vehicle.Car i) (at_time t x) ≡ false) (enters (vehicle.Transit d)) (λ r. (refl, tt)) rs
board_none S (vehicle.Transit e) l t u (vehicle.Transit d) rs f c = each_flat_all (λ x. sets_out (vehicle.Transit e) (at_time t x) ≡ false) (enters (vehicle.Transit d)) (λ r. (refl, tt)) rs

nobody_starts : (w : Word) → ((i : ℕ) → is_setting_out (vehicle.Car i) w ≡ false) → ((d : ℕ) → is_setting_out (vehicle.Transit d) w ≡ false) → NoStart w
nobody_starts w f g (vehicle.Car i) = f i
nobody_starts w f g (vehicle.Transit d) = g d

starts_none : NoStart word.VehicleEntersTraffic
starts_none = nobody_starts word.VehicleEntersTraffic (λ i. refl) (λ d. refl)

-- a driver enters his car, and a transit driver starts
car_out : (v : VehicleId) (t i kind : ℕ) (route : List ℕ) → count_by (sets_out v) (spoken t (Enter (car i route kind))) ≡ its v (car i route kind)
car_out (vehicle.Car j) t i kind route = omega (arith, counted_cons (sets_out (vehicle.Car j)) t (of_rider word.PersonEntersVehicle i (vehicle.Car i)) [])
car_out (vehicle.Transit d) t i kind route = omega (arith, counted_cons (sets_out (vehicle.Transit d)) t (of_rider word.PersonEntersVehicle i (vehicle.Car i)) [])

transit_out : (v : VehicleId) (t d : ℕ) (D : Departure) → count_by (sets_out v) (spoken t (Enter (transit_vehicle d D))) ≡ its v (transit_vehicle d D)
transit_out (vehicle.Car j) t d D = omega (arith, counted_cons (sets_out (vehicle.Car j)) t (of_vehicle word.TransitDriverStarts (vehicle.Transit d) (get_or D.route 0 0) (more.Line D.line)) [])
transit_out (vehicle.Transit e) t d D = omega (arith, counted_cons (sets_out (vehicle.Transit e)) t (of_vehicle word.TransitDriverStarts (vehicle.Transit d) (get_or D.route 0 0) (more.Line D.line)) [])

module _ (v : VehicleId) (S : Setup) (t : ℕ) where
  abbrev Journeys : World → Move → Type 0
  Journeys W m = Fit S W → KeepsHistory (IsBalanced (sets_out v) (ends_journey v) (its v)) S t W m

  its_timeless : IsTimeless (its v)
  its_timeless = record { same = λ u a r e. refl }

  no_ends : OfStops (λ w. is_ending w ≡ false)
  no_ends = record { comes = refl; leaves = refl; arrives = refl; begins = refl; enters = refl }

  balance : (m : Move) (W : World) → IsStanding m W → count_by (sets_out v) (spoken t m) + takes (its v) m ≡ brings (its v) m + count_by (ends_journey v) (spoken t m) → KeepsHistory (IsBalanced (sets_out v) (ends_journey v) (its v)) S t W m
  balance m W e d = balanced (sets_out v) (ends_journey v) (its v) its_timeless S t m W e d

  calm : (m : Move) (W : World) → IsStanding m W → takes (its v) m ≡ brings (its v) m → Each (λ x. sets_out v (at_time t x) ≡ false) (told m) → Fails is_ending (told m) → KeepsHistory (IsBalanced (sets_out v) (ends_journey v) (its v)) S t W m
  calm m W e same a b = balance m W e (let c = none_sets_out v t (told m) a in let d = none_ends v t (told m) b in omega arith)

  calm_words : (m : Move) (W : World) → IsStanding m W → takes (its v) m ≡ brings (its v) m → Words NoStart (told m) → Fails is_ending (told m) → KeepsHistory (IsBalanced (sets_out v) (ends_journey v) (its v)) S t W m
  calm_words m W e same a b = calm m W e same (no_start v t (told m) a) b

  -- who goes on his way in a vehicle, or comes from it, sets none out
  stop_none : (l : ℕ) (r now : Row) → IsIts S r.vehicle r.vehicle.id → calls_on l r.vehicle ≡ true → Each (λ x. sets_out v (at_time t x) ≡ false) (serves r now)
  stop_none l r now f c =
      let u = r.vehicle in
      let stop = (next_call u).stop in
      let P : Occurrence → Type 0 = λ x. sets_out v (at_time t x) ≡ false in
      let out = no_start v t (flat_map (leaves u.id r.link) (alighting stop u.riders)) (leaves_words NoStart u.id r.link (alighting stop u.riders) (nobody_starts word.PersonLeavesVehicle (λ i. refl) (λ d. refl)) (nobody_starts word.Arrival (λ i. refl) (λ d. refl)) (nobody_starts word.ActStart (λ i. refl) (λ d. refl))) in
      ((no_start v t (of_vehicle word.VehicleArrivesAtFacility u.id r.link (more.Stop stop) ∷ []) (nobody_starts word.VehicleArrivesAtFacility (λ i. refl) (λ d. refl), tt)).0, each_append P (flat_map (leaves u.id r.link) (alighting stop u.riders)) _ out (board_none S v l t u u.id (boarded stop u.riders now.vehicle.riders) f c))

  serve_it : (a : ℕ) (s : Bool) (ws : List Waiter) (r : Row) (xs : List Row) (W : World) → at a (serving_stage s) W ≡ r ∷ xs → calls_on a r.vehicle ≡ true → Journeys W (Transfer a (serving_stage s) 0 r (served_row S.settings.dwell t a ws r.vehicle))
  unfolding served_vehicle
  serve_it a false ws r xs W e c h =
      let now = served_row S.settings.dwell t a ws r.vehicle in
      calm (Transfer a Queue 0 r now) W (rw e refl) refl (stop_none a r now (found (IsFit S) a Queue 0 r W.rows h (rw e refl)).its c) (serves_words (λ w. is_ending w ≡ false) r now no_ends)
  serve_it a true ws r xs W e c h =
      let now = served_row S.settings.dwell t a ws r.vehicle in
      calm (Transfer a Wait 0 r now) W (rw e refl) refl
      (each_append (λ (x : Occurrence). sets_out v (at_time t x) ≡ false) (starts r) (serves r now) (no_start v t (starts r) (starts_words NoStart r starts_none)) (stop_none a r now (found (IsFit S) a Wait 0 r W.rows h (rw e refl)).its c))
      (front_words (λ w. is_ending w ≡ false) true r now refl (serves_words (λ w. is_ending w ≡ false) r now no_ends))

  pass_it : (a : ℕ) (s : Bool) (b : ℕ) (r : Row) (xs : List Row) (W : World) → at a (serving_stage s) W ≡ r ∷ xs → Journeys W (Transfer a (serving_stage s) 0 r (buffered t a b r))
  pass_it a s b r xs W e h = calm (Transfer a (serving_stage s) 0 r (buffered t a b r)) W (rw e refl) refl (no_start v t _ (front_words NoStart s r (buffered t a b r) starts_none tt)) (front_words (λ w. is_ending w ≡ false) s r (buffered t a b r) refl tt)

  -- it arrives, or is removed
  gone_none : (r : Row) → Each (λ x. sets_out v (at_time t x) ≡ false) (flat_map (leaves r.vehicle.id r.link) r.vehicle.riders)
  gone_none r = no_start v t _ (leaves_words NoStart r.vehicle.id r.link r.vehicle.riders (nobody_starts word.PersonLeavesVehicle (λ i. refl) (λ d. refl)) (nobody_starts word.Arrival (λ i. refl) (λ d. refl)) (nobody_starts word.ActStart (λ i. refl) (λ d. refl)))

  over : (r : Row) → (count_by (sets_out v) (map (at_time t) (arrives r)) ≡ 0) × (count_by (ends_journey v) (map (at_time t) (arrives r)) ≡ its v r)
  over r =
      let rest = flat_map (leaves r.vehicle.id r.link) r.vehicle.riders in
      let a = none_sets_out v t (arrives r) ((no_start v t (of_driver word.VehicleLeavesTraffic r.vehicle.id r.link ∷ []) (nobody_starts word.VehicleLeavesTraffic (λ i. refl) (λ d. refl), tt)).0, gone_none r) in
      let b = none_ends v t rest (leaves_words (λ w. is_ending w ≡ false) r.vehicle.id r.link r.vehicle.riders refl refl refl) in
      (a, omega (arith, counted_cons (ends_journey v) t (of_driver word.VehicleLeavesTraffic r.vehicle.id r.link) rest))

  end_it : (a : ℕ) (s : Bool) (r : Row) (xs : List Row) (W : World) → at a (serving_stage s) W ≡ r ∷ xs → Journeys W (Remove a (serving_stage s) 0 r)
  end_it a false r xs W e h = let c = over r in balance (Remove a Queue 0 r) W (rw e refl) (omega arith)
  end_it a true r xs W e h =
      let c = over r in
      let n = none_sets_out v t (starts r) (no_start v t (starts r) (starts_words NoStart r starts_none)) in
      let k = none_ends v t (starts r) (starts_words (λ w. is_ending w ≡ false) r refl) in
      balance (Remove a Wait 0 r) W (rw e refl) (omega (arith, counted_append (sets_out v) t (starts r) (arrives r), counted_append (ends_journey v) t (starts r) (arrives r)))

  stuck_it : (n a : ℕ) (r : Row) (xs : List Row) (W : World) → IsFront S n a r xs W → Journeys W (Remove a Buffer 0 r)
  stuck_it n a r xs W f h =
      let rest = flat_map (strands r.vehicle.id r.link) r.vehicle.riders in
      let first = of_vehicle word.VehicleAborts r.vehicle.id r.link more.Nothing in
      let c = none_sets_out v t (aborts r) (no_start v t (aborts r) (aborts_words NoStart r (nobody_starts word.VehicleAborts (λ i. refl) (λ d. refl)) (nobody_starts word.StuckAndAbort (λ i. refl) (λ d. refl)))) in
      let d = none_ends v t rest (each_flat_all (λ (x : Occurrence). is_ending x.word ≡ false) (strands r.vehicle.id r.link) (λ x. (refl, tt)) r.vehicle.riders) in
      balance (Remove a Buffer 0 r) W (rw f.rows refl) (omega (arith, counted_cons (ends_journey v) t first rest))

  out_it : (now : Row) (W : World) → count_by (sets_out v) (spoken t (Enter now)) ≡ its v now → Fails is_ending (told (Enter now)) → KeepsHistory (IsBalanced (sets_out v) (ends_journey v) (its v)) S t W (Enter now)
  out_it now W e f = balance (Enter now) W tt (let d = none_ends v t (told (Enter now)) f in omega arith)

  journey_cases : Cases S t Journeys
  journey_cases =
      let n : (w : Word) → ((i : ℕ) → is_setting_out (vehicle.Car i) w ≡ false) → ((d : ℕ) → is_setting_out (vehicle.Transit d) w ≡ false) → NoStart w = nobody_starts in
      record {
        due = λ a k r W e u h. calm_words (Transfer a Bay k r (waiting a r)) W e refl ((n word.VehicleDepartsAtFacility (λ i. refl) (λ d. refl)), tt) (refl, tt);
        serve = λ a s ws r xs W e u c q. serve_it a s ws r xs W e c;
        arrive = λ a s r xs W e u c o. end_it a s r xs W e;
        pass = λ a s b r xs W e u c o. pass_it a s b r xs W e;
        pay = λ a c W h. calm_words (Credit a c) W tt refl tt tt;
        free = λ a W h. calm_words (LeaveHole a t) W tt refl tt tt;
        nodes = λ m. record {
          enter = λ a e r xs W f q c h. calm_words (Transfer a Buffer 0 r (entered t e r.vehicle)) W (rw f.rows refl) refl ((n word.LeftLink (λ i. refl) (λ d. refl)), ((n word.EnteredLink (λ i. refl) (λ d. refl)), tt)) (refl, (refl, tt));
          abort = λ a r xs W f c. stuck_it m a r xs W f;
          mark = λ a W c h. calm_words (SetFrontSince a t) W tt refl tt tt;
        };
        land = λ i mode seconds began W lt p e h. calm_words (Report (lands i mode seconds (act_after S i (person_of i W).element))) W tt refl ((n word.Travelled (λ i. refl) (λ d. refl)), ((n word.Arrival (λ i. refl) (λ d. refl)), ((n word.ActStart (λ i. refl) (λ d. refl)), tt))) (refl, (refl, (refl, tt)));
        leave = λ i W lt p h. calm_words (departing S i W) W tt refl ((n word.ActEnd (λ i. refl) (λ d. refl)), ((n word.Departure (λ i. refl) (λ d. refl)), tt)) (refl, (refl, tt));
        drive = λ i route W lt p e h. out_it (car i route (act_after S i (person_of i W).element).kind) (done S t (departing S i W) W) (car_out v t i (act_after S i (person_of i W).element).kind route) (refl, tt);
        wait = λ i line access egress W lt p e h. calm_words (Report (of_person word.WaitingForPt i (link_of_stop S access) (more.Stop access) ∷ [])) (done S t (departing S i W) W) tt refl ((n word.WaitingForPt (λ i. refl) (λ d. refl)), tt) (refl, tt);
        start = λ d W lt e h. out_it (transit_vehicle d (departure S d)) W (transit_out v t d (departure S d)) (refl, tt);
      }

-- ONE PLACE
driver_rides : (i : ℕ) (rs : List Rider) → length rs ≡ 1 → Each (λ (x : Rider). x.person ≡ i) rs → 1 ≤ among_riders i rs
driver_rides i [] e h = absurd (omega arith)
driver_rides i (x ∷ xs) e h = grind (arith, nat_tests, sum_by-cons (λ (y : Rider). if y.person == i then 1 else 0) x xs, h.0)

-- a car has no more rows than list its driver, and none where he is not there
car_few : (S : Setup) (i : ℕ) (u : VehicleState) (id : VehicleId) → u.id ≡ id → IsIts S u id → (is_its (vehicle.Car i) u ≤ rides i u) × (length S.persons ≤ i → is_its (vehicle.Car i) u ≡ 0)
car_few S i u (vehicle.Car j) e f =
    let one : is_its (vehicle.Car i) u ≡ (if eqb j i then 1 else 0) = rw e refl in
    let some = driver_rides j u.riders f.one f.driver in
    let his : eqb j i ≡ true → rides j u ≡ rides i u = λ q. ap (λ (k : ℕ). rides k u) (eqb-true j i q) in
    (grind (arith, his), λ past. grind (arith, nat_tests, f.there))
car_few S i u (vehicle.Transit d) e f = let none : is_its (vehicle.Car i) u ≡ 0 = rw e refl in (omega arith, λ past. none)

pub cars_few : (S : Setup) (i : ℕ) (rows : List Row) → Each (λ (r : Row). IsFit S r.stage r.link r.vehicle) rows → (rows_it_has (vehicle.Car i) rows ≤ listed i rows) × (length S.persons ≤ i → rows_it_has (vehicle.Car i) rows ≡ 0)
cars_few S i [] h = (omega arith, λ past. refl)
cars_few S i (r ∷ rs) h =
    let a = sum_by-cons (λ (x : Row). is_its (vehicle.Car i) x.vehicle) r rs in
    let b : listed i (r ∷ rs) ≡ rides i r.vehicle + listed i rs = sum_by-cons (listed_in i) r rs in
    let c = car_few S i r.vehicle r.vehicle.id refl h.0.its in
    let d = cars_few S i rs h.1 in
    (omega arith, λ past. (let x = c.1 past in let y = d.1 past in omega arith))

pub in_one_place : (S : Setup) (t : ℕ) (v : VehicleId) → length (rows_of v (world_at S t).rows) ≤ 1
in_one_place S t (vehicle.Transit d) = transit_once S t d
in_one_place S t (vehicle.Car i) =
    let W = world_at S t in
    let c = cars_few S i W.rows (fit_always S t) in
    let a = rows_are (vehicle.Car i) W.rows in
    elim (cases_lt i (length S.persons)) [
      | inl lt ↦ let b = listed_once i W.rows _ ((always_kept S t).one_place i lt) in omega arith
      | inr past ↦ let z = c.1 past in omega arith
    ]

pub conserved : (S : Setup) (t : ℕ) (v : VehicleId) → IsConserved S t v
conserved S t v =
    record {
      journeys = (let a = always_balanced (sets_out v) (ends_journey v) (its v) S (journey_cases v S) t in let b = rows_are v (world_at S t).rows in omega arith);
      once = in_one_place S t v;
      links = λ l. always_balanced (joins_link v l) (leaves_link v l) (on_it v l) S (link_cases v l S) t;
    }
