-- Nothing is told of a vehicle on a link that it entered before its free-flow seconds are over.
use Rattle.traffic.proofs.Common.{person_of, act_after, served_vehicle, ◌≡◌, ℕ, List, ◌∙◌, ap, refl, subst, [], ◌∷◌, ◌++◌, ◌+◌, arith, ◌<◌, ◌≤◌, ◌⊎◌, true, false, Bool, inl, inr, suc, eqb, eqb-true, eq-eqb, cases_Bool, cases_lt}
use Rattle.traffic.proofs.Common.{if◌then◌else◌, ◌&&◌, ◌==◌, ◌||◌, and_parts, map, flat_map, sum_by, sum_by-cons, All-from_recursion, slice_get, Some, None, Option, VehicleId, day, events_from}
use Rattle.traffic.proofs.Common.{world_start, world_at, done, told, waiting, buffered, entered, next_link, has_room, is_out_link, is_stuck, out_link, may_enter, seconds_of, World, at, on, Setup}
use Rattle.traffic.proofs.Common.{served_row, lands, car, transit_vehicle, departure, of_person, link_of_stop, starts, serves, arrives, aborts, leaves, enters, strands, alighting, boarded, next_call}
use Rattle.traffic.proofs.Common.{told_to, told_transfer, told_removal, same_vehicle, end_events, without, rank}
use Rattle.traffic.proofs.{LeftBehind.serving_stage, Nodes.out_of, NodeWalk.IsFront, Sublists.at_such, Each.each_all, Each.each_append, Each.each_if, Each.each_flat_all, Each.each_map, Each.each_weaker}
use Rattle.traffic.proofs.{Moments.along_both, Moments.along_weaker}
use Rattle.traffic.specs.{Nodes.seconds_along, Telling.of_vehicle}
use Rattle.traffic.specs.declared.moves.Move.{Move, TheVariants.Transfer, TheVariants.Remove, TheVariants.Enter, TheVariants.SetFrontSince}
use Rattle.traffic.specs.declared.moves.Move.TheVariants.{Credit, LeaveHole, Report}
use Rattle.traffic.specs.declared.{moves.Occurrence.Occurrence, riders.Rider.Rider, stage.Stage.Stage}
use Rattle.traffic.specs.declared.stage.Stage.TheVariants.{Queue, Buffer, Wait, Bay}
use Rattle.traffic.specs.declared.node_views.OutLink.{OutLink}
use Rattle.traffic.specs.declared.world.Row.{Row}
use Rattle.std.specs.List.{AllByRecursion as Each}
use Rattle.events.specs.declared.event.Word.TheVariants as word
use Rattle.events.specs.declared.event.More.TheVariants as more
use Rattle.events.specs.declared.event.VehicleId.TheVariants as vehicle
use Rattle.law_capacity.specs.Moves.{second_moves}
use Rattle.law_one_place.proofs.Vehicles.{is_its, rows_it_has}
use Rattle.law_journeys.proofs.Balance.{IsTimeless, IsStanding, takes, brings, summed, sum_without}
use Rattle.law_journeys.proofs.{Endings.IsStuck, Endings.end_stuck, Endings.day_news, History.KeepsHistory, History.IsKept, History.spoken, History.at_time, History.day_keeps}
use Rattle.law_journeys.proofs.{Singles.single_moves, Told.Words, Told.OfStops, Told.serves_words, Told.aborts_words, Told.front_words, Told.end_words, Walk.Cases, Walk.IsDue, Walk.departing, Walk.second_walk}
use Rattle.law_journeys.specs.Journeys.{is_entered_link, IsFreeFlow, AreFreeFlow, KeepsFreeFlow}
use Rattle.law_journeys.specs.News.{News, news}

-- WHOSE NEWS
-- of this vehicle, or of none
abbrev pub IsOf : VehicleId → Option VehicleId → Type 0
IsOf v None = Unit {0}
IsOf v (Some u) = u ≡ v

abbrev pub AreOf : VehicleId → List Occurrence → Type 0
AreOf v xs = Each (λ (x : Occurrence). IsOf v x.vehicle) xs

pub leaves_of : (v : VehicleId) (l : ℕ) (rs : List Rider) → AreOf v (flat_map (leaves v l) rs)
leaves_of v l rs = each_flat_all (λ (x : Occurrence). IsOf v x.vehicle) (leaves v l) (λ r. (refl, (tt, (tt, tt)))) rs

pub enters_of : (v : VehicleId) (rs : List Rider) → AreOf v (flat_map (enters v) rs)
enters_of v rs = each_flat_all (λ (x : Occurrence). IsOf v x.vehicle) (enters v) (λ r. (refl, tt)) rs

pub starts_of : (r : Row) → AreOf r.vehicle.id (starts r)
starts_of r = each_if (λ (x : Occurrence). IsOf r.vehicle.id x.vehicle) r.vehicle.started [] _ tt (refl, tt)

pub arrives_of : (r : Row) → AreOf r.vehicle.id (arrives r)
arrives_of r = (refl, leaves_of r.vehicle.id r.link r.vehicle.riders)

pub serves_of : (r now : Row) → AreOf r.vehicle.id (serves r now)
serves_of r now =
    let v = r.vehicle in
    let stop = (next_call v).stop in
    (refl, each_append (λ (x : Occurrence). IsOf v.id x.vehicle) (flat_map (leaves v.id r.link) (alighting stop v.riders)) _ (leaves_of v.id r.link (alighting stop v.riders)) (enters_of v.id (boarded stop v.riders now.vehicle.riders)))

pub aborts_of : (r : Row) → AreOf r.vehicle.id (aborts r)
aborts_of r = (refl, each_flat_all (λ (x : Occurrence). IsOf r.vehicle.id x.vehicle) (strands r.vehicle.id r.link) (λ x. (tt, tt)) r.vehicle.riders)

pub front_of : (s : Bool) (r now : Row) → AreOf r.vehicle.id (told_to now.stage r now) → AreOf r.vehicle.id (told_transfer (serving_stage s) r now)
front_of false r now h = h
front_of true r now h = each_append (λ (x : Occurrence). IsOf r.vehicle.id x.vehicle) (starts r) _ (starts_of r) h

pub end_of : (s : Bool) (r : Row) → AreOf r.vehicle.id (told_removal (serving_stage s) r)
end_of false r = arrives_of r
end_of true r = each_append (λ (x : Occurrence). IsOf r.vehicle.id x.vehicle) (starts r) _ (starts_of r) (arrives_of r)

pub same_self : (v : VehicleId) → same_vehicle v v ≡ true
same_self (vehicle.Car i) = eq-eqb i i refl
same_self (vehicle.Transit d) = eq-eqb d d refl

-- ONE VEHICLE ON ONE LINK
module _ (S : Setup) (v : VehicleId) (l : ℕ) where
  record IsEntry (e : News) : Type 0 where
    word : e.what.word ≡ word.EnteredLink
    vehicle : e.what.vehicle ≡ Some v
    link : e.what.link ≡ Some l

  record IsThere (e : News) : Type 0 where
    vehicle : e.what.vehicle ≡ Some v
    link : e.what.link ≡ Some l

  abbrev IsApart : News → News → Type 0
  IsApart e f = IsEntry e → IsThere f → e.second + seconds_of S l ≤ f.second

  abbrev AreApart : List News → Type 0
  AreApart [] = Unit {0}
  AreApart (e ∷ es) = Each (IsApart e) es × AreApart es

  apart_append : (es fs : List News) → AreApart es → AreApart fs → Each (λ e. Each (IsApart e) fs) es → AreApart (es ++ fs)
  apart_append [] fs h g k = g
  apart_append (e ∷ es) fs h g k = (each_append (IsApart e) es fs h.0 k.0, apart_append es fs h.1 g k.1)

  -- 1 for its row in the queue of the link with this second
  abbrev stands : ℕ → Row → ℕ
  stands n r = if on l Queue r && (same_vehicle r.vehicle.id v && (r.second == n)) then 1 else 0

  -- an entry is over in n seconds, or the vehicle still stands in the queue until it is
  abbrev IsPending : ℕ → World → News → Type 0
  IsPending n W e = IsEntry e → (e.second + seconds_of S l < n) ⊎ (1 ≤ sum_by (stands (e.second + seconds_of S l)) W.rows)

  record IsSpaced (n : ℕ) (hs : List News) (W : World) : Type 0 where
    apart : AreApart hs
    pending : Each (IsPending n W) hs

  timeless : (n : ℕ) → IsTimeless (stands n)
  timeless n = record { same = λ t a r e. (let q = and_parts (eqb (rank r.stage) (rank Buffer)) (eqb r.link a) e in let k : rank r.stage ≡ 1 = eqb-true (rank r.stage) 1 q.0 in rw k refl) }

  -- each of its rows in the queue is one of its rows
  stands_its : (n : ℕ) (r : Row) → stands n r ≤ is_its v r.vehicle
  stands_its n r = grind arith

  stands_all : (n : ℕ) (rows : List Row) → sum_by (stands n) rows ≤ rows_it_has v rows
  stands_all n [] = omega arith
  stands_all n (r ∷ rs) = omega (arith, sum_by-cons (stands n) r rs, sum_by-cons (λ (x : Row). is_its v x.vehicle) r rs, stands_its n r, stands_all n rs)

  stands_second : (n : ℕ) (r : Row) → 1 ≤ stands n r → (on l Queue r ≡ true) × (r.second ≡ n)
  stands_second n r h =
      elim (cases_Bool (on l Queue r && (same_vehicle r.vehicle.id v && (r.second == n)))) [
        | inl e ↦ let p = and_parts (on l Queue r) (same_vehicle r.vehicle.id v && (r.second == n)) e in let q = and_parts (same_vehicle r.vehicle.id v) (r.second == n) p.1 in (p.0, eqb-true r.second n q.1)
        | inr e ↦ absurd (let z : stands n r ≡ 0 = rw e refl in omega arith)
      ]

  abbrev its : Row → ℕ
  its r = is_its v r.vehicle

  -- the rows that a move leaves where they are
  abbrev left_rows : Move → List Row → List Row
  left_rows (Transfer a s k was now) rows = without (on a s) k rows
  left_rows (Remove a s k was) rows = without (on a s) k rows
  left_rows _ rows = rows

  taken_sum : (h : Row → ℕ) (m : Move) (W : World) → IsStanding m W → sum_by h (left_rows m W.rows) + takes h m ≡ sum_by h W.rows
  taken_sum h (Transfer a s k was now) W e = sum_without h (on a s) k was W.rows e
  taken_sum h (Remove a s k was) W e = sum_without h (on a s) k was W.rows e
  taken_sum h _ W e = omega arith

  -- ONE MOVE
  -- a vehicle enters a link, and that is told last
  record IsCrossed (t : ℕ) (m : Move) : Type 0 where
    left : Occurrence
    came : Occurrence
    tells : told m ≡ left ∷ came ∷ []
    first : is_entered_link left.word ≡ false
    stands_now : IsEntry (at_time t came) → (1 ≤ brings (stands (t + seconds_of S l)) m) × (takes (stands (t + seconds_of S l)) m ≡ 0)

  record IsDriven (t : ℕ) (W : World) (m : Move) : Type 0 where
    standing : IsStanding m W
    due : (n : ℕ) → 1 ≤ takes (stands n) m → n ≤ t
    named : Each (λ (x : Occurrence). IsThere (at_time t x) → (1 ≤ takes its m) ⊎ (1 ≤ brings its m × takes its m ≡ 0)) (told m)
    entries : Words (λ w. is_entered_link w ≡ false) (told m) ⊎ IsCrossed t m

  abbrev Single : ℕ → World → Move → Type 0
  Single t W m = (rows_it_has v W.rows ≤ 1) × (rows_it_has v (done S t m W).rows ≤ 1)

  no_entry : (e : News) → is_entered_link e.what.word ≡ false → IsEntry e → ⊥
  no_entry e h i = let z : is_entered_link e.what.word ≡ true = ap is_entered_link i.word in cc

  none_apart : (t : ℕ) (xs : List Occurrence) → Words (λ w. is_entered_link w ≡ false) xs → AreApart (map (at_time t) xs)
  none_apart t [] h = tt
  none_apart t (x ∷ xs) h = (each_all (IsApart (at_time t x)) (λ f i k. absurd (no_entry (at_time t x) h.0 i)) (map (at_time t) xs), none_apart t xs h.1)

  none_pending : (t n : ℕ) (W : World) (xs : List Occurrence) → Words (λ w. is_entered_link w ≡ false) xs → Each (IsPending n W) (map (at_time t) xs)
  none_pending t n W xs h = each_map (λ (x : Occurrence). is_entered_link x.word ≡ false) (IsPending n W) (at_time t) (λ x e i. absurd (no_entry (at_time t x) e i)) xs h

  module _ (t : ℕ) (m : Move) (W : World) (d : IsDriven t W m) (one : Single t W m) where
    -- whose row stands in the queue is told of only when it is due
    told_due : (n : ℕ) → 1 ≤ sum_by (stands n) W.rows → (1 ≤ takes its m) ⊎ (1 ≤ brings its m × takes its m ≡ 0) → n ≤ t
    told_due n h (inl some) =
        let a = taken_sum (stands n) m W d.standing in
        let b = taken_sum its m W d.standing in
        let c = stands_all n (left_rows m W.rows) in
        let o = one.0 in
        d.due n (omega arith)
    told_due n h (inr new) =
        let a = summed its (record { same = λ u k r e. refl }) m W d.standing in
        let c = stands_all n W.rows in
        let o = one.1 in
        let p = new.0 in
        let q = new.1 in
        absurd (omega arith)

    old_apart : (e : News) → IsPending (suc t) W e → Each (IsApart e) (spoken t m)
    old_apart e h =
        each_map (λ (x : Occurrence). IsThere (at_time t x) → (1 ≤ takes its m) ⊎ (1 ≤ brings its m × takes its m ≡ 0)) (IsApart e) (at_time t)
        (λ x k i there. elim (h i) [ inl over ↦ omega arith | inr stands_still ↦ told_due (e.second + seconds_of S l) stands_still (k there) ]) (told m) d.named

    old_pending : (e : News) → IsPending (suc t) W e → IsPending (suc t) (done S t m W) e
    old_pending e h i =
        let n = e.second + seconds_of S l in
        elim (h i) [
          | inl over ↦ inl over
          | inr still ↦ elim (cases_lt 0 (takes (stands n) m)) [
            | inl lt ↦ let k = d.due n (omega arith) in inl (omega arith)
            | inr ge ↦ let a = summed (stands n) (timeless n) m W d.standing in inr (omega arith)
          ]
        ]

    new_apart : AreApart (spoken t m)
    new_apart = elim d.entries [
      | inl none ↦ none_apart t (told m) none
      | inr c ↦ rw c.tells (((λ i k. absurd (no_entry (at_time t c.left) c.first i)), tt), (tt, tt))
    ]

    new_pending : Each (IsPending (suc t) (done S t m W)) (spoken t m)
    new_pending = elim d.entries [
      | inl none ↦ none_pending t (suc t) (done S t m W) (told m) none
      | inr c ↦ rw c.tells (
        (λ i. absurd (no_entry (at_time t c.left) c.first i)),
        (
          (λ i. (
              let n = t + seconds_of S l in
              let k = c.stands_now i in
              let p = k.0 in
              let q = k.1 in
              let a = summed (stands n) (timeless n) m W d.standing in
              inr (omega arith)
              )),
          tt,
        ),
      )
    ]

    spaced_step : (hs : List News) → IsSpaced (suc t) hs W → IsSpaced (suc t) (hs ++ spoken t m) (done S t m W)
    spaced_step hs h =
        record {
          apart = apart_append hs (spoken t m) h.apart new_apart (each_weaker (IsPending (suc t) W) (λ e. Each (IsApart e) (spoken t m)) old_apart hs h.pending);
          pending = each_append (IsPending (suc t) (done S t m W)) hs (spoken t m) (each_weaker (IsPending (suc t) W) (IsPending (suc t) (done S t m W)) old_pending hs h.pending) new_pending;
        }

-- EVERY MOVE
module _ (S : Setup) (v : VehicleId) (l t : ℕ) where
  abbrev Drives : World → Move → Type 0
  Drives W m = IsDriven S v l t W m

  others : OfStops (λ w. is_entered_link w ≡ false)
  others = record { comes = refl; leaves = refl; arrives = refl; begins = refl; enters = refl }

  stage_of : (a : ℕ) (s : Stage) (k : ℕ) (r : Row) (W : World) → slice_get (at a s W) k ≡ Some r → r.stage ≡ s
  stage_of a s k r W e = (at_such (λ (x : Row). Unit {0}) a s k r W.rows (λ j d lt. tt) e).1

  -- a row elsewhere than in a queue
  aside : (n : ℕ) (r : Row) (s : Stage) → rank s ≡ 1 ⊎ (rank s ≡ 2 ⊎ rank s ≡ 3) → r.stage ≡ s → stands S v l n r ≡ 0
  aside n r s h e = let k : rank r.stage ≡ rank s = ap rank e in elim h [ inl q ↦ rw (k ∙ q) refl | inr g ↦ elim g [ inl q ↦ rw (k ∙ q) refl | inr q ↦ rw (k ∙ q) refl ] ]

  -- what is told of the vehicle of a row
  names_row : (r : Row) (xs : List Occurrence) → AreOf r.vehicle.id xs → Each (λ (x : Occurrence). IsThere S v l (at_time t x) → 1 ≤ its S v l r) xs
  names_row r xs h =
      each_weaker (λ (x : Occurrence). IsOf r.vehicle.id x.vehicle) (λ (x : Occurrence). IsThere S v l (at_time t x) → 1 ≤ its S v l r)
      (λ x k there. (
      let same : v ≡ r.vehicle.id = subst (λ (o : Option VehicleId). IsOf r.vehicle.id o) there.vehicle k in
      let q : same_vehicle r.vehicle.id v ≡ true = rw same (same_self r.vehicle.id) in
      let one : its S v l r ≡ 1 = rw q refl in
      omega arith
      )) xs h

  by_row : (m : Move) (r : Row) (W : World) → IsStanding m W → takes (its S v l) m ≡ its S v l r → AreOf r.vehicle.id (told m) → ((n : ℕ) → 1 ≤ takes (stands S v l n) m → n ≤ t) → Words (λ w. is_entered_link w ≡ false) (told m) ⊎ IsCrossed S v l t m → Drives W m
  by_row m r W e same of due entries =
      record {
        standing = e;
        due = due;
        named = each_weaker (λ (x : Occurrence). IsThere S v l (at_time t x) → 1 ≤ its S v l r) _ (λ x k there. (let z = k there in inl (omega arith))) (told m) (names_row r (told m) of);
        entries = entries;
      }

  -- a move that takes no row, and names no vehicle on the link
  by_none : (m : Move) (W : World) → IsStanding m W → ((n : ℕ) → takes (stands S v l n) m ≡ 0) → Each (λ (x : Occurrence). IsThere S v l (at_time t x) → ⊥) (told m) → Words (λ w. is_entered_link w ≡ false) (told m) → Drives W m
  by_none m W e none named words =
      record {
        standing = e;
        due = λ n h. (let z = none n in absurd (omega arith));
        named = each_weaker (λ (x : Occurrence). IsThere S v l (at_time t x) → ⊥) _ (λ x k there. absurd (k there)) (told m) named;
        entries = inl words;
      }

  front_due : (a : ℕ) (s : Bool) (r : Row) (xs : List Row) (W : World) → at a (serving_stage s) W ≡ r ∷ xs → IsDue t s r → (n : ℕ) → 1 ≤ stands S v l n r → n ≤ t
  front_due a false r xs W e u n h = let q = (stands_second S v l n r h).1 in omega arith
  front_due a true r xs W e u n h = let z = aside n r Wait (inr (inl refl)) (stage_of a Wait 0 r W (rw e refl)) in absurd (omega arith)

  away_due : (a : ℕ) (s : Stage) (k : ℕ) (r : Row) (W : World) → rank s ≡ 1 ⊎ (rank s ≡ 2 ⊎ rank s ≡ 3) → slice_get (at a s W) k ≡ Some r → (n : ℕ) → 1 ≤ stands S v l n r → n ≤ t
  away_due a s k r W f e n h = let z = aside n r s f (stage_of a s k r W e) in absurd (omega arith)

  crosses : (n a : ℕ) (e : Option OutLink) (r : Row) (xs : List Row) (W : World) → IsFront S n a r xs W → e ≡ out_link S t n W (next_link r.vehicle) → may_enter S.settings.stuck t r.second e ≡ true → Drives W (Transfer a Buffer 0 r (entered t e r.vehicle))
  crosses n a e r xs W f q c =
      let now = entered t e r.vehicle in
      let m = Transfer a Buffer 0 r now in
      let out = out_of S t n (next_link r.vehicle) W e q (and_parts (is_out_link e) (has_room e || (S.settings.stuck.push && is_stuck S.settings.stuck t r.second)) c).0 in
      let along : seconds_along e ≡ seconds_of S now.link = ap seconds_along q ∙ (rw out refl) in
      let front : slice_get (at a Buffer W) 0 ≡ Some r = rw f.rows refl in
      let none : (k : ℕ) → stands S v l k r ≡ 0 = λ k. aside k r Buffer (inl refl) (stage_of a Buffer 0 r W front) in
      by_row m r W front refl (refl, (refl, tt)) (λ k h. (let z = none k in absurd (omega arith)))
      (inr (record {
        left = of_vehicle word.LeftLink r.vehicle.id r.link more.Nothing;
        came = of_vehicle word.EnteredLink r.vehicle.id now.link more.Nothing;
        tells = refl;
        first = refl;
        stands_now = λ i. (
            let to : now.link ≡ l = (let z = i.link in cc) in
            let who : r.vehicle.id ≡ v = (let z = i.vehicle in cc) in
            let a1 = eq-eqb now.link l to in
            let a2 : same_vehicle r.vehicle.id v ≡ true = subst (λ (u : VehicleId). same_vehicle r.vehicle.id u ≡ true) who (same_self r.vehicle.id) in
            let a3 = eq-eqb now.second (t + seconds_of S l) (ap (λ (k : ℕ). t + k) (along ∙ ap (seconds_of S) to)) in
            let b : stands S v l (t + seconds_of S l) now ≡ 1 = simp (a1, a2, a3) in
            (omega arith, none (t + seconds_of S l))
            );
      }))

  driven : Cases S t Drives
  unfolding served_vehicle
  driven =
      record {
        due = λ a k r W e u. by_row (Transfer a Bay k r (waiting a r)) r W e refl (refl, tt) (away_due a Bay k r W (inr (inr refl)) e) (inl (refl, tt));
        serve = λ a s ws r xs W e u c q. (let now = served_row S.settings.dwell t a ws r.vehicle in by_row (Transfer a (serving_stage s) 0 r now) r W (rw e refl) refl (front_of s r now (serves_of r now)) (front_due a s r xs W e u) (inl (front_words (λ w. is_entered_link w ≡ false) s r now refl (serves_words (λ w. is_entered_link w ≡ false) r now others))));
        arrive = λ a s r xs W e u c o. by_row (Remove a (serving_stage s) 0 r) r W (rw e refl) refl (end_of s r) (front_due a s r xs W e u) (inl (end_words (λ w. is_entered_link w ≡ false) s r refl refl others));
        pass = λ a s b r xs W e u c o. by_row (Transfer a (serving_stage s) 0 r (buffered t a b r)) r W (rw e refl) refl (front_of s r (buffered t a b r) tt) (front_due a s r xs W e u) (inl (front_words (λ w. is_entered_link w ≡ false) s r (buffered t a b r) refl tt));
        pay = λ a c W. by_none (Credit a c) W tt (λ n. refl) tt tt;
        free = λ a W. by_none (LeaveHole a t) W tt (λ n. refl) tt tt;
        nodes = λ n. record {
          enter = λ a e r xs W f q c. crosses n a e r xs W f q c;
          abort = λ a r xs W f c. by_row (Remove a Buffer 0 r) r W (rw f.rows refl) refl (aborts_of r) (away_due a Buffer 0 r W (inl refl) (rw f.rows refl)) (inl (aborts_words (λ w. is_entered_link w ≡ false) r refl refl));
          mark = λ a W c. by_none (SetFrontSince a t) W tt (λ n. refl) tt tt;
        };
        land = λ i mode seconds began W lt p e. by_none (Report (lands i mode seconds (act_after S i (person_of i W).element))) W tt (λ n. refl) ((λ h. (let z = h.vehicle in cc)), ((λ h. (let z = h.vehicle in cc)), ((λ h. (let z = h.vehicle in cc)), tt))) (refl, (refl, (refl, tt)));
        leave = λ i W lt p. by_none (departing S i W) W tt (λ n. refl) ((λ h. (let z = h.vehicle in cc)), ((λ h. (let z = h.vehicle in cc)), tt)) (refl, (refl, tt));
        drive = λ i route W lt p e. by_none (Enter (car i route (act_after S i (person_of i W).element).kind)) (done S t (departing S i W) W) tt (λ n. refl) ((λ h. (let z = h.link in cc)), tt) (refl, tt);
        wait = λ i line access egress W lt p e. by_none (Report (of_person word.WaitingForPt i (link_of_stop S access) (more.Stop access) ∷ [])) (done S t (departing S i W) W) tt (λ n. refl) ((λ h. (let z = h.vehicle in cc)), tt) (refl, tt);
        start = λ d W lt e. record {
          standing = tt;
          due = λ n h. absurd (omega arith);
          named = (
            (λ h. (
                let who : vehicle.Transit d ≡ v = (let z = h.vehicle in cc) in
                let same : same_vehicle (vehicle.Transit d) v ≡ true = subst (λ (u : VehicleId). same_vehicle (vehicle.Transit d) u ≡ true) who (same_self (vehicle.Transit d)) in
                let one : its S v l (transit_vehicle d (departure S d)) ≡ 1 = rw same refl in
                inr (omega arith, refl)
                )),
            tt,
          );
          entries = inl (refl, tt);
        };
      }

-- THE DAY
spaced_kept : (S : Setup) (v : VehicleId) (l : ℕ) → IsKept (λ n hs W. IsSpaced S v l n hs W) S
spaced_kept S v l =
    record {
      begins = λ t hs W j. record { apart = j.apart; pending = each_weaker (IsPending S v l t W) (IsPending S v l (suc t) W) (λ e h i. elim (h i) [ inl o ↦ inl (omega arith) | inr s ↦ inr s ]) hs j.pending };
      moves = λ t. (
          let W = world_at S t in
          along_weaker (λ V m. IsDriven S v l t V m × Single S v l t V m) (KeepsHistory (λ hs V. IsSpaced S v l (suc t) hs V) S t) (λ V m g hs j. spaced_step S v l t m V g.0 g.1 hs j) S t (second_moves S t W) W
          (along_both (IsDriven S v l t) (Single S v l t) S t (second_moves S t W) W (second_walk S t (IsDriven S v l t) (driven S v l t) W) (single_moves v S t))
          );
    }

stuck_apart : (S : Setup) (v : VehicleId) (l : ℕ) (es : List News) → Each IsStuck es → AreApart S v l es
stuck_apart S v l [] h = tt
stuck_apart S v l (e ∷ es) h = (each_all (IsApart S v l e) (λ f i k. absurd (let z = i.vehicle in let y = h.0.nobody in cc)) es, stuck_apart S v l es h.1)

day_apart : (S : Setup) (v : VehicleId) (l : ℕ) → AreApart S v l (news (day S))
day_apart S v l =
    let end = S.settings.end_second in
    let hs = news (events_from S (world_start S) end) in
    let more = news (end_events S end (world_at S end)) in
    let stuck = end_stuck S end (world_at S end) in
    let y = day_keeps (λ n hs W. IsSpaced S v l n hs W) S (spaced_kept S v l) (record { apart = tt; pending = tt }) end in
    rw (day_news S) (apart_append S v l hs more y.apart (stuck_apart S v l more stuck) (each_all (λ e. Each (IsApart S v l e) more) (λ e. each_weaker IsStuck (IsApart S v l e) (λ f k i there. absurd (let z = there.vehicle in let y = k.nobody in cc)) more stuck) hs))

each_flow : (S : Setup) (e : News) (es : List News) → ((v : VehicleId) (l : ℕ) → Each (IsApart S v l e) es) → Each (IsFreeFlow S e) es
each_flow S e [] h = tt
each_flow S e (f ∷ fs) h = ((λ v l a b c d g. (h v l).0 (record { word = a; vehicle = b; link = c }) (record { vehicle = d; link = g })), each_flow S e fs (λ v l. (h v l).1))

all_flow : (S : Setup) (es : List News) → ((v : VehicleId) (l : ℕ) → AreApart S v l es) → AreFreeFlow S es
all_flow S [] h = tt
all_flow S (e ∷ es) h = (All-from_recursion (IsFreeFlow S e) es (each_flow S e es (λ v l. (h v l).0)), all_flow S es (λ v l. (h v l).1))

pub nobody_early : (S : Setup) → KeepsFreeFlow S
nobody_early S = all_flow S (news (day S)) (day_apart S)
