-- Queues are first in, first out, and nobody leaves one before his free-flow seconds are over.
use Rattle.traffic.proofs.Common.{person_of, act_after, ◌≡◌, ℕ, zero, suc, List, ◌∙◌, length, ap, refl, sym, subst, [], ◌∷◌, arith, ◌<◌, ◌≤◌, true, false, ◌++◌, ◌+◌, Bool, inl, inr, eqb, take, drop}
use Rattle.traffic.proofs.Common.{cases_Bool, eqb-true, and_parts, append-nil, append_assoc, length-append, map, map-append, filter, filter-append, Some, Option, ◌||◌, ◌&&◌, Word}
use Rattle.traffic.proofs.Common.{All-from_recursion, world_at, done, told, waiting, buffered, entered, next_link, has_room, is_out_link, is_stuck, out_link, at_after}
use Rattle.traffic.proofs.Common.{seconds_of, World, at, on, Setup, served_row, lands, car, transit_vehicle, departure, of_person, link_of_stop, may_enter}
use Rattle.traffic.proofs.{LeftBehind.serving_stage, Nodes.out_of, Sublists.at-done, Each.each_weaker, Each.each_append}
use Rattle.traffic.specs.Nodes.{seconds_along}
use Rattle.traffic.specs.declared.moves.Move.{Move, TheVariants.Transfer, TheVariants.Remove, TheVariants.Enter, TheVariants.SetFrontSince}
use Rattle.traffic.specs.declared.moves.Move.TheVariants.{Credit, LeaveHole, Report}
use Rattle.traffic.specs.declared.moves.Occurrence.{Occurrence}
use Rattle.traffic.specs.declared.stage.Stage.TheVariants.{Queue, Buffer, Wait, Bay}
use Rattle.traffic.specs.declared.node_views.OutLink.{OutLink}
use Rattle.traffic.specs.declared.world.Row.{Row}
use Rattle.traffic.specs.declared.world.Waiter.{Waiter}
use Rattle.events.specs.declared.event.Word.TheVariants as word
use Rattle.events.specs.declared.event.More.TheVariants as more
use Rattle.std.{proofs.lemmas.List.take-append-le, proofs.lemmas.List.drop-append-le, specs.List.AllByRecursion as Each}
use Rattle.law_journeys.proofs.{History.KeepsHistory, History.IsKept, History.spoken, History.at_time, History.seconds_keep}
use Rattle.law_journeys.proofs.{Told.Words, Told.OfStops, Told.serves_words, Told.aborts_words, Told.front_words, Told.end_words, Walk.Cases, Walk.IsDue, Walk.departing, Walk.second_walk}
use Rattle.law_journeys.specs.{Journeys.Queued, Journeys.queue_of, Journeys.is_entered_link, Journeys.enters_link, Journeys.entering, Journeys.IsFirstInFirstOut, News.News}

-- LISTS
-- the first of what is left goes, too
next_gone : {X : Type 0} (left : ℕ) (x : X) (qs xs : List X) → drop left qs ≡ x ∷ xs → (suc left ≤ length qs) × (take (suc left) qs ≡ take left qs ++ x ∷ []) × (drop (suc left) qs ≡ xs)
next_gone zero x [] xs h = absurd (cc)
next_gone zero x (q ∷ qs) xs h = (omega arith, cc, cc)
next_gone (suc k) x [] xs h = absurd (cc)
next_gone (suc k) x (q ∷ qs) xs h = let y = next_gone k x qs xs h in (let z = y.0 in omega arith, ap (λ zs. q ∷ zs) y.1, y.2)

-- a row as one of a queue
abbrev queued : Row → Queued
queued r = (Some r.vehicle.id, r.second)

-- WORDS
abbrev IsOther : Word → Type 0
IsOther w = is_entered_link w ≡ false

others : OfStops IsOther
others = record { comes = refl; leaves = refl; arrives = refl; begins = refl; enters = refl }

none_enters : (S : Setup) (l t : ℕ) (xs : List Occurrence) → Words IsOther xs → entering S l (map (at_time t) xs) ≡ []
none_enters S l t [] h = refl
none_enters S l t (x ∷ xs) h = let e : enters_link l (at_time t x) ≡ false = rw h.0 refl in simp e (none_enters S l t xs h.1)

entering_more : (S : Setup) (l : ℕ) (hs xs : List News) → entering S l (hs ++ xs) ≡ entering S l hs ++ entering S l xs
entering_more S l hs xs =
    let f : News → Queued = λ e. (e.what.vehicle, e.second + seconds_of S l) in
    ap (map f) (filter-append (enters_link l) hs xs) ∙ map-append f (filter (enters_link l) hs) (filter (enters_link l) xs)

-- THE QUEUE OF ONE LINK
module _ (S : Setup) (l : ℕ) (start : List Queued) where
  -- these were in it, or came; and the first so many have left, in the first n seconds
  record IsInOrder (n : ℕ) (hs : List News) (W : World) (left : ℕ) : Type 0 where
    within : left ≤ length (start ++ entering S l hs)
    gone : Each (λ (q : Queued). q.1 < n) (take left (start ++ entering S l hs))
    rest : queue_of l W ≡ drop left (start ++ entering S l hs)

  abbrev InOrder : ℕ → List News → World → Type 0
  InOrder n hs W = (left : ℕ) × IsInOrder n hs W left

-- the moves of a second
module _ (S : Setup) (l : ℕ) (start : List Queued) (t : ℕ) where
  abbrev Keeps : World → Move → Type 0
  Keeps W m = KeepsHistory (InOrder S l start (suc t)) S t W m

  -- it stays as it is, and nobody enters
  stays : (m : Move) (W : World) → queue_of l (done S t m W) ≡ queue_of l W → entering S l (spoken t m) ≡ [] → Keeps W m
  stays m W e none hs j =
      let same : entering S l (hs ++ spoken t m) ≡ entering S l hs = entering_more S l hs (spoken t m) ∙ ap (λ ys. entering S l hs ++ ys) none ∙ append-nil (entering S l hs) in
      (j.0, record { within = rw same j.1.within; gone = rw same j.1.gone; rest = rw same (e ∙ j.1.rest) })

  -- its front leaves
  leaves : (m : Move) (r : Row) (xs : List Row) (W : World) → at l Queue W ≡ r ∷ xs → at l Queue (done S t m W) ≡ xs → r.second ≤ t → Words IsOther (told m) → Keeps W m
  leaves m r xs W e f due h hs j =
      let all = start ++ entering S l hs in
      let same : entering S l (hs ++ spoken t m) ≡ entering S l hs = entering_more S l hs (spoken t m) ∙ ap (λ ys. entering S l hs ++ ys) (none_enters S l t (told m) h) ∙ append-nil (entering S l hs) in
      let front : drop j.0 all ≡ queued r ∷ map queued xs = sym j.1.rest ∙ ap (map queued) e in
      let y = next_gone j.0 (queued r) all (map queued xs) front in
      let one : Each (λ (p : Queued). p.1 < suc t) (queued r ∷ []) = (omega arith, tt) in
      (suc j.0, record { within = rw same y.0; gone = rw (same, y.1) (each_append (λ (p : Queued). p.1 < suc t) (take j.0 all) (queued r ∷ []) j.1.gone one); rest = rw same (ap (map queued) f ∙ sym y.2) })

  -- one more enters, at its end
  enters : (m : Move) (x : Queued) (W : World) → queue_of l (done S t m W) ≡ queue_of l W ++ x ∷ [] → entering S l (spoken t m) ≡ x ∷ [] → Keeps W m
  enters m x W e f hs j =
      let all = start ++ entering S l hs in
      let more : start ++ entering S l (hs ++ spoken t m) ≡ all ++ x ∷ [] = ap (λ ys. start ++ ys) (entering_more S l hs (spoken t m) ∙ ap (λ ys. entering S l hs ++ ys) f) ∙ sym (append_assoc start (entering S l hs) (x ∷ [])) in
      let within = j.1.within in (
        j.0,
        record {
          within = rw more (omega (arith, length-append all (x ∷ [])));
          gone = rw (more, take-append-le j.0 all (x ∷ []) within) j.1.gone;
          rest = rw more (e ∙ ap (λ ys. ys ++ x ∷ []) j.1.rest ∙ sym (drop-append-le j.0 all (x ∷ []) within));
        },
      )

  -- a move at another place
  away : (m : Move) (W : World) → at_after l Queue m (at l Queue W) ≡ at l Queue W → Words IsOther (told m) → Keeps W m
  away m W e h = stays m W (ap (map queued) (at-done S t l Queue m W ∙ e)) (none_enters S l t (told m) h)

  -- the front of the queue of link a goes into its buffer or bay
  front_goes : (a : ℕ) (r now : Row) (xs : List Row) (W : World) → at a Queue W ≡ r ∷ xs → r.second ≤ t → on l Queue now ≡ false → Words IsOther (told (Transfer a Queue 0 r now)) → Keeps W (Transfer a Queue 0 r now)
  front_goes a r now xs W e due o h =
      let m = Transfer a Queue 0 r now in
      elim (cases_Bool (eqb a l)) [
        | inl q ↦
            let here : at l Queue W ≡ r ∷ xs = subst (λ (b : ℕ). at b Queue W ≡ r ∷ xs) (eqb-true a l q) e in
            leaves m r xs W here (at-done S t l Queue m W ∙ ap (at_after l Queue m) here ∙ simp (q, o) (append-nil xs)) due h
        | inr q ↦ away m W (simp (q, o) (append-nil (at l Queue W))) h
      ]

  front_ends : (a : ℕ) (r : Row) (xs : List Row) (W : World) → at a Queue W ≡ r ∷ xs → r.second ≤ t → Words IsOther (told (Remove a Queue 0 r)) → Keeps W (Remove a Queue 0 r)
  front_ends a r xs W e due h =
      let m = Remove a Queue 0 r in
      elim (cases_Bool (eqb a l)) [
        | inl q ↦
            let here : at l Queue W ≡ r ∷ xs = subst (λ (b : ℕ). at b Queue W ≡ r ∷ xs) (eqb-true a l q) e in
            leaves m r xs W here (at-done S t l Queue m W ∙ ap (at_after l Queue m) here ∙ simp q) due h
        | inr q ↦ away m W (simp q) h
      ]

  -- a vehicle enters a link over a node
  over_node : (n a : ℕ) (e : Option OutLink) (r : Row) (W : World) → e ≡ out_link S t n W (next_link r.vehicle) → may_enter S.settings.stuck t r.second e ≡ true → Keeps W (Transfer a Buffer 0 r (entered t e r.vehicle))
  over_node n a e r W q c =
      let now = entered t e r.vehicle in
      let m = Transfer a Buffer 0 r now in
      let f = out_of S t n (next_link r.vehicle) W e q (and_parts (is_out_link e) (has_room e || (S.settings.stuck.push && is_stuck S.settings.stuck t r.second)) c).0 in
      let along : seconds_along e ≡ seconds_of S now.link = ap seconds_along q ∙ (rw f refl) in
      elim (cases_Bool (eqb now.link l)) [
        | inl o ↦
            let to : now.link ≡ l = eqb-true now.link l o in
            let takes : now.second ≡ t + seconds_of S l = ap (λ (k : ℕ). t + k) (along ∙ ap (seconds_of S) to) in
            let x : Queued = (Some r.vehicle.id, t + seconds_of S l) in
            enters m x W
            (ap (map queued) (at-done S t l Queue m W ∙ simp o) ∙ map-append queued (at l Queue W) (now ∷ [])
            ∙ ap (λ (k : ℕ). queue_of l W ++ (Some r.vehicle.id, k) ∷ []) takes)
            (simp o)
        | inr o ↦ stays m W (ap (map queued) (at-done S t l Queue m W ∙ simp o (append-nil (at l Queue W)))) (simp o)
      ]

  serves_it : (a : ℕ) (s : Bool) (ws : List Waiter) (r : Row) (xs : List Row) (W : World) → at a (serving_stage s) W ≡ r ∷ xs → IsDue t s r → Keeps W (Transfer a (serving_stage s) 0 r (served_row S.settings.dwell t a ws r.vehicle))
  serves_it a false ws r xs W e u = let now = served_row S.settings.dwell t a ws r.vehicle in front_goes a r now xs W e u refl (front_words IsOther false r now refl (serves_words IsOther r now others))
  serves_it a true ws r xs W e u = let now = served_row S.settings.dwell t a ws r.vehicle in away (Transfer a Wait 0 r now) W (append-nil (at l Queue W)) (front_words IsOther true r now refl (serves_words IsOther r now others))

  arrives_it : (a : ℕ) (s : Bool) (r : Row) (xs : List Row) (W : World) → at a (serving_stage s) W ≡ r ∷ xs → IsDue t s r → Keeps W (Remove a (serving_stage s) 0 r)
  arrives_it a false r xs W e u = front_ends a r xs W e u (end_words IsOther false r refl refl others)
  arrives_it a true r xs W e u = away (Remove a Wait 0 r) W refl (end_words IsOther true r refl refl others)

  passes_it : (a : ℕ) (s : Bool) (b : ℕ) (r : Row) (xs : List Row) (W : World) → at a (serving_stage s) W ≡ r ∷ xs → IsDue t s r → Keeps W (Transfer a (serving_stage s) 0 r (buffered t a b r))
  passes_it a false b r xs W e u = front_goes a r (buffered t a b r) xs W e u refl tt
  passes_it a true b r xs W e u = away (Transfer a Wait 0 r (buffered t a b r)) W (append-nil (at l Queue W)) (front_words IsOther true r (buffered t a b r) refl tt)

  cases : Cases S t Keeps
  cases =
      record {
        due = λ a k r W e u. away (Transfer a Bay k r (waiting a r)) W (append-nil (at l Queue W)) (refl, tt);
        serve = λ a s ws r xs W e u c q. serves_it a s ws r xs W e u;
        arrive = λ a s r xs W e u c o. arrives_it a s r xs W e u;
        pass = λ a s b r xs W e u c o. passes_it a s b r xs W e u;
        pay = λ a c W. away (Credit a c) W refl tt;
        free = λ a W. away (LeaveHole a t) W refl tt;
        nodes = λ n. record {
          enter = λ a e r xs W f q c. over_node n a e r W q c;
          abort = λ a r xs W f c. away (Remove a Buffer 0 r) W refl (aborts_words IsOther r refl refl);
          mark = λ a W c. away (SetFrontSince a t) W refl tt;
        };
        land = λ i mode seconds began W lt p e. away (Report (lands i mode seconds (act_after S i (person_of i W).element))) W refl (refl, (refl, (refl, tt)));
        leave = λ i W lt p. away (departing S i W) W refl (refl, (refl, tt));
        drive = λ i route W lt p e. away (Enter (car i route (act_after S i (person_of i W).element).kind)) (done S t (departing S i W) W) (append-nil _) (refl, tt);
        wait = λ i line access egress W lt p e. away (Report (of_person word.WaitingForPt i (link_of_stop S access) (more.Stop access) ∷ [])) (done S t (departing S i W) W) refl (refl, tt);
        start = λ d W lt e. away (Enter (transit_vehicle d (departure S d))) W (append-nil _) (refl, tt);
      }

pub queue_kept : (S : Setup) (l t n : ℕ) → IsFirstInFirstOut S l t n
queue_kept S l t n =
    let first = queue_of l (world_at S t) in
    let kept : IsKept (InOrder S l first) S =
    record {
      begins = λ u hs W j. (j.0, record { within = j.1.within; gone = each_weaker (λ (q : Queued). q.1 < u) (λ (q : Queued). q.1 < suc u) (λ q h. omega arith) _ j.1.gone; rest = j.1.rest });
      moves = λ u. second_walk S u _ (cases S l first u) (world_at S u);
    } in
    let y = seconds_keep (InOrder S l first) S kept t n (zero, record { within = omega arith; gone = tt; rest = sym (append-nil first) }) in
    (y.0, All-from_recursion _ _ y.1.gone, y.1.rest)
