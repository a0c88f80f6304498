-- A vehicle comes to a link from one that ends where this one begins, or where its journey begins.
use Rattle.traffic.proofs.Common.{person_of, act_after, ◌≡◌, ℕ, List, ◌∙◌, ap, refl, sym, subst, [], ◌∷◌, ◌++◌, true, false, Bool, eqb-true, and_parts, map, Some, None, Option, ◌||◌, ◌&&◌}
use Rattle.traffic.proofs.Common.{All-from_recursion, VehicleId, Word, events_from, world_start, world_at, done, told, waiting, buffered, entered, next_link, has_room, is_out_link, is_stuck}
use Rattle.traffic.proofs.Common.{out_link, link_row, World, at, Setup, served_row, lands, car, transit_vehicle, departure, of_person, link_of_stop, may_enter, starts}
use Rattle.traffic.proofs.Common.{arrives, get_or, VehicleState, told_transfer, told_removal, told_to, map-append, suc, if◌then◌else◌}
use Rattle.traffic.proofs.{LeftBehind.serving_stage, Nodes.out_of, Sublists.at_such, Each.each_all, Moments.along_given, Moments.along_weaker, NodeWalk.IsFront}
use Rattle.traffic.specs.declared.moves.Move.{Move, TheVariants.Transfer, TheVariants.Remove, TheVariants.Enter, TheVariants.SetFrontSince}
use Rattle.traffic.specs.declared.moves.Move.TheVariants.{Credit, LeaveHole, Report}
use Rattle.traffic.specs.declared.{moves.Occurrence.Occurrence, stage.Stage.Stage}
use Rattle.traffic.specs.declared.stage.Stage.TheVariants.{Buffer, Wait, Bay}
use Rattle.traffic.specs.declared.node_views.OutLink.{OutLink}
use Rattle.traffic.specs.declared.world.Row.{Row}
use Rattle.std.specs.List.{AllByRecursion as Each}
use Rattle.events.specs.declared.event.Word.TheVariants as word
use Rattle.events.specs.declared.event.More.TheVariants as more
use Rattle.events.specs.declared.event.VehicleId.TheVariants as vehicle
use Rattle.law_capacity.specs.Moves.{second_moves}
use Rattle.law_journeys.proofs.{Endings.IsStuck, Endings.end_stuck, Endings.day_news, Fit.Fit, Fit.IsFit, Fit.IsIts, Fit.fit_moves, History.KeepsHistory, History.IsKept, History.spoken}
use Rattle.law_journeys.proofs.{History.at_time, History.day_keeps, Told.Words, Told.aborts_words, Told.arrives_words, Told.serves_words, Told.OfStops, Walk.Cases, Walk.departing, Walk.second_walk}
use Rattle.law_journeys.specs.Journeys.{BeginsOn, IsDrivenFrom, MayJoin, MayAllJoin, IsContinuous}
use Rattle.law_journeys.specs.News.{News, news}

-- LISTS
-- whatever was told before
abbrev Come : Setup → List News → Type 0
Come S es = (before : Option News) → MayAllJoin S before es

come_append : (S : Setup) (before : Option News) (es more : List News) → MayAllJoin S before es → Come S more → MayAllJoin S before (es ++ more)
come_append S before [] more h g = g before
come_append S before (e ∷ es) more h g = (h.0, come_append S (Some e) es more h.1 g)

-- a word by which no vehicle comes to a link
abbrev IsElse : Word → Type 0
IsElse w = (S : Setup) (before : Option News) (e : News) → MayJoin S before e w

none_come : (S : Setup) (t : ℕ) (xs : List Occurrence) → Words IsElse xs → Come S (map (at_time t) xs)
none_come S t [] h before = tt
none_come S t (x ∷ xs) h before = (h.0 S before (at_time t x), none_come S t xs h.1 (Some (at_time t x)))

comes_append : (S : Setup) (t : ℕ) (xs ys : List Occurrence) → Come S (map (at_time t) xs) → Come S (map (at_time t) ys) → Come S (map (at_time t) (xs ++ ys))
comes_append S t xs ys h g before = rw (map-append (at_time t) xs ys) (come_append S before (map (at_time t) xs) (map (at_time t) ys) (h before) g)

come_if : (S : Setup) (t : ℕ) (b : Bool) (x : Occurrence) → (b ≡ false → (before : Option News) → MayJoin S before (at_time t x) x.word) → Come S (map (at_time t) (if b then [] else x ∷ []))
come_if S t true x h before = tt
come_if S t false x h before = (h refl before, tt)

-- VEHICLES THAT ENTER TRAFFIC
begins : (S : Setup) (l : ℕ) (v : VehicleState) (id : VehicleId) → IsIts S v id → l ≡ get_or v.route v.place 0 → v.place ≡ 0 → BeginsOn S l id
begins S l v (vehicle.Car i) f e z = (f.way.0, subst (IsDrivenFrom l) (sym f.way.1) (sym (e ∙ ap (λ (p : ℕ). get_or v.route p 0) z)))
begins S l v (vehicle.Transit d) f e z = ap (λ (r : List ℕ). get_or r 0 0) (sym f.route) ∙ sym (e ∙ ap (λ (p : ℕ). get_or v.route p 0) z)

starts_come : (S : Setup) (t : ℕ) (r : Row) → IsFit S r.stage r.link r.vehicle → Come S (map (at_time t) (starts r))
starts_come S t r f = come_if S t r.vehicle.started _ (λ e before. begins S r.link r.vehicle r.vehicle.id f.its f.link (f.first e))

-- the front of a list, as it stands there
pub front_is : (P : Row → Type 0) (a : ℕ) (s : Stage) (r : Row) (xs : List Row) (W : World) → Each P W.rows → at a s W ≡ r ∷ xs → P r × (r.stage ≡ s) × (r.link ≡ a)
front_is P a s r xs W h e = at_such P a s 0 r W.rows (All-from_recursion P W.rows h) (rw e refl)

-- THE MOVES OF A SECOND
module _ (S : Setup) (t : ℕ) where
  abbrev Comes : World → Move → Type 0
  Comes W m = Fit S W → Come S (spoken t m)

  links : OfStops IsElse
  links = record { comes = λ S before e. tt; leaves = λ S before e. tt; arrives = λ S before e. tt; begins = λ S before e. tt; enters = λ S before e. tt }

  fit_row : (a : ℕ) (s : Stage) (r : Row) (xs : List Row) (W : World) → Fit S W → at a s W ≡ r ∷ xs → IsFit S r.stage r.link r.vehicle
  fit_row a s r xs W h e = (front_is (λ (x : Row). IsFit S x.stage x.link x.vehicle) a s r xs W h e).0

  front_comes : (a : ℕ) (s : Bool) (r now : Row) (xs : List Row) (W : World) → at a (serving_stage s) W ≡ r ∷ xs → Words IsElse (told_to now.stage r now) → Fit S W → Come S (map (at_time t) (told_transfer (serving_stage s) r now))
  front_comes a false r now xs W e h f = none_come S t (told_to now.stage r now) h
  front_comes a true r now xs W e h f = comes_append S t (starts r) (told_to now.stage r now) (starts_come S t r (fit_row a Wait r xs W f e)) (none_come S t (told_to now.stage r now) h)

  end_comes : (a : ℕ) (s : Bool) (r : Row) (xs : List Row) (W : World) → at a (serving_stage s) W ≡ r ∷ xs → Fit S W → Come S (map (at_time t) (told_removal (serving_stage s) r))
  end_comes a false r xs W e f = none_come S t (arrives r) (arrives_words IsElse r (λ S before e. tt) links)
  end_comes a true r xs W e f = comes_append S t (starts r) (arrives r) (starts_come S t r (fit_row a Wait r xs W f e)) (none_come S t (arrives r) (arrives_words IsElse r (λ S before e. tt) links))

  crosses : (n a : ℕ) (e : Option OutLink) (r : Row) (xs : List Row) (W : World) → IsFront S n a r xs W → e ≡ out_link S t n W (next_link r.vehicle) → may_enter S.settings.stuck t r.second e ≡ true → Come S (spoken t (Transfer a Buffer 0 r (entered t e r.vehicle)))
  crosses n a e r xs W f q c before =
      let m = next_link r.vehicle in
      let out = out_of S t n m W e q (and_parts (is_out_link e) (has_room e || (S.settings.stuck.push && is_stuck S.settings.stuck t r.second)) c).0 in
      let here : r.link ≡ a = (front_is (λ x. Unit {0}) a Buffer r xs W (each_all (λ x. Unit {0}) (λ x. tt) W.rows) f.rows).2 in
      let joined : (link_row S r.link).to ≡ (link_row S m).from = ap (λ (l : ℕ). (link_row S l).to) here ∙ eqb-true (link_row S a).to n f.into ∙ sym (eqb-true (link_row S m).from n out) in
      (tt, (record { left_link = refl; vehicle = refl; second = refl; joined = joined }, tt))

  quiet : (m : Move) (W : World) → Words IsElse (told m) → Comes W m
  quiet m W h f = none_come S t (told m) h

  cases : Cases S t Comes
  cases =
      record {
        due = λ a k r W e u. quiet (Transfer a Bay k r (waiting a r)) W ((λ S before e. tt), tt);
        serve = λ a s ws r xs W e u c q. (let now = served_row S.settings.dwell t a ws r.vehicle in front_comes a s r now xs W e (serves_words IsElse r now links));
        arrive = λ a s r xs W e u c o. end_comes a s r xs W e;
        pass = λ a s b r xs W e u c o. front_comes a s r (buffered t a b r) xs W e tt;
        pay = λ a c W. quiet (Credit a c) W tt;
        free = λ a W. quiet (LeaveHole a t) W tt;
        nodes = λ n. record {
          enter = λ a e r xs W f q c h. crosses n a e r xs W f q c;
          abort = λ a r xs W f c. quiet (Remove a Buffer 0 r) W (aborts_words IsElse r (λ S before e. tt) (λ S before e. tt));
          mark = λ a W c. quiet (SetFrontSince a t) W tt;
        };
        land = λ i mode seconds began W lt p e. quiet (Report (lands i mode seconds (act_after S i (person_of i W).element))) W ((λ S before e. tt), ((λ S before e. tt), ((λ S before e. tt), tt)));
        leave = λ i W lt p. quiet (departing S i W) W ((λ S before e. tt), ((λ S before e. tt), tt));
        drive = λ i route W lt p e. quiet (Enter (car i route (act_after S i (person_of i W).element).kind)) (done S t (departing S i W) W) ((λ S before e. tt), tt);
        wait = λ i line access egress W lt p e. quiet (Report (of_person word.WaitingForPt i (link_of_stop S access) (more.Stop access) ∷ [])) (done S t (departing S i W) W) ((λ S before e. tt), tt);
        start = λ d W lt e. quiet (Enter (transit_vehicle d (departure S d))) W ((λ S before e. tt), tt);
      }

-- THE DAY
abbrev Continuous : Setup → ℕ → List News → World → Type 0
Continuous S n hs W = MayAllJoin S None hs

stuck_come : (S : Setup) (es : List News) → Each IsStuck es → Come S es
stuck_come S [] h before = tt
stuck_come S (e ∷ es) h before = (subst (MayJoin S before e) (sym h.0.word) tt, stuck_come S es h.1 (Some e))

day_kept : (S : Setup) → IsKept (Continuous S) S
day_kept S =
    record {
      begins = λ t hs W j. j;
      moves = λ t. (
          let W = world_at S t in
          let come = along_given (λ V m. Fit S V) (λ V m. Come S (spoken t m)) S t (second_moves S t W) W (second_walk S t (Comes S t) (cases S t) W) (fit_moves S t) in
          along_weaker (λ V m. Come S (spoken t m)) (KeepsHistory (Continuous S (suc t)) S t) (λ V m g hs j. come_append S None hs (spoken t m) j g) S t (second_moves S t W) W come
          );
    }

pub continuous : (S : Setup) → IsContinuous S
continuous S =
    let end = S.settings.end_second in
    rw (day_news S) (come_append S None (news (events_from S (world_start S) end)) _ (day_keeps (Continuous S) S (day_kept S) tt end) (stuck_come S _ (end_stuck S end (world_at S end))))
