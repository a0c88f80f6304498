-- To which partition a person belongs while a second is done: the phases C and D.
use Rattle.traffic.proofs.Common.{◌≡◌, ℕ, List, ◌∙◌, length, ap, refl, sym, [], ◌∷◌, arith, true, ◌++◌, ◌+◌, Bool, inl, inr, subst, ◌≤◌, false, suc, eqb, zero}
use Rattle.traffic.proofs.Common.{◌-◌, ◌≢◌, ◌⊎◌, cases_Bool, cases_lt, sum_by-cons, flat_map, map, filter, not, if◌then◌else◌, nat_lt, nat_le, VehicleId}
use Rattle.traffic.proofs.Common.{Dwelling, raised, VEHICLE_COST, link_turns, node_turns, link_moves, rules, link_state, waiting, leave_bay, from_queue}
use Rattle.traffic.proofs.Common.{from_wait, is_last, may_pass, wait_after, numbers, done, told, person_after, person_after_all, start_act, at_after, entered}
use Rattle.traffic.proofs.Common.{waiters, World, at, on, Setup, act_at, served_row, served_vehicle, boarding, next_call, alighting, left_behind, rider}
use Rattle.traffic.proofs.Common.{calls_on, arrives, enters, leaves, starts, serves, strands, driver, of_driver, listed}
use Rattle.traffic.proofs.{Each.each_all, Each.each_append, Each.each_filter, Each.each_kept, Each.each_map, Each.each_flat_all, LeftBehind.after-append}
use Rattle.traffic.proofs.{Moments.Keeps, Moments.along_each, Moments.along_kept, NodeWalk.NodeCases, NodeWalk.node_walk, Sublists.at-done, Waiting.boarded-are}
use Rattle.traffic.specs.declared.moves.Move.{Move, TheVariants.Transfer, TheVariants.SetFrontSince, TheVariants.Credit, TheVariants.Remove as Quit}
use Rattle.traffic.specs.declared.{moves.Occurrence.Occurrence, numbers.Rules.Rules, riders.Rider.Rider, stage.Stage.Stage}
use Rattle.traffic.specs.declared.stage.Stage.TheVariants.{Queue, Buffer, Wait, Bay}
use Rattle.traffic.specs.declared.world.{Person.Person, Place.Place, Place.TheVariants.At, Place.TheVariants.Teleporting, Place.TheVariants.Waiting}
use Rattle.traffic.specs.declared.world.{Place.TheVariants.Riding, Place.TheVariants.Aborted, Row.Row, Waiter.Waiter}
use Rattle.std.specs.List.{AllByRecursion as Each}
use Rattle.events.specs.declared.event.Word.TheVariants as word
use Rattle.law_one_place.proofs.Boarding.{one_rider, quiet, in_line, board_few, left_few, left_none, riders_are}
use Rattle.law_one_place.proofs.{Places.among_riders, Places.rides, Turns.started}
use Rattle.parts.specs.Owners.{Owner, owner_of}
use Rattle.law_partitions.proofs.{Home.Home, Listing.on_link, Quiet.Quiet, Quiet.person_moves, Quiet.person_moves-append, Quiet.quiet_same, Spare.one-left}
use Rattle.law_partitions.proofs.Tells.{listed-cons, listed-append, listed-waiting, serves-none, arrives-quiet, bay-quiet, link-quiet}
pub use Rattle.law_sound_setups.specs.Alighting.{Alights, AlightAll}

-- these rows stand on link a
abbrev OnLink : ℕ → List Row → Type 0
OnLink a rows = Each (λ (r : Row). r.link ≡ a) rows

on_its_link : (a : ℕ) (s : Stage) (rows : List Row) → OnLink a (filter (on a s) rows)
on_its_link a s rows = each_filter (λ (r : Row). Unit {0}) (λ (r : Row). r.link ≡ a) (on a s) (λ r e u. on_link a s r e) rows (each_all (λ (r : Row). Unit {0}) (λ r. tt) rows)

module _ (S : Setup) (own : Owner) (p t : ℕ) (b : Bool) (i : ℕ) where
  abbrev Ours : ℕ → Type 0
  Ours l = eqb (owner_of S own l) p ≡ b

  home-if : (c : Bool) (xs ys : List Move) (P : Person) → Home S own p t b i (person_moves S t i xs P) → Home S own p t b i (person_moves S t i ys P) → Home S own p t b i (person_moves S t i (if c then xs else ys) P)
  home-if c xs ys P h g = elim c as (λ d. Home S own p t b i (person_moves S t i (if d then xs else ys) P)) [ true ↦ h | false ↦ g ]

  home-cond : (c : Bool) (xs ys : List Move) (P : Person) → (c ≡ true → Home S own p t b i (person_moves S t i xs P)) → (c ≡ false → Home S own p t b i (person_moves S t i ys P)) → Home S own p t b i (person_moves S t i (if c then xs else ys) P)
  home-cond true xs ys P h g = h refl
  home-cond false xs ys P h g = g refl

  bool_or : (x y : Bool) → (x ≡ y) ⊎ (x ≡ not y)
  bool_or true true = inl refl
  bool_or true false = inr refl
  bool_or false true = inr refl
  bool_or false false = inl refl

  ours_or : (l : ℕ) → (Ours l) ⊎ (eqb (owner_of S own l) p ≡ not b)
  ours_or l = bool_or (eqb (owner_of S own l) p) b

  -- PHASE C
  strands_home : (v : VehicleId) (l : ℕ) (rs : List Rider) (P : Person) → (1 ≤ among_riders i rs → Ours l) → Home S own p t b i P → Home S own p t b i (person_after_all S t i (flat_map (strands v l) rs) P)
  unfolding person_after
  strands_home v l [] P o h = h
  strands_home v l (r ∷ rs) P o h =
      let c = sum_by-cons (one_rider i) r rs in
      elim (cases_Bool (eqb r.person i)) [
        | inl e ↦
            let d : among_riders i (r ∷ rs) ≡ 1 + among_riders i rs = c ∙ ap (λ (x : Bool). (if x then 1 else 0) + among_riders i rs) e in
            let q = o (omega arith) in
            simp e (strands_home v l rs (record P { place = Aborted l }) (λ k. q) q)
        | inr e ↦
            let d : among_riders i (r ∷ rs) ≡ 0 + among_riders i rs = c ∙ ap (λ (x : Bool). (if x then 1 else 0) + among_riders i rs) e in
            simp e (strands_home v l rs P (λ k. o (omega arith)) h)
      ]

  -- after this move he is still of p, or still of others
  abbrev Homes : Move → Type 0
  Homes m = (P : Person) → Home S own p t b i P → Home S own p t b i (person_after_all S t i (told m) P)

  homes_all : (ms : List Move) (P : Person) → Each Homes ms → Home S own p t b i P → Home S own p t b i (person_moves S t i ms P)
  homes_all [] P f h = h
  homes_all (m ∷ ms) P f h = homes_all ms (person_after_all S t i (told m) P) f.1 (f.0 P h)

  -- he rides in the buffers of such links alone
  abbrev Right : World → Type 0
  Right W = (l : ℕ) → 1 ≤ listed i (at l Buffer W) → Ours l

  one_right : (m : Move) (W : World) → ((l : ℕ) → listed i (at_after l Buffer m (at l Buffer W)) ≤ listed i (at l Buffer W)) → Right W → Right (done S t m W)
  one_right m W le o l some = let e = ap (listed i) (at-done S t l Buffer m W) in let f = le l in o l (omega arith)

  node_homes : (n : ℕ) → NodeCases S t n (Keeps Right (λ W m. Homes m) S t)
  node_homes n =
      record {
        enter = λ a e r xs W f q c o. (let now = entered t e r.vehicle in let m = Transfer a Buffer 0 r now in ((λ P h. h), one_right m W (λ l. one-left i l Buffer m (at l Buffer W) refl) o));
        abort = λ a r xs W f c o. (
            let m = Quit a Buffer 0 r in
            let d = listed-cons i r xs in
            let g = ap (listed i) f.rows in
            let here : r.link ≡ a = (subst (OnLink a) f.rows (on_its_link a Buffer W.rows)).0 in
            ((λ P h. strands_home r.vehicle.id r.link r.vehicle.riders P (λ k. ap (λ x. eqb (owner_of S own x) p) here ∙ o a (omega arith)) h), one_right m W (λ l. one-left i l Buffer m (at l Buffer W) tt) o)
            );
        mark = λ a W e o. ((λ P h. h), one_right (SetFrontSince a t) W (λ l. one-left i l Buffer (SetFrontSince a t) (at l Buffer W) tt) o);
      }

  node_home : (n : ℕ) (W : World) → Right W → Each Homes (node_turns S t n W)
  node_home n W o =
      let ms = node_turns S t n W in
      along_each Homes S t ms W (along_kept Right (λ V m. Homes m) S t ms W (node_walk S t n (Keeps Right (λ V m. Homes m) S t) (node_homes n) W) o).0

  pub nodes_home : (W : World) → ((l : ℕ) → 1 ≤ listed i (at l Buffer W) → Ours l) → (ns : List ℕ) (P : Person) → Home S own p t b i P → Home S own p t b i (person_moves S t i (flat_map (λ n. node_turns S t n W) ns) P)
  nodes_home W o ns P h = homes_all (flat_map (λ n. node_turns S t n W) ns) P (each_flat_all Homes (λ n. node_turns S t n W) (λ n. node_home n W o) ns) h

  -- PHASE D: one link, and one element of his plan
  begins_home : (l el : ℕ) (P : Person) (pl : Place) → P.place ≡ pl → P.element ≡ el → (act_at S i (el + 1)).link ≡ l → Ours l → Home S own p t b i P → Home S own p t b i (start_act S t i P pl)
  begins_home l el P (Waiting stop since) e f g o h = h
  begins_home l el P (At end) e f g o h = ap (λ (x : ℕ). eqb (owner_of S own (act_at S i (x + 1)).link) p) f ∙ ap (λ (x : ℕ). eqb (owner_of S own x) p) g ∙ o
  begins_home l el P (Teleporting start) e f g o h = ap (λ (x : ℕ). eqb (owner_of S own (act_at S i (x + 1)).link) p) f ∙ ap (λ (x : ℕ). eqb (owner_of S own x) p) g ∙ o
  begins_home l el P (Riding v) e f g o h = ap (λ (x : ℕ). eqb (owner_of S own (act_at S i (x + 1)).link) p) f ∙ ap (λ (x : ℕ). eqb (owner_of S own x) p) g ∙ o
  begins_home l el P (Aborted a) e f g o h = ap (λ (x : ℕ). eqb (owner_of S own (act_at S i (x + 1)).link) p) f ∙ ap (λ (x : ℕ). eqb (owner_of S own x) p) g ∙ o

  leaves_home : (l el : ℕ) (v : VehicleId) (a : ℕ) (rs : List Rider) (P : Person) → among_riders i rs ≤ 1 → (1 ≤ among_riders i rs → (P.element ≡ el) × ((act_at S i (el + 1)).link ≡ l)) → Ours l → Home S own p t b i P →
      Home S own p t b i (person_after_all S t i (flat_map (leaves v a) rs) P)
  unfolding person_after
  leaves_home l el v a [] P few g o h = h
  leaves_home l el v a (r ∷ rs) P few g o h =
      let c = sum_by-cons (one_rider i) r rs in
      elim (cases_Bool (eqb r.person i)) [
        | inl e ↦
            let d : among_riders i (r ∷ rs) ≡ 1 + among_riders i rs = c ∙ ap (λ (x : Bool). (if x then 1 else 0) + among_riders i rs) e in
            let q = g (omega arith) in
            simp e (leaves_home l el v a rs (start_act S t i P P.place) (omega arith) (λ k. absurd (omega arith)) o (begins_home l el P P.place refl q.0 q.1 o h))
        | inr e ↦
            let d : among_riders i (r ∷ rs) ≡ 0 + among_riders i rs = c ∙ ap (λ (x : Bool). (if x then 1 else 0) + among_riders i rs) e in
            simp e (leaves_home l el v a rs P (omega arith) (λ k. g (omega arith)) o h)
      ]

  enters_home : (v : VehicleId) (rs : List Rider) (P : Person) → Home S own p t b i P → Home S own p t b i (person_after_all S t i (flat_map (enters v) rs) P)
  unfolding person_after
  enters_home v [] P h = h
  enters_home v (r ∷ rs) P h = elim (cases_Bool (eqb r.person i)) [ inl e ↦ simp e (enters_home v rs (record P { place = Riding v }) tt) | inr e ↦ simp e (enters_home v rs P h) ]

  served_home : (D : Dwelling) (l el : ℕ) (ws : List Waiter) (r : Row) (P : Person) → rides i r.vehicle ≤ 1 → (1 ≤ rides i r.vehicle → P.element ≡ el) → calls_on l r.vehicle ≡ true → Alights S l i el r.vehicle → Ours l → Home S own p t b i P →
      Home S own p t b i (person_after_all S t i (serves r (served_row D t l ws r.vehicle)) P)
  unfolding served_vehicle
  served_home D l el ws r P few same e al o h =
      let v = r.vehicle in
      let stop = (next_call v).stop in
      let outs = alighting stop v.riders in
      let ins = map rider (boarding v ws) in
      let a = riders_are i stop v.riders in
      let Q = person_after_all S t i (flat_map (leaves v.id r.link) outs) P in
      rw (boarded-are v ws, after-append S t i (flat_map (leaves v.id r.link) outs) (flat_map (enters v.id) ins) P)
      (enters_home v.id ins Q (leaves_home l el v.id r.link outs P (omega arith) (λ k. (same (omega arith), al.0 e k)) o h))

  arrived_home : (l el : ℕ) (r : Row) (P : Person) → rides i r.vehicle ≤ 1 → (1 ≤ rides i r.vehicle → P.element ≡ el) → calls_on l r.vehicle ≡ false → is_last r.vehicle ≡ true → Alights S l i el r.vehicle → Ours l → Home S own p t b i P →
      Home S own p t b i (person_after_all S t i (arrives r) P)
  unfolding person_after
  arrived_home l el r P few same e f al o h =
      let v = r.vehicle in
      let q : person_after_all S t i (arrives r) P ≡ person_after_all S t i (flat_map (leaves v.id r.link) v.riders) P =
      ap (person_after_all S t i (flat_map (leaves v.id r.link) v.riders)) (quiet S t i (of_driver word.VehicleLeavesTraffic v.id r.link) (driver v.id) P refl) in
      rw q (leaves_home l el v.id r.link v.riders P few (λ k. (same k, al.1 e f k)) o h)

  -- who is still on the link is as he was before this vehicle
  served_same : (D : Dwelling) (l el n : ℕ) (ws : List Waiter) (r : Row) (P : Person) → rides i r.vehicle + n + in_line i ws ≤ 1 → (1 ≤ rides i r.vehicle + n + in_line i ws → P.element ≡ el) →
      1 ≤ n + in_line i (left_behind r.vehicle ws) → (person_after_all S t i (serves r (served_row D t l ws r.vehicle)) P).element ≡ el
  served_same D l el n ws r P few same some =
      let f = left_few i r.vehicle ws in
      let bf = board_few i r.vehicle ws in
      let none : in_line i (boarding r.vehicle ws) ≡ 0 = (elim (cases_lt 0 (in_line i (boarding r.vehicle ws))) [
        | inl lt ↦ let z = left_none i r.vehicle ws (omega arith) in absurd (omega arith)
        | inr ge ↦ omega arith
      ]) in
      ap (λ (x : Person). x.element) (serves-none S t i D l ws r P (omega arith) none) ∙ same (omega arith)

  arrived_same : (el n : ℕ) (r : Row) (P : Person) → rides i r.vehicle + n ≤ 1 → (1 ≤ rides i r.vehicle + n → P.element ≡ el) → 1 ≤ n → (person_after_all S t i (arrives r) P).element ≡ el
  arrived_same el n r P few same some = ap (λ (x : Person). x.element) (arrives-quiet S t i r P (omega arith)) ∙ same (omega arith)

  after_start : (r : Row) (xs : List Occurrence) (rest : List Move) (P : Person) → Home S own p t b i (person_moves S t i rest (person_after_all S t i xs P)) → Home S own p t b i (person_moves S t i rest (person_after_all S t i (starts r ++ xs) P))
  after_start r xs rest P h = subst (λ (Q : Person). Home S own p t b i (person_moves S t i rest Q)) (sym (started S t i r xs P)) h

  wait_home : (K : Rules) (l el : ℕ) (ws : List Waiter) (x c : ℕ) (xs : List Row) (P : Person) → listed i xs + in_line i ws ≤ 1 → (1 ≤ listed i xs + in_line i ws → P.element ≡ el) → AlightAll S l i el xs → Ours l → Home S own p t b i P →
      Home S own p t b i (person_moves S t i (from_wait K t l ws x c xs) P)
  unfolding from_wait
  wait_home K l el ws x c [] P few same al o h = h
  wait_home K l el ws x c (r ∷ rs) P few same al o h =
      let a = listed-cons i r rs in
      let f = left_few i r.vehicle ws in
      let v = r.vehicle in
      let said = serves r (served_row K.dwell t l ws v) in
      home-cond (calls_on l v) _ _ P
      (λ e. after_start r said (from_wait K t l (left_behind v ws) x c rs) P (wait_home K l el (left_behind v ws) x c rs (person_after_all S t i said P) (omega arith) (λ k. served_same K.dwell l el (listed i rs) ws r P (omega arith) (λ j. same (omega arith)) k) al.1 o
      (served_home K.dwell l el ws r P (omega arith) (λ k. same (omega arith)) e al.0 o h)))
      (λ e. home-cond (is_last v) _ _ P
      (λ g. after_start r (arrives r) (from_wait K t l ws x c rs) P (wait_home K l el ws x c rs (person_after_all S t i (arrives r) P) (omega arith) (λ k. arrived_same el (listed i rs + in_line i ws) r P (omega arith) (λ j. same (omega arith)) k) al.1 o
      (arrived_home l el r P (omega arith) (λ k. same (omega arith)) e g al.0 o h)))
      (λ g. home-if (may_pass K x c) _ _ P
      (after_start r [] (from_wait K t l ws (x + 1) (c - VEHICLE_COST) rs) P (wait_home K l el ws (x + 1) (c - VEHICLE_COST) rs P (omega arith) (λ k. same (omega arith)) al.1 o h))
      h))

  queue_home : (K : Rules) (l el : ℕ) (ws : List Waiter) (x c : ℕ) (xs ys : List Row) (P : Person) → listed i xs + listed i ys + in_line i ws ≤ 1 → (1 ≤ listed i xs + listed i ys + in_line i ws → P.element ≡ el) → AlightAll S l i el xs → AlightAll S l i el ys → Ours l → Home S own p t b i P →
      Home S own p t b i (person_moves S t i (from_queue K t l ws x c xs ys) P)
  unfolding from_queue
  queue_home K l el ws x c [] ys P few same al al2 o h = wait_home K l el ws x c ys P (omega arith) (λ k. same (omega arith)) al2 o h
  queue_home K l el ws x c (r ∷ rs) ys P few same al al2 o h =
      let a = listed-cons i r rs in
      let f = left_few i r.vehicle ws in
      let v = r.vehicle in
      let said = serves r (served_row K.dwell t l ws v) in
      let stays = wait_home K l el ws x c ys P (omega arith) (λ k. same (omega arith)) al2 o h in
      home-if (nat_lt t r.second) _ _ P stays
      (home-cond (calls_on l v) _ _ P
      (λ e. queue_home K l el (left_behind v ws) x c rs ys (person_after_all S t i said P) (omega arith) (λ k. served_same K.dwell l el (listed i rs + listed i ys) ws r P (omega arith) (λ j. same (omega arith)) k) al.1 al2 o
      (served_home K.dwell l el ws r P (omega arith) (λ k. same (omega arith)) e al.0 o h))
      (λ e. home-cond (is_last v) _ _ P
      (λ g. queue_home K l el ws x c rs ys (person_after_all S t i (arrives r) P) (omega arith) (λ k. arrived_same el (listed i rs + listed i ys + in_line i ws) r P (omega arith) (λ j. same (omega arith)) (omega arith)) al.1 al2 o
      (arrived_home l el r P (omega arith) (λ k. same (omega arith)) e g al.0 o h))
      (λ g. home-if (may_pass K x c) _ _ P (queue_home K l el ws (x + 1) (c - VEHICLE_COST) rs ys P (omega arith) (λ k. same (omega arith)) al.1 al2 o h) stays)))

  -- how often he stands at a link, in its rows or at its stops
  abbrev pub concern : ℕ → World → ℕ
  concern l U = listed i (at l Queue U) + (listed i (at l Wait U) + listed i (at l Bay U)) + in_line i (waiters S l U)

  link_home : (l el : ℕ) (U : World) (P : Person) → concern l U ≤ 1 → (1 ≤ concern l U → P.element ≡ el) → AlightAll S l i el (at l Queue U) → AlightAll S l i el (at l Wait U) → AlightAll S l i el (at l Bay U) → Ours l → Home S own p t b i P →
      Home S own p t b i (person_moves S t i (link_turns S t l U) P)
  unfolding link_moves
  link_home l el U P few same al1 al2 al3 o h =
      let K = rules S l in
      let L = link_state l U in
      let ws = waiters S l U in
      let due : Row → Bool = λ r. nat_le r.second t in
      let credit = raised K.gain L.credit in
      let rest = from_queue K t l ws (length L.buffer) credit L.queue (wait_after t l L) in
      let a = listed-append i L.wait (map (waiting l) (filter due L.bay)) in
      let c = listed-waiting i l due L.bay in
      rw (person_moves-append S t i (leave_bay t l 0 L.bay) (Credit l credit ∷ rest) P)
      (rw (quiet_same S t i (leave_bay t l 0 L.bay) P (bay-quiet S i t l 0 L.bay))
      (queue_home K l el ws (length L.buffer) credit L.queue (wait_after t l L) P (omega arith) (λ k. same (omega arith)) al1
      (each_append (λ (r : Row). Alights S l i el r.vehicle) L.wait (map (waiting l) (filter due L.bay)) al2
      (each_map (λ (r : Row). Alights S l i el r.vehicle) _ (waiting l) (λ r g. g) (filter due L.bay) (each_kept (λ (r : Row). Alights S l i el r.vehicle) due L.bay al3))) o h))

  -- all links, one after the other: at most one concerns him
  pub links_home : (el : ℕ) (U : World) → ((l : ℕ) → concern l U ≤ 1) → ((l a : ℕ) → l ≢ a → 1 ≤ concern l U → concern a U ≡ 0) → ((l : ℕ) (s : Stage) → AlightAll S l i el (at l s U)) → ((l : ℕ) → eqb (owner_of S own l) p ≡ not b → Quiet S t i (link_turns S t l U)) →
      (k n : ℕ) (P : Person) → ((l : ℕ) → k ≤ l → 1 ≤ concern l U → P.element ≡ el) → Home S own p t b i P → Home S own p t b i (person_moves S t i (flat_map (λ l. link_turns S t l U) (numbers k n)) P)
  links_home el U few alone al away k zero P same h = h
  links_home el U few alone al away k (suc n) P same h =
      let plan = link_turns S t k U in
      let rest = flat_map (λ l. link_turns S t l U) (numbers (k + 1) n) in
      let Q = person_moves S t i plan P in
      rw (person_moves-append S t i plan rest P) (elim (ours_or k) [
        | inl o ↦
            let now : Home S own p t b i Q = link_home k el U P (few k) (same k (omega arith)) (al k Queue) (al k Wait) (al k Bay) o h in
            let later : (l : ℕ) → k + 1 ≤ l → 1 ≤ concern l U → Q.element ≡ el = λ l le some. (elim (cases_lt 0 (concern k U)) [
              | inl lt ↦ let z = alone k l (λ q. omega arith) (omega arith) in absurd (omega arith)
              | inr ge ↦
                  let q = link-quiet S i (rules S k) t k (waiters S k U) (link_state k U) (omega arith) (omega arith) (omega arith) (omega arith) in
                  ap (λ (x : Person). x.element) (quiet_same S t i plan P q) ∙ same l (omega arith) some
            ]) in
            links_home el U few alone al away (k + 1) n Q later now
        | inr o ↦
            let e = quiet_same S t i plan P (away k o) in
            rw e (links_home el U few alone al away (k + 1) n P (λ l le some. same l (omega arith) some) h)
      ])
