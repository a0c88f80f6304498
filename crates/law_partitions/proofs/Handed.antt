-- What a node's turn does: it takes rows out of buffers, and puts them into queues with the free seconds of the link ahead of them.
use Rattle.traffic.proofs.Common.{◌≡◌, ℕ, List, ◌∙◌, ap, refl, sym, [], ◌∷◌, arith, ◌<◌, true, ◌++◌, ◌+◌, Bool, inl, inr, subst, ◌≤◌, eqb, append-nil}
use Rattle.traffic.proofs.Common.{append_assoc, cases_Bool, eqb-true, and_parts, nat_tests, flat_map, not, Option, ◌&&◌, if◌then◌else◌, ◌||◌, VehicleId}
use Rattle.traffic.proofs.Common.{node_turns, told, person_after, person_after_all, at_after_all, credit_after_all, at_after, hole_after_all, credit_after}
use Rattle.traffic.proofs.Common.{next_link, has_room, out_link, is_stuck, waiter, World, on, Setup, seconds_of, strands, VehicleState}
use Rattle.traffic.proofs.{Each.each_weaker, Each.each_flat, Each.each_flat_all, Moments.along_each, NodeWalk.node_walk, Nodes.out_of, Nodes.buffers-holes}
use Rattle.traffic.specs.{Frames.IsFromBuffer, Frames.AreFromBuffers, Nodes.is_out_link, Nodes.seconds_along, Nodes.entered as entering}
use Rattle.traffic.specs.declared.moves.Move.{Move, TheVariants.Transfer, TheVariants.Remove, TheVariants.SetFrontSince, TheVariants.Credit}
use Rattle.traffic.specs.declared.{moves.Move.TheVariants.LeaveHole, node_views.OutLink.OutLink, riders.Rider.Rider, stage.Stage.Stage}
use Rattle.traffic.specs.declared.{stage.Stage.TheVariants.Queue, stage.Stage.TheVariants.Buffer, world.Person.Person, world.Row.Row}
use Rattle.std.specs.List.{AllByRecursion as Each}
use Rattle.parts.specs.Parts.{entering_row, enters_queue, frees}
use Rattle.law_partitions.proofs.{Late.Late, Quiet.person_moves}

-- a row that enters a queue follows from its vehicle and the second
abbrev pub Handed : Setup → ℕ → Move → Type 0
Handed S t (Transfer a s k was now) = (s ≡ Buffer) × (now ≡ entering_row S t now.vehicle)
Handed S t (Remove a s k was) = s ≡ Buffer
Handed S t (SetFrontSince a u) = Unit {0}
Handed S t _ = ⊥

abbrev pub AreHanded : Setup → ℕ → List Move → Type 0
AreHanded S t ms = Each (Handed S t) ms

-- what holds of the three moves of a node holds of each that it hands
pub by_pass_node : (S : Setup) (t : ℕ) (T : Move → Type 0) → ((a k : ℕ) (was now : Row) → now ≡ entering_row S t now.vehicle → T (Transfer a Buffer k was now)) → ((a k : ℕ) (was : Row) → T (Remove a Buffer k was)) → ((a u : ℕ) → T (SetFrontSince a u)) → (m : Move) → Handed S t m → T m
by_pass_node S t T put gone mark (Transfer a s k was now) h = subst (λ (z : Stage). T (Transfer a z k was now)) (sym h.0) (put a k was now h.1)
by_pass_node S t T put gone mark (Remove a s k was) h = subst (λ (z : Stage). T (Remove a z k was)) (sym h) (gone a k was)
by_pass_node S t T put gone mark (SetFrontSince a u) h = mark a u
by_pass_node S t T put gone mark _ h = absurd h

-- the out-link has the free seconds of its link
timed : (S : Setup) (t n m : ℕ) (W : World) (e : Option OutLink) → e ≡ out_link S t n W m → is_out_link e ≡ true → seconds_along e ≡ seconds_of S m
timed S t n m W e q c = let f = out_of S t n m W e q c in ap seconds_along q ∙ (rw f refl)

row_enters : (S : Setup) (t n : ℕ) (W : World) (e : Option OutLink) (v : VehicleState) → e ≡ out_link S t n W (next_link v) → is_out_link e ≡ true → entering t e v ≡ entering_row S t (entering t e v).vehicle
row_enters S t n W e v q c = let along = timed S t n (next_link v) W e q c in (λ i. record { vehicle = record v { place = v.place + 1; pushed = not (has_room e) }; link = next_link v; stage = Queue; second = t + along i })

pub node-handed : (S : Setup) (t n : ℕ) (W : World) → AreHanded S t (node_turns S t n W)
node-handed S t n W =
    along_each (Handed S t) S t (node_turns S t n W) W
    (node_walk S t n (λ V m. Handed S t m)
    (record {
      enter = λ a e r xs V f q c. (refl, row_enters S t n V e r.vehicle q (and_parts (is_out_link e) (has_room e || (S.settings.stuck.push && is_stuck S.settings.stuck t r.second)) c).0);
      abort = λ a r xs V f c. refl;
      mark = λ a V c. tt;
    }) W)

pub nodes-handed : (S : Setup) (t : ℕ) (W : World) (ns : List ℕ) → AreHanded S t (flat_map (λ n. node_turns S t n W) ns)
nodes-handed S t W ns = each_flat_all (Handed S t) (λ n. node_turns S t n W) (λ n. node-handed S t n W) ns

-- WHAT THAT LEAVES
-- the rows that moves put into the queue of link l
abbrev pub entered : ℕ → List Move → List Row
entered l ms = flat_map (enters_queue (λ m. eqb m l)) ms

enters_here : (l : ℕ) (now : Row) → (eqb now.link l && on now.link Queue now) ≡ on l Queue now
enters_here l now = grind (arith, nat_tests)

pub enters_put : (l a : ℕ) (s : Stage) (k : ℕ) (was now : Row) → enters_queue (λ m. eqb m l) (Transfer a s k was now) ≡ (if on l Queue now then now ∷ [] else [])
enters_put l a s k was now = ap (λ (b : Bool). if b then now ∷ [] else []) (enters_here l now)

handed_add : (S : Setup) (t l : ℕ) (xs : List Row) (m : Move) → Handed S t m → at_after l Queue m xs ≡ xs ++ enters_queue (λ a. eqb a l) m
handed_add S t l xs m h =
    by_pass_node S t (λ m. at_after l Queue m xs ≡ xs ++ enters_queue (λ a. eqb a l) m) (λ a k was now e. ap (λ ys. xs ++ ys) (sym (enters_put l a Buffer k was now))) (λ a k was. sym (append-nil xs)) (λ a u. sym (append-nil xs)) m h

pub handed-adds : (S : Setup) (t l : ℕ) (ms : List Move) (xs : List Row) → AreHanded S t ms → at_after_all l Queue ms xs ≡ xs ++ entered l ms
handed-adds S t l [] xs h = sym (append-nil xs)
handed-adds S t l (m ∷ ms) xs h =
    let new = enters_queue (λ a. eqb a l) m in
    ap (at_after_all l Queue ms) (handed_add S t l xs m h.0) ∙ handed-adds S t l ms (xs ++ new) h.1 ∙ append_assoc xs new (entered l ms)

pub frees_none : (S : Setup) (t l : ℕ) (m : Move) → Handed S t m → frees l m ≡ 0
frees_none S t l (LeaveHole a u) h = absurd h
frees_none S t l _ h = refl

pays_none : (S : Setup) (t l : ℕ) (m : Move) (c : ℕ) → Handed S t m → credit_after l m c ≡ c
pays_none S t l (Credit a d) c h = absurd h
pays_none S t l _ c h = refl

pub handed-credit : (S : Setup) (t l : ℕ) (ms : List Move) (c : ℕ) → AreHanded S t ms → credit_after_all l ms c ≡ c
handed-credit S t l [] c h = refl
handed-credit S t l (m ∷ ms) c h = ap (credit_after_all l ms) (pays_none S t l m c h.0) ∙ handed-credit S t l ms c h.1

pub handed-buffers : (S : Setup) (t : ℕ) (ms : List Move) → AreHanded S t ms → AreFromBuffers ms
handed-buffers S t [] h = tt
handed-buffers S t (m ∷ ms) h = (by_pass_node S t IsFromBuffer (λ a k was now e. refl) (λ a k was. refl) (λ a u. tt) m h.0, handed-buffers S t ms h.1)

pub handed-holes : (S : Setup) (t l : ℕ) (ms : List Move) (hs : List ℕ) → AreHanded S t ms → hole_after_all l ms hs ≡ hs
handed-holes S t l ms hs h = buffers-holes l ms hs (handed-buffers S t ms h)

-- rows that may leave from second k on
abbrev pub From : ℕ → List Row → Type 0
From k ys = Each (λ (y : Row). k ≤ y.second) ys

pub From-less : (k j : ℕ) (xs : List Row) → j ≤ k → From k xs → From j xs
From-less k j xs le h = each_weaker (λ (y : Row). k ≤ y.second) (λ (y : Row). j ≤ y.second) (λ y g. omega arith) xs h

pub From-late : (k t : ℕ) (xs : List Row) → t < k → From k xs → Late t xs
From-late k t xs lt h = each_weaker (λ (y : Row). k ≤ y.second) (λ (y : Row). t < y.second) (λ y g. omega arith) xs h

one_from : (S : Setup) (t l : ℕ) (now : Row) → now ≡ entering_row S t now.vehicle → From (t + seconds_of S l) (if eqb now.link l && on now.link Queue now then now ∷ [] else [])
one_from S t l now e =
    let a = ap (λ (r : Row). r.second) e in
    let b = ap (λ (r : Row). seconds_of S r.link) e in
    elim (cases_Bool (eqb now.link l && on now.link Queue now)) [
      | inl f ↦ let q = ap (seconds_of S) (eqb-true now.link l (and_parts (eqb now.link l) (on now.link Queue now) f).0) in simp f (omega arith, tt)
      | inr f ↦ simp f tt
    ]

pub handed-from : (S : Setup) (t l : ℕ) (ms : List Move) → AreHanded S t ms → From (t + seconds_of S l) (entered l ms)
handed-from S t l ms h =
    let new = enters_queue (λ a. eqb a l) in
    each_flat (Handed S t) (λ (y : Row). t + seconds_of S l ≤ y.second) new (λ m g. by_pass_node S t (λ m. From (t + seconds_of S l) (new m)) (λ a k was now e. one_from S t l now e) (λ a k was. tt) (λ a u. tt) m g) ms h

-- nobody begins to wait
strands-waits : (S : Setup) (t l i : ℕ) (v : VehicleId) (a : ℕ) (rs : List Rider) (P : Person) → waiter S l i P ≡ [] → waiter S l i (person_after_all S t i (flat_map (strands v a) rs) P) ≡ []
unfolding person_after
strands-waits S t l i v a [] P h = h
strands-waits S t l i v a (r ∷ rs) P h =
    elim (cases_Bool (eqb r.person i)) [
      | inl e ↦ simp e (strands-waits S t l i v a rs _ refl)
      | inr e ↦ simp e (strands-waits S t l i v a rs P h)
    ]

one-waits : (S : Setup) (t l i : ℕ) (m : Move) (P : Person) → Handed S t m → waiter S l i P ≡ [] → waiter S l i (person_after_all S t i (told m) P) ≡ []
one-waits S t l i m P h g = by_pass_node S t (λ m. waiter S l i (person_after_all S t i (told m) P) ≡ []) (λ a k was now e. g) (λ a k was. strands-waits S t l i was.vehicle.id was.link was.vehicle.riders P g) (λ a u. g) m h

pub handed-waits : (S : Setup) (t l i : ℕ) (ms : List Move) (P : Person) → AreHanded S t ms → waiter S l i P ≡ [] → waiter S l i (person_moves S t i ms P) ≡ []
handed-waits S t l i [] P h g = g
handed-waits S t l i (m ∷ ms) P h g = handed-waits S t l i ms (person_after_all S t i (told m) P) h.1 (one-waits S t l i m P h.0 g)
