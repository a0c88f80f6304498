-- Whom the turns of nodes and links tell of, and whose vehicles they move: who rides in a buffer, in a queue or in a wait list, or waits at a stop there.
use Rattle.traffic.proofs.Common.{◌≡◌, ℕ, List, ◌∙◌, ap, refl, [], ◌∷◌, arith, true, Bool, eqb, flat_map, map, Dwelling, node_turns, link_moves, buffered}
use Rattle.traffic.proofs.Common.{LinkState, leave_bay, done, person_after, person_after_all, entered, World, at, Setup, link_row, served_row, served_vehicle}
use Rattle.traffic.proofs.Common.{boarding, next_call, alighting, rider, arrives, enters, leaves, serves, driver, of_driver, listed}
use Rattle.traffic.proofs.{Each.each_all, Each.each_weaker, LeftBehind.after-append, LinkEach.FrontMoves, LinkEach.Have, LinkEach.bay_each, LinkEach.link_each}
use Rattle.traffic.proofs.Moments.{Keeps, along_each, along_kept}
use Rattle.traffic.proofs.{NodeWalk.IsFront, NodeWalk.NodeCases, NodeWalk.node_walk, Sublists.at-done, Waiting.boarded-are}
use Rattle.traffic.specs.declared.moves.Move.{Move, TheVariants.Transfer, TheVariants.Remove, TheVariants.SetFrontSince}
use Rattle.traffic.specs.declared.{numbers.Rules.Rules, stage.Stage.TheVariants.Buffer, world.Person.Person, world.Row.Row, world.Waiter.Waiter}
use Rattle.std.specs.List.{AllByRecursion as Each}
use Rattle.events.specs.declared.event.Word.TheVariants as word
use Rattle.law_one_place.proofs.Boarding.{quiet, leaves_told, enters_told, strands_told, in_line, board_few, left_few, as_riders, riders_are, served_are}
use Rattle.law_one_place.proofs.{Places.rides, Turns.told_front, Turns.told_end}
use Rattle.law_partitions.proofs.{Quiet.IsQuiet, Quiet.Quiet, Spare.Carries, Spare.Spare, Spare.spare-brings, Spare.one-left}
pub use Rattle.law_partitions.proofs.Spare.{listed-cons, listed-append, listed-waiting}

-- nothing is told of him, and his vehicle comes nowhere
abbrev Passes_by : Setup → ℕ → ℕ → Move → Type 0
Passes_by S t i m = IsQuiet S t i m × Carries i m

-- NODES
-- he rides in none of the buffers that lead into node n
abbrev pub Off : Setup → ℕ → ℕ → World → Type 0
Off S n i W = (l : ℕ) → eqb (link_row S l).to n ≡ true → listed i (at l Buffer W) ≡ 0

one_off : (S : Setup) (t n i : ℕ) (m : Move) (W : World) → Off S n i W → IsQuiet S t i m → Carries i m → Passes_by S t i m × Off S n i (done S t m W)
one_off S t n i m W off q c = ((q, c), λ l e. let a = ap (listed i) (at-done S t l Buffer m W) in let b = one-left i l Buffer m (at l Buffer W) (spare-brings i l Buffer m c) in let z = off l e in omega arith)

front_off : (S : Setup) (n i a : ℕ) (r : Row) (xs : List Row) (W : World) → IsFront S n a r xs W → Off S n i W → rides i r.vehicle ≡ 0
front_off S n i a r xs W f off = let c = listed-cons i r xs in let q = ap (listed i) f.rows in let z = off a f.into in omega arith

node_off : (S : Setup) (t n i : ℕ) → NodeCases S t n (Keeps (Off S n i) (λ W m. Passes_by S t i m) S t)
node_off S t n i =
    record {
      enter = λ a e r xs W f q c off. one_off S t n i (Transfer a Buffer 0 r (entered t e r.vehicle)) W off (λ P. refl) (front_off S n i a r xs W f off);
      abort = λ a r xs W f c off. one_off S t n i (Remove a Buffer 0 r) W off (λ P. (strands_told S t i r.vehicle.id r.link r.vehicle.riders P).0 (front_off S n i a r xs W f off)) tt;
      mark = λ a W e off. one_off S t n i (SetFrontSince a t) W off (λ P. refl) tt;
    }

node_passes : (S : Setup) (t n i : ℕ) (W : World) → Off S n i W → Each (Passes_by S t i) (node_turns S t n W)
node_passes S t n i W off =
    let ms = node_turns S t n W in
    along_each (Passes_by S t i) S t ms W (along_kept (Off S n i) (λ V m. Passes_by S t i m) S t ms W (node_walk S t n (Keeps (Off S n i) (λ V m. Passes_by S t i m) S t) (node_off S t n i) W) off).0

-- a node tells of nobody who rides in none of its buffers
pub node-quiet : (S : Setup) (t n i : ℕ) (W : World) → Off S n i W → Quiet S t i (node_turns S t n W)
node-quiet S t n i W off = each_weaker (Passes_by S t i) (IsQuiet S t i) (λ m h. h.0) (node_turns S t n W) (node_passes S t n i W off)

pub node-spare : (S : Setup) (t n i : ℕ) (W : World) → Off S n i W → Spare i (node_turns S t n W)
node-spare S t n i W off = each_weaker (Passes_by S t i) (Carries i) (λ m h. h.1) (node_turns S t n W) (node_passes S t n i W off)

-- LINKS
pub serves-none : (S : Setup) (t i : ℕ) (D : Dwelling) (l : ℕ) (ws : List Waiter) (r : Row) (P : Person) → rides i r.vehicle ≡ 0 → in_line i (boarding r.vehicle ws) ≡ 0 → person_after_all S t i (serves r (served_row D t l ws r.vehicle)) P ≡ P
unfolding served_vehicle
serves-none S t i D l ws r P h g =
    let v = r.vehicle in
    let stop = (next_call v).stop in
    let outs = alighting stop v.riders in
    let ins = map rider (boarding v ws) in
    let a = riders_are i stop v.riders in
    let c = as_riders i (boarding v ws) in
    let Q = person_after_all S t i (flat_map (leaves v.id r.link) outs) P in
    rw (boarded-are v ws, after-append S t i (flat_map (leaves v.id r.link) outs) (flat_map (enters v.id) ins) P)
    ((enters_told S t i v.id ins Q).0 (omega arith) ∙ (leaves_told S t i v.id r.link outs P).0 (omega arith))

serves-quiet : (S : Setup) (t i : ℕ) (D : Dwelling) (l : ℕ) (ws : List Waiter) (r : Row) (P : Person) → rides i r.vehicle ≡ 0 → in_line i ws ≡ 0 → person_after_all S t i (serves r (served_row D t l ws r.vehicle)) P ≡ P
serves-quiet S t i D l ws r P h g = let b = board_few i r.vehicle ws in serves-none S t i D l ws r P h (omega arith)

pub arrives-quiet : (S : Setup) (t i : ℕ) (r : Row) (P : Person) → rides i r.vehicle ≡ 0 → person_after_all S t i (arrives r) P ≡ P
unfolding person_after
arrives-quiet S t i r P h =
    let v = r.vehicle in
    ap (person_after_all S t i (flat_map (leaves v.id r.link) v.riders)) (quiet S t i (of_driver word.VehicleLeavesTraffic v.id r.link) (driver v.id) P refl)
    ∙ (leaves_told S t i v.id r.link v.riders P).0 h

serves-spare : (i : ℕ) (ws : List Waiter) (r : Row) → rides i r.vehicle ≡ 0 → in_line i ws ≡ 0 → rides i (served_vehicle r.vehicle ws) ≡ 0
serves-spare i ws r h g =
    let v = r.vehicle in
    let a = riders_are i (next_call v).stop v.riders in
    let b = board_few i v ws in
    let c = served_are i v ws in omega arith

pub bay-quiet : (S : Setup) (i t l k : ℕ) (xs : List Row) → Quiet S t i (leave_bay t l k xs)
bay-quiet S i t l k xs = bay_each (λ v. Unit {0}) (IsQuiet S t i) t l (λ k r h P. refl) k xs (each_all _ (λ r. tt) xs)

link_off : (S : Setup) (i : ℕ) (K : Rules) (t l : ℕ) (s : Bool) → FrontMoves K t l (λ v. rides i v ≡ 0) (λ ws. in_line i ws ≡ 0) (Passes_by S t i) s
unfolding served_vehicle
link_off S i K t l s =
    record {
      serve = λ ws r h w. ((λ P. told_front S t i s r (served_row K.dwell t l ws r.vehicle) P ∙ serves-quiet S t i K.dwell l ws r P h w), serves-spare i ws r h w);
      left = λ v ws w. (let f = left_few i v ws in omega arith);
      arrive = λ r h. ((λ P. told_end S t i s r P ∙ arrives-quiet S t i r P h), tt);
      pass = λ b r h. ((λ P. told_front S t i s r (buffered t l b r) P), h);
      pay = λ c. ((λ P. refl), tt);
    }

none_rides : (i : ℕ) (xs : List Row) → listed i xs ≡ 0 → Have (λ v. rides i v ≡ 0) xs
none_rides i [] h = tt
none_rides i (r ∷ rs) h = let c = listed-cons i r rs in (omega arith, none_rides i rs (omega arith))

link_passes : (S : Setup) (i : ℕ) (K : Rules) (t l : ℕ) (ws : List Waiter) (L : LinkState) → in_line i ws ≡ 0 → listed i L.queue ≡ 0 → listed i L.wait ≡ 0 → listed i L.bay ≡ 0 → Each (Passes_by S t i) (link_moves K t l ws L)
link_passes S i K t l ws L g q w y =
    link_each K t l (λ v. rides i v ≡ 0) (λ us. in_line i us ≡ 0) (Passes_by S t i) (link_off S i K t l) (λ k r h. ((λ P. refl), h)) ((λ P. refl), tt) ws L g
    (none_rides i L.queue q) (none_rides i L.wait w) (none_rides i L.bay y)

-- a link tells of nobody who rides in none of its rows and waits at none of its stops
pub link-quiet : (S : Setup) (i : ℕ) (K : Rules) (t l : ℕ) (ws : List Waiter) (L : LinkState) → in_line i ws ≡ 0 → listed i L.queue ≡ 0 → listed i L.wait ≡ 0 → listed i L.bay ≡ 0 → Quiet S t i (link_moves K t l ws L)
link-quiet S i K t l ws L g q w y = each_weaker (Passes_by S t i) (IsQuiet S t i) (λ m h. h.0) (link_moves K t l ws L) (link_passes S i K t l ws L g q w y)

pub link-spare : (S : Setup) (i : ℕ) (K : Rules) (t l : ℕ) (ws : List Waiter) (L : LinkState) → in_line i ws ≡ 0 → listed i L.queue ≡ 0 → listed i L.wait ≡ 0 → listed i L.bay ≡ 0 → Spare i (link_moves K t l ws L)
link-spare S i K t l ws L g q w y = each_weaker (Passes_by S t i) (Carries i) (λ m h. h.1) (link_moves K t l ws L) (link_passes S i K t l ws L g q w y)
