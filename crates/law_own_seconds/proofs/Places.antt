-- How the places of links are taken in the own world of a partition in the course of a second.
use Rattle.traffic.proofs.Common.{◌≡◌, ℕ, zero, suc, ◌+◌, ◌-◌, ◌<◌, ◌≤◌, Bool, true, false, List, [], ◌∷◌, ◌++◌, ◌∙◌, ap, refl, sym, subst, arith, inl, inr}
use Rattle.traffic.proofs.Common.{cases_Bool, length, length-append, filter, filter-append, flat_map, replicate, nat_le, nat_tests, eqb, eqb-true, eq-eqb}
use Rattle.traffic.proofs.Common.{Setup, World, at, holes_at, hole_of, moves_of, turns, turns_in, link_turns, below, departure_turns, Untouched}
use Rattle.traffic.proofs.{Sublists.at-run, Sublists.at_after_all-untouched, Sublists.holes-run, Sublists.Untouched-append, Turns.moves_of-map}
use Rattle.traffic.specs.declared.{moves.Move.Move, stage.Stage.TheVariants.Queue, world.Row.Row}
use Rattle.events.specs.declared.event.Phase.TheVariants as phase
use Rattle.law_in_range.specs.{Rows.Counts, Setups.IsFitSetup}
use Rattle.parts.specs.Owners.{Owner, owner_of, begins_in, lag}
use Rattle.parts.specs.Parts.{Held, freed, lasting, enters_queue, has, unheard, held, ready}
use Rattle.law_partitions.proofs.{Calms.calm, Early.A-early, Early.B1-early, Early.early-holes, Early.mid, Ends.less, Ends.sh}
use Rattle.law_partitions.proofs.Handed.{AreHanded, entered, frees_none, handed-adds, handed-holes}
use Rattle.law_partitions.proofs.{Heard.late_of, Heard.not_crossing, Heard.known_whole, History.went_none, Lags.hole_some}
use Rattle.law_partitions.proofs.Places.{AreLeaving, links-leaving, dug, out-came, out-went, out-none, D-length, D_after-rows, D_after-holes}
use Rattle.law_partitions.proofs.Second.{Short, C_world, came_in, held_run-holes, C_after-queue_own, C_after-queue_other, queue_other, D_after-queue_own}
use Rattle.law_partitions.proofs.{Second.D_border, Second.D_untouched, Second.part-handed, Turns.not_mine}
use Rattle.law_partitions.specs.{Alone.held_done, Alone.held_run, Alone.my_runs, Alone.my_links, Alone.C_part, Alone.D_part, Alone.early, Premises.Lawful}
use Rattle.law_own_worlds.proofs.{Knowing.unheard_known, Knowing.ready_known, Making.made, Making.holes_are, Seconds.run_early, Seconds.links_once}
use Rattle.law_own_worlds.specs.{Days.world_before, Days.is_there, Days.my_node_turns, Days.my_link_turns, Making.IsKnown, Making.own_world}
use Rattle.law_own_worlds.specs.OwnWorlds.{IsOwnWorld, IsSecondOf, landed, left}
use Rattle.law_own_seconds.specs.{Leaving.left_by, Leaving.LeaveHoles, Places.KnowsPlaces, Places.PlacesAreKnown}
use Rattle.law_own_seconds.specs.Seconds.{held_early, held_crossed, held_driven, world_early, world_crossed, world_driven}

-- HOLES
-- holes of second t count from each second on that is not after their end
lasting_length : (u h t k : ℕ) → u ≤ t + h → length (lasting u h (replicate k t)) ≡ k
lasting_length u h t zero le = refl
lasting_length u h t (suc k) le =
    let q : nat_le u (t + h) ≡ true = grind (arith, nat_tests) in
    let r = lasting_length u h t k le in
    simp q (ap suc r)

lasting_more : (u h : ℕ) (xs ys : List ℕ) → length (lasting u h (xs ++ ys)) ≡ length (lasting u h xs) + length (lasting u h ys)
lasting_more u h xs ys =
    ap (λ (zs : List ℕ). length zs) (filter-append (λ (s : ℕ). nat_le u (s + h)) xs ys)
    ∙ length-append (filter (λ (s : ℕ). nat_le u (s + h)) xs) (filter (λ (s : ℕ). nat_le u (s + h)) ys)

-- so many holes of second t more
pub more_holes : (u h t k : ℕ) (hs gs : List ℕ) → u ≤ t + h → gs ≡ hs ++ replicate k t
    → length (lasting u h gs) ≡ length (lasting u h hs) + k
more_holes u h t k hs gs le e =
    let a = ap (λ (ss : List ℕ). length (lasting u h ss)) e in
    let b = lasting_more u h hs (replicate k t) in
    let c = lasting_length u h t k le in
    omega arith

-- AT THE START OF A SECOND
pub start_known : (S : Setup) (own : Owner) (p t : ℕ) (H : Held) → IsKnown S own p H → (u : ℕ) → u ≤ t + 1
    → KnowsPlaces S own p u H (own_world S t H)
start_known S own p t H known u le = λ m lt b.
    let h = hole_of S m in
    let some = hole_some S m in
    let k = H.rows m - length (H.list m Queue) in
    let few = known.queue m b in
    let q = ap (λ (rs : List Row). length rs) ((made S own p t H known).world.list m Queue) in
    let a = more_holes u h t k (H.holes m) (holes_at m (own_world S t H)) (omega arith) (holes_are S own p t H known m lt) in
    omega arith

-- rows that moves of nodes put into queues
rows_more : (S : Setup) (t l : ℕ) (ms : List Move) (H : Held) → AreHanded S t ms → (held_run S t ms H).rows l ≡ H.rows l + length (entered l ms)
rows_more S t l [] H h = omega arith
rows_more S t l (m ∷ ms) H h =
    let e = frees_none S t l m h.0 in
    let f = rows_more S t l ms (held_done S t m H) h.1 in
    let k = length-append (enters_queue (λ a. eqb a l) m) (entered l ms) in
    omega arith

-- of a link that begins and ends in p each row is known
own_at_start : (S : Setup) (own : Owner) (k : ℕ → ℕ → ℕ) (p t m : ℕ) → eqb (owner_of S own m) p ≡ true → eqb (begins_in S own m) p ≡ true
    → (unheard S own k p t).rows m ≡ length ((unheard S own k p t).list m Queue)
unfolding unheard
own_at_start S own k p t m e b =
    let c = not_crossing S own p m e b in
    let z = went_none S m t in
    let w = ap (λ (rs : List Row). length rs) (known_whole S m t) in
    rw (b, e, c) (omega arith)

module _ (S : Setup) (own : Owner) (p t : ℕ) (z : Counts) (law : Lawful S) (fit : IsFitSetup z S)
    (second : IsSecondOf S own p t (is_there S own p t) (ready S own p t) (world_before S own p t)) where
  abbrev H : Held
  H = ready S own p t

  abbrev E : Held
  E = held_early S own p t

  abbrev G : Held
  G = held_crossed S own p t

  abbrev B : Held
  B = held_driven S own p t

  abbrev V : World
  V = world_before S own p t

  abbrev V3 : World
  V3 = world_early S own p t

  abbrev V4 : World
  V4 = world_crossed S own p t

  abbrev V5 : World
  V5 = world_driven S own p t

  abbrev mine_p : ℕ → Bool
  mine_p = has S own (less S own) p t

  abbrev late : ℕ → List Row
  late = late_of S own (less S own) p t

  abbrev W : World
  W = mid S t

  abbrev U : World
  U = C_world S t W

  short : Short S own p t late mine_p W E
  short = sh S own p t law.long (calm S own p t law)

  own_is : IsOwnWorld S own p t (is_there S own p t) H V
  own_is = made S own p t H (ready_known S own p t z fit)

  start : (u : ℕ) → u ≤ t + 1 → KnowsPlaces S own p u H V
  start u le = start_known S own p t H (ready_known S own p t z fit) u le

  -- PERSONS AND DEPARTURES
  holes3 : (m : ℕ) → holes_at m V3 ≡ holes_at m V
  holes3 m =
      let V1 = landed S t V in
      let V2 = left S t V in
      let a = moves_of (turns_in S t phase.A V) in
      let b = moves_of (turns_in S t phase.B1 V1) in
      let c = moves_of (turns S t (departure_turns S t) (my_runs S own p) V2) in
      holes-run S t m c V2 ∙ early-holes m c (holes_at m V2) (run_early S own p t (is_there S own p t) H V own_is)
      ∙ holes-run S t m b V1 ∙ early-holes m b (holes_at m V1) (B1-early S t V1)
      ∙ holes-run S t m a V ∙ early-holes m a (holes_at m V) (A-early S t V)

  early_known : (u : ℕ) → u ≤ t + 1 → KnowsPlaces S own p u E V3
  early_known u le = λ m lt b.
      let h = hole_of S m in
      let k = start u le m lt b in
      let q = ap (λ (rs : List Row). length rs) (second.lists m Queue refl) in
      let hs = ap (λ (ss : List ℕ). length (lasting u h ss)) (holes3 m) in
      let r = second.rows m in
      let g = ap (λ (ss : List ℕ). length (lasting u h ss)) (second.holes m) in
      omega arith

  -- NODES
  abbrev node_moves : List Move
  node_moves = moves_of (my_node_turns S own p t)

  part_handed : AreHanded S t (moves_of (C_part S own p t E))
  part_handed = part-handed S own p t late mine_p W E short

  handed : AreHanded S t node_moves
  handed = subst (λ us. AreHanded S t (moves_of us)) second.nodes part_handed

  queue4 : (m : ℕ) → at m Queue V4 ≡ at m Queue V3 ++ entered m node_moves
  queue4 m = at-run S t m Queue node_moves V3 ∙ handed-adds S t m node_moves (at m Queue V3) handed

  holes4 : (m : ℕ) → holes_at m V4 ≡ holes_at m V3
  holes4 m = holes-run S t m node_moves V3 ∙ handed-holes S t m node_moves (holes_at m V3) handed

  rows4 : (m : ℕ) → G.rows m ≡ E.rows m + length (entered m node_moves)
  rows4 m =
      let a = rows_more S t m (moves_of (C_part S own p t E)) E part_handed in
      let b = ap (λ us. length (entered m (moves_of us))) second.nodes in
      omega arith

  holesG : (m : ℕ) → G.holes m ≡ E.holes m
  holesG m =
      held_run-holes S t m (moves_of (C_part S own p t E)) E ∙ handed-holes S t m (moves_of (C_part S own p t E)) (E.holes m) part_handed

  queues4 : (m : ℕ) → eqb (begins_in S own m) p ≡ false → at m Queue V4 ≡ at m Queue V3
  queues4 m off =
      sym (second.after_nodes.list m Queue) ∙ C_after-queue_other S own p t late mine_p W E short m off
      ∙ second.after_departures.list m Queue

  crossed_known : (u : ℕ) → u ≤ t + 1 → KnowsPlaces S own p u G V4
  crossed_known u le = λ m lt b.
      let h = hole_of S m in
      let k = early_known u le m lt b in
      let q = ap (λ (rs : List Row). length rs) (queue4 m) in
      let a = length-append (at m Queue V3) (entered m node_moves) in
      let hs = ap (λ (ss : List ℕ). length (lasting u h ss)) (holes4 m) in
      let r = rows4 m in
      let g = ap (λ (ss : List ℕ). length (lasting u h ss)) (holesG m) in
      omega arith

  own_rows : (m : ℕ) → owner_of S own m ≡ p → begins_in S own m ≡ p → G.rows m ≡ length (at m Queue V4)
  own_rows m o b =
      let s = own_at_start S own (λ q x. lag S own q x - 1) p t m (eq-eqb (owner_of S own m) p o) (eq-eqb (begins_in S own m) p b) in
      let l = ap (λ (rs : List Row). length rs) (own_is.world.list m Queue) in
      let e = second.rows m in
      let q3 = ap (λ (rs : List Row). length rs) (second.lists m Queue refl) in
      let q4 = ap (λ (rs : List Row). length rs) (queue4 m) in
      let a = length-append (at m Queue V3) (entered m node_moves) in
      let r = rows4 m in
      omega arith

  -- LINKS
  abbrev link_moves : List Move
  link_moves = moves_of (my_link_turns S own p t)

  gone_is : (m : ℕ) → left_by S own p t m ≡ freed m (moves_of (D_part S own p t G))
  gone_is m = ap (λ us. freed m (moves_of us)) (sym second.links)

  none_left : (m : ℕ) → eqb (owner_of S own m) p ≡ false → left_by S own p t m ≡ 0
  none_left m off = gone_is m ∙ out-none S own p t late mine_p W E short m off

  are : link_moves ≡ flat_map (λ l. link_turns S t l V4) (my_links S own p)
  are = ap (λ us. moves_of us) (links_once S own p t (is_there S own p t) H V own_is) ∙ moves_of-map (link_turns S t) V4 (my_links S own p)

  others_stay : (m : ℕ) → eqb (owner_of S own m) p ≡ false → (ns : List ℕ)
      → Untouched m Queue (flat_map (λ l. link_turns S t l V4) (filter (λ l. eqb (owner_of S own l) p) ns))
  others_stay m off [] = tt
  others_stay m off (n ∷ ns) =
      elim (cases_Bool (eqb (owner_of S own n) p)) [
        | inl f ↦
            simp f (Untouched-append m Queue (link_turns S t n V4) _
            (D_untouched S t m n Queue V4 (not_mine (owner_of S own) p m n f off)) (others_stay m off ns))
        | inr f ↦ simp f (others_stay m off ns)
      ]

  queue_stays : (m : ℕ) → eqb (owner_of S own m) p ≡ false → at m Queue V5 ≡ at m Queue V4
  queue_stays m off =
      at-run S t m Queue link_moves V4
      ∙ at_after_all-untouched m Queue link_moves (at m Queue V4)
      (subst (λ (ms : List Move). Untouched m Queue ms) (sym are) (others_stay m off (below (length S.links))))

  own_left : (m : ℕ) → m < length S.links → eqb (owner_of S own m) p ≡ true
      → length (at m Queue V5) + left_by S own p t m ≡ length (at m Queue V4)
  own_left m lt e =
      let went = out-went S own p t late mine_p W E short m lt e in
      let g = gone_is m in
      let d = D-length S t m U lt in
      let v5 = ap (λ (rs : List Row). length rs) (second.after_links.list m Queue) in
      let v4 = ap (λ (rs : List Row). length rs) (second.after_nodes.list m Queue) in
      elim (cases_Bool (eqb (begins_in S own m) p)) [
        | inl b ↦
            let x = ap (λ (rs : List Row). length rs) (D_after-queue_own S own p t late mine_p W E short m lt e b) in
            let y = ap (λ (rs : List Row). length rs) (C_after-queue_own S own p t late mine_p W E short m e b) in
            omega arith
        | inr b ↦
            let ys = late m ++ came_in S t W m in
            let x = ap (λ (rs : List Row). length rs) (D_border S own p t late mine_p W E short m lt e b) in
            let y = ap (λ (rs : List Row). length rs) (queue_other S own p t late mine_p W E short m e b) in
            let xa = length-append (B.list m Queue) ys in
            let ya = length-append (G.list m Queue) ys in
            omega arith
      ]

  queue_left : (m : ℕ) → m < length S.links → length (at m Queue V5) + left_by S own p t m ≡ length (at m Queue V4)
  queue_left m lt =
      elim (cases_Bool (eqb (owner_of S own m) p)) [
        | inl e ↦ own_left m lt e
        | inr off ↦
            let none = none_left m off in
            let q = ap (λ (rs : List Row). length rs) (queue_stays m off) in
            omega arith
      ]

  holes5 : (m : ℕ) → holes_at m V5 ≡ holes_at m V4 ++ replicate (left_by S own p t m) t
  holes5 m =
      let leaving : AreLeaving t link_moves = subst (λ (ms : List Move). AreLeaving t ms) (sym are) (links-leaving S t V4 (my_links S own p)) in
      holes-run S t m link_moves V4 ∙ dug m t link_moves (holes_at m V4) leaving

  holesB : (m : ℕ) → B.holes m ≡ G.holes m ++ replicate (left_by S own p t m) t
  holesB m =
      let f = freed m (moves_of (D_part S own p t G)) in
      D_after-holes S own p t late mine_p W E short m
      ∙ ap (λ (hs : List ℕ). hs ++ replicate f t) (sym (holesG m))
      ∙ ap (λ (n : ℕ). G.holes m ++ replicate n t) (sym (gone_is m))

  rows_left : (m : ℕ) → m < length S.links → begins_in S own m ≡ p → B.rows m + left_by S own p t m ≡ G.rows m
  rows_left m lt b =
      let eb = eq-eqb (begins_in S own m) p b in
      let d = D_after-rows S own p t late mine_p W E short m eb in
      let c = ap (λ (rs : List Row). length rs) (out-came S own p t late mine_p W E short m eb) in
      let n = ap (λ us. length (entered m (moves_of us))) second.nodes in
      let r = rows4 m in
      let g = gone_is m in
      elim (cases_Bool (eqb (owner_of S own m) p)) [
        | inl e ↦
            let o = own_rows m (eqb-true (owner_of S own m) p e) b in
            let q = own_left m lt e in
            omega arith
        | inr off ↦ let none = none_left m off in omega arith
      ]

  driven_known : (u : ℕ) → u ≤ t + 1 → KnowsPlaces S own p u B V5
  driven_known u le = λ m lt b.
      let h = hole_of S m in
      let some = hole_some S m in
      let k = crossed_known u le m lt b in
      let n = left_by S own p t m in
      let q = queue_left m lt in
      let r = rows_left m lt b in
      let hs = more_holes u h t n (holes_at m V4) (holes_at m V5) (omega arith) (holes5 m) in
      let gs = more_holes u h t n (G.holes m) (B.holes m) (omega arith) (holesB m) in
      omega arith

  pub places_known : PlacesAreKnown S own p t
  places_known = record {
    start = start;
    early = early_known;
    crossed = crossed_known;
    driven = driven_known;
    held = λ u le. start_known S own p t (held S own p t) (unheard_known S own (lag S own) p t z fit) u le;
    early_rows = second.rows;
    early_holes = second.holes;
    crossed_holes = holesG;
    crossed_queues = queues4;
    own_rows = own_rows;
  }

  pub leave_holes : LeaveHoles S own p t
  leave_holes = record { queue = queue_left; holes = holes5; known_rows = rows_left; known_holes = holesB; none = none_left }
