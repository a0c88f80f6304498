-- The moves of a node: rows leave buffers, for the queues of links that are there.
use Rattle.traffic.proofs.Common.{◌≡◌, ℕ, List, ◌∙◌, length, ap, refl, sym, [], ◌∷◌, ◌++◌, arith, ◌<◌, ◌+◌, true, false, Bool, inl, inr, eqb, subst, flat_map}
use Rattle.traffic.proofs.Common.{Some, Option, cases_Bool, eqb-true, eqb-false, eq-eqb, ne_eqb, and_parts, append-nil, append_assoc, length-append, ◌&&◌, ◌||◌}
use Rattle.traffic.proofs.Common.{if◌then◌else◌, map, filter, map-append, flat_map-append, not, true≢false, node_turns, World, on, at, rank, same, Setup}
use Rattle.traffic.proofs.Common.{link_row, seconds_of, at_after_all, run, out_links_after, one_more, with_one_more, out_link, is_out_link, has_room, is_stuck}
use Rattle.traffic.proofs.Common.{next_link, without_at, on_front, at_second, in_force, hole_of, holes_at, taken_at, done, storage_of}
use Rattle.traffic.proofs.{Each.each_if, Each.each_without_at, Moments.Along, NodeWalk.NodeCases, NodeWalk.node_walk, Nodes.node-buffers, Nodes.buffers-holes}
use Rattle.traffic.{proofs.Nodes.out_of, proofs.Sublists.at-run, proofs.Sublists.holes-run, specs.Nodes.seconds_along}
use Rattle.traffic.specs.declared.moves.Move.{Move, TheVariants.Transfer, TheVariants.Remove, TheVariants.SetFrontSince}
use Rattle.traffic.specs.declared.{node_views.OutLink.OutLink, stage.Stage.Stage, stage.Stage.TheVariants.Queue, stage.Stage.TheVariants.Buffer, world.Row.Row}
use Rattle.std.specs.List.{AllByRecursion as Each}
use Rattle.law_in_range.specs.{Moves.AreFitMoves, Rows.Counts}
use Rattle.queue_link.specs.Links.{row_on}
use Rattle.node_move.specs.{NodeStates.entering_by, declared.crossings.Entering.Entering}
use Rattle.parts.specs.Parts.{enters_queue}
use Rattle.part_nodes.specs.Phase.{places_at, entering_of, going_out}

-- a row leaves a buffer into a queue, where it stays for the free seconds of the link
abbrev IsPassing : Setup → ℕ → Move → Type 0
IsPassing S t (Transfer a Buffer k was now) = (now.stage ≡ Queue) × (now.second ≡ t + seconds_of S now.link)
IsPassing S t (Remove a Buffer k was) = Unit {0}
IsPassing S t (SetFrontSince a u) = Unit {0}
IsPassing S t _ = ⊥

-- and that link is there
abbrev pub IsCrossing : Setup → ℕ → Move → Type 0
IsCrossing S t (Transfer a Buffer k was now) = (now.stage ≡ Queue) × (now.second ≡ t + seconds_of S now.link) × (now.link < length S.links)
IsCrossing S t (Remove a Buffer k was) = Unit {0}
IsCrossing S t (SetFrontSince a u) = Unit {0}
IsCrossing S t _ = ⊥

abbrev pub AreCrossings : Setup → ℕ → List Move → Type 0
AreCrossings S t [] = Unit {0}
AreCrossings S t (m ∷ ms) = IsCrossing S t m × AreCrossings S t ms

seconds_in : (S : Setup) (t n m : ℕ) (W : World) (e : Option OutLink) → e ≡ out_link S t n W m → is_out_link e ≡ true → t + seconds_along e ≡ t + seconds_of S m
seconds_in S t n m W e q c =
    let f = out_of S t n m W e q c in
    let g : out_link S t n W m ≡ Some (places_at S t W m) = rw f refl in
    ap (λ (x : Option OutLink). t + seconds_along x) (q ∙ g)

passing_cases : (S : Setup) (t n : ℕ) → NodeCases S t n (λ W m. IsPassing S t m)
passing_cases S t n =
    record {
      enter = λ a e r xs W f q c.
          (refl, seconds_in S t n (next_link r.vehicle) W e q (and_parts (is_out_link e) (has_room e || (S.settings.stuck.push && is_stuck S.settings.stuck t r.second)) c).0);
      abort = λ a r xs W f c. tt;
      mark = λ a W c. tt;
    }

crossing_is : (z : Counts) (S : Setup) (t : ℕ) (ms : List Move) (W : World) → z.links ≡ length S.links → Along (λ V m. IsPassing S t m) S t ms W → AreFitMoves z ms
    → AreCrossings S t ms
crossing_is z S t [] W e h f = tt
crossing_is z S t (Transfer a Buffer k was now ∷ ms) W e h f =
    let lt = f.0.0.link in
    ((h.0.0, h.0.1, (let g = e in omega arith)), crossing_is z S t ms (done S t (Transfer a Buffer k was now) W) e h.1 f.1)
crossing_is z S t (Remove a Buffer k was ∷ ms) W e h f = (tt, crossing_is z S t ms (done S t (Remove a Buffer k was) W) e h.1 f.1)
crossing_is z S t (SetFrontSince a u ∷ ms) W e h f = (tt, crossing_is z S t ms (done S t (SetFrontSince a u) W) e h.1 f.1)
crossing_is z S t (m ∷ ms) W e h f = absurd h.0

-- the turn of a node in a fit world
pub node_crossings : (z : Counts) (S : Setup) (t n : ℕ) (W : World) → z.links ≡ length S.links → AreFitMoves z (node_turns S t n W) → AreCrossings S t (node_turns S t n W)
node_crossings z S t n W e f =
    crossing_is z S t (node_turns S t n W) W e (node_walk S t n (λ V m. IsPassing S t m) (passing_cases S t n) W) f

-- THE QUEUES
-- the rows of those who enter link l, in which they stay for so many seconds
abbrev pub rows_into : ℕ → ℕ → List Entering → List Row
rows_into l second [] = []
rows_into l second (e ∷ es) = if eqb e.link l then row_on l Queue second e.vehicle ∷ rows_into l second es else rows_into l second es

on_queue : (l : ℕ) (now : Row) → now.stage ≡ Queue → on l Queue now ≡ eqb now.link l
on_queue l now e = ap (λ (s : Stage). eqb (rank s) (rank Queue) && eqb now.link l) e

row_is : (S : Setup) (t l : ℕ) (now : Row) → now.stage ≡ Queue → now.second ≡ t + seconds_of S now.link → now.link ≡ l
    → now ≡ row_on l Queue (t + seconds_of S l) now.vehicle
row_is S t l now a b c =
    let d : now.second ≡ t + seconds_of S l = b ∙ ap (λ (k : ℕ). t + seconds_of S k) c in
    λ i. record { vehicle = now.vehicle; link = c i; stage = a i; second = d i }

pub queue_after : (S : Setup) (t l : ℕ) (ms : List Move) (xs : List Row) → AreCrossings S t ms
    → at_after_all l Queue ms xs ≡ xs ++ rows_into l (t + seconds_of S l) (flat_map entering_by ms)
queue_after S t l [] xs h = sym (append-nil xs)
queue_after S t l (Transfer a Buffer k was now ∷ ms) xs h =
    let second = t + seconds_of S l in
    let later = rows_into l second (flat_map entering_by ms) in
    let o = on_queue l now h.0.0 in
    elim (cases_Bool (eqb now.link l)) [
      | inl e ↦
          let there : on l Queue now ≡ true = o ∙ e in
          let now_is = row_is S t l now h.0.0 h.0.1 (eqb-true now.link l e) in
          rw (there, e) (
          queue_after S t l ms (xs ++ now ∷ []) h.1 ∙ append_assoc xs (now ∷ []) later
          ∙ ap (λ (r : Row). xs ++ r ∷ later) now_is
          )
      | inr e ↦
          let there : on l Queue now ≡ false = o ∙ e in
          rw (there, e) (ap (λ (ys : List Row). at_after_all l Queue ms ys) (append-nil xs) ∙ queue_after S t l ms xs h.1)
    ]
queue_after S t l (Remove a Buffer k was ∷ ms) xs h = queue_after S t l ms xs h.1
queue_after S t l (SetFrontSince a u ∷ ms) xs h = queue_after S t l ms xs h.1
queue_after S t l (m ∷ ms) xs h = absurd h.0

-- wait lists and bays stay as they were
stays_apart : (l : ℕ) (s : Stage) (now : Row) → now.stage ≡ Queue → eqb (rank Queue) (rank s) ≡ false → on l s now ≡ false
stays_apart l s now e q = ap (λ (z : Stage). eqb (rank z) (rank s) && eqb now.link l) e ∙ rw q refl

pub aside_after : (S : Setup) (t l : ℕ) (s : Stage) (ms : List Move) (xs : List Row) → eqb (rank Queue) (rank s) ≡ false → eqb (rank Buffer) (rank s) ≡ false
    → AreCrossings S t ms → at_after_all l s ms xs ≡ xs
aside_after S t l s [] xs q b h = refl
aside_after S t l s (Transfer a Buffer k was now ∷ ms) xs q b h =
    let c = stays_apart l s now h.0.0 q in
    rw (b, c) (ap (λ (ys : List Row). at_after_all l s ms ys) (append-nil xs) ∙ aside_after S t l s ms xs q b h.1)
aside_after S t l s (Remove a Buffer k was ∷ ms) xs q b h = rw b (aside_after S t l s ms xs q b h.1)
aside_after S t l s (SetFrontSince a u ∷ ms) xs q b h = rw b (aside_after S t l s ms xs q b h.1)
aside_after S t l s (m ∷ ms) xs q b h = absurd h.0

-- THE BUFFERS
-- nobody comes, and what holds of vehicles stays
pub buffer_keeps : (P : Row → Type 0) (S : Setup) (t l : ℕ) (ms : List Move) (xs : List Row) → ((u : ℕ) (r : Row) → P r → P (at_second u r)) → AreCrossings S t ms
    → Each P xs → Each P (at_after_all l Buffer ms xs)
buffer_keeps P S t l [] xs f h g = g
buffer_keeps P S t l (Transfer a Buffer k was now ∷ ms) xs f h g =
    let c = stays_apart l Buffer now h.0.0 refl in
    subst (λ (b : Bool). Each P (at_after_all l Buffer ms ((if same l Buffer a Buffer then without_at k xs else xs) ++ (if b then now ∷ [] else [])))) (sym c)
    (buffer_keeps P S t l ms _ f h.1
    (subst (Each P) (sym (append-nil (if same l Buffer a Buffer then without_at k xs else xs)))
    (each_if P (same l Buffer a Buffer) (without_at k xs) xs (each_without_at P k xs g) g)))
buffer_keeps P S t l (Remove a Buffer k was ∷ ms) xs f h g =
    buffer_keeps P S t l ms _ f h.1 (each_if P (same l Buffer a Buffer) (without_at k xs) xs (each_without_at P k xs g) g)
buffer_keeps P S t l (SetFrontSince a u ∷ ms) xs f h g =
    buffer_keeps P S t l ms _ f h.1 (each_if P (same l Buffer a Buffer) (on_front (at_second u) xs) xs (front_keeps P u xs (f u) g) g)
  where
    front_keeps : (P : Row → Type 0) (u : ℕ) (xs : List Row) → ((r : Row) → P r → P (at_second u r)) → Each P xs → Each P (on_front (at_second u) xs)
    front_keeps P u [] f g = tt
    front_keeps P u (x ∷ xs) f g = (f x g.0, g.1)
buffer_keeps P S t l (m ∷ ms) xs f h g = absurd h.0

pub buffer_empty : (S : Setup) (t l : ℕ) (ms : List Move) (xs : List Row) → AreCrossings S t ms → xs ≡ [] → at_after_all l Buffer ms xs ≡ []
buffer_empty S t l ms xs h e =
    none_left (at_after_all l Buffer ms xs) (buffer_keeps (λ r. ⊥) S t l ms xs (λ u r k. k) h (subst (Each (λ (r : Row). ⊥)) (sym e) tt))
  where
    none_left : (ys : List Row) → Each (λ (r : Row). ⊥) ys → ys ≡ []
    none_left [] h = refl
    none_left (y ∷ ys) h = absurd h.0

-- WHO GOES OUT
-- whoever passes one test enters a link that passes the other
picked : (b c : Bool) (now : Row) (es : List Entering) (rows : List Row) → b ≡ c → es ≡ map entering_of rows
    → (if b then entering_of now ∷ es else es) ≡ map entering_of ((if c then now ∷ [] else []) ++ rows)
picked true true now es rows e h = ap (λ (xs : List Entering). entering_of now ∷ xs) h
picked false false now es rows e h = h
picked true false now es rows e h = absurd (true≢false e)
picked false true now es rows e h = absurd (true≢false (sym e))

and_yes : (b c : Bool) → c ≡ true → b ≡ (b && c)
and_yes true c e = sym e
and_yes false c e = refl

pub out_rows : (S : Setup) (t : ℕ) (p : Entering → Bool) (q : ℕ → Bool) (ms : List Move) → ((e : Entering) → e.link < length S.links → p e ≡ q e.link)
    → AreCrossings S t ms → filter p (flat_map entering_by ms) ≡ map entering_of (flat_map (enters_queue q) ms)
out_rows S t p q [] f h = refl
out_rows S t p q (Transfer a Buffer k was now ∷ ms) f h =
    let there : on now.link Queue now ≡ true = on_queue now.link now h.0.0 ∙ eq-eqb now.link now.link refl in
    picked (p (entering_of now)) (q now.link && on now.link Queue now) now (filter p (flat_map entering_by ms)) (flat_map (enters_queue q) ms)
    (f (entering_of now) h.0.2 ∙ and_yes (q now.link) (on now.link Queue now) there) (out_rows S t p q ms f h.1)
out_rows S t p q (Remove a Buffer k was ∷ ms) f h = out_rows S t p q ms f h.1
out_rows S t p q (SetFrontSince a u ∷ ms) f h = out_rows S t p q ms f h.1
out_rows S t p q (m ∷ ms) f h = absurd h.0

pub out_both : (S : Setup) (mine : ℕ → Bool) (ms ns : List Move) → going_out S mine (ms ++ ns) ≡ going_out S mine ms ++ going_out S mine ns
out_both S mine ms ns =
    let f = enters_queue (λ (m : ℕ). not (mine (link_row S m).to)) in
    ap (map entering_of) (flat_map-append f ms ns) ∙ map-append entering_of (flat_map f ms) (flat_map f ns)

-- THE PLACES
unfoldable pub with_taken : ℕ → ℕ → Setup → Option OutLink
with_taken taken m S = Some (record { taken = taken; storage = storage_of S m; seconds = seconds_of S m })

pub places_after : (S : Setup) (t m c : ℕ) (ms : List Move) (xs : List Row) (P : ℕ → Option OutLink) → AreCrossings S t ms
    → P m ≡ with_taken (length xs + c) m S → out_links_after ms P m ≡ with_taken (length (at_after_all m Queue ms xs) + c) m S
unfolding with_taken one_more
places_after S t m c [] xs P h e = e
places_after S t m c (Transfer a Buffer k was now ∷ ms) xs P h e =
    let o = on_queue m now h.0.0 in
    elim (cases_Bool (eqb now.link m)) [
      | inl q ↦
          let there : on m Queue now ≡ true = o ∙ q in
          let back : eqb m now.link ≡ true = eq-eqb m now.link (sym (eqb-true now.link m q)) in
          let n : length xs + c + 1 ≡ length (xs ++ now ∷ []) + c = (let w = length-append xs (now ∷ []) in omega arith) in
          let p : one_more now.link P m ≡ with_taken (length (xs ++ now ∷ []) + c) m S = rw back (ap with_one_more e ∙ ap (λ (k : ℕ). with_taken k m S) n) in
          rw there (places_after S t m c ms (xs ++ now ∷ []) (one_more now.link P) h.1 p)
      | inr q ↦
          let there : on m Queue now ≡ false = o ∙ q in
          let back : eqb m now.link ≡ false = ne_eqb m now.link (λ (y : m ≡ now.link). eqb-false now.link m q (sym y)) in
          let p : one_more now.link P m ≡ with_taken (length xs + c) m S = rw back e in
          rw there (places_after S t m c ms (xs ++ []) (one_more now.link P) h.1 (p ∙ ap (λ (ys : List Row). with_taken (length ys + c) m S) (sym (append-nil xs))))
    ]
places_after S t m c (Remove a Buffer k was ∷ ms) xs P h e = places_after S t m c ms xs P h.1 e
places_after S t m c (SetFrontSince a u ∷ ms) xs P h e = places_after S t m c ms xs P h.1 e
places_after S t m c (x ∷ ms) xs P h e = absurd h.0

pub places_are : (S : Setup) (t n m : ℕ) (W : World) (P : ℕ → Option OutLink) → AreCrossings S t (node_turns S t n W)
    → P m ≡ Some (places_at S t W m) → out_links_after (node_turns S t n W) P m ≡ Some (places_at S t (run S t (node_turns S t n W) W) m)
unfolding with_taken
places_are S t n m W P h e =
    let ms = node_turns S t n W in
    let V = run S t ms W in
    let c = in_force t (hole_of S m) (holes_at m W) in
    let holes : holes_at m V ≡ holes_at m W = holes-run S t m ms W ∙ buffers-holes m ms (holes_at m W) (node-buffers S t n W) in
    let queue = at-run S t m Queue ms W in
    let taken : length (at_after_all m Queue ms (at m Queue W)) + c ≡ taken_at S t m V
    = ap (λ (ys : List Row). length ys + c) (sym queue) ∙ ap (λ (hs : List ℕ). length (at m Queue V) + in_force t (hole_of S m) hs) (sym holes) in
    places_after S t m c ms (at m Queue W) P h e ∙ ap (λ (k : ℕ). with_taken k m S) taken
