-- A node's turn changes no list that the node does not see, and depends on those alone.
use Rattle.traffic.proofs.Common.{◌≡◌, ℕ, List, ◌∙◌, length, ap, refl, sym, [], ◌∷◌, arith, true, inl, inr, false, eqb, ◌≢◌, fun_ext, cases_Bool, and_parts}
use Rattle.traffic.proofs.Common.{nat_tests, map, filter, Option, ◌&&◌, ◌||◌, node_turns, IsFromBuffer, AreFromBuffers, sees, Untouched, Apart, below, Credit}
use Rattle.traffic.proofs.Common.{Move, LeaveHole, run, done, touches, same, hole_after_all, hole_after, NodeView, OutLink, is_out_link, next_link, in_link}
use Rattle.traffic.proofs.Common.{has_room, node_view, out_link, node_moves, is_stuck, World, at, rank, holes_at, credit_of, Setup, link_row, into}
use Rattle.traffic.proofs.{Moments.Along, NodeWalk.NodeCases, NodeWalk.node_walk, Sublists.at-run_untouched, Sublists.holes-run}
use Rattle.traffic.specs.declared.stage.Stage.{Stage, TheVariants.Queue, TheVariants.Buffer, TheVariants.Wait}

-- TAKES OUT OF BUFFERS ALONE
buffers_along : (S : Setup) (t : ℕ) (ms : List Move) (W : World) → Along (λ V m. IsFromBuffer m) S t ms W → AreFromBuffers ms
buffers_along S t [] W h = tt
buffers_along S t (m ∷ ms) W h = (h.0, buffers_along S t ms (done S t m W) h.1)

pub node-buffers : (S : Setup) (t n : ℕ) (W : World) → AreFromBuffers (node_turns S t n W)
node-buffers S t n W =
    buffers_along S t (node_turns S t n W) W
    (node_walk S t n (λ V m. IsFromBuffer m) (record { enter = λ a e r xs V f q c. refl; abort = λ a r xs V f c. refl; mark = λ a V c. tt }) W)

buffer_hole : (l : ℕ) (m : Move) (hs : List ℕ) → IsFromBuffer m → hole_after l m hs ≡ hs
buffer_hole l (LeaveHole a t) hs h = absurd h
buffer_hole l _ hs h = refl

pub buffers-holes : (l : ℕ) (ms : List Move) (hs : List ℕ) → AreFromBuffers ms → hole_after_all l ms hs ≡ hs
buffers-holes l [] hs h = refl
buffers-holes l (m ∷ ms) hs h = ap (hole_after_all l ms) (buffer_hole l m hs h.0) ∙ buffers-holes l ms hs h.1

buffer_credit : (S : Setup) (t l : ℕ) (m : Move) (W : World) → IsFromBuffer m → credit_of l (done S t m W) ≡ credit_of l W
buffer_credit S t l (Credit a c) W h = absurd h
buffer_credit S t l _ W h = refl

pub buffers-credit : (S : Setup) (t l : ℕ) (ms : List Move) (W : World) → AreFromBuffers ms → credit_of l (run S t ms W) ≡ credit_of l W
buffers-credit S t l [] W h = refl
buffers-credit S t l (m ∷ ms) W h = buffers-credit S t l ms (done S t m W) h.1 ∙ buffer_credit S t l m W h.0

-- WHAT IT SEES
-- a buffer that the node sees is at none of the places that it does not see, and so is a queue
from_seen : (S : Setup) (n l a : ℕ) (s : Stage) → sees S n l s ≡ false → eqb (link_row S a).to n ≡ true → same l s a Buffer ≡ false
from_seen S n l a Buffer un h = grind (arith, nat_tests, ap (λ x. eqb (link_row S x).to n))
from_seen S n l a _ un h = grind arith

into_seen : (S : Setup) (n l m : ℕ) (s : Stage) → sees S n l s ≡ false → eqb (link_row S m).from n ≡ true → (eqb (rank Queue) (rank s) && eqb m l) ≡ false
into_seen S n l m Queue un h = grind (arith, nat_tests)
into_seen S n l m _ un h = grind arith

-- a front enters the queue of a link out of the node
pub out_of : (S : Setup) (t n m : ℕ) (W : World) (e : Option OutLink) → e ≡ out_link S t n W m → is_out_link e ≡ true → eqb (link_row S m).from n ≡ true
out_of S t n m W e q c = elim (cases_Bool (eqb (link_row S m).from n)) [ inl f ↦ f | inr f ↦ let g = simp f at (ap is_out_link (sym q) ∙ c) in cc ]

node_cases : (S : Setup) (t n l : ℕ) (s : Stage) → sees S n l s ≡ false → NodeCases S t n (λ W m. touches l s m ≡ false)
node_cases S t n l s un =
    record {
      enter = λ a e r xs W f q c. (
          let here = from_seen S n l a s un f.into in
          let there = into_seen S n l (next_link r.vehicle) s un (out_of S t n (next_link r.vehicle) W e q (and_parts (is_out_link e) (has_room e || (S.settings.stuck.push && is_stuck S.settings.stuck t r.second)) c).0) in
          rw (here, there) refl
          );
      abort = λ a r xs W f c. from_seen S n l a s un f.into;
      mark = λ a W c. from_seen S n l a s un c;
    }

untouched_along : (S : Setup) (t l : ℕ) (s : Stage) (ms : List Move) (W : World) → Along (λ V m. touches l s m ≡ false) S t ms W → Untouched l s ms
untouched_along S t l s [] W h = tt
untouched_along S t l s (m ∷ ms) W h = (h.0, untouched_along S t l s ms (done S t m W) h.1)

-- the turn of a node leaves each list that the node does not see as it was
pub node_untouched : (S : Setup) (t n l : ℕ) (s : Stage) (W : World) → sees S n l s ≡ false → Untouched l s (node_turns S t n W)
node_untouched S t n l s W un = untouched_along S t l s (node_turns S t n W) W (node_walk S t n _ (node_cases S t n l s un) W)

same_node_view : (A B : NodeView) → A.in_links ≡ B.in_links → A.out_links ≡ B.out_links → A ≡ B
same_node_view A B e f = λ i. record { in_links = e i; out_links = f i }

in_links_agree : (S : Setup) (t n : ℕ) (W U : World) → ((l : ℕ) → eqb (link_row S l).to n ≡ true → at l Buffer W ≡ at l Buffer U) → (ls : List ℕ) → map (in_link S t W) (filter (λ l. eqb (link_row S l).to n) ls) ≡ map (in_link S t U) (filter (λ l. eqb (link_row S l).to n) ls)
in_links_agree S t n W U h [] = refl
in_links_agree S t n W U h (l ∷ ls) = grind (arith, h l, in_links_agree S t n W U h ls)

out_link_agree : (S : Setup) (t n : ℕ) (W U : World) → ((l : ℕ) → eqb (link_row S l).from n ≡ true → at l Queue W ≡ at l Queue U) → ((l : ℕ) → holes_at l W ≡ holes_at l U) → (m : ℕ) → out_link S t n W m ≡ out_link S t n U m
out_link_agree S t n W U h g m = grind (arith, h m, g m)

-- what a node sees depends on these lists and on the holes alone
pub node_view_agree : (S : Setup) (t n : ℕ) (W U : World) → ((l : ℕ) (s : Stage) → sees S n l s ≡ true → at l s W ≡ at l s U) → ((l : ℕ) → holes_at l W ≡ holes_at l U) → node_view S t n W ≡ node_view S t n U
unfolding into
node_view_agree S t n W U h g =
    same_node_view (node_view S t n W) (node_view S t n U) (in_links_agree S t n W U (λ l q. h l Buffer q) (below (length S.links))) (fun_ext (out_link_agree S t n W U (λ l q. h l Queue q) g))

-- two nodes see no list in common
pub sees_apart : (S : Setup) (n m l : ℕ) (s : Stage) → n ≢ m → sees S n l s ≡ true → sees S m l s ≡ false
sees_apart S n m l Wait ne h = grind arith
sees_apart S n m l _ ne h = grind (arith, nat_tests)

pub nodes_apart : (S : Setup) (t : ℕ) → Apart S t (node_turns S t)
nodes_apart S t n m W ne =
    ap (node_moves S.settings.stuck t (S.word n)) (node_view_agree S t n (run S t (node_turns S t m W) W) W
    (λ l s h. at-run_untouched S t l s (node_turns S t m W) W (node_untouched S t m l s W (sees_apart S n m l s ne h)))
    (λ l. holes-run S t l (node_turns S t m W) W ∙ buffers-holes l (node_turns S t m W) (holes_at l W) (node-buffers S t m W)))
