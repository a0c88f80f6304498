-- The turn of a node by a single link: a word can draw no other.
use Rattle.std.proofs.Common.{◌≡◌, ℕ, ◌+◌, ◌*◌, ◌<◌, Bool, true, false, List, [], ◌∷◌, get_or, refl, ap, sym, ◌∙◌, arith, append-nil}
use Rattle.std.specs.Prelude.{map, ◌^◌, Option}
use Rattle.draws.{proofs.Ranges.word_fits, proofs.Ranges.pick_within, specs.Choices.pick, specs.Words.Source, specs.Words.word}
use Rattle.rows.specs.declared.settings.Stuck.{Stuck}
use Rattle.traffic.specs.{Nodes.pass_node, Nodes.pass_node_all, Nodes.no_in_link, Nodes.draw, Nodes.red, Nodes.mark, Nodes.node_moves, Vehicles.VehicleState}
use Rattle.traffic.specs.declared.{moves.Move.Move, moves.Occurrence.Occurrence, node_views.InLink.InLink, node_views.OutLink.OutLink, world.Row.Row}
use Rattle.queue_link.specs.Links.{LinkView}
use Rattle.node_move.{proofs.Drawing.marks_run, specs.NodeStates.NodeState, specs.NodeStates.node_state}
use Rattle.node_move.specs.{NodeStates.node_run, NodeStates.in_link_of, NodeStates.after_turn, NodeStates.marked, declared.crossings.Entering.Entering}

picks_only : (weight w : ℕ) → 0 < weight → w < 2 ^ 32 → pick (weight ∷ []) w ≡ 0
picks_only weight w h fits = let lt = pick_within (weight ∷ []) w (omega arith) fits in omega arith

-- a link into a node, with these rows in its buffer
abbrev with_rows : ℕ → ℕ → Bool → List Row → InLink
with_rows l weight green rows = record { link = l; capacity = weight; green = green; rows = rows }

green_moves : (s : Source) (K : Stuck) (t l weight : ℕ) (rows : List Row) (P : ℕ → Option OutLink) → 0 < weight
    → node_moves K t (word s) (record { in_links = with_rows l weight true rows ∷ []; out_links = P })
    ≡ pass_node_all K t P (with_rows l weight true rows)
unfolding node_moves draw pass_node
green_moves s K t l weight [] P h = refl
green_moves s K t l weight (r ∷ rs) P h =
    let links = with_rows l weight true (r ∷ rs) ∷ [] in
    append-nil _ ∙ ap (λ (k : ℕ). pass_node_all K t P (get_or links k no_in_link)) (picks_only weight (word s (16 * t + 0)) h (word_fits s (16 * t + 0)))

red_moves : (K : Stuck) (t : ℕ) (word : ℕ → ℕ) (l weight : ℕ) (rows : List Row) (P : ℕ → Option OutLink)
    → node_moves K t word (record { in_links = with_rows l weight false rows ∷ []; out_links = P })
    ≡ map (mark t) (red (with_rows l weight false rows ∷ []))
unfolding node_moves draw
red_moves K t word l weight [] P = refl
red_moves K t word l weight (r ∷ rs) P = refl

pub passes_alone : (s : Source) (K : Stuck) (t : ℕ) (v : LinkView) (P : ℕ → Option OutLink) (es : List Entering) (gone : List VehicleState)
    (said : List Occurrence) (M : NodeState) → 0 < v.numbers.capacity
    → M ≡ node_run (pass_node_all K t P (in_link_of v true)) (node_state (v ∷ []) P es gone said)
    → M ≡ after_turn K t (word s) (true ∷ []) (node_state (v ∷ []) P es gone said)
passes_alone s K t v P es gone said M h e =
    e ∙ sym (ap (λ (ms : List Move). node_run ms (node_state (v ∷ []) P es gone said))
    (green_moves s K t v.numbers.link v.numbers.capacity v.lists.buffer P h))

pub waits_alone : (K : Stuck) (t : ℕ) (word : ℕ → ℕ) (v : LinkView) (P : ℕ → Option OutLink) (es : List Entering) (gone : List VehicleState)
    (said : List Occurrence) → node_state (marked t v ∷ []) P es gone said ≡ after_turn K t word (false ∷ []) (node_state (v ∷ []) P es gone said)
waits_alone K t word v P es gone said =
    sym (ap (λ (ms : List Move). node_run ms (node_state (v ∷ []) P es gone said)) (red_moves K t word v.numbers.link v.numbers.capacity v.lists.buffer P)
    ∙ marks_run t (v ∷ []) (false ∷ []) P es gone said (tt, tt) refl)
