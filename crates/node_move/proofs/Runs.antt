-- The state of a node after moves, one list of them after the other.
use Rattle.std.proofs.Common.{◌≡◌, ℕ, List, [], ◌∷◌, ◌++◌, refl, ap, sym, ◌∙◌, append-nil, append_assoc}
use Rattle.std.{proofs.lemmas.Grind.flat_map-append, specs.List.flat_map, specs.Prelude.map, specs.Prelude.Option}
use Rattle.traffic.{proofs.Sublists.at_after_all-append, specs.Moves.told, specs.Nodes.out_links_after, specs.Nodes.out_links_by, specs.Vehicles.VehicleState}
use Rattle.traffic.specs.declared.{moves.Move.Move, moves.Occurrence.Occurrence, node_views.OutLink.OutLink, stage.Stage.TheVariants.Buffer, world.Row.Row}
use Rattle.queue_link.specs.Links.{LinkView}
use Rattle.node_move.specs.declared.crossings.Entering.{Entering}
use Rattle.node_move.specs.NodeStates.{NodeState, node_state, node_run, buffer_after, entering_by, removed_by}

-- a link with another buffer
abbrev pub with_buffer : LinkView → List Row → LinkView
with_buffer v rows = record v { lists = record v.lists { buffer = rows } }

pub same_state : (vs us : List LinkView) (P Q : ℕ → Option OutLink) (es fs : List Entering) (rs ss : List VehicleState) (xs ys : List Occurrence)
    → vs ≡ us → P ≡ Q → es ≡ fs → rs ≡ ss → xs ≡ ys → node_state vs P es rs xs ≡ node_state us Q fs ss ys
same_state vs us P Q es fs rs ss xs ys v p e r x = λ i. node_state (v i) (p i) (e i) (r i) (x i)

-- no moves
none_after : (vs : List LinkView) → map (buffer_after []) vs ≡ vs
none_after [] = refl
none_after (v ∷ vs) = ap (λ (us : List LinkView). v ∷ us) (none_after vs)

pub run_none : (N : NodeState) → node_run [] N ≡ N
run_none N =
    same_state _ _ _ _ _ _ _ _ _ _ (none_after N.in_links) refl (append-nil N.entering) (append-nil N.removed) (append-nil N.said)

-- moves behind others
both_after : (ms ns : List Move) (vs : List LinkView) → map (buffer_after (ms ++ ns)) vs ≡ map (buffer_after ns) (map (buffer_after ms) vs)
both_after ms ns [] = refl
both_after ms ns (v ∷ vs) =
    ap (λ (rows : List Row). with_buffer v rows ∷ map (buffer_after (ms ++ ns)) vs)
    (at_after_all-append v.numbers.link Buffer ms ns v.lists.buffer)
    ∙ ap (λ (us : List LinkView). buffer_after ns (buffer_after ms v) ∷ us) (both_after ms ns vs)

pub out_links_both : (ms ns : List Move) (P : ℕ → Option OutLink) → out_links_after (ms ++ ns) P ≡ out_links_after ns (out_links_after ms P)
out_links_both [] ns P = refl
out_links_both (m ∷ ms) ns P = out_links_both ms ns (out_links_by m P)

further : {X : Type 0} (f : Move → List X) (xs : List X) (ms ns : List Move) → xs ++ flat_map f (ms ++ ns) ≡ (xs ++ flat_map f ms) ++ flat_map f ns
further f xs ms ns = ap (λ ys. xs ++ ys) (flat_map-append f ms ns) ∙ sym (append_assoc xs (flat_map f ms) (flat_map f ns))

pub run_both : (ms ns : List Move) (N : NodeState) → node_run (ms ++ ns) N ≡ node_run ns (node_run ms N)
run_both ms ns N =
    same_state _ _ _ _ _ _ _ _ _ _ (both_after ms ns N.in_links) (out_links_both ms ns N.out_links) (further entering_by N.entering ms ns)
    (further removed_by N.removed ms ns) (further told N.said ms ns)
