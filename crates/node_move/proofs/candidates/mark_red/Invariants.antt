use Rattle.std.proofs.Common.{◌≡◌, take}
use Rattle.node_move.specs.NodeStates.{all_marked}
use Rattle.node_move.proofs.candidates.mark_red.Given as goal

abbrev pub invariant-loop-place : goal.invariant-loop-place
invariant-loop-place l = l.in_links ≡ all_marked l.second l.initial.in_links (take l.place l.greens)
