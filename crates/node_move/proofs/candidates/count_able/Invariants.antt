use Rattle.law_sleeping.specs.Able.{able_now}
use Rattle.node_move.{proofs.Drawing.IsOnly, specs.NodeStates.seen, specs.Spaces.places_in}
use Rattle.node_move.proofs.candidates.count_able.Given as goal

abbrev pub invariant-loop-k : goal.invariant-loop-k
invariant-loop-k l = IsOnly (able_now l.turn.stuck l.turn.second (places_in l.space)) (seen l.in_links l.places) l.k l.only
