-- How many links can hand over, as far as a drawing has to know.
use Rattle.std.specs.Prelude.{List, [], get_or}
use Rattle.traffic.specs.{Nodes.no_in_link, declared.moves.Move.Move, declared.node_views.InLink.InLink}
use Rattle.node_move.specs.declared.candidates.Able.{Able, TheVariants.Nobody, TheVariants.Only, TheVariants.Several}

-- the moves by how many can: with none nothing, with one that one's handing over, and with more these moves
abbrev pub by_able : (InLink → List Move) → List Move → List InLink → Able → List Move
by_able alone more es Nobody = []
by_able alone more es (Only k) = alone (get_or es k no_in_link)
by_able alone more es Several = more
