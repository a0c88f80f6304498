use Rattle.std.proofs.Common.{List, sym, ◌∙◌, subst}
use Rattle.cells.specs.Pairs.{Pair}
use Rattle.workers.{proofs.Neighbours.is_board, specs.Pairs.ArePairsOf}
use Rattle.workers.proofs.members.new_board.Goals as goal

pub returns-clause-board : goal.returns-clause-board
returns-clause-board g c = let e = c.in_ok-board.ensures in
    is_board g.T.Part.net g.T.Part.borders g.T.Part.nothing g.T.Part.right c.args.run.now c.in_ok-board.board c.as_slice.result.now
    c.requires.net
    c.requires.borders (subst (λ (xs : List Pair). ArePairsOf (g.T.Part.net c.args.run.now) xs)
    (sym c.as_slice.ensures.value) c.in_ok-pairs.ensures)
    e.board.0 (e.board.1 ∙ c.count.ensures) e.neighbours
