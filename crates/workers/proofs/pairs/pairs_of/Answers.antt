use Rattle.std.proofs.Common.{List, sym, subst}
use Rattle.step_core.specs.declared.part.Border.{Border}
use Rattle.workers.{proofs.Pairing.are_tables, specs.Pairs.AreTables}
use Rattle.workers.proofs.pairs.pairs_of.Goals as goal

pub push_pairs_of-requires-clause-tables : goal.push_pairs_of-requires-clause-tables
push_pairs_of-requires-clause-tables g c = let N = g.T.Part.net c.args.run.now in let e = c.in_ok-tables.ensures in
    subst (λ (ts : List (List Border)). AreTables N ts) (sym c.as_slice.ensures.value)
    (are_tables N (g.T.Part.borders c.args.run.now) c.in_ok-tables.tables.items c.requires.borders e.count e.each)
