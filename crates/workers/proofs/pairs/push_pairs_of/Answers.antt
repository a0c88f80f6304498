use Rattle.std.proofs.Common.{◌+◌, List, sym, subst, arith}
use Rattle.cells.specs.Pairs.{Pair}
use Rattle.workers.proofs.{Pairing.skip, Pairing.push, pairs.push_pairs_of.Goals.in-Some+in_ok-push-in-Some, pairs.push_pairs_of.Goals.in-None}
use Rattle.workers.specs.Pairs.{ArePairsTo}
use Rattle.workers.proofs.pairs.push_pairs_of.Goals as goal

pub loop-q-preserved : goal.loop-q-preserved
loop-q-preserved g c =
    let N = g.T.Part.net c.args.run.now in
    let p = c.args.p in
    let q = c.loop-q.q in
    let i = c.loop-q.invariant in
    elim c.match-lags_between.branch [
      | in-Some+in_ok-push-in-Some w ↦ let s = w.in-Some.ensures.some N c.requires.tables in
          subst (λ z. ArePairsTo N p (q + 1) z.items) (sym w.pairs-is)
          (subst (λ (z : List Pair). ArePairsTo N p (q + 1) z) (sym w.in_ok-push-in-Some.ensures.items)
          (push N p q w.in-Some.there w.in-Some.back c.loop-q.pairs.items i (omega arith) s.0 s.1 s.2))
      | in-None w ↦ subst (λ z. ArePairsTo N p (q + 1) z.items) (sym w.pairs-is)
          (skip N p q c.loop-q.pairs.items i (w.in-None.ensures.none N c.requires.net c.requires.tables))
    ]
