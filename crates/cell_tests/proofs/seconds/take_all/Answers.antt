use Rattle.std.proofs.Common.{rules, arith, ◌<◌, ◌+◌, length, ap, sym, subst}
use Rattle.cells.specs.Ports.{degree}
use Rattle.cell_tests.proofs.{Taking.HasTaken, Taking.took, seconds.take_all.Goals.then-lag-done, seconds.take_all.Goals.else-lag-done}
use Rattle.cell_tests.proofs.seconds.take_all.Goals as goal

pub loop-k-preserved : goal.loop-k-preserved
loop-k-preserved c =
    let b = c.args.board.now in let before = c.args.port.now in let q = c.loop-k.port in let k = c.loop-k.k in
    let i = c.loop-k.invariant in let n = ap length c.neighbours-k-end.ensures in let lt = c.loop-k-test.true in
    let m = c.requires.port.as_many in let rows = ap length i.1.borders in let lk : k < degree q = omega arith in
    elim c.if-lag-done.branch [
      | then-lag-done w ↦ let t = w.take-parcel.ensures in
          subst (HasTaken b before (k + 1)) (sym w.port-is) (took b before q w.take-parcel.new.self k i lk t.port t.same t.held)
      | else-lag-done w ↦ search rules
    ]
