use Rattle.std.proofs.Common.{arith, ◌<◌, ◌+◌, ap, sym, length, subst₂}
use Rattle.cells.specs.{Ports.degree, declared.board.Port.Port}
use Rattle.workers.proofs.{Exchanging.took, Exchanging.skipped, seconds.take_all.Goals.then-lag-done, seconds.take_all.Goals.else-lag-done}
use Rattle.workers.specs.{Exchanges.HasTakenTo, declared.members.ParcelsOf.ParcelsOf}
use Rattle.workers.proofs.seconds.take_all.Goals as goal

pub loop-k-preserved : goal.loop-k-preserved
loop-k-preserved g c =
    let nothing = g.T.Part.nothing in
    let see = g.T.Part.see in
    let stands = g.T.Part.stands in
    let right = g.T.Part.right in
    let b = c.args.board.now in
    let before = c.args.port.now in
    let x = c.args.part.now in
    let i = c.loop-k.invariant in
    let n = ap length c.neighbours-k-end.ensures in
    let lt = c.loop-k-test.true in
    let m = c.requires.port.as_many in
    let k = c.loop-k.k in
    let lk : k < degree before = omega arith in
    let F : Port (ParcelsOf g.row.T.Denot) g.row.T-Run.Denot g.row.T-Parcel.Denot → g.row.T.Denot → Type 0 =
    λ q y. HasTakenTo nothing see stands right b before x (k + 1) q y in
    elim c.if-lag-done.branch [
      | then-lag-done w ↦ let t = w.take_from.ensures in
          subst₂ F (sym w.port-is) (sym w.part-is)
          (took nothing see stands right b before x k c.loop-k.port w.take_from.new.port c.loop-k.part w.take_from.new.part i lk
          t.port t.same.0 t.held t.same.1 t.heard t.others t.places t.outbox t.number t.seconds t.stands)
      | else-lag-done w ↦ subst₂ F (sym w.port-is) (sym w.part-is)
          (skipped nothing see stands right b before x k c.loop-k.port c.loop-k.part i lk
          (let f = w.if-lag-done.false in let l = c.lag.ensures in let d = c.done.ensures in omega arith))
    ]
