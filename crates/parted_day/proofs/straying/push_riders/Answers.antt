use Rattle.std.{proofs.Common.◌<◌, proofs.Common.◌≤◌, proofs.Common.length, proofs.Common.arith, specs.Prelude.min, specs.Prelude.None}
use Rattle.traffic.specs.declared.riders.Rider.{Rider}
use Rattle.parted_day.proofs.Pushed.{riders_next, riders_whole}
use Rattle.parted_day.proofs.straying.push_riders.Goals as goal

pub loop-place-preserved : goal.loop-place-preserved
loop-place-preserved c =
    let k = c.loop-place.place in
    let rs = c.args.riders.now in
    let es = c.args.elements.now in
    let none : Rider = record { person = 0; egress = None; kind = 0 } in
    let r : k < length rs = omega (arith, c.loop-place-test.true, c.min-place-end.ensures) in
    let e : k < length es = omega (arith, c.loop-place-test.true, c.min-place-end.ensures) in
    riders_next c.args.link c.args.vehicle k rs es none 0 c.args.strays.now.items c.loop-place.strays.items c.push.new.self.items r e
    c.in_ok-push.ensures.items c.loop-place.invariant

pub returns : goal.returns
returns c =
    let k = c.loop-place.place in
    let rs = c.args.riders.now in
    let es = c.args.elements.now in
    let le : min (length rs) (length es) ≤ k = omega (arith, c.loop-place-test.false, c.min-place-end.ensures) in
    riders_whole c.args.link c.args.vehicle k rs es c.args.strays.now.items c.loop-place.strays.items le c.loop-place.invariant
