use Rattle.std.proofs.Common.{◌∙◌, ◌+◌, ◌<◌, ◌≤◌, length, get_or, take, arith}
use Rattle.std.specs.Prelude.{min, None}
use Rattle.traffic.specs.declared.riders.Rider.{Rider}
use Rattle.traffic.specs.declared.world.Place.TheVariants as place
use Rattle.law_partitions.specs.Alone.{riding}
use Rattle.part_seconds.{proofs.Coming.come_next, proofs.Coming.same_come, proofs.Coming.riding_next, proofs.Coming.riding_whole, specs.Arriving.if_is}
use Rattle.part_seconds.proofs.arriving.bring_riders.Goals as goal

pub loop-place-preserved : goal.loop-place-preserved
loop-place-preserved c =
    let v = c.args.vehicle in
    let k = c.loop-place.place in
    let rs = c.args.riders.now in
    let es = c.args.elements.now in
    let none : Rider = record { person = 0; egress = None; kind = 0 } in
    let was = c.loop-place.invariant in
    let one = c.in_ok-bring.ensures in
    let r : k < length rs = omega (arith, c.loop-place-test.true, c.min-place-end.ensures) in
    let e : k < length es = omega (arith, c.loop-place-test.true, c.min-place-end.ensures) in
    record {
      come =
          come_next c.args.day.now (λ i. riding i v (take k rs) (take k es))
          (λ i. if_is (get_or rs k none).person i (record { element = get_or es k 0; place = place.Riding v }))
          (λ i. riding i v (take (k + 1) rs) (take (k + 1) es)) c.args.persons.now c.loop-place.persons c.bring.new.persons was.come one
          (λ i. riding_next i v k rs es none 0 r e);
      plans = one.count ∙ was.plans;
      wakes = one.wakes;
    }

pub returns : goal.returns
returns c =
    let v = c.args.vehicle in
    let k = c.loop-place.place in
    let rs = c.args.riders.now in
    let es = c.args.elements.now in
    let le : min (length rs) (length es) ≤ k = omega (arith, c.loop-place-test.false, c.min-place-end.ensures) in
    same_come c.args.day.now (λ i. riding i v (take k rs) (take k es)) (λ i. riding i v rs es) c.args.persons.now c.loop-place.persons
    c.loop-place.invariant.come (λ i. riding_whole i v k rs es le)
