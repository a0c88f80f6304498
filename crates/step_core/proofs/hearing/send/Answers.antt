use Rattle.std.proofs.Common.{◌-◌, ◌<◌, arith, get_or, length, subst}
use Rattle.step_core.{proofs.Sending.passed_over, proofs.Sending.sends_next, specs.Exchanges.neighbour_at, specs.Wheels.due_in, specs.Wheels.IsPut}
use Rattle.step_core.proofs.hearing.send.Goals as goal

pub parcels-preserved : goal.parcels-preserved
parcels-preserved g c =
    let nothing = g.T.Part.nothing in
    let p = c.args.number in
    let rows = c.args.borders.now in
    let k = c.in-Some.place in
    let some = c.in-Some.ensures.some in
    let sent = c.parcels.invariant.sent in
    let there = some.there in
    let degree = sent.sent.degree in
    let places = c.requires.places in
    let lt : k < length rows = omega arith in
    let least = some.least in
    let before = passed_over nothing g.T.Part.see g.T.Part.stands c.args.second p rows c.args.wheels.now c.parcels.wheels c.args.part.now
    c.parcels.part c.requires.have c.requires.places (k - c.parcels.from) c.parcels.from k (omega arith) (omega arith) sent some.none in
    let to = get_or c.parcels.wheels (neighbour_at rows k) c.index-wheels-to.result in
    let taken = c.outbox-parcel.ensures in
    let put = subst (λ (x : g.row.T-Parcel.Denot). IsPut nothing (due_in to c.args.second p) p x to c.send_to.new.wheel) taken.parcel
    c.send_to.ensures in
    record {
      within = omega arith;
      sent =
          sends_next nothing g.T.Part.see g.T.Part.stands c.args.second p rows k c.args.wheels.now
          c.parcels.wheels c.args.part.now c.parcels.part c.requires.have c.requires.places before lt
          c.index-wheels-to.result c.send_to.new.wheel c.outbox-parcel.new.self put taken.outbox taken.inbox taken.number taken.seconds
          taken.stands;
    }

pub returns : goal.returns
returns g c =
    let rows = c.args.borders.now in
    let none = c.in_default.ensures.none in
    let within = c.parcels.invariant.within in
    passed_over g.T.Part.nothing g.T.Part.see g.T.Part.stands c.args.second c.args.number rows c.args.wheels.now c.parcels.wheels c.args.part.now
    c.parcels.part c.requires.have c.requires.places (length rows - c.parcels.from) c.parcels.from (length rows) (omega arith) (omega arith)
    c.parcels.invariant.sent (λ j ge lt. none j ge)
