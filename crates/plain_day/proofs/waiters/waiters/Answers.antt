use Rattle.traffic.proofs.Common.{ℕ, refl, waiter, person_of}
use Rattle.town.specs.Views.{setup}
use Rattle.person_moves.proofs.Counting.{went_on, went_through}
use Rattle.plain_day.proofs.PersonPlans.{waiters_are}
use Rattle.plain_day.proofs.waiters.waiters.Goals as goal

pub loop-i-preserved : goal.loop-i-preserved
loop-i-preserved c =
    let f = λ (i : ℕ). waiter (setup c.args.day.now) c.args.link i (person_of i c.args.world.now) in
    rw c.in_ok-push_waiter.ensures (went_on f c.loop-i.i c.count_persons-i-end.result c.loop-i.all.items (f c.loop-i.i) _ c.loop-i-test.true refl c.loop-i.invariant)

pub returns : goal.returns
returns c =
    let S = setup c.args.day.now in
    let f = λ (i : ℕ). waiter S c.args.link i (person_of i c.args.world.now) in
    waiters_are S c.args.link c.count_persons-i-end.result c.args.world.now c.loop-i.all.items c.count_persons-i-end.ensures
    (went_through f c.loop-i.i c.count_persons-i-end.result c.loop-i.all.items _ c.loop-i-test.false c.loop-i.invariant)
