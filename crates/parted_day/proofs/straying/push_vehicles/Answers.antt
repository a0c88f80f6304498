use Rattle.parted_day.{proofs.Pushed.flat_pushed, proofs.Pushed.flat_whole, specs.Strays.moved_strays}
use Rattle.parted_day.proofs.straying.push_vehicles.Goals as goal

pub loop-moved-preserved : goal.loop-moved-preserved
loop-moved-preserved c =
    flat_pushed moved_strays c.loop-moved.moved-index c.args.vehicles.now c.moved-item.result c.loop-moved.strays.items
    c.push_moved.new.strays.items _
    c.loop-moved-test.true c.moved-item.is c.in_ok-push_moved.ensures c.loop-moved.invariant

pub returns : goal.returns
returns c =
    flat_whole moved_strays c.loop-moved.moved-index c.args.vehicles.now c.loop-moved.strays.items _ c.loop-moved-test.false
    c.loop-moved.invariant
