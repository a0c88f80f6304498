use Rattle.part_seconds.proofs.Coming.{comes_in}
use Rattle.part_seconds.proofs.arriving.bring.Goals as goal

pub returns-in_ok-take_in : goal.returns-in_ok-take_in
returns-in_ok-take_in c =
    let one = c.in_ok-take_in.ensures in
    comes_in c.args.day.now c.args.person c.args.state c.args.persons.now c.take_in.new.self one.world one.followed one.wakes
