use Rattle.std.proofs.{Common.get_or, lemmas.List.get_or_default}
use Rattle.part_seconds.specs.declared.contents.Teleported.{Teleported}
use Rattle.parted_day.{proofs.Pushed.map_pushed, proofs.Pushed.map_whole, specs.Strays.teleported_stray}
use Rattle.parted_day.proofs.straying.push_teleported.Goals as goal

pub loop-sent-preserved : goal.loop-sent-preserved
loop-sent-preserved c =
    let none : Teleported = record { person = 0; element = 0 } in
    let k = c.loop-sent.sent-index in
    let teleported = c.args.teleported.now in
    let x = get_or teleported k none in
    map_pushed (teleported_stray c.args.second) k teleported x c.loop-sent.strays.items c.push.new.self.items _ c.loop-sent-test.true
    (get_or_default teleported k none x c.loop-sent-test.true) c.in_ok-push.ensures.items c.loop-sent.invariant

pub returns : goal.returns
returns c =
    map_whole (teleported_stray c.args.second) c.loop-sent.sent-index c.args.teleported.now c.loop-sent.strays.items _
    c.loop-sent-test.false c.loop-sent.invariant
