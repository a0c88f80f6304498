use Rattle.std.proofs.Common.{◌+◌, ◌-◌, ap, length}
use Rattle.queue_link.specs.Links.{LinkView}
use Rattle.link_seconds.proofs.{Beginning.begun_ready, Beginning.begun_there, Turning.second_done}
use Rattle.link_seconds.proofs.seconds.link_second.Goals as goal

pub all_turns-requires-clause-ready : goal.all_turns-requires-clause-ready
all_turns-requires-clause-ready c =
    begun_ready (length c.args.lines.now) c.args.second (c.args.second + 1 - c.args.link.now.raised) c.args.link.now c.begin.new.self
    (ap (λ (V : LinkView). V.numbers) c.in_ok-begin.ensures.begun) (ap (λ (V : LinkView). V.lists) c.in_ok-begin.ensures.begun) c.requires.ready c.requires.bay

pub returns-clause-second : goal.returns-clause-second
returns-clause-second c = λ lies ws h g b.
    second_done lies c.args.dwell.now c.args.second ws c.args.link.now c.begin.new.self c.all_turns.new.link c.args.said.now.items c.begin.new.said.items
    c.all_turns.new.said.items c.args.lines.now c.all_turns.new.lines c.requires.later c.in_ok-begin.ensures.begun c.in_ok-begin.ensures.told
    (c.in_ok-all_turns.ensures.leads lies ws h
    (begun_there lies c.args.second (c.args.second + 1 - c.args.link.now.raised) c.args.link.now c.begin.new.self
    (ap (λ (V : LinkView). V.numbers) c.in_ok-begin.ensures.begun) (ap (λ (V : LinkView). V.lists) c.in_ok-begin.ensures.begun) g b))
