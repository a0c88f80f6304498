use Rattle.std.proofs.Common.{refl, length, []}
use Rattle.queue_link.specs.Numbers.{no_dwelling}
use Rattle.link_seconds.proofs.Leading.{arrive_leads, done_leads}
use Rattle.link_seconds.proofs.Turning.{stopping, stop_turn, parked_ready, parked_there, left_ready, left_there, ready_on, numbers_kept, served_short}
use Rattle.link_seconds.proofs.seconds.one_turn.Goals as goal

pub serve-requires-clause-calls : goal.serve-requires-clause-calls
serve-requires-clause-calls c =
    (stopping (length c.args.lines.now) c.args.second no_dwelling [] c.args.link.now c.turn.new.self.lists c.in-Stop.vehicle c.args.said.now.items
    c.turn.new.said.items c.requires.ready (rw c.in-Stop.is at (c.in_ok-halt.ensures.goes_on no_dwelling []))).calls

pub serve-requires-clause-can_stop : goal.serve-requires-clause-can_stop
serve-requires-clause-can_stop c =
    (stopping (length c.args.lines.now) c.args.second no_dwelling [] c.args.link.now c.turn.new.self.lists c.in-Stop.vehicle c.args.said.now.items
    c.turn.new.said.items c.requires.ready (rw c.in-Stop.is at (c.in_ok-halt.ensures.goes_on no_dwelling []))).can

pub returns-in_ok-serve-in-Stop-clause-leads : goal.returns-in_ok-serve-in-Stop-clause-leads
returns-in_ok-serve-in-Stop-clause-leads c = λ lies ws h g.
    stop_turn lies c.args.dwell.now c.args.second ws c.args.lines.now c.serve.new.lines c.args.link.now c.turn.new.self c.serve.new.link c.in-Stop.vehicle
    c.args.said.now.items c.turn.new.said.items c.serve.new.said.items c.requires.ready h g
    (rw c.in-Stop.is at (c.in_ok-halt.ensures.goes_on c.args.dwell.now ws)) c.in_ok-halt.ensures.same
    c.in_ok-serve-in-Stop.ensures.link c.in_ok-serve-in-Stop.ensures.lines c.in_ok-serve-in-Stop.ensures.told

pub returns-in_ok-serve-in-Stop-clause-there : goal.returns-in_ok-serve-in-Stop-clause-there
returns-in_ok-serve-in-Stop-clause-there c = λ lies g.
    parked_there lies c.args.second no_dwelling [] c.args.link.now c.turn.new.self c.serve.new.link c.in-Stop.vehicle _
    c.args.said.now.items c.turn.new.said.items g (rw c.in-Stop.is at (c.in_ok-halt.ensures.goes_on no_dwelling [])) c.in_ok-halt.ensures.same
    c.in_ok-serve-in-Stop.ensures.link

pub returns-in_ok-serve-in-Stop-clause-ready : goal.returns-in_ok-serve-in-Stop-clause-ready
returns-in_ok-serve-in-Stop-clause-ready c =
    parked_ready c.args.second no_dwelling [] c.args.lines.now c.serve.new.lines c.args.link.now c.turn.new.self c.serve.new.link c.in-Stop.vehicle _ _
    c.args.said.now.items c.turn.new.said.items c.requires.ready (rw c.in-Stop.is at (c.in_ok-halt.ensures.goes_on no_dwelling []))
    c.in_ok-halt.ensures.same c.in_ok-serve-in-Stop.ensures.link c.in_ok-serve-in-Stop.ensures.lines

pub returns-in_ok-serve-in-Stop-clause-short : goal.returns-in_ok-serve-in-Stop-clause-short
returns-in_ok-serve-in-Stop-clause-short c = served_short c.args.lines.now c.serve.new.lines _ c.in-Stop.vehicle c.requires.short c.in_ok-serve-in-Stop.ensures.lines

pub returns-in-Arrive-clause-leads : goal.returns-in-Arrive-clause-leads
returns-in-Arrive-clause-leads c = λ lies ws h g.
    arrive_leads lies c.args.link.now.numbers c.args.dwell.now c.args.second ws c.args.lines.now c.args.link.now.lists c.turn.new.self.lists _
    c.args.said.now.items c.turn.new.said.items (ready_on _ _ c.args.link.now.lists.queue c.requires.ready.queue)
    (ready_on _ _ c.args.link.now.lists.wait c.requires.ready.wait) h (rw c.in-Arrive.is at (c.in_ok-halt.ensures.goes_on c.args.dwell.now ws))

pub returns-in-Arrive-clause-there : goal.returns-in-Arrive-clause-there
returns-in-Arrive-clause-there c = λ lies g.
    left_there lies c.args.second no_dwelling [] c.args.link.now c.turn.new.self _ c.turn.new.self.lists c.args.said.now.items
    c.turn.new.said.items g (c.in_ok-halt.ensures.goes_on no_dwelling []) (numbers_kept c.args.link.now c.turn.new.self c.in_ok-halt.ensures.same) refl refl

pub returns-in-Arrive-clause-ready : goal.returns-in-Arrive-clause-ready
returns-in-Arrive-clause-ready c =
    left_ready _ c.args.second no_dwelling [] c.args.link.now c.turn.new.self _ c.turn.new.self.lists c.args.said.now.items
    c.turn.new.said.items c.requires.ready (c.in_ok-halt.ensures.goes_on no_dwelling []) (numbers_kept c.args.link.now c.turn.new.self c.in_ok-halt.ensures.same) refl refl

pub returns-in-Done-clause-leads : goal.returns-in-Done-clause-leads
returns-in-Done-clause-leads c = λ lies ws h g.
    done_leads lies c.args.link.now.numbers c.args.dwell.now c.args.second ws c.args.lines.now c.args.link.now.lists c.turn.new.self.lists
    c.args.said.now.items c.turn.new.said.items (ready_on _ _ c.args.link.now.lists.queue c.requires.ready.queue)
    (ready_on _ _ c.args.link.now.lists.wait c.requires.ready.wait) h (rw c.in-Done.is at (c.in_ok-halt.ensures.goes_on c.args.dwell.now ws))

pub returns-in-Done-clause-there : goal.returns-in-Done-clause-there
returns-in-Done-clause-there c = λ lies g.
    left_there lies c.args.second no_dwelling [] c.args.link.now c.turn.new.self _ c.turn.new.self.lists c.args.said.now.items
    c.turn.new.said.items g (c.in_ok-halt.ensures.goes_on no_dwelling []) (numbers_kept c.args.link.now c.turn.new.self c.in_ok-halt.ensures.same) refl refl

pub returns-in-Done-clause-ready : goal.returns-in-Done-clause-ready
returns-in-Done-clause-ready c =
    left_ready _ c.args.second no_dwelling [] c.args.link.now c.turn.new.self _ c.turn.new.self.lists c.args.said.now.items
    c.turn.new.said.items c.requires.ready (c.in_ok-halt.ensures.goes_on no_dwelling []) (numbers_kept c.args.link.now c.turn.new.self c.in_ok-halt.ensures.same) refl refl
