use Rattle.std.proofs.Common.{ap}
use Rattle.cells.{proofs.Uses.moved_unread, proofs.Uses.ready_unread, proofs.Uses.waits_untouched, specs.Ports.handover_at}
use Rattle.cell_tests.proofs.seconds.look_at.Goals as goal

pub returns-in-Ready-clause-untouched : goal.returns-in-Ready-clause-untouched
returns-in-Ready-clause-untouched c = let r = c.requires in let e = c.in-Ready.ensures in
    (ready_unread c.args.port.now c.look.new.self c.args.k r.untouched e.same r.neighbour r.port.long e.answer).0

pub returns-in-Ready-clause-ready : goal.returns-in-Ready-clause-ready
returns-in-Ready-clause-ready c = let r = c.requires in let e = c.in-Ready.ensures in
    λ _. (ready_unread c.args.port.now c.look.new.self c.args.k r.untouched e.same r.neighbour r.port.long e.answer).1

pub returns-in-Ready-clause-others : goal.returns-in-Ready-clause-others
returns-in-Ready-clause-others c = let r = c.requires in let e = c.in-Ready.ensures in
    (ready_unread c.args.port.now c.look.new.self c.args.k r.untouched e.same r.neighbour r.port.long e.answer).2

pub returns-in-NotYet-clause-untouched : goal.returns-in-NotYet-clause-untouched
returns-in-NotYet-clause-untouched c = let e = c.in-NotYet.ensures in
    waits_untouched c.args.port.now c.look.new.self c.args.k c.in-NotYet.published c.requires.untouched e.same e.answer

pub returns-in-NotYet-clause-others : goal.returns-in-NotYet-clause-others
returns-in-NotYet-clause-others c = let e = c.in-NotYet.ensures in
    λ j u. moved_unread c.args.port.now c.look.new.self j e.same (ap (λ z. handover_at z j) e.answer.4) u
