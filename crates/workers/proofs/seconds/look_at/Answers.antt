use Rattle.cells.proofs.Uses.{ready_unread, waits_untouched}
use Rattle.workers.proofs.seconds.look_at.Goals as goal

pub returns-in-Ready-clause-untouched : goal.returns-in-Ready-clause-untouched
returns-in-Ready-clause-untouched g c =
    (ready_unread c.args.port.now c.look.new.self c.args.k c.requires.untouched c.in-Ready.ensures.same c.requires.neighbour
    c.requires.port.long c.in-Ready.ensures.answer).0

pub returns-in-Ready-clause-ready : goal.returns-in-Ready-clause-ready
returns-in-Ready-clause-ready g c is =
    let w = ready_unread c.args.port.now c.look.new.self c.args.k c.requires.untouched c.in-Ready.ensures.same c.requires.neighbour
    c.requires.port.long c.in-Ready.ensures.answer in
    (c.in-Ready.ensures.answer.1, w.1, w.2)

pub returns-in-NotYet-clause-untouched : goal.returns-in-NotYet-clause-untouched
returns-in-NotYet-clause-untouched g c =
    waits_untouched c.args.port.now c.look.new.self c.args.k _ c.requires.untouched c.in-NotYet.ensures.same c.in-NotYet.ensures.answer
