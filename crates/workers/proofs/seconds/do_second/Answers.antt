use Rattle.std.proofs.Common.{◌∙◌, List, length, sym, ap, arith}
use Rattle.cells.specs.declared.table.Border as cell
use Rattle.workers.proofs.Resting.{all_gone, all_places, all_heard, all_sent, is_later, published}
use Rattle.workers.proofs.seconds.do_second.Goals as goal

pub second-requires-clause-heard : goal.second-requires-clause-heard
second-requires-clause-heard g c = let e = c.take_all.ensures in let r = c.requires.rests in
    all_heard g.T.Part.net g.T.Part.borders g.T.Part.nothing g.T.Part.see g.T.Part.stands g.T.Part.right c.args.run.now c.args.board.now
    c.args.member.now.port
    (g.T.Part.see c.take_all.new.part).inbox (g.T.Part.see c.take_all.new.part).number (g.T.Part.see c.take_all.new.part).seconds
    c.requires.board r.port (e.number ∙ r.at.number) (e.seconds ∙ r.at.seconds) e.heard

pub second-requires-clause-places : goal.second-requires-clause-places
second-requires-clause-places g c = let e = c.take_all.ensures in let r = c.requires.rests in
    all_places g.T.Part.net g.T.Part.borders g.T.Part.nothing g.T.Part.see g.T.Part.stands g.T.Part.right c.args.run.now c.args.board.now
    c.args.member.now.port (length (g.T.Part.see c.take_all.new.part).inbox) (g.T.Part.see c.take_all.new.part).number c.requires.board
    r.port (e.number ∙ r.at.number) e.places

pub second-requires-clause-gone : goal.second-requires-clause-gone
second-requires-clause-gone g c = let e = c.take_all.ensures in let r = c.requires.rests in
    all_gone (g.T.Part.net c.args.run.now).end g.T.Part.borders g.T.Part.nothing g.T.Part.see g.T.Part.stands g.T.Part.right c.args.run.now c.args.board.now
    c.args.member.now (g.T.Part.see c.take_all.new.part).outbox (g.T.Part.see c.take_all.new.part).number r (e.number ∙ r.at.number)
    e.outbox

pub put_all-requires-clause-sent : goal.put_all-requires-clause-sent
put_all-requires-clause-sent g c κs within = let e = c.take_all.ensures in let r = c.requires.rests in
    all_sent g.T.Part.net g.T.Part.borders g.T.Part.nothing g.T.Part.see g.T.Part.stands g.T.Part.right c.args.run.now c.args.board.now
    c.take_all.new.port
    (g.T.Part.see c.second.new.self).outbox (g.T.Part.see c.take_all.new.part).number (g.T.Part.see c.take_all.new.part).seconds
    c.requires.board e.port (e.number ∙ (r.at.number ∙ sym e.same.0.partition)) (e.seconds ∙ (r.at.seconds ∙ sym e.same.0.done))
    c.in_ok-second.ensures.sent

pub put_all-requires-clause-places : goal.put_all-requires-clause-places
put_all-requires-clause-places g c κs within = let e = c.take_all.ensures in let r = c.requires.rests in
    c.in_ok-second.ensures.done.places
    ∙ sym (all_places g.T.Part.net g.T.Part.borders g.T.Part.nothing g.T.Part.see g.T.Part.stands g.T.Part.right c.args.run.now
    c.args.board.now c.args.member.now.port _ (g.T.Part.see c.take_all.new.part).number c.requires.board r.port
    (e.number ∙ r.at.number) (ap (λ (v : List cell.Border). length v) e.same.0.borders))

pub returns-clause-rests : goal.returns-clause-rests
returns-clause-rests g c = let e = c.take_all.ensures in let r = c.requires.rests in let m = c.args.member.now in
    let o = c.in_ok-second.ensures in
    let s = c.put_all.ensures in let p = c.publish.ensures in
    published (g.T.Part.net c.args.run.now).end g.T.Part.borders g.T.Part.nothing g.T.Part.see g.T.Part.stands g.T.Part.right c.args.run.now c.args.board.now m
    (record { part = c.put_all.new.part; port = c.publish.new.self; stopped = m.stopped }) r p.port
    (p.same.0 ∙ (s.same.0.partition ∙ e.same.0.partition)) (omega (arith, p.done, s.same.0.done, e.same.0.done)) p.awaited
    (omega (arith, p.counts.0, p.counts.1))
    (is_later g.T.Part.net g.T.Part.borders g.T.Part.nothing g.T.Part.see g.T.Part.stands g.T.Part.right c.args.run.now c.args.board.now
    m.part c.take_all.new.part c.second.new.self c.put_all.new.part _ _ _ r.at e.number e.seconds o.done s.inbox s.number s.seconds
    s.stands s.gone
    ((c.requires.board.neighbours m.port r.port).many ∙ sym (ap (λ (v : List cell.Border). length v) e.same.0.borders)))
    c.requires.before_end
