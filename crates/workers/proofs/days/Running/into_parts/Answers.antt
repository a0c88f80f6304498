use Rattle.std.proofs.{Common.arith, Common.length, Common.subst, lemmas.Result.IfOk-weaker}
use Rattle.step_core.specs.Views.{EachAt}
use Rattle.workers.proofs.Dealing.{all_at}
use Rattle.workers.proofs.days.Running.into_parts.Goals as goal

pub parts_of-requires-after_bounds : goal.parts_of-requires-after_bounds
parts_of-requires-after_bounds g c κs within = λ p lt. let many = c.count.ensures in c.requires.all p (omega arith)

pub returns-clause-ended : goal.returns-clause-ended
returns-clause-ended g c =
    let run = c.args.run.now in
    let end = (g.T.Part.net run).end in
    let h = c.requires in
    IfOk-weaker c.parts_of.result _ _ (λ v is. subst
    (λ n. EachAt g.T.Part.nothing g.T.Part.see (g.T.Part.stands run) end (λ p. length (g.T.Part.borders run p)) n v.items) c.count.ensures
    (all_at end g.T.Part.borders g.T.Part.nothing g.T.Part.see g.T.Part.stands g.T.Part.spent g.T.Part.right run c.args.self.board end
    c.count.result c.args.self.bundle.members.items h.members h.level v.items is)) c.parts_of.ensures
