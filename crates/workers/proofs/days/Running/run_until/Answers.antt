use Rattle.workers.proofs.Dealing.{members_within, still_has}
use Rattle.workers.proofs.days.Running.run_until.Goals as goal

pub run_to-requires-clause-members : goal.run_to-requires-clause-members
run_to-requires-clause-members g c κs within =
    let run = c.args.run.now in
    let before = c.requires.running in
    members_within (g.T.Part.net run).end g.T.Part.borders g.T.Part.nothing g.T.Part.see g.T.Part.stands g.T.Part.spent g.T.Part.right run
    c.args.self.board before.0 c.args.until c.args.self.bundle.members.items before.2.members before.2.level before.1

pub returns : goal.returns
returns g c =
    let run = c.args.run.now in
    let until = c.args.until in
    let before = c.requires.running.2 in
    let after = c.in_ok-arrived.arrived.bundle.members.items in
    let ran = c.in_ok-arrived.ensures in
    record {
      board = before.board;
      some = ran.some;
      members = members_within until g.T.Part.borders g.T.Part.nothing g.T.Part.see g.T.Part.stands g.T.Part.spent g.T.Part.right run
          c.args.self.board until (g.T.Part.net run).end after ran.went.members ran.end c.requires.in_run;
      level = ran.end;
      all = λ p lt. still_has c.args.self.bundle.members.items after p ran.went.go (before.all p lt);
    }
