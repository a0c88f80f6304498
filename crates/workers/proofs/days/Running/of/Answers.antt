use Rattle.std.proofs.Common.{length, subst, sym}
use Rattle.step_core.specs.Views.{EachAt}
use Rattle.workers.proofs.Dealing.{shared_has, shared_level, shared_members, shared_parts}
use Rattle.workers.specs.{Members.AreAll, Sharing.ArePartsOf}
use Rattle.workers.proofs.days.Running.of.Goals as goal

pub returns-clause-running : goal.returns-clause-running
returns-clause-running g c =
    let run = c.args.run.now in
    let before = c.in_ok-members.members.items in
    let after = c.in_ok-shared.shared.items in
    let made = c.in_ok-members.ensures in
    let perm = c.in_ok-shared.ensures in
    let board = c.in_ok-board.ensures.board in
    let each = subst (λ k. EachAt g.T.Part.nothing g.T.Part.see (g.T.Part.stands run) 0 (λ p. length (g.T.Part.borders run p)) k
    c.args.parts.items)
    (sym c.requires.count) c.requires.start in
    record {
      board = board;
      some = c.requires.workers;
      members = shared_members (g.T.Part.net run).end g.T.Part.borders g.T.Part.nothing g.T.Part.see g.T.Part.stands g.T.Part.spent
          g.T.Part.right run c.in_ok-board.board before after perm (made.members run board each);
      level = shared_level 0 before after perm made.new;
      all = shared_has (g.T.Part.net run).parts before after (subst (λ k. AreAll k before) c.requires.count made.all) perm;
    }

pub returns-clause-given : goal.returns-clause-given
returns-clause-given g c =
    let before = c.in_ok-members.members.items in
    shared_parts (g.T.Part.net c.args.run.now).parts before c.in_ok-shared.shared.items c.args.parts.items c.in_ok-shared.ensures
    (subst (λ k. ArePartsOf before k c.args.parts.items) c.requires.count c.in_ok-members.ensures.parts)
