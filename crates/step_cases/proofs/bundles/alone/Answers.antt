use Rattle.step_cases.proofs.Members.{one_member}
use Rattle.step_cases.proofs.bundles.alone.Goals as goal

pub run_bundle-ran-requires-clause-members : goal.run_bundle-ran-requires-clause-members
run_bundle-ran-requires-clause-members g c κs within =
    one_member (g.T.Part.net c.args.run.now).end g.T.Part.borders g.T.Part.nothing g.T.Part.see g.T.Part.stands g.T.Part.spent g.T.Part.right
    c.args.run.now c.in-Ok.board c.in-Ok-bundle_of.bundle.members.items c.in-Ok-start.member
    c.in-Ok-bundle_of.ensures c.in-Ok-start.ensures.member
