use Rattle.std.proofs.Common.{ap, ◌∙◌}
use Rattle.plain_turns.specs.OutLinks.{out_links_in}
use Rattle.plain_turns.proofs.Taken.{taken_is, near_taken}
use Rattle.plain_turns.proofs.out_links.with_taken.Goals as goal

pub returns-clause-out_links : goal.returns-clause-out_links
returns-clause-out_links c = ap out_links_in c.in_ok-after.ensures ∙ taken_is c.args.link c.args.out_links.now

pub returns-clause-near : goal.returns-clause-near
returns-clause-near c = rw c.in_ok-after.ensures (near_taken c.args.link c.args.out_links.now c.requires)
