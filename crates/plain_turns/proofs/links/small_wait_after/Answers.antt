use Rattle.plain_turns.proofs.Small.{small_at}
use Rattle.plain_turns.proofs.links.small_wait_after.Goals as goal

pub returns-clause-small : goal.returns-clause-small
returns-clause-small c =
    small_at c.args.second c.args.l c.args.link_state.now.wait.items c.args.link_state.now.bay.items c.in_ok-after.after.items c.requires.wait c.requires.bay c.in_ok-after.ensures
