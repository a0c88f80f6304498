use Rattle.traffic.proofs.Common.{◌≡◌, ◌∙◌, sym, without_at}
use Rattle.plain_turns.proofs.Drawing.{without_is, in_links_without, in_link_at, same_in_link}
use Rattle.plain_turns.proofs.picks.take_in_link.Goals as goal

pub returns-clause-rest : goal.returns-clause-rest
returns-clause-rest c = c.remove.ensures.items ∙ sym (without_is c.args.k c.args.in_links.now.items c.requires.within)

pub returns-clause-is : goal.returns-clause-is
returns-clause-is c =
    let e = same_in_link c.args.k c.args.in_links.now.items c.remove.result c.requires.within c.remove.ensures.value in
    rw e (in_link_at c.args.k c.args.in_links.now.items c.requires.within c.requires.are)

pub returns-clause-are_after : goal.returns-clause-are_after
returns-clause-are_after c =
    let e : c.remove.new.self.items ≡ without_at c.args.k c.args.in_links.now.items = c.remove.ensures.items ∙ sym (without_is c.args.k c.args.in_links.now.items c.requires.within) in
    rw e (in_links_without c.args.k c.args.in_links.now.items c.requires.are)
