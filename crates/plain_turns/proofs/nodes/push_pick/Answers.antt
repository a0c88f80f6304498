use Rattle.draws.specs.Words.{word}
use Rattle.plain_turns.{proofs.Drawing.pick_step, specs.OutLinks.out_links_in}
use Rattle.plain_turns.proofs.nodes.push_pick.Goals as goal

pub returns-clause-step : goal.returns-clause-step
returns-clause-step c =
    let d = c.deref.ensures.value in
    let w = rw d at c.in_ok-k.ensures.within in
    let v = rw (d, c.word-word.ensures, c.from.ensures, c.from-2.ensures) at c.in_ok-k.ensures.value in
    pick_step c.args.at.stuck c.args.at.second (word c.args.draws.now) c.args.j c.in_ok-k.k c.args.in_links.now.items c.take_in_link-in_link.new.in_links.items
    (out_links_in c.args.out_links.items) (out_links_in c.in_ok-after.after.items) c.take_in_link-in_link.result c.args.out.now.items c.push_pass_node_all.new.out.items
    w v c.take_in_link-in_link.ensures.value c.take_in_link-in_link.ensures.rest c.in_ok-after.ensures.out_links c.in_ok-after.ensures.moves
