use Rattle.std.proofs.Common.{◌∙◌, List, ap}
use Rattle.traffic.specs.Nodes.{candidates}
use Rattle.queue_link.specs.Links.{LinkView}
use Rattle.node_move.{proofs.Drawing.marks_candidates, specs.NodeStates.in_links_of}
use Rattle.node_move.proofs.candidates.find_candidates.Goals as goal

pub returns-clause-value : goal.returns-clause-value
returns-clause-value c =
    c.in_ok-left.ensures.value ∙ ap (λ (vs : List LinkView). candidates (in_links_of vs c.args.greens.now)) c.mark_red.ensures
    ∙ marks_candidates c.args.second c.args.in_links.now c.args.greens.now
