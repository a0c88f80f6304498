use Rattle.law_sleeping.proofs.Marking.{node_behind, same_node_view, phase_behind, phase_links, link_same}
use Rattle.law_sleeping.proofs.marks.red_marks_may_be_left_out.Goals as goal

pub returns : goal.returns
returns c = assumption (node_behind, same_node_view, phase_behind, phase_links, link_same)
