use Rattle.traffic.proofs.Common.{All-from_recursion, phases}
use Rattle.law_capacity.proofs.{Elsewhere.elsewhere, Elsewhere.in_time, Entering.node_rule, Turns.through_moves}
use Rattle.law_capacity.proofs.vehicles_enter_by_the_rule.Goals as goal

pub returns : goal.returns
returns c = record {
  rule = node_rule;
  elsewhere = λ S t n p W ne. All-from_recursion _ _ (elsewhere S t n p W ne);
  moves = λ S t W. through_moves S t phases W;
  in_time = in_time;
}
