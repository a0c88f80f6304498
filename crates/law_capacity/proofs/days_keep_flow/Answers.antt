use Rattle.traffic.proofs.Common.{All-from_recursion}
use Rattle.law_capacity.proofs.{Elsewhere.no_buffer, Flow.day_flow}
use Rattle.law_capacity.proofs.days_keep_flow.Goals as goal

pub returns : goal.returns
returns c = record { kept = day_flow; elsewhere = λ S t n p W ne. All-from_recursion _ _ (no_buffer S t n p W ne) }
