use Rattle.law_partitions.specs.Whole.{rule, start_of}
use Rattle.law_steps.proofs.Orders.{comes, reached}
use Rattle.law_steps.proofs.steps_are_interleavings.Goals as goal

pub returns : goal.returns
returns c = record {
  there = λ S own parts end ps d h. comes (rule S own parts) end ps (start_of S own) d h;
  back = reached;
}
