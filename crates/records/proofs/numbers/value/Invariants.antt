use Rattle.records.proofs.Common.{◌≡◌, ◌<◌, take, ◌^◌, value_of}
use Rattle.records.proofs.numbers.value.Given as goal

abbrev pub invariant-loop-b : goal.invariant-loop-b
invariant-loop-b l = record {
  value : l.value ≡ value_of (take l.b-index l.bytes);
  small : l.value < 10 ^ l.b-index;
}
