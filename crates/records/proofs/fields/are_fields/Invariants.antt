use Rattle.records.{proofs.Common.◌≡◌, proofs.Common.length, proofs.Common.map, proofs.Common.◌+◌, proofs.Common.fields_of, specs.Fields.are_fields}
use Rattle.records.proofs.fields.are_fields.Given as goal

abbrev pub invariant-loop-rest : goal.invariant-loop-rest
invariant-loop-rest l = record {
  whole : are_fields (map (λ n. n.now) l.rest) l.place (fields_of l.row) ≡ are_fields (map (λ n. n.now) l.names) 0 (fields_of l.row);
  places : l.place + length l.rest ≡ length l.names;
}

abbrev pub decreases-loop-rest : goal.decreases-loop-rest
decreases-loop-rest l = length l.rest
