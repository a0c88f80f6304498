use Rattle.records.proofs.Common.{◌≡◌, length, map, ◌++◌, true, list_all, nat_lt, name_at}
use Rattle.plan_text.proofs.fields.names_of.Given as goal

abbrev pub invariant-loop-rest : goal.invariant-loop-rest
invariant-loop-rest l = record {
  whole : map (λ item. item.now) l.items.items ++ map (name_at l.names) l.rest ≡ map (name_at l.names) l.initial.rest;
  named : list_all (λ number. nat_lt number (length l.names)) l.rest ≡ true;
}

abbrev pub decreases-loop-rest : goal.decreases-loop-rest
decreases-loop-rest l = length l.rest
