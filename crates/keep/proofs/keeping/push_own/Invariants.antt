use Rattle.std.{proofs.Common.◌≡◌, proofs.Common.◌++◌, proofs.Common.drop, proofs.Common.take, proofs.Common.true, proofs.Common.Some, specs.List.list_all}
use Rattle.plan_text.specs.Lines.{is_plan_in}
use Rattle.keep.specs.Kept.{rows_from, own_rows}
use Rattle.keep.proofs.keeping.push_own.Given as goal

abbrev pub invariant-loop-index : goal.invariant-loop-index
invariant-loop-index l = record {
  rows : l.rows.items ++ rows_from l.book l.person (Some l.memory.chosen) l.index (drop l.index l.memory.plans) (drop l.index l.memory.scores)
      ≡ l.initial.rows.items ++ own_rows l.book l.person l.memory;
  readable : list_all (is_plan_in l.book) (take l.index l.memory.plans) ≡ true;
}
