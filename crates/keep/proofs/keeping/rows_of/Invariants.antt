use Rattle.std.{proofs.Common.◌≡◌, proofs.Common.◌++◌, proofs.Common.drop, proofs.Common.take, specs.Prelude.All}
use Rattle.keep.specs.{Fitting.IsReadable, Kept.persons_rows}
use Rattle.keep.proofs.keeping.rows_of.Given as goal

abbrev pub invariant-loop-person : goal.invariant-loop-person
invariant-loop-person l = record {
  rows : l.rows.items ++ persons_rows l.book l.person (drop l.person l.memories) ≡ persons_rows l.book 0 l.memories;
  sound : All (IsReadable l.book) (take l.person l.memories);
}
