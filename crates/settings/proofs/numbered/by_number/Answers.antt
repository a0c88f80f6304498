use Rattle.std.proofs.Common.{◌≡◌, true, List, sym, subst}
use Rattle.scoring.specs.{Limits.are_tables, declared.table.Table.Table}
use Rattle.settings.proofs.NumberedLemmas.{numbered_are_tables}
use Rattle.settings.proofs.numbered.by_number.Goals as goal

pub invariant_of-result-clause-tables_in : goal.invariant_of-result-clause-tables_in
invariant_of-result-clause-tables_in c =
    subst (λ (ts : List Table). are_tables ts ≡ true) (sym c.in_ok-tables.ensures)
    (numbered_are_tables c.args.kinds.now c.args.scoring.tables c.args.scoring.few c.args.scoring.right)
