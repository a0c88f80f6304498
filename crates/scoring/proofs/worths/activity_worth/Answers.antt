use Rattle.scoring.proofs.WorthLemmas.{tables_right, found_right}
use Rattle.scoring.proofs.worths.activity_worth.Goals as goal

pub table_worth-requires : goal.table_worth-requires
table_worth-requires c =
    found_right c.args.tables.now.tables c.args.kind c.in-Some.table.now (tables_right c.args.tables.now.tables c.args.tables.now.tables_in) c.in-Some.ensures
