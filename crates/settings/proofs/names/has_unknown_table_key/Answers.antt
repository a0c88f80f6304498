use Rattle.std.proofs.Common.{not, ap, ◌∙◌}
use Rattle.settings.proofs.UnknownKeys.{no_tables, no_array, tables_are}
use Rattle.settings.proofs.names.has_unknown_table_key.Goals as goal

pub returns-in_default : goal.returns-in_default
returns-in_default c = no_tables _ c.in_default.ensures

pub returns-in-Some-as_array : goal.returns-in-Some-as_array
returns-in-Some-as_array c =
    ap not (rw c.deref.ensures.value at c.have_table_keys.ensures)
    ∙ tables_are _ _ c.in-Some-as_array.tables.now.items c.in-Some.ensures c.in-Some-as_array.ensures

pub returns-in-None : goal.returns-in-None
returns-in-None c = no_array _ _ c.in-Some.ensures c.in-None.ensures
