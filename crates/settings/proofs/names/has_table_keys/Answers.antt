use Rattle.std.proofs.Common.{not, unwrap_or, ap, ◌∙◌}
use Rattle.serde_json.specs.Data.{no_members}
use Rattle.settings.{proofs.Objects.known_keys, specs.Looking.has_other_key, specs.NamedTables.is_table_key}
use Rattle.settings.proofs.names.has_table_keys.Goals as goal

pub returns-in-Some : goal.returns-in-Some
returns-in-Some c =
    c.are_table_keys.ensures ∙ known_keys is_table_key c.in-Some.table.now.entries
    ∙ ap (λ o. not (has_other_key is_table_key (unwrap_or o no_members))) c.in-Some.ensures
