use Rattle.std.proofs.Common.{◌≡◌, ◌<◌, ◌≤◌, length, List, ℕ, sym, ap, subst, ◌∙◌, le-leb}
use Rattle.std.proofs.lemmas.{Bool.lt-leb, List.length-map}
use Rattle.serde_json.specs.{Data.Data, View.view, View.items_view}
use Rattle.scoring.specs.declared.TheConstants.{MAX_TABLES}
use Rattle.settings.proofs.Objects.{each_item, list-items_view}
use Rattle.settings.specs.{Looking.all_of, Looking.list_of, NamedTables.table_in, NamedTables.tables_in}
use Rattle.settings.proofs.named_tables.tables_in.Goals as goal

pub returns-then-values-gt-MAX_TABLES-clause-tables : goal.returns-then-values-gt-MAX_TABLES-clause-tables
unfolding tables_in
returns-then-values-gt-MAX_TABLES-clause-tables c =
    let values = c.args.values.now in
    let count : length values ≡ length (list_of (items_view values)) = sym (ap (λ (xs : List Data). length xs) (list-items_view values) ∙ length-map values view) in
    let many : MAX_TABLES < length (list_of (items_view values)) = subst (λ (n : ℕ). MAX_TABLES < n) count c.if-values-gt-MAX_TABLES.true in
    rw (lt-leb (length (list_of (items_view values))) MAX_TABLES many)

pub returns-clause-tables : goal.returns-clause-tables
unfolding tables_in
returns-clause-tables c =
    let values = c.args.values.now in
    let count : length values ≡ length (list_of (items_view values)) = sym (ap (λ (xs : List Data). length xs) (list-items_view values) ∙ length-map values view) in
    let few : length (list_of (items_view values)) ≤ MAX_TABLES = subst (λ (n : ℕ). n ≤ MAX_TABLES) count c.if-values-gt-MAX_TABLES.false in
    rw (le-leb (length (list_of (items_view values))) MAX_TABLES few) (c.in_ok-tables.ensures.tables ∙ ap all_of (sym (each_item table_in values)))
