use Rattle.std.proofs.Common.{Some, sym, ap, ◌∙◌, arith}
use Rattle.serde_json.specs.{View.view, declared.value.Value.Value}
use Rattle.settings.{proofs.Alls.all_of-none, proofs.Alls.all_of-more, specs.NamedTables.table_in}
use Rattle.settings.proofs.named_tables.tables_of.Goals as goal

pub returns-in_default-clause-tables : goal.returns-in_default-clause-tables
returns-in_default-clause-tables c =
    sym (all_of-none (λ (v : Value). table_in (view v)) c.args.values.now c.loop-value.value-index c.value-item.result c.loop-value-test.true
    (sym c.in_default.is ∙ c.in_ok-table.ensures ∙ ap (λ (v : Value). table_in (view v)) c.value-item.is))

pub loop-value-preserved : goal.loop-value-preserved
loop-value-preserved c = (
  all_of-more (λ (v : Value). table_in (view v)) c.args.values.now c.loop-value.value-index c.value-item.result c.loop-value.rows.items c.in-Some.table
      c.loop-value-test.true c.loop-value.invariant.0 (sym c.in-Some.is ∙ c.in_ok-table.ensures ∙ ap (λ (v : Value). table_in (view v)) c.value-item.is)
      ∙ ap Some (sym c.in_ok-push.ensures.items),
  omega (arith, c.in_ok-push.ensures.len, c.loop-value.invariant.1),
)
