use Rattle.std.proofs.Common.{Some, sym, ap, ◌∙◌}
use Rattle.serde_json.specs.{View.view, declared.value.Value.Value}
use Rattle.settings.{proofs.Alls.all_of-none, proofs.Alls.all_of-more, specs.NamedTables.point_in}
use Rattle.settings.proofs.named_tables.points_of.Goals as goal

pub returns-in_default : goal.returns-in_default
returns-in_default c =
    sym (all_of-none (λ (v : Value). point_in (view v)) c.args.items.now c.loop-item.item-index c.item-item.result c.loop-item-test.true
    (sym c.in_default.is ∙ c.point_in.ensures ∙ ap (λ (v : Value). point_in (view v)) c.item-item.is))

pub loop-item-preserved : goal.loop-item-preserved
loop-item-preserved c =
    all_of-more (λ (v : Value). point_in (view v)) c.args.items.now c.loop-item.item-index c.item-item.result c.loop-item.rows.items c.in-Some.point c.loop-item-test.true
    c.loop-item.invariant (sym c.in-Some.is ∙ c.point_in.ensures ∙ ap (λ (v : Value). point_in (view v)) c.item-item.is)
    ∙ ap Some (sym c.in_ok-push.ensures.items)
