use Rattle.std.proofs.Common.{List, map, option_and_then, sym, ap, ◌∙◌}
use Rattle.serde_json.specs.{Data.Items, View.view, declared.value.Value.Value}
use Rattle.settings.{proofs.Objects.each_item, specs.Looking.all_of, specs.Looking.list_of, specs.NamedTables.points_in, specs.NamedTables.point_in}
use Rattle.settings.proofs.named_tables.points_in.Goals as goal

pub returns : goal.returns
unfolding points_in
returns c =
    c.in_ok-points.ensures ∙ ap (λ (vs : List Value). all_of (map (λ v. point_in (view v)) vs)) c.as_slice.ensures.value
    ∙ ap all_of (sym (each_item point_in c.in-Some.items.now.items)) ∙ ap (option_and_then (λ (items : Items). all_of (map point_in (list_of items)))) c.in-Some.ensures
