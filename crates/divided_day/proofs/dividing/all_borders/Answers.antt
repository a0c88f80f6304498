use Rattle.std.proofs.Common.{◌∙◌, ap, sym, subst, length, map, List}
use Rattle.std.{proofs.lemmas.List.length-map, specs.Prelude.All}
use Rattle.town.specs.Views.{setup}
use Rattle.partition.specs.{Neighbours.IsPairOf, Neighbours.lags_of, Owned.owner_in, declared.joining.Pair.Pair}
use Rattle.divided_day.proofs.{Bordering.are_pairs, Whole.borders_found}
use Rattle.divided_day.proofs.dividing.all_borders.Goals as goal

pub lags-requires : goal.lags-requires
lags-requires c =
    let S = setup c.args.day.now in
    let owner = c.args.owner.now in
    subst (λ (xs : List Pair). All (IsPairOf owner.parts) xs) (sym (c.deref.ensures.value ∙ c.in_ok-pairs.ensures))
    (are_pairs S (owner_in owner.of_node) owner.parts)

pub all_borders_among-requires : goal.all_borders_among-requires
all_borders_among-requires c =
    ap length (c.deref-3.ensures.value ∙ c.in_ok-between.ensures)
    ∙ length-map c.deref.result.now (lags_of (setup c.args.day.now) (owner_in c.args.owner.now.of_node))
    ∙ ap length (c.deref.ensures.value ∙ sym c.deref-2.ensures.value)

pub returns : goal.returns
returns c =
    let f = lags_of (setup c.args.day.now) (owner_in c.args.owner.now.of_node) in
    borders_found c.args.day.now c.args.owner.now c.deref-2.result.now c.deref-3.result.now c.in_ok-lists.lists.items
    (c.deref-2.ensures.value ∙ c.in_ok-pairs.ensures)
    (c.deref-3.ensures.value ∙ c.in_ok-between.ensures ∙ ap (map f) (c.deref.ensures.value ∙ c.in_ok-pairs.ensures))
    c.in_ok-lists.ensures.count c.in_ok-lists.ensures.each
