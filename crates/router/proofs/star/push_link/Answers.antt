use Rattle.std.proofs.Common.{List, [], ◌∷◌, ◌++◌, map, Vec, Global, ap, sym, ◌∙◌}
use Rattle.std.{proofs.lemmas.List.map-set, proofs.lemmas.List.get_or-map, specs.Prelude.slice_set}
use Rattle.router.specs.declared.star.Spoke.{Spoke}
use Rattle.router.proofs.star.push_link.Goals as goal

abbrev items_of : Vec Spoke Global → List Spoke
items_of list = list.items

pub returns : goal.returns
returns c =
    let lists : List (Vec Spoke Global) = c.args.lists.now.items in
    map-set items_of lists c.args.node c.push.new.self
    ∙ ap (λ (l : List Spoke). slice_set (map items_of lists) c.args.node l)
    (c.in_ok-push.ensures.items
    ∙ ap (λ (l : List Spoke). l ++ c.args.link ∷ []) (ap items_of c.index_mut-list.ensures.value ∙ sym
    (get_or-map items_of lists c.args.node c.index_mut-list.result.now [] c.requires)))
