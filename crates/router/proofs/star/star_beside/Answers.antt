use Rattle.std.proofs.Common.{◌≡◌, List, length, map, Vec, Global, ap, sym, ◌∙◌, subst}
use Rattle.std.{proofs.lemmas.List.take_all, specs.Prelude.slice_index}
use Rattle.router.specs.Stars.{AreBeside}
use Rattle.router.specs.declared.star.Spoke.{Spoke}
use Rattle.router.proofs.star.star_beside.Goals as goal

abbrev items_of : Vec Spoke Global → List Spoke
items_of list = list.items

pub returns-clause-lists : goal.returns-clause-lists
returns-clause-lists c =
    let P : List (List Spoke) → Type 0 = λ lists. AreBeside (slice_index c.args.beside.now) (slice_index c.args.others.now) (length c.args.beside.now) lists in
    let all : c.loop-list.star ≡ map items_of c.in_ok-lists.lists.items =
    c.loop-list.invariant ∙ ap (map items_of)
    (take_all c.loop-list.list-index c.deref-list-items.result.now c.loop-list-test.false ∙ c.deref-list-items.ensures.value) in
    subst P (sym all) c.in_ok-lists.ensures.lists
