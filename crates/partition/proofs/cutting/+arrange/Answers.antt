use Rattle.std.proofs.Common.{◌∙◌, ◌+◌, ◌-◌, ◌/◌, arith, sym, ap, subst, length}
use Rattle.std.{proofs.lemmas.List.Sorted.length_permutation, specs.List.AllByRecursion as Each}
use Rattle.partition.specs.Cuts.{nodes_before, is_sorted_at}
use Rattle.partition.proofs.Arranged.{no_cuts, rest_share, halves_turned, arranged_from}
use Rattle.partition.proofs.cutting.+arrange.Goals as goal

pub returns-then-count-le1-clause-cut : goal.returns-then-count-le1-clause-cut
returns-then-count-le1-clause-cut t c =
    λ depth h.
    subst (λ cs. Each (is_sorted_at c.args.division.now.nodes.now c.args.division.now.parts
    (nodes_before (length c.args.division.now.nodes.now) c.args.division.now.parts c.args.first) c.args.members.now) cs)
    (sym (no_cuts depth c.args.axis c.args.first c.args.count c.if-count-le1.true)) tt

pub arrange-requires-2 : goal.arrange-requires-2
arrange-requires-2 t c =
    let parts = c.args.division.now.parts in
    let many = c.if-count-le1.false in
    let long = length_permutation _ _ c.sort_along.ensures.same in
    let rest =
    rest_share (length c.args.division.now.nodes.now) parts c.args.first c.args.count (length c.args.members.now) (length c.split_at_mut-lesser.result.1.now)
    (c.nodes_before-middle.result - c.nodes_before-before.result) c.requires.some many c.requires.share
    (ap (λ m. m - c.nodes_before-before.result) c.nodes_before-middle.ensures
    ∙ ap (λ b. nodes_before (length c.args.division.now.nodes.now) parts (c.args.first + c.args.count / 2) - b) c.nodes_before-before.ensures)
    (c.split_at_mut-lesser.ensures.back_len ∙ long) in
    let d = c.decreases in
    let i = c.requires.inside in
    (omega arith, (c.requires.some, (c.requires.few, (c.requires.few_nodes, (omega arith, rest)))))

pub returns-clause-same : goal.returns-clause-same
returns-clause-same t c = halves_turned _ _ _ _ _ _ c.sort_along.ensures.same c.split_at_mut-lesser.ensures.value c.arrange.ensures.same c.arrange-2.ensures.same

pub returns-clause-cut : goal.returns-clause-cut
returns-clause-cut t c =
    let nodes = c.args.division.now.nodes.now in
    let parts = c.args.division.now.parts in
    let long = length_permutation _ _ c.sort_along.ensures.same in
    (arranged_from nodes parts c.args.axis c.across.result c.across-2.result c.args.first c.args.count (c.nodes_before-middle.result - c.nodes_before-before.result)
    c.sort_along.new.members c.split_at_mut-lesser.result.0.now c.split_at_mut-lesser.result.1.now c.arrange.new.members c.arrange-2.new.members
    c.requires.some c.if-count-le1.false (ap (λ k. k + nodes_before (length nodes) parts c.args.first) long ∙ c.requires.share) c.sort_along.ensures.sorted
    (ap (λ m. m - c.nodes_before-before.result) c.nodes_before-middle.ensures
    ∙ ap (λ b. nodes_before (length nodes) parts (c.args.first + c.args.count / 2) - b) c.nodes_before-before.ensures)
    c.split_at_mut-lesser.ensures.front c.split_at_mut-lesser.ensures.back c.arrange.ensures.same c.arrange-2.ensures.same c.across.ensures c.across-2.ensures
    (record { cut = c.arrange.ensures.cut }) (record { cut = c.arrange-2.ensures.cut })).cut
