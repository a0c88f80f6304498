use Rattle.std.{proofs.Common.arith, proofs.Common.ℕ, proofs.Common.List, proofs.Common.ap, proofs.Common.◌∙◌, proofs.Common.length, specs.List.slice_range}
use Rattle.router.proofs.Stars.{length-lists, span_is}
use Rattle.router.specs.declared.star.Spoke.{Spoke}
use Rattle.router.proofs.star.Star.links_of.Goals as goal

pub span-from-requires : goal.span-from-requires
span-from-requires c =
    let lists = length-lists c.self.inside.starts.items c.self.inside.links.items in
    let same = ap (λ (ls : List (List Spoke)). length ls) c.self.view_is in
    let starts = ap (λ (xs : List ℕ). length xs) c.deref.ensures.value in
    omega arith

pub part-requires-clause-order : goal.part-requires-clause-order
part-requires-clause-order c =
    (span_is c.self.inside.starts.items c.self.inside.links.items c.deref.result.now c.args.self.now c.args.node c.span-from.result
    c.self.invariant c.self.view_is c.requires c.deref.ensures.value c.span-from.ensures).0

pub part-requires-clause-end : goal.part-requires-clause-end
part-requires-clause-end c =
    let within = (span_is c.self.inside.starts.items c.self.inside.links.items c.deref.result.now c.args.self.now c.args.node
    c.span-from.result c.self.invariant c.self.view_is c.requires c.deref.ensures.value c.span-from.ensures).1 in
    let same = ap (λ (xs : List Spoke). length xs) c.deref-2.ensures.value in
    omega arith

pub returns : goal.returns
returns c =
    c.part.ensures ∙ ap (λ (xs : List Spoke). slice_range xs c.span-from.result.0 c.span-from.result.1) c.deref-2.ensures.value
    ∙ (span_is c.self.inside.starts.items c.self.inside.links.items c.deref.result.now c.args.self.now c.args.node c.span-from.result
    c.self.invariant c.self.view_is c.requires c.deref.ensures.value c.span-from.ensures).2
