use Rattle.std.proofs.Common.{arith, List, map, length, Vec, Global, ap, refl, ◌∙◌}
use Rattle.std.proofs.lemmas.List.{length-map, length-set}
use Rattle.router.proofs.Stars.{beside_push}
use Rattle.std.specs.Prelude.{slice_index}
use Rattle.router.specs.declared.star.Spoke.{Spoke}
use Rattle.router.proofs.star.lists_beside.Goals as goal

abbrev items_of : Vec Spoke Global → List Spoke
items_of list = list.items

pub loop-link-preserved : goal.loop-link-preserved
loop-link-preserved c =
    let old : List (List Spoke) = map items_of c.loop-link.lists.items in
    let new : List (List Spoke) = map items_of c.push_link.new.lists.items in
    let node = c.requires.within c.loop-link.link 0 c.loop-link-test.true in
    let count_old = length-map c.loop-link.lists.items items_of in
    let count_new = length-map c.push_link.new.lists.items items_of in
    let kept = c.loop-link.invariant.count in
    let same = ap (λ (ls : List (List Spoke)). length ls) c.in_ok-push_link.ensures ∙ length-set old _ _ in
    record {
      count = omega arith;
      lists = beside_push _ (slice_index c.args.others.now) c.loop-link.link _ _ old (omega arith) refl refl refl c.loop-link.invariant.lists new
          c.in_ok-push_link.ensures;
    }
