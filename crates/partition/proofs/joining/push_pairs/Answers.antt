use Rattle.std.proofs.Common.{◌≡◌, ◌∙◌, ◌++◌, ◌+◌, sym, ap, subst, get_or, false}
use Rattle.std.specs.Prelude.{filter}
use Rattle.partition.proofs.{Pairs.rest_of, Pairs.pair_taken, Pairs.pair_passed, joining.push_pairs.Goals.then-joined-place_of+in_ok-push}
use Rattle.partition.{proofs.joining.push_pairs.Goals.else-joined-place_of, specs.Neighbours.is_joined, specs.Neighbours.pairs_from}
use Rattle.partition.proofs.joining.push_pairs.Goals as goal

pub loop-greater-preserved : goal.loop-greater-preserved
loop-greater-preserved c =
    let table = c.args.joined.now in
    let p = c.args.lesser in
    let k = c.loop-greater.greater in
    let n = c.args.parts in
    let out = c.loop-greater.pairs.items in
    let all = c.args.pairs.now.items ++ filter (is_joined table) (pairs_from n p) in
    elim c.if-joined-place_of.branch [
      | then-joined-place_of+in_ok-push w ↦
          let e = ap (λ v. v.items) w.pairs-is ∙ w.in_ok-push.ensures.items in
          subst (λ ps. ps ++ rest_of table p (k + 1) n ≡ all) (sym e)
          (pair_taken table p k n out all c.loop-greater-test.true (ap (λ z. get_or table z false) (sym c.place_of.ensures.value) ∙ w.if-joined-place_of.true) c.loop-greater.invariant)
      | else-joined-place_of w ↦
          subst (λ ps. ps ++ rest_of table p (k + 1) n ≡ all) (sym (ap (λ v. v.items) w.pairs-is))
          (pair_passed table p k n out all c.loop-greater-test.true (ap (λ z. get_or table z false) (sym c.place_of.ensures.value) ∙ w.if-joined-place_of.false) c.loop-greater.invariant)
    ]
