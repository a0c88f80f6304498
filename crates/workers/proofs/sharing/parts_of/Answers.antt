use Rattle.std.proofs.Common.{rules, arith, ◌≡◌, ◌<◌, length, vec_len, slice_index_or, sym, ap, ◌∙◌, subst}
use Rattle.workers.{proofs.Dealing.no_parts, proofs.Dealing.next_part, proofs.Dealing.none_of, specs.Members.number_of, specs.Sharing.ArePartsOf}
use Rattle.workers.proofs.sharing.parts_of.Goals as goal

pub loop-number-init : goal.loop-number-init
loop-number-init g c =
    (no_parts c.args.members.items c.in_ok-parts.parts.items c.in_ok-parts.ensures.items, (λ p le lt. c.requires p lt), (λ m i. i))

pub unreachable-requires : goal.unreachable-requires
unreachable-requires g c = none_of c.loop-number.members.items c.as_slice.result.now c.loop-number.number
    (c.loop-number.invariant.1 c.loop-number.number (omega arith) c.loop-number-test.true) c.as_slice.ensures.value c.in-None.ensures.none

pub swap_remove-part-requires : goal.swap_remove-part-requires
swap_remove-part-requires g c = let f = c.in-Some.ensures.found in let lt = f.0 in let e = ap length c.as_slice.ensures.value in
    let v : vec_len c.loop-number.members ≡ length c.loop-number.members.items = search rules in omega arith

pub loop-number-preserved : goal.loop-number-preserved
loop-number-preserved g c =
    let i = c.loop-number.invariant in let f = c.in-Some.ensures.found in let place = c.in-Some.place in let x = c.swap_remove-part.result in
    let same = c.as_slice.ensures.value in
    next_part c.args.members.items c.loop-number.members.items c.swap_remove-part.new.self.items c.loop-number.number c.args.count place x
    c.loop-number.parts.items c.push.new.self.items i.0 i.1 i.2 (subst (λ z. place < length z) same f.0) c.swap_remove-part.ensures.value
    (ap number_of c.swap_remove-part.ensures.value ∙ (ap (λ z. number_of (slice_index_or z place x)) (sym same) ∙ f.1 x))
    c.swap_remove-part.ensures.items c.in_ok-push-in-Some.ensures.items

pub returns : goal.returns
returns g c = let all : c.loop-number.number ≡ c.args.count = omega arith in
    subst (λ n. ArePartsOf c.args.members.items n c.loop-number.parts.items) all c.loop-number.invariant.0
