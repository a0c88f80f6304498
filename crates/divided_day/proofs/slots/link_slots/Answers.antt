use Rattle.std.proofs.Common.{◌∙◌, ◌+◌, ◌≡◌, sym, subst, arith, List, ℕ}
use Rattle.town.specs.Views.{setup}
use Rattle.partition.specs.Owned.{owner_in}
use Rattle.traffic.specs.Setup.{link_row}
use Rattle.divided_day.proofs.{Slotted.IsCounted, Slotted.none_yet, Slotted.few_taken, Slotted.counted_more, Slotted.all_slots, Whole.links_of}
use Rattle.divided_day.proofs.slots.link_slots.Goals as goal

pub loop-link-init : goal.loop-link-init
loop-link-init c =
    none_yet (setup c.args.day.now) (owner_in c.args.owner.now.of_node) c.args.owner.now.parts c.in_ok-taken.taken.items
    c.new-slots.result.items
    (c.in_ok-taken.ensures.items_if_clones_equal (λ y e. e)) c.new-slots.ensures.items

pub take_slot-requires-clause-there : goal.take_slot-requires-clause-there
take_slot-requires-clause-there c =
    let own = owner_in c.args.owner.now.of_node in
    let S = setup c.args.day.now in
    let is = c.owner_of_link-partition.ensures in
    let lt = c.args.owner.now.owned (link_row S c.loop-link.link).to in
    let all = c.loop-link.invariant.all_parts in
    omega (arith, is, lt, all)

pub take_slot-requires-clause-few : goal.take_slot-requires-clause-few
take_slot-requires-clause-few c =
    let own = owner_in c.args.owner.now.of_node in
    let S = setup c.args.day.now in
    let is = c.owner_of_link-partition.ensures in
    let lt = c.args.owner.now.owned (link_row S c.loop-link.link).to in
    let most = c.args.day.now.town.now.network.few_links in
    let short = few_taken S own c.args.owner.now.parts c.loop-link.link c.loop-link.taken.items c.loop-link.slots.items
    c.loop-link.invariant
    c.owner_of_link-partition.result (omega (arith, is, lt)) in
    omega (arith, short, most, c.loop-link-test.true, c.len-link-end.ensures)

pub loop-link-preserved : goal.loop-link-preserved
loop-link-preserved c =
    let own = owner_in c.args.owner.now.of_node in
    let S = setup c.args.day.now in
    let n = c.loop-link.link in
    let is = c.owner_of_link-partition.ensures in
    let lt = c.args.owner.now.owned (link_row S n).to in
    let partition = c.owner_of_link-partition.result in
    subst (λ (xs : List ℕ). IsCounted S own c.args.owner.now.parts (n + 1) c.take_slot.new.taken.items xs) (sym c.in_ok-push.ensures.items)
    (counted_more S own c.args.owner.now.parts n c.loop-link.taken.items c.take_slot.new.taken.items c.loop-link.slots.items
    c.loop-link.invariant
    partition c.take_slot.result (omega (arith, is, lt)) is c.take_slot.ensures.slot c.take_slot.ensures.taken)

pub returns : goal.returns
returns c =
    let S = setup c.args.day.now in
    let a = c.loop-link-test.false in
    let b = c.loop-link.auto.link-end in
    let n : c.loop-link.link ≡ c.len-link-end.result = omega (arith, a, b) in
    all_slots S (owner_in c.args.owner.now.of_node) c.args.owner.now.parts c.loop-link.link c.loop-link.taken.items
    c.loop-link.slots.items c.loop-link.invariant
    (n ∙ c.len-link-end.ensures ∙ sym (links_of c.args.day.now))
