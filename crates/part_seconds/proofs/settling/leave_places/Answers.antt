use Rattle.std.proofs.Common.{ℕ, List, ◌+◌, ◌<◌, sym, refl, subst, length, get_or, take}
use Rattle.std.proofs.lemmas.List.{take_all}
use Rattle.traffic.proofs.Each.{each_take}
use Rattle.partition.specs.Owned.{owner_in}
use Rattle.town.specs.Views.{setup}
use Rattle.node_seconds.proofs.Lanes.{in_at}
use Rattle.part_links.proofs.Standing.{taken_one}
use Rattle.part_places.specs.Taking.{Taking, AreTakenOf, begins_here}
use Rattle.part_seconds.{proofs.Vacated.all_none, proofs.Vacated.all_last, proofs.Vacated.all_few, specs.Settling.left_all}
use Rattle.part_seconds.proofs.settling.leave_places.Goals as goal

pub loop-slot-init : goal.loop-slot-init
loop-slot-init c = record {
  places = λ T apart few h.
      let S = setup c.args.run.now.day.now in
      let own = owner_in c.args.run.now.owner.now.of_node in
      subst (λ (U : Taking). AreTakenOf (begins_here S own c.args.partition) (length S.links) c.args.run.now.day.now.town.now.settings.end_second (c.args.second + 1) U
      c.args.places.now) (sym (all_none S own c.args.partition c.args.second c.args.links.now T)) h;
}

pub leave_place-requires-clause-there : goal.leave_place-requires-clause-there
leave_place-requires-clause-there c =
    in_at (length c.args.links.now) c.args.slots.now c.loop-slot.slot-index _ c.requires.there c.loop-slot-test.true refl

pub leave_place-requires-clause-link : goal.leave_place-requires-clause-link
leave_place-requires-clause-link c =
    c.requires.links _ (in_at (length c.args.links.now) c.args.slots.now c.loop-slot.slot-index _ c.requires.there c.loop-slot-test.true refl)

pub loop-slot-preserved : goal.loop-slot-preserved
loop-slot-preserved c = record {
  places = λ T apart few h.
      let S = setup c.args.run.now.day.now in
      let own = owner_in c.args.run.now.owner.now.of_node in
      let p = c.args.partition in
      let t = c.args.second in
      let end = c.args.run.now.day.now.town.now.settings.end_second in
      let links = c.args.links.now in
      let ks = c.args.slots.now in
      let i = c.loop-slot.slot-index in
      let k = get_or ks i 0 in
      let lt = c.loop-slot-test.true in
      let klt : k < length links = in_at (length links) ks i (length links) c.requires.there lt refl in
      let before = left_all S own p t links (take i ks) T in
      let there = each_take (λ (n : ℕ). n < length links) i ks c.requires.there in
      let low = all_few S own p t links apart (take i ks) T there few k klt in
      subst (λ (ns : List ℕ). AreTakenOf (begins_here S own p) (length S.links) end (t + 1) (left_all S own p t links ns T)
      c.leave_place.new.places) (sym (taken_one ks i lt))
      (subst (λ (U : Taking). AreTakenOf (begins_here S own p) (length S.links) end (t + 1) U c.leave_place.new.places)
      (sym (all_last S own p t links (take i ks) k T))
      (c.in_ok-leave_place.ensures before low (c.loop-slot.invariant.places T apart few h)));
}

pub returns : goal.returns
returns c = λ T apart few h.
    let S = setup c.args.run.now.day.now in
    let own = owner_in c.args.run.now.owner.now.of_node in
    subst (λ (ns : List ℕ). AreTakenOf (begins_here S own c.args.partition) (length S.links) c.args.run.now.day.now.town.now.settings.end_second (c.args.second + 1)
    (left_all S own c.args.partition c.args.second c.args.links.now ns T) c.loop-slot.places)
    (take_all c.loop-slot.slot-index c.args.slots.now c.loop-slot-test.false) (c.loop-slot.invariant.places T apart few h)
