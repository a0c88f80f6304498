use Rattle.std.proofs.{Common.◌≡◌, Common.List, Common.◌∙◌, Common.◌-◌, Common.◌<◌, Common.ap, Common.refl, Common.sym, Common.inl, Common.inr, Common.arith, Common.length, lemmas.Bool.cases_lt, lemmas.List.length-set}
use Rattle.law_in_range.proofs.Days.{one_each}
use Rattle.partition.specs.Owned.{owner_in}
use Rattle.town.specs.Views.{setup}
use Rattle.divided_day.specs.Borders.{borders_of}
use Rattle.step_core.specs.{Nets.border_at, declared.part.Border.Border}
use Rattle.part_seconds.specs.{Parcels.nothing, declared.contents.Contents.Contents}
use Rattle.parted_day.proofs.Steps.{none_absorbed, many_persons, many_wakes}
use Rattle.parted_day.proofs.Rounds.{emptied_next, kept_next, round, passed, finished}
use Rattle.parted_day.proofs.absorbing.absorb.Goals as goal

pub loop-place-init : goal.loop-place-init
loop-place-init c =
    let run = c.args.run.now in
    record {
      absorbed = none_absorbed run.day.now (owner_in run.owner.now.of_node) c.args.partition c.args.second c.args.area.now c.requires.stands;
      within = omega arith;
      many = refl;
      emptied = λ k lt. absurd (omega arith);
      kept = λ k le. refl;
    }

pub take-parcel-requires : goal.take-parcel-requires
take-parcel-requires c = c.in-Some.ensures.some.there

pub absorb_parcel-requires-clause-plans : goal.absorb_parcel-requires-clause-plans
absorb_parcel-requires-clause-plans c =
    let run = c.args.run.now in
    many_persons run.day.now (owner_in run.owner.now.of_node) c.args.partition c.args.second c.args.area.now c.requires.stands _
    c.loop-place.area c.loop-place.invariant.absorbed
    ∙ one_each run.day.now c.args.area.now.persons.world c.requires.stands.persons.fit

pub absorb_parcel-requires-clause-looks : goal.absorb_parcel-requires-clause-looks
absorb_parcel-requires-clause-looks c = c.loop-place.invariant.absorbed.persons.wakes

pub absorb_parcel-requires-clause-wakes : goal.absorb_parcel-requires-clause-wakes
absorb_parcel-requires-clause-wakes c =
    let run = c.args.run.now in
    many_wakes run.day.now (owner_in run.owner.now.of_node) c.args.partition c.args.second c.args.area.now c.requires.stands _
    c.loop-place.area c.loop-place.invariant.absorbed

pub loop-place-preserved : goal.loop-place-preserved
loop-place-preserved c =
    let run = c.args.run.now in
    let day = run.day.now in
    let S = setup day in
    let own = owner_in run.owner.now.of_node in
    let p = c.args.partition in
    let t = c.args.second in
    let from = c.loop-place.from in
    let k = c.in-Some.place in
    let inbox = c.loop-place.inbox in
    let first = c.args.inbox.now in
    let rows = borders_of S own run.owner.now.parts p in
    let was = c.loop-place.invariant in
    let next = c.in-Some.ensures.some in
    let is : c.neighbours_of-borders.result.now ≡ rows = c.neighbours_of-borders.ensures in
    let m = was.many in
    let places = c.requires.places in
    let least = next.least in
    let there = next.there in
    let lt : k < length rows = omega arith in
    record {
      absorbed =
          round day run.owner.now run.given p t run.link_slots.now run.slots c.parcels_make_ready.ensures.ready
          c.parcels_make_ready.ensures.between c.args.area.now c.requires.stands k c.saturating_sub-sent.result
          c.take-parcel.result first c.loop-place.area c.absorb_parcel.new.area lt
          (c.saturating_sub-sent.ensures ∙ ap (λ (bs : List Border). t - (border_at bs k).lag) is) c.requires.heard
          (c.take-parcel.ensures.parcel ∙ was.kept k (omega arith))
          (passed day run.owner.now run.given p t run.link_slots.now run.slots c.parcels_make_ready.ensures.ready
          c.parcels_make_ready.ensures.between c.args.area.now c.requires.stands from k first c.loop-place.area (omega arith) (omega arith)
          c.requires.heard (λ j ge less. sym (was.kept j ge) ∙ next.none j ge less) was.absorbed)
          c.in_ok-absorb_parcel.ensures;
      within = (let same = ap (λ (xs : List Contents). length xs) c.take-parcel.ensures.rest ∙ length-set inbox k nothing in omega arith);
      many = ap (λ (xs : List Contents). length xs) c.take-parcel.ensures.rest ∙ length-set inbox k nothing ∙ was.many;
      emptied =
          emptied_next inbox c.take-parcel.new.self k c.take-parcel.ensures.rest there
          (λ j less. elim (cases_lt j from) [
            | inl before ↦ was.emptied j before
            | inr ge ↦ next.none j ge less
          ]);
      kept = kept_next inbox first c.take-parcel.new.self k c.take-parcel.ensures.rest (λ j ge. was.kept j (omega arith));
    }

pub returns-clause-stands : goal.returns-clause-stands
returns-clause-stands c =
    let run = c.args.run.now in
    let day = run.day.now in
    let own = owner_in run.owner.now.of_node in
    let p = c.args.partition in
    let was = c.loop-place.invariant in
    let m = was.many in
    let within = was.within in
    let places = c.requires.places in
    let n = length (borders_of (setup day) own run.owner.now.parts p) in
    finished day run.owner.now run.given p c.args.second run.link_slots.now run.slots c.parcels_make_ready.ensures.ready
    c.parcels_make_ready.ensures.between c.args.area.now c.requires.stands c.own_worlds_go_on.ensures.takes_in n c.loop-place.area
    (omega arith)
    (passed day run.owner.now run.given p c.args.second run.link_slots.now run.slots c.parcels_make_ready.ensures.ready
    c.parcels_make_ready.ensures.between c.args.area.now c.requires.stands c.loop-place.from n c.args.inbox.now c.loop-place.area
    (omega arith) (omega arith) c.requires.heard (λ k ge lt. sym (was.kept k ge) ∙ c.in_default.ensures.none k ge) was.absorbed)

pub returns-clause-empty : goal.returns-clause-empty
returns-clause-empty c = record {
  many = c.loop-place.invariant.many;
  none = λ k lt. elim (cases_lt k c.loop-place.from) [
    | inl before ↦ c.loop-place.invariant.emptied k before
    | inr ge ↦ c.in_default.ensures.none k ge
  ];
}
