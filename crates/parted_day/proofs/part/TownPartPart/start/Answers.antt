use Rattle.std.proofs.Common.{List, ap, refl, sym, subst, arith, length}
use Rattle.events.specs.declared.event.Event.{Event}
use Rattle.parted_day.proofs.{Senders.few, Standing.none_stray, Standing.new_empty, Telling.none_told}
use Rattle.parted_day.specs.{Parts.HasTold, Strays.AreStrays, declared.straying.Stray.Stray}
use Rattle.partition.specs.Owned.{owner_in}
use Rattle.step_core.specs.declared.part.Border.{Border}
use Rattle.town.specs.Views.{setup}
use Rattle.parted_day.proofs.part.TownPartPart.start.Goals as goal

pub new-requires : goal.new-requires
new-requires c =
    let run = c.args.run.now in
    let many = ap (λ (bs : List Border). length bs) c.neighbours_of-count.ensures in
    let at_most = few (setup run.day.now) (owner_in run.owner.now.of_node) run.owner.now.parts c.args.number run.owner.now.few in
    omega arith

pub new-requires-2 : goal.new-requires-2
new-requires-2 c =
    let run = c.args.run.now in
    let many = ap (λ (bs : List Border). length bs) c.neighbours_of-count.ensures in
    let at_most = few (setup run.day.now) (owner_in run.owner.now.of_node) run.owner.now.parts c.args.number run.owner.now.few in
    omega arith

pub returns : goal.returns
returns c =
    let run = c.args.run.now in
    let day = run.day.now in
    let S = setup day in
    let own = owner_in run.owner.now.of_node in
    let p = c.args.number in
    let many = ap (λ (bs : List Border). length bs) c.neighbours_of-count.ensures in
    record {
      number = refl;
      seconds = refl;
      holds = record {
        there = c.requires;
        stands = c.in_ok-area.ensures;
        quiet = λ u from before. absurd (omega arith);
        events = subst (λ (es : List Event). HasTold run.streams day run.owner.now p 0 es) (sym c.list_with_room.ensures)
            (none_told run.streams day run.owner.now p);
        silent = c.new-3.ensures.items;
        stray = subst (λ (xs : List Stray). AreStrays S own run.owner.now.parts p 0 xs) (sym c.new-4.ensures.items)
            (none_stray S own run.owner.now.parts p);
        whole = refl;
      };
      empty = new_empty _ _ _ c.in_ok-inbox.ensures many;
      gone = new_empty _ _ _ c.in_ok-outbox.ensures many;
    }
