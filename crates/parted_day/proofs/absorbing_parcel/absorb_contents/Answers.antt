use Rattle.std.proofs.Common.{◌≡◌, ◌++◌, ◌∙◌, ℕ, List, ap, refl, sym, subst, length, arith}
use Rattle.town.specs.Views.{setup}
use Rattle.queue_link.specs.Links.{LinkView}
use Rattle.node_move.specs.declared.crossings.Entering.{Entering}
use Rattle.node_seconds.specs.Networks.{slot_in, accepted_all, wakes_after_all}
use Rattle.part_places.specs.Taking.{AreTakenOf}
use Rattle.part_seconds.proofs.Driven.{back}
use Rattle.part_seconds.specs.{Freed.heard_all, Freed.CanHearAll, Settling.put_queues, declared.contents.FreedPlaces.FreedPlaces}
use Rattle.parted_day.{proofs.Rows.same_freed, specs.Absorbed.entered_slots, specs.Absorbed.entering_with}
use Rattle.parted_day.proofs.absorbing_parcel.absorb_contents.Goals as goal

pub returns : goal.returns
returns c =
    let run = c.args.run.now in
    let day = run.day.now in
    let S = setup day in
    let s = c.args.second in
    let end = day.town.now.settings.end_second in
    let A = c.args.area.now in
    let x = c.args.contents in
    let links = A.network.links.items in
    let place = slot_in run.link_slots.now links in
    let es_are : c.arrive.new.entering.items ≡ entering_with day s x
    = c.in_ok-freed.ensures.entering ∙ ap (λ (es : List Entering). es ++ entering_with day s x) c.in_ok-entering.ensures.items in
    let freed_is = same_freed c.in_ok-freed.freed x.freed c.in_ok-freed.ensures.freed in
    record {
      persons = c.in_ok-freed.ensures.persons;
      departures = refl;
      lines = refl;
      links = c.in_ok-enter.ensures.links ∙ ap (λ (es : List Entering). accepted_all place s es links) es_are;
      wakes = c.in_ok-enter.ensures.wakes ∙ ap (λ (es : List Entering). wakes_after_all place end s es links A.network.link_wakes) es_are;
      places = λ begins u T can taken.
          subst (λ (fs : List FreedPlaces). AreTakenOf begins (length S.links) end u (heard_all S s fs T) c.hear.new.places) freed_is
          (c.in_ok-hear.ensures begins u T (subst (λ (fs : List FreedPlaces). CanHearAll S begins u s fs T) (sym freed_is) can) taken);
      nodes = refl;
      queues =
          back A.queues.len c.put_queues.new.queues _ (let a = c.put_queues.auto.queues in let b = c.deref_mut.ensures.len in omega arith)
          ∙ c.put_queues.ensures
          ∙ ap (λ (vs : List LinkView). put_queues vs c.deref-2.result.now c.deref_mut.result.now) c.deref-3.ensures.value
          ∙ ap (λ (ks : List ℕ). put_queues c.enter.new.links.items ks c.deref_mut.result.now) (c.deref-2.ensures.value
          ∙ c.in_ok-slots.ensures ∙ ap (entered_slots run.link_slots.now) (c.deref.ensures.value ∙ es_are))
          ∙ ap (put_queues c.enter.new.links.items (entered_slots run.link_slots.now (entering_with day s x))) c.deref_mut.ensures.value;
    }
