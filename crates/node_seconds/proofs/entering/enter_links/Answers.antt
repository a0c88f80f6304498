use Rattle.std.proofs.Common.{◌≡◌, ◌∙◌, ◌++◌, [], ◌∷◌, ℕ, List, refl, ap, sym, length, append-nil, append_assoc}
use Rattle.std.{proofs.lemmas.List.Elements.filter-append, specs.Prelude.filter, specs.Prelude.Option, specs.Prelude.if◌then◌else◌}
use Rattle.queue_link.specs.Links.{LinkView}
use Rattle.node_move.specs.declared.crossings.Entering.{Entering}
use Rattle.node_seconds.specs.Networks.{slot_in, put_queued, wake_queued, accepted, accepted_all, wakes_after, wakes_after_all, is_nowhere, goes_out}
use Rattle.node_seconds.proofs.Lanes.{accepted_length, woken_length, accepted_last, woken_last, slots_kept}
use Rattle.node_seconds.proofs.entering.enter_links.Goals as goal

pub loop-vehicle-init : goal.loop-vehicle-init
unfolding accepted_all wakes_after_all
loop-vehicle-init c = record {
  links = refl;
  wakes = refl;
  count = c.requires.wakes;
  out = sym (append-nil c.args.out.now.items);
  slots = λ m. refl;
}

pub loop-vehicle-preserved : goal.loop-vehicle-preserved
loop-vehicle-preserved c =
    let t = c.args.second in
    let end = c.args.end in
    let e = c.in-Some.vehicle in
    let before = c.loop-vehicle.yielded in
    let now = c.loop-vehicle.links in
    let was = c.loop-vehicle.invariant in
    let one = c.in_ok-accept.ensures in
    let slots = c.args.link_slots.now in
    let first = c.args.links.now in
    let P : ℕ → Option ℕ = slot_in slots first in
    let same : slot_in slots now e.link ≡ P e.link = was.slots e.link in
    record {
      links =
          one.links ∙ ap (λ (o : Option ℕ). put_queued t e o now) same ∙ ap (λ (vs : List LinkView). accepted P t e vs) was.links
          ∙ sym (accepted_last P t before e first);
      wakes =
          one.wakes ∙ ap (λ (o : Option ℕ). wake_queued end t o now c.loop-vehicle.wakes) same
          ∙ ap (λ (vs : List LinkView). wakes_after P end t e vs c.loop-vehicle.wakes) was.links
          ∙ ap (wakes_after P end t e (accepted_all P t before first)) was.wakes
          ∙ sym (woken_last P end t before e first c.args.wakes.now);
      count =
          ap length one.wakes ∙ woken_length (slot_in slots now) end t e now c.loop-vehicle.wakes ∙ was.count
          ∙ sym (ap length one.links ∙ accepted_length (slot_in slots now) t e now);
      out =
          one.out ∙ ap (λ (o : Option ℕ). c.loop-vehicle.out.items ++ (if is_nowhere o then e ∷ [] else [])) same
          ∙ ap (λ (xs : List Entering). xs ++ filter (goes_out P) (e ∷ [])) was.out
          ∙ append_assoc c.args.out.now.items (filter (goes_out P) before) (filter (goes_out P) (e ∷ []))
          ∙ ap (λ (xs : List Entering). c.args.out.now.items ++ xs) (sym (filter-append (goes_out P) before (e ∷ [])));
      slots = λ m.
          ap (λ (vs : List LinkView). slot_in slots vs m) one.links ∙ slots_kept slots (slot_in slots now) t e now m ∙ was.slots m;
    }
