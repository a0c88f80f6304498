use Rattle.std.proofs.{Common.ℕ, Common.◌∙◌, Common.◌<◌, Common.length, Common.get_or, lemmas.List.Elements.All-get_or, lemmas.List.Elements.All-from_recursion}
use Rattle.std.specs.Prelude.{◌==◌}
use Rattle.town.specs.Views.{setup}
use Rattle.node_move.specs.Spaces.{holes_in}
use Rattle.part_places.proofs.Starting.{none_free, one_free, all_free, no_holes}
use Rattle.part_places.proofs.starts.free_space.Goals as goal

pub loop-link-init : goal.loop-link-init
loop-link-init c = record { free = none_free (setup c.args.day.now) c.args.links.now c.in_ok-space.space; holes = c.in_ok-space.ensures.holes }

pub free_place-places-requires : goal.free_place-places-requires
free_place-places-requires c =
    let P : ℕ → Type 0 = λ l. l < length c.args.day.now.town.now.network.links in
    All-get_or P c.args.links.now c.loop-link.link-index 0 c.loop-link-test.true (All-from_recursion P c.args.links.now c.requires)

pub loop-link-preserved : goal.loop-link-preserved
loop-link-preserved c = record {
  free =
      one_free (setup c.args.day.now) c.args.links.now c.loop-link.link-index c.free_place-places.result c.loop-link.space c.set.new.self
      c.loop-link-test.true c.free_place-places.ensures c.in_ok-set.ensures.ok c.loop-link.invariant.free;
  holes = λ m.
      c.in_ok-set.ensures.holes m
      ∙ no_holes (m == get_or c.args.links.now c.loop-link.link-index 0) (holes_in c.loop-link.space m) (c.loop-link.invariant.holes m);
}

pub returns-clause-free : goal.returns-clause-free
returns-clause-free c =
    all_free (setup c.args.day.now) c.args.links.now c.loop-link.link-index c.loop-link.space c.loop-link-test.false c.loop-link.invariant.free
