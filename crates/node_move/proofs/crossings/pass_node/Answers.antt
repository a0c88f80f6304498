use Rattle.std.{proofs.Common.◌≡◌, proofs.Common.◌∙◌, proofs.Common.ap, proofs.Common.sym, proofs.Common.subst, specs.Prelude.None}
use Rattle.queue_link.specs.Links.{LinkView, first_row}
use Rattle.node_move.specs.Spaces.{places_in}
use Rattle.node_move.proofs.Fronts.{no_front, behind_next, entered_front, removed_front, stayed_front}
use Rattle.traffic.specs.Nodes.{HaveNext}
use Rattle.node_move.proofs.crossings.pass_node.Goals as goal

pub returns-in_default-clause-run : goal.returns-in_default-clause-run
returns-in_default-clause-run c =
    let f : first_row c.fronts.in_link.lists.buffer ≡ None = sym (rw c.in_default.is at c.front_row.ensures) in
    sym (c.fronts.invariant.run ∙ no_front c.args.turn.now.stuck c.args.turn.now.second c.fronts.in_link (places_in c.fronts.space) _ f)

pub fronts-preserved-in-Continue-branch-2 : goal.fronts-preserved-in-Continue-branch-2
fronts-preserved-in-Continue-branch-2 c = record {
  run =
      c.fronts.invariant.run
      ∙ entered_front c.args.turn.now.stuck c.args.turn.now.second c.fronts.in_link c.take_front-row.new.self (places_in c.fronts.space)
      (places_in c.take_place.new.self) c.take_front-row.result c.in-Some.row.now c.next_link-next.result c.places-places.result c.has_room.result
      c.may_enter.result c.fronts.crossings.entering.items c.enter.new.self.entering.items c.fronts.crossings.removed.items
      c.enter.new.self.removed.items c.fronts.said.items c.enter.new.said.items c.in-Some.ensures c.take_front-row.ensures.front
      c.next_link-next.ensures c.places-places.ensures c.may_enter.ensures c.if-may_enter.true c.has_room.ensures c.take_front-row.ensures.rest
      c.in_ok-take_place.ensures.places c.in_ok-enter.ensures.entering (ap (λ v. v.items) c.in_ok-enter.ensures.removed) c.in_ok-enter.ensures.told;
  ready =
      subst (λ (x : LinkView). HaveNext x.lists.buffer) (sym c.take_front-row.ensures.rest)
      (behind_next c.args.turn.now.second c.fronts.in_link.lists.buffer c.fronts.invariant.ready);
  holes = λ m. c.in_ok-take_place.ensures.holes m ∙ c.fronts.invariant.holes m;
}

pub fronts-preserved : goal.fronts-preserved
fronts-preserved c =
    let taken = c.take_front-row-then-is_stuck in
    record {
      run =
          c.fronts.invariant.run
          ∙ removed_front c.args.turn.now.stuck c.args.turn.now.second c.fronts.in_link taken.new.self (places_in c.fronts.space)
          taken.result c.in-Some.row.now c.next_link-next.result c.places-places.result c.may_enter.result c.is_stuck.result
          c.fronts.crossings.entering.items c.remove.new.self.entering.items c.fronts.crossings.removed.items c.remove.new.self.removed.items
          c.fronts.said.items c.remove.new.said.items c.in-Some.ensures taken.ensures.front c.next_link-next.ensures c.places-places.ensures
          c.may_enter.ensures c.if-may_enter.false c.is_stuck.ensures c.if-is_stuck.true taken.ensures.rest
          (ap (λ v. v.items) c.in_ok-remove.ensures.entering) c.in_ok-remove.ensures.removed c.in_ok-remove.ensures.told;
      ready =
          subst (λ (x : LinkView). HaveNext x.lists.buffer) (sym taken.ensures.rest)
          (behind_next c.args.turn.now.second c.fronts.in_link.lists.buffer c.fronts.invariant.ready);
      holes = c.fronts.invariant.holes;
    }

pub returns-else-is_stuck-clause-run : goal.returns-else-is_stuck-clause-run
returns-else-is_stuck-clause-run c =
    sym (
    c.fronts.invariant.run
    ∙ stayed_front c.args.turn.now.stuck c.args.turn.now.second c.fronts.in_link (places_in c.fronts.space) c.in-Some.row.now c.next_link-next.result
    c.places-places.result c.may_enter.result c.is_stuck.result _ c.in-Some.ensures c.next_link-next.ensures c.places-places.ensures c.may_enter.ensures
    c.if-may_enter.false c.is_stuck.ensures c.if-is_stuck.false)
