use Rattle.std.proofs.Common.{ℕ, List, ◌<◌, ◌≡◌, ◌++◌, sym, subst, take, drop, length, arith}
use Rattle.traffic.specs.declared.world.Waiter.{Waiter}
use Rattle.queue_link.specs.Links.{LinkView}
use Rattle.node_seconds.specs.Networks.{lane}
use Rattle.part_links.specs.{Links.LinksStandAt, Links.LinesStandAt, Links.StopsThere, Links.AreAsleep, Phase.IsPhaseAt}
use Rattle.part_seconds.proofs.Driven.{back}
use Rattle.part_seconds.proofs.driving.turn_links.Goals as goal

pub returns-clause-phase : goal.returns-clause-phase
returns-clause-phase c = λ number size S V numbered d stand lies stops asleep.
    let t = c.args.phase.now.second in
    let end = c.args.phase.now.end in
    let links = c.move_links.new.links in
    let lines = c.move_links.new.lines in
    let first = c.args.told.now in
    let last = c.move_links.new.told in
    let v = sym c.deref_mut.ensures.value in
    let w = sym c.deref_mut-2.ensures.value in
    let n : c.args.links.now.len ≡ length links = (let a = c.move_links.auto.links in let b = c.deref_mut.ensures.len in omega arith) in
    let m : c.args.lines.now.len ≡ length lines = (let a = c.move_links.auto.lines in let b = c.deref_mut-2.ensures.len in omega arith) in
    let g = c.in_ok-slots.ensures.phase number size S V numbered d (subst (λ (vs : List LinkView). LinksStandAt number size S t vs V) v stand)
    (subst (λ (ls : List (List Waiter)). LinesStandAt number size S ls V) w lies)
    (subst (λ (vs : List LinkView). (k : ℕ) → k < size → StopsThere S (number k) (lane vs k)) v stops)
    (subst (λ (vs : List LinkView). AreAsleep c.args.phase.now.dwell end t vs c.args.wakes.now) v asleep) in
    subst (λ (vs : List LinkView). IsPhaseAt number size S end t V vs
    (take c.args.lines.now.len (lines ++ drop (length lines) c.args.lines.now.items)) c.move_links.new.wakes first.events.items last.events.items
    first.said.items last.said.items) (sym (back c.args.links.now.len links (drop (length links) c.args.links.now.items) n))
    (subst (λ (ls : List (List Waiter)). IsPhaseAt number size S end t V links ls c.move_links.new.wakes first.events.items last.events.items
    first.said.items last.said.items) (sym (back c.args.lines.now.len lines (drop (length lines) c.args.lines.now.items) m)) g)
