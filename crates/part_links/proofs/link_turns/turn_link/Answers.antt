use Rattle.std.proofs.Common.{ℕ, ◌∙◌, ap, ◌++◌}
use Rattle.events.specs.declared.event.Phase.TheVariants as phase
use Rattle.events.specs.Keys.{phase_code}
use Rattle.traffic.specs.Day.{keyed}
use Rattle.node_seconds.specs.Networks.{lane}
use Rattle.part_links.{proofs.Standing.turn_is, specs.Phase.of_persons}
use Rattle.part_links.proofs.link_turns.turn_link.Goals as goal

pub returns-clause-turn : goal.returns-clause-turn
returns-clause-turn c = λ lies ws h g b.
    let t = c.args.phase.now.second in
    turn_is lies c.args.phase.now.dwell t (lane c.args.links.now c.args.slot).numbers.link ws (lane c.args.links.now c.args.slot)
    (lane c.turn_at.new.links c.args.slot)
    c.args.lines.now c.turn_at.new.lines c.args.told.now.events.items _ c.args.told.now.said.items _ c.in_ok-said.said.items c.in_ok-said.ensures.link
    (c.in_ok-said.ensures.second lies ws h g b)
    (c.in_ok-append.ensures.events
    ∙ ap (λ xs. c.args.told.now.events.items ++ keyed t (phase_code phase.D) c.number_at-number.result 0 xs) c.deref.ensures.value
    ∙ ap (λ (n : ℕ). c.args.told.now.events.items ++ keyed t (phase_code phase.D) n 0 c.in_ok-said.said.items) c.number_at-number.ensures)
    (c.in_ok-append.ensures.said ∙ ap (λ xs. c.args.told.now.said.items ++ of_persons xs) c.deref.ensures.value)
