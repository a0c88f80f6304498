use Rattle.std.proofs.Common.{◌+◌, List, ◌∙◌, refl, arith}
use Rattle.plan_memory.specs.Memories.{MemoryRows}
use Rattle.iterations.proofs.{Going.next_is, Going.can_again, Looping.loop_on, Looping.loop_failed, Looping.loop_wanting, Looping.loop_last, Outside.none_done}
use Rattle.iterations.{proofs.Outside.going_first, specs.Days.events_of, specs.Runs.RunRows, specs.Views.run_rows}
use Rattle.iterations.proofs.iterating.iterate_from.Goals as goal

pub returns-in_default-clause-performed : goal.returns-in_default-clause-performed
returns-in_default-clause-performed g c = none_done _ _

pub loop-iteration-init : goal.loop-iteration-init
loop-iteration-init g c = record {
  going = going_first _ _ _ refl;
  can = c.requires.can;
  keeper = λ off. refl;
}

pub returns-in-Err-clause-performed : goal.returns-in-Err-clause-performed
returns-in-Err-clause-performed g c =
    loop_failed (run_rows c.args.run.now) c.loop-iteration.iteration c.loop-iteration.memories.items _ _ _ _ _
    c.loop-iteration-test.true c.loop-iteration.invariant.going c.in-Err.ensures.performed

pub returns-in-Err-clause-keeper : goal.returns-in-Err-clause-keeper
returns-in-Err-clause-keeper g c off = c.in-Err.ensures.keeper off ∙ c.loop-iteration.invariant.keeper off

pub returns-in-Err-replanned-clause-performed : goal.returns-in-Err-replanned-clause-performed
returns-in-Err-replanned-clause-performed g c =
    loop_wanting (run_rows c.args.run.now) c.loop-iteration.iteration c.loop-iteration.memories.items _ _ _ _ _
    c.loop-iteration-test.true c.loop-iteration.invariant.going c.in-Ok-do_iteration.ensures.performed

pub returns-in-Err-replanned-clause-keeper : goal.returns-in-Err-replanned-clause-keeper
returns-in-Err-replanned-clause-keeper g c off = c.in-Ok-do_iteration.ensures.keeper off ∙ c.loop-iteration.invariant.keeper off

pub replanned-requires-clause-known : goal.replanned-requires-clause-known
replanned-requires-clause-known g c κs within = (
  events_of (run_rows c.args.run.now) c.loop-iteration.iteration c.loop-iteration.memories.items,
  c.in-Ok-do_iteration.ensures.observed,
)

pub loop-iteration-preserved : goal.loop-iteration-preserved
loop-iteration-preserved g c =
    let R : RunRows = run_rows c.args.run.now in
    let k = c.loop-iteration.iteration in
    let own : List MemoryRows = c.loop-iteration.memories.items in
    record {
      going = loop_on R k own _ _ _ _ _ c.in-Ok-replanned.new.items c.loop-iteration-test.true c.loop-iteration.invariant.going
          c.in-Ok-do_iteration.ensures.performed
          (next_is R k own c.in-Ok-do_iteration.one.memories.items c.in-Ok-replanned.new.items (events_of R k own)
          refl c.in-Ok-do_iteration.ensures.memories
          (c.in-Ok-replanned.ensures (events_of R k own) c.in-Ok-do_iteration.ensures.observed));
      can = can_again R (k + 1) (events_of R k own) c.in-Ok-do_iteration.one.memories.items c.in-Ok-replanned.new.items
          c.args.run.now.town.now.sound c.in-Ok-do_iteration.ensures.can
          (c.in-Ok-replanned.ensures (events_of R k own) c.in-Ok-do_iteration.ensures.observed);
      keeper = λ off. c.in-Ok-do_iteration.ensures.keeper off ∙ c.loop-iteration.invariant.keeper off;
    }

pub returns-clause-performed : goal.returns-clause-performed
returns-clause-performed g c =
    loop_last (run_rows c.args.run.now) c.loop-iteration.iteration c.loop-iteration.memories.items _ _ _ _ _
    (omega arith) c.loop-iteration.invariant.going c.finish.ensures.performed

pub returns-clause-keeper : goal.returns-clause-keeper
returns-clause-keeper g c off = c.finish.ensures.keeper off ∙ c.loop-iteration.invariant.keeper off
