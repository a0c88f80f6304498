use Rattle.std.proofs.Common.{◌≡◌, ◌<◌, ◌≤◌, length, sym, ◌∙◌, ap, arith}
use Rattle.plan_memory.{proofs.Dropping.one_less, proofs.Dropping.drop_step, proofs.Dropping.no_drop, specs.Memories.MemoryRows, specs.Scores.worst}
use Rattle.plan_memory.proofs.memory.Memory.drop_worst.Goals as goal

pub loop-self-preserved : goal.loop-self-preserved
loop-self-preserved c =
    let m = c.loop-self.self in
    let place = c.worst-place.result in
    let at : place ≡ worst m.scores =
    c.worst-place.ensures.place ∙ ap worst c.as_slice.ensures.value ∙ ap (λ (v : MemoryRows). worst v.scores) c.self.view_is in
    let scores = ap length c.as_slice.ensures.value ∙ ap (λ (v : MemoryRows). length v.scores) c.self.view_is in
    let within : place < length m.plans = omega arith in
    let more : c.args.size < length m.plans = omega arith in
    let less = one_less m.plans place within in
    let step = drop_step c.args.size place m at within more in
    rw c.drop_plan.ensures (
      sym step ∙ c.loop-self.invariant.0,
      λ few. absurd (omega (arith, ap (λ (v : MemoryRows). length v.plans) (c.loop-self.invariant.1 few))),
      λ many. omega arith,
    )

pub returns-clause-reduced : goal.returns-clause-reduced
returns-clause-reduced c =
    let few : length c.loop-self.self.plans ≤ c.args.size = omega arith in
    sym (no_drop c.args.size c.loop-self.self few) ∙ c.loop-self.invariant.0
