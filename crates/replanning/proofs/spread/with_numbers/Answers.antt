use Rattle.std.proofs.Common.{◌≡◌, ℕ, ◌+◌, ◌∷◌, ◌++◌, [], List, length, sym, ◌∙◌, ap, arith, length-append}
use Rattle.std.specs.List.{enumerate_from}
use Rattle.plan_memory.specs.Memories.{MemoryRows}
use Rattle.replanning.proofs.Numbers.{numbered_more}
use Rattle.replanning.proofs.spread.with_numbers.Goals as goal

pub loop-memory-preserved : goal.loop-memory-preserved
loop-memory-preserved c =
    let own = c.in-Some.memory in
    let before = c.loop-memory.yielded in
    let number : length c.loop-memory.all.items ≡ 0 + length before = omega (arith, c.loop-memory.invariant.1) in (
      c.in_ok-push_numbered.ensures.memory
          ∙ ap (λ (t : List (ℕ × MemoryRows)). t ++ (length c.loop-memory.all.items, own) ∷ []) c.loop-memory.invariant.0
          ∙ ap (λ (n : ℕ). enumerate_from 0 before ++ (n, own) ∷ []) number
          ∙ sym (numbered_more 0 before own),
      omega (arith, c.in_ok-push_numbered.ensures.count, c.loop-memory.invariant.1, length-append before (own ∷ [])),
    )
