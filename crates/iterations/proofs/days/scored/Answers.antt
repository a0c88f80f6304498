use Rattle.std.proofs.Common.{◌≡◌, ◌∷◌, ◌++◌, [], List, length, sym, ◌∙◌, ap, arith, length-append}
use Rattle.std.specs.Prelude.{slice_get}
use Rattle.plan_memory.specs.Memories.{MemoryRows}
use Rattle.iterations.{proofs.Marked.scored_more, specs.Days.with_own_score}
use Rattle.iterations.proofs.days.scored.Goals as goal

pub loop-memory-preserved : goal.loop-memory-preserved
loop-memory-preserved c =
    let m : MemoryRows = c.in-Some.memory in
    let before : List MemoryRows = c.loop-memory.yielded in
    let place : c.len.result ≡ length before = c.len.ensures ∙ c.loop-memory.invariant.count in
    record {
      marked = c.in_ok-push.ensures.items
          ∙ ap (λ (x : MemoryRows). c.loop-memory.after.items ++ x ∷ []) (c.with_own_score.ensures ∙ ap (with_own_score m) c.score_at-score.ensures)
          ∙ ap (λ (l : List MemoryRows). l ++ with_own_score m (slice_get c.args.scores.now c.len.result) ∷ []) c.loop-memory.invariant.marked
          ∙ sym (scored_more before c.args.scores.now m c.len.result place);
      count = omega (arith, c.in_ok-push.ensures.len, c.loop-memory.invariant.count, length-append before (m ∷ []));
    }
