use Rattle.std.proofs.Common.{◌+◌, ◌-◌, ◌∷◌, ◌++◌, List, ℕ, sym, ◌∙◌, ap, string_bytes, append_assoc}
use Rattle.std.specs.List.{flat_map, range_with_len}
use Rattle.workload.{proofs.Lines.more_from_one, specs.Rows.call_text}
use Rattle.workload.proofs.schedule.push_calls.Goals as goal

pub loop-stop-preserved : goal.loop-stop-preserved
loop-stop-preserved c =
    let stop = c.loop-stop.stop in
    let piece : ℕ → List ℕ = (λ stop. 32 ∷ call_text stop) in
    let before = string_bytes c.args.text.now in
    c.in_ok-push_call.ensures ∙ ap (λ (t : List ℕ). t ++ piece stop) c.loop-stop.invariant
    ∙ append_assoc before (flat_map piece (range_with_len 1 (stop - 1))) (piece stop)
    ∙ ap (λ (t : List ℕ). before ++ t) (sym (more_from_one piece stop c.loop-stop.auto.stop))
