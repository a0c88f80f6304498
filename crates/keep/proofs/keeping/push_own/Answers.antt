use Rattle.std.proofs.Common.{◌≡◌, ◌<◌, ◌∷◌, ◌++◌, [], length, get_or, None, Some, ap, ◌∙◌, arith}
use Rattle.std.proofs.lemmas.Option.{slice_get-get_or}
use Rattle.edge_files.specs.declared.keeping.KeptRow.{KeptRow}
use Rattle.rows.specs.PlanRows.{PlanRows}
use Rattle.plan_text.specs.Lines.{is_plan_in}
use Rattle.keep.{proofs.Pushing.own-more, proofs.Pushing.each-more, specs.Kept.own_rows}
use Rattle.keep.proofs.keeping.push_own.Goals as goal

pub loop-index-preserved : goal.loop-index-preserved
loop-index-preserved c =
    let m = c.args.memory.now in
    let i = c.loop-index.index in
    let d : PlanRows = record { acts = []; legs = [] } in
    let each : length m.scores ≡ length m.plans = c.len-index-end.ensures.each ∙ c.len-index-end.ensures.count in
    let here : i < length m.plans = omega (arith, c.len-index-end.ensures.count, c.loop-index-test.true) in
    let at = slice_get-get_or m.plans i d here in
    record {
      rows = own-more c.args.book.now c.args.person (Some m.chosen) m.plans m.scores i d None c.loop-index.rows.items c.push.new.self.items
          (c.args.rows.now.items ++ own_rows c.args.book.now c.args.person m) here each
          (c.in_ok-push.ensures.items ∙ ap (λ (r : KeptRow). c.loop-index.rows.items ++ r ∷ []) (c.in_ok-row.ensures.row (get_or m.plans i d) at))
          c.loop-index.invariant.rows;
      readable = each-more (is_plan_in c.args.book.now) m.plans i d here c.loop-index.invariant.readable
          (c.in_ok-row.ensures.readable (get_or m.plans i d) at);
    }
