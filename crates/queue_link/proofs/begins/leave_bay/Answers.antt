use Rattle.std.proofs.Common.{◌≡◌, List, ◌++◌, ◌∷◌, [], true, ap, sym, ◌∙◌}
use Rattle.std.{proofs.lemmas.Bool.le-leb, proofs.lemmas.List.flat_map_more, specs.List.flat_map, specs.Prelude.map, specs.Prelude.filter}
use Rattle.traffic.specs.{Links.waiting, Telling.goes_on, declared.world.Row.Row}
use Rattle.queue_link.{proofs.Bays.due_more, proofs.Bays.left_same, proofs.Bays.waits_more, specs.Turns.is_due}
use Rattle.queue_link.proofs.begins.leave_bay.Goals as goal

pub loop-row-preserved-in-Continue-branch-2 : goal.loop-row-preserved-in-Continue-branch-2
loop-row-preserved-in-Continue-branch-2 c =
    let t = c.args.second in
    let rows = c.loop-row.yielded in
    let r = c.in-Some.row in
    let d : is_due t r ≡ true = le-leb r.second t c.if-row-second.true in
    let more = due_more t rows r d in
    let i = c.loop-row.invariant in
    record {
      left = i.left ∙ sym (left_same t rows r d);
      wait =
          c.in_ok-push_back.ensures.items ∙ ap (λ (xs : List Row). xs ++ c.waiting.result ∷ []) i.wait
          ∙ ap (λ (x : Row). (c.args.wait.now.items ++ map (waiting c.args.link) (filter (is_due t) rows)) ++ x ∷ []) c.waiting.ensures
          ∙ waits_more c.args.link c.args.wait.now.items (filter (is_due t) rows) r
          ∙ ap (λ (xs : List Row). c.args.wait.now.items ++ map (waiting c.args.link) xs) (sym more);
      told =
          c.in_ok-push_goes_on.ensures ∙ ap (λ xs. xs ++ goes_on r) i.told
          ∙ flat_map_more goes_on c.args.said.now.items (filter (is_due t) rows) r
          ∙ ap (λ (xs : List Row). c.args.said.now.items ++ flat_map goes_on xs) (sym more);
    }
