use Rattle.std.proofs.Common.{ℕ, List, map, ◌++◌, sym, ap, ◌∙◌, refl, arith}
use Rattle.plan_text.specs.Lines.{persons_lines, plans_text}
use Rattle.town.specs.Views.{rows_of}
use Rattle.iterations.proofs.Outside.{none_done, text_then, going_first, going_over, going_text, going_text_failed}
use Rattle.iterations.{proofs.PlanLines.persons_behind, proofs.PlanLines.persons_over, proofs.PlanLines.fit_after, specs.Written.written_plans}
use Rattle.iterations.proofs.ends.write_plans.Goals as goal

pub returns-in_default-clause-performed : goal.returns-in_default-clause-performed
returns-in_default-clause-performed g c = none_done _ _

pub loop-rest-init : goal.loop-rest-init
loop-rest-init g c = record {
  going = going_first _ _ _ refl;
  count = omega arith;
  fit = c.requires.fit;
  keeper = refl;
}

pub loop-rest-preserved : goal.loop-rest-preserved
loop-rest-preserved g c = record {
  going = going_text _ _ _ _ _ _ _ _ _
      (persons_behind c.args.town.now.book c.loop-rest.first c.min-count.result _ c.loop-rest.rest.now _ _ (omega (arith, c.min-count.ensures))
      c.split_at.ensures.front c.split_at.ensures.back refl)
      c.loop-rest.invariant.going c.in-Ok-write_some_plans.ensures.performed;
  count = omega (arith, c.min-count.ensures, c.split_at.ensures.back_len, c.loop-rest.invariant.count);
  fit = fit_after (rows_of c.args.town.now) c.min-count.result _ _ c.split_at.ensures.back c.loop-rest.invariant.fit;
  keeper = c.in-Ok-write_some_plans.ensures.keeper ∙ c.loop-rest.invariant.keeper;
}

pub returns-in-Err-write_some_plans-clause-performed : goal.returns-in-Err-write_some_plans-clause-performed
unfolding plans_text
returns-in-Err-write_some_plans-clause-performed g c =
    text_then _ _ _ _ _ _ _ _ _
    (ap (λ (l : List ℕ). l ++ persons_lines c.args.town.now.book 0 (map written_plans c.args.memories.now)) (sym c.in-Ok.ensures))
    c.in-Ok-write.ensures.performed
    (going_text_failed _ _ _ _ _ _ _ _ _
    (persons_behind c.args.town.now.book c.loop-rest.first c.min-count.result _ c.loop-rest.rest.now _ _ (omega (arith, c.min-count.ensures))
    c.split_at.ensures.front c.split_at.ensures.back refl)
    c.loop-rest.invariant.going c.in-Err-write_some_plans.ensures.performed)

pub returns-clause-performed : goal.returns-clause-performed
unfolding plans_text
returns-clause-performed g c =
    text_then _ _ _ _ _ _ _ _ _
    (ap (λ (l : List ℕ). l ++ persons_lines c.args.town.now.book 0 (map written_plans c.args.memories.now)) (sym c.in-Ok.ensures))
    c.in-Ok-write.ensures.performed
    (going_over _ _ _ _ _ _
    (persons_over c.args.town.now.book c.loop-rest.first c.loop-rest.rest.now c.is_empty.result c.is_empty.ensures c.loop-rest-test.false)
    c.loop-rest.invariant.going)
