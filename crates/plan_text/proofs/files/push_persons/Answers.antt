use Rattle.std.proofs.Common.{◌≡◌, ◌<◌, true, length, map, List, sym, ap, subst, ◌++◌, ◌∙◌, arith}
use Rattle.rows.specs.{PlanRows.plan_rows, declared.plan.Plan.Plan}
use Rattle.plan_text.{proofs.PlanFiles.persons-more, proofs.PlanFiles.person_at, specs.Lines.own_lines, specs.Lines.are_own_in}
use Rattle.plan_text.proofs.files.push_persons.Goals as goal

pub push_list-requires-clause-named : goal.push_list-requires-clause-named
push_list-requires-clause-named c =
    let here : c.loop-person.person < length c.args.plans.now = omega (arith, c.len-person-end.ensures.count, c.requires.persons, c.loop-person-test.true) in
    subst (λ (own : List Plan). are_own_in c.args.book.now (map plan_rows own) ≡ true) (sym c.index-plans-person.is)
    (person_at c.args.book.now c.args.plans.now c.loop-person.person c.index-plans-person.result c.requires.named here)

pub loop-person-preserved : goal.loop-person-preserved
loop-person-preserved c =
    let here : c.loop-person.person < length c.args.plans.now = omega (arith, c.len-person-end.ensures.count, c.requires.persons, c.loop-person-test.true) in
    persons-more c.args.book.now c.args.plans.now c.loop-person.person c.index-plans-person.result c.loop-person.text.items c.push_list.new.text.items _ here
    (c.in_ok-push_list.ensures ∙ ap (λ (own : List Plan). c.loop-person.text.items ++ own_lines c.args.book.now c.loop-person.person 0 (map plan_rows own)) c.index-plans-person.is)
    c.loop-person.invariant
