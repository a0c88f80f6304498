use Rattle.std.proofs.Common.{◌≤◌, ◌<◌, ◌++◌, List, ℕ, get_or, length, ℤ, pos, FitsSigned, w64, ap, ◌∙◌, arith, rules}
use Rattle.day_scores.specs.Texts.{score_line, scores_text}
use Rattle.day_scores.proofs.LinesWritten.{lines-more, lines-all, fits-code}
use Rattle.day_scores.proofs.texts.scores_text.Goals as goal

pub loop-person-preserved : goal.loop-person-preserved
loop-person-preserved c =
    let i = c.loop-person.person in
    let here : i < length c.args.persons.now = omega (arith, c.len-person-end.ensures.count, c.loop-person-test.true) in
    let z = get_or c.args.scores.now i (pos 0) in
    let fits : FitsSigned w64 z = search rules in
    lines-more c.args.iteration c.args.persons.now c.args.chosen.now c.args.scores.now i c.loop-person.text.items c.push_line.new.text.items _ here
    c.requires.each_plan c.requires.each_score
    (c.in_ok-push_line.ensures
    ∙ ap (λ (y : ℤ). c.loop-person.text.items ++ score_line c.args.iteration c.get.result.now (get_or c.args.chosen.now i 0) y) (fits-code z fits)
    ∙ ap (λ (p : List ℕ). c.loop-person.text.items ++ score_line c.args.iteration p (get_or c.args.chosen.now i 0) z) c.get.ensures)
    c.loop-person.invariant

pub returns : goal.returns
unfolding scores_text
returns c =
    let done : length c.args.persons.now ≤ c.loop-person.person = omega (arith, c.len-person-end.ensures.count, c.loop-person-test.false) in
    lines-all c.args.iteration c.args.persons.now c.args.chosen.now c.args.scores.now c.loop-person.person c.loop-person.text.items _ done c.loop-person.invariant
