use Rattle.std.proofs.Common.{ℕ, List, ◌++◌, sym, ◌∙◌, ap, string_bytes, append_assoc}
use Rattle.std.specs.List.{flat_map, range_with_len}
use Rattle.workload.proofs.Lines.{more_pieces}
use Rattle.workload.specs.{Rows.person_rows, Texts.lines_of, Texts.person_lines, declared.commuters.Commuter.Commuter}
use Rattle.workload.proofs.persons.push_persons.Goals as goal

pub loop-person-preserved : goal.loop-person-preserved
loop-person-preserved c =
    let person = c.loop-person.person in
    let piece : ℕ → List ℕ = person_lines c.args.size c.args.links.now c.args.seed in
    let before = string_bytes c.args.text.now in
    let front : List ℕ = flat_map piece (range_with_len 0 person) in
    c.in_ok-push_person.ensures
    ∙ ap (λ (t : List ℕ). t ++ lines_of (person_rows c.args.size person c.commuter_of.result)) c.loop-person.invariant
    ∙ ap (λ (w : Commuter). (before ++ front) ++ lines_of (person_rows c.args.size person w)) c.commuter_of.ensures.person
    ∙ append_assoc before front (piece person)
    ∙ ap (λ (t : List ℕ). before ++ t) (sym (more_pieces piece person))
