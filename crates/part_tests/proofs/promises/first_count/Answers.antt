use Rattle.std.proofs.Common.{◌∙◌, ap, arith, length, subst}
use Rattle.event_pipe.specs.{Pieces.label, Pipes.Gathers, declared.gathering.Gathered.Gathered}
use Rattle.part_tests.proofs.Firsts.{first_length}
use Rattle.part_tests.proofs.promises.first_count.Goals as goal

pub returns-in-Ok-Pieces : goal.returns-in-Ok-Pieces
returns-in-Ok-Pieces c =
    let h = subst (λ (x : Gathered). Gathers _ c.args.gather.now c.next.new.self x) c.in-Ok-Pieces.field-0-is
    c.in-Ok-Pieces.ensures.gathers in
    let one = c.requires.one in
    let many = h.1.count in
    first_length c.in-Ok-Pieces.lists.items c.index.result.now h.0 (label 0) 1 c.len.result c.index.ensures h.2 (omega (arith, one, many))
    (h.1.allowed 0 (label 0) (omega (arith, one)) ∙ ap length c.requires.label) c.len.ensures
