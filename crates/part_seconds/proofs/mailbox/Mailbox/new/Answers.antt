use Rattle.std.proofs.{Common.◌∙◌, Common.ℕ, Common.List, Common.sym, Common.ap, Common.arith, Common.get_or, Common.length, lemmas.List.length-replicate, lemmas.Bool.true≢false}
use Rattle.part_seconds.{proofs.Lists.same_at, specs.Parcels.nothing, specs.declared.contents.Contents.Contents}
use Rattle.part_seconds.proofs.mailbox.Mailbox.new.Goals as goal

pub invariant_of-result : goal.invariant_of-result
invariant_of-result c =
    let none = λ (k : ℕ). ap (λ (xs : List Contents). get_or xs k nothing) c.in_ok-parcels.ensures ∙ same_at nothing c.args.count k in
    let many = ap (λ (xs : List Contents). length xs) c.in_ok-parcels.ensures ∙ length-replicate c.args.count nothing in
    let few = c.requires in
    record { few = omega arith; there = λ k e. absurd (true≢false (sym e ∙ c.new.ensures k)); each = λ k _. none k }
