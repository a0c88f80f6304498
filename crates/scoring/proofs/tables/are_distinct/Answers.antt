use Rattle.std.proofs.Common.{nat_eq, refl, sym, ◌∙◌}
use Rattle.scoring.{proofs.KindLemmas.key_again, proofs.KindLemmas.key_alone, specs.Limits.are_distinct, specs.Limits.kind_of}
use Rattle.scoring.proofs.tables.are_distinct.Goals as goal

pub returns-then-has_kind : goal.returns-then-has_kind
returns-then-has_kind c =
    sym (c.loop-place.invariant ∙ key_again kind_of nat_eq are_distinct (λ k ks. refl) c.args.tables.now c.loop-place.place _ c.loop-place-test.true
    (sym c.has_kind.ensures ∙ c.if-has_kind.true))

pub loop-place-preserved : goal.loop-place-preserved
loop-place-preserved c =
    c.loop-place.invariant ∙ key_alone kind_of nat_eq are_distinct (λ k ks. refl) c.args.tables.now c.loop-place.place _ c.loop-place-test.true
    (sym c.has_kind.ensures ∙ c.if-has_kind.false)
