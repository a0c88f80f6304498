use Rattle.std.proofs.Common.{bytes_eq, refl, sym, ◌∙◌}
use Rattle.events.specs.Names.{are_distinct}
use Rattle.scoring.proofs.KindLemmas.{key_again, key_alone}
use Rattle.settings.specs.NamedTables.{kind_name}
use Rattle.settings.proofs.named_tables.are_distinct.Goals as goal

pub returns-then-has_kind : goal.returns-then-has_kind
returns-then-has_kind c =
    sym (c.loop-place.invariant ∙ key_again kind_name bytes_eq are_distinct (λ k ks. refl) c.args.tables.now c.loop-place.place _ c.loop-place-test.true
    (sym c.has_kind.ensures ∙ c.if-has_kind.true))

pub loop-place-preserved : goal.loop-place-preserved
loop-place-preserved c =
    c.loop-place.invariant ∙ key_alone kind_name bytes_eq are_distinct (λ k ks. refl) c.args.tables.now c.loop-place.place _ c.loop-place-test.true
    (sym c.has_kind.ensures ∙ c.if-has_kind.false)
