-- The effects that are left, after one more.
use Rattle.std.proofs.Common.{◌≡◌, ℕ, ◌+◌, ◌<◌, List, ◌++◌, length, drop, get_or, true, false, sym, ◌∙◌, ap, subst}
use Rattle.std.proofs.lemmas.{Bool.false_from_ne_true, List.drop_more, List.Folds.list_any_at}
use Rattle.edge_files.{proofs.Worlds.Performing, proofs.Worlds.performing_more, proofs.Worlds.performing_part, specs.Effects.steps_of, specs.Effects.all_steps}
use Rattle.edge_files.specs.{Effects.is_save, Effects.has_save, World.World, World.Step, World.Does, World.DoesPart, declared.effects.Effect.Effect}

module _ (effects : List Effect) (i : ℕ) (effect : Effect) (less : i < length effects) (is : effect ≡ get_or effects i effect) where
  module _ (a b c : World) (all one : List Step) (same : steps_of effect ≡ one) (so_far : Performing a b all (all_steps (drop i effects))) where
    next_effect : Performing a b all (one ++ all_steps (drop (i + 1) effects))
    next_effect = subst (λ (l : List Step). Performing a b all l)
        (ap all_steps (drop_more effects i effect less) ∙ ap (λ (e : Effect). steps_of e ++ all_steps (drop (i + 1) effects)) (sym is) ∙ ap (λ (l : List Step). l ++ all_steps (drop (i + 1) effects)) same) so_far

    pub one_more : Does b c one → Performing a c all (all_steps (drop (i + 1) effects))
    one_more does = performing_more a b c all one _ next_effect does

    pub one_in_part : DoesPart b c one → DoesPart a c all
    one_in_part part = performing_part a b c all one (all_steps (drop (i + 1) effects)) next_effect part

  pub no_save_here : has_save effects ≡ false → is_save effect ≡ false
  no_save_here none = false_from_ne_true (is_save effect) (λ save.
      let any : has_save effects ≡ true = list_any_at is_save effects i effect less (ap is_save (sym is) ∙ save) in
      let absurdity : true ≡ false = sym any ∙ none in cc)
