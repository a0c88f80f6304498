use Rattle.std.proofs.Common.{not, sym, ap, ◌∙◌}
use Rattle.settings.proofs.{Objects.unknown_keys, UnknownKeys.first_of_three, UnknownKeys.second_of_three, UnknownKeys.third_of_three}
use Rattle.settings.specs.Keys.{is_key, has_unknown_key}
use Rattle.settings.proofs.names.has_unknown_key.Goals as goal

pub returns-then-not-are_keys : goal.returns-then-not-are_keys
unfolding has_unknown_key
returns-then-not-are_keys c =
    first_of_three _ _ _ (sym (unknown_keys is_key c.args.settings.now.entries) ∙ ap not (sym c.are_keys.ensures) ∙ ap not c.if-not-are_keys.true)

pub returns-then-has_unknown_mode_key : goal.returns-then-has_unknown_mode_key
unfolding has_unknown_key
returns-then-has_unknown_mode_key c =
    second_of_three _ _ _ (sym (unknown_keys is_key c.args.settings.now.entries) ∙ ap not (sym c.are_keys.ensures) ∙ ap not c.if-not-are_keys.false)
    (sym c.has_unknown_mode_key.ensures ∙ c.if-has_unknown_mode_key.true)

pub returns : goal.returns
unfolding has_unknown_key
returns c =
    third_of_three _ _ _ _ (sym (unknown_keys is_key c.args.settings.now.entries) ∙ ap not (sym c.are_keys.ensures) ∙ ap not c.if-not-are_keys.false)
    (sym c.has_unknown_mode_key.ensures ∙ c.if-has_unknown_mode_key.false) c.has_unknown_table_key.ensures
