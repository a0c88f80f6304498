use Rattle.std.proofs.Common.{not, unwrap_or, ap, ◌∙◌}
use Rattle.serde_json.specs.Data.{no_members}
use Rattle.settings.{proofs.Objects.known_keys, specs.Looking.has_other_key, specs.Modes.is_mode_key}
use Rattle.settings.proofs.names.has_mode_keys.Goals as goal

pub returns-in-Some : goal.returns-in-Some
returns-in-Some c =
    c.are_mode_keys.ensures ∙ known_keys is_mode_key c.in-Some.mode.now.entries
    ∙ ap (λ o. not (has_other_key is_mode_key (unwrap_or o no_members))) c.in-Some.ensures
