use Rattle.std.proofs.Common.{option_and_then, ap, ◌∙◌, rules}
use Rattle.settings.{proofs.Numbers.signed_kept, specs.Looking.signed}
use Rattle.settings.proofs.keys.given_signed.Goals as goal

pub returns-clause-key : goal.returns-clause-key
returns-clause-key c = (search rules, signed_kept _ _ _ _ c.signed_in-number.ensures.number c.if-is_none.ensures ∙ ap (option_and_then signed) c.in-Some.ensures)
