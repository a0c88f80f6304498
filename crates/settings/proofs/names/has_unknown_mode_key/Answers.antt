use Rattle.std.proofs.Common.{not, ap, ◌∙◌}
use Rattle.settings.proofs.UnknownKeys.{no_modes, no_object, modes_are, first_of_two, second_of_two}
use Rattle.settings.proofs.names.has_unknown_mode_key.Goals as goal

pub returns-in_default : goal.returns-in_default
returns-in_default c = no_modes _ c.in_default.ensures

pub returns-then-not-are_mode_names : goal.returns-then-not-are_mode_names
returns-then-not-are_mode_names c =
    first_of_two _ _ c.are_mode_names.result (ap not c.if-not-are_mode_names.true) c.are_mode_names.ensures
    ∙ modes_are _ _ c.in-Some-as_object.modes.now.entries c.in-Some.ensures c.in-Some-as_object.ensures

pub returns-else-not-are_mode_names : goal.returns-else-not-are_mode_names
returns-else-not-are_mode_names c =
    second_of_two _ _ c.are_mode_names.result c.have_mode_keys.result (ap not c.if-not-are_mode_names.false) c.are_mode_names.ensures c.have_mode_keys.ensures
    ∙ modes_are _ _ c.in-Some-as_object.modes.now.entries c.in-Some.ensures c.in-Some-as_object.ensures

pub returns-in-None : goal.returns-in-None
returns-in-None c = no_object _ _ c.in-Some.ensures c.in-None.ensures
