use Rattle.law_generated.proofs.{Settings.settings_pass, Signals.signals_pass}
use Rattle.law_generated.proofs.settings_are_valid.Goals as goal

pub returns-clause-settings : goal.returns-clause-settings
returns-clause-settings c = λ size seed last is fits. settings_pass seed last fits is.last

pub returns-clause-signals : goal.returns-clause-signals
returns-clause-signals c = signals_pass
