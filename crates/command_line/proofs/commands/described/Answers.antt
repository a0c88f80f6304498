use Rattle.std.proofs.Common.{refl, rules}
use Rattle.command_line.proofs.commands.described.Goals as goal

pub returns-clause-bare : goal.returns-clause-bare
returns-clause-bare c = record {
  args = search rules;
  groups = search rules;
  globals = rw (c.after_help.ensures, c.about.ensures, c.override_usage.ensures, c.new.ensures.local) refl;
  negates = rw (c.after_help.ensures, c.about.ensures, c.override_usage.ensures, c.new.ensures.negates) refl;
}
