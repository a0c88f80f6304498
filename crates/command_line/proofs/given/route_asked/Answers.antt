use Rattle.std.proofs.Common.{codes, arith}
use Rattle.std.specs.Str.Parse.{ParsesUnsigned, ExplainsUnsignedError, HasUnsignedDigitsIfOk}
use Rattle.clap.specs.Words.{found_of, without_minus}
use Rattle.limits.specs.declared.TheConstants.{LAST_SECOND}
use Rattle.command_line.proofs.Words.{number_within, the_number, route_with}
use Rattle.command_line.proofs.given.route_asked.Goals as goal

pub returns-clause-command : goal.returns-clause-command
returns-clause-command c =
    let found = found_of c.args.matches.now in
    let text = without_minus c.requires.0 in
    let read = c.in-Some.ensures.value text c.requires.1 in
    route_with _ _ _ _ _ _ c.in_ok-from.ensures c.in_ok-to.ensures
    (the_number found (codes "SECOND") text c.in-Some.second c.requires.1 read.0.1)

pub returns-clause-in_range : goal.returns-clause-in_range
returns-clause-in_range c =
    let read = c.in-Some.ensures.value (without_minus c.requires.0) c.requires.1 in
    (number_within (λ bs r. ParsesUnsigned 32 10 bs r × ExplainsUnsignedError 10 bs r × HasUnsignedDigitsIfOk bs r)
    0 LAST_SECOND c.in-Some.second c.requires.0 read (λ u x g. g.0) (omega arith) c.requires.2).1
