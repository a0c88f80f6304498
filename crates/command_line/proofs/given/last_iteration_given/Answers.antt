use Rattle.std.proofs.Common.{codes, arith}
use Rattle.std.specs.Str.Parse.{ParsesUnsigned, ExplainsUnsignedError, HasUnsignedDigitsIfOk}
use Rattle.clap.specs.Words.{found_of}
use Rattle.learning.specs.declared.TheConstants.{LAST_ITERATION}
use Rattle.command_line.{proofs.Words.option_given, proofs.Words.the_default, specs.declared.TheConstants.DEFAULT_LAST_ITERATION}
use Rattle.command_line.proofs.given.last_iteration_given.Goals as goal

pub returns-in_default-clause-number : goal.returns-in_default-clause-number
returns-in_default-clause-number c =
    the_default (λ bs r. ParsesUnsigned 32 10 bs r × ExplainsUnsignedError 10 bs r × HasUnsignedDigitsIfOk bs r) (λ u x g. g.0)
    (found_of c.args.matches.now) (codes "last-iteration") 0 LAST_ITERATION (omega arith) c.requires c.get_one.result c.in_default.is
    c.get_one.ensures.value DEFAULT_LAST_ITERATION

pub returns : goal.returns
returns c =
    let given = option_given (λ bs r. ParsesUnsigned 32 10 bs r × ExplainsUnsignedError 10 bs r × HasUnsignedDigitsIfOk bs r) (λ u x g. g.0)
    (found_of c.args.matches.now) (codes "last-iteration") 0 LAST_ITERATION (omega arith) c.requires c.in-Some.number DEFAULT_LAST_ITERATION
    c.in-Some.ensures.none c.in-Some.ensures.value in
    record { number = given.0; in_range = given.1.1 }
