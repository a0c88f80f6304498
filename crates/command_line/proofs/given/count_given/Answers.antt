use Rattle.std.{proofs.Common.arith, specs.Str.Parse.ParsesUnsigned, specs.Str.Parse.ExplainsUnsignedError, specs.Str.Parse.HasUnsignedDigitsIfOk}
use Rattle.clap.specs.Words.{found_of}
use Rattle.limits.specs.declared.TheConstants.{MAX_PARTITIONS}
use Rattle.command_line.proofs.Words.{option_given, the_default}
use Rattle.command_line.proofs.given.count_given.Goals as goal

pub returns-in_default-clause-number : goal.returns-in_default-clause-number
returns-in_default-clause-number c =
    the_default (λ bs r. ParsesUnsigned 32 10 bs r × ExplainsUnsignedError 10 bs r × HasUnsignedDigitsIfOk bs r) (λ u x g. g.0)
    (found_of c.args.matches.now) c.args.id.now 1 MAX_PARTITIONS (omega arith) c.requires.given c.get_one.result c.in_default.is
    c.get_one.ensures.value c.args.default

pub returns : goal.returns
returns c =
    let given = option_given (λ bs r. ParsesUnsigned 32 10 bs r × ExplainsUnsignedError 10 bs r × HasUnsignedDigitsIfOk bs r) (λ u x g. g.0)
    (found_of c.args.matches.now) c.args.id.now 1 MAX_PARTITIONS (omega arith) c.requires.given c.in-Some.number c.args.default
    c.in-Some.ensures.none c.in-Some.ensures.value in
    record { number = given.0; in_range = given.1 }
