use Rattle.std.proofs.Common.{codes, arith}
use Rattle.std.specs.Str.Parse.{ParsesUnsigned, ExplainsUnsignedError, HasUnsignedDigitsIfOk}
use Rattle.clap.specs.Words.{found_of, without_minus}
use Rattle.workload.specs.declared.TheConstants.{LEAST_SIZE, MOST_SIZE}
use Rattle.command_line.proofs.Words.{number_within, the_number}
use Rattle.command_line.proofs.given.size_given.Goals as goal

pub returns : goal.returns
returns c =
    let text = without_minus c.requires.0 in
    let read = c.in-Some.ensures.value text c.requires.1 in
    record {
      number = the_number (found_of c.args.matches.now) (codes "SIZE") text c.in-Some.number c.requires.1 read.0.1;
      in_range = number_within (λ bs r. ParsesUnsigned 32 10 bs r × ExplainsUnsignedError 10 bs r × HasUnsignedDigitsIfOk bs r)
          LEAST_SIZE MOST_SIZE c.in-Some.number c.requires.0 read (λ u x g. g.0) (omega arith) c.requires.2;
    }
