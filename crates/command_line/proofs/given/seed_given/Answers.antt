use Rattle.std.proofs.Common.{codes}
use Rattle.clap.specs.Words.{found_of}
use Rattle.command_line.proofs.Words.{the_number}
use Rattle.command_line.proofs.given.seed_given.Goals as goal

pub returns : goal.returns
returns c = the_number (found_of c.args.matches.now) (codes "SEED") c.requires.0 c.in-Some.number c.requires.1
    (c.in-Some.ensures.value c.requires.0 c.requires.1).0.1
