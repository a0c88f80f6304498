use Rattle.std.proofs.Common.{codes}
use Rattle.clap.specs.Words.{found_of}
use Rattle.command_line.proofs.Words.{flag_is}
use Rattle.command_line.proofs.given.stream_asked.Goals as goal

pub returns : goal.returns
returns c =
    flag_is (found_of c.args.matches.now) (codes "stream") c.get_flag.result c.requires.stream c.get_flag.ensures.none
    c.get_flag.ensures.value c.get_flag.ensures.other
