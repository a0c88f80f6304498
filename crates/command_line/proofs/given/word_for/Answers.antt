use Rattle.std.proofs.Common.{◌∙◌}
use Rattle.clap.specs.Words.{found_of}
use Rattle.command_line.proofs.Words.{no_word, the_word}
use Rattle.command_line.proofs.given.word_for.Goals as goal

pub returns-in_default : goal.returns-in_default
returns-in_default c =
    c.new.ensures ∙ no_word (found_of c.args.matches.now) c.args.id.now c.get_str.result c.get_str.ensures c.in_default.is

pub returns : goal.returns
returns c = the_word (found_of c.args.matches.now) c.args.id.now c.get_str.result c.in-Some.word c.in_ok-rows.rows.items c.get_str.ensures
    c.in-Some.is (c.in_ok-rows.ensures.items ∙ c.as_bytes.ensures.value)
