use Rattle.std.proofs.Common.{rules}
use Rattle.draws.proofs.Blocks.{at_place}
use Rattle.draws.proofs.streams.Draws.generator.Goals as goal

pub returns : goal.returns
returns c =
    at_place c.args.self.now c.args.place c.seed_bytes.result c.from_seed-generator.result c.set_stream.new.self c.set_word_pos.new.self
    (search rules) (search rules) (search rules) (search rules) (search rules) (search rules) (search rules)
