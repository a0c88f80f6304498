use Rattle.std.proofs.{Common.None, lemmas.List.take-replicate}
use Rattle.plan_memory.proofs.memory.no_scores.Goals as goal

pub returns : goal.returns
returns c = rw (c.truncate.ensures.items, c.from_array_in-scores.ensures.items) (take-replicate c.args.count 6 None c.requires)
