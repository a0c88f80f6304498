use Rattle.std.proofs.Common.{length}
use Rattle.replanning.proofs.Kept.{on_reduced}
use Rattle.replanning.proofs.persons.replan_person.Goals as goal

pub by_strategy-requires-clause-on : goal.by_strategy-requires-clause-on
by_strategy-requires-clause-on c =
    rw c.drop_worst.ensures.reduced
    (on_reduced (length c.args.replanning.now.adjacency.now.ends) c.args.replanning.now.learning.memory_size c.args.memory c.requires.on)
