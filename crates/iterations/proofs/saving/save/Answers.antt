use Rattle.town.specs.Views.{rows_of}
use Rattle.iterations.proofs.{Named.memories_named, Outside.none_done, ScoredDays.town_names}
use Rattle.iterations.proofs.saving.save.Goals as goal

pub rows_of-requires-clause-named : goal.rows_of-requires-clause-named
rows_of-requires-clause-named g c =
    memories_named (rows_of c.args.run.now.town.now) c.args.memories.now (town_names c.args.run.now.town.now) c.requires.fit

pub returns-in_default-clause-performed : goal.returns-in_default-clause-performed
returns-in_default-clause-performed g c = none_done _ _
