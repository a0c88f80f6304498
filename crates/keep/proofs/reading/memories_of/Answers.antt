use Rattle.town.specs.Views.{rows_of}
use Rattle.keep.proofs.Answered.{again_of, count_of, named_of}
use Rattle.keep.proofs.reading.memories_of.Goals as goal

pub returns-clause-again : goal.returns-clause-again
returns-clause-again c = again_of (rows_of c.args.town.now) c.args.rows.now _ c.read_rows.ensures

pub returns-clause-persons : goal.returns-clause-persons
returns-clause-persons c = count_of (rows_of c.args.town.now) c.args.rows.now _ c.read_rows.ensures

pub returns-clause-named : goal.returns-clause-named
returns-clause-named c = named_of (rows_of c.args.town.now) c.args.rows.now _ c.read_rows.ensures
