use Rattle.scoring.specs.Tables.{scoring_rows}
use Rattle.event_writer.proofs.Written.{none_seen}
use Rattle.written_day.proofs.Days.{written_for}
use Rattle.written_day.proofs.writing.write_day.Goals as goal

pub returns-in_default : goal.returns-in_default
returns-in_default g c = none_seen _ _ _ _ _ _ _

pub write_as_asked-requires-clause-takes : goal.write_as_asked-requires-clause-takes
write_as_asked-requires-clause-takes g c κs within = c.in-Ok.ensures.takes (scoring_rows c.args.tables.now)

pub returns : goal.returns
returns g c = written_for _ _ _ _ _ _ _ _ _ _ _ _ c.in-Ok.ensures.kinds c.in-Ok.ensures.links c.write_as_asked.ensures
