use Rattle.event_writer.proofs.Written.{none_seen}
use Rattle.written_day.proofs.writing.write_run.Goals as goal

pub returns-in_default : goal.returns-in_default
returns-in_default g c = none_seen _ _ _ _ _ _ _
