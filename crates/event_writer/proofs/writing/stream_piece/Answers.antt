use Rattle.event_writer.proofs.Written.{none_written}
use Rattle.event_writer.proofs.writing.stream_piece.Goals as goal

pub returns-in_default-clause-written : goal.returns-in_default-clause-written
returns-in_default-clause-written g c = none_written _ _ _
