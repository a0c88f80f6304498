use Rattle.std.proofs.Common.{◌∙◌}
use Rattle.event_writer.proofs.Written.{none_seen}
use Rattle.written_day.proofs.writing.write_as_asked.Goals as goal

pub write_events-requires-clause-rest : goal.write_events-requires-clause-rest
write_events-requires-clause-rest g c = c.new-source.ensures.rest ∙ c.in-Ok.ensures.events

pub returns-in_default : goal.returns-in_default
returns-in_default g c = none_seen _ _ _ _ _ _ _

pub returns-in_default-share : goal.returns-in_default-share
returns-in_default-share g c = none_seen _ _ _ _ _ _ _
