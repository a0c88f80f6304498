use Rattle.written_day.proofs.Days.{takes_as, written_as}
use Rattle.written_day.proofs.writing.write_events.Goals as goal

pub stream_events-requires-clause-takes : goal.stream_events-requires-clause-takes
stream_events-requires-clause-takes g c = takes_as _ _ _ _ _ c.requires.rest c.requires.takes

pub returns : goal.returns
returns g c = written_as _ _ _ _ _ _ _ _ _ _ _ c.requires.rest c.stream_events.ensures
