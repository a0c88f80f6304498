use Rattle.written_day.proofs.writing.write_collected.Goals as goal

pub stream_collected-requires-clause-takes : goal.stream_collected-requires-clause-takes
stream_collected-requires-clause-takes g c κs within = c.requires.takes

pub returns : goal.returns
returns g c = c.stream_collected.ensures
