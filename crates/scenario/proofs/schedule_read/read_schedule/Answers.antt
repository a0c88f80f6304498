use Rattle.scenario.proofs.{Common.texts_of, FreeSchedules.schedule_told}
use Rattle.scenario.proofs.schedule_read.read_schedule.Goals as goal

pub returns-clause-fitting : goal.returns-clause-fitting
returns-clause-fitting c = schedule_told c.args.links.now c.args.ends.now (texts_of c.args.files.now) c.schedule_in.result c.schedule_in.ensures
