use Rattle.std.proofs.Common.{refl}
use Rattle.command_line.proofs.reading.read_run.Goals as goal

pub read_simulation-requires-clause-work : goal.read_simulation-requires-clause-work
read_simulation-requires-clause-work c = λ rows. refl
