use Rattle.iterations.proofs.{Marked.same_events, Tails.goes_on, Tails.goes_further}
use Rattle.iterations.proofs.laws.runs_go_on_from_what_is_kept.Goals as goal

pub returns-clause-tail : goal.returns-clause-tail
returns-clause-tail c R first k within = goes_on R first k within

pub returns-clause-further : goal.returns-clause-further
returns-clause-further c R last first k within = goes_further R last first k within

pub returns-clause-again : goal.returns-clause-again
returns-clause-again c R k memories = same_events R k memories
