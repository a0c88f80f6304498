use Rattle.iterations.{proofs.Seen.seen_fifo, proofs.Staying.always_in, proofs.Staying.followed_in, proofs.Staying.always_count, specs.Acts.memories_at}
use Rattle.iterations.proofs.laws.memories_stay_in_their_town.Goals as goal

pub returns-clause-memories : goal.returns-clause-memories
returns-clause-memories c R first k town learning all = always_in R town learning first all k

pub returns-clause-followed : goal.returns-clause-followed
returns-clause-followed c R first k town learning all = followed_in R.town (memories_at R first k) (always_in R town learning first all k)

pub returns-clause-everybody : goal.returns-clause-everybody
returns-clause-everybody c R first k = always_count R first k

pub returns-clause-fifo : goal.returns-clause-fifo
returns-clause-fifo c links events = seen_fifo links events
