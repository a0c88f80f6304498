use Rattle.scoring.proofs.Taking.{none_taken}
use Rattle.scoring.proofs.scorer.Scorer.new.Goals as goal

pub returns-clause-stands : goal.returns-clause-stands
returns-clause-stands c = λ tables. none_taken tables c.args.first_kind
