use Rattle.std.proofs.Common.{refl}
use Rattle.scoring.specs.{Points.value, Score.starts, Score.departures, Score.act_ends, Score.leg_ends, Score.stuck_in, Score.total, Score.score}
use Rattle.scoring.specs.Tables.{activity_worth, leg_worth, seconds_late}
use Rattle.scoring.proofs.laws.worked_scores.Goals as goal

pub returns-clause-climbing : goal.returns-clause-climbing
unfolding value
returns-clause-climbing c = refl

pub returns-clause-falling : goal.returns-clause-falling
unfolding value
returns-clause-falling c = refl

pub returns-clause-without_tables : goal.returns-clause-without_tables
unfolding value activity_worth leg_worth seconds_late starts departures act_ends leg_ends stuck_in total score
returns-clause-without_tables c = refl

pub returns-clause-with_tables : goal.returns-clause-with_tables
unfolding value activity_worth leg_worth seconds_late starts departures act_ends leg_ends stuck_in total score
returns-clause-with_tables c = refl

pub returns-clause-late : goal.returns-clause-late
unfolding value activity_worth leg_worth seconds_late starts departures act_ends leg_ends stuck_in total score
returns-clause-late c = refl
