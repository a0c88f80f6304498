use Rattle.law_sleeping.proofs.{Credits.raises, Credits.pays_after, Credits.pays_by, Credits.never_pays, Sleep.poor_until, Sleep.poor_ever}
use Rattle.law_sleeping.proofs.links.credit_comes_at_once.Goals as goal

pub returns-clause-many : goal.returns-clause-many
returns-clause-many c = raises

pub returns-clause-first : goal.returns-clause-first
returns-clause-first c = λ gain credit k h. (pays_after gain credit k h, pays_by gain credit k h)

pub returns-clause-never : goal.returns-clause-never
returns-clause-never c = never_pays

pub returns-clause-poor : goal.returns-clause-poor
returns-clause-poor c = poor_until

pub returns-clause-poor_ever : goal.returns-clause-poor_ever
returns-clause-poor_ever c = poor_ever
