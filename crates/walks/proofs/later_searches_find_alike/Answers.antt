use Rattle.walks.proofs.Delayed.{delayed_labels, delayed_route}
use Rattle.walks.proofs.later_searches_find_alike.Goals as goal

pub returns-clause-labels : goal.returns-clause-labels
returns-clause-labels c nodes ends arrive from second alike = delayed_labels arrive alike second nodes ends from

pub returns-clause-routes : goal.returns-clause-routes
returns-clause-routes c nodes ends arrive from second to alike = delayed_route arrive alike second nodes ends from to
