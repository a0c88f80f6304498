use Rattle.walks.proofs.Least.{least_or_none, least_start, least_kept}
use Rattle.walks.proofs.rounds_find_the_least.Goals as goal

pub returns-clause-least : goal.returns-clause-least
returns-clause-least c nodes ends arrive from second fifo inside within to =
    least_or_none nodes ends arrive fifo inside from second within to

pub returns-clause-start : goal.returns-clause-start
returns-clause-start c nodes ends arrive from second fifo inside within = least_start nodes ends arrive fifo inside from second within

pub returns-clause-kept : goal.returns-clause-kept
returns-clause-kept c nodes ends arrive from second fifo inside within link is_link =
    least_kept nodes ends arrive fifo inside from second within link is_link
