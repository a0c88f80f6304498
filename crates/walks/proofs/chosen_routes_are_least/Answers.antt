use Rattle.walks.proofs.Followed.{chosen_is_least}
use Rattle.walks.proofs.chosen_routes_are_least.Goals as goal

pub returns : goal.returns
returns c nodes ends arrive from second to at fifo inside within is =
    chosen_is_least nodes ends arrive fifo inside from second within to at is
