use Rattle.law_joined_routes.proofs.Routes.{town_goes_on}
use Rattle.law_joined_routes.proofs.vehicles_go_on.Goals as goal

pub returns : goal.returns
returns c = town_goes_on
