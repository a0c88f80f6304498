use Rattle.law_sleeping.proofs.{Places.nodes_keep_places, Places.links_keep_places, Whole.second_places}
use Rattle.law_sleeping.proofs.seconds.places_stay_taken.Goals as goal

pub returns : goal.returns
returns c = assumption (second_places, nodes_keep_places, links_keep_places)
