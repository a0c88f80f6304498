use Rattle.std.proofs.Common.{refl}
use Rattle.walks.specs.{Chosen.link_before, Chosen.followed, Rounds.start_labels, Rounds.relabelled, Rounds.labels_after}
use Rattle.walks.proofs.worked_routes.Goals as goal

pub returns-clause-labels : goal.returns-clause-labels
unfolding start_labels relabelled labels_after
returns-clause-labels c = refl

pub returns-clause-tie : goal.returns-clause-tie
unfolding start_labels relabelled labels_after link_before followed
returns-clause-tie c = refl

pub returns-clause-no_way : goal.returns-clause-no_way
unfolding start_labels relabelled labels_after
returns-clause-no_way c = refl

pub returns-clause-slower : goal.returns-clause-slower
unfolding start_labels relabelled labels_after
returns-clause-slower c = refl

pub returns-clause-faster : goal.returns-clause-faster
unfolding start_labels relabelled labels_after
returns-clause-faster c = refl

pub returns-clause-way_back : goal.returns-clause-way_back
unfolding start_labels relabelled labels_after link_before followed
returns-clause-way_back c = refl
