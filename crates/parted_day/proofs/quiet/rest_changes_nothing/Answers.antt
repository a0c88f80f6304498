use Rattle.parted_day.proofs.Resting.{rest_is_nothing}
use Rattle.parted_day.proofs.quiet.rest_changes_nothing.Goals as goal

pub returns : goal.returns
returns c = λ day owner p t slots A inbox given are in_day h heard none idle.
    rest_is_nothing day owner given p t slots are in_day A idle c.parcels_make_ready.ensures.ready c.parcels_make_ready.ensures.between
    c.own_worlds_go_on.ensures.takes_in c.own_worlds_go_on.ensures.lets_go inbox h heard none
