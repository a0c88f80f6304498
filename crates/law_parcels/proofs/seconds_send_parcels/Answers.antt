use Rattle.law_partitions.proofs.Setting.{lawful, alighting, are_local}
use Rattle.law_own_worlds.proofs.Days.{follows}
use Rattle.law_parcels.proofs.Sending.{sends}
use Rattle.law_parcels.proofs.seconds_send_parcels.Goals as goal

pub returns : goal.returns
returns c = λ S own parts p t z sound consistent shares fit.
    sends S own p t z (lawful S sound consistent) (alighting S sound consistent) fit
    (follows S own parts p t z (are_local S sound consistent own parts shares) fit)
