use Rattle.law_partitions.proofs.Setting.{are_local}
use Rattle.law_last_parcels.proofs.Having.{has_them}
use Rattle.law_last_parcels.proofs.riders_are_listed.Goals as goal

pub returns : goal.returns
returns c = λ S own parts p t z sound consistent shares fit.
    has_them S own parts p t z sound (are_local S sound consistent own parts shares) fit
