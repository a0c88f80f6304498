use Rattle.law_partitions.proofs.Setting.{lawful, are_local}
use Rattle.law_own_worlds.proofs.Days.{own_second}
use Rattle.law_own_seconds.proofs.Places.{places_known}
use Rattle.law_own_seconds.proofs.own_places_are_known.Goals as goal

pub returns : goal.returns
returns c = λ S own parts p t z sound consistent shares fit.
    places_known S own p t z (lawful S sound consistent) fit
    (own_second S own parts p t z (are_local S sound consistent own parts shares) fit)
