use Rattle.law_partitions.proofs.Setting.{lawful, are_local}
use Rattle.law_own_worlds.proofs.Days.{own_second}
use Rattle.law_own_seconds.proofs.Others.{others_empty}
use Rattle.law_own_seconds.proofs.other_links_are_empty.Goals as goal

pub returns : goal.returns
returns c = λ S own parts p t z sound consistent shares fit.
    others_empty S own p t z (lawful S sound consistent) fit
    (own_second S own parts p t z (are_local S sound consistent own parts shares) fit)
