use Rattle.law_partitions.proofs.Setting.{lawful, are_local}
use Rattle.law_own_worlds.proofs.{Days.own_second, Days.follows, Standing.stands}
use Rattle.law_own_worlds.proofs.own_worlds_follow_the_day.Goals as goal

pub returns-clause-follows : goal.returns-clause-follows
returns-clause-follows c = λ S own parts p t z sound consistent shares fit.
    follows S own parts p t z (are_local S sound consistent own parts shares) fit

pub returns-clause-stands : goal.returns-clause-stands
returns-clause-stands c = λ S own parts p t z sound consistent shares fit.
    stands S own parts p t z (lawful S sound consistent) fit
    (own_second S own parts p t z (are_local S sound consistent own parts shares) fit)
