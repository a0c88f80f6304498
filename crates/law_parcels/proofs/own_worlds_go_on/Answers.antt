use Rattle.law_partitions.proofs.Setting.{lawful, alighting, are_local}
use Rattle.law_own_worlds.proofs.Days.{follows}
use Rattle.law_parcels.proofs.{Going.lets_go, Hearing.makes_ready, Sending.sends, Taking.takes_in}
use Rattle.law_parcels.proofs.own_worlds_go_on.Goals as goal

pub returns-clause-takes_in : goal.returns-clause-takes_in
returns-clause-takes_in c = λ S own parts p t z ns sound consistent shares fit hears.
    let law = lawful S sound consistent in
    let arrivals = alighting S sound consistent in
    takes_in S own parts p t z law arrivals shares fit ns hears (makes_ready S own parts p t law arrivals shares ns hears)

pub returns-clause-lets_go : goal.returns-clause-lets_go
returns-clause-lets_go c = λ S own parts p t z sound consistent shares fit.
    let law = lawful S sound consistent in
    let arrivals = alighting S sound consistent in
    let local = are_local S sound consistent own parts shares in
    let day = follows S own parts p t z local fit in
    lets_go S own parts p t z law arrivals fit local day (sends S own p t z law arrivals fit day)
