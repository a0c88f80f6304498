use Rattle.law_partitions.proofs.Setting.{lawful, alighting}
use Rattle.law_parcels.proofs.Hearing.{between, makes_ready}
use Rattle.law_parcels.proofs.parcels_make_ready.Goals as goal

pub returns-clause-ready : goal.returns-clause-ready
returns-clause-ready c = λ S own parts p t ns sound consistent shares hears.
    makes_ready S own parts p t (lawful S sound consistent) (alighting S sound consistent) shares ns hears

pub returns-clause-between : goal.returns-clause-between
returns-clause-between c = between
