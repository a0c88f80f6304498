use Rattle.law_partitions.proofs.Setting.{lawful, alighting}
use Rattle.law_last_parcels.proofs.Sent.{still_so}
use Rattle.law_last_parcels.proofs.last_parcels_are_still_so.Goals as goal

pub returns : goal.returns
returns c = λ S own parts p t sound consistent shares q s n before within.
    still_so S own parts p q s t sound (lawful S sound consistent) (alighting S sound consistent) shares n before within
