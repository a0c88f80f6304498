use Rattle.part_seconds.proofs.Filling.{filled_count, filled, gone_both}
use Rattle.part_seconds.proofs.leaving.fill.Goals as goal

pub returns-clause-count : goal.returns-clause-count
returns-clause-count c =
    filled_count _ _ _ _ _ _ _ c.in_ok-fill_vehicles.ensures.parcels c.in_ok-fill_teleported.ensures.parcels c.in_ok-send_all_freed.ensures

pub returns-clause-each : goal.returns-clause-each
returns-clause-each c = λ k lt.
    filled _ _ _ _ _ _ _ c.requires.none c.in_ok-fill_vehicles.ensures.parcels c.in_ok-fill_teleported.ensures.parcels
    c.in_ok-send_all_freed.ensures k lt

pub returns-clause-gone : goal.returns-clause-gone
returns-clause-gone c =
    gone_both c.args.gone.now.items _ _ _ _ c.requires.empty c.in_ok-fill_vehicles.ensures.gone c.in_ok-fill_teleported.ensures.gone
