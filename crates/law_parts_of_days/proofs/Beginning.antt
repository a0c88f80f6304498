-- The first world of a day, and how many nodes, links and stops its setup has.
use Rattle.traffic.proofs.Common.{◌≡◌, refl, length, Setup, world_start, world_from, world_at}
use Rattle.town.specs.{Setups.setup_of, Views.setup, declared.day_input.DayInput.DayInput}

-- the day begins with its first world
pub begins_with : (S : Setup) → world_start S ≡ world_at S 0
unfolding world_from
begins_with S = refl

pub nodes_of : (day : DayInput) → (setup day).nodes ≡ length day.town.now.network.nodes
unfolding setup_of
nodes_of day = refl

pub links_of : (day : DayInput) → length (setup day).links ≡ length day.town.now.network.links
unfolding setup_of
links_of day = refl

pub stops_of : (day : DayInput) → length (setup day).stops ≡ length day.town.now.stops.rows
unfolding setup_of
stops_of day = refl

pub dwell_of : (day : DayInput) → (setup day).settings.dwell ≡ day.town.now.settings.dwell
unfolding setup_of
dwell_of day = refl
