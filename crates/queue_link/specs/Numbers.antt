-- The numbers of a link, and their ranges.
use Rattle.std.specs.Prelude.{ℕ, ◌≤◌}
use Rattle.limits.specs.declared.TheConstants.{MAX_CAPACITY, MAX_LENGTH}
use Rattle.fixed_flow.specs.{Link.free_seconds, Link.credit_per_second, Link.storage, Link.buffer_room, declared.TheConstants.MAX_PER_SECOND}
use Rattle.rows.specs.declared.{network.LinkRow.LinkRow, settings.Dwelling.Dwelling, settings.TrafficSettings.TrafficSettings}
use Rattle.traffic.specs.declared.numbers.Rules.{Rules}
use Rattle.queue_link.specs.declared.numbers.LinkNumbers.{LinkNumbers}

-- the numbers of a link by its row and the settings of traffic
unfoldable pub numbers_of : ℕ → LinkRow → TrafficSettings → LinkNumbers
numbers_of l row s =
    let seconds = free_seconds row.length row.speed in
    let gain = credit_per_second row.capacity s.flow_permille in
    record {
      link = l;
      seconds = seconds;
      storage = storage row.length row.lanes s.storage_permille seconds gain;
      room = buffer_room gain;
      gain = gain;
      capacity = row.capacity;
    }

-- numbers of links are in these ranges
pub record AreNumbers (n : LinkNumbers) : Type 0 where
  pub seconds : n.seconds ≤ MAX_LENGTH
  pub gain : n.gain ≤ MAX_PER_SECOND
  pub some_capacity : 1 ≤ n.capacity
  pub most_capacity : n.capacity ≤ MAX_CAPACITY

-- the rules by which a link of these numbers moves its vehicles
abbrev pub rules_of : LinkNumbers → Dwelling → Rules
rules_of n dwell = record { room = n.room; gain = n.gain; dwell = dwell }

-- dwell times, where no vehicle is served
abbrev pub no_dwelling : Dwelling
no_dwelling = record { per_stop = 0; per_alight = 0; per_board = 0 }
