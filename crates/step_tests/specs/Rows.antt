-- Partitions in a row.
use Rattle.std.specs.Option.{option_to_list}
use Rattle.std.specs.Prelude.{ℕ, ◌+◌, ◌-◌, ◌*◌, ◌%◌, ◌≤◌, Bool, List, ◌++◌, Option, Some, None, ◌==◌, ◌&&◌, nat_lt, if◌then◌else◌}
use Rattle.limits.specs.declared.TheConstants.{MAX_PARTITIONS, MAX_LAG, LAST_SECOND}
use Rattle.step_core.specs.{Nets.Net, declared.part.Border.Border}

pub record IsRow (count longest end : ℕ) : Type 0 where
  pub few : count ≤ MAX_PARTITIONS
  pub some : 1 ≤ longest
  pub most : longest ≤ MAX_LAG
  pub short : end ≤ LAST_SECOND

-- they stand side by side, and both are there
abbrev pub near_in : ℕ → ℕ → ℕ → Bool
near_in count q p = ((q - p) + (p - q) == 1) && nat_lt (q + p) (2 * count - 1)

abbrev pub lag_in : ℕ → ℕ → ℕ → ℕ
lag_in longest q p = 1 + (3 * q + p) % longest

abbrev pub net_of : ℕ → ℕ → ℕ → Net
net_of count longest end = record { parts = count; near = near_in count; lag = lag_in longest; end = end }

abbrev pub border_from : ℕ → ℕ → ℕ → Border
border_from longest q p = record { neighbour = q; lag = lag_in longest q p }

-- the neighbours of p, with the lags from them: the one before it and the one behind it, where they are there
abbrev pub before : ℕ → ℕ → Option Border
before longest p = if nat_lt 0 p then Some (border_from longest (p - 1) p) else None

abbrev pub behind : ℕ → ℕ → ℕ → Option Border
behind count longest p = if nat_lt (p + 1) count then Some (border_from longest (p + 1) p) else None

abbrev pub neighbours : ℕ → ℕ → ℕ → List Border
neighbours count longest p = option_to_list (before longest p) ++ option_to_list (behind count longest p)

-- whether q sends anything to p in second t
abbrev pub sends_to : ℕ → ℕ → ℕ → Bool
sends_to q p t = nat_lt ((t + q * p) % 5) 2

-- what q sends to p in second t, where 0 is nothing
abbrev pub number_of : ℕ → ℕ → ℕ → ℕ
number_of q p t = if sends_to q p t then 10000 * t + 100 * q + p else 0
