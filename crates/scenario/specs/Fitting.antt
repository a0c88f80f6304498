-- Each person's plans fit the town.
use Rattle.std.specs.{List.list_all, Prelude.Bool, Prelude.◌&&◌, Prelude.nat_le, Prelude.List, Prelude.length}
use Rattle.limits.specs.declared.TheConstants.{MAX_PLANS}
use Rattle.plan_memory.specs.Memories.{MemoryRows}
use Rattle.rows.specs.PlanRows.{PlanRows}
use Rattle.town.specs.{Fits.fits, Rows.TownRows}

-- one to five plans
abbrev pub are_few : List PlanRows → Bool
are_few plans = nat_le 1 (length plans) && nat_le (length plans) MAX_PLANS

-- one to five plans, each of which fits the town
unfoldable pub are_fitting : TownRows → List PlanRows → Bool
are_fitting T plans = are_few plans && list_all (fits T) plans

-- the same for every person
abbrev pub all_fit : TownRows → List (List PlanRows) → Bool
all_fit T plans = list_all (are_fitting T) plans

-- each plan that a person remembers fits the town
abbrev pub remembers_fitting : TownRows → MemoryRows → Bool
remembers_fitting T memory = list_all (fits T) memory.plans

-- the same for every person
abbrev pub all_remember_fitting : TownRows → List MemoryRows → Bool
all_remember_fitting T memories = list_all (remembers_fitting T) memories
