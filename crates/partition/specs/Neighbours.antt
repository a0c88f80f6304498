-- Which partitions are neighbours, and with which lags, out of the rows of a town and the plans.
use Rattle.std.specs.{List.flat_map, Prelude.◌≡◌, Prelude.ℕ}
use Rattle.std.specs.Prelude.{◌+◌, ◌-◌, ◌*◌, ◌<◌, min, Bool, false, not, ◌&&◌, ◌||◌, List, length, map, filter, get_or, ◌==◌, if◌then◌else◌, Option, None, Some}
use Rattle.rows.specs.{PlanRows.PlanRows, PlanRows.act_in, PlanRows.leg_in, declared.network.LinkRow.LinkRow, declared.plan.Leg.Leg}
use Rattle.rows.specs.declared.plan.Leg.TheVariants as leg
use Rattle.traffic.specs.{Lists.below, Lists.numbers, Setup.Setup, Setup.hole_seconds}
use Rattle.parts.specs.Owners.{Owner, Hop, hop, near, lag, least}
use Rattle.limits.specs.declared.TheConstants.{MAX_PARTITIONS}
use Rattle.partition.specs.declared.{borders.LagPair.LagPair, joining.Pair.Pair}

-- THE ANSWERS
-- all pairs of so many partitions, ascending, the lesser one first
abbrev pub pair : ℕ → ℕ → Pair
pair p q = record { lesser = p; greater = q }

abbrev pub pairs_from : ℕ → ℕ → List Pair
pairs_from parts p = map (pair p) (numbers (p + 1) (parts - (p + 1)))

abbrev pub pairs_of : ℕ → List Pair
pairs_of parts = flat_map (pairs_from parts) (below parts)

-- those that are neighbours
abbrev pub neighbours_of : Setup → Owner → ℕ → List Pair
neighbours_of S own parts = filter (λ (x : Pair). near S own x.lesser x.greater) (pairs_of parts)

-- the lags of a pair: from the lesser to the greater one, and back
abbrev pub lags_of : Setup → Owner → Pair → LagPair
lags_of S own x = record { there = lag S own x.lesser x.greater; back = lag S own x.greater x.lesser }

-- both are among so many
abbrev pub IsPairOf : ℕ → Pair → Type 0
IsPairOf parts x = (x.lesser < parts) × (x.greater < parts)

-- WHAT MAY CROSS A BORDER
-- the seconds of a leg, where it is teleported
abbrev pub teleported : Leg → Option ℕ
teleported (leg.Car route) = None
teleported (leg.Teleport mode seconds) = Some seconds
teleported (leg.Transit line access egress) = None

-- the teleported legs of a plan
abbrev pub hop_in : PlanRows → ℕ → List Hop
hop_in plan k = hop (act_in plan (2 * k)) (act_in plan (2 * k + 2)) (leg_in plan (2 * k))

abbrev pub hops_in : PlanRows → List Hop
hops_in plan = flat_map (hop_in plan) (below (length plan.legs))

abbrev pub row_of_link : List LinkRow → ℕ → LinkRow
row_of_link links l = get_or links l (record { from = 0; to = 0; length = 0; speed = 1; capacity = 0; lanes = 0 })

-- the node at which a link ends
abbrev pub end_node : List LinkRow → ℕ → ℕ
end_node links l = (row_of_link links l).to

-- whether a link leads from p to q, and whether a teleported leg does
abbrev pub leads_over : Owner → ℕ → ℕ → LinkRow → Bool
leads_over own p q r = (own r.from == p) && (own r.to == q)

abbrev pub hop_leads_over : Owner → List LinkRow → ℕ → ℕ → Hop → Bool
hop_leads_over own links p q h = (own (end_node links h.from) == p) && (own (end_node links h.to) == q)

-- whether one does from the one to the other or back
abbrev pub is_over : Owner → ℕ → ℕ → LinkRow → Bool
is_over own p q r = leads_over own p q r || leads_over own q p r

abbrev pub is_hop_over : Owner → List LinkRow → ℕ → ℕ → Hop → Bool
is_hop_over own links p q h = hop_leads_over own links p q h || hop_leads_over own links q p h

-- the seconds of the holes of a link
abbrev pub hole_at : Option ℕ → LinkRow → ℕ
hole_at speed r = hole_seconds r.length speed

abbrev pub seconds_of_hop : Hop → ℕ
seconds_of_hop h = h.seconds

-- TABLES OF ORDERED PAIRS
abbrev pub place_of : ℕ → ℕ → ℕ
place_of p q = p * 64 + q

abbrev pub joined_in : List Bool → ℕ → ℕ → Bool
joined_in table p q = get_or table (place_of p q) false

abbrev pub lag_in : List ℕ → ℕ → ℕ → ℕ
lag_in table p q = get_or table (place_of p q) 0

-- those for which f holds are joined too
abbrev pub AreJoined : (ℕ → ℕ → Bool) → List Bool → List Bool → Type 0
AreJoined f old new = (p q : ℕ) → p < MAX_PARTITIONS → q < MAX_PARTITIONS → joined_in new p q ≡ (joined_in old p q || f p q)

-- whether these are the two, in the one order or the other
abbrev pub is_either : ℕ → ℕ → ℕ → ℕ → Bool
is_either from to p q = ((from == p) && (to == q)) || ((from == q) && (to == p))

-- each lag is what f makes of it
abbrev pub AreShorter : (ℕ → ℕ → ℕ → ℕ) → List ℕ → List ℕ → Type 0
AreShorter f old new = (p q : ℕ) → p < MAX_PARTITIONS → q < MAX_PARTITIONS → lag_in new p q ≡ f p q (lag_in old p q)

-- the least of n and of what f gives of each that passes
abbrev pub shortest : {X : Type 0} → (X → ℕ) → (X → Bool) → List X → ℕ → ℕ
shortest f p xs n = least n (map f (filter p xs))

-- n, or these seconds from the one to the other, if they are fewer
abbrev pub shortened : ℕ → ℕ → ℕ → ℕ → ℕ → ℕ → ℕ
shortened from to seconds p q n = if (from == p) && (to == q) then min seconds n else n

abbrev pub is_joined : List Bool → Pair → Bool
is_joined table x = joined_in table x.lesser x.greater

-- two different partitions are neighbours exactly where they are joined
abbrev pub AreNear : Setup → Owner → List Bool → Type 0
AreNear S own table = (p q : ℕ) → p < MAX_PARTITIONS → q < MAX_PARTITIONS → near S own p q ≡ (not (p == q) && joined_in table p q)

-- the lags are those of the day
abbrev pub AreLags : Setup → Owner → List ℕ → Type 0
AreLags S own table = (p q : ℕ) → p < MAX_PARTITIONS → q < MAX_PARTITIONS → lag_in table p q ≡ lag S own p q
