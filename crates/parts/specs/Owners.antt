-- Which partition owns what, which partitions are neighbours, and by how many seconds what one does may stay unknown to the other.
use Rattle.std.specs.Prelude.{ℕ, ◌*◌, min, Bool, not, ◌&&◌, ◌||◌, List, [], ◌∷◌, ◌++◌, length, map, filter, get_or, nat_lt, ◌==◌, if◌then◌else◌}
use Rattle.std.specs.List.{flat_map, list_any}
use Rattle.limits.specs.declared.TheConstants.{MAX_LAG}
use Rattle.events.specs.declared.event.Event.{Event}
use Rattle.traffic.specs.{Day.world_at, Lists.below, Rows.World, Rows.person_of, Worlds.listed_in, declared.world.Place.Place, declared.world.Row.Row}
use Rattle.traffic.specs.Setup.{Setup, person_plan, leg_at, link_row, seconds_of, hole_of, act_at, act_after, link_of_stop, departure}
use Rattle.traffic.specs.declared.world.Place.TheVariants as place
use Rattle.rows.specs.declared.plan.{Act.Act, Leg.Leg}
use Rattle.rows.specs.declared.plan.Leg.TheVariants as leg

-- the partition of each node
abbrev pub Owner : Type 0
Owner = ℕ → ℕ

-- a link belongs to its end node's owner; it begins in its start node's
abbrev pub owner_of : Setup → Owner → ℕ → ℕ
owner_of S own l = own (link_row S l).to

abbrev pub begins_in : Setup → Owner → ℕ → ℕ
begins_in S own l = own (link_row S l).from

-- whether a link leads from one partition to another
abbrev pub crosses : Setup → Owner → ℕ → Bool
crosses S own l = not (begins_in S own l == owner_of S own l)

-- the link of the first row that has a person among its riders
unfoldable pub link_of_rider : ℕ → List Row → ℕ
link_of_rider i [] = 0
link_of_rider i (r ∷ rs) = if nat_lt 0 (listed_in i r) then r.link else link_of_rider i rs

-- the link by which a person belongs to a partition: that of the activity, of the stop, or where he was removed, that of his vehicle, and
-- that of the next activity while he flies
abbrev pub link_at : Setup → World → ℕ → ℕ → Place → ℕ
link_at S W i element (place.At end) = (act_at S i element).link
link_at S W i element (place.Teleporting start) = (act_after S i element).link
link_at S W i element (place.Waiting stop since) = link_of_stop S stop
link_at S W i element (place.Riding v) = link_of_rider i W.rows
link_at S W i element (place.Aborted l) = l

abbrev pub owner_of_person : Setup → Owner → World → ℕ → ℕ
owner_of_person S own W i = owner_of S own (link_at S W i (person_of i W).element (person_of i W).place)

-- a teleported leg of a plan: the links that it joins, and its seconds
pub record Hop : Type 0 where
  pub from : ℕ
  pub to : ℕ
  pub seconds : ℕ

abbrev pub hop : Act → Act → Leg → List Hop
hop here next (leg.Car route) = []
hop here next (leg.Teleport mode seconds) = record { from = here.link; to = next.link; seconds = seconds } ∷ []
hop here next (leg.Transit line access egress) = []

-- those of the leg of this number of person i's plan, and of all legs of all plans
abbrev pub hop_at : Setup → ℕ → ℕ → List Hop
hop_at S i k = hop (act_at S i (2 * k)) (act_after S i (2 * k)) (leg_at S i (2 * k))

unfoldable pub hops : Setup → List Hop
hops S = flat_map (λ i. flat_map (hop_at S i) (below (length (person_plan S i).legs))) (below (length S.persons))

-- whether a link leads from p to q, and whether a teleported leg does
abbrev pub leads : Setup → Owner → ℕ → ℕ → ℕ → Bool
leads S own p q l = (begins_in S own l == p) && (owner_of S own l == q)

abbrev pub hops_over : Setup → Owner → ℕ → ℕ → Hop → Bool
hops_over S own p q h = (owner_of S own h.from == p) && (owner_of S own h.to == q)

abbrev pub links_of : Setup → List ℕ
links_of S = below (length S.links)

-- two different partitions are neighbours where a link or a teleported leg joins them
unfoldable pub near : Setup → Owner → ℕ → ℕ → Bool
near S own p q =
    not (p == q) && (list_any (λ l. leads S own p q l || leads S own q p l) (links_of S)
    || list_any (λ (h : Hop). hops_over S own p q h || hops_over S own q p h) (hops S))

-- the least of these numbers and of one more
unfoldable pub least : ℕ → List ℕ → ℕ
least n [] = n
least n (x ∷ xs) = min x (least n xs)

-- the most seconds of a lag
abbrev pub longest_lag : ℕ
longest_lag = MAX_LAG

-- The lag from q to p: what q does in a second changes nothing at p before so many seconds have passed. It is no longer than the free
-- seconds of each link from q to p, than the hole seconds of each link from p to q, and than each teleported leg from q to p.
unfoldable pub lag : Setup → Owner → ℕ → ℕ → ℕ
lag S own q p =
    least longest_lag (
    map (seconds_of S) (filter (leads S own q p) (links_of S))
    ++ map (hole_of S) (filter (leads S own p q) (links_of S))
    ++ map (λ (h : Hop). h.seconds) (filter (hops_over S own q p) (hops S))
    )

-- the owner of a turn of a phase with this code in second t: of A and B1 that of the person at the start of the second, of B2 that of the
-- departure's first link, of C that of the node, of D that of the link
abbrev pub owner_of_turn : Setup → Owner → ℕ → ℕ → ℕ → ℕ
owner_of_turn S own t code n =
    if (code == 0) || (code == 1) then owner_of_person S own (world_at S t) n
    else if code == 2 then owner_of S own (get_or (departure S n).route 0 0)
    else if code == 3 then own n
    else owner_of S own n

abbrev pub owner_of_event : Setup → Owner → Event → ℕ
owner_of_event S own e = owner_of_turn S own e.key.second e.key.phase e.key.number
