-- What the turns of links and places that come free mean for places and for queues, where links stand in slots.
use Rattle.std.specs.Prelude.{◌≡◌, ℕ, ◌+◌, ◌-◌, ◌<◌, ◌≤◌, true, List, [], ◌∷◌, length, map, set, get_or, nat_lt, if◌then◌else◌}
use Rattle.traffic.specs.Setup.{Setup, storage_of, seconds_of, hole_of}
use Rattle.parts.specs.{Owners.Owner, Parts.Held}
use Rattle.queue_link.specs.Links.{LinkView}
use Rattle.part_places.specs.Taking.{Taking, later, begins_here}
use Rattle.law_parts_of_days.specs.Settling.{link_at, queued_in}
use Rattle.part_seconds.specs.declared.contents.FreedPlaces.{FreedPlaces}

-- PLACES
-- how the places of links are taken as a partition knows them: by the rows that it knows of in their queues, and by the holes
abbrev pub places_known : Setup → Held → Taking
places_known S H = record {
  storage = storage_of S;
  seconds = seconds_of S;
  queued = λ m. H.rows m;
  frees = λ m. map (λ (s : ℕ). s + hole_of S m) (H.holes m);
}

-- the places once the link in this slot, which had its turn in second t, has its queue: of a link that begins elsewhere p has none
abbrev pub left_one : Setup → Owner → ℕ → ℕ → List LinkView → ℕ → Taking → Taking
left_one S own p t links k T =
    if begins_here S own p (link_at links k)
    then later (link_at links k) (queued_in links k) (t + hole_of S (link_at links k)) T
    else T

-- so with those in these slots
unfoldable pub left_all : Setup → Owner → ℕ → ℕ → List LinkView → List ℕ → Taking → Taking
left_all S own p t links [] T = T
left_all S own p t links (k ∷ ks) T = left_all S own p t links ks (left_one S own p t links k T)

-- no queue of a link that begins here has more vehicles than these places
abbrev pub AreFew : Setup → Owner → ℕ → List LinkView → Taking → Type 0
AreFew S own p links T =
    (k : ℕ) → k < length links → begins_here S own p (link_at links k) ≡ true → queued_in links k ≤ T.queued (link_at links k)

-- links in different slots are different ones
abbrev pub AreApart : List LinkView → Type 0
AreApart links = (j k : ℕ) → j < length links → k < length links → link_at links j ≡ link_at links k → j ≡ k

-- QUEUES
-- how many vehicles fewer are in the queue of the link in a slot than this table has
abbrev pub gone_from : List LinkView → List ℕ → ℕ → ℕ
gone_from links queues k = get_or queues k 0 - queued_in links k

-- of a link that begins elsewhere, if any are
abbrev pub freed_at : Setup → Owner → ℕ → List LinkView → List ℕ → ℕ → List FreedPlaces
freed_at S own p links queues k =
    if begins_here S own p (link_at links k)
    then []
    else if nat_lt 0 (gone_from links queues k)
    then record { link = link_at links k; count = gone_from links queues k } ∷ []
    else []

-- the table once those in these slots have their queues
unfoldable pub put_queues : List LinkView → List ℕ → List ℕ → List ℕ
put_queues links [] queues = queues
put_queues links (k ∷ ks) queues = put_queues links ks (set queues k (queued_in links k))
