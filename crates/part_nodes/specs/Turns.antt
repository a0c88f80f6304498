-- What the turn of a node asks of the links into it, and which of them it wakes.
use Rattle.std.specs.List.{list_any}
use Rattle.std.specs.Prelude.{◌≡◌, ℕ, ◌+◌, ◌<◌, Bool, false, not, ◌&&◌, List, [], ◌∷◌, length, map, ◌==◌, nat_le, nat_lt, if◌then◌else◌, Option, None, Some}
use Rattle.draws.specs.Words.{Source, word}
use Rattle.rows.specs.{Greens.Phases, Greens.green_at, declared.settings.Stuck.Stuck}
use Rattle.traffic.specs.{Lists.is_nil, Setup.Setup, declared.world.Row.Row}
use Rattle.town.specs.declared.day_input.DayInput.{DayInput}
use Rattle.law_sleeping.specs.Able.{can_go}
use Rattle.node_move.specs.{Entries.SpaceRows, Spaces.places_in}
use Rattle.calendar.specs.Waking.{earliest as sooner, woken_by}
use Rattle.queue_link.specs.Links.{LinkView, front_second}
use Rattle.node_seconds.specs.Networks.{lane}
use Rattle.part_nodes.specs.declared.node_turns.Buffered.{Buffered}

-- what does not change over the turn of a node
pub record IsTurnOf (S : Setup) (t n : ℕ) (K : Stuck) (u : ℕ) (s : Source) : Type 0 where
  pub stuck : K ≡ S.settings.stuck
  pub second : u ≡ t
  pub words : word s ≡ S.word n

-- the links have numbers below so many
abbrev pub HaveNumbersIn : ℕ → List LinkView → Type 0
HaveNumbersIn count links = (k : ℕ) → k < length links → (lane links k).numbers.link < count

-- the lights of the links in these slots in second t
abbrev pub lights_of : Setup → ℕ → List LinkView → List ℕ → List Bool
lights_of S t links ks = map (λ (k : ℕ). S.green (lane links k).numbers.link t) ks

-- how many vehicles are in the buffer of the link in a slot
abbrev pub count_in : List LinkView → ℕ → ℕ
count_in links k = length (lane links k).lists.buffer

abbrev pub buffered_in : List LinkView → ℕ → Buffered
buffered_in links k = record { slot = k; count = count_in links k }

-- nobody is on a link but in its buffer
abbrev pub is_clear : LinkView → Bool
is_clear v = is_nil v.lists.queue && (is_nil v.lists.wait && is_nil v.lists.bay)

-- the buffer of a link has not so many vehicles any more, and somebody else is on it
abbrev pub is_emptied : Buffered → List LinkView → Bool
is_emptied b links = not (count_in links b.slot == b.count) && not (is_clear (lane links b.slot))

-- such a link is woken in second t
abbrev pub wake_emptied : ℕ → Buffered → List LinkView → List (Option ℕ) → List (Option ℕ)
wake_emptied t b links wakes = if is_emptied b links then woken_by t b.slot wakes else wakes

-- the same of each of these links, in order
unfoldable pub wake_all_emptied : ℕ → List Buffered → List LinkView → List (Option ℕ) → List (Option ℕ)
wake_all_emptied t [] links wakes = wakes
wake_all_emptied t (b ∷ bs) links wakes = wake_all_emptied t bs links (wake_emptied t b links wakes)

-- they are in slots of so many
abbrev pub AreThere : ℕ → List Buffered → Type 0
AreThere count [] = Unit {0}
AreThere count (b ∷ bs) = (b.slot < count) × AreThere count bs

-- whether somebody is in the buffer of the link in a slot
abbrev pub is_buffered : List LinkView → ℕ → Bool
is_buffered links k = nat_lt 0 (count_in links k)

-- the only one of these numbers, where there is just one
abbrev pub only_of : List ℕ → Option ℕ
only_of [] = None
only_of (n ∷ []) = Some n
only_of (n ∷ m ∷ ns) = None

-- the span is the whole of a cycle; a signal has such a span
abbrev pub covers : ℕ → ℕ × ℕ → Bool
covers cycle span = ((span.0 == 0) && nat_lt 0 cycle) && nat_le cycle span.1

unfoldable pub is_always : Phases → Bool
is_always p = list_any (covers p.cycle) p.spans

-- whether the front of a link waits for a place: the link is always green, and its front cannot go
abbrev pub is_held : Stuck → ℕ → (ℕ → Bool) → SpaceRows → ℕ → List Row → Bool
is_held K t always space l rows = if always l then not (can_go K t (places_in space) rows) else false

-- when the node has to look at the link again, if nobody else does anything: where its front waits for a place, when it is stuck
abbrev pub due_from : Stuck → ℕ → Bool → Option ℕ → Option ℕ
due_from K t held None = None
due_from K t held (Some since) = Some (if held then since + K.seconds else t + 1)

abbrev pub front_due : Stuck → ℕ → (ℕ → Bool) → SpaceRows → ℕ → List Row → Option ℕ
front_due K t always space l rows = due_from K t (is_held K t always space l rows) (front_second rows)

-- the same of a link
abbrev pub link_due : Stuck → ℕ → (ℕ → Bool) → SpaceRows → LinkView → Option ℕ
link_due K t always space v = front_due K t always space v.numbers.link v.lists.buffer

-- the earliest of these seconds of the links in these slots, and of this one
unfoldable pub node_due : Stuck → ℕ → (ℕ → Bool) → SpaceRows → List LinkView → Option ℕ → List ℕ → Option ℕ
node_due K t always space links due [] = due
node_due K t always space links due (k ∷ ks) = node_due K t always space links (sooner due (link_due K t always space (lane links k))) ks

-- a second, where it is not after the end
abbrev pub up_to : ℕ → Option ℕ → Option ℕ
up_to end None = None
up_to end (Some u) = if nat_le u end then Some u else None

-- the links that are always green by these signals
abbrev pub always_in : List Phases → ℕ → Bool
always_in greens l = is_always (green_at greens l)

-- when a node with the links in these slots into it is woken again after second t
abbrev pub woken_again : DayInput → ℕ → List ℕ → List LinkView → SpaceRows → Option ℕ
woken_again day t ks links space =
    up_to day.town.now.settings.end_second
    (node_due day.town.now.settings.stuck t (always_in day.town.now.greens) space links None ks)
