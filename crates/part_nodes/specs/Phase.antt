-- The phase of a second in which nodes let vehicles pass: how a network, or the part of it that has some of the nodes, stands for a world in
-- it, and what it makes of that.
use Rattle.std.specs.Prelude.{◌≡◌, ◌≢◌, ℕ, ◌+◌, ◌<◌, ◌≤◌, Bool, true, false, not, List, [], ◌∷◌, ◌++◌, length, map, filter, get_or, Option, None, Some}
use Rattle.std.specs.List.{flat_map, AllByRecursion as Each}
use Rattle.events.specs.{Keys.phase_code, declared.event.Event.Event}
use Rattle.events.specs.declared.event.Phase.TheVariants as phase
use Rattle.law_in_range.specs.Rows.{Counts, IsFitWorld}
use Rattle.law_joined_routes.specs.Going.{GoesOn}
use Rattle.parts.specs.Parts.{enters_queue}
use Rattle.traffic.specs.Day.{Turn, keyed, node_turns, turns_of, turns, moves_of, after, events_in}
use Rattle.traffic.specs.{Lists.below, Moves.told, Moves.run, Nodes.next_link, Nodes.taken_at, Rows.World, Rows.at, Rows.holes_at, Setup.Setup, Setup.link_row}
use Rattle.traffic.specs.{Setup.storage_of, Setup.seconds_of, Setup.hole_of, declared.moves.Move.Move, declared.moves.Occurrence.Occurrence}
use Rattle.traffic.specs.declared.{node_views.OutLink.OutLink, stage.Stage.TheVariants.Queue, stage.Stage.TheVariants.Buffer, world.Row.Row}
use Rattle.calendar.specs.Waking.{wake_of}
use Rattle.queue_link.specs.Links.{LinkView}
use Rattle.node_move.specs.{Entries.SpaceRows, Spaces.places_in, Spaces.holes_in, declared.crossings.Entering.Entering}
use Rattle.node_seconds.specs.Networks.{is_among}
use Rattle.part_links.specs.{Links.AreNumbered, Links.LinksStandAt, Links.AreAsleep, Phase.of_persons}
use Rattle.part_places.specs.Taking.{still}
use Rattle.part_nodes.specs.declared.network.NetworkState.{NetworkState}

-- WHAT A PART HAS
-- which nodes a part of a network has, and which links: in so many slots those of these numbers
pub record Extent : Type 0 where
  pub mine : ℕ → Bool
  pub number : ℕ → ℕ
  pub size : ℕ

-- the table gives link l a slot in which it stands
pub record IsFound (E : Extent) (slots : List ℕ) (l : ℕ) : Type 0 where
  pub there : get_or slots l 0 < E.size
  pub link : E.number (get_or slots l 0) ≡ l

-- The links of a part are those that lead to its nodes, each in one slot; the table gives these slots by number.
pub record HasLinks (S : Setup) (E : Extent) (slots : List ℕ) : Type 0 where
  pub numbered : AreNumbered S E.size E.number
  pub own : (k : ℕ) → k < E.size → E.mine (link_row S (E.number k)).to ≡ true
  pub table : length slots ≡ length S.links
  pub found : (l : ℕ) → l < length S.links → E.mine (link_row S l).to ≡ true → IsFound E slots l

-- the part has each of these nodes
abbrev pub AreMine : Extent → List ℕ → Type 0
AreMine E ns = Each (λ (n : ℕ). E.mine n ≡ true) ns

-- THE WORLD
-- the places of link m in second t of world V
abbrev pub places_at : Setup → ℕ → World → ℕ → OutLink
places_at S t V m = record { taken = taken_at S t m V; storage = storage_of S m; seconds = seconds_of S m }

-- Vehicles at the ends of those links that lead to these nodes go on along links that begin there.
abbrev pub GoOnThere : (ℕ → Bool) → Setup → World → Type 0
GoOnThere mine S V = (l : ℕ) → l < length S.links → mine (link_row S l).to ≡ true → Each (GoesOn S l) (at l Buffer V)

-- While the nodes of second t have their turns the links of a part stand for the world V that the ones before left: they have the lists of V
-- and rest until they are woken; and of each link that begins at its nodes as many places are taken as in V.
pub record LinksStandFor (z : Counts) (S : Setup) (E : Extent) (end t : ℕ) (links : List LinkView) (wakes : List (Option ℕ))
    (space : SpaceRows) (V : World) : Type 0 where
  pub fit : IsFitWorld z V
  pub on : GoOnThere E.mine S V
  pub stand : LinksStandAt E.number E.size S t links V
  pub asleep : AreAsleep S.settings.dwell end t links wakes
  pub places :
      (m : ℕ) → m < length S.links → E.mine (link_row S m).from ≡ true → places_in space m ≡ Some (places_at S t V m)

-- they stand for some world, as links of some part that has node n
pub record LinksStandForSome (z : Counts) (S : Setup) (end t n : ℕ) (slots : List ℕ) (links : List LinkView) (wakes : List (Option ℕ))
    (space : SpaceRows) : Type 0 where
  pub extent : Extent
  pub world : World
  pub has : HasLinks S extent slots
  pub node : extent.mine n ≡ true
  pub links_stand : LinksStandFor z S extent end t links wakes space world

-- So does the network of a part. It has a wake for each node, whoever has that, and wakes none that is not its own.
pub record StandsForAt (z : Counts) (S : Setup) (E : Extent) (end t : ℕ) (N : NetworkState) (V : World) : Type 0 where
  pub links : LinksStandFor z S E end t N.links.items N.link_wakes N.places.space V
  pub nodes : length N.node_wakes ≡ S.nodes
  pub only : (n : ℕ) → E.mine n ≡ false → wake_of N.node_wakes n ≡ None

-- a network stands for some world, as that of some part which has these nodes
pub record Stands (z : Counts) (S : Setup) (end t : ℕ) (slots ns : List ℕ) (N : NetworkState) : Type 0 where
  pub extent : Extent
  pub world : World
  pub has : HasLinks S extent slots
  pub own : AreMine extent ns
  pub stands : StandsForAt z S extent end t N world

-- WHO WAITS
-- how many places of link m are taken in world V, where those that were left and are free in second p or later are taken
abbrev pub taken_before : Setup → ℕ → ℕ → World → ℕ
taken_before S p m V = length (at m Queue V) + still p (map (λ (s : ℕ). s + hole_of S m) (holes_at m V))

-- a node is woken after second t and not after this second, or not at all before the end, and that is not after this second either
abbrev pub IsWokenBy : ℕ → ℕ → ℕ → Option ℕ → Type 0
IsWokenBy end t by None = end ≤ by
IsWokenBy end t by (Some u) = (t < u) × (u ≤ by)

-- The front of link l waits for a place from second t on: the link is always green, its next link has no place free in world V, where those
-- that are free in second p or later are taken, and its node is woken by the second in which it is stuck.
pub record FrontWaits (S : Setup) (end p t l : ℕ) (wake : Option ℕ) (V : World) (r : Row) : Type 0 where
  pub green : (u : ℕ) → S.green l u ≡ true
  pub full : storage_of S (next_link r.vehicle) ≤ taken_before S p (next_link r.vehicle) V
  pub some_patience : 0 < S.settings.stuck.seconds
  pub woken : IsWokenBy end t (r.second + S.settings.stuck.seconds) wake

-- it does, or nobody is in the buffer
abbrev pub BufferWaits : Setup → ℕ → ℕ → ℕ → ℕ → Option ℕ → World → List Row → Type 0
BufferWaits S end p t l wake V [] = Unit {0}
BufferWaits S end p t l wake V (r ∷ rs) = FrontWaits S end p t l wake V r

-- the same of each link into one of these nodes that is not woken in second t
abbrev pub AreAwaitedAt : (ℕ → Bool) → Setup → ℕ → ℕ → ℕ → List (Option ℕ) → World → Type 0
AreAwaitedAt mine S end p t wakes V =
    (n l : ℕ) → n < S.nodes → mine n ≡ true → wake_of wakes n ≢ Some t → l < length S.links → (link_row S l).to ≡ n
    → BufferWaits S end p t l (wake_of wakes n) V (at l Buffer V)

-- WHO GOES OUT
-- a vehicle that enters a link, by its row there
abbrev pub entering_of : Row → Entering
entering_of r = record { link = r.link; vehicle = r.vehicle }

-- the vehicles that moves put into queues of links which lead to other nodes than these, in order
abbrev pub going_out : Setup → (ℕ → Bool) → List Move → List Entering
going_out S mine ms = map entering_of (flat_map (enters_queue (λ (m : ℕ). not (mine (link_row S m).to))) ms)

-- TURNS
-- What the turn of node n makes of links that stand for world V in second t, what it tells, and who goes out by it.
pub record IsPassed (z : Counts) (S : Setup) (E : Extent) (end t n : ℕ) (V : World) (links : List LinkView) (wakes : List (Option ℕ))
    (space : SpaceRows) (now : List Occurrence) (first_out out : List Entering) : Type 0 where
  pub stand : LinksStandFor z S E end t links wakes space (run S t (node_turns S t n V) V)
  pub said : now ≡ flat_map told (node_turns S t n V)
  pub gone : out ≡ first_out ++ going_out S E.mine (node_turns S t n V)

-- What the turn of node n makes of a network that stands for world V in second t, of when nodes are woken, of what was told and of who went
-- out: where the node is not woken in the next second, the fronts of all links into it wait for places.
pub record IsTurn (z : Counts) (S : Setup) (E : Extent) (end t n : ℕ) (V : World) (old new : NetworkState) (first_events now_events : List Event)
    (first_said now_said : List Occurrence) (first_out out : List Entering) : Type 0 where
  pub stands : StandsForAt z S E end t new (run S t (node_turns S t n V) V)
  pub holes : (m : ℕ) → holes_in new.places.space m ≡ holes_in old.places.space m
  pub freed : new.places.freed ≡ old.places.freed
  pub others : (m : ℕ) → m ≢ n → wake_of new.node_wakes m ≡ wake_of old.node_wakes m
  pub awaited :
      (l : ℕ) → wake_of new.node_wakes n ≢ Some (t + 1) → l < length S.links → (link_row S l).to ≡ n
      → BufferWaits S end (t + 1) (t + 1) l (wake_of new.node_wakes n) (run S t (node_turns S t n V) V)
      (at l Buffer (run S t (node_turns S t n V) V))
  pub events : now_events ≡ first_events ++ keyed t (phase_code phase.C) n 0 (flat_map told (node_turns S t n V))
  pub said : now_said ≡ first_said ++ of_persons (flat_map told (node_turns S t n V))
  pub gone : out ≡ first_out ++ going_out S E.mine (node_turns S t n V)

-- the same of the turns of these nodes, one after the other
pub record AreTurned (z : Counts) (S : Setup) (E : Extent) (end t : ℕ) (V : World) (ns : List ℕ) (old new : NetworkState)
    (first_events now_events : List Event) (first_said now_said : List Occurrence) (first_out out : List Entering) : Type 0 where
  pub stands : StandsForAt z S E end t new (after S t (turns S t (turns_of S t phase.C) ns V) V)
  pub holes : (m : ℕ) → holes_in new.places.space m ≡ holes_in old.places.space m
  pub freed : new.places.freed ≡ old.places.freed
  pub others : (m : ℕ) → is_among m ns ≡ false → wake_of new.node_wakes m ≡ wake_of old.node_wakes m
  pub awaited :
      (m l : ℕ) → is_among m ns ≡ true → wake_of new.node_wakes m ≢ Some (t + 1) → l < length S.links
      → (link_row S l).to ≡ m
      → BufferWaits S end (t + 1) (t + 1) l (wake_of new.node_wakes m) (after S t (turns S t (turns_of S t phase.C) ns V) V)
      (at l Buffer (after S t (turns S t (turns_of S t phase.C) ns V) V))
  pub events : now_events ≡ first_events ++ events_in t phase.C (turns S t (turns_of S t phase.C) ns V)
  pub said : now_said ≡ first_said ++ of_persons (flat_map told (moves_of (turns S t (turns_of S t phase.C) ns V)))
  pub gone : out ≡ first_out ++ going_out S E.mine (moves_of (turns S t (turns_of S t phase.C) ns V))

-- What these turns of the nodes of a part make of its network, which stands for world V in second t.
pub record IsPhaseBy (z : Counts) (S : Setup) (E : Extent) (us : List Turn) (end t : ℕ) (V : World) (old new : NetworkState)
    (first_events now_events : List Event) (first_said now_said : List Occurrence) (first_out out : List Entering) : Type 0 where
  pub stands : StandsForAt z S E end t new (after S t us V)
  pub holes : (m : ℕ) → holes_in new.places.space m ≡ holes_in old.places.space m
  pub freed : new.places.freed ≡ old.places.freed
  pub awaited : AreAwaitedAt E.mine S end (t + 1) (t + 1) new.node_wakes (after S t us V)
  pub events : now_events ≡ first_events ++ events_in t phase.C us
  pub said : now_said ≡ first_said ++ of_persons (flat_map told (moves_of us))
  pub gone : out ≡ first_out ++ going_out S E.mine (moves_of us)

-- the turns of these nodes in second t, by number
abbrev pub turns_at : (ℕ → Bool) → Setup → ℕ → World → List Turn
turns_at mine S t V = turns S t (node_turns S t) (filter mine (below S.nodes)) V

-- what the turns of all nodes of a part make of it
abbrev pub IsPhaseAt : Counts → Setup → Extent → ℕ → ℕ → World → NetworkState → NetworkState → List Event → List Event → List Occurrence → List Occurrence
    → List Entering → List Entering → Type 0
IsPhaseAt z S E end t V old new first_events now_events first_said now_said first_out out =
    IsPhaseBy z S E (turns_at E.mine S t V) end t V old new first_events now_events first_said now_said first_out out
