-- Phase C at one node, by the buffers of the links into it and the places of the links out of it.
use Rattle.std.specs.Prelude.{ℕ, zero, suc, ◌+◌, ◌-◌, ◌*◌, ◌<◌, Bool, true, false, not, ◌&&◌, ◌||◌, List, [], ◌∷◌, ◌++◌, length, map, filter, get_or, ◌==◌}
use Rattle.std.specs.Prelude.{nat_lt, nat_le, if◌then◌else◌, Option, None, Some}
use Rattle.draws.specs.Choices.{pick}
use Rattle.traffic.specs.declared.stage.Stage.TheVariants.{Queue, Buffer}
pub use Rattle.traffic.specs.declared.node_views.InLink.{InLink}
pub use Rattle.traffic.specs.declared.node_views.OutLink.{OutLink}
use Rattle.traffic.specs.{Lists.is_nil, Lists.without_at, Moves.Move, Moves.Transfer, Moves.Remove, Moves.SetFrontSince, Moves.at_second}
use Rattle.traffic.specs.Rows.{VehicleState, Row, World, at, holes_at}
use Rattle.traffic.specs.Setup.{Setup, link_row, seconds_of, storage_of, hole_of, into}
use Rattle.rows.specs.declared.settings.Stuck.{Stuck}

-- what a node's turn sees: the links into it, in order, and each link out of it by its number
pub record NodeView : Type 0 where
  pub in_links : List InLink
  pub out_links : ℕ → Option OutLink

-- of these holes, the seconds in which they were left, how many still count as taken places in second t: those left fewer than h seconds ago
abbrev pub in_force : ℕ → ℕ → List ℕ → ℕ
in_force t h holes = length (filter (λ s. nat_lt t (s + h)) holes)

-- the taken places of link m in second t: the rows of its queue, and its holes in force
abbrev pub taken_at : Setup → ℕ → ℕ → World → ℕ
taken_at S t m W = length (at m Queue W) + in_force t (hole_of S m) (holes_at m W)

abbrev pub in_link : Setup → ℕ → World → ℕ → InLink
in_link S t W l = record { link = l; capacity = (link_row S l).capacity; green = S.green l t; rows = at l Buffer W }

abbrev pub out_link : Setup → ℕ → ℕ → World → ℕ → Option OutLink
out_link S t n W m =
    if (link_row S m).from == n
    then Some (record { taken = taken_at S t m W; storage = storage_of S m; seconds = seconds_of S m })
    else None

abbrev pub node_view : Setup → ℕ → ℕ → World → NodeView
node_view S t n W = record { in_links = map (in_link S t W) (into S n); out_links = out_link S t n W }

-- the link after the one where a vehicle is
abbrev pub next_link : VehicleState → ℕ
next_link v = get_or v.route (v.place + 1) 0

-- a vehicle has a next link, and its route is no longer than a number can count
pub record HasNext (v : VehicleState) : Type 0 where
  pub next : v.place + 1 < length v.route
  pub route : length v.route < 4294967296

-- so does each vehicle of these rows
abbrev pub HaveNext : List Row → Type 0
HaveNext [] = Unit {0}
HaveNext (r ∷ rs) = HasNext r.vehicle × HaveNext rs

-- whether it is a link out of the node, and whether it has fewer taken places than its storage
abbrev pub is_out_link : Option OutLink → Bool
is_out_link None = false
is_out_link (Some e) = true

abbrev pub has_room : Option OutLink → Bool
has_room None = false
has_room (Some e) = nat_lt e.taken e.storage

abbrev pub seconds_along : Option OutLink → ℕ
seconds_along None = 0
seconds_along (Some e) = e.seconds

abbrev pub with_one_more : Option OutLink → Option OutLink
with_one_more None = None
with_one_more (Some e) = Some (record e { taken = e.taken + 1 })

-- the out-links after a row went into the queue of link m
unfoldable pub one_more : ℕ → (ℕ → Option OutLink) → ℕ → Option OutLink
one_more m out_links l = if l == m then with_one_more (out_links l) else out_links l

-- whether a front since this second is stuck in second t
abbrev pub is_stuck : Stuck → ℕ → ℕ → Bool
is_stuck K t since = nat_le K.seconds (t - since)

-- whether a front since this second may enter a link: where it has room, or where the front is stuck and is pushed in
abbrev pub may_enter : Stuck → ℕ → ℕ → Option OutLink → Bool
may_enter K t since e = is_out_link e && (has_room e || (K.push && is_stuck K t since))

-- a row at the end of the queue of its next link m: it drives the free seconds, and was pushed where there was no room
abbrev pub entered : ℕ → Option OutLink → VehicleState → Row
entered t e v =
    record {
      vehicle = record v { place = v.place + 1; pushed = not (has_room e) };
      link = next_link v;
      stage = Queue;
      second = t + seconds_along e;
    }

-- Link a hands over: its front, which has been first since this second, enters its next link, or is stuck and is removed, or the
-- handing over ends. Whoever becomes front is first since t.
unfoldable pub pass_node : Stuck → ℕ → ℕ → (ℕ → Option OutLink) → ℕ → List Row → List Move
pass_node K t a out_links since [] = []
pass_node K t a out_links since (r ∷ rs) =
    let m = next_link r.vehicle in
    if may_enter K t since (out_links m)
    then Transfer a Buffer 0 (at_second since r) (entered t (out_links m) r.vehicle) ∷ SetFrontSince a t ∷ pass_node K t a (one_more m out_links) t rs
    else if is_stuck K t since
    then Remove a Buffer 0 (at_second since r) ∷ SetFrontSince a t ∷ pass_node K t a out_links t rs
    else []

-- the second of the first row
abbrev pub since_of : List Row → ℕ
since_of [] = 0
since_of (r ∷ rs) = r.second

abbrev pub pass_node_all : Stuck → ℕ → (ℕ → Option OutLink) → InLink → List Move
pass_node_all K t out_links e = pass_node K t e.link out_links (since_of e.rows) e.rows

-- the out-links after moves: each row that is put last takes a place
abbrev pub out_links_by : Move → (ℕ → Option OutLink) → ℕ → Option OutLink
out_links_by (Transfer l s k was now) out_links = one_more now.link out_links
out_links_by _ out_links = out_links

abbrev pub out_links_after : List Move → (ℕ → Option OutLink) → ℕ → Option OutLink
out_links_after [] out_links = out_links
out_links_after (m ∷ ms) out_links = out_links_after ms (out_links_by m out_links)

-- the weight of a link into a node
abbrev pub weight_of : InLink → ℕ
weight_of e = e.capacity

-- the place of the candidate that a word draws, with these weights
abbrev pub drawn : List InLink → ℕ → ℕ
drawn in_links word = pick (map weight_of in_links) word

-- nothing to hand over
abbrev pub no_in_link : InLink
no_in_link = record { link = 0; capacity = 0; green = false; rows = [] }

-- The drawing, from pick number j on: while there are candidates the word at place 16t + j draws one, which hands over and is no
-- candidate any more.
unfoldable pub draw : Stuck → ℕ → (ℕ → ℕ) → ℕ → ℕ → List InLink → (ℕ → Option OutLink) → List Move
draw K t word zero j in_links out_links = []
draw K t word (suc left) j in_links out_links =
    let k = drawn in_links (word (16 * t + j)) in
    let moves = pass_node_all K t out_links (get_or in_links k no_in_link) in
    moves ++ draw K t word left (j + 1) (without_at k in_links) (out_links_after moves out_links)

-- those that have a nonempty buffer, and of those the red and the green ones
abbrev pub ready : List InLink → List InLink
ready in_links = filter (λ (e : InLink). not (is_nil e.rows)) in_links

abbrev pub red : List InLink → List InLink
red in_links = filter (λ (e : InLink). not e.green) (ready in_links)

abbrev pub candidates : List InLink → List InLink
candidates in_links = filter (λ (e : InLink). e.green) (ready in_links)

abbrev pub mark : ℕ → InLink → Move
mark t e = SetFrontSince e.link t

-- phase C at a node in second t: the fronts of red links are first since t, and the green links hand over in the order drawn
unfoldable pub node_moves : Stuck → ℕ → (ℕ → ℕ) → NodeView → List Move
node_moves K t word see =
    let links = candidates see.in_links in
    map (mark t) (red see.in_links) ++ draw K t word (length links) 0 links see.out_links
