-- The marks of red fronts, left out and made up when they are read.
use Rattle.std.specs.Prelude.{◌≡◌, ℕ, zero, suc, ◌<◌, ◌≤◌, max, Bool, List, [], ◌∷◌, length, map, if◌then◌else◌}
use Rattle.traffic.specs.{Day.link_turns, Day.through, Lists.on_front, Moves.at_after_all, Nodes.NodeView, Nodes.out_link, Nodes.since_of, Nodes.draw}
use Rattle.traffic.specs.{Nodes.candidates, Rows.World, Rows.at, Setup.Setup, Setup.link_row, Setup.into}
use Rattle.traffic.specs.declared.{moves.Move.Move, node_views.InLink.InLink, stage.Stage.TheVariants.Buffer, world.Row.Row}
use Rattle.rows.specs.declared.settings.Stuck.{Stuck}
use Rattle.events.specs.declared.event.Phase.TheVariants as phase

-- the last red second before second t, and 0 where there is none
unfoldable pub last_red : (ℕ → Bool) → ℕ → ℕ
last_red green zero = 0
last_red green (suc t) = if green t then last_red green t else t

-- a front with the mark that it would bear in second t, whatever it bears
abbrev pub caught_up : (ℕ → Bool) → ℕ → Row → Row
caught_up green t r = record r { second = max r.second (last_red green t) }

abbrev pub catch_up : (ℕ → Bool) → ℕ → List Row → List Row
catch_up green t rows = on_front (caught_up green t) rows

-- One buffer twice, when the nodes of second t have not had their turns: as rows whose red marks were left out, and as it is.
pub record IsBehind (green : ℕ → Bool) (t : ℕ) (rows marked : List Row) : Type 0 where
  pub marks : marked ≡ catch_up green t rows
  pub before : since_of rows ≤ t

-- buffers by the numbers of their links, with the red marks left out
abbrev pub Buffers : Type 0
Buffers = ℕ → List Row

-- what a node sees of these and of world V: each front as it would be marked
abbrev pub lazy_in_link : Setup → ℕ → Buffers → ℕ → InLink
lazy_in_link S t rows l = record {
  link = l;
  capacity = (link_row S l).capacity;
  green = S.green l t;
  rows = catch_up (S.green l) t
      (rows l);
}

abbrev pub lazy_node_view : Setup → ℕ → ℕ → Buffers → World → NodeView
lazy_node_view S t n rows V = record { in_links = map (lazy_in_link S t rows) (into S n); out_links = out_link S t n V }

-- a node's turn without its marks of red fronts
abbrev pub green_moves : Stuck → ℕ → (ℕ → ℕ) → NodeView → List Move
green_moves K t word see = draw K t word (length (candidates see.in_links)) 0 (candidates see.in_links) see.out_links

abbrev pub lazy_node_turns : Setup → ℕ → ℕ → Buffers → World → List Move
lazy_node_turns S t n rows V = green_moves S.settings.stuck t (S.word n) (lazy_node_view S t n rows V)

-- the buffers of world V in second t are these, but for the red marks
abbrev pub AreBehind : Setup → ℕ → Buffers → World → Type 0
AreBehind S t rows V = (l : ℕ) → l < length S.links → IsBehind (S.green l) t (rows l) (at l Buffer V)

-- the buffers after the nodes of second t had their turns
abbrev pub buffers_after : Setup → ℕ → Buffers → World → Buffers
buffers_after S t rows V l = at_after_all l Buffer (lazy_node_turns S t (link_row S l).to rows V) (rows l)

-- the world of second t when the nodes have their turns, and when the links have
abbrev pub before_nodes : Setup → ℕ → World → World
before_nodes S t W = through S t (phase.A ∷ phase.B1 ∷ phase.B2 ∷ []) W

abbrev pub before_links : Setup → ℕ → World → World
before_links S t W = through S t (phase.A ∷ phase.B1 ∷ phase.B2 ∷ phase.C ∷ []) W

-- the buffers after second t of the day that has world W when it begins
abbrev pub buffers_second : Setup → ℕ → Buffers → World → Buffers
buffers_second S t rows W l = at_after_all l Buffer (link_turns S t l (before_links S t W)) (buffers_after S t rows (before_nodes S t W) l)
