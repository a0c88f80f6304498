-- Vehicles at the ends of links go on along links that begin there.
use Rattle.std.specs.{List.AllByRecursion as Each, Prelude.◌≡◌, Prelude.ℕ, Prelude.◌<◌, Prelude.length}
use Rattle.traffic.specs.{Nodes.next_link, Rows.World, Rows.at, Setup.Setup, Setup.link_row, declared.stage.Stage.TheVariants.Buffer, declared.world.Row.Row}

-- a vehicle at the end of link l goes on along a link that begins there
pub record GoesOn (S : Setup) (l : ℕ) (r : Row) : Type 0 where
  pub there : next_link r.vehicle < length S.links
  pub joined : (link_row S (next_link r.vehicle)).from ≡ (link_row S l).to

-- so does each in the buffers of world V
abbrev pub GoOn : Setup → World → Type 0
GoOn S V = (l : ℕ) → l < length S.links → Each (GoesOn S l) (at l Buffer V)
