use Rattle.std.proofs.Common.{◌≡◌, ℕ, ◌<◌, length, take, false}
use Rattle.traffic.specs.{Rows.World, Setup.Setup}
use Rattle.link_seconds.specs.Seconds.{AreShort}
use Rattle.node_seconds.specs.Networks.{lane, is_among}
use Rattle.part_links.specs.{Links.AreNumbered, Links.LinksStandAt, Links.LinesStandAt, Links.StopsThere, Phase.AreTurned}
use Rattle.part_links.proofs.phases.turn_links.Given as goal

abbrev pub invariant-loop-slot : goal.invariant-loop-slot
invariant-loop-slot l = record {
  turned : (number : ℕ → ℕ) (size : ℕ) (S : Setup) (V : World) → AreNumbered S size number → S.settings.dwell ≡ l.phase.dwell
      → LinksStandAt number size S l.phase.second l.initial.links V → LinesStandAt number size S l.initial.lines V
      → ((k : ℕ) → k < size → StopsThere S (number k) (lane l.initial.links k))
      → AreTurned number S l.phase.end l.phase.second V (take l.slot-index l.slots) l.initial.links l.links l.lines l.initial.wakes l.wakes
      l.initial.told.events.items l.told.events.items l.initial.told.said.items l.told.said.items;
  count : length l.links ≡ length l.initial.links;
  wakes : length l.wakes ≡ length l.links;
  stops : length l.lines ≡ length l.initial.lines;
  left : (m : ℕ) → is_among m (take l.slot-index l.slots) ≡ false → lane l.links m ≡ lane l.initial.links m;
  short : AreShort l.lines;
}
