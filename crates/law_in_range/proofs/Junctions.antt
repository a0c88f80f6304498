-- The turn of a node makes fit moves.
use Rattle.traffic.proofs.Common.{ℕ, length, refl, ◌<◌, ◌+◌, not, Option, node_turns, entered, has_room, World, Setup}
use Rattle.traffic.proofs.NodeWalk.{NodeCases, node_walk}
use Rattle.traffic.specs.declared.{node_views.OutLink.OutLink, stage.Stage.TheVariants.Buffer, world.Row.Row}
use Rattle.law_in_range.proofs.{Boarding.driven, Kept.along_fit, Sizes.row_at, Sizes.next_below, Telling.changes_fit, Telling.aborts_fit}
use Rattle.law_in_range.specs.{Moves.IsFitMove, Moves.AreFitMoves, Rows.Counts, Rows.IsFitRow, Rows.IsFitWorld, Setups.IsFitSetup}

entered_fit : (z : Counts) (t : ℕ) (e : Option OutLink) (r : Row) → IsFitRow z r → r.vehicle.place + 1 < length r.vehicle.route → IsFitRow z (entered t e r.vehicle)
entered_fit z t e r h lt =
    record { vehicle = driven z r.vehicle (r.vehicle.place + 1) r.vehicle.started (not (has_room e)) h.vehicle lt; link = next_below z r h lt; stage = tt }

node_cases : (z : Counts) (S : Setup) (t n : ℕ) → NodeCases S t n (λ W m. IsFitWorld z W → IsFitMove z m)
node_cases z S t n =
    record {
      enter = λ a e r xs W f q c h. (
          let g = row_at z a Buffer 0 r W h (rw f.rows refl) in
          let now = entered_fit z t e r g.0 g.1 in (now, changes_fit z r (entered t e r.vehicle) g.0 now)
          );
      abort = λ a r xs W f c h. (tt, aborts_fit z r (row_at z a Buffer 0 r W h (rw f.rows refl)).0);
      mark = λ a W c h. (tt, tt);
    }

pub node_fit : (z : Counts) (S : Setup) (t n : ℕ) (W : World) → IsFitSetup z S → IsFitWorld z W → AreFitMoves z (node_turns S t n W)
node_fit z S t n W f h = along_fit z S t (node_turns S t n W) W f (node_walk S t n _ (node_cases z S t n) W) h
