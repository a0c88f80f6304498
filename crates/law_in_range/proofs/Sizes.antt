-- What fit rows have by their stage, and the next call of a fit vehicle.
use Rattle.traffic.proofs.Common.{◌≡◌, ℕ, length, arith, ◌<◌, ◌+◌, inl, inr, subst, ◌≤◌, false, slice_get, cases_lt, get_or_past, All-get_or, Some, next_link}
use Rattle.traffic.proofs.{Common.World, Common.at, Common.next_call, Common.VehicleState, Common.IsSoundStage, Sublists.at_such}
use Rattle.traffic.specs.declared.{stage.Stage.Stage, stage.Stage.TheVariants.Buffer, world.Row.Row}
use Rattle.limits.specs.declared.TheConstants.{LAST_SECOND}
use Rattle.law_in_range.{proofs.Telling.call_fit, specs.Rows.Counts, specs.Rows.IsFitLink, specs.Rows.IsFitVehicle, specs.Rows.IsFitRow, specs.Rows.IsFitWorld}

-- a row at a place of a link is fit, and has what its stage says
pub row_at : (z : Counts) (l : ℕ) (s : Stage) (k : ℕ) (r : Row) (W : World) → IsFitWorld z W → slice_get (at l s W) k ≡ Some r → IsFitRow z r × IsSoundStage s r.vehicle
row_at z l s k r W h e = let f = at_such (IsFitRow z) l s k r W.rows h.rows e in (f.0, subst (λ (x : Stage). IsSoundStage x r.vehicle) f.1 f.0.stage)

pub next_below : (z : Counts) (r : Row) → IsFitRow z r → r.vehicle.place + 1 < length r.vehicle.route → next_link r.vehicle < z.links
next_below z r h lt = All-get_or (IsFitLink z) r.vehicle.route (r.vehicle.place + 1) 0 lt h.vehicle.route

pub buffer_next : (z : Counts) (r : Row) → IsFitRow z r → r.stage ≡ Buffer → r.vehicle.place + 1 < length r.vehicle.route
buffer_next z r h e = subst (λ (s : Stage). IsSoundStage s r.vehicle) e h.stage

pub buffer_next_link : (z : Counts) (r : Row) → IsFitRow z r → r.stage ≡ Buffer → next_link r.vehicle < z.links
buffer_next_link z r h e = next_below z r h (buffer_next z r h e)

pub call_offset : (z : Counts) (v : VehicleState) → IsFitVehicle z v → (next_call v).offset ≤ LAST_SECOND
call_offset z v h =
    elim (cases_lt v.served (length v.calls)) [
      | inl lt ↦ (call_fit z v v.served h lt).offset
      | inr ge ↦ rw (get_or_past v.calls v.served (record { stop = 0; link = 0; offset = 0; wait = false }) ge) (omega arith)
    ]
