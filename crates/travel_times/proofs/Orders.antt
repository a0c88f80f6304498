-- Events in order.
use Rattle.std.proofs.Common.{◌≡◌, ℕ, zero, suc, ◌+◌, ◌<◌, List, length, refl, arith}
use Rattle.std.specs.Prelude.{slice_index_or}
use Rattle.events.specs.declared.event.Event.{Event}
use Rattle.travel_times.specs.Observed.{AreInOrder}

-- an event that comes before the one before it is out of order
pub out_of_order : (events : List Event) (place last : ℕ) (d : Event) → place < length events →
    (slice_index_or events place d).key.second < last
    → ((k : ℕ) (e : Event) → k + 1 ≡ place → last ≡ (slice_index_or events k e).key.second) → (place ≡ 0 → last ≡ 0) → AreInOrder events → ⊥
out_of_order events zero last d within less before first order = let none = first refl in omega arith
out_of_order events (suc place) last d within less before first order =
    let is = before place d (omega arith) in
    let later = order place (suc place) d (omega arith) within in
    omega arith
