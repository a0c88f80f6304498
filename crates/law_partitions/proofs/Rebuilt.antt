-- A row that enters a queue follows from its vehicle and the second.
use Rattle.traffic.proofs.Common.{◌≡◌, ℕ, [], ◌∷◌, Bool, All-from_recursion, ◌&&◌, All, world_at, through, on, Setup}
use Rattle.traffic.proofs.Each.{each_if, each_flat, each_map}
use Rattle.traffic.specs.declared.{moves.Move.Move, stage.Stage.TheVariants.Queue, world.Row.Row}
use Rattle.std.specs.List.{AllByRecursion as Each}
use Rattle.events.specs.declared.event.Phase.TheVariants as phase
use Rattle.parts.specs.{Owners.Owner, Owners.leads, Parts.Passed, Parts.passed, Parts.entering_row, Parts.enters_queue, Parts.out}
use Rattle.law_partitions.proofs.{Handed.Handed, Handed.by_pass_node, Second.C_moves, Second.C-handed}

-- the row is what its vehicle makes it
abbrev IsRebuilt : Setup → ℕ → Row → Type 0
IsRebuilt S t r = r ≡ entering_row S t r.vehicle

one_rebuilt : (S : Setup) (t : ℕ) (p : ℕ → Bool) (m : Move) → Handed S t m → Each (IsRebuilt S t) (enters_queue p m)
one_rebuilt S t p m h = by_pass_node S t (λ m. Each (IsRebuilt S t) (enters_queue p m)) (λ a k was now e. each_if (IsRebuilt S t) (p now.link && on now.link Queue now) _ _ (e, tt) tt) (λ a k was. tt) (λ a u. tt) m h

pub rebuilt : (S : Setup) (own : Owner) (p q t : ℕ) → All (λ (x : Passed). x.row ≡ entering_row S t x.row.vehicle) (out S own p q t).vehicles
unfolding out
rebuilt S own p q t =
    let V = through S t (phase.A ∷ phase.B1 ∷ phase.B2 ∷ []) (world_at S t) in
    let new = enters_queue (leads S own p q) in
    All-from_recursion (λ (x : Passed). x.row ≡ entering_row S t x.row.vehicle) _
    (each_map (IsRebuilt S t) (λ (x : Passed). IsRebuilt S t x.row) (passed (world_at S t)) (λ r g. g) _ (each_flat (Handed S t) (IsRebuilt S t) new (one_rebuilt S t (leads S own p q)) (C_moves S t V) (C-handed S t V)))
