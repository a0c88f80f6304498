-- What is taken of a port's neighbours, one after another.
use Rattle.std.proofs.Common.{◌≡◌, ℕ, ◌+◌, ◌<◌, ◌≤◌, true, List, length, set, sym, ap, ◌∙◌, subst, get_or-set_same, get_or-set_other, arith}
use mathlib.Core.Logic.{dite}
use native.Mathlib.Decide.{ℕ_discrete}
use Rattle.cells.proofs.Uses.{same_trans, taken_unread}
use Rattle.cells.specs.Ports.{IsPort, SameSecond, IsUnread, degree, handover, handover_at, is_taken}
use Rattle.cells.specs.declared.{board.Handover.TheVariants.Awaited, board.Handover.TheVariants.Taken, board.Port.Port, table.Border.Border}
use Rattle.cell_tests.specs.{Members.NumberBoard, Numbers.IsNumber, declared.numbers.Numbers.Numbers}

abbrev pub NumberPort : Type 0
NumberPort = Port Numbers ℕ ℕ

-- in this second what the first k neighbours sent was taken, and of the others nothing
abbrev pub HasTaken : NumberBoard → NumberPort → ℕ → NumberPort → Type 0
HasTaken b before k q =
    IsPort IsNumber b q × SameSecond before q × ((j : ℕ) → j < k → is_taken (handover q j) ≡ true)
    × ((j : ℕ) → k ≤ j → j < degree q → IsUnread q j)

-- it was taken of neighbour k
pub took : (b : NumberBoard) (before q r : NumberPort) (k : ℕ) → HasTaken b before k q → k < degree q → IsPort IsNumber b r
    → SameSecond q r → r.handovers.items ≡ set q.handovers.items k Taken → HasTaken b before (k + 1) r
took b before q r k i lk port s held = let long = i.0.long in let rows = ap (λ (v : List Border). length v) s.borders in (
  port,
  same_trans before q r i.1 s,
  (λ j lj. ap (λ z. is_taken (handover_at z j)) held ∙ dite (ℕ_discrete j k)
      (λ e. subst (λ v. is_taken (handover_at (set q.handovers.items k Taken) v) ≡ true) (sym e)
      (ap is_taken (get_or-set_same q.handovers.items k Taken Awaited (omega arith))))
      (λ ne. ap is_taken (get_or-set_other q.handovers.items k j Taken Awaited ne) ∙ i.2 j (omega arith))),
  (λ j lj lb. taken_unread q r k j s held (λ e. absurd (omega arith)) (i.3 j (omega arith) (omega arith))),
)
