-- The first fault of a file, row by row.
use Rattle.records.proofs.Common.{◌≡◌, ap, ℕ, ◌∙◌, arith, ◌<◌, sym, None, Some, refl, Option, ◌+◌, suc, add-one, Err, Reason, RowStop, Answers, first_fault}
use Rattle.records.{proofs.Common.TellsStop, proofs.First.none_more, proofs.First.first_here, specs.Faults.behind_head}
use Rattle.edge_files.specs.declared.reasons.RowStop.TheVariants as stop

-- no row has a fault where there is none
pub none_of_none : (reasons : ℕ → Option Reason) → first_fault None reasons 0 ≡ None
unfolding first_fault
none_of_none reasons = refl

-- one more row without a fault
pub one_more : (reasons : ℕ → Option Reason) (n : ℕ) → first_fault None reasons n ≡ None → reasons n ≡ None → first_fault None reasons (n + 1) ≡ None
unfolding first_fault
one_more reasons n before here = rw add-one (rw add-one at (none_more (behind_head None reasons) (suc n) before here))

-- a fault where no row before has one
pub fault_here : (reasons : ℕ → Option Reason) (n count : ℕ) (why : Reason) → n < count → first_fault None reasons n ≡ None → reasons n ≡ Some why
    → first_fault None reasons count ≡ Some (record { row = n + 1; reason = why })
unfolding first_fault
fault_here reasons n count why less before here = rw add-one (first_here (behind_head None reasons) (suc n) (suc count) why (omega arith) before here)

-- the fault of row 0 is the first
pub fault_head : (reasons : ℕ → Option Reason) (count : ℕ) (why : Reason) → first_fault (Some why) reasons count ≡ Some (record { row = 0; reason = why })
unfolding first_fault
fault_head reasons count why = first_here (behind_head (Some why) reasons) 0 (suc count) why (omega arith) refl refl

-- what is told of row 0 is told of the file
pub answers_head : {A B : Type 0} (view : A → B) (told : RowStop) (head : Option Reason) (reasons : ℕ → Option Reason) (count : ℕ) (value : B)
    → TellsStop told head → Answers view (Err told) (first_fault head reasons count) value
answers_head view (stop.Fault fault) head reasons count value tells =
    ap (λ (h : Option Reason). first_fault h reasons count) tells.1 ∙ fault_head reasons count fault.reason
    ∙ ap (λ (m : ℕ). Some (record { row = m; reason = fault.reason })) (sym tells.0)
answers_head view stop.NoMemory head reasons count value tells = tt
