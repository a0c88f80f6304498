-- The first fault stays the first.
use Rattle.std.proofs.Common.{◌≡◌, ℕ, zero, suc, ◌+◌, ◌-◌, ◌<◌, Option, None, Some, add-one, zero-add, refl, arith}
use Rattle.edge_files.specs.declared.reasons.{Reason.Reason, RowFault.RowFault}
use Rattle.records.specs.Faults.{first_below}

abbrev no_fault : Option RowFault
no_fault = None

pub none_more : (reasons : ℕ → Option Reason) (n : ℕ) → first_below reasons n ≡ None → reasons n ≡ None → first_below reasons (n + 1) ≡ no_fault
none_more reasons n before here = rw (add-one, before, here) refl

stays : (reasons : ℕ → Option Reason) (more n : ℕ) (fault : RowFault) → first_below reasons n ≡ Some fault → first_below reasons (more + n) ≡ Some fault
stays reasons zero n fault is = rw zero-add is
stays reasons (suc more) n fault is =
    let same : suc (more + n) ≡ suc more + n = omega arith in
    rw (← same, stays reasons more n fault is) refl

-- a reason where no place before has one
pub first_here : (reasons : ℕ → Option Reason) (n all : ℕ) (why : Reason) → n < all → first_below reasons n ≡ None → reasons n ≡ Some why → first_below reasons all ≡ Some (record { row = n; reason = why })
first_here reasons n all why less before here =
    let at_n : first_below reasons (suc n) ≡ Some (record { row = n; reason = why }) = rw (before, here) refl in
    let later = stays reasons (all - suc n) (suc n) (record { row = n; reason = why }) at_n in
    let whole : all - suc n + suc n ≡ all = omega arith in
    rw whole at later
