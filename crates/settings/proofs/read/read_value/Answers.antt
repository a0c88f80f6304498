use Rattle.std.proofs.Common.{◌≡◌, ◌∙◌, [], length, nat_eq, Some, true, false, sym, ap, rules, arith}
use Rattle.settings.{proofs.Objects.empty_object, proofs.Objects.value_read, proofs.Objects.value_refused, specs.Faults.value_of}
use Rattle.settings.proofs.read.read_value.Goals as goal

pub returns-then-is_empty : goal.returns-then-is_empty
unfolding value_of
returns-then-is_empty c =
    let none : nat_eq (length c.args.bytes.now) 0 ≡ true = search rules in
    let bare : c.new.result.entries ≡ [] = search rules in
    ap Some (empty_object c.new.result bare) ∙ rw none

pub returns-in-Ok : goal.returns-in-Ok
returns-in-Ok c =
    let some : nat_eq (length c.args.bytes.now) 0 ≡ false = search rules in
    sym (value_read _ _ some c.in-Ok.ensures.ok.0 c.in-Ok.ensures.ok.1)

pub returns-else-is_memory : goal.returns-else-is_memory
returns-else-is_memory c =
    let some : nat_eq (length c.args.bytes.now) 0 ≡ false = search rules in
    sym (value_refused _ some (c.in-Err.ensures.err (λ is. let memory = c.is_memory.ensures.1 is in grind arith)))
