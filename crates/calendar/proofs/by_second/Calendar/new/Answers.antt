use Rattle.std.proofs.Common.{[], refl}
use Rattle.calendar.{proofs.Laid.laid_none, specs.Blocks.head_at}
use Rattle.calendar.proofs.by_second.Calendar.new.Goals as goal

pub invariant_of-result : goal.invariant_of-result
invariant_of-result c = rw (c.new.ensures.items, c.new-2.ensures.items, c.none.ensures) (laid_none (head_at []) (λ v. refl))
