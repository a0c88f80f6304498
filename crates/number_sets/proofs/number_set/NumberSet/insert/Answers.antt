use Rattle.std.proofs.Common.{arith, ◌∙◌, ap}
use Rattle.std.proofs.lemmas.Nat.{or_lt}
use Rattle.std.specs.Prelude.{ℕ, true, ◌==◌, if◌then◌else◌}
use Rattle.number_sets.specs.Sets.{has}
use Rattle.number_sets.proofs.Bits.{inserted}
use Rattle.number_sets.proofs.number_set.NumberSet.insert.Goals as goal

pub invariant_of-self : goal.invariant_of-self
invariant_of-self c = or_lt 64 c.self.inside.bits _ c.self.invariant (omega arith)

pub returns : goal.returns
returns c = λ k.
    inserted c.self.inside.bits c.args.number k c.requires
    ∙ ap (λ (bits : ℕ). if k == c.args.number then true else has bits k) c.self.view_is
