-- Partitions at the end.
use Rattle.std.proofs.Common.{◌≡◌, ℕ, ◌<◌, Bool, false, List, arith}
use Rattle.std.specs.Prelude.{EachIndex}
use Rattle.step_core.specs.Cores.{IsCore, AllAt, done_at, is_stopped}
use Rattle.step_core.specs.{Nets.Net, Views.PartView, declared.part.Border.Border, declared.wheel.Wheel.Wheel}

-- all of them are, where each has done all its seconds
pub at_end : {T P : Type 0} (nothing : P) (N : Net) (borders : ℕ → List Border) (see : T → PartView P) (stands spent : T → Type 0)
    (right : ℕ → ℕ → ℕ → P → Type 0) (done : List ℕ) (stopped : List Bool) (tables : List (List Border)) (parts : List T)
    (wheels : List (Wheel P)) → IsCore nothing N borders see stands spent right done stopped tables parts wheels
    → EachIndex done (λ p. done_at done p ≡ N.end) → ((p : ℕ) → p < N.parts → is_stopped stopped p ≡ false)
    → AllAt N.parts N.end done stopped
at_end nothing N borders see stands spent right done stopped tables parts wheels core each goes = record {
  all = λ p lt. each p (let d = core.dones in omega arith);
  goes = goes;
}
