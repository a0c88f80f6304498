-- One more move.
use Rattle.traffic.proofs.Common.{◌≡◌, ℕ, List, refl, [], ◌∷◌, ◌++◌, run, done, World, Setup}
use Rattle.traffic.specs.declared.moves.Move.{Move}

pub run_more : (S : Setup) (t : ℕ) (ms : List Move) (m : Move) (W : World) → run S t (ms ++ m ∷ []) W ≡ done S t m (run S t ms W)
run_more S t [] m W = refl
run_more S t (x ∷ ms) m W = run_more S t ms m (done S t x W)
