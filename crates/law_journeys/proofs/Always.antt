-- What the moves of every second keep holds in every second, and in the world of every move.
use Rattle.traffic.proofs.Common.{ℕ, subst, sym, phases, world_start, world_at, done, World, Setup}
use Rattle.traffic.proofs.{Moments.Along, Moments.kept_along, Moments.held_along, Walks.seconds_keep}
use Rattle.law_capacity.{proofs.Turns.through_moves, specs.Moves.second_moves}
use Rattle.law_journeys.proofs.Walk.{Cases, second_walk}

abbrev pub KeepsWorld : (World → Type 0) → Setup → Type 0
KeepsWorld I S = (t : ℕ) → Cases S t (λ W m. I W → I (done S t m W))

pub always : (I : World → Type 0) (S : Setup) → KeepsWorld I S → I (world_start S) → (t : ℕ) → I (world_at S t)
always I S cases start t =
    seconds_keep I S (λ u W h. subst I (sym (through_moves S u phases W)) (kept_along I S u (second_moves S u W) W (second_walk S u _ (cases u) W) h)) (world_start S) t start

pub at_each_move : (I : World → Type 0) (S : Setup) → KeepsWorld I S → I (world_start S) → (t : ℕ) → Along (λ V m. I V) S t (second_moves S t (world_at S t)) (world_at S t)
at_each_move I S cases start t = (held_along I S t (second_moves S t (world_at S t)) (world_at S t) (second_walk S t _ (cases t) (world_at S t)) (always I S cases start t)).0
