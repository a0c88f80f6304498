-- Where no turn changes what another one sees, all turns of a phase are those of the world at its start.
use Rattle.traffic.proofs.Common.{◌≡◌, ℕ, List, ◌∙◌, ap, refl, [], ◌∷◌, arith, ◌<◌, ◌++◌, ◌+◌, Bool, ◌≤◌, false, suc, eqb, zero, ◌≢◌, append-nil, flat_map, map}
use Rattle.traffic.proofs.Common.{filter, moves_of, after, turns, TurnMoves, Untouched, nat_tests, Apart, turn_of, below, numbers, Move, run, at_after_all, Row}
use Rattle.traffic.proofs.{Common.World, Common.at, Common.Setup, Sublists.at_after_all-untouched, Sublists.at_after_all-append, Sublists.at-run}
use Rattle.traffic.specs.declared.stage.Stage.{Stage}

abbrev pub Fresh : ℕ → List ℕ → Type 0
Fresh x [] = Unit {0}
Fresh x (y ∷ ys) = (y ≢ x) × Fresh x ys

abbrev pub Distinct : List ℕ → Type 0
Distinct [] = Unit {0}
Distinct (x ∷ xs) = Fresh x xs × Distinct xs

pub Fresh-numbers : (x k n : ℕ) → x < k → Fresh x (numbers k n)
Fresh-numbers x k zero h = tt
Fresh-numbers x k (suc n) h = (omega arith, Fresh-numbers x (k + 1) n (omega arith))

pub Distinct-numbers : (k n : ℕ) → Distinct (numbers k n)
Distinct-numbers k zero = tt
Distinct-numbers k (suc n) = (Fresh-numbers k (k + 1) n (omega arith), Distinct-numbers (k + 1) n)

turns_seen : (S : Setup) (t : ℕ) (plan : TurnMoves) → Apart S t plan → (m : ℕ) (W : World) (ns : List ℕ) → Fresh m ns → map (turn_of plan (run S t (plan m W) W)) ns ≡ map (turn_of plan W) ns
turns_seen S t plan apart m W [] h = refl
turns_seen S t plan apart m W (n ∷ ns) h = let e = apart n m W h.0 in let f = turns_seen S t plan apart m W ns h.1 in cc

-- the fold is a map over the world at the start
pub turns_at_once : (S : Setup) (t : ℕ) (plan : TurnMoves) → Apart S t plan → (ns : List ℕ) (W : World) → Distinct ns → turns S t plan ns W ≡ map (turn_of plan W) ns
unfolding turns
turns_at_once S t plan apart [] W h = refl
turns_at_once S t plan apart (n ∷ ns) W h = cc (turns_seen S t plan apart n W ns h.0, turns_at_once S t plan apart ns (run S t (plan n W) W) h.1)

pub moves_of-map : (plan : TurnMoves) (W : World) (ns : List ℕ) → moves_of (map (turn_of plan W) ns) ≡ flat_map (λ n. plan n W) ns
moves_of-map plan W [] = refl
moves_of-map plan W (n ∷ ns) = ap (λ ys. plan n W ++ ys) (moves_of-map plan W ns)

-- turns that do not touch a list can be left out
pub at_after_all-filter : (plan : ℕ → List Move) (mine : ℕ → Bool) (l : ℕ) (s : Stage) → ((n : ℕ) → mine n ≡ false → Untouched l s (plan n)) →
    (ns : List ℕ) (xs : List Row) → at_after_all l s (flat_map plan ns) xs ≡ at_after_all l s (flat_map plan (filter mine ns)) xs
at_after_all-filter plan mine l s h [] xs = refl
at_after_all-filter plan mine l s h (n ∷ ns) xs =
    let split = at_after_all-append l s (plan n) in
    grind (
      arith,
      split (flat_map plan ns) xs,
      split (flat_map plan (filter mine ns)) xs,
      at_after_all-filter plan mine l s h ns,
      at_after_all-untouched l s (plan n) xs,
      h n,
    )

-- a list after a whole phase, by the moves of those who touch it
pub at-phase : (S : Setup) (t : ℕ) (plan : TurnMoves) → Apart S t plan → (mine : ℕ → Bool) (l : ℕ) (s : Stage) (W : World) → ((n : ℕ) → mine n ≡ false → Untouched l s (plan n W)) →
    (ns : List ℕ) → Distinct ns → at l s (after S t (turns S t plan ns W) W) ≡ at_after_all l s (flat_map (λ n. plan n W) (filter mine ns)) (at l s W)
at-phase S t plan apart mine l s W h ns d =
    at-run S t l s (moves_of (turns S t plan ns W)) W
    ∙ ap (λ us. at_after_all l s (moves_of us) (at l s W)) (turns_at_once S t plan apart ns W d)
    ∙ ap (λ ms. at_after_all l s ms (at l s W)) (moves_of-map plan W ns)
    ∙ at_after_all-filter (λ n. plan n W) mine l s h ns (at l s W)

filter_none : (x k n : ℕ) → x < k → filter (λ y. eqb y x) (numbers k n) ≡ []
filter_none x k zero h = refl
filter_none x k (suc n) h = grind (arith, nat_tests, filter_none x (k + 1) n)

pub filter_one : (x k n : ℕ) → k ≤ x → x < k + n → filter (λ y. eqb y x) (numbers k n) ≡ x ∷ []
filter_one x k zero h g = absurd (omega arith)
filter_one x k (suc n) h g = grind (arith, nat_tests, filter_one x (k + 1) n, filter_none x (k + 1) n)

-- a list that only the turn of x changes in this phase
pub at-phase_one : (S : Setup) (t : ℕ) (plan : TurnMoves) → Apart S t plan → (x n l : ℕ) (s : Stage) (W : World) → x < n → ((m : ℕ) → eqb m x ≡ false → Untouched l s (plan m W)) →
    at l s (after S t (turns S t plan (below n) W) W) ≡ at_after_all l s (plan x W) (at l s W)
at-phase_one S t plan apart x n l s W lt h =
    at-phase S t plan apart (λ y. eqb y x) l s W h (below n) (Distinct-numbers 0 n)
    ∙ ap (λ ns. at_after_all l s (flat_map (λ m. plan m W) ns) (at l s W)) (filter_one x 0 n (omega arith) (omega arith))
    ∙ ap (λ ms. at_after_all l s ms (at l s W)) (append-nil (plan x W))
