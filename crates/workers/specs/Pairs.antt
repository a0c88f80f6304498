-- The pairs of neighbours of a run.
use Rattle.std.specs.Prelude.{◌≡◌, ℕ, ◌<◌, ◌⊎◌, true, List, [], length, get_or}
use Rattle.cells.specs.Pairs.{Pair, ArePairs, pair_at, IsLag}
use Rattle.step_core.specs.{Nets.Net, Nets.AreBorders, declared.part.Border.Border}

-- the neighbours of each partition, by number
pub record AreTables (N : Net) (tables : List (List Border)) : Type 0 where
  pub many : length tables ≡ N.parts
  pub each : (p : ℕ) → p < N.parts → AreBorders N p (get_or tables p [])

-- two neighbours, the lesser first, with the lags both ways
pub record IsPairOf (N : Net) (x : Pair) : Type 0 where
  pub ascend : x.0 < x.1
  pub near : N.near x.0 x.1 ≡ true
  pub there : x.2 ≡ N.lag x.0 x.1
  pub back : x.3 ≡ N.lag x.1 x.0

-- a and b come before p and q, by the first and then by the second
abbrev pub IsBefore : ℕ → ℕ → ℕ → ℕ → Type 0
IsBefore p q a b = (a < p) ⊎ ((a ≡ p) × (b < q))

-- the pairs of neighbours that come before p and q, each once
pub record ArePairsTo (N : Net) (p q : ℕ) (xs : List Pair) : Type 0 where
  pub each : (j : ℕ) → j < length xs → IsPairOf N (pair_at xs j)
  pub before : (j : ℕ) → j < length xs → IsBefore p q (pair_at xs j).0 (pair_at xs j).1
  pub all : (a b : ℕ) → a < b → N.near a b ≡ true → IsBefore p q a b
      → (j : ℕ) × (j < length xs) × ((pair_at xs j).0 ≡ a) × ((pair_at xs j).1 ≡ b)
  pub distinct : (i j : ℕ) → i < j → j < length xs → (pair_at xs i).0 ≡ (pair_at xs j).0
      → (pair_at xs i).1 ≡ (pair_at xs j).1 → ⊥

-- pairs by which those are neighbours that the run has for neighbours, with its lags
pub record ArePairsOf (N : Net) (xs : List Pair) : Type 0 where
  pub pairs : ArePairs N.parts xs
  pub lags : (q p lag : ℕ) → IsLag xs q p lag → (N.near q p ≡ true) × (lag ≡ N.lag q p)
  pub all : (q p : ℕ) → N.near q p ≡ true → IsLag xs q p (N.lag q p)
