-- The pairs of neighbours, and their channels.
use Rattle.std.specs.Prelude.{◌≡◌, ℕ, ◌+◌, ◌<◌, ◌≤◌, ◌⊎◌, List, [], ◌∷◌, length, slice_index_or}
use Rattle.limits.specs.declared.TheConstants.{MAX_LAG}
use Rattle.cells.specs.{Rule.no_border, declared.table.Border.Border, declared.table.Channel.Channel}

-- two partitions, the lag from the first to the second, and the lag back
abbrev pub Pair : Type 0
Pair = ℕ × ℕ × ℕ × ℕ

-- the lesser partition first, both below `count`, and lags from 1 to 32 seconds
abbrev pub IsPair : ℕ → Pair → Type 0
IsPair count x = (x.0 < x.1) × (x.1 < count) × (1 ≤ x.2) × (x.2 ≤ MAX_LAG) × (1 ≤ x.3) × (x.3 ≤ MAX_LAG)

abbrev pub no_pair : Pair
no_pair = (0, 0, 0, 0)

abbrev pub pair_at : List Pair → ℕ → Pair
pair_at xs k = slice_index_or xs k no_pair

-- pairs of neighbours, each once
pub record ArePairs (count : ℕ) (xs : List Pair) : Type 0 where
  pub each : (k : ℕ) → k < length xs → IsPair count (pair_at xs k)
  pub distinct : (i j : ℕ) → i < j → j < length xs → (pair_at xs i).0 ≡ (pair_at xs j).0 → (pair_at xs i).1 ≡ (pair_at xs j).1 → ⊥

-- the two channels of a pair, where that from its first partition has number e
abbrev pub channel_there : Pair → ℕ → Channel
channel_there x e = record { from = x.0; to = x.1; lag = x.2; twin = e + 1 }

abbrev pub channel_back : Pair → ℕ → Channel
channel_back x e = record { from = x.1; to = x.0; lag = x.3; twin = e }

-- the channels of pairs, from number e on
abbrev pub channels_from : ℕ → List Pair → List Channel
channels_from e [] = []
channels_from e (x ∷ xs) = channel_there x e ∷ channel_back x e ∷ channels_from (e + 2) xs

abbrev pub channels_of : List Pair → List Channel
channels_of xs = channels_from 0 xs

-- some pair gives l as the lag from q to p
abbrev pub IsLag : List Pair → ℕ → ℕ → ℕ → Type 0
IsLag xs q p l = (j : ℕ) × (j < length xs)
    × ((((pair_at xs j).0 ≡ q) × ((pair_at xs j).1 ≡ p) × ((pair_at xs j).2 ≡ l))
    ⊎ (((pair_at xs j).1 ≡ q) × ((pair_at xs j).0 ≡ p) × ((pair_at xs j).3 ≡ l)))

-- the borders of a port are the neighbours of p by the pairs, with their lags to it
pub record AreLags (xs : List Pair) (p : ℕ) (borders : List Border) : Type 0 where
  pub each : (k : ℕ) → k < length borders → IsLag xs (slice_index_or borders k no_border).from p (slice_index_or borders k no_border).lag
  pub all : (q l : ℕ) → IsLag xs q p l
      → (k : ℕ) × (k < length borders) × ((slice_index_or borders k no_border).from ≡ q) × ((slice_index_or borders k no_border).lag ≡ l)
