-- What a random word chooses.
use Rattle.std.specs.Prelude.{ℕ, suc, ◌+◌, ◌*◌, ◌/◌, ◌^◌, List, [], ◌∷◌, sum, nat_lt, if◌then◌else◌, ℤ, pos, ◌+ℤ◌, ◌-ℤ◌}
use Rattle.std.specs.Int.RustNames.{unsigned_abs}

-- of this many numbers from 0 on, the one as far along as the word is among all words of 32 bits
unfoldable pub below : ℕ → ℕ → ℕ
below count word = word * count / 2 ^ 32

-- the sum up to and with each weight, on top of what came before
unfoldable pub running_sums : ℕ → List ℕ → List ℕ
running_sums before [] = []
running_sums before (weight ∷ weights) = (before + weight) ∷ running_sums (before + weight) weights

-- the first place whose number exceeds the target
unfoldable pub first_above : ℕ → List ℕ → ℕ
first_above target [] = 0
first_above target (number ∷ numbers) = if nat_lt target number then 0 else suc (first_above target numbers)

-- the place that the word draws by the weights: the first one whose running sum exceeds the word's share of the whole
unfoldable pub pick : List ℕ → ℕ → ℕ
pick weights word = first_above (below (sum weights) word) (running_sums 0 weights)

-- how many whole numbers there are from low to high, both included
abbrev pub count_of : ℤ → ℤ → ℕ
count_of low high = unsigned_abs (high -ℤ low) + 1

-- the one of these that the word draws
unfoldable pub between : ℤ → ℤ → ℕ → ℤ
between low high word = low +ℤ pos (below (count_of low high) word)
