-- Which numbers are due in which second.
use Rattle.std.specs.Prelude.{◌≡◌, ℕ, ◌<◌, List, [], ◌∷◌, ◌++◌, get_or, ◌==◌, if◌then◌else◌}
use Rattle.std.specs.List.{AllByRecursion as Each}

-- they are numbers of so many
abbrev pub AreIn : ℕ → List ℕ → Type 0
AreIn count ns = Each (λ (n : ℕ). n < count) ns

-- the numbers of each second, in the order in which they came
abbrev pub Due : Type 0
Due = List (List ℕ)

-- the numbers that are due in second t
abbrev pub due_at : ℕ → Due → List ℕ
due_at t due = get_or due t []

-- in second t one number more is due, and in all others the same ones as before
abbrev pub HasOneMore : ℕ → ℕ → Due → Due → Type 0
HasOneMore t i old new = (u : ℕ) → due_at u new ≡ (if u == t then due_at u old ++ i ∷ [] else due_at u old)

-- in second t no number is due any more, and in all others the same ones as before
abbrev pub HasNone : ℕ → Due → Due → Type 0
HasNone t old new = (u : ℕ) → due_at u new ≡ (if u == t then [] else due_at u old)
