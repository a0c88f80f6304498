-- Labels that prove by themselves that no walk arrives earlier.
use Rattle.std.specs.Prelude.{◌≡◌, ℕ, ◌<◌, ◌≤◌, ◌^◌, List, length, Option, Some, IfSome, IsSomeAnd}
use Rattle.walks.specs.{Rounds.label_at, Walks.start_of, Walks.end_of}

-- where the start of a link has a label, its end has one that is no later than the arrival along the link
abbrev pub IsInTime : (ℕ → ℕ → ℕ) → List (Option ℕ) → ℕ → ℕ → ℕ → Type 0
IsInTime arrive labels link start end =
    IfSome (label_at labels start) (λ left. IsSomeAnd (label_at labels end) (λ reached. reached ≤ arrive link left))

-- the labels hold along a link
abbrev pub IsKept : List (ℕ × ℕ) → (ℕ → ℕ → ℕ) → List (Option ℕ) → ℕ → Type 0
IsKept ends arrive labels link = IsInTime arrive labels link (start_of ends link) (end_of ends link)

-- every label is below 2^60
abbrev pub AreSmall : List (Option ℕ) → Type 0
AreSmall labels = (node : ℕ) → IfSome (label_at labels node) (λ label. label < 2 ^ 60)

-- a label or none for each node; that of the start node is the second of the start; each is below 2^60; and every link is kept
pub record IsCertificate (nodes : ℕ) (ends : List (ℕ × ℕ)) (arrive : ℕ → ℕ → ℕ) (from second : ℕ) (labels : List (Option ℕ)) : Type 0 where
  pub each_node : length labels ≡ nodes
  pub start : label_at labels from ≡ Some second
  pub small : AreSmall labels
  pub kept : (link : ℕ) → link < length ends → IsKept ends arrive labels link
