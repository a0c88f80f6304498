-- Which of a person's plans is the worst and which is the best, by their scores. A plan that was not tried yet has no score.
use Rattle.std.specs.{Int.int_max, List.list_all}
use Rattle.std.specs.Prelude.{ℕ, Bool, true, false, int_le, List, unwrap_or, position, Option, None, Some, ℤ, fold}

-- a score is no higher than another; no score is the lowest of all
abbrev pub is_at_most : Option ℤ → Option ℤ → Bool
is_at_most None other = true
is_at_most (Some score) None = false
is_at_most (Some score) (Some other) = int_le score other

-- a score is no lower than another; no score is the highest of all, so that each plan is tried once
abbrev pub is_at_least : Option ℤ → Option ℤ → Bool
is_at_least None other = true
is_at_least (Some score) None = false
is_at_least (Some score) (Some other) = int_le other score

-- the score is no higher than any, and no lower than any
unfoldable pub is_lowest : List (Option ℤ) → Option ℤ → Bool
is_lowest scores score = list_all (is_at_most score) scores

unfoldable pub is_highest : List (Option ℤ) → Option ℤ → Bool
is_highest scores score = list_all (is_at_least score) scores

-- the place of the worst plan: the first one without a score, or else the first one of the lowest score
unfoldable pub worst : List (Option ℤ) → ℕ
worst scores = unwrap_or (position (is_lowest scores) scores) 0

-- the place of the best plan: the first one without a score, or else the first one of the highest score
unfoldable pub best : List (Option ℤ) → ℕ
best scores = unwrap_or (position (is_highest scores) scores) 0

-- the higher of two scores, where there are two
abbrev pub higher : Option ℤ → Option ℤ → Option ℤ
higher None other = other
higher (Some score) None = Some score
higher (Some score) (Some other) = Some (int_max score other)

-- the highest score of the plans that have one
abbrev pub highest : List (Option ℤ) → Option ℤ
highest scores = fold higher None scores
