-- The lines of scores.csv: `iteration,person,plan,score`.
use Rattle.std.specs.{Fmt.signed_decimal, List.flat_map, List.zip, Prelude.ℕ, Prelude.List, Prelude.◌++◌, Prelude.codes, Prelude.decimal, Prelude.ℤ}

-- the line of a person: of the plan of this number in his memory, and with the score of it in micro-utils
unfoldable pub score_line : ℕ → List ℕ → ℕ → ℤ → List ℕ
score_line iteration person plan score =
    decimal iteration ++ codes "," ++ person ++ codes "," ++ decimal plan ++ codes "," ++ signed_decimal score ++ codes "\n"

-- a person's name, the number of his chosen plan, and its score
abbrev pub ScoreRow : Type 0
ScoreRow = List ℕ × (ℕ × ℤ)

abbrev pub row_line : ℕ → ScoreRow → List ℕ
row_line iteration row = score_line iteration row.0 row.1.0 row.1.1

-- the lines of the persons of these names, one for each, with the numbers of their chosen plans and their scores
unfoldable pub scores_text : ℕ → List (List ℕ) → List ℕ → List ℤ → List ℕ
scores_text iteration persons chosen scores = flat_map (row_line iteration) (zip persons (zip chosen scores))
