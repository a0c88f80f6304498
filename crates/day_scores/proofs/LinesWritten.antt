-- The line of one person comes off the front of those that are still to be written.
use Rattle.std.proofs.Common.{◌≡◌, ℕ, ◌+◌, ◌<◌, ◌≤◌, List, [], ◌++◌, length, get_or, drop, ℤ, pos, FitsSigned, w64, to_z, of_z, sym, ap, ◌∙◌, append_assoc}
use Rattle.std.proofs.{Common.append-nil, Common.arith, Common.drop_of_length-le, lemmas.Int.ints, lemmas.List.drop_more}
use Rattle.std.specs.{Fmt.signed_decimal, List.flat_map, List.zip, Prelude.codes, Prelude.decimal}
use Rattle.day_scores.specs.Texts.{score_line, row_line}

-- the pieces of a line, one after the other
pub pieces : (t t1 t2 t3 t4 t5 t6 t7 t8 person a b c : List ℕ) (iteration plan : ℕ) (score : ℤ)
    → t1 ≡ t ++ a → t2 ≡ t1 ++ codes "," → t3 ≡ t2 ++ person → t4 ≡ t3 ++ codes "," → t5 ≡ t4 ++ b → t6 ≡ t5 ++ codes "," → t7 ≡ t6 ++ c
    → t8 ≡ t7 ++ codes "\n" → a ≡ decimal iteration → b ≡ decimal plan → c ≡ signed_decimal score
    → t8 ≡ t ++ score_line iteration person plan score
unfolding score_line
pieces t t1 t2 t3 t4 t5 t6 t7 t8 person a b c iteration plan score e1 e2 e3 e4 e5 e6 e7 e8 f g h =
    rw (e8, e7, e6, e5, e4, e3, e2, e1, f, g, h) (simp append_assoc)

-- the lines of the persons from a place on
abbrev from_place : ℕ → List (List ℕ) → List ℕ → List ℤ → ℕ → List ℕ
from_place iteration persons chosen scores i = flat_map (row_line iteration) (zip (drop i persons) (zip (drop i chosen) (drop i scores)))

pub lines-more : (iteration : ℕ) (persons : List (List ℕ)) (chosen : List ℕ) (scores : List ℤ) (i : ℕ) (text more all : List ℕ)
    → i < length persons → length chosen ≡ length persons → length scores ≡ length persons
    → more ≡ text ++ score_line iteration (get_or persons i []) (get_or chosen i 0) (get_or scores i (pos 0))
    → text ++ from_place iteration persons chosen scores i ≡ all → more ++ from_place iteration persons chosen scores (i + 1) ≡ all
lines-more iteration persons chosen scores i text more all here each_plan each_score pushed so_far =
    let plan_here : i < length chosen = omega arith in
    let score_here : i < length scores = omega arith in
    let line : List ℕ = score_line iteration (get_or persons i []) (get_or chosen i 0) (get_or scores i (pos 0)) in
    let rest : from_place iteration persons chosen scores i ≡ line ++ from_place iteration persons chosen scores (i + 1) =
    rw (drop_more persons i [] here, drop_more chosen i 0 plan_here, drop_more scores i (pos 0) score_here) in
    ap (λ (l : List ℕ). l ++ from_place iteration persons chosen scores (i + 1)) pushed ∙ append_assoc text line (from_place iteration persons chosen scores (i + 1))
    ∙ ap (λ (l : List ℕ). text ++ l) (sym rest) ∙ so_far

pub lines-all : (iteration : ℕ) (persons : List (List ℕ)) (chosen : List ℕ) (scores : List ℤ) (i : ℕ) (text all : List ℕ)
    → length persons ≤ i → text ++ from_place iteration persons chosen scores i ≡ all → text ≡ all
lines-all iteration persons chosen scores i text all done so_far =
    let none : from_place iteration persons chosen scores i ≡ [] = rw (drop_of_length-le persons done) in
    sym (append-nil text) ∙ ap (λ (l : List ℕ). text ++ l) (sym none) ∙ so_far

-- a number of 64 bits comes back from them
pub fits-code : (z : ℤ) → FitsSigned w64 z → to_z w64 (of_z w64 z) ≡ z
fits-code z h = omega (arith, ints)
