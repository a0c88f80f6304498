-- Rows of a table.
use Rattle.std.{proofs.lemmas.List.length-map, specs.Prelude.map, proofs.lemmas.List.map-set, proofs.lemmas.List.get_or-set_same}
use Rattle.std.{proofs.lemmas.List.get_or-set_other, specs.Prelude.set, specs.Prelude.◌==◌}
use Rattle.std.proofs.Common.{◌≡◌, ℕ, zero, suc, ◌<◌, inl, inr, List, [], ◌∷◌, ◌++◌, length, arith, get_or, ap, sym, ◌∙◌}
use Rattle.std.proofs.lemmas.Bool.{cases_Bool, eqb-true, eqb-false}
use Rattle.smallvec.specs.SmallVec.{SmallVec}
use Rattle.calendar.specs.Due.{Due, due_at, HasOneMore}
use Rattle.part_nodes.specs.InLinkViews.{numbers_in}

pub within : (rows : List (SmallVec ℕ)) (t : ℕ) → t < length (map numbers_in rows) → t < length rows
within rows t lt = let n = length-map rows numbers_in in omega arith

-- A ROW WITH ONE NUMBER MORE
one_more : (t i : ℕ) (old : Due) → t < length old → HasOneMore t i old (set old t (due_at t old ++ i ∷ []))
one_more t i old lt = λ u.
    elim (cases_Bool (u == t)) [
      | inl e ↦ let f : u ≡ t = eqb-true u t e in rw (e, f) (get_or-set_same old t (due_at t old ++ i ∷ []) [] lt)
      | inr e ↦ rw e (get_or-set_other old t u (due_at t old ++ i ∷ []) [] (eqb-false u t e))
    ]

read_at : (rows : List (SmallVec ℕ)) (t : ℕ) (v : SmallVec ℕ) → t < length rows → v ≡ get_or rows t v
    → due_at t (map numbers_in rows) ≡ v.items
read_at [] t v lt e = absurd (omega arith)
read_at (x ∷ xs) zero v lt e = ap numbers_in (sym e)
read_at (x ∷ xs) (suc t) v lt e = read_at xs t v (omega arith) e

pub put_row : (rows : List (SmallVec ℕ)) (t i : ℕ) (v w : SmallVec ℕ) → t < length rows → v ≡ get_or rows t v
    → w.items ≡ v.items ++ i ∷ [] → HasOneMore t i (map numbers_in rows) (map numbers_in (set rows t w))
put_row rows t i v w lt e f = λ u.
    let n = length-map rows numbers_in in
    let g : w.items ≡ due_at t (map numbers_in rows) ++ i ∷ [] = f ∙ ap (λ (xs : List ℕ). xs ++ i ∷ []) (sym (read_at rows t v lt e)) in
    ap (due_at u) (map-set numbers_in rows t w ∙ ap (set (map numbers_in rows) t) g) ∙ one_more t i (map numbers_in rows) (omega arith) u
