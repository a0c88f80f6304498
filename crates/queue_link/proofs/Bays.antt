-- Vehicles leave a bay one by one.
use Rattle.std.proofs.Common.{◌≡◌, ℕ, true, List, [], ◌∷◌, ◌++◌, ap, sym, ◌∙◌, inl, inr, append_assoc}
use Rattle.std.proofs.lemmas.{Bool.cases_Bool, List.map-append, List.Elements.filter-append}
use Rattle.std.specs.Prelude.{map, filter}
use Rattle.traffic.specs.{Links.waiting, declared.world.Row.Row}
use Rattle.queue_link.specs.Turns.{is_due, left_in_bay}

-- one row more that is due, or is not
pub due_more : (t : ℕ) (rows : List Row) (r : Row) → is_due t r ≡ true → filter (is_due t) (rows ++ r ∷ [])
    ≡ filter (is_due t) rows ++ r ∷ []
due_more t rows r e = filter-append (is_due t) rows (r ∷ []) ∙ ap (λ (xs : List Row). filter (is_due t) rows ++ xs)
    (let q : filter (is_due t) (r ∷ []) ≡ r ∷ [] = simp e in q)

pub left_same : (t : ℕ) (rows : List Row) (r : Row) → is_due t r ≡ true → left_in_bay t (rows ++ r ∷ []) ≡ left_in_bay t rows
left_same t [] r e = simp e
left_same t (x ∷ rows) r e = elim (cases_Bool (is_due t x)) [
  | inl q ↦ simp q (left_same t rows r e)
  | inr q ↦ simp q (ap (λ (xs : List Row). x ∷ xs) (left_same t rows r e))
]

-- what one row more does to the wait list and to what is told
pub waits_more : (l : ℕ) (wait rows : List Row) (r : Row) → (wait ++ map (waiting l) rows) ++ waiting l r ∷ []
    ≡ wait ++ map (waiting l) (rows ++ r ∷ [])
waits_more l wait rows r = append_assoc wait (map (waiting l) rows) (waiting l r ∷ [])
    ∙ ap (λ (xs : List Row). wait ++ xs) (sym (map-append (waiting l) rows (r ∷ [])))
