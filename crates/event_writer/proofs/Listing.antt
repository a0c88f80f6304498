-- A list that is given some at once.
use Rattle.std.proofs.Common.{◌≡◌, ℕ, ◌+◌, List, ◌++◌, sym, ◌∙◌, ap, take, drop, take-append-drop}
use Rattle.std.proofs.lemmas.List.{drop-drop}

-- the next ones, and the others behind them
pub some_more : {X : Type 0} (xs rest piece : List X) (n m : ℕ) → rest ≡ drop n xs → piece ≡ take m rest
    → drop n xs ≡ piece ++ drop (n + m) xs
some_more xs rest piece n m is front =
    sym (take-append-drop m (drop n xs)) ∙ ap (λ l. take m l ++ drop m (drop n xs)) (sym is)
    ∙ ap (λ l. l ++ drop m (drop n xs)) (sym front) ∙ ap (λ l. piece ++ l) (drop-drop m n xs)
