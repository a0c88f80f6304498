-- Runs as one more item comes.
use Rattle.records.proofs.Common.{◌≡◌, List, [], ◌++◌, ◌∷◌, refl, true, Bool, false, append_assoc, fold-append}
use Rattle.plans.specs.Runs.{goes_on, put_behind, put, runs}

put_at : {X : Type 0} (like : X → X → Bool) (earlier : List (List X)) (run : List X) (x : X) → put like (earlier ++ run ∷ []) x ≡ earlier ++ put_behind (goes_on like run x) run x
put_at like [] run x = refl
put_at like (first ∷ []) run x = refl
put_at like (first ∷ next ∷ earlier) run x = rw (put_at like (next ∷ earlier) run x)

goes_on_last : {X : Type 0} (like : X → X → Bool) (front : List X) (y x : X) → goes_on like (front ++ y ∷ []) x ≡ like y x
goes_on_last like [] y x = refl
goes_on_last like (a ∷ []) y x = refl
goes_on_last like (a ∷ b ∷ front) y x = goes_on_last like (b ∷ front) y x

-- one item is one run
pub runs_one : {X : Type 0} (like : X → X → Bool) (x : X) → runs like (x ∷ []) ≡ (x ∷ []) ∷ []
unfolding runs
runs_one like x = refl

runs_put : {X : Type 0} (like : X → X → Bool) (xs : List X) (earlier : List (List X)) (front : List X) (y x : X) → runs like xs ≡ earlier ++ (front ++ y ∷ []) ∷ []
    → runs like (xs ++ x ∷ []) ≡ earlier ++ put_behind (like y x) (front ++ y ∷ []) x
unfolding runs
runs_put like xs earlier front y x is = rw (fold-append (put like) [] xs (x ∷ []), is, put_at like earlier (front ++ y ∷ []) x, goes_on_last like front y x)

-- an item that is like the last one goes behind it
pub runs_on : {X : Type 0} (like : X → X → Bool) (xs : List X) (earlier : List (List X)) (front : List X) (y x : X) → runs like xs ≡ earlier ++ (front ++ y ∷ []) ∷ []
    → like y x ≡ true → runs like (xs ++ x ∷ []) ≡ earlier ++ ((front ++ y ∷ []) ++ x ∷ []) ∷ []
runs_on like xs earlier front y x is on = rw on at (runs_put like xs earlier front y x is)

-- and one that is not begins a run
pub runs_new : {X : Type 0} (like : X → X → Bool) (xs : List X) (earlier : List (List X)) (front : List X) (y x : X) → runs like xs ≡ earlier ++ (front ++ y ∷ []) ∷ []
    → like y x ≡ false → runs like (xs ++ x ∷ []) ≡ (earlier ++ (front ++ y ∷ []) ∷ []) ++ ([] ++ x ∷ []) ∷ []
runs_new like xs earlier front y x is off = rw append_assoc (rw off at (runs_put like xs earlier front y x is))
