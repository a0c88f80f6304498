-- Two jobs that are done at the same time.
use Rattle.std.proofs.Common.{◌≡◌, ℕ, ◌<◌, List, [], ◌∷◌, ◌++◌, length, length-append, slice_index_or, take, arith, refl, ap, sym, ◌∙◌, subst₂}

take_front : {A : Type 0} (xs more : List A) → take (length xs) (xs ++ more) ≡ xs
take_front [] more = refl
take_front (x ∷ xs) more = ap (λ l. x ∷ l) (take_front xs more)

-- what is true of each place before and behind is true of both, which are taken out one after the other
pub both_done : {A : Type 0} (D : A → A → Type 0) (old new more rest last : List A) (a b x y : A) (n : ℕ) → old ≡ a ∷ b ∷ []
    → length new ≡ length old → n ≡ length new
    → ((i : ℕ) (d : A) → i < length old → D (slice_index_or old i d) (slice_index_or new i d))
    → take n (new ++ more) ≡ rest ++ y ∷ [] → rest ≡ last ++ x ∷ [] → D a x × D b y
both_done D old new more rest [] a b x y n first long count each is next =
    let two = ap length first in
    let front : take n (new ++ more) ≡ new = ap (λ k. take k (new ++ more)) count ∙ take_front new more in
    let news : new ≡ x ∷ y ∷ [] = sym front ∙ is ∙ ap (λ l. l ++ y ∷ []) next in (
      subst₂ D (ap (λ l. slice_index_or l 0 a) first) (ap (λ l. slice_index_or l 0 a) news) (each 0 a (omega (arith, two))),
      subst₂ D (ap (λ l. slice_index_or l 1 a) first) (ap (λ l. slice_index_or l 1 a) news) (each 1 a (omega (arith, two))),
    )
both_done D old new more rest (z ∷ zs) a b x y n first long count each is next =
    let two = ap length first in
    let front : take n (new ++ more) ≡ new = ap (λ k. take k (new ++ more)) count ∙ take_front new more in
    let all = ap length (sym front ∙ is) ∙ length-append rest (y ∷ []) in
    let most = ap length next ∙ length-append (z ∷ zs) (x ∷ []) in
    absurd (omega (arith, two, long, all, most))
