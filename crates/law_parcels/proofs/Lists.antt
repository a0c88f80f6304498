-- Lists that are made of each of some numbers.
use Rattle.traffic.proofs.Common.{◌≡◌, ◌≢◌, ◌⊎◌, ℕ, zero, suc, ◌+◌, ◌<◌, ◌≤◌, List, [], ◌∷◌, ◌++◌, ◌∙◌, ap, refl, sym, arith, inl, inr, cases_Bool, Bool}
use Rattle.traffic.proofs.Common.{length, get_or, flat_map, filter, numbers, eqb, eqb-true, eqb-false, append-nil, if◌then◌else◌}

-- of a range, where each gives the same
pub same_flat : {X : Type 0} (f g : ℕ → List X) (c : ℕ) → ((i : ℕ) → i < c → f i ≡ g i) → (k n : ℕ) → k + n ≤ c
    → flat_map f (numbers k n) ≡ flat_map g (numbers k n)
same_flat f g c h k zero le = refl
same_flat {X} f g c h k (suc n) le =
    ap (λ (xs : List X). xs ++ flat_map f (numbers (k + 1) n)) (h k (omega arith))
    ∙ ap (λ (xs : List X). g k ++ xs) (same_flat f g c h (k + 1) n (omega arith))

-- where those who do not pass give nothing
pub passed_flat : {X : Type 0} (p : ℕ → Bool) (g : ℕ → List X) (ns : List ℕ)
    → flat_map (λ (i : ℕ). if p i then g i else []) ns ≡ flat_map g (filter p ns)
passed_flat p g [] = refl
passed_flat {X} p g (n ∷ ns) =
    elim (cases_Bool (p n)) [
      | inl e ↦ rw e (ap (λ (xs : List X). g n ++ xs) (passed_flat p g ns))
      | inr e ↦ rw e (passed_flat p g ns)
    ]

-- ONE OF THEM
pub flat_off : {X : Type 0} (f : ℕ → List X) (x : ℕ) (ns : List ℕ) → ((q : ℕ) → q ≢ x → f q ≡ [])
    → ((k : ℕ) → k < length ns → get_or ns k 0 ≢ x) → flat_map f ns ≡ []
flat_off f x [] h g = refl
flat_off {X} f x (n ∷ ns) h g =
    let first : n ≢ x = g 0 (omega arith) in
    ap (λ (xs : List X). xs ++ flat_map f ns) (h n first) ∙ flat_off f x ns h (λ k lt. g (suc k) (omega arith))

-- a number stands at a place of a list
abbrev pub Stands : ℕ → List ℕ → Type 0
Stands x ns = (k : ℕ) × (k < length ns) × (get_or ns k 0 ≡ x)

behind : (x n : ℕ) (ns : List ℕ) → n ≢ x → (k : ℕ) → k < length (n ∷ ns) → get_or (n ∷ ns) k 0 ≡ x → Stands x ns
behind x n ns ne zero lt e = absurd (ne e)
behind x n ns ne (suc k) lt e = (k, omega arith, e)

-- of ascending numbers one gives something, or it is not there and gives nothing
pub flat_only : {X : Type 0} (f : ℕ → List X) (x : ℕ) (ns : List ℕ) → ((q : ℕ) → q ≢ x → f q ≡ [])
    → ((j k : ℕ) → j < k → k < length ns → get_or ns j 0 < get_or ns k 0) → (f x ≡ []) ⊎ Stands x ns → flat_map f ns ≡ f x
flat_only f x [] h up (inl e) = sym e
flat_only f x [] h up (inr w) = let lt = w.1 in absurd (omega arith)
flat_only {X} f x (n ∷ ns) h up some =
    elim (cases_Bool (eqb n x)) [
      | inl e ↦
          let same : n ≡ x = eqb-true n x e in
          let rest : flat_map f ns ≡ []
          = flat_off f x ns h (λ k lt q. let a : n < get_or ns k 0 = up 0 (suc k) (omega arith) (omega arith) in omega arith) in
          ap (λ (xs : List X). f n ++ xs) rest ∙ append-nil (f n) ∙ ap f same
      | inr e ↦
          let ne : n ≢ x = eqb-false n x e in
          let later : (f x ≡ []) ⊎ Stands x ns = elim some [ inl none ↦ inl none | inr w ↦ inr (behind x n ns ne w.0 w.1 w.2) ] in
          ap (λ (xs : List X). xs ++ flat_map f ns) (h n ne)
          ∙ flat_only f x ns h (λ j k lt le. up (suc j) (suc k) (omega arith) (omega arith)) later
    ]
