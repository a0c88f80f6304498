-- Tables by person in which strays stand.
use Rattle.traffic.proofs.Common.{◌≡◌, ◌⊎◌, ℕ, ◌<◌, Bool, true, false, List, [], ◌∷◌, ◌∙◌, ap, refl, sym, arith, inl, inr, cases_Bool, true≢false, length}
use Rattle.traffic.proofs.Common.{length-set, get_or, set, get_or-set_same, get_or-set_other, eqb, eqb-true, eqb-false, list_any}
use Rattle.std.specs.List.{AllByRecursion as Each}
use Rattle.parted_day.specs.{Tables.with_each, declared.straying.Stray.Stray}

-- person i is among these strays
abbrev pub is_stray : ℕ → List Stray → Bool
is_stray i xs = list_any (λ (x : Stray). eqb x.person i) xs

-- who is not among them stands as he stood
pub with_kept : {X : Type 0} (of : Stray → X) (d : X) (i : ℕ) (xs : List Stray) (table : List X) → is_stray i xs ≡ false
    → get_or (with_each of xs table) i d ≡ get_or table i d
unfolding with_each
with_kept of d i [] table e = refl
with_kept of d i (x ∷ xs) table e =
    elim (cases_Bool (eqb x.person i)) [
      | inl y ↦ let h : true ≡ false = simp y at e in absurd (true≢false h)
      | inr n ↦
          let h : is_stray i xs ≡ false = simp n at e in
          with_kept of d i xs (set table x.person (of x)) h
          ∙ get_or-set_other table x.person i (of x) d (λ q. eqb-false x.person i n (sym q))
    ]

-- who is, or who stood so before, stands so where they say nothing else of him
pub with_is : {X : Type 0} (of : Stray → X) (d v : X) (i : ℕ) (xs : List Stray) (table : List X)
    → Each (λ (x : Stray). x.person ≡ i → of x ≡ v) xs → i < length table → (is_stray i xs ≡ true) ⊎ (get_or table i d ≡ v)
    → get_or (with_each of xs table) i d ≡ v
unfolding with_each
with_is of d v i [] table h lt (inl e) = absurd (true≢false (sym e))
with_is of d v i [] table h lt (inr e) = e
with_is {X} of d v i (x ∷ xs) table h lt some =
    let n = length-set table x.person (of x) in
    elim (cases_Bool (eqb x.person i)) [
      | inl y ↦
          let same : x.person ≡ i = eqb-true x.person i y in
          let here : get_or (set table x.person (of x)) i d ≡ v
          = ap (λ (k : ℕ). get_or (set table k (of x)) i d) same ∙ get_or-set_same table i (of x) d lt ∙ h.0 same in
          with_is of d v i xs (set table x.person (of x)) h.1 (omega arith) (inr here)
      | inr y ↦
          let kept = get_or-set_other table x.person i (of x) d (λ q. eqb-false x.person i y (sym q)) in
          let later : (is_stray i xs ≡ true) ⊎ (get_or (set table x.person (of x)) i d ≡ v)
          = elim some [
            | inl e ↦ let g : is_stray i xs ≡ true = simp y at e in inl g
            | inr e ↦ inr (kept ∙ e)
          ] in
          with_is of d v i xs (set table x.person (of x)) h.1 (omega arith) later
    ]
