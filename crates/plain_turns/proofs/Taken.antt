-- One place more taken in the list of out-links is one more in what they are.
use Rattle.traffic.proofs.Common.{◌≡◌, ℕ, List, ◌∙◌, ap, refl, sym, [], ◌∷◌, inl, inr, false, eqb, fun_ext, cases_Bool, eqb-true, eqb-false, ne_eqb, Some}
use Rattle.traffic.proofs.Common.{if◌then◌else◌, with_one_more, one_more}
use Rattle.plain_turns.specs.{OutLinks.out_links_in, OutLinks.with_taken, OutLinks.AreNear, declared.out_links.OutLinkRow.OutLinkRow}

taken_here : (m : ℕ) (xs : List OutLinkRow) → out_links_in (with_taken m xs) m ≡ with_one_more (out_links_in xs m)
unfolding out_links_in
taken_here m [] = refl
taken_here m (x ∷ xs) = elim (cases_Bool (eqb x.link m)) [ inl e ↦ simp e refl | inr e ↦ simp e (taken_here m xs) ]

taken_other : (m l : ℕ) (xs : List OutLinkRow) → eqb l m ≡ false → out_links_in (with_taken m xs) l ≡ out_links_in xs l
unfolding out_links_in
taken_other m l [] h = refl
taken_other m l (x ∷ xs) h =
    elim (cases_Bool (eqb x.link m)) [
      | inl e ↦ let q = eqb-true x.link m e in let f = ne_eqb x.link l (λ p. eqb-false l m h (sym p ∙ q)) in simp (e, f) refl
      | inr e ↦ simp e (let g = taken_other m l xs h in ap (λ o. if eqb x.link l then Some x.out_link else o) g)
    ]

taken_at : (m : ℕ) (xs : List OutLinkRow) (l : ℕ) → out_links_in (with_taken m xs) l ≡ one_more m (out_links_in xs) l
unfolding out_links_in one_more
taken_at m xs l =
    elim (cases_Bool (eqb l m)) [
      | inl e ↦ let q = eqb-true l m e in simp e (ap (out_links_in (with_taken m xs)) q ∙ taken_here m xs ∙ ap (λ k. with_one_more (out_links_in xs k)) (sym q))
      | inr e ↦ simp e (taken_other m l xs e)
    ]

pub taken_is : (m : ℕ) (xs : List OutLinkRow) → out_links_in (with_taken m xs) ≡ one_more m (out_links_in xs)
taken_is m xs = fun_ext (taken_at m xs)

pub near_taken : (m : ℕ) (xs : List OutLinkRow) → AreNear xs → AreNear (with_taken m xs)
near_taken m [] h = tt
near_taken m (x ∷ xs) h = elim (cases_Bool (eqb x.link m)) [ inl e ↦ simp e h | inr e ↦ simp e (h.0, near_taken m xs h.1) ]
