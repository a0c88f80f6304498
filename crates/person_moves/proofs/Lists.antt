-- What holds of an element of a list of which all pass a test.
use Rattle.traffic.proofs.Common.{◌≡◌, ℕ, List, ◌∙◌, length, ap, sym, ◌<◌, true, Bool, inl, inr, get_or, cases_Bool, true≢false, list_all}
use Rattle.std.proofs.lemmas.List.Folds.{list_all_at}

pub passes_at : {X : Type 0} (p : X → Bool) (xs : List X) (k : ℕ) (x : X) → list_all p xs ≡ true → k < length xs → x ≡ get_or xs k x → p x ≡ true
passes_at p xs k x h l e = elim (cases_Bool (p x)) [ inl t ↦ t | inr f ↦ absurd (true≢false (sym h ∙ list_all_at p xs k x l (ap p (sym e) ∙ f))) ]
