-- The rows of a block, with another hook in one of them, with one row more, or where no row has a hook.
use Rattle.std.proofs.Common.{◌≡◌, ℕ, zero, suc, ◌<◌, ◌≤◌, List, [], ◌∷◌, ◌++◌, length, get_or, refl, arith, true, inl, inr}
use Rattle.std.proofs.lemmas.{Bool.cases_Bool, Bool.eqb-true, Bool.eqb-false, Bool.and_parts, List.get_or-set_same, List.get_or-set_other}
use Rattle.std.specs.{List.list_all, Prelude.set, Prelude.◌==◌, Prelude.is_none, Prelude.Option, Prelude.None, Prelude.Some}
use Rattle.calendar.specs.Blocks.{HasHeadIn}

pub put_row : (rows : List (Option ℕ)) (r : ℕ) (x : Option ℕ) → r < length rows → HasHeadIn r x rows (set rows r x)
put_row rows r x lt = λ k.
    elim (cases_Bool (k == r)) [
      | inl e ↦ let f : k ≡ r = eqb-true k r e in rw (e, f) (get_or-set_same rows r x None lt)
      | inr e ↦ rw e (get_or-set_other rows r k x None (eqb-false k r e))
    ]

pub past_row : (rows : List (Option ℕ)) (r : ℕ) → length rows ≤ r → get_or rows r None ≡ None
past_row [] r le = refl
past_row (x ∷ rows) zero le = absurd (omega arith)
past_row (x ∷ rows) (suc r) le = past_row rows r (omega arith)

pub bare_past : (rows : List (Option ℕ)) (r : ℕ) → length rows ≤ r → HasHeadIn r None rows rows
bare_past rows r le = λ k.
    elim (cases_Bool (k == r)) [
      | inl e ↦ let f : k ≡ r = eqb-true k r e in rw (e, f) (past_row rows r le)
      | inr e ↦ rw e refl
    ]

pub one_row_more : (rows : List (Option ℕ)) (k : ℕ) → get_or (rows ++ None ∷ []) k None ≡ get_or rows k None
one_row_more [] zero = refl
one_row_more [] (suc k) = refl
one_row_more (x ∷ rows) zero = refl
one_row_more (x ∷ rows) (suc k) = one_row_more rows k

none_is : (x : Option ℕ) → is_none x ≡ true → x ≡ None
none_is None h = refl
none_is (Some j) h = absurd (cc)

pub none_in_any : (rows : List (Option ℕ)) (k : ℕ) → list_all is_none rows ≡ true → get_or rows k None ≡ None
none_in_any [] k h = refl
none_in_any (x ∷ rows) zero h = let p = and_parts (is_none x) (list_all is_none rows) h in none_is x p.0
none_in_any (x ∷ rows) (suc k) h = let p = and_parts (is_none x) (list_all is_none rows) h in none_in_any rows k p.1
