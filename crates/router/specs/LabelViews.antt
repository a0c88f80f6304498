-- Labels in eight bytes.
use Rattle.std.proofs.Common.{◌≡◌, inl, inr, refl, ap, sym}
use Rattle.std.proofs.lemmas.Bool.{cases_Bool, eqb-true}
use Rattle.std.specs.Prelude.{ℕ, ◌==◌, if◌then◌else◌, Option, None, Some}
use Rattle.router.specs.declared.{label.TheConstants.NO_SECOND, label.Label.TheInside.Inside}

abbrev pub label_view : Inside → Option ℕ
label_view l = if l.second == NO_SECOND then None else Some l.second

abbrev pub label_of : Option ℕ → Inside
label_of None = record { second = NO_SECOND }
label_of (Some n) = record { second = n }

-- what a label is seen as gives its second back
pub label_ok : (l : Inside) → label_of (label_view l) ≡ l
label_ok l =
    elim (cases_Bool (l.second == NO_SECOND)) [
      | inl e ↦ rw e (ap (λ (n : ℕ). record { second = n }) (sym (eqb-true l.second NO_SECOND e)))
      | inr e ↦ rw e refl
    ]
