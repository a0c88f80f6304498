-- Numbers that may be missing, in four bytes.
use Rattle.std.proofs.Common.{◌≡◌, inl, inr, refl, ap, sym}
use Rattle.std.proofs.lemmas.Bool.{cases_Bool, eqb-true}
use Rattle.std.specs.Prelude.{ℕ, ◌==◌, if◌then◌else◌, Option, None, Some}
use Rattle.calendar.specs.declared.{short_option.TheConstants.NO_NUMBER, short_option.ShortOption.TheInside.Inside}

abbrev pub short_view : Inside → Option ℕ
short_view s = if s.number == NO_NUMBER then None else Some s.number

abbrev pub short_of : Option ℕ → Inside
short_of None = record { number = NO_NUMBER }
short_of (Some n) = record { number = n }

-- what a short option is seen as gives its number back
pub short_ok : (s : Inside) → short_of (short_view s) ≡ s
short_ok s =
    elim (cases_Bool (s.number == NO_NUMBER)) [
      | inl e ↦ rw e (ap (λ (n : ℕ). record { number = n }) (sym (eqb-true s.number NO_NUMBER e)))
      | inr e ↦ rw e refl
    ]
