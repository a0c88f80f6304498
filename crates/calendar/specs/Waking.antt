-- When each of some numbers is next woken.
use Rattle.std.specs.Prelude.{◌≡◌, ℕ, suc, Bool, false, List, [], ◌∷◌, get_or, min, set, ◌==◌, nat_lt, if◌then◌else◌, Option, None, Some}
use Rattle.std.specs.List.{Contains}
use Rattle.calendar.specs.Due.{Due, due_at}

-- the second of number n, where it has one
abbrev pub wake_of : List (Option ℕ) → ℕ → Option ℕ
wake_of due n = get_or due n None

-- each number hangs in the calendar at its second
pub record AreHung (due : List (Option ℕ)) (calendar : Due) : Type 0 where
  pub hung : (n u : ℕ) → wake_of due n ≡ Some u → Contains (due_at u calendar) n

-- whether this is second t
abbrev pub is_second : ℕ → Option ℕ → Bool
is_second t None = false
is_second t (Some u) = u == t

-- whether number n is woken in second t
abbrev pub is_woken : ℕ → List (Option ℕ) → ℕ → Bool
is_woken t due n = is_second t (wake_of due n)

-- those who are woken in second t, where the first of these seconds is that of number n
unfoldable pub woken_from : ℕ → ℕ → List (Option ℕ) → List ℕ
woken_from t n [] = []
woken_from t n (d ∷ due) = if is_second t d then n ∷ woken_from t (suc n) due else woken_from t (suc n) due

-- all who are woken in second t, ascending
abbrev pub woken : ℕ → List (Option ℕ) → List ℕ
woken t due = woken_from t 0 due

-- a second after the numbers of second t were woken
abbrev pub slept : ℕ → Option ℕ → Option ℕ
slept t d = if is_second t d then None else d

-- the seconds when these numbers are not woken any more
unfoldable pub asleep : List ℕ → List (Option ℕ) → List (Option ℕ)
asleep [] due = due
asleep (n ∷ ns) due = asleep ns (set due n None)

-- the earlier of two seconds, where there is any
abbrev pub earliest : Option ℕ → Option ℕ → Option ℕ
earliest None u = u
earliest (Some t) None = Some t
earliest (Some t) (Some u) = Some (min t u)

-- this second, or an earlier one where there is one
abbrev pub earlier : ℕ → Option ℕ → Option ℕ
earlier t u = earliest (Some t) u

-- the seconds when number n is woken in second t at the latest
abbrev pub woken_by : ℕ → ℕ → List (Option ℕ) → List (Option ℕ)
woken_by t n due = set due n (earlier t (wake_of due n))

-- a second, where it is before the end
abbrev pub within : ℕ → Option ℕ → Option ℕ
within end None = None
within end (Some u) = if nat_lt u end then Some u else None
