-- Names, and numbered lists of them.
use Rattle.std.specs.{List.list_all, List.list_any, Prelude.◌≡◌, Prelude.◌≤◌, Prelude.◌^◌, Prelude.ℕ}
use Rattle.std.specs.Prelude.{Bool, true, ◌&&◌, ◌||◌, not, if◌then◌else◌, nat_le, nat_eq, bytes_eq, List, [], ◌∷◌, ◌++◌, length, position, fold, slice_index_or}
use Rattle.std.specs.{Prelude.Option, Prelude.None, Prelude.Some, Prelude.Result, Prelude.Ok, Prelude.Err, declared.alloc.AllocError.AllocError}
use Rattle.events.specs.declared.names.Added.{Added, TheVariants.New, TheVariants.Held}

-- a letter, a digit, `_`, `.` or `-`
abbrev pub is_name_byte : ℕ → Bool
is_name_byte b = (nat_le 65 b && nat_le b 90) || (nat_le 97 b && nat_le b 122) || (nat_le 48 b && nat_le b 57) || nat_eq b 95 || nat_eq b 46 || nat_eq b 45

-- 1 to 64 such bytes
unfoldable pub is_name : List ℕ → Bool
is_name bytes = nat_le 1 (length bytes) && nat_le (length bytes) 64 && list_all is_name_byte bytes

-- the number of a name: the place at which it stands
unfoldable pub number_of : List ℕ → List (List ℕ) → Option ℕ
number_of name names = position (bytes_eq name) names

-- the name of this number, and no bytes where there is none
abbrev pub name_at : List (List ℕ) → ℕ → List ℕ
name_at names number = slice_index_or names number []

-- whether the name is among them
abbrev pub is_held : List ℕ → List (List ℕ) → Bool
is_held name names = list_any (bytes_eq name) names

-- no name comes twice
abbrev pub are_distinct : List (List ℕ) → Bool
are_distinct [] = true
are_distinct (name ∷ names) = not (is_held name names) && are_distinct names

-- what may stand in a list of names: distinct names, at most 2^31 of them
pub record AreNames (names : List (List ℕ)) : Type 0 where
  pub each : list_all is_name names ≡ true
  pub distinct : are_distinct names ≡ true
  pub few : length names ≤ 2 ^ 31

-- the names after one more is added: a name that is held changes nothing, and a new one goes last
abbrev pub with_name : List (List ℕ) → List ℕ → List (List ℕ)
with_name names name = if is_held name names then names else names ++ name ∷ []

-- the distinct ones, in the order in which each comes first
unfoldable pub firsts : List (List ℕ) → List (List ℕ)
firsts names = fold with_name [] names

-- a new name gets the next number, and one that is held keeps its number; a refusal changes nothing
abbrev pub Adds : List (List ℕ) → List ℕ → Result Added AllocError → List (List ℕ) → Type 0
Adds old name (Ok (New number)) new = (number_of name old ≡ None) × (number ≡ length old) × (new ≡ old ++ name ∷ [])
Adds old name (Ok (Held number)) new = (number_of name old ≡ Some number) × (new ≡ old)
Adds old name (Err error) new = new ≡ old
