-- Looking into JSON values.
use Rattle.std.specs.Prelude.{ℕ, Bool, false, not, ◌&&◌, ◌||◌, nat_le, int_le, if◌then◌else◌, List, [], ◌∷◌, Option, None, Some, option_and_then, unwrap_or, ℤ}
use Rattle.serde_json.specs.Data.{Data, Items, no_items, item, Members, no_members, member}
use Rattle.serde_json.specs.Find.{as_array, as_object, as_number, as_u64, as_i64}

-- the keys and values of an object; no other value has any
abbrev pub members_of : Option Data → Members
members_of value = unwrap_or (option_and_then as_object value) no_members

-- the values of the members
abbrev pub values_of_members : Members → List Data
values_of_members no_members = []
values_of_members (member name value members) = value ∷ values_of_members members

-- the items of an array; no other value has any
abbrev pub list_of : Items → List Data
list_of no_items = []
list_of (item value items) = value ∷ list_of items

abbrev pub items_of : Option Data → List Data
items_of value = list_of (unwrap_or (option_and_then as_array value) no_items)

-- a member has a name that is none of the known ones
abbrev pub has_other_key : (List ℕ → Bool) → Members → Bool
has_other_key known no_members = false
has_other_key known (member name value members) = not (known name) || has_other_key known members

-- the whole number that a value is; `-0`, `-1`, `1.0`, `1e3` and numbers of 2^64 or more are none
abbrev pub whole : Data → Option ℕ
whole value = option_and_then as_u64 (as_number value)

-- the same below zero too; `-0`, `1.0`, `1e3` and numbers from 2^63 on are none
abbrev pub signed : Data → Option ℤ
signed value = option_and_then as_i64 (as_number value)

-- a number, where it is one from low to high
abbrev pub if_from_to : ℕ → ℕ → Option ℕ → Option ℕ
if_from_to low high None = None
if_from_to low high (Some n) = if nat_le low n && nat_le n high then Some n else None

abbrev pub if_signed_from_to : ℤ → ℤ → Option ℤ → Option ℤ
if_signed_from_to low high None = None
if_signed_from_to low high (Some z) = if int_le low z && int_le z high then Some z else None

unfoldable pub whole_in : ℕ → ℕ → Data → Option ℕ
whole_in low high value = if_from_to low high (whole value)

unfoldable pub signed_in : ℤ → ℤ → Data → Option ℤ
signed_in low high value = if_signed_from_to low high (signed value)

-- of a value that need not be given: what it says, or the default where it is not given, or nothing where it says nothing
abbrev pub or_default : {A : Type 0} → (Data → Option A) → A → Option Data → Option A
or_default says default None = Some default
or_default says default (Some value) = says value

-- all values, where each one is there
abbrev pub with_all : {A : Type 0} → Option A → Option (List A) → Option (List A)
with_all (Some x) (Some xs) = Some (x ∷ xs)
with_all (Some x) None = None
with_all None xs = None

abbrev pub all_of : {A : Type 0} → List (Option A) → Option (List A)
all_of [] = Some []
all_of (x ∷ xs) = with_all x (all_of xs)
