-- What `serde_json` reads, beside the definitions.
use Rattle.std.proofs.Common.{◌≡◌, ◌&&◌, ◌||◌, if◌then◌else◌, Bool, true, false, ℕ, List, [], ◌∷◌, length, nat_eq, not, Option, None, Some, IsUtf8, String}
use Rattle.std.proofs.Common.{BTreeMap, Global, string_bytes, map, refl, sym, ap, ap₂, ◌∙◌}
use Rattle.std.{proofs.lemmas.Str.IsUtf8-from_is_utf8, proofs.lemmas.Str.is_utf8-from_IsUtf8, specs.List.list_all, specs.List.list_any, specs.Str.is_utf8}
use Rattle.serde_json.{proofs.Views.Entry, proofs.Views.view-Object, specs.Data.Data, specs.Data.object}
use Rattle.serde_json.specs.{Data.no_members, Read.read, View.view, View.items_view, View.members_view, declared.value.Value.Value, declared.value.Value.Object}
use Rattle.settings.specs.{Faults.value_of, Looking.has_other_key, Looking.list_of, Looking.values_of_members}

-- a map without entries is an object without members
pub empty_object : (m : BTreeMap (String Global) Value) → m.entries ≡ [] → view (Object m) ≡ object no_members
empty_object m none = view-Object m ∙ ap (λ entries. object (members_view entries)) none

twice_not : (b : Bool) → not (not b) ≡ b
twice_not true = refl
twice_not false = refl

unless_both : (b c : Bool) → not (b && c) ≡ not b || not c
unless_both true c = refl
unless_both false c = refl

-- not each entry of the map has a known name where a member of the object has another one
pub unknown_keys : (known : List ℕ → Bool) (entries : List Entry)
    → not (list_all (λ entry. known (string_bytes entry.0)) entries) ≡ has_other_key known (members_view entries)
unknown_keys known [] = refl
unknown_keys known (entry ∷ entries) = unless_both _ _ ∙ ap (λ b. not (known (string_bytes entry.0)) || b) (unknown_keys known entries)

-- the same the other way
pub known_keys : (known : List ℕ → Bool) (entries : List Entry)
    → list_all (λ entry. known (string_bytes entry.0)) entries ≡ not (has_other_key known (members_view entries))
known_keys known entries = sym (twice_not (list_all (λ entry. known (string_bytes entry.0)) entries)) ∙ ap not (unknown_keys known entries)

-- what is asked of each item of a list
pub each_item : {A : Type 0} (f : Data → A) (values : List Value) → map f (list_of (items_view values)) ≡ map (λ v. f (view v)) values
each_item f [] = refl
each_item f (value ∷ values) = ap (λ rest. f (view value) ∷ rest) (each_item f values)

-- not each value of the map is without a fault where a value of the object has it
pub faulty_values : (fault : Data → Bool) (entries : List Entry)
    → not (list_all (λ entry. not (fault (view entry.1))) entries) ≡ list_any fault (values_of_members (members_view entries))
faulty_values fault [] = refl
faulty_values fault (entry ∷ entries) = unless_both _ _ ∙ ap₂ (λ b c. b || c) (twice_not (fault (view entry.1))) (faulty_values fault entries)

-- the items of a list
pub list-items_view : (values : List Value) → list_of (items_view values) ≡ map view values
list-items_view [] = refl
list-items_view (value ∷ values) = ap (λ rest. view value ∷ rest) (list-items_view values)

-- not each item of the list is without a fault where an item of the array has it
pub faulty_items : (fault : Data → Bool) (values : List Value)
    → not (list_all (λ value. not (fault (view value))) values) ≡ list_any fault (list_of (items_view values))
faulty_items fault [] = refl
faulty_items fault (value ∷ values) = unless_both _ _ ∙ ap₂ (λ b c. b || c) (twice_not (fault (view value))) (faulty_items fault values)

-- bytes that are read as a value
pub value_read : (bytes : List ℕ) (value : Data) → nat_eq (length bytes) 0 ≡ false → IsUtf8 bytes → read bytes ≡ Some value → value_of bytes ≡ Some value
unfolding value_of
value_read bytes value some utf8 is = rw (some, is_utf8-from_IsUtf8 bytes utf8) is

none_if : (b : Bool) (value : Option Data) → (b ≡ true → value ≡ None) → (if b then value else None) ≡ None
none_if true value none = none refl
none_if false value none = refl

-- bytes that are read as none
pub value_refused : (bytes : List ℕ) → nat_eq (length bytes) 0 ≡ false → (IsUtf8 bytes → read bytes ≡ None) → value_of bytes ≡ None
unfolding value_of
value_refused bytes some none = rw some (none_if (is_utf8 bytes) (read bytes) (λ utf8. none (IsUtf8-from_is_utf8 bytes utf8)))
