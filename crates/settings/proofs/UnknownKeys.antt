-- Keys that there are not, in the object of the modes and in the list of the tables.
use Rattle.std.proofs.Common.{◌≡◌, ◌||◌, Bool, true, false, List, not, Option, None, Some, string_bytes, unwrap_or, sym, ap, ap₂, ◌∙◌}
use Rattle.std.specs.List.{list_all, list_any}
use Rattle.serde_json.{proofs.Views.Entry, specs.Data.Data, specs.Data.Members, specs.Data.no_members, specs.Data.Items}
use Rattle.serde_json.specs.{Data.no_items, Find.as_array, Find.as_object, View.view, View.items_view, View.members_view, declared.value.Value.Value}
use Rattle.settings.proofs.Objects.{unknown_keys, faulty_values, faulty_items}
use Rattle.settings.specs.Looking.{has_other_key, list_of, members_of, values_of_members}
use Rattle.settings.specs.{Modes.is_mode_name, Modes.is_mode_key, Modes.has_unknown_mode_key, NamedTables.is_table_key, NamedTables.has_unknown_table_key}

-- where the key is not given, or its value is no object, no mode has an unknown key
pub no_modes : (v : Option Data) → None ≡ v → false ≡ has_unknown_mode_key v
unfolding has_unknown_mode_key
no_modes v none = ap has_unknown_mode_key none

pub no_object : (v : Option Data) (d : Data) → Some d ≡ v → None ≡ as_object d → false ≡ has_unknown_mode_key v
unfolding has_unknown_mode_key
no_object v d is none =
    ap (λ (o : Option Members). has_other_key is_mode_name (unwrap_or o no_members)
    || list_any (λ (m : Data). has_other_key is_mode_key (members_of (Some m))) (values_of_members (unwrap_or o no_members))) none
    ∙ ap has_unknown_mode_key is

-- else it is so where a name is no mode, or a mode has another key
pub modes_are : (v : Option Data) (d : Data) (entries : List Entry) → Some d ≡ v → Some (members_view entries) ≡ as_object d
    → (not (list_all (λ entry. is_mode_name (string_bytes entry.0)) entries)
    || not (list_all (λ entry. not (has_other_key is_mode_key (members_of (Some (view entry.1))))) entries)) ≡ has_unknown_mode_key v
unfolding has_unknown_mode_key
modes_are v d entries is object =
    ap₂ (λ b c. b || c) (unknown_keys is_mode_name entries) (faulty_values (λ m. has_other_key is_mode_key (members_of (Some m))) entries)
    ∙ ap (λ (o : Option Members). has_other_key is_mode_name (unwrap_or o no_members)
    || list_any (λ (m : Data). has_other_key is_mode_key (members_of (Some m))) (values_of_members (unwrap_or o no_members))) object
    ∙ ap has_unknown_mode_key is

-- the same of the tables
pub no_tables : (v : Option Data) → None ≡ v → false ≡ has_unknown_table_key v
unfolding has_unknown_table_key
no_tables v none = ap has_unknown_table_key none

pub no_array : (v : Option Data) (d : Data) → Some d ≡ v → None ≡ as_array d → false ≡ has_unknown_table_key v
unfolding has_unknown_table_key
no_array v d is none =
    ap (λ (o : Option Items). list_any (λ (t : Data). has_other_key is_table_key (members_of (Some t))) (list_of (unwrap_or o no_items))) none
    ∙ ap has_unknown_table_key is

pub tables_are : (v : Option Data) (d : Data) (values : List Value) → Some d ≡ v → Some (items_view values) ≡ as_array d
    → not (list_all (λ value. not (has_other_key is_table_key (members_of (Some (view value))))) values) ≡ has_unknown_table_key v
unfolding has_unknown_table_key
tables_are v d values is array =
    faulty_items (λ t. has_other_key is_table_key (members_of (Some t))) values
    ∙ ap (λ (o : Option Items). list_any (λ (t : Data). has_other_key is_table_key (members_of (Some t))) (list_of (unwrap_or o no_items))) array
    ∙ ap has_unknown_table_key is

-- one of three, by the first that holds
pub first_of_three : (a b c : Bool) → a ≡ true → true ≡ (a || b || c)
first_of_three a b c e = sym (ap (λ x. x || b || c) e)

pub second_of_three : (a b c : Bool) → a ≡ false → b ≡ true → true ≡ (a || b || c)
second_of_three a b c e f = sym (ap₂ (λ x y. x || y || c) e f)

pub third_of_three : (a b c d : Bool) → a ≡ false → b ≡ false → d ≡ c → d ≡ (a || b || c)
third_of_three a b c d e f g = g ∙ sym (ap₂ (λ x y. x || y || c) e f)

pub first_of_two : (a b r : Bool) → not r ≡ true → r ≡ a → not r ≡ (not a || b)
first_of_two a b r e f = e ∙ sym (ap (λ x. x || b) (ap not (sym f) ∙ e))

pub second_of_two : (a b r s : Bool) → not r ≡ false → r ≡ a → s ≡ b → not s ≡ (not a || not b)
second_of_two a b r s e f g = ap not g ∙ sym (ap (λ x. x || not b) (ap not (sym f) ∙ e))
