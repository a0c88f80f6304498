-- Lists in a field.
use Rattle.std.specs.Prelude.{ℕ, Bool, nat_eq, ◌==◌, if◌then◌else◌, List, [], ◌∷◌, length, get_or, Option, None, Some, option_map}
use Rattle.std.specs.List.{list_all, slice_split}
use Rattle.events.specs.Names.{is_name, number_of}

-- the parts between single separators; no bytes are one part without bytes
unfoldable pub parts_of : ℕ → List ℕ → List (List ℕ)
parts_of separator bytes = slice_split (λ b. b == separator) bytes

-- the part at a place, or no bytes where there are not so many
abbrev pub part : List (List ℕ) → ℕ → List ℕ
part parts place = get_or parts place []

-- the items that single spaces join; no bytes are no items
unfoldable pub items_in : List ℕ → List (List ℕ)
items_in bytes = if nat_eq (length bytes) 0 then [] else parts_of 32 bytes

-- each item is a name
abbrev pub are_names : List (List ℕ) → Bool
are_names items = list_all is_name items

abbrev pub with_number : Option ℕ → Option (List ℕ) → Option (List ℕ)
with_number None others = None
with_number (Some number) others = option_map (λ numbers. number ∷ numbers) others

-- the items' numbers among the names, or None where some item is none of the names
unfoldable pub numbers_of : List (List ℕ) → List (List ℕ) → Option (List ℕ)
numbers_of [] names = Some []
numbers_of (item ∷ items) names = with_number (number_of item names) (numbers_of items names)
