-- The number of a name that was added where it was not held.
use Rattle.std.proofs.Common.{◌≡◌, ℕ, ◌<◌, length, List, Some, Ok, refl}
use Rattle.events.proofs.NameLists.{number_of-New, number_held, name_at-number_of}
use Rattle.events.specs.{Names.number_of, Names.with_name, Names.Adds, declared.names.Added.TheVariants.New}

pub numbered_new : (old new : List (List ℕ)) (name : List ℕ) (n : ℕ) → Adds old name (Ok (New n)) new → number_of name new ≡ Some n
numbered_new old new name n h = rw (h.2, number_of-New old name h.0, h.1) refl

-- a name that is held changes nothing
pub numbered_held : (old : List (List ℕ)) (name : List ℕ) (n : ℕ) → number_of name old ≡ Some n → old ≡ with_name old name
numbered_held old name n held = rw (number_held old name n held) refl

-- the number of a name is among those of the list
pub numbered_within : (names : List (List ℕ)) (name : List ℕ) (n : ℕ) → number_of name names ≡ Some n → n < length names
numbered_within names name n held = (name_at-number_of name names n held).0
