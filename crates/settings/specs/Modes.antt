-- What a leg by each mode is worth: the key `modes`.
use Rattle.std.specs.Prelude.{ℕ, Bool, ◌||◌, bytes_eq, codes, is_some, List, [], ◌∷◌, map, Option, None, Some, option_and_then, ℤ, pos, neg_ℤ}
use Rattle.std.specs.List.{list_any}
use Rattle.events.specs.{Words.mode_of, Words.mode_text, declared.event.Mode.Mode}
use Rattle.events.specs.declared.event.Mode.TheVariants as mode
use Rattle.scoring.specs.declared.{TheConstants.MAX_PER_SECOND, TheConstants.MAX_WORTH, table.ModeScore.ModeScore}
use Rattle.serde_json.specs.{Data.Data, Data.Members, Find.as_object, Find.get_member}
use Rattle.settings.specs.Looking.{members_of, values_of_members, has_other_key, signed_in, or_default, all_of}

-- a leg's constant, and what each of its seconds is worth, where both are there
abbrev pub mode_score : Option ℤ → Option ℤ → Option ModeScore
mode_score (Some constant) (Some per_second) = Some (record { constant = constant; per_second = per_second })
mode_score (Some constant) None = None
mode_score None per_second = None

-- without a key: nothing, and 1,666 micro-utils less for each second
abbrev pub usual_mode : ModeScore
usual_mode = record { constant = pos 0; per_second = neg_ℤ (pos 1666) }

-- what the object of a mode says, each of whose two keys may be left out
unfoldable pub mode_in : Data → Option ModeScore
mode_in value =
    option_and_then (λ members.
    mode_score (or_default (signed_in (neg_ℤ MAX_WORTH) MAX_WORTH) (pos 0) (get_member (codes "constant") members))
    (or_default (signed_in (neg_ℤ MAX_PER_SECOND) MAX_PER_SECOND) (neg_ℤ (pos 1666)) (get_member (codes "per_second") members)))
    (as_object value)

-- the modes, in their order
abbrev pub all_modes : List Mode
all_modes = mode.Car ∷ mode.Walk ∷ mode.Bike ∷ mode.Ride ∷ mode.Pt ∷ []

-- what the object of all modes says, each of whose keys may be left out
unfoldable pub modes_in : Members → Option (List ModeScore)
modes_in members = all_of (map (λ by. or_default mode_in usual_mode (get_member (mode_text by) members)) all_modes)

abbrev pub modes_of : Data → Option (List ModeScore)
modes_of value = option_and_then modes_in (as_object value)

-- the name of a mode, and of a key of a mode
abbrev pub is_mode_name : List ℕ → Bool
is_mode_name name = is_some (mode_of name)

abbrev pub is_mode_key : List ℕ → Bool
is_mode_key name = bytes_eq name (codes "constant") || bytes_eq name (codes "per_second")

-- a key of the modes, or of one of them, that there is not
unfoldable pub has_unknown_mode_key : Option Data → Bool
has_unknown_mode_key value =
    has_other_key is_mode_name (members_of value)
    || list_any (λ (m : Data). has_other_key is_mode_key (members_of (Some m))) (values_of_members (members_of value))
