-- The bytes of settings.json: their values, or their first fault.
use Rattle.std.specs.Prelude.{ℕ, Bool, ◌||◌, if◌then◌else◌, nat_eq, is_none, List, [], ◌∷◌, length, Option, None, Some, option_and_then}
use Rattle.std.specs.Str.{is_utf8}
use Rattle.serde_json.specs.{Data.Data, Data.object, Data.Members, Data.no_members, Find.as_object, Read.read}
use Rattle.edge_files.specs.declared.reasons.Reason.{Reason}
use Rattle.edge_files.specs.declared.reasons.Reason.TheVariants as reason
use Rattle.records.specs.{Faults.least, Files.is_too_long}
use Rattle.settings.specs.{Keys.has_unknown_key, Keys.has_bad_value, Keys.has_bad_scoring, Looking.members_of}
use Rattle.settings.specs.Scoring.{ScoringValues, scoring_in, scoring_of, has_wrong_table}
use Rattle.settings.specs.{Values.Values, Values.values_in, declared.values.Settings.Settings, declared.values.SettingsFile.SettingsFile}

-- what settings.json says: of the days of a run, and of their scores
pub record FileValues : Type 0 where
  pub day : Values
  pub scoring : ScoringValues

-- the value that `serde_json` reads from the bytes, where the last value of a key counts; no bytes are an object without keys, and bytes that are no UTF-8 are no value
unfoldable pub value_of : List ℕ → Option Data
value_of bytes =
    if nat_eq (length bytes) 0 then Some (object no_members) else (if is_utf8 bytes then read bytes else None)

-- the value is none, or no object
abbrev pub is_no_object : Option Data → Bool
is_no_object value = is_none (option_and_then as_object value)

-- what may be wrong with a value: it is no object, has a key that there is not, gives a key a value that it may not have, or has a wrong
-- table
abbrev pub value_tests : Option Data → List (Bool × Reason)
value_tests value =
    (is_no_object value, reason.NotJson)
    ∷ (has_unknown_key (members_of value), reason.KeyUnknown)
    ∷ (has_bad_value (members_of value) || has_bad_scoring (members_of value), reason.ValueBad)
    ∷ (has_wrong_table (members_of value), reason.TableWrong)
    ∷ []

-- the first reason against settings.json: more than 2^28 bytes, and then what is wrong with its value; each is one of row 0
unfoldable pub settings_fault : List ℕ → Option Reason
settings_fault bytes = least ((is_too_long bytes, reason.TooLong) ∷ value_tests (value_of bytes))

-- the values of settings without a fault: of the days of a run, and of their scores
unfoldable pub settings_of : List ℕ → Values
settings_of bytes = values_in (members_of (value_of bytes))

unfoldable pub scoring_values : List ℕ → ScoringValues
scoring_values bytes = scoring_in (members_of (value_of bytes))

abbrev pub file_in : Members → FileValues
file_in members = record { day = values_in members; scoring = scoring_in members }

-- the same together
abbrev pub file_of : List ℕ → FileValues
file_of bytes = record { day = settings_of bytes; scoring = scoring_values bytes }

-- the values of settings that were read
abbrev pub values_of : Settings → Values
values_of settings = record {
  seed = settings.seed;
  last_iteration = settings.last_iteration;
  traffic = settings.traffic;
  learning = settings.learning;
}

abbrev pub file_values : SettingsFile → FileValues
file_values file = record { day = values_of file.settings; scoring = scoring_of file.scoring }
