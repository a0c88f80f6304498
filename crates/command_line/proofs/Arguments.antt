-- The positions and options of a command: what a parse of it gives.
use Rattle.std.proofs.Common.{◌≡◌, ◌≢◌, ◌∙◌, ◌<◌, ◌≤◌, ◌++◌, arith, ap, ap₂, sym, subst, refl, inl, inr, ℕ, zero, suc, true, false, Bool, List, [], ◌∷◌, length}
use Rattle.std.proofs.Common.{Option, Some, None, codes, slice_index, option_map, unwrap_or, append-nil, append_assoc, map}
use Rattle.std.proofs.lemmas.{Bool.and_parts, List.length-map, List.get_or-map, List.Elements.All-get_or, List.Elements.All-nil, Slice.Eq.bytes_eq-Decides}
use Rattle.std.specs.{Borrow.Bor, List.All, List.slice_index_or, Prelude.option_and_then, Prelude.pos, Prelude.slice_get, Prelude.not, Prelude.◌&&◌}
use Rattle.std.specs.{Prelude.◌||◌, Prelude.◌⊎◌, Str.bytes_eq}
use Rattle.clap.proofs.{CallerLemmas.added_plain, CallerLemmas.entry_by_id, CallerLemmas.same_rules_by_id, CallerReads.required_reads}
use Rattle.clap.specs.Built.{AddsArg, IsAuto, IsParsedFrom, IsPlain, IsPlainArg, SameRules}
use Rattle.clap.specs.Facts.{Entry, EntryPasses, HasReading, PassesArg, args_of, groups_of, least_values, parser_of, parser_of_value}
use Rattle.clap.specs.Words.{Accepts, App, Rule, app_of, found_of, matched_of, one_text, read_as, reading_of, with_rule}
use Rattle.clap.specs.declared.builder.{action.ArgAction.ArgAction, action.ArgAction.TheVariants.Set, arg.Arg.Arg, command.Command.Command}
use Rattle.clap.specs.declared.builder.{command.Command.TheViews.out-Command, value_parser.Reading.Reading, value_parser.ValueParser.ValueParser}
use Rattle.clap.specs.declared.parser.matches.{ArgMatches.ArgMatches, MatchedArg.MatchedArg}
use Rattle.clap.specs.declared.builder.value_parser.ValueParser.TheVariants as parsers
use Rattle.limits.specs.declared.TheConstants.{MAX_PARTITIONS}
use Rattle.command_line.specs.Commands.{with_execution}
use Rattle.command_line.specs.Given.{AddsExecution, IsArgument, IsBare, HasNumber, HasLongNumber, HasFlag, HasExecution, MayHaveNumber}

-- a name that is not empty, and no name of an argument that clap adds
pub record IsOwnName (id : List ℕ) : Type 0 where
  pub some : id ≢ []
  pub no_help : id ≢ codes "help"
  pub no_version : id ≢ codes "version"

-- a name is one's own if no other begins as it does
pub own_name : (id : List ℕ) → slice_index id 0 ≢ 0 → slice_index id 0 ≢ 104 → slice_index id 0 ≢ 118 → IsOwnName id
own_name id none help version = record {
  some = λ e. none (ap (λ (t : List ℕ). slice_index t 0) e);
  no_help = λ e. help (ap (λ (t : List ℕ). slice_index t 0) e);
  no_version = λ e. version (ap (λ (t : List ℕ). slice_index t 0) e);
}

-- an argument with this rule at a place of a command, where no other has its name
record StandsAt (command : Command) (place : ℕ) (rule : Rule) (arg : Arg) : Type 0 where
  pub there : slice_index_or (args_of command) place arg ≡ arg
  pub within : place < length (args_of command)
  pub id : arg.id.now ≡ rule.id
  pub required : arg.required ≡ rule.required
  pub action : (action : ArgAction) → rule.action ≡ Some action → arg.action ≡ Some action
  pub parser : (parser : ValueParser) → rule.parser ≡ Some parser → arg.value_parser ≡ Some parser
  pub unsplit : arg.val_delim ≡ None
  pub valued : rule.action ≡ Some Set → 1 ≤ least_values arg
  pub only : (j : ℕ) (other : Arg) → j < length (args_of command)
      → bytes_eq (slice_index_or (args_of command) j other).id.now rule.id ≡ true → j ≡ place

-- a text was given that passed a parser, and is read as that says
abbrev IsRead : ValueParser → List ℕ → Type 0
IsRead parser given = (text : List ℕ) × (given ≡ read_as (reading_of parser) text) × ((folds : Bool) × Accepts folds parser text)

-- one that passed as a flag's is one of two words
word_of : (given text : List ℕ) (yes : Bool) → bytes_eq text (codes "true") ≡ yes → given ≡ text
    → (yes || bytes_eq text (codes "false")) ≡ true → (given ≡ codes "true") ⊎ (given ≡ codes "false")
word_of given text true same is passed = inl (is ∙ (bytes_eq-Decides text (codes "true")).0 same)
word_of given text false other is passed = inr (is ∙ (bytes_eq-Decides text (codes "false")).0 passed)

module _ (command : Command) (m : ArgMatches) (parsed : IsParsedFrom command m) (plain : IsPlain command)
    (globals : (out-Command command).has_globals ≡ false) (negates : (out-Command command).subcommand_negates_reqs ≡ false)
    (place : ℕ) (rule : Rule) (arg : Arg) (at : StandsAt command place rule arg) (own : IsOwnName rule.id) where
  here : Arg
  here = slice_index_or (args_of command) place arg

  same_id : (slice_index_or (args_of command) place arg).id.now ≡ rule.id
  same_id = ap (λ (a : Arg). a.id.now) at.there ∙ at.id

  only_here : (j : ℕ) (other : Arg) → j < length (args_of command)
      → bytes_eq (slice_index_or (args_of command) j other).id.now (slice_index_or (args_of command) place arg).id.now ≡ true → j ≡ place
  only_here j other less same =
      at.only j other less (subst (λ (w : List ℕ). bytes_eq (slice_index_or (args_of command) j other).id.now w ≡ true) same_id same)

  own_here : IsAuto (slice_index_or (args_of command) place arg) → ⊥
  own_here auto = elim auto [
    | inl h ↦ own.no_help (sym same_id ∙ h)
    | inr h ↦ own.no_version (sym same_id ∙ h)
  ]

  -- what was given for a position passed its parser
  position_read : rule.required ≡ true → rule.action ≡ Some Set → (parser : ValueParser) → rule.parser ≡ Some parser
      → (text : List ℕ) × (one_text (found_of m) rule.id ≡ Some (read_as (reading_of parser) text))
      × Accepts (slice_index_or (args_of command) place arg).ignore_case parser text
  position_read required set parser is_parser =
      let read = required_reads command m parsed plain globals negates place arg at.within
      (ap (λ (a : Arg). a.required) at.there ∙ at.required ∙ required)
      (ap (λ (a : Arg). a.action) at.there ∙ at.action Set set)
      (ap (λ (a : Arg). a.val_delim) at.there ∙ at.unsplit)
      (subst (λ (a : Arg). 1 ≤ least_values a) (sym at.there) (at.valued set))
      only_here
      (λ none. own.some (sym same_id ∙ none))
      own_here parser (ap (λ (a : Arg). a.value_parser) at.there ∙ at.parser parser is_parser) in
      (read.0, subst (λ (w : List ℕ). one_text (found_of m) w ≡ Some (read_as (reading_of parser) read.0)) same_id read.1, read.2)

  -- it is a number within bounds
  number_read : rule.required ≡ true → rule.action ≡ Some Set → (least most : ℕ)
      → rule.parser ≡ Some (parsers.Signed (pos least) (pos most))
      → HasNumber least most rule.id (found_of m)
  number_read required set least most parser = position_read required set (parsers.Signed (pos least) (pos most)) parser

  -- or a number of 64 bits
  long_number_read : rule.required ≡ true → rule.action ≡ Some Set → rule.parser ≡ Some (parsers.Unsigned 0 18446744073709551615)
      → HasLongNumber rule.id (found_of m)
  long_number_read required set parser = position_read required set (parsers.Unsigned 0 18446744073709551615) parser

  -- the parser of an argument of the built command that has the name
  the_parser : (parser : ValueParser) → rule.parser ≡ Some parser → (j : ℕ) (x : Arg) → j < length (args_of parsed.built)
      → slice_index_or (args_of parsed.built) j x ≡ x → bytes_eq x.id.now rule.id ≡ true → parser_of x ≡ parser
  the_parser parser is_parser j x less there same =
      let rules : SameRules (slice_index_or (args_of command) place arg) x =
      same_rules_by_id command m parsed place arg at.within only_here own_here
      j x less there (subst (λ (w : List ℕ). bytes_eq x.id.now w ≡ true) (sym same_id) same) in
      ap parser_of_value (rules.parser parser (ap (λ (a : Arg). a.value_parser) at.there ∙ at.parser parser is_parser))

  no_groups : groups_of parsed.built ≡ []
  no_groups = (parsed.from.plain plain).1

  -- the value of an entry with the name passed the parser, and is read as it says
  module _ (parser : ValueParser) (is_parser : rule.parser ≡ Some parser) where
    by_value : (value : List ℕ) (how : Reading) → PassesArg parsed.built rule.id value → HasReading parsed.built rule.id how
        → (given : List ℕ) → given ≡ read_as how value → IsRead parser given
    by_value value how passes reads given is =
        let its : parser_of passes.1 ≡ parser = the_parser parser is_parser passes.0 passes.1 passes.2 passes.3 passes.4.0 in
        let other : parser_of reads.1 ≡ parser = the_parser parser is_parser reads.0 reads.1 reads.2 reads.3 reads.4.0 in
        let way : how ≡ reading_of parser = sym reads.4.1 ∙ ap reading_of other in (
          value,
          is ∙ ap (λ (r : Reading). read_as r value) way,
          (passes.1.ignore_case, subst (λ (p : ValueParser). Accepts passes.1.ignore_case p value) its passes.4.1),
        )

    by_values : (values : List (Bor (List ℕ))) (how : Reading) → All (λ v. PassesArg parsed.built rule.id v.now) values
        → HasReading parsed.built rule.id how → (given : List ℕ) → option_map (λ s. read_as how s.now) (slice_get values 0) ≡ Some given
        → IsRead parser given
    by_values [] how passes reads given is = cc
    by_values (v ∷ vs) how passes reads given is =
        by_value v.now how
        (All-get_or (λ (v : Bor (List ℕ)). PassesArg parsed.built rule.id v.now) (v ∷ vs) 0 v (omega arith) passes) reads given
        (sym (ap (λ (o : Option (List ℕ)). unwrap_or o []) is))

    by_entry : (e : Entry) → bytes_eq e.0.now rule.id ≡ true → EntryPasses parsed.built e
        → (given : List ℕ) → option_map (λ s. read_as e.1.reading s.now) (slice_get e.1.vals.items 0) ≡ Some given → IsRead parser given
    by_entry e key pass given is =
        let name : e.0.now ≡ rule.id = (bytes_eq-Decides e.0.now rule.id).0 key in
        let single : e.1.is_group ≡ true → ⊥ = λ g. elim (pass.3 g) [
          | inl none ↦ own.some (sym name ∙ none)
          | inr some ↦
              let bad : 0 < 0 = rw no_groups at some in
              absurd (omega arith)
        ] in
        let passes : All (λ v. PassesArg parsed.built rule.id v.now) e.1.vals.items = elim pass.0 [
          | inl g ↦ absurd (single g)
          | inr all ↦ subst (λ (w : List ℕ). All (λ v. PassesArg parsed.built w v.now) e.1.vals.items) name all
        ] in
        let reads : HasReading parsed.built rule.id e.1.reading = elim pass.4 [
          | inl g ↦ absurd (single g)
          | inr h ↦ subst (λ (w : List ℕ). HasReading parsed.built w e.1.reading) name h
        ] in
        by_values e.1.vals.items e.1.reading passes reads given is

    by_match : (found : Option MatchedArg) → matched_of (found_of m) rule.id ≡ found
        → (given : List ℕ)
        → option_and_then (λ (a : MatchedArg). option_map (λ s. read_as a.reading s.now) (slice_get a.vals.items 0)) found ≡ Some given
        → IsRead parser given
    by_match None found given is = cc
    by_match (Some x) found given is =
        let values = (parsed.parsed (parsed.from.globals ∙ globals)).values in
        let entry = entry_by_id (EntryPasses parsed.built) (found_of m).entries.items rule.id x values found in
        by_entry entry.0 entry.2 entry.3 given
        (subst (λ (a : MatchedArg). option_map (λ s. read_as a.reading s.now) (slice_get a.vals.items 0) ≡ Some given) (sym entry.1) is)

    given_read : (given : List ℕ) → one_text (found_of m) rule.id ≡ Some given → IsRead parser given
    given_read given is = by_match (matched_of (found_of m) rule.id) refl given is

  -- where anything was given for an option, it is a number within bounds
  option_read : (least most : ℕ) → rule.parser ≡ Some (parsers.Signed (pos least) (pos most))
      → MayHaveNumber least most rule.id (found_of m)
  option_read least most is_parser = λ given is.
      let read = given_read (parsers.Signed (pos least) (pos most)) is_parser given is in
      (read.0, read.1, read.2.1)

  -- where anything was given for a flag, it is whether it is set
  flag_read : rule.parser ≡ Some parsers.Bool → HasFlag rule.id (found_of m)
  flag_read is_parser = λ given is.
      let read = given_read parsers.Bool is_parser given is in
      word_of given read.0 (bytes_eq read.0 (codes "true")) refl read.1 read.2.1

-- ARGUMENTS THAT ARE ADDED ONE BEHIND THE OTHER
-- an argument with its rule, and the command before it was added and then
pub record Added : Type 0 where
  pub rule : Rule
  pub arg : Arg
  pub old : Command
  pub new : Command
  pub is : IsArgument rule arg
  pub adds : AddsArg old arg new

abbrev pub added : {rule : Rule} {arg : Arg} {old new : Command} → IsArgument rule arg → AddsArg old arg new → Added
added {rule} {arg} {old} {new} is adds = record { rule = rule; arg = arg; old = old; new = new; is = is; adds = adds }

-- what stands of it in the command, and its name
abbrev pub kept : Added → Arg
kept s = s.adds.arg

abbrev pub name_of : Added → List ℕ
name_of s = s.rule.id

-- they are added to a command in this order, which gives another one
abbrev pub AreAdded : Command → List Added → Type 0
AreAdded c [] = Unit {0}
AreAdded c (s ∷ ss) = (s.old ≡ c) × AreAdded s.new ss

abbrev pub whole : Command → List Added → Command
whole c [] = c
whole c (s ∷ ss) = whole s.new ss

abbrev pub with_rules : App → List Added → App
with_rules a [] = a
with_rules a (s ∷ ss) = with_rules (with_rule a s.rule) ss

pub app_is : (c : Command) (ss : List Added) (start : App) → AreAdded c ss → app_of c ≡ start → app_of (whole c ss) ≡ with_rules start ss
app_is c [] start h is = is
app_is c (s ∷ ss) start h is =
    app_is s.new ss (with_rule start s.rule) h.1
    (s.adds.shape s.is.local ∙ ap₂ with_rule (ap (λ (d : Command). app_of d) h.0 ∙ is) s.is.ruled)

args_are : (c : Command) (ss : List Added) → AreAdded c ss → args_of (whole c ss) ≡ args_of c ++ map kept ss
args_are c [] h = sym (append-nil (args_of c))
args_are c (s ∷ ss) h =
    args_are s.new ss h.1
    ∙ ap (λ (args : List Arg). args ++ map kept ss) (s.adds.args ∙ ap (λ (d : Command). args_of d ++ kept s ∷ []) h.0)
    ∙ append_assoc (args_of c) (kept s ∷ []) (map kept ss)

-- nothing in it excludes anything
plain_is : (c : Command) (ss : List Added) → AreAdded c ss → IsPlain c → IsPlain (whole c ss)
plain_is c [] h plain = plain
plain_is c (s ∷ ss) h plain =
    plain_is s.new ss h.1 (added_plain s.old s.new s.arg s.adds (subst (λ (d : Command). IsPlain d) (sym h.0) plain) s.is.plain)

no_globals : (c : Command) (ss : List Added) → AreAdded c ss → (out-Command c).has_globals ≡ false
    → (out-Command (whole c ss)).has_globals ≡ false
no_globals c [] h none = none
no_globals c (s ∷ ss) h none =
    no_globals s.new ss h.1
    (s.adds.globals ∙ ap₂ (λ (a b : Bool). a || b) (ap (λ (d : Command). (out-Command d).has_globals) h.0 ∙ none) s.is.local)

no_negates : (c : Command) (ss : List Added) → AreAdded c ss → (out-Command c).subcommand_negates_reqs ≡ false
    → (out-Command (whole c ss)).subcommand_negates_reqs ≡ false
no_negates c [] h none = none
no_negates c (s ∷ ss) h none =
    no_negates s.new ss h.1 (s.adds.negates ∙ ap (λ (d : Command). (out-Command d).subcommand_negates_reqs) h.0 ∙ none)

-- whether none of these names is another one, and none but that at a place
abbrev pub differs : List ℕ → List (List ℕ) → Bool
differs id [] = true
differs id (x ∷ xs) = not (bytes_eq x id) && differs id xs

abbrev pub differs_but_at : ℕ → List ℕ → List (List ℕ) → Bool
differs_but_at place id [] = true
differs_but_at zero id (x ∷ xs) = differs id xs
differs_but_at (suc place) id (x ∷ xs) = not (bytes_eq x id) && differs_but_at place id xs

its_name : (s : Added) → (kept s).id.now ≡ name_of s
its_name s = ap (λ (t : Bor (List ℕ)). t.now) s.adds.rules.id ∙ ap (λ (r : Rule). r.id) s.is.ruled

never : (b : Bool) → not b ≡ true → b ≡ true → ⊥
never b is_not is = let bad : not true ≡ true = ap not (sym is) ∙ is_not in cc

other_name : (s : Added) (id : List ℕ) → not (bytes_eq (name_of s) id) ≡ true → bytes_eq (kept s).id.now id ≡ true → ⊥
other_name s id differs_here same =
    never (bytes_eq (name_of s) id) differs_here (subst (λ (w : List ℕ). bytes_eq w id ≡ true) (its_name s) same)

none_has : (ss : List Added) (id : List ℕ) (j : ℕ) (other : Arg) → differs id (map name_of ss) ≡ true → j < length (map kept ss)
    → bytes_eq (slice_index_or (map kept ss) j other).id.now id ≡ true → ⊥
none_has [] id j other apart less same = absurd (omega arith)
none_has (s ∷ ss) id zero other apart less same =
    other_name s id (and_parts (not (bytes_eq (name_of s) id)) (differs id (map name_of ss)) apart).0 same
none_has (s ∷ ss) id (suc j) other apart less same =
    none_has ss id j other (and_parts (not (bytes_eq (name_of s) id)) (differs id (map name_of ss)) apart).1 (omega arith) same

only_at : (ss : List Added) (place : ℕ) (id : List ℕ) (j : ℕ) (other : Arg) → differs_but_at place id (map name_of ss) ≡ true
    → j < length (map kept ss) → bytes_eq (slice_index_or (map kept ss) j other).id.now id ≡ true → j ≡ place
only_at [] place id j other apart less same = absurd (omega arith)
only_at (s ∷ ss) zero id zero other apart less same = refl
only_at (s ∷ ss) zero id (suc j) other apart less same = absurd (none_has ss id j other apart (omega arith) same)
only_at (s ∷ ss) (suc place) id zero other apart less same =
    absurd (other_name s id (and_parts (not (bytes_eq (name_of s) id)) (differs_but_at place id (map name_of ss)) apart).0 same)
only_at (s ∷ ss) (suc place) id (suc j) other apart less same =
    ap suc (only_at ss place id j other (and_parts (not (bytes_eq (name_of s) id)) (differs_but_at place id (map name_of ss)) apart).1
    (omega arith) same)

-- each stands at its place, where no other has its name
stands : (c : Command) (ss : List Added) → AreAdded c ss → args_of c ≡ [] → (place : ℕ) (s : Added) → place < length ss
    → slice_index_or ss place s ≡ s → differs_but_at place (name_of s) (map name_of ss) ≡ true → StandsAt (whole c ss) place s.rule (kept s)
stands c ss h none place s less here apart =
    let args : args_of (whole c ss) ≡ map kept ss = args_are c ss h ∙ ap (λ (xs : List Arg). xs ++ map kept ss) none in
    let count : length (args_of (whole c ss)) ≡ length ss = ap (λ (l : List Arg). length l) args ∙ length-map ss kept in
    record {
      there = ap (λ (l : List Arg). slice_index_or l place (kept s)) args ∙ get_or-map kept ss place s (kept s) less ∙ ap kept here;
      within = omega (arith, count, less);
      id = its_name s;
      required = s.adds.rules.required ∙ ap (λ (r : Rule). r.required) s.is.ruled;
      action = λ action e. s.adds.rules.action action (ap (λ (r : Rule). r.action) s.is.ruled ∙ e);
      parser = λ parser e. s.adds.rules.parser parser (ap (λ (r : Rule). r.parser) s.is.ruled ∙ e);
      unsplit = s.adds.rules.val_delim ∙ s.is.unsplit;
      valued = λ set. s.adds.rules.least (ap (λ (r : Rule). r.action) s.is.ruled ∙ set) s.is.valued;
      only = λ j other below has. only_at ss place (name_of s) j other apart (omega (arith, below, count, length-map ss kept))
          (subst (λ (a : Arg). bytes_eq a.id.now (name_of s) ≡ true) (ap (λ (l : List Arg). slice_index_or l j other) args) has);
    }

-- what is found of each of them in the words that a command takes which had nothing before
module _ (start : Command) (ss : List Added) (order : AreAdded start ss) (bare : IsBare start) (m : ArgMatches)
    (parsed : IsParsedFrom (whole start ss) m) (place : ℕ) (s : Added) (less : place < length ss) (here : slice_index_or ss place s ≡ s)
    (apart : differs_but_at place (name_of s) (map name_of ss) ≡ true) (own : IsOwnName (name_of s)) where
  plain : IsPlain (whole start ss)
  plain = plain_is start ss order (subst (λ (args : List Arg). All IsPlainArg args) (sym bare.args) (All-nil IsPlainArg), bare.groups)

  standing : StandsAt (whole start ss) place s.rule (kept s)
  standing = stands start ss order bare.args place s less here apart

  pub number_found : s.rule.required ≡ true → s.rule.action ≡ Some Set → (least most : ℕ)
      → s.rule.parser ≡ Some (parsers.Signed (pos least) (pos most))
      → HasNumber least most (name_of s) (found_of m)
  number_found required set least most parser =
      number_read (whole start ss) m parsed plain (no_globals start ss order bare.globals) (no_negates start ss order bare.negates)
      place s.rule (kept s) standing own required set least most parser

  pub long_number_found : s.rule.required ≡ true → s.rule.action ≡ Some Set → s.rule.parser ≡ Some (parsers.Unsigned 0 18446744073709551615)
      → HasLongNumber (name_of s) (found_of m)
  long_number_found required set parser =
      long_number_read (whole start ss) m parsed plain (no_globals start ss order bare.globals) (no_negates start ss order bare.negates)
      place s.rule (kept s) standing own required set parser

  pub option_found : (least most : ℕ) → s.rule.parser ≡ Some (parsers.Signed (pos least) (pos most))
      → MayHaveNumber least most (name_of s) (found_of m)
  option_found least most parser =
      option_read (whole start ss) m parsed plain (no_globals start ss order bare.globals) (no_negates start ss order bare.negates)
      place s.rule (kept s) standing own least most parser

  pub flag_found : s.rule.parser ≡ Some parsers.Bool → HasFlag (name_of s) (found_of m)
  flag_found parser =
      flag_read (whole start ss) m parsed plain (no_globals start ss order bare.globals) (no_negates start ss order bare.negates)
      place s.rule (kept s) standing own parser

-- THE OPTIONS THAT SAY HOW DAYS ARE COMPUTED
pub partitions_own : IsOwnName (codes "partitions")
partitions_own = own_name (codes "partitions") (λ e. omega (arith, e)) (λ e. omega (arith, e)) (λ e. omega (arith, e))

pub workers_own : IsOwnName (codes "workers")
workers_own = own_name (codes "workers") (λ e. omega (arith, e)) (λ e. omega (arith, e)) (λ e. omega (arith, e))

pub stream_own : IsOwnName (codes "stream")
stream_own = own_name (codes "stream") (λ e. omega (arith, e)) (λ e. omega (arith, e)) (λ e. omega (arith, e))

module _ (start new : Command) (adds : AddsExecution start new) where
  abbrev pub partitions_added : Added
  partitions_added = added adds.is_partitions adds.adds_partitions

  abbrev pub workers_added : Added
  workers_added = added adds.is_workers adds.adds_workers

  abbrev pub stream_added : Added
  stream_added = added adds.is_stream adds.adds_stream

  -- what a command takes behind them
  pub execution_app : (app : App) → app_of start ≡ app → app_of new ≡ with_execution app
  execution_app app is = app_is start (partitions_added ∷ workers_added ∷ stream_added ∷ []) app (refl, (refl, (refl, tt))) is

  -- and what is found of them where it took nothing else
  pub execution_found : IsBare start → (m : ArgMatches) → IsParsedFrom new m → HasExecution (found_of m)
  execution_found bare m parsed =
      let all : List Added = partitions_added ∷ workers_added ∷ stream_added ∷ [] in
      let order : AreAdded start all = (refl, (refl, (refl, tt))) in
      record {
        partitions = option_found start all order bare m parsed 0 partitions_added (omega arith) refl refl
            partitions_own 1 MAX_PARTITIONS refl;
        workers = option_found start all order bare m parsed 1 workers_added (omega arith) refl refl workers_own 1 MAX_PARTITIONS refl;
        stream = flag_found start all order bare m parsed 2 stream_added (omega arith) refl refl stream_own refl;
      }
