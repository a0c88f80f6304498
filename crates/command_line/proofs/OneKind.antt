-- A command of its own, which is no subcommand and has none, answers words that it does not take by one kind.
use Rattle.std.proofs.Common.{◌≡◌, ◌≤◌, length, arith, ◌&&◌, ℕ, zero, suc, Bool, true, false, not, if◌then◌else◌, List, [], ◌∷◌, Option, Some, None}
use Rattle.std.specs.{Option.option_map_or, Prelude.drop, Prelude.encode_utf8}
use Rattle.clap.specs.Faults.{count_fault, action_fault, use_fault, settle_fault, react_fault, option_fault, long_fault, short_fault, bundle_step_fault}
use Rattle.clap.specs.Faults.{flags_fault, flag_word_fault, other_fault, step_fault, turn_fault, walk_fault, default_fault, defaults_fault, stray_fault}
use Rattle.clap.specs.{Faults.positional_fault, Faults.check_fault, Faults.level_fault, Faults.entered_fault, Faults.built_fault, Kinds.Kinds, Kinds.or_else}
use Rattle.clap.specs.{Kinds.value_kinds, Kinds.values_kinds, Kinds.range_kinds, Kinds.request_kinds, Lexer.long_of, Simple.App, Simple.Shape, Walk.Held}
use Rattle.clap.specs.Walk.{Names, Row, Rule, Step, Text, Walk, value, arg_by_id, arg_by_index, arg_by_long, arg_by_short, finished, settled, subcommand_met}
use Rattle.clap.specs.{Walk.walk, Walk.word_met, declared.builder.action.ArgAction.ArgAction}
use Rattle.clap.specs.declared.builder.action.ArgAction.TheVariants.{Set, Append, SetTrue, SetFalse, Count, Help, HelpShort, HelpLong, Version}
use Rattle.clap.specs.declared.{builder.value_parser.ValueParser.ValueParser, error.kind.ErrorKind.ErrorKind}

-- no kind or one
pub record Few (kinds : Kinds) : Type 0 where
  pub few : length kinds ≤ 1

no_kind : Few []
no_kind = record { few = omega arith }

a_kind : (kind : ErrorKind) → Few (kind ∷ [])
a_kind kind = record { few = omega arith }

-- either branch of a test
pick : (b : Bool) (x y : Kinds) → Few x → Few y → Few (if b then x else y)
pick true x y p q = p
pick false x y p q = q

-- the branch of a test that holds
chosen : (b : Bool) (x y : Kinds) → b ≡ true → Few x → Few (if b then x else y)
chosen true x y same p = p
chosen false x y same p = absurd (cc)

-- the first step that fails decides
either : (x y : Kinds) → Few x → Few y → Few (or_else x y)
either [] y p q = q
either (kind ∷ kinds) y p q = p

-- what is found has few kinds, and so has nothing found
either_way : {A : Type 0} (f : A → Kinds) (x : Kinds) (o : Option A) → ((a : A) → Few (f a)) → Few x → Few (option_map_or f o x)
either_way f x None p q = q
either_way f x (Some a) p q = p a

for_each : {A : Type 0} (f : A → Kinds) (o : Option A) → ((x : A) → Few (f x)) → Few (option_map_or f o [])
for_each f o p = either_way f [] o p no_kind

-- the values of one use
one_value : (i : Bool) (p : ValueParser) (v : Text) → Few (value_kinds i p v)
one_value i p v = pick _ _ _ no_kind (a_kind _)

one_of_values : (i : Bool) (p : ValueParser) (vs : List Text) → Few (values_kinds i p vs)
one_of_values i p [] = no_kind
one_of_values i p (v ∷ vs) = either _ _ (one_value i p v) (one_of_values i p vs)

one_of_count : (a : Rule) (vs : List Text) (rows : List Row) → Few (count_fault a vs rows)
one_of_count a [] rows = search one_value
one_of_count a (v ∷ vs) rows = one_of_values _ _ (v ∷ vs)

one_of_request : (x : ArgAction) → Few (request_kinds x)
one_of_request x = elim x as (λ k. Few (request_kinds k)) [
  | Help ↦ a_kind _
  | HelpShort ↦ a_kind _
  | HelpLong ↦ a_kind _
  | Version ↦ a_kind _
  | _ ↦ no_kind
]

one_of_action : (x : ArgAction) (again : Bool) (a : Rule) (vs : List Text) (rows : List Row) → Few (action_fault x again a vs rows)
one_of_action Set again a vs rows = either _ _ (pick _ _ _ (a_kind _) no_kind) (one_of_values _ _ vs)
one_of_action SetTrue again a vs rows = either _ _ (pick _ _ _ (a_kind _) no_kind) (one_of_values _ _ vs)
one_of_action SetFalse again a vs rows = either _ _ (pick _ _ _ (a_kind _) no_kind) (one_of_values _ _ vs)
one_of_action Append again a vs rows = one_of_values _ _ vs
one_of_action Count again a vs rows = one_of_count a vs rows
one_of_action other again a vs rows = one_of_request other

one_of_range : (least most n : ℕ) → Few (range_kinds least most n)
one_of_range least most n = search (pick, no_kind, a_kind)

-- a use of an argument, and the end of the one before it
one_of_use : (again : Bool) (a : Rule) (vs : List Text) (rows : List Row) → Few (use_fault again a vs rows)
one_of_use again a vs rows = search (either, one_of_range, one_of_action)

one_of_settle : (c : List Rule) (again : Bool) (h : Held) → Few (settle_fault c again h)
one_of_settle c again h = for_each _ h.pending (λ p. for_each _ (arg_by_id c p.0) (λ a. one_of_use again a p.1 h.rows))

one_of_react : (c : List Rule) (again : Bool) (a : Rule) (vs : List Text) (h : Held) → Few (react_fault c again a vs h)
one_of_react c again a vs h = either _ _ (one_of_settle c again h) (one_of_use again a vs _)

one_of_option : (c : List Rule) (again : Bool) (a : Rule) (v : Option Text) (h : Held) → Few (option_fault c again a v h)
one_of_option c again a (Some v) h = one_of_react c again a (v ∷ []) h
one_of_option c again a None h = one_of_settle c again h

-- a word of flags
one_of_long : (c : List Rule) (again : Bool) (found : Option Rule) (v : Option Text) (h : Held) → Few (long_fault c again found v h)
one_of_long c again None v h = a_kind _
one_of_long c again (Some a) v h = pick _ _ _ (one_of_option c again a v h) (pick _ _ _ (a_kind _) (one_of_react c again a [] h))

one_of_short : (c : List Rule) (again : Bool) (found : Option Rule) (rest : Text) (h : Held) (next : Held → Kinds)
    → ((h : Held) → Few (next h)) → Few (short_fault c again found rest h next)
one_of_short c again None rest h next each = a_kind _
one_of_short c again (Some a) rest h next each =
    pick _ _ _ (one_of_option c again a _ h) (either _ _ (one_of_react c again a [] h) (each _))

one_of_step : (c : List Rule) (again : Bool) (x : Option ℕ) (flags : Text) (skip : ℕ) (h : Held) (next : Text → ℕ → Held → Kinds)
    → ((flags : Text) (skip : ℕ) (h : Held) → Few (next flags skip h)) → Few (bundle_step_fault c again x flags skip h next)
one_of_step c again None flags skip h next each = no_kind
one_of_step c again (Some x) flags zero h next each =
    let rest = drop (length (encode_utf8 x)) flags in
    one_of_short c again (arg_by_short c x) rest h (next rest 0) (each rest 0)
one_of_step c again (Some x) flags (suc skip) h next each = each _ _ _

one_of_flags : (c : List Rule) (again : Bool) (k : ℕ) (flags : Text) (skip : ℕ) (h : Held) → Few (flags_fault c again k flags skip h)
unfolding flags_fault
one_of_flags c again zero flags skip h = no_kind
one_of_flags c again (suc k) flags skip h = one_of_step c again _ flags skip h _ (one_of_flags c again k)

one_of_flag_word : (c : List Rule) (again : Bool) (long : Option (Text × Option Text)) (word : Text) (h : Held)
    → Few (flag_word_fault c again long word h)
one_of_flag_word c again (Some p) word h = one_of_long c again (arg_by_long c p.0) p.1 h
one_of_flag_word c again None word h = for_each _ _ (λ flags. one_of_flags c again _ flags _ _)

-- a test with the opposite of what holds fails
never : (b d : Bool) (kinds : Kinds) → d ≡ true → Few (if b && not d then kinds else [])
never true true kinds same = no_kind
never false d kinds same = no_kind
never true false kinds same = absurd (cc)

one_of_other : (s : Shape) (name : Option Text) (word : Text) (h : Held) → s.disable_help_subcommand ≡ true
    → Few (other_fault s name word h)
one_of_other s (Some name) word h alone = never _ _ _ alone
one_of_other s None word h alone = pick _ _ _ no_kind (one_of_flag_word s.rules s.args_override_self (long_of word) word h)

-- a command without subcommands, and without the one that tells of others
abbrev IsAlone : Shape → Type 0
IsAlone s = (s.is_leaf ≡ true) × (s.disable_help_subcommand ≡ true)

one_of_stray : (s : Shape) → s.is_leaf ≡ true → Few (stray_fault s)
one_of_stray s alone = chosen s.is_leaf _ _ alone (a_kind _)

-- a word that a position takes, or a stray one
one_of_positional : (c : List Rule) (again : Bool) (a : Rule) (h : Held) → Few (positional_fault c again a h)
one_of_positional c again a h = pick _ _ _ no_kind (one_of_settle c again h)

one_of_place : (s : Shape) (position : ℕ) (h : Held) (step : Step) → s.is_leaf ≡ true → Few (step_fault s position h step)
one_of_place s position h value alone =
    either_way _ _ (arg_by_index s.rules position) (λ a. one_of_positional _ _ a h) (one_of_stray s alone)
one_of_place s position h _ alone = no_kind

-- a word, and all words in turn
one_of_turn : (s : Shape) (names : Names) (w : Walk) (word : Text) → IsAlone s → Few (turn_fault s names w word)
one_of_turn s names w word alone =
    let met = word_met s.rules names w.is_trailing w.waiting w.position word w.held in
    let other = one_of_other s (subcommand_met names w.waiting word) word w.held alone.1 in
    pick _ _ _ no_kind (either _ _ (pick _ _ _ no_kind other) (one_of_place s w.position met.0 met.1 alone.0))

one_of_walk : (s : Shape) (names : Names) (words : List Text) (w : Walk) → IsAlone s → Few (walk_fault s names w words)
unfolding walk_fault
one_of_walk s names [] w alone = no_kind
one_of_walk s names (word ∷ rest) w alone = either _ _ (one_of_turn s names w word alone) (one_of_walk s names rest _ alone)

-- what is looked at behind the last word
one_of_default : (rows : List Row) (a : Rule) → Few (default_fault rows a)
one_of_default rows a = search (pick, no_kind, either, one_of_request, one_of_values)

one_of_defaults : (rules : List Rule) (rows : List Row) → Few (defaults_fault rows rules)
unfolding defaults_fault
one_of_defaults [] rows = no_kind
one_of_defaults (a ∷ rest) rows = either _ _ (one_of_default rows a) (one_of_defaults rest _)

one_of_check : (s : Shape) (rows : List Row) (below : Bool) → Few (check_fault s rows below)
one_of_check s rows below = search (pick, a_kind, no_kind)

-- all of it, one step after another
one_of_level : (s : Shape) (names : Names) (h : Held) (words : List Text) (below : Bool) (kinds : Kinds) → IsAlone s → Few kinds
    → Few (level_fault s names h words below kinds)
one_of_level s names h words below kinds alone few =
    let end = (walk s.rules names h words).held in
    let defaults = one_of_defaults s.rules (settled s.rules end).rows in
    either _ _ (one_of_walk s names words _ alone)
    (either _ _ few (either _ _ (one_of_settle s.rules s.args_override_self end)
    (either _ _ defaults (one_of_check s (finished s.rules end) below))))

one_of_entered : (a : App) (stop : Option (Text × List Text)) → a.subs ≡ [] → Few (entered_fault a stop)
one_of_entered a stop none = for_each _ stop (λ p. rw none no_kind)

-- the words are taken, or refused by one kind
pub one_kind : (a : App) (h : Held) (words : List Text) → a.subs ≡ [] → IsAlone a.top → Few (built_fault a h words)
one_kind a h words none alone = one_of_level a.top _ h words _ _ alone (one_of_entered a _ none)
