-- What clap's answer to the words of a command says.
use Rattle.std.proofs.Common.{◌≡◌, ◌≢◌, ◌∙◌, arith, inl, inr, ℕ, Bool, true, List, [], ◌∷◌, refl, sym, ap, subst}
use Rattle.std.{proofs.lemmas.Result.IfOk-weaker, specs.Prelude.Result, specs.Prelude.IfOk}
use Rattle.clap.{proofs.OnLiterals.clap_on_literals, specs.Kinds.HasKind, specs.Kinds.IsAmong, specs.Kinds.Kinds}
use Rattle.clap.specs.Words.{App, HasMatchesOf, fault_of, found_of, is_simple, is_simple_and_free, kind_of, matches_of, rows_of}
use Rattle.clap.specs.declared.error.{Error.Error, kind.ErrorKind.ErrorKind, kind.ErrorKind.TheVariants.OutOfMemory}
use Rattle.clap.specs.declared.parser.matches.ArgMatches.{ArgMatches}
use Rattle.command_line.{proofs.OneKind.Few, proofs.OneKind.one_kind, specs.Cases.Case, specs.Cases.Work, specs.Cases.asked_case, specs.Cases.kind_case}
use Rattle.command_line.specs.{Cases.kinds_case, Cases.simple_case, Cases.work_with, Commands.simple_command, declared.commands.Command.Command}
use Rattle.command_line.specs.declared.commands.CommandName.{CommandName, TheVariants.Run, TheVariants.Resume, TheVariants.Check, TheVariants.Route}
use Rattle.command_line.specs.declared.{commands.CommandName.TheVariants.Generate, reading.Asked.Asked}

-- clap tells exactly which words it takes
is_plain : (name : CommandName) → is_simple_and_free (simple_command name) ≡ true
unfolding clap_on_literals
is_plain Run = refl
is_plain Resume = refl
is_plain Check = refl
is_plain Route = refl
is_plain Generate = refl

-- and what it finds in them
is_single : (name : CommandName) → is_simple (simple_command name) ≡ true
unfolding clap_on_literals
is_single Run = refl
is_single Resume = refl
is_single Check = refl
is_single Route = refl
is_single Generate = refl

-- it answers the words of a command by one kind at most
few_kinds : (name : CommandName) (words : List (List ℕ)) → Few (fault_of (simple_command name) words)
few_kinds Run words = one_kind _ _ _ refl (refl, refl)
few_kinds Resume words = one_kind _ _ _ refl (refl, refl)
few_kinds Check words = one_kind _ _ _ refl (refl, refl)
few_kinds Route words = one_kind _ _ _ refl (refl, refl)
few_kinds Generate words = one_kind _ _ _ refl (refl, refl)

-- a kind that is among few kinds is the only one
the_kind : (kinds : Kinds) (kind : ErrorKind) → Few kinds → IsAmong kind kinds → kinds ≡ kind ∷ []
the_kind [] kind few among = absurd among
the_kind (x ∷ []) kind few (inl same) = ap (λ y. y ∷ []) (sym same)
the_kind (x ∷ []) kind few (inr none) = absurd none
the_kind (x ∷ y ∷ kinds) kind few among = absurd (omega (arith, few.few))

-- an error that is no want of memory has that kind
as_told : (work : Case) (kinds : Kinds) (e : Error) → Few kinds → HasKind kinds e → kind_of e ≢ OutOfMemory
    → kind_case (kind_of e) ≡ kinds_case work kinds
as_told work kinds e few (inl memory) other = absurd (other memory)
as_told work kinds e few (inr among) other = sym (ap (kinds_case work) (the_kind kinds _ few among))

-- the work of a command, by what it is made of
pub work_is : (command other : Command) (partitions many workers staff : ℕ) (streams flows : Bool) → command ≡ other → partitions ≡ many
    → workers ≡ staff → streams ≡ flows → Work command partitions workers streams ≡ Work other many staff flows
work_is command other partitions many workers staff streams flows command_is partitions_is workers_is streams_is =
    ap (λ (c : Command). Work c partitions workers streams) command_is ∙ ap (λ (n : ℕ). Work other n workers streams) partitions_is
    ∙ ap (λ (n : ℕ). Work other many n streams) workers_is ∙ ap (λ (b : Bool). Work other many staff b) streams_is

module _ (name : CommandName) (a : App) (words : List (List ℕ)) (is : a ≡ simple_command name) where
  plain : is_simple_and_free a ≡ true
  plain = ap is_simple_and_free is ∙ is_plain name

  simple : is_simple a ≡ true
  simple = ap is_simple is ∙ is_single name

  same_case : kinds_case (work_with name (matches_of a words)) (fault_of a words) ≡ simple_case name words
  same_case = ap (λ b. kinds_case (work_with name (matches_of b words)) (fault_of b words)) is

  -- words that it takes ask for the command's work
  pub taken : (work : Case) → work ≡ work_with name (matches_of a words) → (is_simple_and_free a ≡ true → fault_of a words ≡ [])
      → work ≡ simple_case name words
  taken work made_is none = made_is ∙ sym (ap (kinds_case (work_with name (matches_of a words))) (none plain)) ∙ same_case

  -- the others ask for what the kind of its error says
  not_taken : (e : Error) → (is_simple_and_free a ≡ true → HasKind (fault_of a words) e) → kind_of e ≢ OutOfMemory →
      kind_case (kind_of e) ≡ simple_case name words
  not_taken e has other = as_told (work_with name (matches_of a words)) _ e
      (subst (λ b. Few (fault_of b words)) (sym is) (few_kinds name words)) (has plain) other ∙ same_case

  pub told_so : {E : Type 0} (e : Error) (result : Result Asked E) → (is_simple_and_free a ≡ true → HasKind (fault_of a words) e)
      → IfOk result (λ asked. (kind_of e ≢ OutOfMemory) × (asked_case asked ≡ kind_case (kind_of e)))
      → IfOk result (λ asked. asked_case asked ≡ simple_case name words)
  told_so e result has told =
      IfOk-weaker result (λ asked. (kind_of e ≢ OutOfMemory) × (asked_case asked ≡ kind_case (kind_of e)))
      (λ asked. asked_case asked ≡ simple_case name words)
      (λ asked h. h.1 ∙ not_taken e has h.0) told

  -- work that its matches make
  pub made : (work : Case) (m : ArgMatches) → HasMatchesOf a words m → work ≡ work_with name (rows_of (found_of m))
      → work ≡ work_with name (matches_of a words)
  made work m has told = told ∙ ap (work_with name) (has simple).0
