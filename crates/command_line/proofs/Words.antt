-- What was given for positions, as the rows of clap's matches have it.
use Rattle.std.proofs.Common.{◌≡◌, ◌∙◌, ◌<◌, ◌≤◌, ◌^◌, arith, ap, sym, subst, refl, inl, inr, ℕ, pos, Bool, true, false, List, [], Option, None, Some, codes}
use Rattle.std.specs.{Borrow.Bor, Option.option_map_or, Prelude.Result, Prelude.Ok, Prelude.option_map, Prelude.unwrap_or, Str.bytes_eq}
use Rattle.std.specs.Str.Parse.{ParsesUnsigned, digits_value, without_leading_plus}
use Rattle.clap.{proofs.CallerReads.signed_reads, proofs.WalkLemmas.first_value-rows, proofs.WalkLemmas.one_text-rows, specs.Matches.ReadsOne}
use Rattle.clap.specs.{Words.IsSignedIn, Words.first_value, Words.one_text, Words.rows_of, Words.without_minus, declared.parser.matches.Found.Found}
use Rattle.command_line.specs.Commands.{number_in, number_of, number_or, text_in, is_set}
use Rattle.command_line.specs.Given.{MayHaveNumber, HasFlag}
use Rattle.command_line.specs.declared.commands.Command.TheVariants as command

pub no_word : (found : Found) (id : List ℕ) (given : Option (Bor (List ℕ))) → option_map (λ s. s.now) given ≡ first_value found id
    → given ≡ None
    → [] ≡ text_in id (rows_of found)
no_word found id given is none =
    ap (λ (o : Option (List ℕ)). unwrap_or o []) (ap (λ (o : Option (Bor (List ℕ))). option_map (λ s. s.now) o) (sym none) ∙ is
    ∙ first_value-rows found id)

pub the_word : (found : Found) (id : List ℕ) (given : Option (Bor (List ℕ))) (word : Bor (List ℕ)) (bytes : List ℕ)
    → option_map (λ s. s.now) given ≡ first_value found id → given ≡ Some word → bytes ≡ word.now → bytes ≡ text_in id (rows_of found)
the_word found id given word bytes is some copied =
    copied ∙ ap (λ (o : Option (List ℕ)). unwrap_or o []) (ap (λ (o : Option (Bor (List ℕ))). option_map (λ s. s.now) o) (sym some) ∙ is
    ∙ first_value-rows found id)

pub the_number : (found : Found) (id text : List ℕ) (number : ℕ) → one_text found id ≡ Some text
    → number ≡ digits_value 10 (without_leading_plus text) → number ≡ number_in id (rows_of found)
the_number found id text number is read =
    read ∙ ap (λ (o : Option (List ℕ)). digits_value 10 (without_leading_plus (unwrap_or o []))) (sym is ∙ one_text-rows found id)

-- a number that was read of a text within bounds is within them
pub number_within : {E : Type 0} (G : List ℕ → Result ℕ E → Type 0) (least most number : ℕ) (text : List ℕ)
    → ReadsOne G (without_minus text) (Some number)
    → ((u : List ℕ) (x : Result ℕ E) → G u x → ParsesUnsigned 32 10 u x) → most < 2 ^ 32 → IsSignedIn (pos least) (pos most) text
    → (least ≤ number) × (number ≤ most)
number_within {E} G least most number text read parses fits passed =
    let got = signed_reads E G 32 least most text (Some number) read parses fits passed in
    let same : number ≡ got.0 = ap (λ (o : Option ℕ). unwrap_or o 0) got.1 in
    (omega (arith, same, got.2), omega (arith, same, got.3))

-- a number that may be given for an option, as it is read
module _ {E : Type 0} (G : List ℕ → Result ℕ E → Type 0) (parses : (u : List ℕ) (x : Result ℕ E) → G u x → ParsesUnsigned 32 10 u x)
    (found : Found) (id : List ℕ) (least most : ℕ) (fits : most < 2 ^ 32) (may : MayHaveNumber least most id found) where
  -- what is read as no number was not given
  none_given : ((text : List ℕ) → one_text found id ≡ Some text → ReadsOne G text None) → (o : Option (List ℕ)) → one_text found id ≡ o
      → o ≡ None
  none_given reads None is = refl
  none_given reads (Some given) is =
      let number = may given is in
      let read : ReadsOne G (without_minus number.0) None = subst (λ (t : List ℕ). ReadsOne G t None) number.1 (reads given is) in
      let got = signed_reads E G 32 least most number.0 None read parses fits number.2 in
      let bad : None ≡ Some got.0 = got.1 in
      absurd (cc bad)

  -- so its default counts
  pub the_default : (read : Option ℕ) → read ≡ None → ((text : List ℕ) → one_text found id ≡ Some text → ReadsOne G text read)
      → (default : ℕ) → default ≡ number_or id default (rows_of found)
  the_default read is_none reads default =
      let none : one_text found id ≡ None =
      none_given (λ text is. subst (λ (o : Option ℕ). ReadsOne G text o) is_none (reads text is)) (one_text found id) refl in
      ap (λ (o : Option (List ℕ)). option_map_or number_of o default) (sym none ∙ one_text-rows found id)

  -- what is read as a number is the one that was given
  pub option_given : (number default : ℕ) → (one_text found id ≡ None → Some number ≡ None)
      → ((text : List ℕ) → one_text found id ≡ Some text → ReadsOne G text (Some number))
      → (number ≡ number_or id default (rows_of found)) × ((least ≤ number) × (number ≤ most))
  option_given number default none reads = by_text (one_text found id) refl
    where
      by_text : (o : Option (List ℕ)) → one_text found id ≡ o
          → (number ≡ number_or id default (rows_of found)) × ((least ≤ number) × (number ≤ most))
      by_text None is =
          let bad : Some number ≡ None = none is in
          absurd (cc bad)
      by_text (Some given) is =
          let said = may given is in
          let read : ReadsOne G (without_minus said.0) (Some number) =
          subst (λ (t : List ℕ). ReadsOne G t (Some number)) said.1 (reads given is) in
          let value = parses given (Ok number) (reads given is) in (
            value.1 ∙ ap (λ (o : Option (List ℕ)). option_map_or number_of o default) (sym is ∙ one_text-rows found id),
            number_within G least most number said.0 read parses fits said.2,
          )

-- a flag that may be given, as it is read
pub flag_is : (found : Found) (id : List ℕ) (set : Bool) → HasFlag id found → (one_text found id ≡ None → set ≡ false)
    → (one_text found id ≡ Some (codes "true") → set ≡ true) → (one_text found id ≡ Some (codes "false") → set ≡ false)
    → set ≡ is_set id (rows_of found)
flag_is found id set may none on off =
    by_text (one_text found id) refl
    ∙ ap (λ (o : Option (List ℕ)). option_map_or (λ (t : List ℕ). bytes_eq t (codes "true")) o false) (one_text-rows found id)
  where
    by_text : (o : Option (List ℕ)) → one_text found id ≡ o → set ≡ option_map_or (λ (t : List ℕ). bytes_eq t (codes "true")) o false
    by_text None is = none is
    by_text (Some given) is = elim (may given is) [
      | inl same ↦ on (is ∙ ap Some same) ∙ sym (ap (λ (t : List ℕ). bytes_eq t (codes "true")) same)
      | inr same ↦ off (is ∙ ap Some same) ∙ sym (ap (λ (t : List ℕ). bytes_eq t (codes "true")) same)
    ]

-- a route of such words
pub route_with : (from to from_word to_word : List ℕ) (second number : ℕ) → from ≡ from_word → to ≡ to_word → second ≡ number
    → command.Route from to second ≡ command.Route from_word to_word number
route_with from to from_word to_word second number from_is to_is second_is =
    ap (λ (w : List ℕ). command.Route w to second) from_is ∙ ap (λ (w : List ℕ). command.Route from_word w second) to_is
    ∙ ap (λ (n : ℕ). command.Route from_word to_word n) second_is

-- a grid of such numbers
pub grid_with : (size size_number seed seed_number last last_number : ℕ) → size ≡ size_number → seed ≡ seed_number → last ≡ last_number
    → command.Generate size seed last ≡ command.Generate size_number seed_number last_number
grid_with size size_number seed seed_number last last_number size_is seed_is last_is =
    ap (λ (n : ℕ). command.Generate n seed last) size_is ∙ ap (λ (n : ℕ). command.Generate size_number n last) seed_is
    ∙ ap (λ (n : ℕ). command.Generate size_number seed_number n) last_is
