-- The plan of a text: read back where it fits, and one that fits where it is read.
use Rattle.std.proofs.Common.{◌≡◌, ℕ, ◌<◌, ◌^◌, Bool, true, false, cond, ◌&&◌, List, length, None, Some, refl, ap, ◌∙◌, subst}
use Rattle.std.{proofs.lemmas.Slice.Eq.bytes_eq-Decides, specs.Prelude.bytes_eq}
use Rattle.rows.specs.PlanRows.{PlanRows}
use Rattle.plan_text.proofs.{Joins.both, Joins.and_true, Whole.only_plan, Whole.same_bytes}
use Rattle.plan_text.specs.{Elements.rows_in, Elements.acts_in, Elements.legs_in, Lines.IsBook, Lines.IsTextOf, Lines.plan_lines, Lines.is_plan_in}
use Rattle.town.specs.{Fits.fits, Rows.TownRows}
use Rattle.keep.{proofs.Tests.same_some, proofs.Tests.some_if, specs.Reading.is_fitting, specs.Reading.parts_in, specs.Reading.plan_in}

module _ (T : TownRows) (person index : ℕ) where
  abbrev has_lines : PlanRows → List ℕ → Bool
  has_lines plan bytes = bytes_eq (plan_lines person index plan T.book) bytes

  -- what is read of a text is a plan of these lines that fits
  pub plan_taken : (bytes : List ℕ) (plan : PlanRows) → plan_in T person index bytes ≡ Some plan
      → (is_fitting T plan ≡ true) × (plan_lines person index plan T.book ≡ bytes)
  unfolding plan_in
  plan_taken bytes plan read =
      let parts = parts_in T bytes in
      let found = some_if (is_fitting T parts && has_lines parts bytes) (Some parts) plan read in
      let tests = both (is_fitting T parts) (has_lines parts bytes) found.0 in
      let same : parts ≡ plan = same_some parts plan found.1 in (
        subst (λ (p : PlanRows). is_fitting T p ≡ true) same tests.0,
        subst (λ (p : PlanRows). plan_lines person index p T.book ≡ bytes) same ((bytes_eq-Decides (plan_lines person index parts T.book) bytes).0 tests.1),
      )

  module _ (are : IsBook T.book) (there : person < length T.book.persons) (small : index < 2 ^ 32) where
    -- a plan of these lines is what their rows say
    only : (bytes : List ℕ) (plan : PlanRows) → IsTextOf person index T.book bytes plan → parts_in T bytes ≡ plan
    only bytes plan is =
        only_plan person index T.book bytes (acts_in T.book (rows_in bytes)) (legs_in T.book (rows_in bytes)) are there small refl refl plan is

    -- where it fits, it is read
    pub plan_found : (bytes : List ℕ) (plan : PlanRows) → IsTextOf person index T.book bytes plan → fits T plan ≡ true
        → plan_in T person index bytes ≡ Some plan
    unfolding plan_in
    plan_found bytes plan is fit =
        let tests = and_true (is_fitting T plan) (has_lines plan bytes) (and_true (is_plan_in T.book plan) (fits T plan) is.fits fit)
        (same_bytes (plan_lines person index plan T.book) bytes is.lines) in
        ap (λ (p : PlanRows). cond (is_fitting T p && has_lines p bytes) (Some p) None) (only bytes plan is)
        ∙ ap (λ (b : Bool). cond b (Some plan) None) tests

    -- its own lines are
    pub plan_back : (plan : PlanRows) → is_fitting T plan ≡ true → plan_in T person index (plan_lines person index plan T.book) ≡ Some plan
    plan_back plan h =
        let parts = both (is_plan_in T.book plan) (fits T plan) h in
        plan_found (plan_lines person index plan T.book) plan (record { fits = parts.0; lines = refl }) parts.1

    -- where it does not, nothing is
    pub plan_unfit : (bytes : List ℕ) (plan : PlanRows) → IsTextOf person index T.book bytes plan → fits T plan ≡ false
        → plan_in T person index bytes ≡ None
    unfolding plan_in
    plan_unfit bytes plan is unfit =
        ap (λ (p : PlanRows). cond (is_fitting T p && has_lines p bytes) (Some p) None) (only bytes plan is)
        ∙ ap (λ (b : Bool). cond (is_plan_in T.book plan && b && has_lines plan bytes) (Some plan) None) unfit
        ∙ none_if (is_plan_in T.book plan) (has_lines plan bytes) plan
      where
        none_if : (a b : Bool) (p : PlanRows) → cond (a && false && b) (Some p) None ≡ None
        none_if true b p = refl
        none_if false b p = refl

  -- nor where no plan has these lines
  pub plan_none : (bytes : List ℕ) → ((plan : PlanRows) → IsTextOf person index T.book bytes plan → ⊥) → plan_in T person index bytes ≡ None
  unfolding plan_in
  plan_none bytes none =
      by (is_fitting T (parts_in T bytes) && has_lines (parts_in T bytes) bytes) (parts_in T bytes) (λ h.
      let tests = both (is_fitting T (parts_in T bytes)) (has_lines (parts_in T bytes) bytes) h in
      none (parts_in T bytes) (record {
        fits = (both (is_plan_in T.book (parts_in T bytes)) (fits T (parts_in T bytes)) tests.0).0;
        lines = (bytes_eq-Decides (plan_lines person index (parts_in T bytes) T.book) bytes).0 tests.1;
      }))
    where
      by : (b : Bool) (p : PlanRows) → (b ≡ true → ⊥) → cond b (Some p) None ≡ None
      by true p never = absurd (never refl)
      by false p never = refl
