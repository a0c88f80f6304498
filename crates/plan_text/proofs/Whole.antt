-- A text has one plan at most.
use Rattle.records.proofs.Common.{◌≡◌, List, ap, ℕ, length, ◌∙◌, ◌<◌, true, refl, ◌^◌, bytes_eq, Book}
use Rattle.std.proofs.lemmas.Slice.Eq.{bytes_eq-Decides}
use Rattle.rows.specs.{PlanRows.PlanRows, declared.plan.Act.Act, declared.plan.Leg.Leg}
use Rattle.plan_text.{proofs.Back.plan_back, proofs.Joins.both, specs.Elements.rows_in, specs.Elements.acts_in, specs.Elements.legs_in}
use Rattle.plan_text.specs.Lines.{IsBook, IsTextOf, element_lines, are_plan, are_in_book, is_plan_in}

module _ (person index : ℕ) (book : Book) (bytes : List ℕ) (acts : List Act) (legs : List Leg) (are : IsBook book) (there : person < length book.persons) (small : index < 2 ^ 32)
    (acts_read : acts ≡ acts_in book (rows_in bytes)) (legs_read : legs ≡ legs_in book (rows_in bytes)) where
  abbrev pub read_parts : PlanRows
  read_parts = record { acts = acts; legs = legs }

  -- a plan of these lines is what was read row by row
  pub only_plan : (plan : PlanRows) → IsTextOf person index book bytes plan → read_parts ≡ plan
  only_plan plan is =
      let fits = both (are_plan plan.acts plan.legs) (are_in_book book plan.acts plan.legs) is.fits in
      let back = plan_back book person index are there small plan.acts plan.legs fits.0 fits.1 in
      rw (acts_read, legs_read, ← is.lines, back.0, back.1) refl

  -- so what was read fits a plan
  pub fits_too : (plan : PlanRows) → IsTextOf person index book bytes plan → is_plan_in book read_parts ≡ true
  fits_too plan is = ap (is_plan_in book) (only_plan plan is) ∙ is.fits

  -- and has these lines
  pub lines_too : (plan : PlanRows) → IsTextOf person index book bytes plan → element_lines book person index acts legs ≡ bytes
  lines_too plan is = ap (λ (p : PlanRows). element_lines book person index p.acts p.legs) (only_plan plan is) ∙ is.lines

pub same_bytes : (text bytes : List ℕ) → text ≡ bytes → bytes_eq text bytes ≡ true
same_bytes text bytes same = (bytes_eq-Decides text bytes).1 same
