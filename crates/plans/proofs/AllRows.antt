-- A file none of whose rows is refused is read to its end.
use Rattle.records.proofs.Common.{◌≡◌, List, ℕ, length, ◌∙◌, arith, [], ◌<◌, sym, None, Some, refl, ◌+◌, get_or, suc, zero, add-one, ◌∷◌, Mode, body_of}
use Rattle.records.proofs.{Common.head_reason, Common.Row, Unrefused.head_none, Unrefused.each_none}
use Rattle.std.specs.List.{AllByRecursion as Each}
use Rattle.plans.proofs.FileRead.{first_is, first_read, first_reason, reason_is, last_there, finish_is, finish_sound}
use Rattle.plans.proofs.{RowRead.row_able, RowRead.act_read, RowRead.leg_read, Shapes.IsPlan, Shapes.Shaped, Shapes.shaped_first, Shapes.shaped_act}
use Rattle.plans.proofs.{Shapes.shaped_leg, Shapes.shaped_all, Whole.body_some, Whole.body_is}
use Rattle.plans.specs.{Kinds.kind_of, Kinds.plans_header, Progress.Progress, Progress.IsReadTo, Progress.IsSound, Progress.step_first, Progress.step_act}
use Rattle.plans.specs.{Progress.step_leg, Refusals.row_reason, Values.PlanFileRows, Values.row_before, Values.row_behind, Values.reason_at, Values.rows_fault}
use Rattle.plans.specs.{Values.values_of, Values.plans_fault, Values.file_rows, declared.kinds.ElementKind.ElementKind}
use Rattle.plans.specs.declared.kinds.ElementKind.TheVariants as element

-- the first n rows are read, and this holds of what they give
pub record IsReadWith (links : List (List ℕ)) (ends : List (ℕ × ℕ)) (rows : List Row) (holds : ℕ → Progress → Type 0) (n : ℕ) : Type 0 where
  pub progress : Progress
  pub read : IsReadTo links ends rows n progress
  pub held : holds n progress

-- what holds once the first row is read, and stays true as each further row is
pub record Stays (links : List (List ℕ)) (ends : List (ℕ × ℕ)) (rows : List Row) (holds : ℕ → Progress → Type 0) : Type 0 where
  pub first : IsReadTo links ends rows 1 (step_first links (get_or rows 0 [])) → kind_of (get_or rows 0 []) ≡ element.Act → holds 1 (step_first links (get_or rows 0 []))
  pub act : (n : ℕ) (p : Progress) → n < length rows → IsReadTo links ends rows n p
      → row_reason links ends p.persons (length p.legs) (row_before rows n) (get_or rows n []) (row_behind rows n) ≡ None → kind_of (get_or rows n []) ≡ element.Act
      → holds n p → holds (n + 1) (step_act links p (row_before rows n) (get_or rows n []) (n + 1))
  pub leg : (n : ℕ) (p : Progress) (mode : Mode) → n < length rows → IsReadTo links ends rows n p
      → row_reason links ends p.persons (length p.legs) (row_before rows n) (get_or rows n []) (row_behind rows n) ≡ None → kind_of (get_or rows n []) ≡ element.Leg (Some mode)
      → holds n p → holds (n + 1) (step_leg links p mode (get_or rows n []))

module _ (links : List (List ℕ)) (ends : List (ℕ × ℕ)) (rows : List Row) (holds : ℕ → Progress → Type 0) (stays : Stays links ends rows holds) where
  next_with : (n : ℕ) → n < length rows → reason_at links ends rows n ≡ None → IsReadWith links ends rows holds n → IsReadWith links ends rows holds (n + 1)
  next_with n less none w = by (kind_of (get_or rows n [])) refl
    where
      free : row_reason links ends w.progress.persons (length w.progress.legs) (row_before rows n) (get_or rows n []) (row_behind rows n) ≡ None
      free = sym (reason_is links ends rows n w.progress w.read) ∙ none

      by : (k : ElementKind) → kind_of (get_or rows n []) ≡ k → IsReadWith links ends rows holds (n + 1)
      by element.Act is =
          record { progress = _; read = act_read links ends rows n w.progress w.read less free is; held = stays.act n w.progress less w.read free is w.held }
      by (element.Leg (Some mode)) is =
          record {
            progress = _;
            read = leg_read links ends rows n w.progress w.read less free mode is;
            held = stays.leg n w.progress mode less w.read free is w.held;
          }
      by (element.Leg None) is = absurd ((row_able links ends rows n w.progress w.read less free).moded is)
      by element.Neither is = absurd ((row_able links ends rows n w.progress w.read less free).kinded is)

  read_with : (n : ℕ) → n < length rows → ((i : ℕ) → i < length rows → reason_at links ends rows i ≡ None) → IsReadWith links ends rows holds (suc n)
  read_with zero less none =
      let free = sym (first_reason links ends rows) ∙ none 0 less in
      let read = first_read links ends rows less free in
      record { progress = _; read = read; held = stays.first read (first_is links ends (get_or rows 0 []) (row_behind rows 0) free).0 }
  read_with (suc n) less none = rw (← add-one) (next_with (suc n) less (none (suc n) less) (read_with n (omega arith) none))

-- all rows are read where none is refused
pub all_with : (links : List (List ℕ)) (ends : List (ℕ × ℕ)) (rows : List Row) (holds : ℕ → Progress → Type 0) → Stays links ends rows holds → 0 < length rows → rows_fault None links ends rows ≡ None
    → IsReadWith links ends rows holds (length rows)
unfolding rows_fault
all_with links ends [] holds stays some none = absurd (omega arith)
all_with links ends (row ∷ rows) holds stays some none =
    read_with links ends (row ∷ rows) holds stays (length rows) (omega arith)
    (λ i less. each_none None (reason_at links ends (row ∷ rows)) (suc (length rows)) i less none)

-- what plans.csv gives where no row of it is refused: names for all numbers, and plans that keep the limits
pub record AreFreePlans (links : List (List ℕ)) (ends : List (ℕ × ℕ)) (file : PlanFileRows) : Type 0 where
  pub sound : IsSound links ends file
  pub plans : Each (Each IsPlan) file.plans

shape_stays : (links : List (List ℕ)) (ends : List (ℕ × ℕ)) (rows : List Row) → Stays links ends rows (λ _ p. Shaped p)
shape_stays links ends rows = record {
  first = λ read is. shaped_first links (get_or rows 0 []);
  act = λ n p less read free is s. shaped_act links p (row_before rows n) (get_or rows n []) (n + 1) s (row_able links ends rows n p read less free).closes;
  leg = λ n p mode less read free is s. let able = row_able links ends rows n p read less free in shaped_leg links p mode (get_or rows n []) s (able.leg mode is) (able.ended mode is);
}

pub rows_free : (links : List (List ℕ)) (ends : List (ℕ × ℕ)) (rows : List Row) → 0 < length rows → rows_fault None links ends rows ≡ None → AreFreePlans links ends (values_of links rows)
rows_free links ends rows some none =
    let w = all_with links ends rows (λ _ p. Shaped p) (shape_stays links ends rows) some none in
    rw (← finish_is links ends rows w.progress w.read)
    (record { sound = finish_sound links ends rows w.progress w.read; plans = shaped_all w.progress w.held (last_there links ends rows w.progress w.read) })

-- a file without a fault has a row behind its header, and none of its rows is refused
pub record HasFreeRows (links : List (List ℕ)) (ends : List (ℕ × ℕ)) (bytes : List ℕ) : Type 0 where
  pub some : 0 < length (body_of bytes)
  pub none : rows_fault None links ends (body_of bytes) ≡ None

pub file_free : (links : List (List ℕ)) (ends : List (ℕ × ℕ)) (bytes : List ℕ) → plans_fault links ends bytes ≡ None → HasFreeRows links ends bytes
unfolding rows_fault
file_free links ends bytes none =
    let head = head_none (head_reason plans_header bytes) (reason_at links ends (body_of bytes)) (length (body_of bytes)) none in
    record {
      some = rw (body_is bytes) at (body_some plans_header bytes head);
      none = rw head at none;
    }

pub plans_free : (links : List (List ℕ)) (ends : List (ℕ × ℕ)) (bytes : List ℕ) → plans_fault links ends bytes ≡ None → AreFreePlans links ends (file_rows links bytes)
plans_free links ends bytes none =
    let free = file_free links ends bytes none in
    rows_free links ends (body_of bytes) free.some free.none
