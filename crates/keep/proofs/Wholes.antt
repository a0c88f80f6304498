-- The kept rows of memories that fit a town are read to their end, as these memories.
use Rattle.std.proofs.Common.{◌≡◌, ℕ, ◌+◌, ◌<◌, ◌≤◌, ◌^◌, Bool, true, false, cond, not, ◌&&◌, List, [], ◌∷◌, ◌++◌, length, Option, None, Some, refl, sym, ap}
use Rattle.std.proofs.Common.{◌∙◌, arith, append_assoc, append-nil, length-append}
use Rattle.std.{proofs.lemmas.List.Elements.recursion_from_All, proofs.lemmas.Slice.Eq.bytes_eq-Decides, specs.List.list_all, specs.List.AllByRecursion}
use Rattle.std.specs.Prelude.{ℤ, nat_eq, nat_lt, bytes_eq, is_some, is_none, option_and_then}
use Rattle.events.specs.Names.{name_at}
use Rattle.rows.specs.PlanRows.{PlanRows}
use Rattle.edge_files.specs.declared.keeping.KeptRow.{KeptRow}
use Rattle.plan_text.{proofs.Joins.both, proofs.Joins.and_true, specs.Lines.IsBook, specs.Lines.plan_lines}
use Rattle.plan_memory.specs.{Memories.MemoryRows, declared.TheConstants.MAX_HELD}
use Rattle.town.specs.Rows.{TownRows}
use Rattle.keep.proofs.{PlanTexts.plan_back, Tests.eq_says, Tests.eq_true, Tests.ne_says, Tests.less_ne, Tests.more_ne, Tests.lt_says, Tests.lt_true}
use Rattle.keep.proofs.{Tests.ge_says, Tests.ge_false, Tests.and_false, Told.IsFit, Told.each_weaker, Told.fits_memory}
use Rattle.keep.specs.{Fitting.IsKeptMemory, Fitting.AreRowsOf, Kept.row_of, Kept.is_choice, Kept.rows_from, Kept.own_rows, Kept.persons_rows, Kept.kept_rows}
use Rattle.keep.specs.Reading.{Progress, nothing, start, is_fitting, plan_in, closed_by, closed, is_of, is_next, grown, extended, step, run, if_all, ended}

-- ---- many rows, and some of them

append_by : (T : TownRows) (xs ys : List KeptRow)
    → ((t : Progress) → run T t (xs ++ ys) ≡ option_and_then (λ (u : Progress). run T u ys) (run T t xs)) → (o : Option Progress)
    → option_and_then (λ (t : Progress). run T t (xs ++ ys)) o
    ≡ option_and_then (λ (t : Progress). run T t ys) (option_and_then (λ (t : Progress). run T t xs) o)
append_by T xs ys later None = refl
append_by T xs ys later (Some t) = later t

pub run-append : (T : TownRows) (s : Progress) (xs ys : List KeptRow) → run T s (xs ++ ys) ≡ option_and_then (λ (t : Progress). run T t ys) (run T s xs)
unfolding run
run-append T s [] ys = refl
run-append T s (row ∷ xs) ys = append_by T xs ys (λ t. run-append T t xs ys) (step T s row)

pub run-none : (T : TownRows) (s : Progress) → run T s [] ≡ Some s
unfolding run
run-none T s = refl

run-cons : (T : TownRows) (s t : Progress) (row : KeptRow) (rows : List KeptRow) → step T s row ≡ Some t → run T s (row ∷ rows) ≡ run T t rows
unfolding run
run-cons T s t row rows e = ap (option_and_then (λ (u : Progress). run T u rows)) e

-- ---- the choice, as far as there are plans

abbrev pub up_to : ℕ → ℕ → Option ℕ
up_to c n = cond (nat_lt c n) (Some c) None

up_to-zero : (c : ℕ) → up_to c 0 ≡ None
up_to-zero c = ap (λ (b : Bool). cond b (Some c) None) (ge_false c 0 (omega arith))

up_to-more : (c n : ℕ) → c < n → up_to c n ≡ Some c
up_to-more c n less = ap (λ (b : Bool). cond b (Some c) None) (lt_true c n less)

choice_more : (n c : ℕ) (a b d : Bool) → nat_eq n c ≡ a → nat_lt c n ≡ b → nat_lt c (n + 1) ≡ d
    → cond a (Some n) (cond b (Some c) None) ≡ cond d (Some c) None
choice_more n c true b true is before now = ap Some (eq_says n c is)
choice_more n c true b false is before now =
    let same = eq_says n c is in let more = ge_says c (n + 1) now in absurd (omega arith)
choice_more n c false true true is before now = refl
choice_more n c false true false is before now =
    let less = lt_says c n before in let more = ge_says c (n + 1) now in absurd (omega arith)
choice_more n c false false true is before now =
    let least = ge_says c n before in let less = lt_says c (n + 1) now in absurd (ne_says n c is (omega arith))
choice_more n c false false false is before now = refl

choice_on : (n c : ℕ) → cond (nat_eq n c) (Some n) (up_to c n) ≡ up_to c (n + 1)
choice_on n c = choice_more n c (nat_eq n c) (nat_lt c n) (nat_lt c (n + 1)) refl refl refl

single_by : (n c : ℕ) (a b : Bool) → nat_eq n c ≡ a → nat_lt c n ≡ b → not (a && is_some (cond b (Some c) None)) ≡ true
single_by n c true true is before = let same = eq_says n c is in let less = lt_says c n before in absurd (omega arith)
single_by n c true false is before = refl
single_by n c false b is before = refl

chosen_by : (l n c total : ℕ) (b : Bool) → nat_lt c (n + 1) ≡ b → l ≡ n + 1 → n + 1 ≤ total → total ≤ 6 → c < total
    → (nat_eq l 6 && is_none (cond b (Some c) None)) ≡ false
chosen_by l n c total true is count most few within = and_false (nat_eq l 6)
chosen_by l n c total false is count most few within =
    let more = ge_says c (n + 1) is in
    let less : l < 6 = omega arith in
    ap (λ (a : Bool). a && true) (less_ne l 6 less)

module _ (T : TownRows) (are : IsBook T.book) where
  abbrev with : List MemoryRows → List PlanRows → List (Option ℤ) → Option ℕ → Progress
  with done plans scores chosen = record { done = done; begun = record { plans = plans; scores = scores; chosen = chosen } }

  -- ---- one row

  abbrev the_row : List MemoryRows → ℕ → ℕ → PlanRows → Option ℤ → KeptRow
  the_row done c n p x = row_of T.book (length done) n (is_choice (Some c) n) p x

  module _ (done : List MemoryRows) (c n total : ℕ) (ps : List PlanRows) (xs : List (Option ℤ)) (p : PlanRows) (x : Option ℤ)
      (count : n ≡ length ps) (person : length done < length T.book.persons) (most : n + 1 ≤ total) (few : total ≤ 6) (within : c < total)
      (fit : is_fitting T p ≡ true) where
    next_is : is_next T (with done ps xs (up_to c n)) (the_row done c n p x) ≡ true
    unfolding is_next
    next_is =
        let persons = T.book.persons in
        let own : is_of persons (length done) (name_at persons (length done)) ≡ true =
        and_true (nat_lt (length done) (length persons)) (bytes_eq (name_at persons (length done)) (name_at persons (length done)))
        (lt_true (length done) (length persons) person) ((bytes_eq-Decides (name_at persons (length done)) (name_at persons (length done))).1 refl) in
        let two : (nat_eq n (length ps) && nat_lt (length ps) MAX_HELD) ≡ true =
        and_true (nat_eq n (length ps)) (nat_lt (length ps) MAX_HELD) (eq_true n (length ps) count) (lt_true (length ps) MAX_HELD (omega arith)) in
        let single = single_by n c (nat_eq n c) (nat_lt c n) refl refl in
        and_true (is_of persons (length done) (name_at persons (length done)))
        (nat_eq n (length ps) && nat_lt (length ps) MAX_HELD && not (nat_eq n c && is_some (up_to c n))) own
        (and_true (nat_eq n (length ps) && nat_lt (length ps) MAX_HELD) (not (nat_eq n c && is_some (up_to c n))) two single)

    grown_is : grown (with done ps xs (up_to c n)) (the_row done c n p x) p ≡ Some (with done (ps ++ p ∷ []) (xs ++ x ∷ []) (up_to c (n + 1)))
    unfolding grown
    grown_is =
        let plans = length-append ps (p ∷ []) in
        let some = chosen_by (length (ps ++ p ∷ [])) n c total (nat_lt c (n + 1)) refl (omega (arith, plans)) most few within in
        ap (λ (o : Option ℕ). cond (nat_eq (length (ps ++ p ∷ [])) MAX_HELD && is_none o) None (Some (with done (ps ++ p ∷ []) (xs ++ x ∷ []) o))) (choice_on n c)
        ∙ ap (λ (b : Bool). cond b None (Some (with done (ps ++ p ∷ []) (xs ++ x ∷ []) (up_to c (n + 1))))) some

    pub extended_is : extended T (the_row done c n p x) (with done ps xs (up_to c n)) ≡ Some (with done (ps ++ p ∷ []) (xs ++ x ∷ []) (up_to c (n + 1)))
    unfolding extended
    extended_is =
        let s = with done ps xs (up_to c n) in
        let row = the_row done c n p x in
        let small : n < 2 ^ 32 = omega arith in
        ap (λ (b : Bool). cond b (option_and_then (grown s row) (plan_in T (length done) n (plan_lines (length done) n p T.book))) None) next_is
        ∙ ap (option_and_then (grown s row)) (plan_back T (length done) n are person small p fit)
        ∙ grown_is

  -- ---- a person's rows

  step_on : (s : Progress) (row : KeptRow) → nat_eq row.plan 0 ≡ false → step T s row ≡ extended T row s
  unfolding step
  step_on s row more = ap (λ (b : Bool). option_and_then (extended T row) (cond b (closed s) (Some s))) more

  step_new : (s t : Progress) (row : KeptRow) → nat_eq row.plan 0 ≡ true → closed s ≡ Some t → step T s row ≡ extended T row t
  unfolding step
  step_new s t row zeroth is =
      ap (λ (b : Bool). option_and_then (extended T row) (cond b (closed s) (Some s))) zeroth ∙ ap (option_and_then (extended T row)) is

  rest_run : (done : List MemoryRows) (c total : ℕ) (qs : List PlanRows) (ys : List (Option ℤ)) (ps : List PlanRows) (xs : List (Option ℤ)) (n : ℕ)
      → n ≡ length ps → length ys ≡ length qs → n + length qs ≡ total → 0 < n → c < total → total ≤ 6
      → length done < length T.book.persons → list_all (is_fitting T) qs ≡ true
      → run T (with done ps xs (up_to c n)) (rows_from T.book (length done) (Some c) n qs ys) ≡ Some (with done (ps ++ qs) (xs ++ ys) (up_to c total))
  rest_run done c total [] [] ps xs n count each all later within few person fit =
      let at : n ≡ total = omega arith in
      run-none T (with done ps xs (up_to c n))
      ∙ ap (λ (k : ℕ). Some (with done ps xs (up_to c k))) at
      ∙ ap (λ (l : List PlanRows). Some (with done l xs (up_to c total))) (sym (append-nil ps))
      ∙ ap (λ (l : List (Option ℤ)). Some (with done (ps ++ []) l (up_to c total))) (sym (append-nil xs))
  rest_run done c total [] (y ∷ ys) ps xs n count each all later within few person fit = absurd (omega arith)
  rest_run done c total (p ∷ qs) [] ps xs n count each all later within few person fit = absurd (omega arith)
  rest_run done c total (p ∷ qs) (y ∷ ys) ps xs n count each all later within few person fit =
      let tests = both (is_fitting T p) (list_all (is_fitting T) qs) fit in
      let s = with done ps xs (up_to c n) in
      let row = the_row done c n p y in
      let next = with done (ps ++ p ∷ []) (xs ++ y ∷ []) (up_to c (n + 1)) in
      let stepped : step T s row ≡ Some next =
      step_on s row (more_ne n 0 later) ∙ extended_is done c n total ps xs p y count person (omega arith) few within tests.0 in
      let plans = length-append ps (p ∷ []) in
      run-cons T s next row (rows_from T.book (length done) (Some c) (n + 1) qs ys) stepped
      ∙ rest_run done c total qs ys (ps ++ p ∷ []) (xs ++ y ∷ []) (n + 1) (omega (arith, plans)) (omega arith) (omega arith) (omega arith) within few person tests.1
      ∙ ap (λ (l : List PlanRows). Some (with done l ((xs ++ y ∷ []) ++ ys) (up_to c total))) (append_assoc ps (p ∷ []) qs)
      ∙ ap (λ (l : List (Option ℤ)). Some (with done (ps ++ p ∷ qs) l (up_to c total))) (append_assoc xs (y ∷ []) ys)

  own_run : (s : Progress) (done : List MemoryRows) (c : ℕ) (plans : List PlanRows) (scores : List (Option ℤ))
      → closed s ≡ Some (record { done = done; begun = nothing }) → length done < length T.book.persons
      → length plans ≤ 6 → length scores ≡ length plans → c < length plans → list_all (is_fitting T) plans ≡ true
      → run T s (rows_from T.book (length done) (Some c) 0 plans scores) ≡ Some (with done plans scores (Some c))
  own_run s done c [] scores is person few each within fit = absurd (omega arith)
  own_run s done c (p ∷ ps) [] is person few each within fit = absurd (omega arith)
  own_run s done c (p ∷ ps) (x ∷ xs) is person few each within fit =
      let tests = both (is_fitting T p) (list_all (is_fitting T) ps) fit in
      let total = length (p ∷ ps) in
      let row = the_row done c 0 p x in
      let next = with done (p ∷ []) (x ∷ []) (up_to c 1) in
      let start_is : closed s ≡ Some (with done [] [] (up_to c 0)) =
      is ∙ ap (λ (o : Option ℕ). Some (with done [] [] o)) (sym (up_to-zero c)) in
      let stepped : step T s row ≡ Some next =
      step_new s (with done [] [] (up_to c 0)) row refl start_is ∙ extended_is done c 0 total [] [] p x refl person (omega arith) few within tests.0 in
      run-cons T s next row (rows_from T.book (length done) (Some c) 1 ps xs) stepped
      ∙ rest_run done c total ps xs (p ∷ []) (x ∷ []) 1 refl (omega arith) (omega arith) (omega arith) within few person tests.1
      ∙ ap (λ (o : Option ℕ). Some (with done (p ∷ ps) (x ∷ xs) o)) (up_to-more c total within)

  -- the person is done with
  closed_is : (done : List MemoryRows) (m : MemoryRows) → m.chosen < length m.plans
      → closed (with done m.plans m.scores (Some m.chosen)) ≡ Some (record { done = done ++ m ∷ []; begun = nothing })
  unfolding closed
  closed_is done m within =
      let some : 0 < length m.plans = omega arith in
      ap (λ (b : Bool). cond b (Some (with done m.plans m.scores (Some m.chosen))) (closed_by (with done m.plans m.scores (Some m.chosen)) (Some m.chosen)))
      (more_ne (length m.plans) 0 some)

  -- ---- the rows of all persons

  record Ends (s : Progress) (rows : List KeptRow) (memories : List MemoryRows) : Type 0 where
    pub last : Progress
    pub read : run T s rows ≡ Some last
    pub all : closed last ≡ Some (record { done = memories; begun = nothing })

  all_run : (ms : List MemoryRows) (s : Progress) (done : List MemoryRows) → closed s ≡ Some (record { done = done; begun = nothing })
      → length done + length ms ≡ length T.book.persons → AllByRecursion (IsFit T) ms → Ends s (persons_rows T.book (length done) ms) (done ++ ms)
  all_run [] s done is count fit = record {
    last = s;
    read = run-none T s;
    all = is ∙ ap (λ (l : List MemoryRows). let t : Progress = record { done = l; begun = nothing } in Some t) (sym (append-nil done));
  }
  all_run (m ∷ ms) s done is count fit =
      let own = fit.0 in
      let one = own_run s done m.chosen m.plans m.scores is (omega arith) own.few own.each own.chosen own.plans in
      let mid = with done m.plans m.scores (Some m.chosen) in
      let counted = length-append done (m ∷ []) in
      let later = all_run ms mid (done ++ m ∷ []) (closed_is done m own.chosen) (omega (arith, counted)) fit.1 in
      let number : length (done ++ m ∷ []) ≡ length done + 1 = omega (arith, counted) in
      record {
        last = later.last;
        read = run-append T s (own_rows T.book (length done) m) (persons_rows T.book (length done + 1) ms)
            ∙ ap (option_and_then (λ (t : Progress). run T t (persons_rows T.book (length done + 1) ms))) one
            ∙ ap (λ (k : ℕ). run T mid (persons_rows T.book k ms)) (sym number)
            ∙ later.read;
        all = later.all ∙ ap (λ (l : List MemoryRows). let t : Progress = record { done = l; begun = nothing } in Some t) (append_assoc done (m ∷ []) ms);
      }

  pub record Whole (rows : List KeptRow) (memories : List MemoryRows) : Type 0 where
    pub last : Progress
    pub read : run T start rows ≡ Some last
    pub end : ended T last ≡ Some memories

  start_closed : closed start ≡ Some start
  unfolding closed
  start_closed = refl

  -- what rows that fit are read as
  pub whole_run : (rows : List KeptRow) (memories : List MemoryRows) → AreRowsOf T rows memories → Whole rows memories
  unfolding kept_rows ended
  whole_run rows memories h =
      let fit = each_weaker (IsKeptMemory T) (IsFit T) (fits_memory T) memories (recursion_from_All (IsKeptMemory T) memories h.fit.each) in
      let done = all_run memories start [] start_closed (omega (arith, h.fit.count)) fit in
      let count : nat_eq (length memories) (length T.book.persons) ≡ true = eq_true (length memories) (length T.book.persons) h.fit.count in
      record {
        last = done.last;
        read = ap (λ (l : List KeptRow). run T start l) h.are ∙ done.read;
        end = ap (option_and_then (if_all T)) done.all ∙ ap (λ (b : Bool). cond b (Some memories) None) count;
      }
