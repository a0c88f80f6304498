-- What is read so far tells of the rows that were read: they are those of the memories that are done, and of the plans that are begun.
use Rattle.std.proofs.Common.{◌≡◌, ◌⊎◌, ℕ, ◌+◌, ◌*◌, ◌<◌, ◌≤◌, Bool, true, false, cond, not, ◌&&◌, List, [], ◌∷◌, ◌++◌, length, Option, None, Some, refl, sym}
use Rattle.std.proofs.Common.{ap, ◌∙◌, subst, inl, inr, arith, append_assoc, append-nil, length-append}
use Rattle.std.proofs.lemmas.{List.Elements.All-from_recursion, List.Folds.list_all-append, Slice.Eq.bytes_eq-Decides}
use Rattle.std.specs.{List.list_all, List.AllByRecursion, Prelude.nat_eq, Prelude.nat_lt, Prelude.bytes_eq, Prelude.is_some, Prelude.option_and_then}
use Rattle.events.specs.Names.{name_at}
use Rattle.rows.specs.PlanRows.{PlanRows}
use Rattle.edge_files.specs.declared.keeping.KeptRow.{KeptRow}
use Rattle.plan_text.{proofs.Joins.both, proofs.Joins.and_true, specs.Lines.is_plan_in, specs.Lines.plan_lines}
use Rattle.plan_memory.specs.{Memories.MemoryRows, declared.TheConstants.MAX_HELD}
use Rattle.town.specs.{Fits.fits, Rows.TownRows}
use Rattle.keep.proofs.PlanTexts.{plan_taken}
use Rattle.keep.proofs.RowLists.{rows_from-push, rows_from-choice, rows_from-none, rows_from-few, persons_rows-push, persons_rows-few}
use Rattle.keep.proofs.Tests.{eq_says, eq_true, ne_says, less_ne, more_ne, lt_says, none_some, same_some, some_if, some_unless, some_either, some_then}
use Rattle.keep.specs.{Fitting.IsKeptMemory, Fitting.AreRowsOf, Kept.row_of, Kept.is_choice, Kept.rows_from, Kept.own_rows, Kept.persons_rows, Kept.kept_rows}
use Rattle.keep.specs.Reading.{Progress, nothing, start, is_fitting, plan_in, closed_by, closed, is_of, is_numbered, is_next, choice_with, begun_with}
use Rattle.keep.specs.Reading.{lacks_choice, grown, extended, step, run, if_all, ended}

-- a memory by tests of its plans
pub record IsFit (T : TownRows) (m : MemoryRows) : Type 0 where
  pub few : length m.plans ≤ MAX_HELD
  pub each : length m.scores ≡ length m.plans
  pub chosen : m.chosen < length m.plans
  pub plans : list_all (is_fitting T) m.plans ≡ true

pub each_push : {X : Type 0} (P : X → Type 0) (xs : List X) (x : X) → AllByRecursion P xs → P x → AllByRecursion P (xs ++ x ∷ [])
each_push P [] x all here = (here, tt)
each_push P (y ∷ ys) x all here = (all.0, each_push P ys x all.1 here)

pub each_weaker : {X : Type 0} (P Q : X → Type 0) → ((x : X) → P x → Q x) → (xs : List X) → AllByRecursion P xs → AllByRecursion Q xs
each_weaker P Q step [] all = tt
each_weaker P Q step (x ∷ xs) all = (step x all.0, each_weaker P Q step xs all.1)

-- both of two tests
pub two_tests : (T : TownRows) (plans : List PlanRows) → list_all (is_fitting T) plans ≡ true
    → (list_all (is_plan_in T.book) plans ≡ true) × (list_all (fits T) plans ≡ true)
two_tests T [] h = (refl, refl)
two_tests T (p ∷ ps) h =
    let parts = both (is_fitting T p) (list_all (is_fitting T) ps) h in
    let here = both (is_plan_in T.book p) (fits T p) parts.0 in
    let later = two_tests T ps parts.1 in
    (and_true (is_plan_in T.book p) (list_all (is_plan_in T.book) ps) here.0 later.0, and_true (fits T p) (list_all (fits T) ps) here.1 later.1)

pub one_test : (T : TownRows) (plans : List PlanRows) → list_all (is_plan_in T.book) plans ≡ true → list_all (fits T) plans ≡ true
    → list_all (is_fitting T) plans ≡ true
one_test T [] named fit = refl
one_test T (p ∷ ps) named fit =
    let n = both (is_plan_in T.book p) (list_all (is_plan_in T.book) ps) named in
    let f = both (fits T p) (list_all (fits T) ps) fit in
    and_true (is_fitting T p) (list_all (is_fitting T) ps) (and_true (is_plan_in T.book p) (fits T p) n.0 f.0) (one_test T ps n.1 f.1)

pub memory_fits : (T : TownRows) (m : MemoryRows) → IsFit T m → IsKeptMemory T m
memory_fits T m f =
    let tests = two_tests T m.plans f.plans in
    record { memory = record { few = f.few; each = f.each; chosen = f.chosen; plans = tests.0 }; fit = tests.1 }

pub fits_memory : (T : TownRows) (m : MemoryRows) → IsKeptMemory T m → IsFit T m
fits_memory T m is = record {
  few = is.memory.few;
  each = is.memory.each;
  chosen = is.memory.chosen;
  plans = one_test T m.plans is.memory.plans is.fit;
}

-- the rows of the plans that are begun
abbrev pub begun_rows : TownRows → Progress → List KeptRow
begun_rows T s = rows_from T.book (length s.done) s.begun.chosen 0 s.begun.plans s.begun.scores

pub record Says (T : TownRows) (xs : List KeptRow) (s : Progress) : Type 0 where
  pub are : xs ≡ persons_rows T.book 0 s.done ++ begun_rows T s
  pub each_done : AllByRecursion (IsFit T) s.done
  pub few : length s.begun.plans ≤ MAX_HELD
  pub each : length s.begun.scores ≡ length s.begun.plans
  pub within : (c : ℕ) → s.begun.chosen ≡ Some c → c < length s.begun.plans
  pub plans : list_all (is_fitting T) s.begun.plans ≡ true
  pub choosable : lacks_choice s.begun ≡ false
  pub persons : length s.done ≤ length T.book.persons
  pub room : 0 < length s.begun.plans → length s.done < length T.book.persons

-- and once a row is read, a plan is begun
pub record Tells (T : TownRows) (xs : List KeptRow) (s : Progress) : Type 0 where
  pub says : Says T xs s
  pub some : 0 < length xs → 0 < length s.begun.plans

abbrev memory_by : Progress → ℕ → MemoryRows
memory_by s c = record { plans = s.begun.plans; scores = s.begun.scores; chosen = c }

-- ---- a person who is done with

says_done : (T : TownRows) (xs : List KeptRow) (s : Progress) (c : ℕ) → Says T xs s → s.begun.chosen ≡ Some c → 0 < length s.begun.plans
    → Says T xs (record { done = s.done ++ memory_by s c ∷ []; begun = nothing })
says_done T xs s c says is some =
    let own : begun_rows T s ≡ own_rows T.book (length s.done) (memory_by s c) =
    ap (λ (o : Option ℕ). rows_from T.book (length s.done) o 0 s.begun.plans s.begun.scores) is in
    let all = persons_rows-push T.book 0 s.done (memory_by s c) (length s.done) (omega arith) in
    let fit : IsFit T (memory_by s c) = record { few = says.few; each = says.each; chosen = says.within c is; plans = says.plans } in
    let count = length-append s.done (memory_by s c ∷ []) in
    let room = says.room some in
    record {
      are = says.are ∙ ap (λ (l : List KeptRow). persons_rows T.book 0 s.done ++ l) own ∙ sym all
          ∙ sym (append-nil (persons_rows T.book 0 (s.done ++ memory_by s c ∷ [])));
      each_done = each_push (IsFit T) s.done (memory_by s c) says.each_done fit;
      few = omega arith;
      each = refl;
      within = λ n never. absurd (none_some n never);
      plans = refl;
      choosable = refl;
      persons = omega (arith, count, room);
      room = λ never. absurd (omega arith);
    }

closed_cases : (b : Bool) (s t : Progress) (chosen : Option ℕ) → cond b (Some s) (closed_by s chosen) ≡ Some t
    → ((b ≡ true) × (s ≡ t)) ⊎ ((b ≡ false) × ((c : ℕ) × (chosen ≡ Some c) × (closed_by s (Some c) ≡ Some t)))
closed_cases true s t chosen e = inl (refl, same_some s t e)
closed_cases false s t None e = absurd (none_some t e)
closed_cases false s t (Some c) e = inr (refl, (c, refl, e))

some_plans : {X : Type 0} (xs : List X) → nat_eq (length xs) 0 ≡ false → 0 < length xs
some_plans [] h = absurd (ne_says 0 0 h refl)
some_plans (x ∷ xs) h = omega arith

pub says_closed : (T : TownRows) (xs : List KeptRow) (s t : Progress) → Says T xs s → closed s ≡ Some t → Says T xs t × (length t.begun.plans ≡ 0)
unfolding closed
says_closed T xs s t says e =
    elim (closed_cases (nat_eq (length s.begun.plans) 0) s t s.begun.chosen e) [
      | inl none ↦ (
        subst (λ (u : Progress). Says T xs u) none.1 says,
        subst (λ (u : Progress). length u.begun.plans ≡ 0) none.1 (eq_says (length s.begun.plans) 0 none.0),
      )
      | inr done ↦ (
          let last : Progress = record { done = s.done ++ memory_by s done.1.0 ∷ []; begun = nothing } in
          let t_is = same_some last t done.1.2 in (
            subst (λ (u : Progress). Says T xs u) t_is (says_done T xs s done.1.0 says done.1.1 (some_plans s.begun.plans done.0)),
            subst (λ (u : Progress). length u.begun.plans ≡ 0) t_is refl,
          )
          )
    ]

-- ---- one more row

choice_now : (b : Bool) (chosen : Option ℕ) (plan n : ℕ) → plan ≡ n → ((c : ℕ) → chosen ≡ Some c → c < n) → is_choice (cond b (Some plan) chosen) n ≡ b
choice_now true chosen plan n same within = eq_true n plan (sym same)
choice_now false None plan n same within = refl
choice_now false (Some c) plan n same within = more_ne n c (within c refl)

choice_before : (b : Bool) (chosen : Option ℕ) (plan n k : ℕ) → plan ≡ n → not (b && is_some chosen) ≡ true → k < n
    → is_choice chosen k ≡ is_choice (cond b (Some plan) chosen) k
choice_before true None plan n k same one less = sym (less_ne k plan (omega arith))
choice_before true (Some c) plan n k same one less = absurd (let e : false ≡ true = one in cc)
choice_before false chosen plan n k same one less = refl

choice_within : (b : Bool) (chosen : Option ℕ) (plan n : ℕ) (c : ℕ) → plan ≡ n → ((c : ℕ) → chosen ≡ Some c → c < n)
    → cond b (Some plan) chosen ≡ Some c → c < n + 1
choice_within true chosen plan n c same within is = let e : plan ≡ c = same_some plan c is in omega arith
choice_within false chosen plan n c same within is = let less = within c is in omega arith

row_is : (row : KeptRow) (person body : List ℕ) (n : ℕ) (b : Bool) → row.person ≡ person → row.plan ≡ n → row.chosen ≡ b → row.body ≡ body
    → row ≡ record { person = person; plan = n; chosen = b; score = row.score; body = body }
row_is row person body n b named numbered choice text =
    ap (λ (x : List ℕ). let r : KeptRow = record { person = x; plan = row.plan; chosen = row.chosen; score = row.score; body = row.body } in r) named
    ∙ ap (λ (x : ℕ). let r : KeptRow = record { person = person; plan = x; chosen = row.chosen; score = row.score; body = row.body } in r) numbered
    ∙ ap (λ (x : Bool). let r : KeptRow = record { person = person; plan = n; chosen = x; score = row.score; body = row.body } in r) choice
    ∙ ap (λ (x : List ℕ). let r : KeptRow = record { person = person; plan = n; chosen = b; score = row.score; body = x } in r) text

-- what stands behind a row that is next
module _ (T : TownRows) (xs : List KeptRow) (row : KeptRow) (s : Progress) (plan : PlanRows) (says : Says T xs s) (next : is_next T s row ≡ true)
    (read : plan_in T (length s.done) row.plan row.body ≡ Some plan) (choosable : lacks_choice (begun_with s.begun row plan) ≡ false) where
  abbrev q : ℕ
  q = length s.done

  abbrev n : ℕ
  n = length s.begun.plans

  abbrev new_choice : Option ℕ
  new_choice = choice_with s.begun.chosen row

  record Next : Type 0 where
    person : q < length T.book.persons
    name : row.person ≡ name_at T.book.persons q
    number : row.plan ≡ n
    space : n < MAX_HELD
    single : not (row.chosen && is_some s.begun.chosen) ≡ true

  is_next_row : Next
  unfolding is_next
  is_next_row =
      let parts = both (is_of T.book.persons q row.person) (is_numbered s.begun row) next in
      let own = both (nat_lt q (length T.book.persons)) (bytes_eq row.person (name_at T.book.persons q)) parts.0 in
      let two = both (nat_eq row.plan n && nat_lt n MAX_HELD) (not (row.chosen && is_some s.begun.chosen)) parts.1 in
      let numbers = both (nat_eq row.plan n) (nat_lt n MAX_HELD) two.0 in
      record {
        person = lt_says q (length T.book.persons) own.0;
        name = (bytes_eq-Decides row.person (name_at T.book.persons q)).0 own.1;
        number = eq_says row.plan n numbers.0;
        space = lt_says n MAX_HELD numbers.1;
        single = two.1;
      }

  pub says_grown : Says T (xs ++ row ∷ []) (record { done = s.done; begun = begun_with s.begun row plan }) × (0 < length (s.begun.plans ++ plan ∷ []))
  says_grown =
      let is = is_next_row in
      let taken = plan_taken T q row.plan row.body plan read in
      let same = is.number in
      let person = is.person in
      let space = is.space in
      let plans_count = length-append s.begun.plans (plan ∷ []) in
      let scores_count = length-append s.begun.scores (row.score ∷ []) in
      let each = says.each in
      let body : row.body ≡ plan_lines q n plan T.book = sym taken.1 ∙ ap (λ (k : ℕ). plan_lines q k plan T.book) same in
      let choice = choice_now row.chosen s.begun.chosen row.plan n same says.within in
      let row_as : row ≡ row_of T.book q n (is_choice new_choice n) plan row.score =
      row_is row (name_at T.book.persons q) (plan_lines q n plan T.book) n (is_choice new_choice n) is.name same (sym choice) body in
      let before : rows_from T.book q s.begun.chosen 0 s.begun.plans s.begun.scores ≡ rows_from T.book q new_choice 0 s.begun.plans s.begun.scores =
      rows_from-choice T.book q s.begun.chosen new_choice 0 s.begun.plans s.begun.scores
      (λ k low high. choice_before row.chosen s.begun.chosen row.plan n k same is.single (omega arith)) in
      let pushed = rows_from-push T.book q new_choice 0 s.begun.plans s.begun.scores plan row.score n each (omega arith) in
      let front : List KeptRow = persons_rows T.book 0 s.done in
      let said : Says T (xs ++ row ∷ []) (record { done = s.done; begun = begun_with s.begun row plan }) = record {
        are = ap (λ (l : List KeptRow). l ++ row ∷ []) says.are
            ∙ append_assoc front (begun_rows T s) (row ∷ [])
            ∙ ap (λ (l : List KeptRow). front ++ (l ++ row ∷ [])) before
            ∙ ap (λ (r : KeptRow). front ++ (rows_from T.book q new_choice 0 s.begun.plans s.begun.scores ++ r ∷ [])) row_as
            ∙ ap (λ (l : List KeptRow). front ++ l) (sym pushed);
        each_done = says.each_done;
        few = omega (arith, plans_count);
        each = omega (arith, plans_count, scores_count);
        within = λ c is_c. let less = choice_within row.chosen s.begun.chosen row.plan n c same says.within is_c in omega (arith, plans_count);
        plans = list_all-append (is_fitting T) s.begun.plans (plan ∷ [])
            ∙ and_true (list_all (is_fitting T) s.begun.plans) (list_all (is_fitting T) (plan ∷ [])) says.plans (and_true (is_fitting T plan) true taken.0 refl);
        choosable = choosable;
        persons = says.persons;
        room = λ some. person;
      } in
      (said, omega (arith, plans_count))

says_extended : (T : TownRows) (xs : List KeptRow) (row : KeptRow) (s t : Progress) → Says T xs s → extended T row s ≡ Some t
    → Says T (xs ++ row ∷ []) t × (0 < length t.begun.plans)
unfolding extended grown
says_extended T xs row s t says e =
    let tested = some_if (is_next T s row) (option_and_then (grown s row) (plan_in T (length s.done) row.plan row.body)) t e in
    let read = some_then (grown s row) (plan_in T (length s.done) row.plan row.body) t tested.1 in
    let next : Progress = record { done = s.done; begun = begun_with s.begun row read.0 } in
    let kept = some_unless (lacks_choice (begun_with s.begun row read.0)) (Some next) t read.2 in
    let is : next ≡ t = same_some next t kept.1 in
    let both_say = says_grown T xs row s read.0 says tested.0 read.1 kept.0 in
    (subst (λ (u : Progress). Says T (xs ++ row ∷ []) u) is both_say.0, subst (λ (u : Progress). 0 < length u.begun.plans) is both_say.1)

says_step : (T : TownRows) (xs : List KeptRow) (row : KeptRow) (s t : Progress) → Says T xs s → step T s row ≡ Some t
    → Says T (xs ++ row ∷ []) t × (0 < length t.begun.plans)
unfolding step
says_step T xs row s t says e =
    let two = some_then (extended T row) (cond (nat_eq row.plan 0) (closed s) (Some s)) t e in
    let begun : Says T xs two.0 = elim (some_either (nat_eq row.plan 0) (closed s) (Some s) two.0 two.1) [
      | inl new ↦ (says_closed T xs s two.0 says new.1).0
      | inr on ↦ subst (λ (u : Progress). Says T xs u) (same_some s two.0 on.1) says
    ] in
    says_extended T xs row two.0 t begun two.2

pub tells_run : (T : TownRows) (xs rows : List KeptRow) (s t : Progress) → Tells T xs s → run T s rows ≡ Some t → Tells T (xs ++ rows) t
unfolding run
tells_run T xs [] s t tells e =
    subst (λ (u : Progress). Tells T (xs ++ []) u) (same_some s t e) (subst (λ (l : List KeptRow). Tells T l s) (sym (append-nil xs)) tells)
tells_run T xs (row ∷ rows) s t tells e =
    let first = some_then (λ (next : Progress). run T next rows) (step T s row) t e in
    let said = says_step T xs row s first.0 tells.says first.1 in
    let later = tells_run T (xs ++ row ∷ []) rows first.0 t (record { says = said.0; some = λ _. said.1 }) first.2 in
    subst (λ (l : List KeptRow). Tells T l t) (append_assoc xs (row ∷ []) rows) later

pub tells_start : (T : TownRows) → Tells T [] start
tells_start T = record {
  says = record {
    are = refl;
    each_done = tt;
    few = omega arith;
    each = refl;
    within = λ n never. absurd (none_some n never);
    plans = refl;
    choosable = refl;
    persons = omega arith;
    room = λ never. absurd (omega arith);
  };
  some = λ never. absurd (omega arith);
}

-- what is read from the start on
pub tells_all : (T : TownRows) (rows : List KeptRow) (t : Progress) → run T start rows ≡ Some t → Tells T rows t
tells_all T rows t e = tells_run T [] rows start t (tells_start T) e

-- at the end
pub ended_rows : (T : TownRows) (rows : List KeptRow) (s : Progress) (memories : List MemoryRows) → Says T rows s → ended T s ≡ Some memories → AreRowsOf T rows memories
unfolding ended kept_rows
ended_rows T rows s memories says e =
    let two = some_then (if_all T) (closed s) memories e in
    let t = two.0 in
    let said = says_closed T rows s t says two.1 in
    let all = some_if (nat_eq (length t.done) (length T.book.persons)) (Some t.done) memories two.2 in
    let is : t.done ≡ memories = same_some t.done memories all.1 in
    let none = rows_from-none T.book (length t.done) t.begun.chosen 0 t.begun.plans t.begun.scores said.1 in
    let done : AreRowsOf T rows t.done = record {
      fit = record {
        count = eq_says (length t.done) (length T.book.persons) all.0;
        each = All-from_recursion (IsKeptMemory T) t.done (each_weaker (IsFit T) (IsKeptMemory T) (memory_fits T) t.done said.0.each_done);
      };
      are = said.0.are ∙ ap (λ (l : List KeptRow). persons_rows T.book 0 t.done ++ l) none ∙ append-nil (persons_rows T.book 0 t.done);
    } in
    subst (λ (m : List MemoryRows). AreRowsOf T rows m) is done

-- there are at most six rows of a person
pub few_rows : (T : TownRows) (rows : List KeptRow) (s : Progress) → run T start rows ≡ Some s → length rows ≤ 6 * length T.book.persons + 6
few_rows T rows s e =
    let says = (tells_all T rows s e).says in
    let done = persons_rows-few T.book 0 s.done (each_weaker (IsFit T) (λ (m : MemoryRows). length m.plans ≤ 6) (λ m f. f.few) s.done says.each_done) in
    let begun = rows_from-few T.book (length s.done) s.begun.chosen 0 s.begun.plans s.begun.scores in
    let few = says.few in
    let persons = says.persons in
    omega (arith, ap length says.are, length-append (persons_rows T.book 0 s.done) (begun_rows T s), done, begun)
