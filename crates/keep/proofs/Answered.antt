-- What is answered to kept rows: their memories, or the place at which they do not fit.
use Rattle.std.proofs.Common.{◌≡◌, ℕ, ◌+◌, ◌<◌, ◌≤◌, ◌^◌, List, [], ◌∷◌, ◌++◌, length, get_or, take, drop, None, Some, refl, sym, ap, ◌∙◌, arith}
use Rattle.std.proofs.lemmas.List.{take_more, take-take, take_all, take-append-drop, length-take, Elements.recursion_from_All}
use Rattle.std.specs.List.{list_all, AllByRecursion}
use Rattle.std.specs.Prelude.{option_and_then, true, Result, Ok, Err, IfOk, MatchResult}
use Rattle.events.specs.declared.event.Book.{Book}
use Rattle.rows.specs.PlanRows.{PlanRows}
use Rattle.edge_files.specs.declared.keeping.KeptRow.{KeptRow}
use Rattle.plan_text.{proofs.Joins.both, proofs.Joins.and_true, specs.Lines.IsBook, specs.Lines.are_plan, specs.Lines.are_in_book, specs.Lines.is_plan_in}
use Rattle.plan_memory.specs.Memories.{MemoryRows}
use Rattle.town.specs.Rows.{TownRows}
use Rattle.keep.proofs.{Fronts.begins, Tests.none_some, Tests.same_some, Tests.some_then, Told.tells_all, Told.ended_rows, Told.few_rows}
use Rattle.keep.proofs.Wholes.{run-append, whole_run}
use Rattle.keep.specs.Fitting.{are_named, all_named, IsKeptMemory, AreRowsOf, Begin, IsForeignAt, IsRead}
use Rattle.keep.specs.{Reading.Progress, Reading.start, Reading.step, Reading.run, Reading.ended, declared.reading.KeptError.KeptError}
use Rattle.keep.specs.declared.reading.KeptError.TheVariants as stop

-- rows of which a front is read as nothing are not read
front_none : (T : TownRows) (xs ys : List KeptRow) → run T start xs ≡ None → run T start (xs ++ ys) ≡ None
front_none T xs ys none = run-append T start xs ys ∙ ap (option_and_then (λ (t : Progress). run T t ys)) none

-- one more row that is not read
pub row_none : (T : TownRows) (xs : List KeptRow) (row : KeptRow) (s : Progress) → run T start xs ≡ Some s → step T s row ≡ None → run T start (xs ++ row ∷ []) ≡ None
unfolding run
row_none T xs row s read none =
    run-append T start xs (row ∷ []) ∙ ap (option_and_then (λ (t : Progress). run T t (row ∷ []))) read
    ∙ ap (option_and_then (λ (t : Progress). run T t [])) none

-- one more row that is
pub row_some : (T : TownRows) (xs : List KeptRow) (row : KeptRow) (s t : Progress) → run T start xs ≡ Some s → step T s row ≡ Some t → run T start (xs ++ row ∷ []) ≡ Some t
unfolding run
row_some T xs row s t read next =
    run-append T start xs (row ∷ []) ∙ ap (option_and_then (λ (t : Progress). run T t (row ∷ []))) read
    ∙ ap (option_and_then (λ (t : Progress). run T t [])) next

-- a front of what is read begins rows that fit
front_begins : (T : TownRows) (xs ys : List KeptRow) (s : Progress) → 0 < length xs → run T start (xs ++ ys) ≡ Some s → Begin T xs
front_begins T xs ys s some read =
    let two = some_then (λ (t : Progress). run T t ys) (run T start xs) s (sym (run-append T start xs ys) ∙ read) in
    let tells = tells_all T xs two.0 two.1 in
    begins T xs two.0 tells.says (tells.some some)

module _ (T : TownRows) (are : IsBook T.book) (rows : List KeptRow) where
  not_read : run T start rows ≡ None → (memories : List MemoryRows) → AreRowsOf T rows memories → ⊥
  not_read none memories h = let whole = whole_run T are rows memories h in none_some whole.last (sym none ∙ whole.read)

  front_of : (n m : ℕ) → n ≤ m → take m rows ≡ take n rows ++ drop n (take m rows)
  front_of n m less =
      sym (take-append-drop n (take m rows)) ∙ ap (λ (l : List KeptRow). l ++ drop n (take m rows)) (take-take n m rows less)

  fronts_begin : (place : ℕ) (s : Progress) → place ≤ length rows → run T start (take place rows) ≡ Some s → (n : ℕ) → n < place → Begin T (take (n + 1) rows)
  fronts_begin place s within read n less =
      front_begins T (take (n + 1) rows) (drop (n + 1) (take place rows)) s (omega (arith, length-take (n + 1) rows))
      (ap (run T start) (sym (front_of (n + 1) place (omega arith))) ∙ read)

  -- the row at a place is the first one that does not fit
  pub foreign_here : (place : ℕ) (row : KeptRow) (s : Progress) → place < length rows → row ≡ get_or rows place row
      → run T start (take place rows) ≡ Some s → step T s row ≡ None → IsForeignAt T rows place
  foreign_here place row s within is read none =
      let whole : take (place + 1) rows ≡ take place rows ++ row ∷ [] =
      take_more rows place row within ∙ ap (λ (r : KeptRow). take place rows ++ r ∷ []) (sym is) in
      let unread : run T start (take (place + 1) rows) ≡ None = ap (run T start) whole ∙ row_none T (take place rows) row s read none in
      record {
        within = omega arith;
        before = fronts_begin place s (omega arith) read;
        here = λ there begun.
            let all = whole_run T are (take (place + 1) rows ++ begun.more) begun.memories begun.whole in
            none_some all.last (sym (front_none T (take (place + 1) rows) begun.more unread) ∙ all.read);
        unfit = not_read (
            ap (run T start) (sym (take-append-drop (place + 1) rows)) ∙ front_none T (take (place + 1) rows) (drop (place + 1) rows) unread
            );
      }

  -- rows are missing
  pub foreign_end : (s : Progress) → run T start rows ≡ Some s → ended T s ≡ None → IsForeignAt T rows (length rows)
  foreign_end s read none = record {
    within = omega arith;
    before = fronts_begin (length rows) s (omega arith) (ap (run T start) (take_all (length rows) rows (omega arith)) ∙ read);
    here = λ never begun. absurd (omega arith);
    unfit = λ memories h.
        let whole = whole_run T are rows memories h in
        let same : s ≡ whole.last = same_some s whole.last (sym read ∙ whole.read) in
        none_some memories (sym none ∙ ap (ended T) same ∙ whole.end);
  }

  -- they are those of these memories, and of no others
  pub all_read : (s : Progress) (memories : List MemoryRows) → run T start rows ≡ Some s → ended T s ≡ Some memories
      → AreRowsOf T rows memories × ((others : List MemoryRows) → AreRowsOf T rows others → others ≡ memories)
  all_read s memories read end = (
    ended_rows T rows s memories (tells_all T rows s read).says end,
    λ others h.
        let whole = whole_run T are rows others h in
        let same : whole.last ≡ s = same_some whole.last s (sym whole.read ∙ read) in
        same_some others memories (sym whole.end ∙ ap (ended T) same ∙ end),
  )

  -- the places of rows are numbers of 32 bits
  pub few_places : (place : ℕ) (s : Progress) → place ≤ length rows → length T.book.persons ≤ 65536 → run T start (take place rows) ≡ Some s → place < 2 ^ 32
  few_places place s within few read =
      let most = few_rows T (take place rows) s read in
      omega (arith, length-take place rows, most)

-- ---- what follows from what is read

pub again_of : (T : TownRows) (rows : List KeptRow) (result : Result (List MemoryRows) KeptError) → IsRead T rows result
    → (memories : List MemoryRows) → AreRowsOf T rows memories → MatchResult result (λ read. read ≡ memories) (λ why. why ≡ stop.NoMemory)
again_of T rows (Ok read) is memories h = sym (is.1 memories h)
again_of T rows (Err (stop.Foreign place)) is memories h = absurd (is.unfit memories h)
again_of T rows (Err stop.NoMemory) is memories h = refl

pub count_of : (T : TownRows) (rows : List KeptRow) (result : Result (List MemoryRows) KeptError) → IsRead T rows result
    → IfOk result (λ memories. length memories ≡ length T.book.persons)
count_of T rows (Ok read) is = is.0.fit.count
count_of T rows (Err why) is = tt

plans_named : (book : Book) (plans : List PlanRows) → list_all (is_plan_in book) plans ≡ true
    → list_all (λ (p : PlanRows). are_in_book book p.acts p.legs) plans ≡ true
plans_named book [] h = refl
plans_named book (p ∷ ps) h =
    let parts = both (is_plan_in book p) (list_all (is_plan_in book) ps) h in
    let here = both (are_plan p.acts p.legs) (are_in_book book p.acts p.legs) parts.0 in
    and_true (are_in_book book p.acts p.legs) (list_all (λ (p : PlanRows). are_in_book book p.acts p.legs) ps) here.1 (plans_named book ps parts.1)

memories_named : (T : TownRows) (memories : List MemoryRows) → AllByRecursion (IsKeptMemory T) memories → all_named T.book memories ≡ true
memories_named T [] each = refl
memories_named T (m ∷ ms) each =
    and_true (are_named T.book m) (all_named T.book ms) (plans_named T.book m.plans each.0.memory.plans) (memories_named T ms each.1)

pub named_of : (T : TownRows) (rows : List KeptRow) (result : Result (List MemoryRows) KeptError) → IsRead T rows result
    → IfOk result (λ memories. all_named T.book memories ≡ true)
named_of T rows (Ok read) is = memories_named T read (recursion_from_All (IsKeptMemory T) read is.0.fit.each)
named_of T rows (Err why) is = tt
