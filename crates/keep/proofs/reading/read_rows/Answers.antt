use Rattle.std.proofs.Common.{◌≡◌, ℕ, ◌<◌, ◌≤◌, ◌+◌, List, [], ◌∷◌, ◌++◌, get_or, length, take, Option, None, Some, sym, ap, subst, ◌∙◌, arith}
use Rattle.std.{proofs.lemmas.List.take_all, proofs.lemmas.List.take_more, specs.Prelude.option_map}
use Rattle.edge_files.specs.declared.keeping.KeptRow.{KeptRow}
use Rattle.town.specs.Views.{rows_of}
use Rattle.keep.proofs.Answered.{row_some, foreign_here, foreign_end, all_read, few_places}
use Rattle.keep.{proofs.Wholes.run-none, specs.Fitting.IsForeignAt}
use Rattle.keep.specs.{Reading.Progress, Reading.start, Reading.progress_of, Reading.step, Reading.run, Reading.ended, declared.progress.Reading.Reading}
use Rattle.keep.proofs.reading.read_rows.Goals as goal

pub loop-place-init : goal.loop-place-init
loop-place-init c =
    run-none (rows_of c.args.town.now) start ∙ ap (λ (p : Progress). let o : Option Progress = Some p in o) (sym c.start-reading.ensures)

pub number-requires : goal.number-requires
number-requires c =
    let within : c.loop-place.place ≤ length c.args.rows.now = omega (arith, c.loop-place-test.true) in
    few_places (rows_of c.args.town.now) c.know_names.ensures c.args.rows.now c.loop-place.place (progress_of c.loop-place.reading) within
    c.args.town.now.sound.few_persons c.loop-place.invariant

pub returns-in_default : goal.returns-in_default
returns-in_default c =
    let T = rows_of c.args.town.now in
    let s = progress_of c.loop-place.reading in
    let within : c.loop-place.place < length c.args.rows.now = omega (arith, c.loop-place-test.true) in
    let none : step T s c.index-rows-place.result ≡ None =
    sym c.in_ok-next.ensures ∙ ap (λ (o : Option Reading). option_map progress_of o) c.in_default.is in
    subst (λ (n : ℕ). IsForeignAt T c.args.rows.now n) (sym c.number.ensures)
    (foreign_here T c.know_names.ensures c.args.rows.now c.loop-place.place c.index-rows-place.result s within c.index-rows-place.is c.loop-place.invariant none)

pub loop-place-preserved : goal.loop-place-preserved
loop-place-preserved c =
    let T = rows_of c.args.town.now in
    let s = progress_of c.loop-place.reading in
    let row = c.index-rows-place.result in
    let i = c.loop-place.place in
    let within : i < length c.args.rows.now = omega (arith, c.loop-place-test.true) in
    let some : step T s row ≡ Some (progress_of c.in-Some.next) =
    sym c.in_ok-next.ensures ∙ ap (λ (o : Option Reading). option_map progress_of o) c.in-Some.is in
    let read = row_some T (take i c.args.rows.now) row s (progress_of c.in-Some.next) c.loop-place.invariant some in
    ap (run T start) (more c.args.rows.now i row within c.index-rows-place.is) ∙ read
  where
    more : (xs : List KeptRow) (i : ℕ) (x : KeptRow) → i < length xs → x ≡ get_or xs i x → take (i + 1) xs ≡ take i xs ++ x ∷ []
    more xs i x less is = take_more xs i x less ∙ ap (λ (y : KeptRow). take i xs ++ y ∷ []) (sym is)

pub number-requires-in_default-2 : goal.number-requires-in_default-2
number-requires-in_default-2 c =
    let xs = c.args.rows.now in
    let all : take c.loop-place.place xs ≡ xs = take_all c.loop-place.place xs (omega (arith, c.loop-place-test.false)) in
    few_places (rows_of c.args.town.now) c.know_names.ensures xs (length xs) (progress_of c.loop-place.reading) (omega arith)
    c.args.town.now.sound.few_persons
    (ap (run (rows_of c.args.town.now) start) (take_all (length xs) xs (omega arith) ∙ sym all) ∙ c.loop-place.invariant)

pub returns-in_default-2 : goal.returns-in_default-2
returns-in_default-2 c =
    let T = rows_of c.args.town.now in
    let xs = c.args.rows.now in
    let s = progress_of c.loop-place.reading in
    let all : take c.loop-place.place xs ≡ xs = take_all c.loop-place.place xs (omega (arith, c.loop-place-test.false)) in
    let none : ended T s ≡ None = sym c.in_ok-memories.ensures ∙ c.in_default-2.is in
    subst (λ (n : ℕ). IsForeignAt T xs n) (sym c.number-in_default-2.ensures)
    (foreign_end T c.know_names.ensures xs s (ap (run T start) (sym all) ∙ c.loop-place.invariant) none)

pub returns : goal.returns
returns c =
    let T = rows_of c.args.town.now in
    let xs = c.args.rows.now in
    let s = progress_of c.loop-place.reading in
    let all : take c.loop-place.place xs ≡ xs = take_all c.loop-place.place xs (omega (arith, c.loop-place-test.false)) in
    let some : ended T s ≡ Some c.in-Some-2.memories = sym c.in_ok-memories.ensures ∙ c.in-Some-2.is in
    all_read T c.know_names.ensures xs s c.in-Some-2.memories (ap (run T start) (sym all) ∙ c.loop-place.invariant) some
