-- The lines of plans, plan by plan and person by person.
use Rattle.std.proofs.Common.{◌≡◌, Bool, ℕ, zero, suc, ◌+◌, ◌<◌, ◌≤◌, true, List, [], ◌∷◌, ◌++◌, length, map, get_or, take, drop, Some, refl, sym, ◌∙◌, ap}
use Rattle.std.proofs.{Common.subst, Common.arith, Common.append_assoc, Common.append-nil, Common.add-zero, Common.take-append-drop, Math.ListN.get_or-map}
use Rattle.std.proofs.lemmas.{Bool.and_parts, Bool.eqb-true, List.drop_more, List.drop_all, List.length-map, List.map-append}
use Rattle.std.specs.Prelude.{slice_get, ◌==◌}
use Rattle.events.specs.declared.event.Book.{Book}
use Rattle.rows.specs.PlanRows.{PlanRows}
use Rattle.plan_memory.specs.Memories.{MemoryRows}
use Rattle.plan_text.specs.Lines.{plan_lines, own_lines, persons_lines, are_in_book}
use Rattle.town.specs.{Fits.fits, Rows.TownRows}
use Rattle.law_replanning.specs.Memories.{hold_fitting, all_hold_fitting}
use Rattle.iterations.proofs.{Named.plan_named, Places.found, Places.passes_at}
use Rattle.iterations.specs.{Runs.HasNames, Written.plan_at, Written.written_places, Written.written_plans}

abbrev none : PlanRows
none = record { acts = []; legs = [] }

-- the plan at a place of those that are written
pub written_at : (m : MemoryRows) (i place : ℕ) (plan d : PlanRows) → i < length (written_places m) → place ≡ get_or (written_places m) i 0
    → slice_get m.plans place ≡ Some plan → get_or (written_plans m) i (plan_at m 0) ≡ plan
unfolding written_plans
written_at m i place plan d within at is =
    get_or-map (plan_at m) (written_places m) i 0 ∙ ap (plan_at m) (sym at) ∙ found m.plans place plan none is

pub written_count : (m : MemoryRows) → length (written_plans m) ≡ length (written_places m)
unfolding written_plans
written_count m = length-map (written_places m) (plan_at m)

-- one plan more
pub own_step : (book : Book) (person i : ℕ) (plans : List PlanRows) (plan d : PlanRows) (old new : List ℕ) → i < length plans
    → get_or plans i d ≡ plan → new ≡ old ++ plan_lines person i plan book
    → new ++ own_lines book person (i + 1) (drop (i + 1) plans) ≡ old ++ own_lines book person i (drop i plans)
own_step book person i plans plan d old new within at pushed =
    let later : List ℕ = own_lines book person (i + 1) (drop (i + 1) plans) in
    ap (λ (l : List ℕ). l ++ later) pushed ∙ append_assoc old (plan_lines person i plan book) later
    ∙ ap (λ (ps : List PlanRows). old ++ own_lines book person i ps)
    (sym (drop_more plans i d within ∙ ap (λ (p : PlanRows). p ∷ drop (i + 1) plans) at))

pub own_end : (book : Book) (person i : ℕ) (plans : List PlanRows) (text : List ℕ) → length plans ≤ i
    → text ++ own_lines book person i (drop i plans) ≡ text
own_end book person i plans text done = ap (λ (ps : List PlanRows). text ++ own_lines book person i ps) (drop_all i plans done) ∙ append-nil text

-- one person more
pub person_step : (book : Book) (first i number : ℕ) (plans : List (List PlanRows)) (own d : List PlanRows) (old new all : List ℕ) → i < length plans
    → get_or plans i d ≡ own → number ≡ first + i → new ≡ old ++ own_lines book number 0 own
    → old ++ persons_lines book (first + i) (drop i plans) ≡ all → new ++ persons_lines book (first + (i + 1)) (drop (i + 1) plans) ≡ all
person_step book first i number plans own d old new all within at is pushed so_far =
    let next : first + (i + 1) ≡ first + i + 1 = omega arith in
    let later : List ℕ = persons_lines book (first + i + 1) (drop (i + 1) plans) in
    let rest : drop i plans ≡ own ∷ drop (i + 1) plans = drop_more plans i d within ∙ ap (λ (ps : List PlanRows). ps ∷ drop (i + 1) plans) at in
    ap (λ (n : ℕ). new ++ persons_lines book n (drop (i + 1) plans)) next
    ∙ ap (λ (l : List ℕ). l ++ later) (pushed ∙ ap (λ (n : ℕ). old ++ own_lines book n 0 own) is)
    ∙ append_assoc old (own_lines book (first + i) 0 own) later
    ∙ ap (λ (ps : List (List PlanRows)). old ++ persons_lines book (first + i) ps) (sym rest) ∙ so_far

-- some persons, and those behind them
pub persons_split : (book : Book) (first : ℕ) (front back : List (List PlanRows))
    → persons_lines book first (front ++ back) ≡ persons_lines book first front ++ persons_lines book (first + length front) back
persons_split book first [] back = ap (λ (n : ℕ). persons_lines book n back) (sym (add-zero first))
persons_split book first (own ∷ front) back =
    let place : first + 1 + length front ≡ first + suc (length front) = omega arith in
    ap (λ (l : List ℕ). own_lines book first 0 own ++ l)
    (persons_split book (first + 1) front back ∙ ap (λ (n : ℕ). persons_lines book (first + 1) front ++ persons_lines book n back) place)
    ∙ sym (append_assoc (own_lines book first 0 own) (persons_lines book (first + 1) front) (persons_lines book (first + suc (length front)) back))

taken_none : {A : Type 0} (xs : List A) → length (take 0 xs) ≡ 0
taken_none [] = refl
taken_none (x ∷ xs) = refl

taken : {A : Type 0} (n : ℕ) (xs : List A) → n ≤ length xs → length (take n xs) ≡ n
taken zero xs within = taken_none xs
taken (suc n) [] within = absurd (omega arith)
taken (suc n) (x ∷ xs) within = ap suc (taken n xs (omega arith))

pub lines_split : (book : Book) (first count : ℕ) (memories : List MemoryRows) → count ≤ length memories
    → persons_lines book first (map written_plans memories)
    ≡ persons_lines book first (map written_plans (take count memories)) ++ persons_lines book (first + count) (map written_plans (drop count memories))
lines_split book first count memories within =
    let front : List (List PlanRows) = map written_plans (take count memories) in
    let back : List (List PlanRows) = map written_plans (drop count memories) in
    let size : length front ≡ count = length-map (take count memories) written_plans ∙ taken count memories within in
    ap (λ (ms : List MemoryRows). persons_lines book first (map written_plans ms)) (sym (take-append-drop count memories))
    ∙ ap (persons_lines book first) (map-append written_plans (take count memories) (drop count memories))
    ∙ persons_split book first front back
    ∙ ap (λ (n : ℕ). persons_lines book first front ++ persons_lines book (first + n) back) size

-- the plan at a place has its numbers in the book
pub plan_in_book : (T : TownRows) (m : MemoryRows) (place : ℕ) (plan : PlanRows) → HasNames T → hold_fitting T m ≡ true → place < length m.plans
    → slice_get m.plans place ≡ Some plan → are_in_book T.book plan.acts plan.legs ≡ true
plan_in_book T m place plan names fit within is =
    let at = found m.plans place plan none is in
    plan_named T plan names (subst (λ (p : PlanRows). fits T p ≡ true) at (passes_at (fits T) m.plans place none fit within))

-- memories behind others hold plans that fit, too
pub fit_behind : (T : TownRows) (n : ℕ) (memories : List MemoryRows) → all_hold_fitting T memories ≡ true → all_hold_fitting T (drop n memories) ≡ true
fit_behind T zero [] fit = fit
fit_behind T zero (m ∷ memories) fit = fit
fit_behind T (suc n) [] fit = fit
fit_behind T (suc n) (m ∷ memories) fit = fit_behind T n memories (and_parts (hold_fitting T m) (all_hold_fitting T memories) fit).1

pub fit_after : (T : TownRows) (n : ℕ) (memories after : List MemoryRows) → after ≡ drop n memories → all_hold_fitting T memories ≡ true
    → all_hold_fitting T after ≡ true
fit_after T n memories after is fit = subst (λ (ms : List MemoryRows). all_hold_fitting T ms ≡ true) (sym is) (fit_behind T n memories fit)

-- some persons behind those before them
pub persons_behind : (book : Book) (first count next : ℕ) (rest piece after : List MemoryRows) → count ≤ length rest → piece ≡ take count rest
    → after ≡ drop count rest → next ≡ first + count
    → persons_lines book first (map written_plans rest) ≡ persons_lines book first (map written_plans piece) ++ persons_lines book next (map written_plans after)
persons_behind book first count next rest piece after within front back is =
    lines_split book first count rest within
    ∙ ap (λ (ms : List MemoryRows). persons_lines book first (map written_plans ms) ++ persons_lines book (first + count) (map written_plans (drop count rest))) (sym front)
    ∙ ap (λ (ms : List MemoryRows). persons_lines book first (map written_plans piece) ++ persons_lines book (first + count) (map written_plans ms)) (sym back)
    ∙ ap (λ (n : ℕ). persons_lines book first (map written_plans piece) ++ persons_lines book n (map written_plans after)) (sym is)

-- nobody is left
pub persons_over : (book : Book) (first : ℕ) (rest : List MemoryRows) (empty : Bool) → empty ≡ (length rest == 0) → empty ≡ true
    → persons_lines book first (map written_plans rest) ≡ []
persons_over book first [] empty is over = refl
persons_over book first (m ∷ rest) empty is over = absurd (let none_left = eqb-true (length (m ∷ rest)) 0 (sym is ∙ over) in omega arith)

pub plan_step : (book : Book) (person i : ℕ) (m : MemoryRows) (places : List ℕ) (plan : PlanRows) (old new : List ℕ) → places ≡ written_places m
    → i < length places → slice_get m.plans (get_or places i 0) ≡ Some plan → new ≡ old ++ plan_lines person i plan book
    → new ++ own_lines book person (i + 1) (drop (i + 1) (written_plans m)) ≡ old ++ own_lines book person i (drop i (written_plans m))
plan_step book person i m places plan old new are within is pushed =
    let count = ap (λ (ps : List ℕ). length ps) are in
    let all = written_count m in
    let at = written_at m i (get_or places i 0) plan none (omega arith) (ap (λ (ps : List ℕ). get_or ps i 0) are) is in
    own_step book person i (written_plans m) plan (plan_at m 0) old new (omega arith) at pushed

pub persons_step : (book : Book) (first i number : ℕ) (memories : List MemoryRows) (m : MemoryRows) (old new all : List ℕ) → i < length memories
    → m ≡ get_or memories i m → number ≡ first + i → new ≡ old ++ own_lines book number 0 (written_plans m)
    → old ++ persons_lines book (first + i) (drop i (map written_plans memories)) ≡ all
    → new ++ persons_lines book (first + (i + 1)) (drop (i + 1) (map written_plans memories)) ≡ all
persons_step book first i number memories m old new all within at is pushed so_far =
    let count = length-map memories written_plans in
    person_step book first i number (map written_plans memories) (written_plans m) (written_plans m) old new all (omega arith)
    (get_or-map written_plans memories i m ∙ ap written_plans (sym at)) is pushed so_far
