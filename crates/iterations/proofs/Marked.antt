-- Memories with scores.
use Rattle.std.proofs.Common.{◌≡◌, ℕ, zero, suc, ◌+◌, true, List, [], ◌∷◌, ◌++◌, length, map, get_or, Option, None, Some, ℤ, refl, sym, ◌∙◌, ap, subst, arith}
use Rattle.std.proofs.lemmas.{Bool.and_from, Bool.and_parts, List.map-append, List.length-map}
use Rattle.std.specs.{List.list_all, List.enumerate_from, Prelude.slice_get}
use Rattle.replanning.proofs.Numbers.{numbered_more}
use Rattle.rows.specs.PlanRows.{PlanRows}
use Rattle.plan_memory.specs.Memories.{MemoryRows, chosen_plan}
use Rattle.town.specs.{Fits.legs_fit, Fits.fits, Rows.TownRows}
use Rattle.law_replanning.specs.Memories.{hold_fitting, all_hold_fitting}
use Rattle.iterations.specs.Runs.{RunRows, CanRun}
use Rattle.iterations.specs.Days.{followed_plans, events_of, scores_in, with_own_score, scored, memories_after}

pub scored_more : (memories : List MemoryRows) (scores : List ℤ) (m : MemoryRows) (n : ℕ) → n ≡ length memories
    → scored (memories ++ m ∷ []) scores ≡ scored memories scores ++ with_own_score m (slice_get scores n) ∷ []
unfolding scored
scored_more memories scores m n count =
    let f : ℕ × MemoryRows → MemoryRows = λ own. with_own_score own.1 (slice_get scores own.0) in
    let place : 0 + length memories ≡ n = omega arith in
    ap (map f) (numbered_more 0 memories m)
    ∙ map-append f (enumerate_from 0 memories) ((0 + length memories, m) ∷ [])
    ∙ ap (λ (k : ℕ). map f (enumerate_from 0 memories) ++ f (k, m) ∷ []) place

-- a score changes no plan and no choice
same_plan : (m : MemoryRows) (o : Option ℤ) → chosen_plan (with_own_score m o) ≡ chosen_plan m
same_plan m None = refl
same_plan m (Some score) = refl

same_plans : (k : ℕ) (memories : List MemoryRows) (scores : List ℤ)
    → map chosen_plan (map (λ (own : ℕ × MemoryRows). with_own_score own.1 (slice_get scores own.0)) (enumerate_from k memories)) ≡ map chosen_plan memories
same_plans k [] scores = refl
same_plans k (m ∷ memories) scores =
    ap (λ (p : PlanRows). p ∷ map chosen_plan (map (λ (own : ℕ × MemoryRows). with_own_score own.1 (slice_get scores own.0)) (enumerate_from (k + 1) memories)))
    (same_plan m (slice_get scores k))
    ∙ ap (λ (ps : List PlanRows). chosen_plan m ∷ ps) (same_plans (k + 1) memories scores)

pub followed_scored : (memories : List MemoryRows) (scores : List ℤ) → followed_plans (scored memories scores) ≡ followed_plans memories
unfolding scored
followed_scored memories scores = same_plans 0 memories scores

-- the day of memories with scores is that of the memories
pub same_events : (R : RunRows) (iteration : ℕ) (memories : List MemoryRows)
    → events_of R iteration (memories_after R iteration memories) ≡ events_of R iteration memories
unfolding events_of memories_after
same_events R iteration memories = rw (followed_scored memories (scores_in R iteration memories)) refl

count_from : (k : ℕ) (memories : List MemoryRows) (scores : List ℤ)
    → length (map (λ (own : ℕ × MemoryRows). with_own_score own.1 (slice_get scores own.0)) (enumerate_from k memories)) ≡ length memories
count_from k [] scores = refl
count_from k (m ∷ memories) scores = ap suc (count_from (k + 1) memories scores)

pub scored_count : (memories : List MemoryRows) (scores : List ℤ) → length (scored memories scores) ≡ length memories
unfolding scored
scored_count memories scores = count_from 0 memories scores

same_fit : (T : TownRows) (m : MemoryRows) (o : Option ℤ) → hold_fitting T (with_own_score m o) ≡ hold_fitting T m
same_fit T m None = refl
same_fit T m (Some score) = refl

fit_from : (T : TownRows) (k : ℕ) (memories : List MemoryRows) (scores : List ℤ)
    → all_hold_fitting T (map (λ (own : ℕ × MemoryRows). with_own_score own.1 (slice_get scores own.0)) (enumerate_from k memories))
    ≡ all_hold_fitting T memories
fit_from T k [] scores = refl
fit_from T k (m ∷ memories) scores = rw (same_fit T m (slice_get scores k), fit_from T (k + 1) memories scores) refl

pub scored_fit : (T : TownRows) (memories : List MemoryRows) (scores : List ℤ) → all_hold_fitting T (scored memories scores) ≡ all_hold_fitting T memories
unfolding scored
scored_fit T memories scores = fit_from T 0 memories scores

-- the plans that are followed fit the town
none_fits : (T : TownRows) → fits T (record { acts = []; legs = [] }) ≡ true
unfolding fits legs_fit
none_fits T = refl

one_fits : (T : TownRows) (plans : List PlanRows) (k : ℕ) → list_all (fits T) plans ≡ true
    → fits T (get_or plans k (record { acts = []; legs = [] })) ≡ true
one_fits T [] k fit = none_fits T
one_fits T (plan ∷ plans) zero fit = (and_parts (fits T plan) (list_all (fits T) plans) fit).0
one_fits T (plan ∷ plans) (suc k) fit = one_fits T plans k (and_parts (fits T plan) (list_all (fits T) plans) fit).1

pub followed_fit : (T : TownRows) (memories : List MemoryRows) → all_hold_fitting T memories ≡ true
    → list_all (fits T) (followed_plans memories) ≡ true
followed_fit T [] fit = refl
followed_fit T (m ∷ memories) fit =
    let parts = and_parts (hold_fitting T m) (all_hold_fitting T memories) fit in
    and_from (fits T (chosen_plan m)) (list_all (fits T) (followed_plans memories)) (one_fits T m.plans m.chosen parts.0)
    (followed_fit T memories parts.1)

pub plans_fit : (R : RunRows) (memories : List MemoryRows) (chosen : List PlanRows) → CanRun R memories → chosen ≡ followed_plans memories
    → list_all (fits R.town) chosen ≡ true
plans_fit R memories chosen can is = subst (λ (ps : List PlanRows). list_all (fits R.town) ps ≡ true) (sym is) (followed_fit R.town memories can.fit)

pub plans_count : (R : RunRows) (memories : List MemoryRows) (chosen : List PlanRows) → CanRun R memories → chosen ≡ followed_plans memories
    → length R.town.book.persons ≡ length chosen
plans_count R memories chosen can is =
    sym can.each ∙ sym (length-map memories chosen_plan) ∙ ap (λ (ps : List PlanRows). length ps) (sym is)

pub can_scored : (R : RunRows) (memories after : List MemoryRows) (scores : List ℤ) → CanRun R memories → after ≡ scored memories scores → CanRun R after
can_scored R memories after scores can is = subst (CanRun R) (sym is) (record {
  learning = can.learning;
  each = scored_count memories scores ∙ can.each;
  fit = scored_fit R.town memories scores ∙ can.fit;
})
