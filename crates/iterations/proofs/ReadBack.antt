-- What is kept of a run are rows that fit its town, and those of its memories alone.
use Rattle.std.proofs.Common.{◌≡◌, ℕ, ◌+◌, ◌≤◌, Bool, true, ◌&&◌, List, [], ◌∷◌, length, refl, ◌∙◌, arith}
use Rattle.std.proofs.lemmas.{Bool.and_from, Bool.Decides.nat_tests, List.Elements.All-from_recursion, List.Elements.recursion_from_All}
use Rattle.std.specs.{List.list_all, List.AllByRecursion as Each, Prelude.All, Prelude.nat_eq, Prelude.nat_le}
use Rattle.rows.specs.{Plan.is_leg, Plan.are_acts, PlanRows.PlanRows}
use Rattle.limits.specs.declared.TheConstants.{MAX_LEGS}
use Rattle.plan_text.specs.Lines.{are_in_book, are_plan, is_plan_in}
use Rattle.plan_memory.specs.Memories.{MemoryRows}
use Rattle.town.specs.{Fits.fits, Rows.TownRows}
use Rattle.law_in_range.specs.Setups.{IsPlanIn}
use Rattle.law_replanning.specs.Memories.{IsMemoryIn}
use Rattle.keep.specs.{Fitting.AreRowsOf, Kept.kept_rows}
use Rattle.keep.specs.Fitting as fitting
use Rattle.iterations.proofs.{Marked.scored_count, Named.plan_named, Staying.after_in, Staying.always_count}
use Rattle.iterations.specs.{Acts.memories_at, Days.scores_in, Days.memories_after, Runs.RunRows, Runs.HasNames, Runs.IsRun}

-- plans of which days can be made are read back
eq_true : (a b : ℕ) → a ≡ b → nat_eq a b ≡ true
eq_true a b e = grind (arith, nat_tests)

le_true : (a b : ℕ) → a ≤ b → nat_le a b ≡ true
le_true a b e = grind (arith, nat_tests)

is_plan : (T : TownRows) (p : PlanRows) → IsPlanIn T p → are_plan p.acts p.legs ≡ true
unfolding are_plan
is_plan T p is =
    let one : Bool = nat_eq (length p.acts) (length p.legs + 1) in
    let few : Bool = nat_le (length p.legs) MAX_LEGS in
    and_from ((one && few) && are_acts p.acts) (list_all is_leg p.legs)
    (and_from (one && few) (are_acts p.acts)
    (and_from one few (eq_true (length p.acts) (length p.legs + 1) is.one_more) (le_true (length p.legs) MAX_LEGS is.few)) is.ends) is.legs

plans_back : (T : TownRows) (plans : List PlanRows) → HasNames T → Each (IsPlanIn T) plans
    → (list_all (is_plan_in T.book) plans ≡ true) × (list_all (fits T) plans ≡ true)
plans_back T [] names all = (refl, refl)
plans_back T (p ∷ plans) names all =
    let later = plans_back T plans names all.1 in
    let own : is_plan_in T.book p ≡ true =
    and_from (are_plan p.acts p.legs) (are_in_book T.book p.acts p.legs) (is_plan T p all.0) (plan_named T p names all.0.fit) in (
      and_from (is_plan_in T.book p) (list_all (is_plan_in T.book) plans) own later.0,
      and_from (fits T p) (list_all (fits T) plans) all.0.fit later.1,
    )

memory_back : (T : TownRows) (m : MemoryRows) → HasNames T → IsMemoryIn T m → fitting.IsKeptMemory T m
memory_back T m names is =
    let plans = plans_back T m.plans names (recursion_from_All (IsPlanIn T) m.plans is.plans) in
    record {
      memory = record { few = is.few; each = is.each; chosen = is.chosen; plans = plans.0 };
      fit = plans.1;
    }

each_back : (T : TownRows) (memories : List MemoryRows) → HasNames T → Each (IsMemoryIn T) memories → Each (fitting.IsKeptMemory T) memories
each_back T [] names all = tt
each_back T (m ∷ memories) names all = (memory_back T m names all.0, each_back T memories names all.1)

rows_back : (T : TownRows) (memories : List MemoryRows) → HasNames T → length memories ≡ length T.book.persons → All (IsMemoryIn T) memories
    → AreRowsOf T (kept_rows T.book memories) memories
rows_back T memories names count all = record {
  fit = record {
    count = count;
    each = All-from_recursion (fitting.IsKeptMemory T) memories (each_back T memories names (recursion_from_All (IsMemoryIn T) memories all));
  };
  are = refl;
}

after_count : (R : RunRows) (k : ℕ) (memories : List MemoryRows) → length (memories_after R k memories) ≡ length memories
unfolding memories_after
after_count R k memories = scored_count memories (scores_in R k memories)

-- what a run keeps
pub run_back : (R : RunRows) (first : List MemoryRows) → IsRun R first → (k : ℕ)
    → AreRowsOf R.town (kept_rows R.town.book (memories_after R k (memories_at R first k))) (memories_after R k (memories_at R first k))
run_back R first is k =
    rows_back R.town (memories_after R k (memories_at R first k)) is.names
    (after_count R k (memories_at R first k) ∙ always_count R first k ∙ is.each) (after_in R is.town is.learning first is.memories k)
