-- What persons replan by, as the code has it.
use Rattle.std.proofs.Common.{◌≡◌, ℕ, ◌<◌, true, List, [], ◌∷◌, length, refl, sym, ◌∙◌, ap, subst}
use Rattle.std.{proofs.lemmas.Bool.and_from, proofs.lemmas.Bool.and_parts, specs.List.list_all, specs.Prelude.nat_lt}
use Rattle.events.specs.declared.event.Event.{Event}
use Rattle.rows.specs.{PlanRows.PlanRows, declared.plan.Act.Act}
use Rattle.walks.specs.Arrivals.{Arrivals}
use Rattle.router.specs.{Graphs.Graph, Legs.are_on}
use Rattle.travel_times.specs.{Observed.AreOnLinks, Observed.observed_time, Times.LinkProfile, Times.arrival_by, Times.arrivals}
use Rattle.plan_memory.specs.Memories.{MemoryRows}
use Rattle.replanning.specs.Persons.{Basis, all_replanned, is_on, all_are_on}
use Rattle.town.specs.{Fits.is_act_in, Fits.legs_fit, Fits.fits, Rows.TownRows}
use Rattle.law_replanning.specs.{Memories.hold_fitting, Memories.all_hold_fitting, Towns.graph_in}
use Rattle.iterations.{proofs.Seen.arrivals_seen, specs.Days.seen_arrivals, specs.Days.basis_after, specs.Runs.RunRows, specs.Runs.CanRun}

acts_on : (T : TownRows) (acts : List Act) → list_all (is_act_in T) acts ≡ true → are_on (length T.links) acts ≡ true
acts_on T [] known = refl
acts_on T (act ∷ acts) known =
    let parts = and_parts (is_act_in T act) (list_all (is_act_in T) acts) known in
    let own = and_parts (nat_lt act.kind (length T.book.kinds)) (nat_lt act.link (length T.links)) parts.0 in
    and_from (nat_lt act.link (length T.links)) (are_on (length T.links) acts) own.1 (acts_on T acts parts.1)

plan_on : (T : TownRows) (plan : PlanRows) → fits T plan ≡ true → are_on (length T.links) plan.acts ≡ true
unfolding fits
plan_on T plan fit = acts_on T plan.acts (and_parts (list_all (is_act_in T) plan.acts) (legs_fit T plan.acts plan.legs) fit).0

plans_on : (T : TownRows) (plans : List PlanRows) → list_all (fits T) plans ≡ true
    → list_all (λ (plan : PlanRows). are_on (length T.links) plan.acts) plans ≡ true
plans_on T [] fit = refl
plans_on T (plan ∷ plans) fit =
    let parts = and_parts (fits T plan) (list_all (fits T) plans) fit in
    and_from (are_on (length T.links) plan.acts) (list_all (λ (p : PlanRows). are_on (length T.links) p.acts) plans) (plan_on T plan parts.0)
    (plans_on T plans parts.1)

memories_on : (T : TownRows) (memories : List MemoryRows) → all_hold_fitting T memories ≡ true → all_are_on (length T.links) memories ≡ true
memories_on T [] fit = refl
memories_on T (m ∷ memories) fit =
    let parts = and_parts (hold_fitting T m) (all_hold_fitting T memories) fit in
    and_from (is_on (length T.links) m) (all_are_on (length T.links) memories) (plans_on T m.plans parts.0) (memories_on T memories parts.1)

pub all_on : (R : RunRows) (count : ℕ) (memories : List MemoryRows) → CanRun R memories → count ≡ length R.town.links
    → all_are_on count memories ≡ true
all_on R count memories can is = subst (λ (n : ℕ). all_are_on n memories ≡ true) (sym is) (memories_on R.town memories can.fit)

pub replanned_as : (R : RunRows) (k : ℕ) (graph : Graph) (times : List LinkProfile) (seen events : List Event) (memories new : List MemoryRows)
    → graph ≡ graph_in R.town → seen ≡ events → length times ≡ length R.town.links → AreOnLinks (length R.town.links) events
    → ((link second : ℕ) → link < length R.town.links → arrivals times link second ≡ arrival_by (observed_time R.town.links seen link) second)
    → new ≡ all_replanned (record {
      graph = graph;
      arrive = arrivals times;
      learning = R.learning;
      seed = R.town.seed;
      end_second = R.town.settings.end_second;
      iteration = k;
    }) memories
    → new ≡ all_replanned (basis_after R k events) memories
replanned_as R k graph times seen events memories new graph_is same count on there is =
    let B : Graph → Arrivals → Basis = λ g a. record {
      graph = g;
      arrive = a;
      learning = R.learning;
      seed = R.town.seed;
      end_second = R.town.settings.end_second;
      iteration = k;
    } in
    let arrive_is : arrivals times ≡ seen_arrivals R.town.links seen =
    arrivals_seen R.town.links seen times count (subst (AreOnLinks (length R.town.links)) (sym same) on) there in
    is ∙ ap (λ (g : Graph). all_replanned (B g (arrivals times)) memories) graph_is
    ∙ ap (λ (a : Arrivals). all_replanned (B (graph_in R.town) a) memories) arrive_is
    ∙ ap (λ (es : List Event). all_replanned (B (graph_in R.town) (seen_arrivals R.town.links es)) memories) same
