-- The lines of one plan, and of one person, come off the front of those that are still to be written.
use Rattle.std.proofs.Common.{◌≡◌, ℕ, ◌+◌, ◌<◌, true, List, ◌++◌, length, map, get_or, drop, subst, append_assoc}
use Rattle.std.proofs.{Math.ListN.get_or-map, lemmas.List.drop_more, lemmas.List.length-map}
use Rattle.events.specs.declared.event.Book.{Book}
use Rattle.rows.specs.{PlanRows.PlanRows, PlanRows.plan_rows, PlanRows.all_plan_rows, declared.plan.Plan.Plan}
use Rattle.plan_text.specs.Lines.{plan_lines, own_lines, persons_lines, are_own_in, are_all_in}
use Rattle.plan_text.proofs.Pushing.{all_at}

-- what the tests say of a person's plans
pub person_at : (book : Book) (plans : List (List Plan)) (i : ℕ) (d : List Plan) → are_all_in book (all_plan_rows plans) ≡ true → i < length plans
    → are_own_in book (map plan_rows (get_or plans i d)) ≡ true
person_at book plans i d all here =
    subst (λ (own : List PlanRows). are_own_in book own ≡ true) (get_or-map (map plan_rows) plans i d)
    (all_at (are_own_in book) (all_plan_rows plans) i (map plan_rows d) all (rw length-map here))

-- one more plan
pub own-more : (book : Book) (person : ℕ) (plans : List Plan) (i : ℕ) (d : Plan) (text more all : List ℕ) → i < length plans
    → more ≡ text ++ plan_lines person i (plan_rows (get_or plans i d)) book
    → text ++ own_lines book person i (drop i (map plan_rows plans)) ≡ all
    → more ++ own_lines book person (i + 1) (drop (i + 1) (map plan_rows plans)) ≡ all
own-more book person plans i d text more all here pushed so_far =
    let rest = drop_more (map plan_rows plans) i (plan_rows d) (rw length-map here) in
    rw (pushed, append_assoc) (rw (rest, get_or-map plan_rows plans i d) at so_far)

-- one more person
pub persons-more : (book : Book) (plans : List (List Plan)) (i : ℕ) (d : List Plan) (text more all : List ℕ) → i < length plans
    → more ≡ text ++ own_lines book i 0 (map plan_rows (get_or plans i d))
    → text ++ persons_lines book i (drop i (all_plan_rows plans)) ≡ all
    → more ++ persons_lines book (i + 1) (drop (i + 1) (all_plan_rows plans)) ≡ all
persons-more book plans i d text more all here pushed so_far =
    let rest = drop_more (all_plan_rows plans) i (map plan_rows d) (rw length-map here) in
    rw (pushed, append_assoc) (rw (rest, get_or-map (map plan_rows) plans i d) at so_far)
