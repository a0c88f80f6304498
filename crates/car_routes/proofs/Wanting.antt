-- The wanted routes, gathered leg by leg.
use Rattle.std.proofs.Common.{◌≡◌, ℕ, ◌+◌, ◌<◌, ◌≤◌, Bool, cond, List, [], ◌∷◌, ◌++◌, length, map, drop, Option, None, Some, ◌⊎◌, inl, inr, refl, sym, ◌∙◌, ap}
use Rattle.std.proofs.{Common.subst, Common.arith, Common.append_assoc, lemmas.Bool.cases_eq, lemmas.Bool.eq-eqb, lemmas.Bool.ne_eqb}
use Rattle.std.proofs.lemmas.List.{append-nil, map-append, drop_more, drop_all, get_or-set_same, get_or-set_other, length-set}
use Rattle.std.proofs.lemmas.List.Elements.{filter-append, All-push, All-set, All-get_or}
use Rattle.std.specs.{List.cons_option, Prelude.nat_eq, Prelude.filter, Prelude.slice_index_or, Prelude.slice_set, Prelude.option_to_list, Prelude.All}
use Rattle.rows.specs.{PlanRows.PlanRows, PlanRows.plan_rows, PlanRows.all_plan_rows, declared.plan.Act.Act, declared.plan.Leg.Leg, declared.plan.Plan.Plan}
use Rattle.walks.specs.Walks.{Ends}
use Rattle.car_routes.specs.Wanted.{Pairs, wanted, wanted_in, wanted_by, wanted_by_all, wanted_from, row_of, AreNodes, WantsMore}

-- PAIRS BY THEIR FIRST NODE
pub from_nothing : (node : ℕ) → wanted_from node [] ≡ []
unfolding wanted_from
from_nothing node = refl

pub from-append : (node : ℕ) (xs ys : Pairs) → wanted_from node (xs ++ ys) ≡ wanted_from node xs ++ wanted_from node ys
unfolding wanted_from
from-append node xs ys =
    let test : ℕ × ℕ → Bool = λ pair. nat_eq pair.0 node in
    let to : ℕ × ℕ → ℕ = λ pair. pair.1 in
    ap (λ (ps : Pairs). map to ps) (filter-append test xs ys) ∙ map-append to (filter test xs) (filter test ys)

pub from_here : (from to : ℕ) (rest : Pairs) → wanted_from from ((from, to) ∷ rest) ≡ to ∷ wanted_from from rest
unfolding wanted_from
from_here from to rest =
    let test : ℕ × ℕ → Bool = λ pair. nat_eq pair.0 from in
    ap (λ (b : Bool). map (λ (pair : ℕ × ℕ). pair.1) (cond b ((from, to) ∷ filter (λ pair. nat_eq pair.0 from) rest)
    (filter (λ pair. nat_eq pair.0 from) rest))) (eq-eqb from from refl)

pub from_elsewhere : (node from to : ℕ) (rest : Pairs) → (from ≡ node → ⊥) → wanted_from node ((from, to) ∷ rest) ≡ wanted_from node rest
unfolding wanted_from
from_elsewhere node from to rest apart =
    ap (λ (b : Bool). map (λ (pair : ℕ × ℕ). pair.1) (cond b ((from, to) ∷ filter (λ pair. nat_eq pair.0 node) rest)
    (filter (λ pair. nat_eq pair.0 node) rest))) (ne_eqb from node apart)

pub cons-append : (o : Option (ℕ × ℕ)) (ps : Pairs) → cons_option o ps ≡ option_to_list o ++ ps
cons-append None ps = refl
cons-append (Some p) ps = refl

-- ONE MORE TARGET
pub wants_none : (nodes : ℕ) (lists : List (List ℕ)) → WantsMore nodes [] lists lists
wants_none nodes lists = record {
  count = refl;
  each = λ node. sym (ap (λ (ns : List ℕ). row_of lists node ++ ns) (from_nothing node) ∙ append-nil (row_of lists node));
  inside = λ h. h;
}

row_inside : (nodes from : ℕ) (lists : List (List ℕ)) → from < length lists → AreNodes nodes lists → All (λ node. node < nodes) (row_of lists from)
row_inside nodes from lists within inside = All-get_or (All (λ node. node < nodes)) lists from [] within inside

pub wants_one : (nodes from to : ℕ) (old new : List (List ℕ)) → from < length old → to < nodes
    → new ≡ slice_set old from (row_of old from ++ to ∷ []) → WantsMore nodes ((from, to) ∷ []) old new
wants_one nodes from to old new within target is = record {
  count = ap (λ (ls : List (List ℕ)). length ls) is ∙ length-set old from (row_of old from ++ to ∷ []);
  each = λ node. ap (λ (ls : List (List ℕ)). row_of ls node) is ∙ by_node node (cases_eq node from);
  inside = λ h. subst (AreNodes nodes) (sym is)
      (All-set (All (λ node. node < nodes)) old from (row_of old from ++ to ∷ [])
      (All-push (λ node. node < nodes) (row_of old from) to (row_inside nodes from old within h) target) h);
}
  where
    by_node : (node : ℕ) → (node ≡ from) ⊎ (node ≡ from → ⊥) → row_of (slice_set old from (row_of old from ++ to ∷ [])) node
        ≡ row_of old node ++ wanted_from node ((from, to) ∷ [])
    by_node node (inl same) =
        let P : ℕ → Type 0 = λ n. row_of (slice_set old from (row_of old from ++ to ∷ [])) n
        ≡ row_of old n ++ wanted_from n ((from, to) ∷ []) in
        subst P (sym same) (get_or-set_same old from (row_of old from ++ to ∷ []) [] within ∙ sym
        (ap (λ (ns : List ℕ). row_of old from ++ ns) (from_here from to [] ∙ ap (λ (ns : List ℕ). to ∷ ns) (from_nothing from))))
    by_node node (inr apart) =
        get_or-set_other old from node (row_of old from ++ to ∷ []) [] apart
        ∙ sym (ap (λ (ns : List ℕ). row_of old node ++ ns) (from_elsewhere node from to [] (λ same. apart (sym same)) ∙ from_nothing node)
        ∙ append-nil (row_of old node))

-- what a leg wants is put down
pub put_down : (nodes : ℕ) (wants : Option (ℕ × ℕ)) (from to : ℕ) (old new : List (List ℕ)) → wants ≡ Some (from, to)
    → WantsMore nodes ((from, to) ∷ []) old new → WantsMore nodes (option_to_list wants) old new
put_down nodes wants from to old new is more = subst (λ (o : Option (ℕ × ℕ)). WantsMore nodes (option_to_list o) old new) (sym is) more

pub nothing_put : (nodes : ℕ) (wants : Option (ℕ × ℕ)) (lists : List (List ℕ)) → wants ≡ None → WantsMore nodes (option_to_list wants) lists lists
nothing_put nodes wants lists is = subst (λ (o : Option (ℕ × ℕ)). WantsMore nodes (option_to_list o) lists lists) (sym is) (wants_none nodes lists)

-- SOME OF ALL
-- some of all wanted routes are still left to gather
pub record IsOnWay (nodes : ℕ) (left all : Pairs) (start now : List (List ℕ)) : Type 0 where
  pub count : length now ≡ length start
  pub each : (node : ℕ) → row_of now node ++ wanted_from node left ≡ row_of start node ++ wanted_from node all
  pub inside : AreNodes nodes start → AreNodes nodes now

pub on_way_start : (nodes : ℕ) (all : Pairs) (start : List (List ℕ)) → IsOnWay nodes all all start start
on_way_start nodes all start = record { count = refl; each = λ node. refl; inside = λ h. h }

pub on_way_step : (nodes : ℕ) (left xs rest all : Pairs) (start now new : List (List ℕ)) → IsOnWay nodes left all start now → left ≡ xs ++ rest
    → WantsMore nodes xs now new → IsOnWay nodes rest all start new
on_way_step nodes left xs rest all start now new way is more = record {
  count = more.count ∙ way.count;
  each = λ node.
      ap (λ (ns : List ℕ). ns ++ wanted_from node rest) (more.each node)
      ∙ append_assoc (row_of now node) (wanted_from node xs) (wanted_from node rest)
      ∙ ap (λ (ns : List ℕ). row_of now node ++ ns) (sym (from-append node xs rest) ∙ ap (wanted_from node) (sym is))
      ∙ way.each node;
  inside = λ h. more.inside (way.inside h);
}

pub on_way_end : (nodes : ℕ) (left all : Pairs) (start now : List (List ℕ)) → IsOnWay nodes left all start now → left ≡ []
    → WantsMore nodes all start now
on_way_end nodes left all start now way none = record {
  count = way.count;
  each = λ node.
      sym (append-nil (row_of now node)) ∙ ap (λ (ns : List ℕ). row_of now node ++ ns)
      (sym (from_nothing node) ∙ ap (wanted_from node) (sym none))
      ∙ way.each node;
  inside = way.inside;
}

-- LEG BY LEG
wanted_pair : (ends : Ends) (here there : Act) (acts : List Act) (l : Leg) (legs : List Leg)
    → wanted_in ends (here ∷ there ∷ acts) (l ∷ legs) ≡ option_to_list (wanted ends here.link there.link l) ++ wanted_in ends (there ∷ acts) legs
unfolding wanted_in
wanted_pair ends here there acts l legs = cons-append (wanted ends here.link there.link l) (wanted_in ends (there ∷ acts) legs)

pub wanted_step : (ends : Ends) (acts : List Act) (legs : List Leg) (place : ℕ) (d e : Act) (l : Leg) → length acts ≡ length legs + 1
    → place < length legs → l ≡ slice_index_or legs place l
    → wanted_in ends (drop place acts) (drop place legs)
    ≡ option_to_list (wanted ends (slice_index_or acts place d).link (slice_index_or acts (place + 1) e).link l)
    ++ wanted_in ends (drop (place + 1) acts) (drop (place + 1) legs)
wanted_step ends acts legs place d e l pairs within own =
    let a : drop place acts ≡ slice_index_or acts place d ∷ drop (place + 1) acts = drop_more acts place d (omega arith) in
    let b : drop (place + 1) acts ≡ slice_index_or acts (place + 1) e ∷ drop (place + 1 + 1) acts = drop_more acts (place + 1) e (omega arith) in
    let c : drop place legs ≡ l ∷ drop (place + 1) legs =
    drop_more legs place l within ∙ ap (λ (x : Leg). x ∷ drop (place + 1) legs) (sym own) in
    let P : List Act → Type 0 = λ after. wanted_in ends (drop place acts) (drop place legs)
    ≡ option_to_list (wanted ends (slice_index_or acts place d).link (slice_index_or acts (place + 1) e).link l)
    ++ wanted_in ends after (drop (place + 1) legs) in
    subst P (sym b)
    (ap (λ (after : List Act). wanted_in ends after (drop place legs)) (a ∙ ap (λ (after : List Act). slice_index_or acts place d ∷ after) b)
    ∙ ap (λ (ls : List Leg). wanted_in ends (slice_index_or acts place d ∷ slice_index_or acts (place + 1) e ∷ drop (place + 1 + 1) acts) ls) c
    ∙ wanted_pair ends (slice_index_or acts place d) (slice_index_or acts (place + 1) e) (drop (place + 1 + 1) acts) l (drop (place + 1) legs))

pub wanted_end : (ends : Ends) (acts : List Act) (legs : List Leg) → legs ≡ [] → wanted_in ends acts legs ≡ []
unfolding wanted_in
wanted_end ends acts legs none = ap (λ (ls : List Leg). wanted_in ends acts ls) none

-- behind the last leg nothing is wanted
pub wanted_past : (ends : Ends) (acts : List Act) (legs : List Leg) (place : ℕ) → length legs ≤ place
    → wanted_in ends (drop place acts) (drop place legs) ≡ []
wanted_past ends acts legs place done = wanted_end ends (drop place acts) (drop place legs) (drop_all place legs done)

-- PLAN BY PLAN
by_cons : (ends : Ends) (plan : PlanRows) (plans : List PlanRows) → wanted_by ends (plan ∷ plans) ≡ wanted_in ends plan.acts plan.legs ++ wanted_by ends plans
unfolding wanted_by
by_cons ends plan plans = refl

by_all_cons : (ends : Ends) (own : List PlanRows) (plans : List (List PlanRows)) → wanted_by_all ends (own ∷ plans)
    ≡ wanted_by ends own ++ wanted_by_all ends plans
unfolding wanted_by_all
by_all_cons ends own plans = refl

by_none : (ends : Ends) → wanted_by ends [] ≡ []
unfolding wanted_by
by_none ends = refl

by_all_none : (ends : Ends) → wanted_by_all ends [] ≡ []
unfolding wanted_by_all
by_all_none ends = refl

-- the plan at a place, and those behind it
pub by_step : (ends : Ends) (plans : List Plan) (i : ℕ) (plan : Plan) → i < length plans → plan ≡ slice_index_or plans i plan
    → wanted_by ends (map plan_rows (drop i plans)) ≡ wanted_in ends plan.acts plan.legs ++ wanted_by ends (map plan_rows (drop (i + 1) plans))
by_step ends plans i plan less is =
    ap (λ (ps : List Plan). wanted_by ends (map plan_rows ps)) (drop_more plans i plan less ∙ ap (λ (p : Plan). p ∷ drop (i + 1) plans) (sym is))
    ∙ by_cons ends (plan_rows plan) (map plan_rows (drop (i + 1) plans))

pub by_all_step : (ends : Ends) (plans : List (List Plan)) (i : ℕ) (own : List Plan) → i < length plans → own ≡ slice_index_or plans i own
    → wanted_by_all ends (all_plan_rows (drop i plans)) ≡ wanted_by ends (map plan_rows own) ++ wanted_by_all ends (all_plan_rows (drop (i + 1) plans))
by_all_step ends plans i own less is =
    ap (λ (ps : List (List Plan)). wanted_by_all ends (all_plan_rows ps))
    (drop_more plans i own less ∙ ap (λ (p : List Plan). p ∷ drop (i + 1) plans) (sym is))
    ∙ by_all_cons ends (map plan_rows own) (all_plan_rows (drop (i + 1) plans))

-- behind the last plan nothing is wanted
pub by_past : (ends : Ends) (plans : List Plan) (i : ℕ) → length plans ≤ i → wanted_by ends (map plan_rows (drop i plans)) ≡ []
by_past ends plans i done = ap (λ (ps : List Plan). wanted_by ends (map plan_rows ps)) (drop_all i plans done) ∙ by_none ends

pub by_all_past : (ends : Ends) (plans : List (List Plan)) (i : ℕ) → length plans ≤ i → wanted_by_all ends (all_plan_rows (drop i plans)) ≡ []
by_all_past ends plans i done =
    ap (λ (ps : List (List Plan)). wanted_by_all ends (all_plan_rows ps)) (drop_all i plans done) ∙ by_all_none ends
