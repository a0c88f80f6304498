-- The first leg that does not fit, plan by plan, is the first one row by row.
use Rattle.scenario.proofs.AllFit.{plans_fault-append, or_else_assoc}
use Rattle.scenario.proofs.Common.{◌≡◌, List, ℕ, sym, ◌∙◌, ap, length, refl, None, true, Option, arith, ◌<◌, Some, ◌≤◌, [], ◌∷◌, Bool, false, get_or}
use Rattle.scenario.proofs.Common.{append_assoc, suc, ◌++◌, ◌+◌, flat_map, unwrap_or, Tables, file_rows, or_else, fault_at, body_of, Row, ends_of, PlanRows}
use Rattle.scenario.proofs.Common.{Leg, in_file, persons_fault, NetworkRows, ScheduleRows, leg_checks_in, plans_cross_fault, persons_on, plans_fault, LegChecks}
use Rattle.scenario.proofs.{Common.all_plans_fault, Common.plan_fault, Common.Texts, Common.bytes_in, Filled.filled_crossing, Told.file_none, Told.bytes_free}
use Rattle.scenario.specs.{Faults.text_fault, FilesToScenario.cross_fault, FilesToScenario.with_search, FilesToScenario.filled_in}
use Rattle.scenario.specs.Legs.{leg_reason, legs_fault, act_in, leg_reason_at, rows_cross_fault}
use Rattle.std.proofs.{Common.◌-◌, Common.◌*◌, Common.length-append, Common.add-one, Math.Seq.drop-append_seam, lemmas.Grind.flat_map-append}
use Rattle.std.{proofs.lemmas.List.append-nil, specs.Prelude.is_some, specs.Prelude.option_to_list}
use Rattle.edge_files.specs.declared.files.InFile.TheVariants as file
use Rattle.edge_files.specs.declared.reasons.Reason.{Reason}
use Rattle.events.specs.declared.event.Mode.{Mode}
use Rattle.records.{proofs.Faulty.none_of_none, specs.Faults.first_fault}
use Rattle.rows.specs.declared.plan.Act.{Act}
use Rattle.plans.specs.declared.kinds.ElementKind.TheVariants as element
use Rattle.plans.proofs.{ActCases.act_same, AllRows.Stays, AllRows.all_with, AllRows.file_free, AllRows.plans_free, FileRead.last_there, FileRead.finish_is}
use Rattle.plans.{proofs.LegCases.leg_put, proofs.RowRead.row_able, proofs.RowRead.vacant_at, proofs.RowRead.last_at, specs.Kinds.kind_of}
use Rattle.plans.specs.Progress.{Progress, closed_acts, closed_of, with_kind, put_act, step_first, step_act, step_leg, finish}
use Rattle.plans.specs.Values.{tables_of, act_of, leg_of, endless, rows_fault, values_of, plans_fault as file_fault}
use Rattle.town.specs.Fits.{first_link}
use Rattle.walks.specs.Walks.{AreWithin}

or_else-None : {A : Type 0} (a : Option A) → or_else a None ≡ a
or_else-None None = refl
or_else-None (Some a) = refl

-- LEGS OF THE OPEN PLAN
-- the link of the first activity, whatever comes behind it
first_of_more : (acts : List Act) (last next : Act) → first_link (acts ++ last ∷ next ∷ []) ≡ first_link (acts ++ last ∷ [])
first_of_more [] last next = refl
first_of_more (act ∷ acts) last next = refl

-- one more leg, behind an activity for each leg and one more
legs_fault-push : (W : LegChecks) (row : ℕ) (acts : List Act) (legs : List Leg) (last next : Act) (leg : Leg) → length acts ≡ length legs
    → legs_fault W row (acts ++ last ∷ next ∷ []) (legs ++ leg ∷ []) ≡ or_else (legs_fault W row (acts ++ last ∷ []) legs) (fault_at (row + 2 * length legs) (leg_reason W last next.link leg))
unfolding legs_fault
legs_fault-push W row [] [] last next leg paired = let same : row ≡ row + 2 * 0 = omega arith in rw (or_else-None, ← same)
legs_fault-push W row [] (l ∷ legs) last next leg paired = absurd (omega arith)
legs_fault-push W row (act ∷ acts) [] last next leg paired = absurd (omega arith)
legs_fault-push W row (act ∷ acts) (l ∷ legs) last next leg paired =
    let same : row + 2 + 2 * length legs ≡ row + 2 * suc (length legs) = omega arith in
    rw (first_of_more acts last next, legs_fault-push W (row + 2) acts legs last next leg (omega arith), same, or_else_assoc)

endless_link : (acts : List Act) (last : Act) → first_link (acts ++ endless last ∷ []) ≡ first_link (acts ++ last ∷ [])
endless_link [] last = refl
endless_link (act ∷ acts) last = refl

-- an end that is not kept changes nothing, behind an activity for each leg
legs_fault-endless : (W : LegChecks) (row : ℕ) (acts : List Act) (legs : List Leg) (last : Act) → length acts ≡ length legs → legs_fault W row (acts ++ endless last ∷ []) legs ≡ legs_fault W row (acts ++ last ∷ []) legs
unfolding legs_fault
legs_fault-endless W row [] [] last paired = refl
legs_fault-endless W row [] (l ∷ legs) last paired = absurd (omega arith)
legs_fault-endless W row (act ∷ acts) [] last paired = absurd (omega arith)
legs_fault-endless W row (act ∷ acts) (l ∷ legs) last paired = rw (endless_link acts last, legs_fault-endless W (row + 2) acts legs last (omega arith))

-- PLANS THAT ARE CLOSED
-- rows behind those of the plans do not count
more_rows : (W : LegChecks) (rows more : List ℕ) (plans : List PlanRows) → length plans ≤ length rows → plans_fault W (rows ++ more) plans ≡ plans_fault W rows plans
unfolding plans_fault
more_rows W rows more [] few = refl
more_rows W [] more (plan ∷ plans) few = absurd (omega arith)
more_rows W (row ∷ rows) more (plan ∷ plans) few = rw (more_rows W rows more plans (omega arith))

-- one more plan, with its row
plans_fault-push : (W : LegChecks) (rows : List ℕ) (row : ℕ) (plans : List PlanRows) (plan : PlanRows) → length rows ≡ length plans
    → plans_fault W (rows ++ row ∷ []) (plans ++ plan ∷ []) ≡ or_else (plans_fault W rows plans) (plan_fault W row plan)
unfolding plans_fault
plans_fault-push W rows row plans plan each =
    rw (plans_fault-append W (rows ++ row ∷ []) plans (plan ∷ []), more_rows W rows (row ∷ []) plans (omega arith), ← each, drop-append_seam rows, or_else-None)

-- ROWS
first_fault-more : (reasons : ℕ → Option Reason) (n : ℕ) → first_fault None reasons (n + 1) ≡ or_else (first_fault None reasons n) (fault_at (n + 1) (reasons n))
unfolding first_fault
first_fault-more reasons n = rw add-one

-- a row that is an activity has no reason
act_free : (W : LegChecks) (tables : Tables) (rows : List Row) (n : ℕ) → kind_of (get_or rows n []) ≡ element.Act → leg_reason_at W tables rows n ≡ None
unfolding leg_reason_at
act_free W tables rows n is = rw is

leg_at : (W : LegChecks) (tables : Tables) (rows : List Row) (n : ℕ) (m : Option Mode) → kind_of (get_or rows n []) ≡ element.Leg m
    → leg_reason_at W tables rows n ≡ leg_reason W (act_in tables (get_or rows (n - 1) [])) (act_in tables (get_or rows (n + 1) [])).link (leg_of tables.lines tables.stops tables.links (get_or rows n []))
unfolding leg_reason_at
leg_at W tables rows n m is = rw is

after_act : (W : LegChecks) (tables : Tables) (rows : List Row) (n : ℕ) → kind_of (get_or rows n []) ≡ element.Act → first_fault None (leg_reason_at W tables rows) (n + 1) ≡ first_fault None (leg_reason_at W tables rows) n
after_act W tables rows n is = rw (first_fault-more (leg_reason_at W tables rows) n, act_free W tables rows n is, or_else-None)

-- THE ROWS READ SO FAR
-- the plans that are closed
abbrev closed_plans : Progress → List PlanRows
closed_plans p = flat_map (λ own. own) p.plans ++ p.own

-- the activity that the open plan ends with, or the one in the next row
abbrev ahead : Option Act → Act → Act
ahead None next = next
ahead (Some last) next = last

abbrev waits : Option Act → ℕ
waits None = 1
waits (Some last) = 0

abbrev next_act : Tables → List Row → ℕ → Act
next_act tables rows n = act_of tables.kinds tables.links (get_or rows n [])

-- what the plans so far say is what the first n rows say
record Checked (W : LegChecks) (tables : Tables) (rows : List Row) (n : ℕ) (p : Progress) : Type 0 where
  earlier : List ℕ
  start : ℕ
  starts : p.starts ≡ earlier ++ start ∷ []
  each : length earlier ≡ length (closed_plans p)
  paired : length p.acts ≡ length p.legs
  place : start + 2 * length p.legs ≡ n + waits p.last
  same : or_else (plans_fault W earlier (closed_plans p)) (legs_fault W (start + 1) (p.acts ++ ahead p.last (next_act tables rows n) ∷ []) p.legs) ≡ first_fault None (leg_reason_at W tables rows) n

closed_same : (W : LegChecks) (row : ℕ) (acts : List Act) (legs : List Leg) (last : Option Act) (next : Act) → is_some last ≡ true → length acts ≡ length legs → legs_fault W row (closed_acts acts last) legs ≡ legs_fault W row (acts ++ ahead last next ∷ []) legs
closed_same W row acts legs None next there paired = cc
closed_same W row acts legs (Some last) next there paired = legs_fault-endless W row acts legs last paired

-- with the open plan closed
closed_checked : (W : LegChecks) (tables : Tables) (rows : List Row) (n : ℕ) (p : Progress) → Checked W tables rows n p → is_some p.last ≡ true
    → plans_fault W p.starts (closed_plans p ++ closed_of p ∷ []) ≡ first_fault None (leg_reason_at W tables rows) n
unfolding plan_fault
closed_checked W tables rows n p c there =
    let last = closed_same W (c.start + 1) p.acts p.legs p.last (next_act tables rows n) there c.paired in
    rw (c.starts, plans_fault-push W c.earlier c.start (closed_plans p) (closed_of p) c.each, last) c.same

-- a person is closed
person_closed : (plans : List (List PlanRows)) (own : List PlanRows) (plan : PlanRows) → flat_map (λ own. own) (plans ++ (own ++ plan ∷ []) ∷ []) ≡ (flat_map (λ own. own) plans ++ own) ++ plan ∷ []
person_closed plans own plan = simp (flat_map-append, append-nil, append_assoc)

-- a plan begins, with an activity
begun_checked : (W : LegChecks) (tables : Tables) (rows : List Row) (n : ℕ) (p q : Progress) (act : Act) → Checked W tables rows n p → is_some p.last ≡ true → kind_of (get_or rows n []) ≡ element.Act
    → q.starts ≡ p.starts ++ (n + 1) ∷ [] → closed_plans q ≡ closed_plans p ++ closed_of p ∷ [] → q.acts ≡ [] → q.legs ≡ [] → q.last ≡ Some act → Checked W tables rows (n + 1) q
unfolding legs_fault
begun_checked W tables rows n p q act c there is starts closed acts legs last = record {
  earlier = c.earlier ++ c.start ∷ [];
  start = n + 1;
  starts = rw (starts, c.starts);
  each = rw (closed, length-append c.earlier, length-append (closed_plans p), c.each);
  paired = rw (acts, legs);
  place = rw (legs, last) (omega arith);
  same = rw (legs, or_else-None, closed, ← c.starts, after_act W tables rows n is) (closed_checked W tables rows n p c there);
}

-- an activity goes on with a plan, or begins one
put_checked : (W : LegChecks) (tables : Tables) (rows : List Row) (n : ℕ) (p : Progress) (plan person : Bool) (row : Row) (act : Act) → Checked W tables rows n p → act ≡ next_act tables rows n
    → kind_of (get_or rows n []) ≡ element.Act → (plan ≡ true → is_some p.last ≡ true) → (plan ≡ false → p.last ≡ None) → Checked W tables rows (n + 1) (put_act p plan person row (n + 1) act)
unfolding put_act
put_checked W tables rows n p true true row act c here is closes vacant =
    begun_checked W tables rows n p (put_act p true true row (n + 1) act) act c (closes refl) is refl (append-nil _ ∙ person_closed p.plans p.own (closed_of p)) refl refl refl
put_checked W tables rows n p true false row act c here is closes vacant =
    begun_checked W tables rows n p (put_act p true false row (n + 1) act) act c (closes refl) is refl (sym (append_assoc (flat_map (λ own. own) p.plans) p.own (closed_of p ∷ []))) refl refl refl
put_checked W tables rows n p false person row act c here is closes vacant =
    let place = rw (vacant refl) at c.place in
    record {
      earlier = c.earlier;
      start = c.start;
      starts = c.starts;
      each = c.each;
      paired = c.paired;
      place = omega arith;
      same = rw (after_act W tables rows n is, here) (rw (vacant refl) at c.same);
    }

-- a leg comes behind the last activity
leg_checked : (W : LegChecks) (tables : Tables) (rows : List Row) (n : ℕ) (p q : Progress) (m : Option Mode) (leg : Leg) → Checked W tables rows n p → p.last ≡ Some (next_act tables rows (n - 1)) → kind_of (get_or rows n []) ≡ element.Leg m
    → leg ≡ leg_of tables.lines tables.stops tables.links (get_or rows n []) → q.starts ≡ p.starts → closed_plans q ≡ closed_plans p → q.acts ≡ p.acts ++ option_to_list p.last → q.legs ≡ p.legs ++ leg ∷ [] → q.last ≡ None
    → Checked W tables rows (n + 1) q
leg_checked W tables rows n p q m leg c before is same_leg starts closed acts legs last =
    let prev = next_act tables rows (n - 1) in
    let place = rw before at c.place in
    let so_far = rw before at c.same in
    let at_row : c.start + 1 + 2 * length p.legs ≡ n + 1 = omega arith in
    let more = first_fault-more (leg_reason_at W tables rows) n in
    let pushed = legs_fault-push W (c.start + 1) p.acts p.legs prev (next_act tables rows (n + 1)) leg c.paired in
    record {
      earlier = c.earlier;
      start = c.start;
      starts = starts ∙ c.starts;
      each = rw closed c.each;
      paired = rw (acts, legs, before, length-append p.acts, length-append p.legs, c.paired);
      place = rw (legs, last, length-append p.legs) (omega arith);
      same = rw (closed, last, acts, before, append_assoc, legs, pushed, or_else_assoc, so_far, at_row, more, leg_at W tables rows n m is, same_leg) refl;
    }

checked_stays : (W : LegChecks) (links : List (List ℕ)) (ends : List (ℕ × ℕ)) (rows : List Row) → Stays links ends rows (Checked W (tables_of links rows) rows)
unfolding step_first step_act step_leg plans_fault legs_fault
checked_stays W links ends rows =
    let tables = tables_of links rows in
    record {
      first = λ read is. record {
        earlier = [];
        start = 1;
        starts = refl;
        each = refl;
        paired = refl;
        place = refl;
        same = sym (after_act W tables rows 0 is ∙ none_of_none (leg_reason_at W tables rows));
      };
      act = λ n p less read free is c.
          let named : Checked W tables rows n (with_kind p (get_or rows n [])) =
          record { earlier = c.earlier; start = c.start; starts = c.starts; each = c.each; paired = c.paired; place = c.place; same = c.same } in
          put_checked W tables rows n (with_kind p (get_or rows n [])) _ _ (get_or rows n []) _ named (act_same links rows n p less read.names is) is
          (row_able links ends rows n p read less free).closes (vacant_at links ends rows n p read less free is);
      leg = λ n p mode less read free is c.
          leg_checked W tables rows n p (step_leg links p mode (get_or rows n [])) (Some mode) _ c
          (last_at links ends rows n p read ((row_able links ends rows n p read less free).ended mode is)) is
          (leg_put links rows n p less read.names mode is) refl refl refl refl refl;
    }

-- of rows none of which is refused by itself
pub row_by_row : (W : LegChecks) (links : List (List ℕ)) (ends : List (ℕ × ℕ)) (rows : List Row) → 0 < length rows → rows_fault None links ends rows ≡ None
    → all_plans_fault W (values_of links rows).starts (values_of links rows).plans ≡ rows_cross_fault W (tables_of links rows) rows
unfolding rows_cross_fault finish
row_by_row W links ends rows some none =
    let w = all_with links ends rows (Checked W (tables_of links rows) rows) (checked_stays W links ends rows) some none in
    let p = w.progress in
    rw (← finish_is links ends rows p w.read, person_closed p.plans p.own (closed_of p))
    (closed_checked W (tables_of links rows) rows (length rows) p w.held (last_there links ends rows p w.read))

-- of plans.csv without a fault of its own
text_crossing : (R : NetworkRows) (text : Option (List ℕ)) (S : ScheduleRows) → in_file file.Plans (text_fault (file_fault R.link_names (ends_of R.links)) text) ≡ None
    → in_file file.Plans (all_plans_fault (with_search R (leg_checks_in (file_rows R.link_names (unwrap_or text [])) S))
    (file_rows R.link_names (unwrap_or text [])).starts (file_rows R.link_names (unwrap_or text [])).plans)
    ≡ cross_fault R (unwrap_or text []) S
unfolding cross_fault
text_crossing R None S none = cc
text_crossing R (Some bytes) S none =
    let free = file_free R.link_names (ends_of R.links) bytes (file_none file.Plans (file_fault R.link_names (ends_of R.links) bytes) none) in
    ap (in_file file.Plans) (row_by_row (with_search R (leg_checks_in (file_rows R.link_names bytes) S)) R.link_names (ends_of R.links) (body_of bytes) free.some free.none)

-- the first leg that does not fit, plan by plan and with routes filled, is the first one row by row
pub same_crossing : (R : NetworkRows) (T : Texts) (S : ScheduleRows) → AreWithin (length R.nodes) (ends_of R.links) → length R.link_names ≡ length R.links
    → persons_fault R.link_names (ends_of R.links) T ≡ None → plans_cross_fault (filled_in R (persons_on R.link_names T)) S ≡ cross_fault R (bytes_in T file.Plans) S
same_crossing R T S inside each none =
    let read = plans_free R.link_names (ends_of R.links) (bytes_in T file.Plans)
    (bytes_free T file.Plans (file_fault R.link_names (ends_of R.links)) none) in
    filled_crossing R inside (persons_on R.link_names T) S each read.sound read.plans ∙ text_crossing R (T file.Plans) S none
