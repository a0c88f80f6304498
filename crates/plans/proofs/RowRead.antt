-- One more row is read.
use Rattle.records.proofs.Common.{◌≡◌, List, ap, ℕ, length, arith, [], ◌<◌, None, Some, refl, true, Bool, Option, ◌+◌, false, cond, get_or, ◌&&◌, ◌-◌, suc}
use Rattle.records.proofs.Common.{zero, add-one, nat_tests, nat_le, is_none, Mode, LAST_SECOND, field, are_digits, number_in, value_of, Row}
use Rattle.records.proofs.Faulty.{one_more}
use Rattle.plans.proofs.{ActCases.act_in_plan, ActCases.act_of_new_plan, ActCases.act_of_new_person, LegCases.leg_in_plan}
use Rattle.plans.proofs.Passing.{passed, in_order, behind_act, behind_end, Next, leg_goes_on, vacant, closes}
use Rattle.plans.specs.Kinds.{kind_of, is_act, is_leg, end_in}
use Rattle.plans.specs.Progress.{Progress, put_act, step_act, step_leg, ends_well, ActAble, LegAble, RowAble, IsReadTo}
use Rattle.plans.specs.Refusals.{lacks_element_name, lacks_link, same_person, same_plan, begins_plan, row_reason}
use Rattle.plans.specs.{Values.tables_of, Values.act_of, Values.row_before, Values.row_behind, Values.reason_at, declared.kinds.ElementKind.ElementKind}
use Rattle.plans.specs.declared.kinds.ElementKind.TheVariants as element
use Rattle.rows.specs.Plan.{is_end}

-- the row before a place behind the first
pub before_more : (rows : List Row) (n : ℕ) → row_before rows (n + 1) ≡ Some (get_or rows n [])
unfolding row_before
before_more rows n = rw add-one refl

-- a leg's planned end
ended : (row : Row) → is_none (end_in row) ≡ false → is_end (end_in row) ≡ true
unfolding number_in
ended row h = ended_by (are_digits (field row 5) && nat_le 0 (value_of (field row 5))) (value_of (field row 5)) h
  where
    ended_by : (b : Bool) (v : ℕ) → is_none (cond (b && nat_le v LAST_SECOND) (Some v) None) ≡ false
        → is_end (cond (b && nat_le v LAST_SECOND) (Some v) None) ≡ true
    ended_by b v h = grind (arith, nat_tests)

pub act_able : (links : List (List ℕ)) (ends : List (ℕ × ℕ)) (persons : List (List ℕ)) (legs : ℕ) (before : Option Row) (row : Row) (next : Option Row)
    → row_reason links ends persons legs before row next ≡ None
    → kind_of row ≡ element.Act → ActAble links row
unfolding lacks_element_name lacks_link
act_able links ends persons legs before row next h is =
    let ok = passed links ends persons legs before row next h in
    let named = rw is at ok.named in
    let linked = rw is at ok.linked in
    record { person = grind arith; kind = grind arith; found = grind arith }

leg_able : (links : List (List ℕ)) (ends : List (ℕ × ℕ)) (persons : List (List ℕ)) (legs : ℕ) (before : Option Row) (row : Row) (next : Option Row)
    → (mode : Mode) → row_reason links ends persons legs before row next ≡ None → kind_of row ≡ element.Leg (Some mode) → LegAble links legs mode row
leg_able links ends persons legs before row next mode h is =
    let ok = passed links ends persons legs before row next h in
    let named = rw is at ok.named in
    let numbered = rw is at ok.numbered in
    let room = rw is at ok.few in
    record {
      names = grind arith;
      times = grind arith;
      found = rw is at ok.linked;
      few_legs = grind (arith, nat_tests);
      few_links = grind (arith, nat_tests);
    }

latest_at : (rows : List Row) (n : ℕ) (latest : Row) → row_before rows n ≡ Some latest → latest ≡ get_or rows (n - 1) []
unfolding row_before
latest_at rows zero latest is = cc
latest_at rows (suc n) latest is = let same : n ≡ suc n - 1 = omega arith in cc

-- the activity with which the open plan ends stands in the row before
pub last_at : (links : List (List ℕ)) (ends : List (ℕ × ℕ)) (rows : List Row) (n : ℕ) (p : Progress) → (r : IsReadTo links ends rows n p) → ends_well p.last ≡ true
    → p.last ≡ Some (act_of (tables_of links rows).kinds (tables_of links rows).links (get_or rows (n - 1) []))
last_at links ends rows n p r well = rw (← latest_at rows n r.latest r.is_latest) (by (is_act (kind_of r.latest)) refl)
  where
    by : (b : Bool) → is_act (kind_of r.latest) ≡ b → p.last ≡ Some (act_of (tables_of links rows).kinds (tables_of links rows).links r.latest)
    by true act = rw act at r.behind.last_is
    by false leg = let none = rw leg at r.behind.last_is in cc

module _ (links : List (List ℕ)) (ends : List (ℕ × ℕ)) (rows : List Row) (n : ℕ) (p : Progress) (r : IsReadTo links ends rows n p) (less : n < length rows)
    (h : row_reason links ends p.persons (length p.legs) (row_before rows n) (get_or rows n []) (row_behind rows n) ≡ None) where
  next : Next links ends rows n p r
  unfolding reason_at
  next =
      let ok = passed links ends p.persons (length p.legs) (Some r.latest) (get_or rows n []) (row_behind rows n) (rw r.is_latest at h) in
      record {
        within = less;
        none = one_more (reason_at links ends rows) n r.none (rw (← r.names.persons_are, ← r.names.legs_count) h);
        ok = ok;
        order = in_order r.latest (kind_of (get_or rows n [])) (get_or rows n []) (row_behind rows n) ok.ordered;
      }

  -- an activity is read, where it is known whether it goes on with the plan or the person
  act_cases : kind_of (get_or rows n []) ≡ element.Act → (b c : Bool) → same_plan r.latest (get_or rows n []) ≡ b → same_person r.latest (get_or rows n []) ≡ c
      → IsReadTo links ends rows (n + 1) (step_act links p (row_before rows n) (get_or rows n []) (n + 1))
  unfolding step_act put_act
  act_cases kind true c plan person = rw (r.is_latest, plan) (act_in_plan links ends rows n p r next kind plan)
  act_cases kind false true plan person = rw (r.is_latest, plan, person) (act_of_new_plan links ends rows n p r next kind person plan)
  act_cases kind false false plan person = rw (r.is_latest, plan, person) (act_of_new_person links ends rows n p r next kind person plan)

  pub act_read : kind_of (get_or rows n []) ≡ element.Act → IsReadTo links ends rows (n + 1) (step_act links p (row_before rows n) (get_or rows n []) (n + 1))
  act_read kind = act_cases kind (same_plan r.latest (get_or rows n [])) (same_person r.latest (get_or rows n [])) refl refl

  -- a leg is read
  pub leg_read : (mode : Mode) → kind_of (get_or rows n []) ≡ element.Leg (Some mode)
      → IsReadTo links ends rows (n + 1) (step_leg links p mode (get_or rows n []))
  leg_read mode kind = leg_in_plan links ends rows n p r mode next kind

  -- the open plan takes the leg
  leg_fits : (mode : Mode) → kind_of (get_or rows n []) ≡ element.Leg (Some mode) → ends_well p.last ≡ true
  unfolding act_of
  leg_fits mode kind =
      let y = get_or rows n [] in
      let plan = leg_goes_on links ends rows n p r next (ap is_leg kind) in
      let act = behind_act r.latest (kind_of y) y next.order.alternates r.behind.kinded plan (ap is_leg kind) in
      rw (r.behind.last_is, act) (ended r.latest (behind_end r.latest (kind_of y) y next.order.timed plan (ap is_leg kind) act))

  -- what reading a row asks for
  pub row_able : RowAble links p (row_before rows n) (get_or rows n [])
  row_able = record {
    act = act_able links ends p.persons (length p.legs) (row_before rows n) (get_or rows n []) (row_behind rows n) h;
    closes = λ begins. closes links ends rows n p r next (let other = rw r.is_latest at begins in grind arith);
    leg = λ mode is. leg_able links ends p.persons (length p.legs) (row_before rows n) (get_or rows n []) (row_behind rows n) mode h is;
    ended = leg_fits;
    kinded = λ is. let kinded = rw is at next.order.kinded in cc;
    moded = λ is. let moded = rw is at next.ok.moded in cc;
  }

  -- a row is read
  pub row_read : (q : Progress) → (kind_of (get_or rows n []) ≡ element.Act → q ≡ step_act links p (row_before rows n) (get_or rows n []) (n + 1))
      → ((mode : Mode) → kind_of (get_or rows n []) ≡ element.Leg (Some mode) → q ≡ step_leg links p mode (get_or rows n []))
      → IsReadTo links ends rows (n + 1) q
  row_read q act leg = by (kind_of (get_or rows n [])) refl
    where
      by : (k : ElementKind) → kind_of (get_or rows n []) ≡ k → IsReadTo links ends rows (n + 1) q
      by element.Act is = rw (act is) (act_read is)
      by (element.Leg (Some mode)) is = rw (leg mode is) (leg_read mode is)
      by (element.Leg None) is = absurd (row_able.moded is)
      by element.Neither is = absurd (row_able.kinded is)

  -- an activity that goes on with a plan stands behind a leg of it
  pub vacant_at : kind_of (get_or rows n []) ≡ element.Act → begins_plan (row_before rows n) (get_or rows n []) ≡ false → p.last ≡ None
  vacant_at kind goes_on = vacant links ends rows n p r next (ap is_act kind) (let same = rw r.is_latest at goes_on in grind arith)
