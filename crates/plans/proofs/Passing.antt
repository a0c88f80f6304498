-- What is known of a row against which nothing speaks.
use Rattle.records.proofs.Common.{◌≡◌, List, ℕ, length, arith, None, Some, refl, true, Bool, Option, ◌+◌, false, cond, nat_tests}
use Rattle.records.proofs.Common.{is_some, is_none, Reason, field, Row, ◌<◌, [], get_or, drop, take, add-one, first_fault}
use Rattle.std.proofs.{Math.Seq.drop-cons, lemmas.Slice.Eq.bytes_eq-Decides}
use Rattle.plans.specs.Kinds.{kind_of, is_act, is_leg, plan_number, end_in}
use Rattle.plans.specs.Progress.{Progress, Passed, Named, Behind, Grouped, Sound, IsReadTo}
use Rattle.plans.specs.Refusals.{is_misfit, lacks_name, has_bad_number, is_out_of_order, same_person, same_plan, is_neither, starts_late, jumps}
use Rattle.plans.specs.Refusals.{begins_with_leg, repeats, follows_endless, ends_with_leg, ends_plan, row_reason}
use Rattle.plans.specs.{Values.tables_of, Values.row_before, Values.first_row, Values.row_behind, Values.reason_at, declared.kinds.ElementKind.ElementKind}

abbrev none : Option Reason
none = None

pub three_none : (a b c : Bool) (u v w : Reason) (rest : Option Reason) → cond a (Some u) (cond b (Some v) (cond c (Some w) rest)) ≡ none
    → (a ≡ false) × (b ≡ false) × (c ≡ false) × (rest ≡ none)
three_none a b c u v w rest h = (grind arith, grind arith, grind arith, grind arith)

-- where a row has no reason, none of the reasons applies
pub passed : (links : List (List ℕ)) (ends : List (ℕ × ℕ)) (persons : List (List ℕ)) (legs : ℕ) (before : Option Row) (row : Row) (next : Option Row)
    → row_reason links ends persons legs before row next ≡ none → Passed links ends persons legs before row next
unfolding row_reason
passed links ends persons legs before row next h =
    let a = three_none _ _ _ _ _ _ _ h in
    let b = three_none _ _ _ _ _ _ _ a.3 in
    let c = three_none _ _ _ _ _ _ _ b.3 in
    record { fits = a.0; named = a.1; numbered = a.2; together = b.0; linked = b.1; ordered = b.2; joined = c.0; moded = c.1; few = c.2 }

-- the clauses of the order, one by one
pub record InOrder (before : Row) (kind : ElementKind) (row : Row) (next : Option Row) : Type 0 where
  pub kinded : is_neither kind ≡ false
  pub early : starts_late (Some before) row ≡ false
  pub counted : jumps (Some before) row ≡ false
  pub begins_well : begins_with_leg (Some before) kind row ≡ false
  pub alternates : repeats (Some before) kind row ≡ false
  pub timed : follows_endless (Some before) kind row ≡ false
  pub followed : ends_with_leg kind row next ≡ false

pub in_order : (before : Row) (kind : ElementKind) (row : Row) (next : Option Row) → is_out_of_order (Some before) kind row next ≡ false → InOrder before kind row next
in_order before kind row next h =
    record {
      kinded = grind arith;
      early = grind arith;
      counted = grind arith;
      begins_well = grind arith;
      alternates = grind arith;
      timed = grind arith;
      followed = grind arith;
    }

-- two rows of one person have the same name
pub same_name : (row other : Row) → same_person row other ≡ true → field row 0 ≡ field other 0
unfolding same_person
same_name row other h = (bytes_eq-Decides (field row 0) (field other 0)).0 h

pub plan_of_person : (row other : Row) → same_plan row other ≡ true → same_person row other ≡ true
unfolding same_plan
plan_of_person row other h = grind arith

pub plan_of_number : (row other : Row) → same_plan row other ≡ true → plan_number row ≡ plan_number other
unfolding same_plan
plan_of_number row other h = grind (arith, nat_tests)

-- a further plan of a person has the next number
pub next_number : (before row : Row) → same_person before row ≡ true → same_plan before row ≡ false → jumps (Some before) row ≡ false → plan_number row ≡ plan_number before + 1
unfolding same_plan
next_number before row person plan counted = grind (arith, nat_tests)

-- and a person's first plan has number 0
pub first_number : (before row : Row) → same_person before row ≡ false → starts_late (Some before) row ≡ false → plan_number row ≡ 0
first_number before row person early = grind (arith, nat_tests)

-- an activity of a plan stands behind no activity
pub behind_leg : (before : Row) (kind : ElementKind) (row : Row) → repeats (Some before) kind row ≡ false → same_plan before row ≡ true → is_act kind ≡ true → is_act (kind_of before) ≡ false
behind_leg before kind row h plan act = grind arith

-- and a leg behind an activity that has an end
pub behind_act : (before : Row) (kind : ElementKind) (row : Row) → repeats (Some before) kind row ≡ false → is_neither (kind_of before) ≡ false → same_plan before row ≡ true → is_leg kind ≡ true → is_act (kind_of before) ≡ true
behind_act before kind row h kinded plan leg = grind arith

pub behind_end : (before : Row) (kind : ElementKind) (row : Row) → follows_endless (Some before) kind row ≡ false → same_plan before row ≡ true → is_leg kind ≡ true → is_act (kind_of before) ≡ true → is_none (end_in before) ≡ false
behind_end before kind row h plan leg act = grind arith

-- a row that passes is of the plan of a leg that it follows
goes_on_from : (before : Row) (kind : ElementKind) (row : Row) → ends_plan before (Some row) ≡ false → is_misfit kind row ≡ false → lacks_name kind row ≡ false
    → has_bad_number kind row ≡ false → same_plan before row ≡ true
unfolding ends_plan same_plan
goes_on_from before kind row h fits named numbered = grind arith

-- a row behind those that are read, against which nothing speaks
pub record Next (links : List (List ℕ)) (ends : List (ℕ × ℕ)) (rows : List Row) (n : ℕ) (p : Progress) (r : IsReadTo links ends rows n p) : Type 0 where
  pub within : n < length rows
  pub none : first_fault None (reason_at links ends rows) (n + 1) ≡ None
  pub ok : Passed links ends p.persons (length p.legs) (Some r.latest) (get_or rows n []) (row_behind rows n)
  pub order : InOrder r.latest (kind_of (get_or rows n [])) (get_or rows n []) (row_behind rows n)

module _ (links : List (List ℕ)) (ends : List (ℕ × ℕ)) (rows : List Row) (n : ℕ) (p : Progress) (r : IsReadTo links ends rows n p)
    (x : Next links ends rows n p r) where
  -- a leg is of the plan of the row before, which goes on behind it
  pub leg_goes_on : is_leg (kind_of (get_or rows n [])) ≡ true → same_plan r.latest (get_or rows n []) ≡ true
  leg_goes_on leg = let begins = x.order.begins_well in grind arith

  pub leg_followed : is_leg (kind_of (get_or rows n [])) ≡ true → ends_plan (get_or rows n []) (row_behind rows n) ≡ false
  leg_followed leg = let followed = x.order.followed in grind arith

  -- an activity that goes on with a plan stands behind a leg of it
  pub vacant : is_act (kind_of (get_or rows n [])) ≡ true → same_plan r.latest (get_or rows n []) ≡ true → p.last ≡ None
  vacant act plan = rw (r.behind.last_is, behind_leg r.latest (kind_of (get_or rows n [])) (get_or rows n []) x.order.alternates plan act) refl

  -- the open plan can be closed where the row begins another
  pub closes : same_plan r.latest (get_or rows n []) ≡ false → is_some p.last ≡ true
  closes other = by (is_act (kind_of r.latest)) refl
    where
      by : (b : Bool) → is_act (kind_of r.latest) ≡ b → is_some p.last ≡ true
      by true act = rw (r.behind.last_is, act) refl
      by false leg =
          let goes_on = rw (drop-cons rows n [] x.within) at (r.behind.goes_on leg) in
          let same = goes_on_from r.latest _ (get_or rows n []) goes_on x.ok.fits x.ok.named x.ok.numbered in cc

-- one more row is read
pub read_on : (links : List (List ℕ)) (ends : List (ℕ × ℕ)) (rows : List Row) (n : ℕ) (q : Progress)
    → first_fault None (reason_at links ends rows) (n + 1) ≡ None → Named rows (n + 1) q
    → Behind (tables_of links rows) (get_or rows n []) (first_row (drop (n + 1) rows)) q
    → Grouped (tables_of links rows) (take (n + 1) rows) (get_or rows n []) q → Sound (tables_of links rows) ends q
    → IsReadTo links ends rows (n + 1) q
unfolding row_before
read_on links ends rows n q none names behind groups sound =
    record { none = none; latest = get_or rows n []; is_latest = rw add-one refl; names = names; behind = behind; groups = groups; sound = sound }
