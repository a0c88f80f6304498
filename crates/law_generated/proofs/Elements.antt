-- Rows of plans.csv, each by itself and those beside it: why it is not refused.
use Rattle.records.proofs.Common.{◌≡◌, List, ap, ℕ, length, ◌∙◌, arith, [], ◌<◌, None, Some, ◌∷◌, refl, true, Bool, false, ◌&&◌, ◌||◌, not, sym, nat_tests, Row}
use Rattle.records.proofs.Common.{field, is_some, is_none, nat_le, nat_lt, nat_eq, Option, is_name, number_of, holds_name, unwrap_or, bytes_eq}
use Rattle.std.proofs.{Common.ap₂, Common.◌+◌, lemmas.Slice.Eq.bytes_eq-Decides}
use Rattle.edge_files.specs.declared.reasons.Reason.TheVariants as reason
use Rattle.events.specs.declared.event.Mode.{Mode}
use Rattle.limits.specs.declared.TheConstants.{MAX_LEGS, MAX_PERSONS, MAX_ROUTE_LINKS}
use Rattle.plans.specs.Kinds.{end_in, is_act, is_car, is_leg, items_of, kind_of, plan_in, plan_number}
use Rattle.plans.specs.Refusals.{begins_person, begins_with_leg, comes_again, ends_plan, ends_with_leg, follows_endless, has_bad_number, has_bad_time}
use Rattle.plans.specs.Refusals.{is_broken, is_misfit, is_neither, is_of_other_plan, is_one_too_many, is_out_of_order, jumps, kind_reason, lacks_element_name}
use Rattle.plans.specs.Refusals.{lacks_link, lacks_mode, lacks_name, repeats, row_reason, same_person, same_plan, starts_late}
use Rattle.plans.specs.declared.kinds.ElementKind.{ElementKind}
use Rattle.plans.specs.declared.kinds.ElementKind.TheVariants as element
use Rattle.law_generated.proofs.Tables.{no_reason}

-- a row of a person's plan 0
pub record IsOwn (me : List ℕ) (row : Row) : Type 0 where
  pub who : field row 0 ≡ me
  pub plan : plan_in row ≡ Some 0
  pub seven : length row ≡ 7

-- nothing is wrong with a row of this kind by itself
pub record IsSound (links : List (List ℕ)) (ends : List (ℕ × ℕ)) (kind : ElementKind) (row : Row) : Type 0 where
  pub is : kind_of row ≡ kind
  pub element : (is_act kind || is_leg kind) ≡ true
  pub fits : is_misfit kind row ≡ false
  pub named : lacks_element_name kind row ≡ false
  pub timed : has_bad_time kind row ≡ false
  pub linked : lacks_link links kind row ≡ false
  pub joined : is_broken links ends kind row ≡ false
  pub moded : lacks_mode kind ≡ false
  pub short : (is_car kind && nat_lt MAX_ROUTE_LINKS (length (items_of row))) ≡ false

-- nor by the rows beside it
pub record IsInOrder (persons : List (List ℕ)) (legs : ℕ) (before : Option Row) (kind : ElementKind) (row : Row) (next : Option Row) : Type 0 where
  pub new : comes_again persons before row ≡ false
  pub early : starts_late before row ≡ false
  pub follows : jumps before row ≡ false
  pub begun : begins_with_leg before kind row ≡ false
  pub turns : repeats before kind row ≡ false
  pub ended : follows_endless before kind row ≡ false
  pub goes_on : ends_with_leg kind row next ≡ false
  pub few : (begins_person before row && nat_le MAX_PERSONS (length persons)) ≡ false
  pub few_legs : (is_leg kind && nat_le MAX_LEGS legs) ≡ false

neither : (a b : Bool) → a ≡ false → b ≡ false → (a || b) ≡ false
neither a b p q = grind arith

seven_no : (a b c d e f g : Bool) → a ≡ false → b ≡ false → c ≡ false → d ≡ false → e ≡ false → f ≡ false → g ≡ false
    → (a || b || c || d || e || f || g) ≡ false
seven_no a b c d e f g p q r s t u v = grind arith

three_no : (a b c : Bool) → a ≡ false → b ≡ false → c ≡ false → (a || b || c) ≡ false
three_no a b c p q r = grind arith

pub row_passes : (links : List (List ℕ)) (ends : List (ℕ × ℕ)) (persons : List (List ℕ)) (legs : ℕ) (before : Option Row) (kind : ElementKind) (row : Row)
    (next : Option Row) (me : List ℕ) → is_name me ≡ true → IsOwn me row → IsSound links ends kind row → IsInOrder persons legs before kind row next
    → row_reason links ends persons legs before row next ≡ None
unfolding row_reason
row_passes links ends persons legs before kind row next me named own sound order =
    ap (λ (k : ElementKind). kind_reason links ends persons legs before k row next) sound.is
    ∙ no_reason (
    (is_misfit kind row, reason.FieldCount)
    ∷ (lacks_name kind row, reason.BadName)
    ∷ (has_bad_number kind row, reason.BadNumber)
    ∷ (comes_again persons before row, reason.Twice)
    ∷ (lacks_link links kind row, reason.Unknown)
    ∷ (is_out_of_order before kind row next, reason.Order)
    ∷ (is_broken links ends kind row, reason.RouteBroken)
    ∷ (lacks_mode kind, reason.ModeUnknown)
    ∷ (is_one_too_many persons legs before kind row, reason.TooMany)
    ∷ []) (
      sound.fits,
      (
        neither (not (holds_name row 0)) (lacks_element_name kind row) (ap (λ (w : List ℕ). not (is_name w)) own.who ∙ ap not named) sound.named,
        (
          neither (is_none (plan_in row)) (has_bad_time kind row) (ap (λ (o : Option ℕ). is_none o) own.plan) sound.timed,
          (
            order.new,
            (
              sound.linked,
              (
                seven_no (is_neither kind) (starts_late before row) (jumps before row) (begins_with_leg before kind row) (repeats before kind row)
                    (follows_endless before kind row) (ends_with_leg kind row next) (ap not sound.element) order.early order.follows order.begun order.turns
                    order.ended order.goes_on,
                (
                  sound.joined,
                  (
                    sound.moded,
                    (
                      three_no (begins_person before row && nat_le MAX_PERSONS (length persons)) (is_leg kind && nat_le MAX_LEGS legs)
                          (is_car kind && nat_lt MAX_ROUTE_LINKS (length (items_of row))) order.few order.few_legs sound.short,
                      tt,
                    ),
                  ),
                ),
              ),
            ),
          ),
        ),
      ),
    )

-- ROWS BESIDE ONE ANOTHER
zero_plan : (me : List ℕ) (row : Row) → IsOwn me row → plan_number row ≡ 0
unfolding plan_number
zero_plan me row own = ap (λ (o : Option ℕ). unwrap_or o 0) own.plan

pub one_person : (me : List ℕ) (row other : Row) → IsOwn me row → IsOwn me other → same_person row other ≡ true
unfolding same_person
one_person me row other p q = (bytes_eq-Decides (field row 0) (field other 0)).1 (p.who ∙ sym q.who)

pub one_plan : (me : List ℕ) (row other : Row) → IsOwn me row → IsOwn me other → same_plan row other ≡ true
unfolding same_plan
one_plan me row other p q =
    both (same_person row other) (nat_eq (plan_number row) (plan_number other)) (one_person me row other p q)
    (same (plan_number row) (plan_number other) (zero_plan me row p ∙ sym (zero_plan me other q)))
  where
    both : (a b : Bool) → a ≡ true → b ≡ true → (a && b) ≡ true
    both a b p q = grind arith

    same : (a b : ℕ) → a ≡ b → nat_eq a b ≡ true
    same a b p = grind (arith, nat_tests)

pub two_persons : (me other : List ℕ) (row before : Row) → IsOwn me row → IsOwn other before → bytes_eq other me ≡ false → same_person before row ≡ false
unfolding same_person
two_persons me other row before p q apart = ap₂ (λ (x y : List ℕ). bytes_eq x y) q.who p.who ∙ apart

and_no : (a b : Bool) → a ≡ false → (a && b) ≡ false
and_no a b p = grind arith

no_and : (a b : Bool) → b ≡ false → (a && b) ≡ false
no_and a b p = grind arith

not_late : (me : List ℕ) (row : Row) (b : Bool) → IsOwn me row → (b && not (nat_eq (plan_number row) 0)) ≡ false
not_late me row b own = no_and b (not (nat_eq (plan_number row) 0)) (ap not (zero (plan_number row) (zero_plan me row own)))
  where
    zero : (n : ℕ) → n ≡ 0 → nat_eq n 0 ≡ true
    zero n p = grind (arith, nat_tests)

same_jump : (me : List ℕ) (before row : Row) (b : Bool) → IsOwn me row → IsOwn me before
    → (b && not (nat_eq (plan_number row) (plan_number before) || nat_eq (plan_number row) (plan_number before + 1))) ≡ false
same_jump me before row b p q =
    no_and b (not (nat_eq (plan_number row) (plan_number before) || nat_eq (plan_number row) (plan_number before + 1)))
    (ap not (left (nat_eq (plan_number row) (plan_number before)) (nat_eq (plan_number row) (plan_number before + 1))
    (same (plan_number row) (plan_number before) (zero_plan me row p ∙ sym (zero_plan me before q)))))
  where
    left : (a b : Bool) → a ≡ true → (a || b) ≡ true
    left a b p = grind arith

    same : (a b : ℕ) → a ≡ b → nat_eq a b ≡ true
    same a b p = grind (arith, nat_tests)

too_few : (limit n : ℕ) → n < limit → nat_le limit n ≡ false
too_few limit n less = grind (arith, nat_tests)

-- the first row of the first person
pub first_order : (persons : List (List ℕ)) (legs : ℕ) (row : Row) (next : Option Row) (me : List ℕ) → IsOwn me row → number_of me persons ≡ None
    → length persons < MAX_PERSONS → IsInOrder persons legs None element.Act row next
first_order persons legs row next me own fresh few = record {
  new = ap (λ (o : Option ℕ). is_some o) (ap (λ (w : List ℕ). number_of w persons) own.who ∙ fresh);
  early = not_late me row true own;
  follows = refl;
  begun = refl;
  turns = refl;
  ended = refl;
  goes_on = refl;
  few = too_few MAX_PERSONS (length persons) few;
  few_legs = refl;
}

-- the first row of another person than the one before
pub next_order : (persons : List (List ℕ)) (legs : ℕ) (before row : Row) (next : Option Row) (me other : List ℕ) → IsOwn me row → IsOwn other before
    → bytes_eq other me ≡ false → number_of me persons ≡ None → length persons < MAX_PERSONS → IsInOrder persons legs (Some before) element.Act row next
unfolding same_plan
next_order persons legs before row next me other own theirs apart fresh few =
    let parted : same_person before row ≡ false = two_persons me other row before own theirs apart in
    record {
      new = no_and (not (same_person before row)) (is_some (number_of (field row 0) persons))
          (ap (λ (o : Option ℕ). is_some o) (ap (λ (w : List ℕ). number_of w persons) own.who ∙ fresh));
      early = not_late me row (not (same_person before row)) own;
      follows = and_no (same_person before row) _ parted;
      begun = no_and (not (same_plan before row)) false refl;
      turns = and_no (same_plan before row) _ (and_no (same_person before row) _ parted);
      ended = refl;
      goes_on = refl;
      few = no_and (not (same_person before row)) (nat_le MAX_PERSONS (length persons)) (too_few MAX_PERSONS (length persons) few);
      few_legs = refl;
    }

-- an activity behind a leg of its plan
pub act_order : (persons : List (List ℕ)) (legs : ℕ) (before row : Row) (next : Option Row) (me : List ℕ) (mode : Mode) → IsOwn me row → IsOwn me before
    → kind_of before ≡ element.Leg (Some mode) → IsInOrder persons legs (Some before) element.Act row next
act_order persons legs before row next me mode own mine leg =
    let together : same_person before row ≡ true = one_person me before row mine own in
    record {
      new = and_no (not (same_person before row)) (is_some (number_of (field row 0) persons)) (ap not together);
      early = not_late me row (not (same_person before row)) own;
      follows = same_jump me before row (same_person before row) own mine;
      begun = no_and (not (same_plan before row)) false refl;
      turns = no_and (same_plan before row) ((true && is_act (kind_of before)) || (false && is_leg (kind_of before)))
          (ap (λ (k : ElementKind). (true && is_act k) || (false && is_leg k)) leg);
      ended = refl;
      goes_on = refl;
      few = and_no (not (same_person before row)) (nat_le MAX_PERSONS (length persons)) (ap not together);
      few_legs = refl;
    }

-- a leg between two activities of its plan, of which the first one ends
pub leg_order : (persons : List (List ℕ)) (legs : ℕ) (before row next : Row) (me : List ℕ) (mode : Mode) → is_name me ≡ true → IsOwn me row → IsOwn me before
    → IsOwn me next → kind_of before ≡ element.Act → is_none (end_in before) ≡ false → legs < MAX_LEGS
    → IsInOrder persons legs (Some before) (element.Leg (Some mode)) row (Some next)
unfolding ends_plan
leg_order persons legs before row next me mode named own mine behind act ended few =
    let together : same_person before row ≡ true = one_person me before row mine own in
    let on : same_person row next ≡ true = one_person me row next own behind in
    record {
      new = and_no (not (same_person before row)) (is_some (number_of (field row 0) persons)) (ap not together);
      early = not_late me row (not (same_person before row)) own;
      follows = same_jump me before row (same_person before row) own mine;
      begun = and_no (not (same_plan before row)) true (ap not (one_plan me before row mine own));
      turns = no_and (same_plan before row) ((false && is_act (kind_of before)) || (true && is_leg (kind_of before)))
          (ap (λ (k : ElementKind). (false && is_act k) || (true && is_leg k)) act);
      ended = no_and (true && same_plan before row && is_act (kind_of before)) (is_none (end_in before)) ended;
      goes_on = no_and (nat_eq (length next) 7) (is_of_other_plan row next)
          (neither (holds_name next 0 && not (same_person row next)) (same_person row next && is_some (plan_in next) && not (nat_eq (plan_number row) (plan_number next)))
          (no_and (holds_name next 0) (not (same_person row next)) (ap not on))
          (no_and (same_person row next && is_some (plan_in next)) (not (nat_eq (plan_number row) (plan_number next)))
          (ap not (same (plan_number row) (plan_number next) (zero_plan me row own ∙ sym (zero_plan me next behind))))));
      few = and_no (not (same_person before row)) (nat_le MAX_PERSONS (length persons)) (ap not together);
      few_legs = too_few MAX_LEGS legs few;
    }
  where
    same : (a b : ℕ) → a ≡ b → nat_eq a b ≡ true
    same a b p = grind (arith, nat_tests)
