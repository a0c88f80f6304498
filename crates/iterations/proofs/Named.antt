-- Plans that fit a town have their numbers in its book.
use Rattle.std.proofs.lemmas.Bool.{and_from}
use Rattle.traffic.proofs.Common.{◌≡◌, ℕ, List, length, refl, [], ◌∷◌, true, subst, sym, and_parts, list_all, nat_lt, ◌&&◌, PlanRows, Act, Leg}
use Rattle.rows.specs.declared.plan.Leg.TheVariants as leg
use Rattle.plan_text.specs.Lines.{are_in_book, is_leg_in_book}
use Rattle.plan_text.specs.Lines as lines
use Rattle.rows.specs.Plan.{is_known}
use Rattle.town.specs.{Fits.is_act_in, Fits.is_car_leg, Fits.is_transit_leg, Fits.leg_fits, Fits.legs_fit, Fits.fits, Rows.TownRows}
use Rattle.law_replanning.specs.Memories.{hold_fitting, all_hold_fitting}
use Rattle.plan_memory.specs.Memories.{MemoryRows}
use Rattle.keep.specs.Fitting.{are_named, all_named}
use Rattle.iterations.specs.Runs.{HasNames}

acts_named : (T : TownRows) (acts : List Act) → HasNames T → list_all (is_act_in T) acts ≡ true → list_all (lines.is_act_in_book T.book) acts ≡ true
acts_named T acts names h =
    subst (λ (n : ℕ). list_all (λ (a : Act). is_known (length T.book.kinds) n a) acts ≡ true) (sym names.links) h

leg_named : (T : TownRows) (here there : ℕ) (x : Leg) → HasNames T → leg_fits T here there x ≡ true → is_leg_in_book T.book x ≡ true
unfolding leg_fits is_car_leg
leg_named T here there (leg.Car route) names h =
    let a = and_parts _ _ h in
    let b = and_parts _ _ a.0 in
    let c = and_parts _ _ b.1 in
    subst (λ (n : ℕ). list_all (λ (l : ℕ). nat_lt l n) route ≡ true) (sym names.links) c.0
leg_named T here there (leg.Teleport mode seconds) names h = refl
leg_named T here there (leg.Transit line access egress) names h =
    let a = and_parts (is_transit_leg T line access egress) _ h in
    subst (λ (n : ℕ). (nat_lt line (length T.book.lines) && nat_lt access n && nat_lt egress n) ≡ true) (sym names.stops) a.0

legs_named : (T : TownRows) (acts : List Act) (legs : List Leg) → HasNames T → legs_fit T acts legs ≡ true → list_all (is_leg_in_book T.book) legs ≡ true
unfolding legs_fit
legs_named T acts [] names h = refl
legs_named T [] (x ∷ legs) names h = absurd (cc)
legs_named T (a ∷ acts) (x ∷ legs) names h =
    let b = and_parts (leg_fits T a.link _ x) (legs_fit T acts legs) h in
    rw (leg_named T a.link _ x names b.0) (legs_named T acts legs names b.1)

pub plan_named : (T : TownRows) (p : PlanRows) → HasNames T → fits T p ≡ true → are_in_book T.book p.acts p.legs ≡ true
unfolding fits are_in_book
plan_named T p names h =
    let parts = and_parts (list_all (is_act_in T) p.acts) (legs_fit T p.acts p.legs) h in
    rw (acts_named T p.acts names parts.0) (legs_named T p.acts p.legs names parts.1)

-- the same of plans, and of memories
plans_named : (T : TownRows) (plans : List PlanRows) → HasNames T → list_all (fits T) plans ≡ true
    → list_all (λ (p : PlanRows). are_in_book T.book p.acts p.legs) plans ≡ true
plans_named T [] names fit = refl
plans_named T (p ∷ plans) names fit =
    let parts = and_parts (fits T p) (list_all (fits T) plans) fit in
    and_from (are_in_book T.book p.acts p.legs) (list_all (λ (q : PlanRows). are_in_book T.book q.acts q.legs) plans) (plan_named T p names parts.0)
    (plans_named T plans names parts.1)

pub memories_named : (T : TownRows) (memories : List MemoryRows) → HasNames T → all_hold_fitting T memories ≡ true → all_named T.book memories ≡ true
memories_named T [] names fit = refl
memories_named T (m ∷ memories) names fit =
    let parts = and_parts (hold_fitting T m) (all_hold_fitting T memories) fit in
    and_from (are_named T.book m) (all_named T.book memories) (plans_named T m.plans names parts.0) (memories_named T memories names parts.1)
