-- The plans of a town are sound, and go from activity to activity.
use Rattle.traffic.proofs.Common.{◌≡◌, ℕ, List, length, [], ◌∷◌, arith, ◌<◌, true, ◌+◌, Bool, false, suc, zero, get_or, and_parts, All-from_recursion, list_all}
use Rattle.traffic.proofs.Common.{Some, None, Option, is_open, has_end, are_acts, is_leg, PlanRows, stop_link, Act, Leg, StopRow, Setup, link_of_stop, HasEnd}
use Rattle.traffic.proofs.Common.{nat_tests, ◌==◌}
use Rattle.std.specs.List.{AllByRecursion as Each}
use Rattle.rows.specs.declared.plan.Leg.TheVariants as leg
use Rattle.rows.specs.Plan.{is_end, HasRoute}
use Rattle.town.specs.{Fits.is_act_in, Fits.has_wrong_ends, Fits.has_wrong_stops, Fits.leg_fits, Fits.legs_fit, Fits.fits, Rows.TownRows}
use Rattle.law_in_range.specs.Setups.{IsPlanIn}
use Rattle.law_sound_setups.specs.{Consistent.LeadsFrom, Consistent.link_of_act, Consistent.IsConsistentPlan, Setups.EndsAsPlanned, Setups.IsSoundPlan}

-- PLANS
-- an end as a bit asks for it: none where it is true, and else one
has_end_at : (b : Bool) (end : Option ℕ) → (b ≡ true → is_open end ≡ true) → (b ≡ false → is_end end ≡ true) → HasEnd b end
has_end_at b None h g = grind arith
has_end_at b (Some second) h g = grind arith

-- the k-th activity has no end if it is the last one, and else it has one
ends_planned : (acts : List Act) (k : ℕ) → are_acts acts ≡ true → k < length acts → EndsAsPlanned acts k
unfolding are_acts
ends_planned [] k h lt = absurd (omega arith)
ends_planned (a ∷ []) zero h lt = has_end_at true a.end (λ e. h) (λ e. absurd (cc))
ends_planned (a ∷ []) (suc k) h lt = absurd (omega arith)
ends_planned (a ∷ b ∷ acts) zero h lt = has_end_at _ a.end (λ e. grind (arith, nat_tests)) (λ e. (and_parts (has_end a) (are_acts (b ∷ acts)) h).0)
ends_planned (a ∷ b ∷ acts) (suc k) h lt =
    let e : (suc k + 1 == suc (suc (length acts))) ≡ (k + 1 == suc (length acts)) = grind (arith, nat_tests) in
    rw e (ends_planned (b ∷ acts) k (and_parts (has_end a) (are_acts (b ∷ acts)) h).1 (omega arith))

leg_sound : (T : TownRows) (here there : ℕ) (x : Leg) → leg_fits T here there x ≡ true → HasRoute x
unfolding leg_fits
leg_sound T here there (leg.Car route) h = grind (arith, nat_tests)
leg_sound T here there _ h = tt

legs_sound : (T : TownRows) (acts : List Act) (legs : List Leg) → legs_fit T acts legs ≡ true → Each HasRoute legs
unfolding legs_fit
legs_sound T acts [] h = tt
legs_sound T [] (x ∷ legs) h = absurd (cc)
legs_sound T (a ∷ acts) (x ∷ legs) h = let b = and_parts (leg_fits T a.link _ x) (legs_fit T acts legs) h in (leg_sound T a.link _ x b.0, legs_sound T acts legs b.1)

pub plan_sound : (T : TownRows) (p : PlanRows) → IsPlanIn T p → IsSoundPlan p
unfolding fits
plan_sound T p h =
    record {
      one_more = h.one_more;
      ends = λ k lt. ends_planned p.acts k h.ends lt;
      legs = All-from_recursion HasRoute p.legs (legs_sound T p.acts p.legs (and_parts (list_all (is_act_in T) p.acts) _ h.fit).1);
    }

-- FROM ACTIVITY TO ACTIVITY
-- in a setup with the stops of the town
abbrev pub AtStops : Setup → List StopRow → Type 0
AtStops S stops = (n : ℕ) → link_of_stop S n ≡ stop_link stops n

leg_leads : (S : Setup) (T : TownRows) → AtStops S T.stops → (here there : ℕ) (x : Leg) → leg_fits T here there x ≡ true → is_leg x ≡ true → LeadsFrom S here there x
unfolding leg_fits has_wrong_ends has_wrong_stops
leg_leads S T s here there (leg.Car route) h l = (grind (arith, nat_tests), grind (arith, nat_tests))
leg_leads S T s here there (leg.Teleport mode seconds) h l = grind (arith, nat_tests)
leg_leads S T s here there (leg.Transit line access egress) h l = (grind (arith, nat_tests, s access), grind (arith, nat_tests, s egress))

legs_lead : (S : Setup) (T : TownRows) → AtStops S T.stops → (acts : List Act) (legs : List Leg) (k : ℕ) → legs_fit T acts legs ≡ true → list_all is_leg legs ≡ true → length acts ≡ length legs + 1 → k < length legs →
    LeadsFrom S (link_of_act acts k) (link_of_act acts (suc k)) (get_or legs k (leg.Car []))
unfolding legs_fit
legs_lead S T s (a ∷ b ∷ acts) (x ∷ legs) zero h l n lt =
    leg_leads S T s a.link b.link x (and_parts (leg_fits T a.link b.link x) (legs_fit T (b ∷ acts) legs) h).0 (and_parts (is_leg x) (list_all is_leg legs) l).0
legs_lead S T s (a ∷ b ∷ acts) (x ∷ legs) (suc k) h l n lt =
    legs_lead S T s (b ∷ acts) legs k (and_parts (leg_fits T a.link b.link x) (legs_fit T (b ∷ acts) legs) h).1 (and_parts (is_leg x) (list_all is_leg legs) l).1 (omega arith) (omega arith)
legs_lead S T s _ _ k h l n lt = absurd (omega arith)

pub plan_consistent : (S : Setup) (T : TownRows) → AtStops S T.stops → (p : PlanRows) → IsPlanIn T p → IsConsistentPlan S p
unfolding fits
plan_consistent S T s p h = λ k lt.
    let next : k + 1 ≡ suc k = omega arith in
    rw next (legs_lead S T s p.acts p.legs k (and_parts (list_all (is_act_in T) p.acts) (legs_fit T p.acts p.legs) h.fit).1 h.legs h.one_more lt)
