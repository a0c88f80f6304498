-- Plans whose activities end at other seconds are plans of the town where they were.
use Rattle.std.proofs.Common.{◌≡◌, ℕ, ◌+◌, ◌≤◌, Bool, ◌&&◌, List, [], ◌∷◌, map, refl, ◌∙◌, ap, arith}
use Rattle.std.specs.List.{list_all, enumerate_from}
use Rattle.limits.specs.declared.TheConstants.{LAST_SECOND}
use Rattle.draws.specs.Words.{Source}
use Rattle.rows.specs.{PlanRows.PlanRows, declared.plan.Act.Act, declared.plan.Leg.Leg}
use Rattle.town.specs.{Fits.is_act_in, Fits.leg_fits, Fits.first_link, Fits.legs_fit, Fits.fits, Rows.TownRows}
use Rattle.replanning.{proofs.Moved.moved_are_acts, proofs.Moved.moved_count, specs.Acts.moved_act, specs.Acts.moved_acts, specs.Acts.mutated_plan}
use Rattle.law_in_range.specs.Setups.{IsPlanIn}

module _ (T : TownRows) (range end : ℕ) (words : Source) where
  same_acts : (k : ℕ) (acts : List Act) → list_all (is_act_in T) (map (moved_act range end words) (enumerate_from k acts))
      ≡ list_all (is_act_in T) acts
  same_acts k [] = refl
  same_acts k (act ∷ acts) = ap (λ (b : Bool). is_act_in T act && b) (same_acts (k + 1) acts)

  same_first : (k : ℕ) (acts : List Act) → first_link (map (moved_act range end words) (enumerate_from k acts)) ≡ first_link acts
  same_first k [] = refl
  same_first k (act ∷ acts) = refl

  same_legs : (k : ℕ) (acts : List Act) (legs : List Leg) → legs_fit T (map (moved_act range end words) (enumerate_from k acts)) legs
      ≡ legs_fit T acts legs
  unfolding legs_fit
  same_legs k acts [] = refl
  same_legs k [] (leg ∷ legs) = refl
  same_legs k (act ∷ acts) (leg ∷ legs) =
      ap (λ (l : ℕ). leg_fits T act.link l leg && legs_fit T (map (moved_act range end words) (enumerate_from (k + 1) acts)) legs)
      (same_first (k + 1) acts)
      ∙ ap (λ (b : Bool). leg_fits T act.link (first_link acts) leg && b) (same_legs (k + 1) acts legs)

  pub mutated_fits : (plan : PlanRows) → fits T (mutated_plan range end words plan) ≡ fits T plan
  unfolding fits moved_acts
  mutated_fits plan =
      ap (λ (b : Bool). b && legs_fit T (map (moved_act range end words) (enumerate_from 0 plan.acts)) plan.legs) (same_acts 0 plan.acts)
      ∙ ap (λ (b : Bool). list_all (is_act_in T) plan.acts && b) (same_legs 0 plan.acts plan.legs)

  pub mutated_in : end ≤ LAST_SECOND → (plan : PlanRows) → IsPlanIn T plan → IsPlanIn T (mutated_plan range end words plan)
  mutated_in within plan own =
      let count = moved_count range end words plan.acts in
      let more = own.one_more in
      record {
        one_more = omega arith;
        few = own.few;
        ends = moved_are_acts range end words within plan.acts own.ends;
        legs = own.legs;
        fit = mutated_fits plan ∙ own.fit;
      }
