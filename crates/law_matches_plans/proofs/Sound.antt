-- In a sound and consistent setup the events of a person's trips name the links of his activities.
use Rattle.traffic.proofs.Common.{◌≡◌, ℕ, List, ◌∙◌, length, ap, refl, sym, [], ◌∷◌, arith, ◌<◌, true, ◌+◌, inl, inr, subst, ◌≤◌, ◌/◌, cases_lt, eq-eqb}
use Rattle.traffic.proofs.Common.{get_or_past, Some, None, Option, ◌==◌, ◌%◌, Act, link_turns, World, person_of, at, Setup, act_at, person_plan, next_call}
use Rattle.traffic.{proofs.Common.alighting, proofs.Common.staying, proofs.Common.HasEnd, proofs.Moments.along_weaker, specs.declared.world.Row.Row}
use Rattle.std.specs.List.{AllByRecursion as Each}
use Rattle.law_one_place.proofs.{Boarding.riders_are, Places.among_riders, Places.rides}
use Rattle.law_sound_setups.proofs.Alighting.{all_alight, all_odd}
use Rattle.law_sound_setups.proofs.{Fine.Good as IsGoodWorld, Laws.sound_world, Laws.start_good, Links.link_keeps, Steps.plan_sound, Turns.turn_good}
use Rattle.law_sound_setups.specs.{Alighting.AlightAll, Consistent.IsConsistentSetup, Setups.IsSoundSetup}
use Rattle.law_matches_plans.proofs.{Days.Keeps, Days.HasDay, Days.has_day, Turns.AlightsAt, Turns.MayAlight}
use Rattle.law_matches_plans.specs.Trips.{at_activities, act, IsPlanned}

-- PLANS
ends_not : (end : Option ℕ) → HasEnd true end → end ≡ None
ends_not None h = refl
ends_not (Some second) h = absurd (cc)

-- no activity of a sound plan ends but one that a leg comes after
pub sound_planned : (S : Setup) (i : ℕ) → IsSoundSetup S → i < length S.persons → IsPlanned S i
sound_planned S i f lt =
    let p = plan_sound S i f lt in
    let n = length (person_plan S i).acts in
    record {
      last = λ k le. elim (cases_lt k n) [
        | inl few ↦ let e : (k + 1 == n) ≡ true = eq-eqb (k + 1) n (omega arith) in ends_not (act S i k).end (subst (λ b. HasEnd b (act S i k).end) e (p.ends k few))
        | inr ge ↦ ap (λ (s : Act). s.end) (get_or_past (person_plan S i).acts k _ ge)
      ];
    }

-- ALIGHTING
-- the link of the activity after a leg
next_link : (S : Setup) (i e l : ℕ) → e % 2 ≡ 1 → (act_at S i (e + 1)).link ≡ l → Some l ≡ Some (act S i (e / 2 + 1)).link
next_link S i e l odd h = let half : (e + 1) / 2 ≡ e / 2 + 1 = omega arith in ap Some (sym h ∙ ap (λ (k : ℕ). (act S i k).link) half)

rows_at : (S : Setup) (i l e : ℕ) (rows : List Row) → AlightAll S l i e rows → Each (λ (r : Row). 1 ≤ rides i r.vehicle → e % 2 ≡ 1) rows → Each (λ (r : Row). AlightsAt (at_activities S i) i l e r.vehicle) rows
rows_at S i l e [] h g = tt
rows_at S i l e (r ∷ rs) h g =
    let v = r.vehicle in
    let part : among_riders i (alighting (next_call v).stop v.riders) + among_riders i (staying (next_call v).stop v.riders) ≡ rides i v = riders_are i (next_call v).stop v.riders in (
      ((λ on some. next_link S i e l (g.0 (omega arith)) (h.0.0 on some)), (λ off last some. next_link S i e l (g.0 some) (h.0.1 off last some))),
      rows_at S i l e rs h.1 g.1,
    )

may_alight : (S : Setup) (i : ℕ) (W : World) → IsConsistentSetup S → i < length S.persons → IsGoodWorld S W → MayAlight (at_activities S i) i W
may_alight S i W consistent lt g l s =
    let sound = sound_world S W g in
    let listed = (g.good i lt).one.listed in
    rows_at S i l (person_of i W).element (at l s W) (all_alight S i W consistent sound listed lt l s) (all_odd S i W consistent sound listed lt l s)

keeps : (S : Setup) (i : ℕ) → IsSoundSetup S → IsConsistentSetup S → i < length S.persons → Keeps (at_activities S i) S i (IsGoodWorld S)
keeps S i f consistent lt =
    record {
      plan = record { planned = sound_planned S i f lt; at_own = λ k. refl };
      start = start_good S f;
      turn = λ t n p W few g. turn_good S t n p W f few g;
      alight = λ t l W few g. along_weaker (λ V m. IsGoodWorld S V) (λ V m. MayAlight (at_activities S i) i V) (λ V m k. may_alight S i V consistent lt k) S t (link_turns S t l W) W (link_keeps S t l W f g).0;
    }

pub has_sound_day : (S : Setup) (i : ℕ) → IsSoundSetup S → IsConsistentSetup S → i < length S.persons → HasDay (at_activities S i) S i
has_sound_day S i f consistent lt = has_day (at_activities S i) S i (IsGoodWorld S) (keeps S i f consistent lt) lt
