-- A sound world, with everybody in one place, is one in which all is sound person by person; so it stays sound.
use Rattle.traffic.proofs.Common.{◌≡◌, ℕ, List, length, ap, refl, sym, [], ◌∷◌, arith, ◌<◌, inl, inr, subst, ◌≤◌, get_or, drop, ◌/◌, cases_lt, get_or_past}
use Rattle.traffic.proofs.Common.{get_or-map, All-from_recursion, recursion_from_All, All-nil, None, Phase, VehicleId, PlanRows, Act, Leg, first_end, world_at}
use Rattle.traffic.proofs.Common.{world_start, through, phases, second, at_home, World, person_of, nobody, Setup, act_after, leg_at, person_plan, VehicleState}
use Rattle.traffic.proofs.Common.{IsOnLine, leg_of, IsSoundPerson, HasLeg, IsOwn, OnePlace, IsAlong, Sound, HasRiders, IsSoundRow}
use Rattle.traffic.proofs.{Each.each_weaker, Each.each_both, Walks.seconds_keep}
use Rattle.traffic.specs.declared.{riders.Rider.Rider, world.Place.TheVariants.At, world.Row.Row}
use Rattle.std.specs.List.{AllByRecursion as Each}
use Rattle.events.specs.declared.event.VehicleId.TheVariants as vehicle
use Rattle.rows.specs.declared.plan.Leg.TheVariants as leg
use Rattle.law_one_place.proofs.Turns.{start_kept}
use Rattle.law_sound_setups.proofs.Fine.{Good, IsAlone, IsPlain, IsServed, IsBy, Fits, Carries, Rows}
use Rattle.law_sound_setups.{proofs.Steps.plan_sound, proofs.Turns.through_good, specs.Setups.IsSoundSetup}

-- ROWS THAT ARE SOUND
-- a person who is not there has no leg to ride on
way_none : (S : Setup) (i e : ℕ) → length S.persons ≤ i → leg_at S i e ≡ leg.Car []
way_none S i e ge = ap (λ (plan : PlanRows). get_or plan.legs (e / 2) (leg.Car [])) (get_or_past S.persons i _ ge)

alone_of : (S : Setup) (W : World) (v : VehicleState) (id : VehicleId) → HasRiders S W v id → IsAlone id v.riders
alone_of S W v (vehicle.Car i) h = (h.0, recursion_from_All (λ (x : Rider). x.person ≡ i) v.riders h.1)
alone_of S W v (vehicle.Transit d) h = tt

all_there : (S : Setup) (W : World) (v : VehicleState) (id : VehicleId) → IsOwn S v id → HasRiders S W v id → Each (λ (x : Rider). x.person < length S.persons) v.riders
all_there S W v (vehicle.Car i) own h =
    each_weaker (λ (x : Rider). x.person ≡ i) _ (λ x q. rw q own.there) v.riders (recursion_from_All (λ (x : Rider). x.person ≡ i) v.riders h.1)
all_there S W v (vehicle.Transit d) own h =
    each_weaker (λ (x : Rider). IsOnLine v (leg_of S W x.person)) _ (λ x g. elim (cases_lt x.person (length S.persons)) [ inl lt ↦ lt | inr ge ↦ absurd (subst (IsOnLine v) (way_none S x.person _ ge) g) ]) v.riders
    (recursion_from_All (λ (x : Rider). IsOnLine v (leg_of S W x.person)) v.riders h)

row_plain : (S : Setup) (W : World) (r : Row) → IsSoundRow S W r → IsPlain S r.stage r.link r.vehicle
row_plain S W r h =
    let v = r.vehicle in
    record { own = h.own; stage = h.stage; place = h.place; link = h.link; calls = h.calls; alone = alone_of S W v v.id h.riders; riders = all_there S W v v.id h.own h.riders }

served_on : (v : VehicleState) (w : Leg) →
    (IsOnLine v w → IsServed v.line (drop v.served v.calls) w) × (IsServed v.line (drop v.served v.calls) w → IsOnLine v w)
served_on v (leg.Transit line access egress) = ((λ h. h), (λ h. h))
served_on v _ = ((λ h. h), (λ h. h))

-- each rider's leg is one that the vehicle makes
abbrev AllBy : Setup → World → VehicleState → VehicleId → Type 0
AllBy S W v id = Each (λ (x : Rider). IsBy v.route v.line (drop v.served v.calls) id (leg_of S W x.person)) v.riders

by_riders : (S : Setup) (W : World) (v : VehicleState) (id : VehicleId) → HasRiders S W v id → AllBy S W v id
by_riders S W v (vehicle.Car i) h = each_weaker (λ (x : Rider). x.person ≡ i) _ (λ x q. subst (λ (k : ℕ). IsAlong v.route (leg_of S W k)) (sym q) h.2) v.riders (recursion_from_All (λ (x : Rider). x.person ≡ i) v.riders h.1)
by_riders S W v (vehicle.Transit d) h =
    each_weaker (λ (x : Rider). IsOnLine v (leg_of S W x.person)) _ (λ x. (served_on v (leg_of S W x.person)).0) v.riders (recursion_from_All (λ (x : Rider). IsOnLine v (leg_of S W x.person)) v.riders h)

along : (S : Setup) (W : World) (i : ℕ) (route : List ℕ) (rs : List Rider) → length rs ≡ 1 → Each (λ (x : Rider). x.person ≡ i) rs → Each (λ (x : Rider). IsAlong route (leg_of S W x.person)) rs → IsAlong route (leg_of S W i)
along S W i route [] e h g = absurd (omega arith)
along S W i route (x ∷ xs) e h g = subst (λ (k : ℕ). IsAlong route (leg_of S W k)) h.0 g.0

riders_by : (S : Setup) (W : World) (v : VehicleState) (id : VehicleId) → IsAlone id v.riders → AllBy S W v id → HasRiders S W v id
riders_by S W v (vehicle.Car i) c h = (c.0, All-from_recursion (λ (x : Rider). x.person ≡ i) v.riders c.1, along S W i v.route v.riders c.0 c.1 h)
riders_by S W v (vehicle.Transit d) c h =
    All-from_recursion (λ (x : Rider). IsOnLine v (leg_of S W x.person)) v.riders (each_weaker (λ (x : Rider). IsServed v.line (drop v.served v.calls) (leg_of S W x.person)) _ (λ x. (served_on v (leg_of S W x.person)).1) v.riders h)

-- a rider's leg, by the rows of all persons
abbrev HisLeg : Setup → World → Rider → Type 0
HisLeg S W x = HasLeg x (leg_of S W x.person) (act_after S x.person (person_of x.person W).element)

row_carries : (S : Setup) (W : World) (i : ℕ) (r : Row) → IsSoundRow S W r → Carries S i (person_of i W).element r.vehicle
row_carries S W i r h =
    let v = r.vehicle in
    each_both (HisLeg S W) (λ (x : Rider). IsBy v.route v.line (drop v.served v.calls) v.id (leg_of S W x.person)) _
    (λ x a b q. subst (λ (k : ℕ). HasLeg x (leg_of S W k) (act_after S k (person_of k W).element) × IsBy v.route v.line (drop v.served v.calls) v.id (leg_of S W k)) q (a, b))
    v.riders (recursion_from_All (HisLeg S W) v.riders h.legs) (by_riders S W v v.id h.riders)

each_fits : (S : Setup) (W : World) (v : VehicleState) (rs : List Rider) → ((i : ℕ) → i < length S.persons → Each (Fits S i (person_of i W).element v) rs) → Each (λ (x : Rider). x.person < length S.persons) rs →
    Each (λ (x : Rider). HisLeg S W x × IsBy v.route v.line (drop v.served v.calls) v.id (leg_of S W x.person)) rs
each_fits S W v [] c p = tt
each_fits S W v (x ∷ xs) c p = ((c x.person p.0).0 refl, each_fits S W v xs (λ i lt. (c i lt).1) p.1)

row_sound : (S : Setup) (W : World) (r : Row) → ((i : ℕ) → i < length S.persons → Carries S i (person_of i W).element r.vehicle) → IsPlain S r.stage r.link r.vehicle → IsSoundRow S W r
row_sound S W r c p =
    let v = r.vehicle in
    let fits = each_fits S W v v.riders c p.riders in
    record {
      own = p.own;
      stage = p.stage;
      place = p.place;
      link = p.link;
      calls = p.calls;
      legs = All-from_recursion (HisLeg S W) v.riders (each_weaker _ (HisLeg S W) (λ x g. g.0) v.riders fits);
      riders = riders_by S W v v.id p.alone (each_weaker _ _ (λ x g. g.1) v.riders fits);
    }

rows_sound : (S : Setup) (W : World) (rows : List Row) → ((i : ℕ) → i < length S.persons → Rows (λ s l v. Carries S i (person_of i W).element v) rows) → Rows (IsPlain S) rows → Each (IsSoundRow S W) rows
rows_sound S W [] c p = tt
rows_sound S W (r ∷ rs) c p = (row_sound S W r (λ i lt. (c i lt).0) p.0, rows_sound S W rs (λ i lt. (c i lt).1) p.1)

-- WORLDS THAT ARE SOUND
good_world : (S : Setup) (W : World) → OnePlace S W → Sound S W → Good S W
good_world S W o h =
    let row = o.one_row in
    let rows = recursion_from_All (IsSoundRow S W) W.rows h.rows in
    record {
      each = row;
      good = λ i lt. record { one = record { there = omega arith; listed = o.one_place i lt }; sound = h.persons i lt; carried = each_weaker (IsSoundRow S W) _ (row_carries S W i) W.rows rows };
      plain = each_weaker (IsSoundRow S W) _ (row_plain S W) W.rows rows;
    }

pub sound_world : (S : Setup) (W : World) → Good S W → Sound S W
sound_world S W h = record { persons = λ i lt. (h.good i lt).sound; rows = All-from_recursion (IsSoundRow S W) W.rows (rows_sound S W W.rows (λ i lt. (h.good i lt).carried) h.plain) }

pub second_sound : (S : Setup) (t : ℕ) (W : World) → IsSoundSetup S → OnePlace S W → Sound S W → Sound S (second S t W)
second_sound S t W f o h = sound_world S (second S t W) (through_good S t phases W f (good_world S W o h))

-- DAYS
first_is : (stays : List Act) → 0 < length stays → first_end stays ≡ (get_or stays 0 (record { kind = 0; link = 0; end = None })).end
first_is [] lt = absurd (omega arith)
first_is (s ∷ ss) lt = refl

home_sound : (S : Setup) (i : ℕ) → IsSoundSetup S → i < length S.persons → IsSoundPerson S i 0 (At (first_end (person_plan S i).acts))
home_sound S i f lt =
    let p = plan_sound S i f lt in
    let some : 0 < length (person_plan S i).acts = omega arith in
    ((refl, some), rw (first_is (person_plan S i).acts some) (p.ends 0 some))

pub start_sound : (S : Setup) → IsSoundSetup S → Sound S (world_start S)
unfolding world_start
start_sound S f =
    record { persons = λ i lt. rw (get_or-map at_home S.persons i (record { acts = []; legs = [] }) nobody lt) (home_sound S i f lt); rows = All-nil (IsSoundRow S (world_start S)) }

pub start_good : (S : Setup) → IsSoundSetup S → Good S (world_start S)
unfolding world_start
start_good S f = good_world S (world_start S) (start_kept S) (start_sound S f)

from_good : (S : Setup) (t : ℕ) → IsSoundSetup S → Good S (world_at S t)
from_good S t f = seconds_keep (Good S) S (λ s V g. through_good S s phases V f g) (world_start S) t (start_good S f)

pub day_sound : (S : Setup) (t : ℕ) → IsSoundSetup S → Sound S (world_at S t)
day_sound S t f = sound_world S (world_at S t) (from_good S t f)

-- in the midst of a second, too
pub phases_sound : (S : Setup) (t : ℕ) (ps : List Phase) → IsSoundSetup S → Sound S (through S t ps (world_at S t))
phases_sound S t ps f = sound_world S (through S t ps (world_at S t)) (through_good S t ps (world_at S t) f (from_good S t f))
