-- A world in which all is sound, person by person, and what one move may do to it.
use Rattle.traffic.proofs.Common.{◌≡◌, ℕ, List, ◌∙◌, length, [], ◌∷◌, arith, ◌<◌, true, inl, inr, get_or, drop, ◌⊎◌, slice_get, All-from_recursion, sum_by-cons}
use Rattle.traffic.proofs.Common.{filter, Some, if◌then◌else◌, ◌==◌, VehicleId, StopCall, calls_at, Leg, done, told, at_second, rows_after, World, person_of}
use Rattle.traffic.proofs.Common.{on, nobody, Setup, act_after, leg_at, VehicleState, ahead, listed, IsSoundPerson, nat_tests, listed_in, HasLeg, IsOwn}
use Rattle.traffic.proofs.{Common.IsAlong, Common.AreServable, Common.IsSoundStage, Each.each_append, Each.each_without, Each.each_with_first}
use Rattle.traffic.proofs.Sublists.{at_such, persons-length, person-done}
use Rattle.traffic.specs.declared.moves.Move.{Move, TheVariants.Transfer, TheVariants.Remove, TheVariants.Enter, TheVariants.SetFrontSince}
use Rattle.traffic.specs.declared.{riders.Rider.Rider, stage.Stage.Stage, stage.Stage.TheVariants.Buffer, world.Person.Person, world.Place.Place, world.Row.Row}
use Rattle.std.specs.List.{AllByRecursion as Each}
use Rattle.events.specs.declared.event.VehicleId.TheVariants as vehicle
use Rattle.rows.specs.declared.plan.Leg.TheVariants as leg
use Rattle.law_one_place.proofs.Places.{off_none, id_of, took, brought, IsTaken, among_riders, rides, IsOff, Change, IsInOne, after_move, move_keeps}

-- ROWS
-- a car has its driver alone
abbrev pub IsAlone : VehicleId → List Rider → Type 0
IsAlone (vehicle.Car i) riders = (length riders ≡ 1) × Each (λ (x : Rider). x.person ≡ i) riders
IsAlone (vehicle.Transit d) riders = Unit {0}

-- all of a sound row that is not about its riders' legs
pub record IsPlain (S : Setup) (s : Stage) (l : ℕ) (v : VehicleState) : Type 0 where
  pub own : IsOwn S v v.id
  pub stage : IsSoundStage s v
  pub place : v.place < length v.route
  pub link : l ≡ get_or v.route v.place 0
  pub calls : AreServable (drop v.served v.calls) (ahead s v)
  pub alone : IsAlone v.id v.riders
  pub riders : Each (λ (x : Rider). x.person < length S.persons) v.riders

-- a transit leg by this line, to a stop among these calls
abbrev pub IsServed : ℕ → List StopCall → Leg → Type 0
IsServed line left (leg.Transit n access egress) = (n ≡ line) × (calls_at egress left ≡ true)
IsServed line left _ = ⊥

-- a leg that a car with this route makes, or a transit vehicle of this line with these calls left
abbrev pub IsBy : List ℕ → ℕ → List StopCall → VehicleId → Leg → Type 0
IsBy route line left (vehicle.Car i) w = IsAlong route w
IsBy route line left (vehicle.Transit d) w = IsServed line left w

-- where a rider is person i, he is there on the leg that is this element of his plan
abbrev pub Fits : Setup → ℕ → ℕ → VehicleState → Rider → Type 0
Fits S i e v x = x.person ≡ i → HasLeg x (leg_at S i e) (act_after S i e) × IsBy v.route v.line (drop v.served v.calls) v.id (leg_at S i e)

abbrev pub Carries : Setup → ℕ → ℕ → VehicleState → Type 0
Carries S i e v = Each (Fits S i e v) v.riders

-- the same of each row's stage, link and vehicle
abbrev pub Rows : (Stage → ℕ → VehicleState → Type 0) → List Row → Type 0
Rows Q rows = Each (λ (r : Row). Q r.stage r.link r.vehicle) rows

-- a person by himself: in one place, which is such, and on his leg where he rides
pub record IsGood (R : ℕ → ℕ → Place → Type 0) (S : Setup) (i : ℕ) (rows : List Row) (ps : List Person) : Type 0 where
  pub one : IsInOne i rows ps
  pub sound : R i (get_or ps i nobody).element (get_or ps i nobody).place
  pub carried : Rows (λ s l v. Carries S i (get_or ps i nobody).element v) rows

pub record IsFine (R : ℕ → ℕ → Place → Type 0) (S : Setup) (rows : List Row) (ps : List Person) : Type 0 where
  pub each : length ps ≡ length S.persons
  pub good : (i : ℕ) → i < length S.persons → IsGood R S i rows ps
  pub plain : Rows (IsPlain S) rows

abbrev pub Fine : (ℕ → ℕ → Place → Type 0) → Setup → World → Type 0
Fine R S W = IsFine R S W.rows W.persons

pub fine_weaker : (R T : ℕ → ℕ → Place → Type 0) (S : Setup) (rows : List Row) (ps : List Person) → ((i e : ℕ) (pl : Place) → R i e pl → T i e pl) → IsFine R S rows ps → IsFine T S rows ps
fine_weaker R T S rows ps f h = record { each = h.each; good = λ i lt. let g = h.good i lt in record { one = g.one; sound = f i _ _ g.sound; carried = g.carried }; plain = h.plain }

-- a row that stands in a list
pub found : (Q : Stage → ℕ → VehicleState → Type 0) (l : ℕ) (s : Stage) (k : ℕ) (r : Row) (rows : List Row) → Rows Q rows → slice_get (filter (on l s) rows) k ≡ Some r → Q s l r.vehicle
found Q l s k r rows h e = let f = at_such (λ (x : Row). Q x.stage x.link x.vehicle) l s k r rows (All-from_recursion _ rows h) e in rw (← f.1, ← f.2) f.0

-- ONE MOVE
-- what it brings is such
abbrev pub Brings : (Stage → ℕ → VehicleState → Type 0) → Move → Type 0
Brings Q (Transfer l s k was now) = Q now.stage now.link now.vehicle
Brings Q (Enter now) = Q now.stage now.link now.vehicle
Brings Q _ = Unit {0}

rows_done : (Q : Stage → ℕ → VehicleState → Type 0) (m : Move) (rows : List Row) → Brings Q m → Rows Q rows → Rows Q (rows_after m rows)
rows_done Q (Transfer l s k was now) rows b h = each_append _ _ (now ∷ []) (each_without _ (on l s) k rows h) (b, tt)
rows_done Q (Remove l s k was) rows b h = each_without _ (on l s) k rows h
rows_done Q (Enter now) rows b h = each_append _ rows (now ∷ []) h (b, tt)
rows_done Q (SetFrontSince l t) rows b h = each_with_first (λ (r : Row). Q r.stage r.link r.vehicle) (on l Buffer) (at_second t) (λ r g. g) rows h
rows_done Q _ rows b h = h

-- who is not listed is no rider
nobody_rides : (S : Setup) (i e : ℕ) (v : VehicleState) (rs : List Rider) → among_riders i rs ≡ 0 → Each (Fits S i e v) rs
nobody_rides S i e v [] h = tt
nobody_rides S i e v (x ∷ xs) h =
    let c = sum_by-cons (λ (y : Rider). if y.person == i then 1 else 0) x xs in
    ((λ q. absurd (grind (arith, nat_tests))), nobody_rides S i e v xs (grind arith))

unlisted : (S : Setup) (i e : ℕ) (rows : List Row) → listed i rows ≡ 0 → Rows (λ s l v. Carries S i e v) rows
unlisted S i e [] h = tt
unlisted S i e (r ∷ rs) h = let c = sum_by-cons (listed_in i) r rs in (nobody_rides S i e r.vehicle r.vehicle.riders (omega arith), unlisted S i e rs (omega arith))

-- what it does to person i, who is P before and N after
pub record IsStep (R : ℕ → ℕ → Place → Type 0) (S : Setup) (i : ℕ) (m : Move) (P N : Person) : Type 0 where
  pub change : Change (id_of m) (took (rides i) m) (brought (rides i) m) P.place N.place
  pub sound : R i N.element N.place
  -- he is in no vehicle, or his element is the same
  pub calm : IsOff N.place ⊎ (N.element ≡ P.element)
  pub brings : Brings (λ s l v. Carries S i P.element v) m

good_move : (R T : ℕ → ℕ → Place → Type 0) (S : Setup) (t i : ℕ) (m : Move) (W : World) → IsTaken m W → IsStep T S i m (person_of i W) (after_move S t i m W) → IsGood R S i W.rows W.persons → IsGood T S i (done S t m W).rows (done S t m W).persons
good_move R T S t i m W taken p h =
    let one = move_keeps S t i m W taken p.change h.one in
    let lt = h.one.there in
    let q : person_of i (done S t m W) ≡ after_move S t i m W = person-done S t i m W lt in
    record {
      one = one;
      sound = rw q p.sound;
      carried = elim p.calm [
        | inl o ↦ unlisted S i (person_of i (done S t m W)).element (rows_after m W.rows) (off_none i (rows_after m W.rows) (person_of i (done S t m W)).place (rw q o) one.listed)
        | inr e ↦ rw (q, e) (rows_done (λ s l v. Carries S i (person_of i W).element v) m W.rows p.brings h.carried)
      ];
    }

pub fine_move : (R T : ℕ → ℕ → Place → Type 0) (S : Setup) (t : ℕ) (m : Move) (W : World) → IsTaken m W → Brings (IsPlain S) m → ((i : ℕ) → i < length S.persons → IsGood R S i W.rows W.persons → IsStep T S i m (person_of i W) (after_move S t i m W)) → Fine R S W → Fine T S (done S t m W)
fine_move R T S t m W taken b f h =
    record {
      each = persons-length S t (told m) W.persons ∙ h.each;
      good = λ i lt. let g = h.good i lt in good_move R T S t i m W taken (f i lt g) g;
      plain = rows_done (IsPlain S) m W.rows b h.plain;
    }

-- WORLDS IN WHICH ALL IS SOUND
abbrev pub Good : Setup → World → Type 0
Good S W = Fine (IsSoundPerson S) S W
