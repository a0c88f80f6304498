-- One person's place against the rows that list him, and what one move may do to both.
use Rattle.traffic.proofs.Common.{◌≡◌, ℕ, List, ◌∙◌, length, ap, refl, sym, [], ◌∷◌, arith, ◌<◌, true, ◌+◌, Bool, subst, ◌≤◌, suc, zero, get_or, slice_get}
use Rattle.traffic.proofs.Common.{eq-eqb, sum_by_push, sum_by-le-sum_by, sum_by-cons, sum_by, map, filter, Some, if◌then◌else◌, ◌==◌, count_by, VehicleId}
use Rattle.traffic.proofs.Common.{without, with_first, done, told, person_after_all, at_second, rows_after, same_vehicle, World, person_of, at, on, nobody}
use Rattle.traffic.proofs.Common.{Setup, VehicleState, listed, IsListed, listed_in, rows_of}
use Rattle.traffic.specs.declared.moves.Move.{Move, TheVariants.Transfer, TheVariants.Remove, TheVariants.Enter, TheVariants.SetFrontSince}
use Rattle.traffic.specs.declared.{riders.Rider.Rider, stage.Stage.Stage, stage.Stage.TheVariants.Buffer, world.Person.Person, world.Place.Place}
use Rattle.traffic.{specs.declared.world.Place.TheVariants.Riding, specs.declared.world.Row.Row, proofs.Sublists.persons-length, proofs.Sublists.person-done}
use Rattle.std.{proofs.lemmas.Option.slice_get-map, specs.Prelude.option_map}
use Rattle.events.specs.declared.event.VehicleId.TheVariants as vehicle

-- SUMS OVER ALL ROWS
abbrev pub vehicle_of : Row → VehicleState
vehicle_of r = r.vehicle

-- the vehicles of a queue, a buffer, a wait list or a bay
abbrev pub vehicles : ℕ → Stage → World → List VehicleState
vehicles l s W = map vehicle_of (at l s W)

pub stands : (l : ℕ) (s : Stage) (k : ℕ) (r : Row) (W : World) → slice_get (at l s W) k ≡ Some r → slice_get (vehicles l s W) k ≡ Some r.vehicle
stands l s k r W e = slice_get-map vehicle_of (at l s W) k ∙ ap (option_map vehicle_of) e

-- a number of each vehicle, summed
abbrev pub weight : (VehicleState → ℕ) → List Row → ℕ
weight g rows = sum_by (λ (r : Row). g r.vehicle) rows

weight-cons : (g : VehicleState → ℕ) (x : Row) (xs : List Row) → weight g (x ∷ xs) ≡ g x.vehicle + weight g xs
weight-cons g x xs = sum_by-cons (λ (r : Row). g r.vehicle) x xs

pub weight-without : (g : VehicleState → ℕ) (p : Row → Bool) (k : ℕ) (v : VehicleState) (xs : List Row) → slice_get (map vehicle_of (filter p xs)) k ≡ Some v → weight g (without p k xs) + g v ≡ weight g xs
weight-without g p k v [] h = absurd (cc)
weight-without g p zero v (x ∷ xs) h = grind (arith, ap g, weight-cons g x xs, weight-cons g x (without p zero xs), weight-without g p zero v xs)
weight-without g p (suc k) v (x ∷ xs) h = grind (arith, weight-cons g x xs, weight-cons g x (without p k xs), weight-cons g x (without p (suc k) xs), weight-without g p k v xs, weight-without g p (suc k) v xs)

weight-marked : (g : VehicleState → ℕ) (t : ℕ) (p : Row → Bool) (xs : List Row) → weight g (with_first p (at_second t) xs) ≡ weight g xs
weight-marked g t p [] = refl
weight-marked g t p (x ∷ xs) = grind (arith, weight-cons g x xs, weight-cons g (at_second t x) xs, weight-cons g x (with_first p (at_second t) xs), weight-marked g t p xs)

-- the vehicle of a move, and the numbers that it takes out and puts in
abbrev pub id_of : Move → VehicleId
id_of (Transfer l s k was now) = was.vehicle.id
id_of (Remove l s k was) = was.vehicle.id
id_of (Enter now) = now.vehicle.id
id_of _ = vehicle.Transit 0

abbrev pub took : (VehicleState → ℕ) → Move → ℕ
took g (Transfer l s k was now) = g was.vehicle
took g (Remove l s k was) = g was.vehicle
took g _ = 0

abbrev pub brought : (VehicleState → ℕ) → Move → ℕ
brought g (Transfer l s k was now) = g now.vehicle
brought g (Enter now) = g now.vehicle
brought g _ = 0

-- what a move takes stands where it says, and stays the same vehicle
abbrev pub IsTaken : Move → World → Type 0
IsTaken (Transfer l s k was now) W = (slice_get (vehicles l s W) k ≡ Some was.vehicle) × (now.vehicle.id ≡ was.vehicle.id)
IsTaken (Remove l s k was) W = slice_get (vehicles l s W) k ≡ Some was.vehicle
IsTaken _ W = Unit {0}

pub weighed : (g : VehicleState → ℕ) (m : Move) (W : World) → IsTaken m W → weight g (rows_after m W.rows) + took g m ≡ weight g W.rows + brought g m
weighed g (Transfer l s k was now) W h =
    omega (arith, weight-without g (on l s) k was.vehicle W.rows h.0, sum_by_push (λ (r : Row). g r.vehicle) (without (on l s) k W.rows) now)
weighed g (Remove l s k was) W h = let a = weight-without g (on l s) k was.vehicle W.rows h in omega arith
weighed g (Enter now) W h = let a = sum_by_push (λ (r : Row). g r.vehicle) W.rows now in omega arith
weighed g (SetFrontSince l t) W h = let a = weight-marked g t (on l Buffer) W.rows in omega arith
weighed g _ W h = refl

-- RIDERS
-- how often riders are a person, and how often a vehicle lists him
abbrev pub among_riders : ℕ → List Rider → ℕ
among_riders i rs = count_by (λ (x : Rider). x.person == i) rs

abbrev pub rides : ℕ → VehicleState → ℕ
rides i v = among_riders i v.riders

-- a number of vehicle id, where it is vehicle u
abbrev pub counted : VehicleId → VehicleId → ℕ → ℕ
counted id u n = if same_vehicle id u then n else 0

abbrev pub rides_in : VehicleId → ℕ → VehicleState → ℕ
rides_in u i v = counted v.id u (rides i v)

pub same_either : {X : Type 0} (b : Bool) (x : X) → (if b then x else x) ≡ x
same_either b x = grind arith

same_self : (v : VehicleId) → same_vehicle v v ≡ true
same_self (vehicle.Car i) = eq-eqb i i refl
same_self (vehicle.Transit d) = eq-eqb d d refl

-- the rows of one vehicle
pub listed-rows_of : (u : VehicleId) (i : ℕ) (rows : List Row) → listed i (rows_of u rows) ≡ weight (rides_in u i) rows
listed-rows_of u i [] = refl
listed-rows_of u i (x ∷ xs) = grind (arith, listed-rows_of u i xs, weight-cons (rides_in u i) x xs, sum_by-cons (listed_in i) x (rows_of u xs))

pub part_le : (b : Bool) (n : ℕ) → (if b then n else 0) ≤ n
part_le b n = grind arith

pub listed_part : (u : VehicleId) (i : ℕ) (rows : List Row) → listed i (rows_of u rows) ≤ listed i rows
listed_part u i rows =
    let a = listed-rows_of u i rows in
    omega (arith, sum_by-le-sum_by (λ (r : Row). rides_in u i r.vehicle) (listed_in i) rows (λ r. part_le (same_vehicle r.vehicle.id u) (rides i r.vehicle)))

took_in : (u : VehicleId) (i : ℕ) (m : Move) → took (rides_in u i) m ≡ counted (id_of m) u (took (rides i) m)
took_in u i (Transfer l s k was now) = refl
took_in u i (Remove l s k was) = refl
took_in u i m = sym (same_either (same_vehicle (id_of m) u) 0)

brought_in : (u : VehicleId) (i : ℕ) (m : Move) (W : World) → IsTaken m W → brought (rides_in u i) m ≡ counted (id_of m) u (brought (rides i) m)
brought_in u i (Transfer l s k was now) W h = ap (λ (x : VehicleId). counted x u (rides i now.vehicle)) h.1
brought_in u i (Enter now) W h = refl
brought_in u i m W h = sym (same_either (same_vehicle (id_of m) u) 0)

-- ONE PERSON
-- in no vehicle
abbrev pub IsOff : Place → Type 0
IsOff (Riding v) = ⊥
IsOff _ = Unit {0}

-- Of a person who is listed a times in a row of this vehicle before, and b times after: he stays where he is, he leaves it, he
-- goes from one place outside to another, or he gets in.
pub data Change (id : VehicleId) (a b : ℕ) (was now : Place) : Type 0 where
  Stays : b ≡ a → now ≡ was → Change id a b was now
  Leaves : 1 ≤ a → b ≡ 0 → IsOff now → Change id a b was now
  Walks : b ≡ a → IsOff was → IsOff now → Change id a b was now
  Enters : a ≡ 0 → b ≡ 1 → IsOff was → now ≡ Riding id → Change id a b was now

pub off_none : (i : ℕ) (rows : List Row) (pl : Place) → IsOff pl → IsListed i rows pl → listed i rows ≡ 0
off_none i rows (Riding v) o h = absurd o
off_none i rows _ o h = h

none_off : (i : ℕ) (rows : List Row) (pl : Place) → IsOff pl → listed i rows ≡ 0 → IsListed i rows pl
none_off i rows (Riding v) o h = absurd o
none_off i rows _ o h = h

pub listed_once : (i : ℕ) (rows : List Row) (pl : Place) → IsListed i rows pl → listed i rows ≤ 1
listed_once i rows (Riding v) h = let e = h.0 in omega arith
listed_once i rows _ h = omega arith

same_listed : (i : ℕ) (rows after : List Row) (pl : Place) → listed i after ≡ listed i rows → ((u : VehicleId) → listed i (rows_of u after) ≡ listed i (rows_of u rows)) → IsListed i rows pl → IsListed i after pl
same_listed i rows after (Riding v) e f h = (e ∙ h.0, f v ∙ h.1)
same_listed i rows after _ e f h = e ∙ h

-- who gets in is listed in that vehicle
entered : (i : ℕ) (rows after : List Row) (id : VehicleId) → listed i rows ≡ 0 → listed i after ≡ 1 → listed i (rows_of id after) + counted id id 0 ≡ listed i (rows_of id rows) + counted id id 1 → IsListed i after (Riding id)
entered i rows after id e f g =
    let s = same_self id in
    (f, omega (arith, simp s at g, listed_part id i rows))

changed : (i : ℕ) (rows after : List Row) (id : VehicleId) (a b : ℕ) (was now : Place) → listed i after + a ≡ listed i rows + b → ((u : VehicleId) → listed i (rows_of u after) + counted id u a ≡ listed i (rows_of u rows) + counted id u b) →
    Change id a b was now → IsListed i rows was → IsListed i after now
changed i rows after id a b was now e f (Stays q p) h =
    rw p (same_listed i rows after was (omega arith) (λ u. let g = f u in let k : counted id u b ≡ counted id u a = ap (counted id u) q in omega arith) h)
changed i rows after id a b was now e f (Leaves q p o) h = let n = listed_once i rows was h in none_off i after now o (omega arith)
changed i rows after id a b was now e f (Walks q o p) h = let n = off_none i rows was o h in none_off i after now p (omega arith)
changed i rows after id a b was now e f (Enters q p o r) h =
    let n = off_none i rows was o h in
    let g = subst (λ (x : ℕ). listed i (rows_of id after) + counted id id x ≡ listed i (rows_of id rows) + counted id id 1) q (subst (λ (x : ℕ). listed i (rows_of id after) + counted id id a ≡ listed i (rows_of id rows) + counted id id x) p (f id)) in
    rw r (entered i rows after id n (omega arith) g)

-- a person is in one place, by these rows of vehicles and of persons
pub record IsInOne (i : ℕ) (rows : List Row) (ps : List Person) : Type 0 where
  pub there : i < length ps
  pub listed : IsListed i rows (get_or ps i nobody).place

abbrev pub InOne : ℕ → World → Type 0
InOne i W = IsInOne i W.rows W.persons

-- his row after a move
abbrev pub after_move : Setup → ℕ → ℕ → Move → World → Person
after_move S t i m W = person_after_all S t i (told m) (person_of i W)

-- ONE MOVE keeps him in one place, if it takes what it says, and what it tells is what it does
pub move_keeps : (S : Setup) (t i : ℕ) (m : Move) (W : World) → IsTaken m W → Change (id_of m) (took (rides i) m) (brought (rides i) m) (person_of i W).place (after_move S t i m W).place → InOne i W → InOne i (done S t m W)
move_keeps S t i m W taken c h =
    let q = persons-length S t (told m) W.persons in
    let lt = h.there in
    let by : (u : VehicleId) → listed i (rows_of u (rows_after m W.rows)) + counted (id_of m) u (took (rides i) m) ≡ listed i (rows_of u W.rows) + counted (id_of m) u (brought (rides i) m) =
    λ u. let a = weighed (rides_in u i) m W taken in let b = took_in u i m in let d = brought_in u i m W taken in let e = listed-rows_of u i W.rows in let f = listed-rows_of u i (rows_after m W.rows) in omega arith in
    record { there = omega arith; listed = rw (person-done S t i m W lt) (changed i W.rows (rows_after m W.rows) (id_of m) (took (rides i) m) (brought (rides i) m) (person_of i W).place (after_move S t i m W).place (weighed (rides i) m W taken) by c h.listed) }

-- a row of a list has one rider of a person at most, and none of who is in no vehicle
pub rides_few : (i l : ℕ) (s : Stage) (k : ℕ) (r : Row) (W : World) → slice_get (vehicles l s W) k ≡ Some r.vehicle → InOne i W → (rides i r.vehicle ≤ 1) × (IsOff (person_of i W).place → rides i r.vehicle ≡ 0)
rides_few i l s k r W stands h =
    let a : weight (rides i) (without (on l s) k W.rows) + rides i r.vehicle ≡ listed i W.rows = weight-without (rides i) (on l s) k r.vehicle W.rows stands in
    let b = listed_once i W.rows (person_of i W).place h.listed in
    (omega arith, λ o. let d = off_none i W.rows (person_of i W).place o h.listed in omega arith)
