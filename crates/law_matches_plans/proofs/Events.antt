-- What events do to one person: the steps that they tell, how much of his day they use up, and where they leave him.
use Rattle.traffic.proofs.Common.{◌≡◌, ℕ, List, ◌∙◌, length, ap, refl, sym, [], ◌∷◌, arith, ◌<◌, true, ◌++◌, ◌+◌, Bool, inl, inr, subst, ◌≤◌, false, eqb, ◌-◌}
use Rattle.traffic.proofs.Common.{◌≢◌, append_assoc, ◌/◌, ◌⊎◌, ◌*◌, cases_Bool, eq-eqb, map-append, All-head, All-tail, filter-append, All-nil, All-cons}
use Rattle.traffic.proofs.Common.{sum_by-le-sum_by, sum_by-cons, flat_map, map, filter, Some, None, not, Option, ◌&&◌, if◌then◌else◌, All, ◌==◌, count_by, Mode}
use Rattle.traffic.proofs.Common.{VehicleId, Act, Leg, person_after_all, person_after, told_of, ends_at, departs, lands, mode_of_leg, Setup, act_at, told_to}
use Rattle.traffic.proofs.Common.{told_transfer, told_removal, of_rider, mode_in, arrives, enters, leaves, starts, strands, of_driver, of_person, nat_tests}
use Rattle.traffic.proofs.{Each.each_kept, Each.each_weaker, LeftBehind.serving_stage, LeftBehind.after-append, Waiting.Calm, Waiting.Calm_word}
use Rattle.traffic.specs.declared.{moves.Occurrence.Occurrence, riders.Rider.Rider, world.Person.Person, world.Place.Place, world.Place.TheVariants.At}
use Rattle.traffic.specs.declared.world.{Place.TheVariants.Teleporting, Place.TheVariants.Waiting, Place.TheVariants.Riding, Place.TheVariants.Aborted, Row.Row}
use Rattle.std.{proofs.lemmas.List.length-append, proofs.lemmas.List.nil_from_length, specs.List.AllByRecursion as Each}
use Rattle.events.specs.{Persons.names, Persons.is_step, declared.event.VehicleId.TheVariants.Car, declared.event.VehicleId.TheVariants.Transit}
use Rattle.events.specs.declared.event.Mode.TheVariants as mode
use Rattle.events.specs.declared.event.More.TheVariants as more
use Rattle.events.specs.declared.event.Word.TheVariants as word
use Rattle.law_one_place.proofs.Places.{among_riders, rides}
use Rattle.law_matches_plans.specs.Trips.{act, leg, legs, IsPlanned, Step, Places, Departs, Arrives, IsStuck, InTurn}

pub half_two : (e : ℕ) → (e + 2) / 2 ≡ e / 2 + 1
half_two e = omega arith

-- EVENTS OF ONE PERSON
abbrev pub own : ℕ → List Occurrence → List Occurrence
own i es = filter (λ (e : Occurrence). names i e.person) es

abbrev pub told_steps : List Occurrence → List Step
told_steps es = map (λ (e : Occurrence). (e.word, e.link, e.more)) (filter (λ (e : Occurrence). is_step e.word) es)

untold : (S : Setup) (t i : ℕ) (e : Occurrence) (o : Option ℕ) (P : Person) → names i o ≡ false → told_of S t i e o P ≡ P
untold S t i e None P h = refl
untold S t i e (Some j) P h = rw h refl

-- the others change nothing
pub after_own : (S : Setup) (t i : ℕ) (es : List Occurrence) (P : Person) → person_after_all S t i es P ≡ person_after_all S t i (own i es) P
after_own S t i [] P = refl
after_own S t i (e ∷ es) P = grind (arith, after_own S t i es (told_of S t i e e.person P), after_own S t i es P, untold S t i e e.person P)

pub own_all : (i : ℕ) (es : List Occurrence) → Each (λ (e : Occurrence). names i e.person ≡ true) es → own i es ≡ es
own_all i [] h = refl
own_all i (e ∷ es) h = simp h.0 (ap (λ xs. e ∷ xs) (own_all i es h.1))

-- a plan of which an event of an activity may name the activity's own link
pub record IsPlan (A : Places) (S : Setup) (i : ℕ) : Type 0 where
  pub planned : IsPlanned S i
  pub at_own : (k : ℕ) → A k (Some (act S i k).link)

-- WHERE HE IS
-- the steps of a leg that is under way, and of the legs after it
abbrev pub UnderWay : Places → Setup → ℕ → ℕ → List Step → Type 0
UnderWay A S i k [] = ⊥
UnderWay A S i k (c ∷ []) = IsStuck S i k c
UnderWay A S i k (c ∷ d ∷ es) = Arrives A S i k c d × InTurn A S i (k + 1) es

-- the steps that may follow where he is, at element k or in leg k
abbrev pub RestAt : Places → Setup → ℕ → ℕ → Place → List Step → Type 0
RestAt A S i k (At end) es = InTurn A S i k es
RestAt A S i k (Aborted l) es = es ≡ []
RestAt A S i k _ es = UnderWay A S i k es

abbrev pub Rest : Places → Setup → ℕ → Person → List Step → Type 0
Rest A S i P es = RestAt A S i (P.element / 2) P.place es

-- how many events of him may follow, of a plan of n legs
abbrev pub worth_at : ℕ → ℕ → Place → ℕ
worth_at n k (At end) = 8 * (n - k)
worth_at n k (Teleporting start) = 6 + 8 * (n - (k + 1))
worth_at n k (Waiting stop since) = 4 + 8 * (n - (k + 1))
worth_at n k (Riding v) = 3 + 8 * (n - (k + 1))
worth_at n k (Aborted l) = 0

abbrev pub worth : Setup → ℕ → Person → ℕ
worth S i P = worth_at (legs S i) (P.element / 2) P.place

-- an activity that ends has a leg after it
abbrev pub HasLeg : ℕ → ℕ → Option ℕ → Type 0
HasLeg n k None = Unit {0}
HasLeg n k (Some end) = k < n

-- his element fits the place, and his leg the vehicle
abbrev pub IsFitAt : Setup → ℕ → ℕ → Place → Type 0
IsFitAt S i e (At end) = (e ≡ 2 * (e / 2)) × HasLeg (legs S i) (e / 2) end
IsFitAt S i e (Teleporting start) = e ≡ 2 * (e / 2) + 1
IsFitAt S i e (Waiting stop since) = (e ≡ 2 * (e / 2) + 1) × (mode_of_leg (leg S i (e / 2)) ≡ mode.Pt)
IsFitAt S i e (Riding v) = (e ≡ 2 * (e / 2) + 1) × (mode_in v ≡ mode_of_leg (leg S i (e / 2)))
IsFitAt S i e (Aborted l) = Unit {0}

abbrev pub IsFit : Setup → ℕ → Person → Type 0
IsFit S i P = IsFitAt S i P.element P.place

-- WHAT EVENTS DO
-- the steps that these events tell lead on to those that may follow them
abbrev pub Leads : Places → Setup → ℕ → Person → List Step → Person → Type 0
Leads A S i P xs Q = (es : List Step) → Rest A S i Q es → Rest A S i P (xs ++ es)

-- from here to there by so many events that tell these steps, while cars are worth a before and b after them
pub record Goes (A : Places) (S : Setup) (i : ℕ) (P Q : Person) (xs : List Step) (n a b : ℕ) : Type 0 where
  pub leads : Leads A S i P xs Q
  pub cost : n + worth S i Q + b ≤ worth S i P + a
  pub fit : IsFit S i Q

-- these events of person i, told in second t
abbrev pub Does : Places → Setup → ℕ → ℕ → Person → List Occurrence → ℕ → ℕ → Type 0
Does A S t i P es a b = Goes A S i P (person_after_all S t i es P) (told_steps es) (length es) a b

pub does_nil : (A : Places) (S : Setup) (t i : ℕ) (P : Person) (a b : ℕ) → IsFit S i P → b ≤ a → Does A S t i P [] a b
does_nil A S t i P a b f le = record { leads = λ es h. h; cost = omega arith; fit = f }

pub goes_append : (A : Places) (S : Setup) (i : ℕ) (P Q R : Person) (xs ys : List Step) (n m a b c : ℕ) → Goes A S i P Q xs n a b → Goes A S i Q R ys m b c → Goes A S i P R (xs ++ ys) (n + m) a c
goes_append A S i P Q R xs ys n m a b c f g =
    record { leads = λ es h. rw (append_assoc xs ys es) (f.leads (ys ++ es) (g.leads es h)); cost = omega arith; fit = g.fit }

pub goes_less : (A : Places) (S : Setup) (i : ℕ) (P Q : Person) (xs : List Step) (n a b c d : ℕ) → a ≤ c → d ≤ b → Goes A S i P Q xs n a b → Goes A S i P Q xs n c d
goes_less A S i P Q xs n a b c d le ge f = let fc = f.cost in record { leads = f.leads; cost = omega arith; fit = f.fit }

pub steps_append : (xs ys : List Occurrence) → told_steps (xs ++ ys) ≡ told_steps xs ++ told_steps ys
steps_append xs ys = ap (map (λ (e : Occurrence). (e.word, e.link, e.more))) (filter-append (λ (e : Occurrence). is_step e.word) xs ys) ∙ map-append _ _ _

does_append : (A : Places) (S : Setup) (t i : ℕ) (P : Person) (xs ys : List Occurrence) (a b c : ℕ) → Does A S t i P xs a b → Does A S t i (person_after_all S t i xs P) ys b c → Does A S t i P (xs ++ ys) a c
does_append A S t i P xs ys a b c f g =
    let Q = person_after_all S t i xs P in
    rw (after-append S t i xs ys P, steps_append xs ys, length-append xs ys)
    (goes_append A S i P Q (person_after_all S t i ys Q) (told_steps xs) (told_steps ys) (length xs) (length ys) a b c f g)

-- the same for what is told of him among others
pub own_append : (A : Places) (S : Setup) (t i : ℕ) (P : Person) (xs ys : List Occurrence) (a b c : ℕ) → Does A S t i P (own i xs) a b → Does A S t i (person_after_all S t i (own i xs) P) (own i ys) b c → Does A S t i P (own i (xs ++ ys)) a c
own_append A S t i P xs ys a b c f g = rw (filter-append (λ (e : Occurrence). names i e.person) xs ys) (does_append A S t i P (own i xs) (own i ys) a b c f g)

-- what changes nothing may be passed over
pub own_skip : (S : Setup) (t i : ℕ) (P : Person) (xs ys : List Occurrence) → person_after_all S t i (own i xs) P ≡ P → person_after_all S t i (own i (xs ++ ys)) P ≡ person_after_all S t i (own i ys) P
own_skip S t i P xs ys q = rw (filter-append (λ (e : Occurrence). names i e.person) xs ys, after-append S t i (own i xs) (own i ys) P, q) refl

pub own_quiet : (A : Places) (S : Setup) (t i : ℕ) (P : Person) (xs ys : List Occurrence) (a b c : ℕ) → person_after_all S t i (own i xs) P ≡ P → Does A S t i P (own i xs) a b → Does A S t i P (own i ys) b c → Does A S t i P (own i (xs ++ ys)) a c
own_quiet A S t i P xs ys a b c q f g = own_append A S t i P xs ys a b c f (rw q g)

-- he is in a vehicle of this mode, or waits for a line
abbrev pub IsIn : VehicleId → Place → Type 0
IsIn v (Riding u) = mode_in v ≡ mode_in u
IsIn v _ = ⊥

abbrev pub IsWaiting : Place → Type 0
IsWaiting (Waiting stop since) = Unit {0}
IsWaiting _ = ⊥

-- EACH EVENT OF A TRIP
pub has_leg : (n k : ℕ) (end : Option ℕ) → (n ≤ k → end ≡ None) → HasLeg n k end
has_leg n k None h = tt
has_leg n k (Some x) h = grind arith

fit_start : (S : Setup) (t i e : ℕ) → IsPlanned S i → e ≡ 2 * (e / 2) + 1 → IsFitAt S i (e + 1) (At (ends_at (act_at S i (e + 1)).end t))
fit_start S t i e p odd = (
  omega arith,
  has_leg (legs S i) ((e + 1) / 2) (ends_at (act_at S i (e + 1)).end t)
      (λ le. ap (λ o. ends_at o t) (p.last ((e + 1) / 2) le)),
)

-- a leg arrives, and the next activity starts
starts_next : (A : Places) (S : Setup) (i e : ℕ) (c d : Step) (es : List Step) → e ≡ 2 * (e / 2) + 1 →
    Arrives A S i (e / 2) c d → InTurn A S i ((e + 1) / 2) es → UnderWay A S i (e / 2) (c ∷ d ∷ es)
starts_next A S i e c d es odd f h = let half : (e + 1) / 2 ≡ e / 2 + 1 = omega arith in (f, subst (λ (x : ℕ). InTurn A S i x es) half h)

sets_out : (A : Places) (S : Setup) (i k : ℕ) (a b : Step) (es : List Step) → Departs A S i k a b → UnderWay A S i k es → InTurn A S i k (a ∷ b ∷ es)
sets_out A S i k a b [] f h = absurd h
sets_out A S i k a b (c ∷ []) f h = (f, h)
sets_out A S i k a b (c ∷ d ∷ es) f h = (f, h.0, h.1)

leaves_does : (A : Places) (S : Setup) (t i e a l : ℕ) (v : VehicleId) (r : Rider) (pl : Place) → IsPlan A S i → IsFitAt S i e pl → IsIn v pl → r.kind ≡ (act S i (e / 2 + 1)).kind → A (e / 2 + 1) (Some l) → eqb r.person i ≡ true →
    Does A S t i (record { element = e; place = pl }) (own i (leaves v l r)) a a
unfolding person_after
leaves_does A S t i e a l v r (Riding u) p f m k here q =
    rw (own_all i (leaves v l r) (q, (q, (q, tt)))) (simp q (record {
      leads = λ es h. starts_next A S i e (word.Arrival, Some l, more.Mode (mode_in v)) (word.ActStart, Some l, more.Kind r.kind) es f.0 ((refl, here, ap (λ x. more.Mode x) (m ∙ f.1)), (refl, here, ap (λ x. more.Kind x) k)) h;
      cost = omega arith;
      fit = fit_start S t i e p.planned f.0;
    }))
leaves_does A S t i e a l v r _ p f m k here q = absurd m

strands_does : (A : Places) (S : Setup) (t i e a l : ℕ) (v : VehicleId) (r : Rider) (pl : Place) → IsFitAt S i e pl → IsIn v pl → eqb r.person i ≡ true → Does A S t i (record { element = e; place = pl }) (own i (strands v l r)) a a
unfolding person_after
strands_does A S t i e a l v r (Riding u) f m q =
    rw (own_all i (strands v l r) (q, tt)) (simp q (record { leads = λ es h. rw h (refl, tt, ap (λ x. more.Mode x) (m ∙ f.1)); cost = omega arith; fit = tt }))
strands_does A S t i e a l v r _ f m q = absurd m

enters_does : (A : Places) (S : Setup) (t i e a : ℕ) (v : VehicleId) (r : Rider) (pl : Place) → IsFitAt S i e pl → IsWaiting pl → mode_in v ≡ mode.Pt → eqb r.person i ≡ true →
    Does A S t i (record { element = e; place = pl }) (own i (enters v r)) a a
unfolding person_after
enters_does A S t i e a v r (Waiting stop since) f h m q = rw (own_all i (enters v r) (q, tt)) (simp q (record { leads = λ es h. h; cost = omega arith; fit = (f.0, m ∙ sym f.1) }))
enters_does A S t i e a v r _ f h m q = absurd h

-- HIS OWN TURN
pub lands_does : (A : Places) (S : Setup) (t i e a seconds : ℕ) (start : ℕ) (m : Mode) (next : Act) → IsPlan A S i → IsFitAt S i e (Teleporting start) → m ≡ mode_of_leg (leg S i (e / 2)) → next ≡ act S i (e / 2 + 1) →
    Does A S t i (record { element = e; place = Teleporting start }) (own i (lands i m seconds next)) a a
unfolding person_after
lands_does A S t i e a seconds start m next p odd w k =
    let q = eq-eqb i i refl in
    let here : A (e / 2 + 1) (Some next.link) = rw k (p.at_own (e / 2 + 1)) in
    rw (own_all i (lands i m seconds next) (q, (q, (q, tt)))) (simp q (record {
      leads = λ es h. starts_next A S i e (word.Arrival, Some next.link, more.Mode m) (word.ActStart, Some next.link, more.Kind next.kind) es odd ((refl, here, ap (λ x. more.Mode x) w), (refl, here, ap (λ (x : Act). more.Kind x.kind) k)) h;
      cost = omega arith;
      fit = fit_start S t i e p.planned odd;
    }))

pub departs_does : (A : Places) (S : Setup) (t i e a end : ℕ) (here : Act) (w : Leg) → IsPlan A S i → IsFitAt S i e (At (Some end)) → here ≡ act S i (e / 2) → mode_of_leg w ≡ mode_of_leg (leg S i (e / 2)) →
    Does A S t i (record { element = e; place = At (Some end) }) (own i (departs i here w)) a a
unfolding person_after
departs_does A S t i e a end here w p f k m =
    let q = eq-eqb i i refl in
    let place : A (e / 2) (Some here.link) = rw k (p.at_own (e / 2)) in
    let lt : e / 2 < legs S i = f.1 in
    let half : (e + 1) / 2 ≡ e / 2 = omega arith in
    rw (own_all i (departs i here w) (q, (q, tt))) (simp q (record {
      leads = λ es h. sets_out A S i (e / 2) _ _ es (lt, (refl, place, ap (λ (x : Act). more.Kind x.kind) k), (refl, place, ap (λ x. more.Mode x) m)) (subst (λ (x : ℕ). UnderWay A S i x es) half h);
      cost = omega arith;
      fit = omega arith;
    }))

pub waits_does : (A : Places) (S : Setup) (t i e a l stop start : ℕ) → IsFitAt S i e (Teleporting start) → mode_of_leg (leg S i (e / 2)) ≡ mode.Pt →
    Does A S t i (record { element = e; place = Teleporting start }) (own i (of_person word.WaitingForPt i l (more.Stop stop) ∷ [])) a a
unfolding person_after
waits_does A S t i e a l stop start odd m = let q = eq-eqb i i refl in rw (own_all i (of_person word.WaitingForPt i l (more.Stop stop) ∷ []) (q, tt)) (simp q (record { leads = λ es h. h; cost = omega arith; fit = (odd, m) }))

-- CARS
-- how many events of its driver a car may still tell: that it enters traffic and leaves it
abbrev pub car_worth : ℕ → VehicleId → Bool → ℕ
car_worth i (Car j) started = if j == i then (if started then 1 else 2) else 0
car_worth i (Transit d) started = 0

pub enters_car : (A : Places) (S : Setup) (t i e start : ℕ) → IsFitAt S i e (Teleporting start) → mode.Car ≡ mode_of_leg (leg S i (e / 2)) →
    Does A S t i (record { element = e; place = Teleporting start }) (own i (of_rider word.PersonEntersVehicle i (Car i) ∷ [])) 0 (car_worth i (Car i) false)
unfolding person_after
enters_car A S t i e start odd m = let q = eq-eqb i i refl in rw (own_all i (of_rider word.PersonEntersVehicle i (Car i) ∷ []) (q, tt)) (simp q (record { leads = λ es h. h; cost = omega arith; fit = (odd, m) }))

-- COUNTS
pub count_cons : {X : Type 0} (p : X → Bool) (x : X) (xs : List X) → count_by p (x ∷ xs) ≡ (if p x then 1 else 0) + count_by p xs
count_cons p x xs = sum_by-cons _ x xs

abbrev is_rider : ℕ → Rider → Bool
is_rider i r = r.person == i

-- RIDERS
-- of others nothing is told of him
abbrev pub IsOther : ℕ → (Rider → List Occurrence) → Type 0
IsOther i tells = (r : Rider) → eqb r.person i ≡ false → own i (tells r) ≡ []

pub none_told : (i : ℕ) (tells : Rider → List Occurrence) → IsOther i tells → (rs : List Rider) → among_riders i rs ≡ 0 → own i (flat_map tells rs) ≡ []
none_told i tells f [] h = refl
none_told i tells f (r ∷ rs) h =
    grind (arith, none_told i tells f rs, f r, filter-append (λ (e : Occurrence). names i e.person) (tells r) (flat_map tells rs), count_cons (is_rider i) r rs)

-- a rider who is person i goes to an activity of kind K
abbrev pub IsRight : ℕ → ℕ → Rider → Type 0
IsRight i K r = eqb r.person i ≡ true → r.kind ≡ K

-- what is told of him where he is one of these
riders_do : (A : Places) (S : Setup) (t i : ℕ) (P : Person) (a K : ℕ) (tells : Rider → List Occurrence) → IsOther i tells → IsFit S i P → (rs : List Rider) → All (IsRight i K) rs → among_riders i rs ≤ 1 →
    (1 ≤ among_riders i rs → (r : Rider) → r.kind ≡ K → eqb r.person i ≡ true → Does A S t i P (own i (tells r)) a a) → Does A S t i P (own i (flat_map tells rs)) a a
riders_do A S t i P a K tells f fit [] right few g = does_nil A S t i P a a fit (omega arith)
riders_do A S t i P a K tells f fit (r ∷ rs) right few g =
    let c = count_cons (is_rider i) r rs in
    elim (cases_Bool (eqb r.person i)) [
      | inl e ↦
          let d = g (grind arith) r (All-head (IsRight i K) r rs right e) e in
          own_append A S t i P (tells r) (flat_map tells rs) a a a d (rw (none_told i tells f rs (grind arith)) (does_nil A S t i _ a a d.fit (omega arith)))
      | inr e ↦
          own_append A S t i P (tells r) (flat_map tells rs) a a a (rw (f r e) (does_nil A S t i P a a fit (omega arith)))
          (rw (f r e) (riders_do A S t i P a K tells f fit rs (All-tail (IsRight i K) r rs right) (grind arith) (λ h. g (grind arith))))
    ]

-- the kind of the activity after his leg
abbrev pub kind_next : Setup → ℕ → Person → ℕ
kind_next S i P = (act S i (P.element / 2 + 1)).kind

abbrev pub AreRight : Setup → ℕ → Person → List Rider → Type 0
AreRight S i P rs = All (IsRight i (kind_next S i P)) rs

pub riders_leave : (A : Places) (S : Setup) (t i : ℕ) (P : Person) (a l : ℕ) (v : VehicleId) (rs : List Rider) → IsPlan A S i → IsFit S i P → AreRight S i P rs → among_riders i rs ≤ 1 → (1 ≤ among_riders i rs → IsIn v P.place × A (P.element / 2 + 1) (Some l)) → Does A S t i P (own i (flat_map (leaves v l) rs)) a a
riders_leave A S t i P a l v rs p fit right few h =
    riders_do A S t i P a (kind_next S i P) (leaves v l) (λ r q. simp q) fit rs right few (λ g r k q. leaves_does A S t i P.element a l v r P.place p fit (h g).0 k (h g).1 q)

pub riders_stuck : (A : Places) (S : Setup) (t i : ℕ) (P : Person) (a l : ℕ) (v : VehicleId) (rs : List Rider) → IsFit S i P → AreRight S i P rs → among_riders i rs ≤ 1 → (1 ≤ among_riders i rs → IsIn v P.place) → Does A S t i P (own i (flat_map (strands v l) rs)) a a
riders_stuck A S t i P a l v rs fit right few h = riders_do A S t i P a (kind_next S i P) (strands v l) (λ r q. simp q) fit rs right few (λ g r k q. strands_does A S t i P.element a l v r P.place fit (h g) q)

-- where none of them is person i
pub none_after : (S : Setup) (t i : ℕ) (P : Person) (tells : Rider → List Occurrence) (rs : List Rider) → IsOther i tells →
    among_riders i rs ≡ 0 → person_after_all S t i (own i (flat_map tells rs)) P ≡ P
none_after S t i P tells rs other q = ap (λ (es : List Occurrence). person_after_all S t i es P) (none_told i tells other rs q)

-- some leave the vehicle, and others enter it
pub riders_change : (A : Places) (S : Setup) (t i : ℕ) (P : Person) (a l : ℕ) (v : VehicleId) (outs ins : List Rider) → IsPlan A S i → IsFit S i P → AreRight S i P outs → AreRight S i P ins → among_riders i outs ≤ 1 → (1 ≤ among_riders i outs → IsIn v P.place × A (P.element / 2 + 1) (Some l)) →
    among_riders i ins ≤ 1 → (1 ≤ among_riders i ins → (among_riders i outs ≡ 0) × IsWaiting P.place × (mode_in v ≡ mode.Pt)) → Does A S t i P (own i (flat_map (leaves v l) outs ++ flat_map (enters v) ins)) a a
riders_change A S t i P a l v outs ins p fit right rest few h once g =
    let xs = own i (flat_map (leaves v l) outs) in
    let d : Does A S t i P xs a a = riders_leave A S t i P a l v outs p fit right few h in
    let Q = person_after_all S t i xs P in
    own_append A S t i P (flat_map (leaves v l) outs) (flat_map (enters v) ins) a a a d
    (riders_do A S t i Q a (kind_next S i P) (enters v) (λ r q. simp q) d.fit ins rest once
    (λ k r u q. let b = g k in
    enters_does A S t i Q.element a v r Q.place d.fit (subst (λ (x : Person). IsWaiting x.place) (sym (none_after S t i P (leaves v l) outs (λ r q. simp q) b.0)) b.1) b.2 q))

enters_element : (S : Setup) (t i : ℕ) (v : VehicleId) (rs : List Rider) (P : Person) → (person_after_all S t i (flat_map (enters v) rs) P).element ≡ P.element
unfolding person_after
enters_element S t i v [] P = refl
enters_element S t i v (r ∷ rs) P = elim (cases_Bool (eqb r.person i)) [ inl q ↦ simp q (enters_element S t i v rs (record P { place = Riding v })) | inr q ↦ simp q (enters_element S t i v rs P) ]

-- who does not leave keeps his leg
pub change_element : (S : Setup) (t i : ℕ) (P : Person) (l : ℕ) (v : VehicleId) (outs ins : List Rider) → among_riders i outs ≡ 0 → (person_after_all S t i (flat_map (leaves v l) outs ++ flat_map (enters v) ins) P).element ≡ P.element
change_element S t i P l v outs ins q =
    rw (
      after-append S t i (flat_map (leaves v l) outs) (flat_map (enters v) ins) P,
      after_own S t i (flat_map (leaves v l) outs) P,
      none_after S t i P (leaves v l) outs (λ r q. simp q) q,
    ) (enters_element S t i v ins P)

-- DRIVERS
pub car_less : (i : ℕ) (v : VehicleId) (b : Bool) → car_worth i v true ≤ car_worth i v b
car_less i (Car j) b = grind arith
car_less i (Transit d) b = omega arith

-- it enters traffic, where it has not yet
pub driver_starts : (A : Places) (S : Setup) (t i : ℕ) (P : Person) (v : VehicleId) (l : ℕ) (b : Bool) → IsFit S i P → Does A S t i P (own i (if b then [] else of_driver word.VehicleEntersTraffic v l ∷ [])) (car_worth i v b) (car_worth i v true)
unfolding person_after
driver_starts A S t i P v l true f = does_nil A S t i P _ _ f (omega arith)
driver_starts A S t i P (Car j) l false f = elim (cases_Bool (eqb j i)) [ inl q ↦ simp q (record { leads = λ es h. h; cost = omega arith; fit = f }) | inr q ↦ simp q (does_nil A S t i P 0 0 f (omega arith)) ]
driver_starts A S t i P (Transit d) l false f = does_nil A S t i P _ _ f (omega arith)

starts_same : (S : Setup) (t i : ℕ) (P : Person) (v : VehicleId) (l : ℕ) (b : Bool) → person_after_all S t i (own i (if b then [] else of_driver word.VehicleEntersTraffic v l ∷ [])) P ≡ P
unfolding person_after
starts_same S t i P v l true = refl
starts_same S t i P (Car j) l false = elim (cases_Bool (eqb j i)) [ inl q ↦ simp q | inr q ↦ simp q ]
starts_same S t i P (Transit d) l false = refl

-- it leaves traffic
pub driver_ends : (A : Places) (S : Setup) (t i : ℕ) (P : Person) (v : VehicleId) (l : ℕ) → IsFit S i P → Does A S t i P (own i (of_driver word.VehicleLeavesTraffic v l ∷ [])) (car_worth i v true) 0
unfolding person_after
driver_ends A S t i P (Car j) l f = elim (cases_Bool (eqb j i)) [ inl q ↦ simp q (record { leads = λ es h. h; cost = omega arith; fit = f }) | inr q ↦ simp q (does_nil A S t i P 0 0 f (omega arith)) ]
driver_ends A S t i P (Transit d) l f = does_nil A S t i P _ _ f (omega arith)

ends_same : (S : Setup) (t i : ℕ) (P : Person) (v : VehicleId) (l : ℕ) → person_after_all S t i (own i (of_driver word.VehicleLeavesTraffic v l ∷ [])) P ≡ P
unfolding person_after
ends_same S t i P (Car j) l = elim (cases_Bool (eqb j i)) [ inl q ↦ simp q | inr q ↦ simp q ]
ends_same S t i P (Transit d) l = refl

-- WHOLE VEHICLES
-- a vehicle at the end of its route
pub arrives_does : (A : Places) (S : Setup) (t i : ℕ) (P : Person) (r : Row) → IsPlan A S i → IsFit S i P → AreRight S i P r.vehicle.riders → rides i r.vehicle ≤ 1 → (1 ≤ rides i r.vehicle → IsIn r.vehicle.id P.place × A (P.element / 2 + 1) (Some r.link)) → Does A S t i P (own i (arrives r)) (car_worth i r.vehicle.id true) 0
arrives_does A S t i P r p f right few h =
    let v = r.vehicle in
    own_quiet A S t i P (of_driver word.VehicleLeavesTraffic v.id r.link ∷ []) (flat_map (leaves v.id r.link) v.riders) (car_worth i v.id true) 0 0
    (ends_same S t i P v.id r.link) (driver_ends A S t i P v.id r.link f) (riders_leave A S t i P 0 r.link v.id v.riders p f right few h)

pub nobody_arrives : (S : Setup) (t i : ℕ) (P : Person) (r : Row) → rides i r.vehicle ≡ 0 → person_after_all S t i (own i (arrives r)) P ≡ P
nobody_arrives S t i P r h =
    let v = r.vehicle in
    own_skip S t i P (of_driver word.VehicleLeavesTraffic v.id r.link ∷ []) (flat_map (leaves v.id r.link) v.riders) (ends_same S t i P v.id r.link)
    ∙ none_after S t i P (leaves v.id r.link) v.riders (λ r q. simp q) h

-- what is told of a vehicle at the front of the wait list or of the queue: maybe that it enters traffic, and then these
abbrev pub front : Bool → Row → List Occurrence → List Occurrence
front true r es = starts r ++ es
front false r es = es

pub front_does : (A : Places) (S : Setup) (t i : ℕ) (P : Person) (s : Bool) (r : Row) (es : List Occurrence) (b : ℕ) → IsFit S i P → Does A S t i P (own i es) (car_worth i r.vehicle.id true) b → Does A S t i P (own i (front s r es)) (car_worth i r.vehicle.id r.vehicle.started) b
front_does A S t i P true r es b f d = let v = r.vehicle in own_quiet A S t i P (starts r) es _ _ b (starts_same S t i P v.id r.link v.started) (driver_starts A S t i P v.id r.link v.started f) d
front_does A S t i P false r es b f d = goes_less A S i P _ _ _ _ b _ b (car_less i r.vehicle.id r.vehicle.started) (omega arith) d

pub put_front : (s : Bool) (r now : Row) → told_transfer (serving_stage s) r now ≡ front s r (told_to now.stage r now)
put_front true r now = refl
put_front false r now = refl

pub gone_front : (s : Bool) (r : Row) → told_removal (serving_stage s) r ≡ front s r (arrives r)
gone_front true r = refl
gone_front false r = refl

-- RIDERS WHOSE KIND IS WRONG
abbrev is_wrong : ℕ → ℕ → Rider → Bool
is_wrong i K r = not (r.kind == K) && (r.person == i)

abbrev pub wrong : ℕ → ℕ → List Rider → ℕ
wrong i K rs = count_by (is_wrong i K) rs

kind_is : (i K : ℕ) (r : Rider) → is_wrong i K r ≡ false → IsRight i K r
kind_is i K r e q = grind (arith, nat_tests)

pub all_right : (i K : ℕ) (rs : List Rider) → wrong i K rs ≡ 0 → All (IsRight i K) rs
all_right i K [] h = All-nil (IsRight i K)
all_right i K (r ∷ rs) h =
    let c = count_cons (is_wrong i K) r rs in
    All-cons (IsRight i K) r rs (kind_is i K r (grind arith)) (all_right i K rs (grind arith))

pub none_wrong : (i K : ℕ) (rs : List Rider) → All (IsRight i K) rs → wrong i K rs ≡ 0
none_wrong i K [] h = refl
none_wrong i K (r ∷ rs) h =
    let q = All-head (IsRight i K) r rs h in
    grind (arith, nat_tests, none_wrong i K rs (All-tail (IsRight i K) r rs h), count_cons (is_wrong i K) r rs)

pub wrong_few : (i K : ℕ) (rs : List Rider) → wrong i K rs ≤ among_riders i rs
wrong_few i K rs = sum_by-le-sum_by (λ (r : Rider). if is_wrong i K r then 1 else 0) (λ (r : Rider). if r.person == i then 1 else 0) rs (λ r. grind arith)

-- WHO IS STUCK
-- by this event nobody is stuck
abbrev pub IsCalm : Occurrence → Type 0
IsCalm e = e.word ≢ word.StuckAndAbort

-- what is calm for whoever may board
pub calm : (es : List Occurrence) → Calm (λ j. Unit {0}) es → Each IsCalm es
calm es h = each_weaker _ IsCalm (λ e c q. subst (λ w. Calm_word (λ j. Unit {0}) w e.person) q c) es h

-- after an event by which he is stuck nothing follows
abbrev pub IsLast : List Occurrence → Type 0
IsLast [] = Unit {0}
IsLast (e ∷ es) = (e.word ≡ word.StuckAndAbort → es ≡ []) × IsLast es

calm_last : (xs ys : List Occurrence) → Each IsCalm xs → IsLast ys → IsLast (xs ++ ys)
calm_last [] ys h g = g
calm_last (x ∷ xs) ys h g = ((λ q. absurd (h.0 q)), calm_last xs ys h.1 g)

one_last : (xs ys : List Occurrence) → length xs ≤ 1 → (1 ≤ length xs → length ys ≤ 0) → IsLast ys → IsLast (xs ++ ys)
one_last [] ys h f g = g
one_last (x ∷ []) ys h f g = ((λ q. nil_from_length ys (let n = f (omega arith) in omega arith)), g)
one_last (x ∷ y ∷ xs) ys h f g = absurd (omega arith)

-- by these events nobody is stuck, or there is one of him at most, and then so many may follow
abbrev pub Stops : ℕ → List Occurrence → ℕ → Type 0
Stops i es n = Each IsCalm es ⊎ ((length (own i es) ≤ 1) × (1 ≤ length (own i es) → n ≡ 0))

pub stops_last : (i n : ℕ) (es ys : List Occurrence) → Stops i es n → length ys ≤ n → IsLast ys → IsLast (own i es ++ ys)
stops_last i n es ys (inl h) le g = calm_last (own i es) ys (each_kept IsCalm (λ (e : Occurrence). names i e.person) es h) g
stops_last i n es ys (inr h) le g = one_last (own i es) ys h.0 (λ k. let z = h.1 k in omega arith) g

-- those who are removed with a vehicle
pub stuck_count : (i l : ℕ) (v : VehicleId) (rs : List Rider) → length (own i (flat_map (strands v l) rs)) ≡ among_riders i rs
stuck_count i l v [] = refl
stuck_count i l v (r ∷ rs) = grind (arith, stuck_count i l v rs, count_cons (is_rider i) r rs)

pub stuck_place : (S : Setup) (t i l : ℕ) (v : VehicleId) (rs : List Rider) (P : Person) → (1 ≤ among_riders i rs) ⊎ (P.place ≡ Aborted l) → (person_after_all S t i (flat_map (strands v l) rs) P).place ≡ Aborted l
unfolding person_after
stuck_place S t i l v [] P (inl h) = absurd (omega arith)
stuck_place S t i l v [] P (inr q) = q
stuck_place S t i l v (r ∷ rs) P h =
    elim (cases_Bool (eqb r.person i)) [
      | inl e ↦ simp e (stuck_place S t i l v rs (record P { place = Aborted l }) (inr refl))
      | inr e ↦ simp e (stuck_place S t i l v rs P (grind (arith, count_cons (is_rider i) r rs)))
    ]
