-- When a front that is held up may go, and the vehicles of a link by their places.
use Rattle.std.proofs.Common.{◌≡◌, ◌≢◌, ℕ, zero, suc, ◌+◌, ◌-◌, ◌*◌, ◌<◌, ◌≤◌, false, List, [], ◌∷◌, ◌++◌, length, get_or, refl, ap, sym, ◌∙◌, arith, inl, inr}
use Rattle.std.proofs.{Common.append-nil, Math.Nat.mul_comm, Math.Nat.mul-le-mul_left, lemmas.Bool.cases_lt, lemmas.Bool.lt-leb, lemmas.Bool.leb-false}
use Rattle.std.{proofs.lemmas.Bool.ne_eqb, proofs.lemmas.Grind.div_ceil_times, specs.Int.div_ceil, specs.List.flat_map}
use Rattle.std.specs.Prelude.{min, map, filter, nat_le, ◌==◌, if◌then◌else◌, Option, None, Some}
use Rattle.fixed_flow.specs.{Link.ceiling, declared.TheConstants.VEHICLE_COST}
use Rattle.traffic.specs.{Links.waiting, Links.wait_after, Telling.goes_on, declared.moves.Occurrence.Occurrence, declared.world.Row.Row}
use Rattle.law_sleeping.proofs.Credits.{up_to, from_up}
use Rattle.queue_link.specs.{Links.LinkView, Links.vehicle_at, Turns.is_due, Turns.left_in_bay, Waking.bay_due, Waking.is_by}
use Rattle.calendar.specs.Waking.{earliest}

pub earlier_assoc : (a b c : Option ℕ) → earliest (earliest a b) c ≡ earliest a (earliest b c)
earlier_assoc None b c = refl
earlier_assoc (Some a) None c = refl
earlier_assoc (Some a) (Some b) None = refl
earlier_assoc (Some a) (Some b) (Some c) = ap (λ (n : ℕ). Some n) (grind arith)

-- a quotient that is rounded up, by its bounds
not_less : (a g q : ℕ) → 0 < g → q * g < a + g → q ≤ ceiling a g
not_less a g q pos h =
    elim (cases_lt (ceiling a g) q) [
      | inl lt ↦
          let c = ceiling a g in
          let u : a ≤ g * c = up_to a g c pos (omega arith) in
          let m : g * (c + 1) ≤ g * q = mul-le-mul_left g (omega arith) in
          let e : g * (c + 1) ≡ g * c + g = omega arith in
          let f : q * g ≡ g * q = mul_comm q g in
          absurd (omega arith)
      | inr le ↦ le
    ]

is_ceiling : (a g : ℕ) → 0 < g → div_ceil a g ≡ ceiling a g
is_ceiling a g pos =
    let t = div_ceil_times a g pos in
    let f : div_ceil a g * g ≡ g * div_ceil a g = mul_comm (div_ceil a g) g in
    let low : ceiling a g ≤ div_ceil a g = from_up a g (div_ceil a g) pos (let z = t.0 in omega arith) in
    let high : div_ceil a g ≤ ceiling a g = not_less a g (div_ceil a g) pos t.1 in
    omega arith

pub held_is : (room b gain t credit d : ℕ) → b < room → gain ≢ 0 → d ≡ div_ceil (VEHICLE_COST - credit) gain
    → Some (t + d) ≡ (if nat_le room b then None else if gain == 0 then None else Some (t + ceiling (VEHICLE_COST - credit) gain))
held_is room b gain t credit d lt ne e =
    let p = lt-leb room b lt in
    let q = ne_eqb gain 0 ne in
    let g : d ≡ ceiling (VEHICLE_COST - credit) gain = e ∙ is_ceiling (VEHICLE_COST - credit) gain (omega arith) in
    rw (p, q, g) refl

-- VEHICLES BY THEIR PLACES
pub vehicle_found : (place : ℕ) (rows : List Row) (r : Row) → place < length rows → r ≡ get_or rows place r → Some r.vehicle
    ≡ vehicle_at place rows
vehicle_found place [] r lt e = absurd (omega arith)
vehicle_found zero (x ∷ rows) r lt e = ap (λ (y : Row). Some y.vehicle) e
vehicle_found (suc place) (x ∷ rows) r lt e = vehicle_found place rows r (omega arith) e

pub vehicle_read : (place : ℕ) (rows : List Row) (d : Row) → place < length rows → Some (get_or rows place d).vehicle
    ≡ vehicle_at place rows
vehicle_read place [] d lt = absurd (omega arith)
vehicle_read zero (x ∷ rows) d lt = refl
vehicle_read (suc place) (x ∷ rows) d lt = vehicle_read place rows d (omega arith)

pub vehicle_none : (place : ℕ) (rows : List Row) → length rows ≤ place → None ≡ vehicle_at place rows
vehicle_none place [] le = refl
vehicle_none zero (x ∷ rows) le = absurd (omega arith)
vehicle_none (suc place) (x ∷ rows) le = vehicle_none place rows (omega arith)

pub vehicle_left : (place : ℕ) (xs ys : List Row) → place < length xs → vehicle_at place (xs ++ ys) ≡ vehicle_at place xs
vehicle_left place [] ys lt = absurd (omega arith)
vehicle_left zero (x ∷ xs) ys lt = refl
vehicle_left (suc place) (x ∷ xs) ys lt = vehicle_left place xs ys (omega arith)

pub vehicle_right : (place k : ℕ) (xs ys : List Row) → place ≡ length xs + k → vehicle_at place (xs ++ ys) ≡ vehicle_at k ys
vehicle_right place k [] ys e = let q : place ≡ k = omega arith in ap (λ (n : ℕ). vehicle_at n ys) q
vehicle_right zero k (x ∷ xs) ys e = absurd (omega arith)
vehicle_right (suc place) k (x ∷ xs) ys e = vehicle_right place k xs ys (omega arith)

-- THE LEAST SECOND OF A BAY
pub bay_more : (rows : List Row) (r : Row) → bay_due (rows ++ r ∷ []) ≡ earliest (bay_due rows) (Some r.second)
unfolding bay_due
bay_more [] r = refl
bay_more (x ∷ rows) r = ap (earliest (Some x.second)) (bay_more rows r) ∙ sym (earlier_assoc (Some x.second) (bay_due rows) (Some r.second))

-- while that is later than second t, nobody leaves
first_later : (t u : ℕ) (d : Option ℕ) → is_by t (earliest (Some u) d) ≡ false → nat_le u t ≡ false
first_later t u None e = e
first_later t u (Some v) e = let lt = leb-false (min u v) t e in lt-leb u t (omega arith)

others_later : (t u : ℕ) (d : Option ℕ) → is_by t (earliest (Some u) d) ≡ false → is_by t d ≡ false
others_later t u None e = refl
others_later t u (Some v) e = let lt = leb-false (min u v) t e in lt-leb v t (omega arith)

pub none_leaves : (t : ℕ) (rows : List Row) → is_by t (bay_due rows) ≡ false
    → (filter (is_due t) rows ≡ []) × (left_in_bay t rows ≡ rows)
unfolding bay_due
none_leaves t [] e = (refl, refl)
none_leaves t (r ∷ rows) e =
    let f : is_due t r ≡ false = first_later t r.second (bay_due rows) e in
    let i = none_leaves t rows (others_later t r.second (bay_due rows) e) in
    (rw f i.0, rw f (ap (λ (xs : List Row). r ∷ xs) i.1))

pub bay_none : (rows : List Row) → rows ≡ [] → None ≡ bay_due rows
unfolding bay_due
bay_none rows e = sym (ap bay_due e)

pub bay_grows : (rows later : List Row) (r : Row) (d e : Option ℕ) → later ≡ rows ++ r ∷ [] → d ≡ bay_due rows → e ≡ earliest d (Some r.second)
    → e ≡ bay_due later
bay_grows rows later r d e n h g = g ∙ ap (λ (o : Option ℕ). earliest o (Some r.second)) h ∙ sym (bay_more rows r) ∙ ap bay_due (sym n)

-- the link then stays as it is
with_lists : LinkView → List Row → List Row → LinkView
with_lists v wait bay = record v { lists = record v.lists { wait = wait; bay = bay } }

pub bay_stays : (t : ℕ) (v : LinkView) → is_by t (bay_due v.lists.bay) ≡ false
    → v ≡ record v { lists = record v.lists { wait = wait_after t v.numbers.link v.lists; bay = left_in_bay t v.lists.bay } }
unfolding with_lists
bay_stays t v e =
    let n = none_leaves t v.lists.bay e in
    let w : v.lists.wait ≡ wait_after t v.numbers.link v.lists
    = sym (append-nil v.lists.wait) ∙ ap (λ (xs : List Row). v.lists.wait ++ map (waiting v.numbers.link) xs) (sym n.0) in
    ap (λ (xs : List Row). with_lists v xs v.lists.bay) w ∙ ap (with_lists v (wait_after t v.numbers.link v.lists)) (sym n.1)

pub nobody_tells : (t : ℕ) (bay : List Row) (said : List Occurrence) → is_by t (bay_due bay) ≡ false → said ≡ said ++ flat_map goes_on (filter (is_due t) bay)
nobody_tells t bay said e = sym (append-nil said) ∙ ap (λ (xs : List Row). said ++ flat_map goes_on xs) (sym (none_leaves t bay e).0)
