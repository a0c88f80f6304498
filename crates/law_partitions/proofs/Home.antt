-- To which partition a person belongs while a second is done: the phases A and B1.
use Rattle.traffic.proofs.Common.{◌≡◌, ℕ, ◌∙◌, length, ap, refl, sym, [], ◌∷◌, arith, ◌<◌, true, ◌+◌, Bool, inl, inr, subst, ◌≤◌, false, eqb, ◌-◌, get_or, ◌≢◌}
use Rattle.traffic.proofs.Common.{◌/◌, ◌⊎◌, cases_Bool, eqb-true, eq-eqb, eqb-false, ne_eqb, true≢false, lt-ltb, nat_tests, flat_map, Some, None, not, Option}
use Rattle.traffic.proofs.Common.{◌&&◌, nat_le, ◌%◌, Mode, Act, Leg, Transit, Car, Teleport, world_at, landing_turns, leaving_turns, Untouched, below, run}
use Rattle.traffic.proofs.Common.{person_after, person_after_all, start_act, ends_at, waiter, landing_moves, leaving_moves, sets_out, waits_on, departs, lands}
use Rattle.traffic.proofs.Common.{leaving, person_of, Setup, act_after, leg_at, act_at, person_plan, link_of_stop, IsSoundPerson}
use Rattle.traffic.{proofs.Persons.landing_moves-of, proofs.Walks.flight_walk, proofs.Walks.leave_walk, specs.Moves.arrive}
use Rattle.traffic.specs.declared.{moves.Move.TheVariants.Report, stage.Stage.TheVariants.Wait, world.Person.Person, world.Place.Place}
use Rattle.traffic.specs.declared.world.Place.TheVariants.{At, Teleporting, Waiting, Riding, Aborted}
use Rattle.std.specs.Prelude.{max}
use Rattle.law_one_place.proofs.Turns.{always_kept}
use Rattle.parts.specs.{Owners.Owner, Owners.owner_of, Owners.link_at, Owners.lag, Parts.flies_from, Parts.is_late, Parts.has}
use Rattle.law_partitions.proofs.{Begins.of-quiet, Begins.own-turn, Early.A_world, Early.mid, Early.A_moves-are, Ends.less, Flights.mid_is}
use Rattle.law_partitions.proofs.{Flights.flights_began, Lags.lag-some, Lags.lag-hop, Quiet.person_moves, Quiet.person-run}
pub use Rattle.law_partitions.specs.Premises.{Lawful}

-- In second t person i at this place belongs to p exactly where b is true; a rider goes by the list in which his vehicle stands.
abbrev pub IsHome : Setup → Owner → ℕ → ℕ → Bool → ℕ → ℕ → Place → Type 0
IsHome S own p t b i element (At end) = eqb (owner_of S own (act_at S i element).link) p ≡ b
IsHome S own p t b i element (Teleporting start) =
    (start < t → (eqb (owner_of S own (act_after S i element).link) p && not (not (eqb (flies_from S own i element) p) && nat_le t (start + less S own (flies_from S own i element) p))) ≡ b)
    × (start ≡ t → eqb (flies_from S own i element) p ≡ b)
IsHome S own p t b i element (Waiting stop since) = eqb (owner_of S own (link_of_stop S stop)) p ≡ b
IsHome S own p t b i element (Riding v) = Unit {0}
IsHome S own p t b i element (Aborted l) = eqb (owner_of S own l) p ≡ b

abbrev pub Home : Setup → Owner → ℕ → ℕ → Bool → ℕ → Person → Type 0
Home S own p t b i P = IsHome S own p t b i P.element P.place

and_true : (x : Bool) → (x && true) ≡ x
and_true true = refl
and_true false = refl

pub not_self : (b : Bool) → b ≡ not b → ⊥
not_self true e = true≢false e
not_self false e = true≢false (sym e)

-- AT THE START OF THE SECOND
pub has-is : (S : Setup) (own : Owner) (k : ℕ → ℕ → ℕ) (p t i : ℕ) → i < length S.persons → (pl : Place) → (person_of i (world_at S t)).place ≡ pl →
    has S own k p t i ≡ (eqb (owner_of S own (link_at S (world_at S t) i (person_of i (world_at S t)).element pl)) p && not (is_late S own k p t i (person_of i (world_at S t)).element pl))
has-is S own k p t i lt pl e =
    let P = person_of i (world_at S t) in
    let f = lt-ltb i (length S.persons) lt in
    (rw f (ap (λ (x : Place). eqb (owner_of S own (link_at S (world_at S t) i P.element x)) p && not (is_late S own k p t i P.element x)) e))

home_of : (S : Setup) (own : Owner) (p t i : ℕ) → Lawful S → i < length S.persons → (pl : Place) → (person_of i (world_at S t)).place ≡ pl → IsHome S own p t (has S own (less S own) p t i) i (person_of i (world_at S t)).element pl
home_of S own p t i law lt (At end) e = sym (has-is S own (less S own) p t i lt (At end) e ∙ and_true _)
home_of S own p t i law lt (Teleporting start) e = let s = flights_began S t i start lt e in ((λ h. sym (has-is S own (less S own) p t i lt (Teleporting start) e)), (λ h. absurd (omega arith)))
home_of S own p t i law lt (Waiting stop since) e = sym (has-is S own (less S own) p t i lt (Waiting stop since) e ∙ and_true _)
home_of S own p t i law lt (Riding v) e = tt
home_of S own p t i law lt (Aborted l) e = sym (has-is S own (less S own) p t i lt (Aborted l) e ∙ and_true _)

pub home0 : (S : Setup) (own : Owner) (p t i : ℕ) → Lawful S → i < length S.persons → Home S own p t (has S own (less S own) p t i) i (person_of i (world_at S t))
home0 S own p t i law lt = home_of S own p t i law lt (person_of i (world_at S t)).place refl

-- PHASE A
half_odd : (e : ℕ) → e % 2 ≡ 1 → (e + 1) / 2 ≡ (e + 2) / 2
half_odd e h = omega arith

half_even : (e : ℕ) → e % 2 ≡ 0 → (e + 1) / 2 ≡ e / 2
half_even e h = omega arith

lands_is : (S : Setup) (t i : ℕ) (mode : Mode) (seconds start : ℕ) (next : Act) (P : Person) → P.place ≡ Teleporting start → person_after_all S t i (lands i mode seconds next) P ≡ arrive S t i P
unfolding person_after
lands_is S t i mode seconds start next P e = let q = eq-eqb i i refl in simp q (ap (start_act S t i P) e)

odd_of : (S : Setup) (t i start : ℕ) → Lawful S → i < length S.persons → (person_of i (world_at S t)).place ≡ Teleporting start → (person_of i (world_at S t)).element % 2 ≡ 1
odd_of S t i start law lt e = (subst (λ pl. IsSoundPerson S i (person_of i (world_at S t)).element pl) e ((law.sound t).persons i lt)).0.0

no_more : (x : Bool) → not (x && false) ≡ true
no_more true = refl
no_more false = refl

-- who lands was not late
due_home : (S : Setup) (own : Owner) (p t i e start seconds : ℕ) (mode : Mode) (b : Bool) → Lawful S → i < length S.persons → leg_at S i e ≡ Teleport mode seconds → start + seconds ≡ t → IsHome S own p t b i e (Teleporting start) → eqb (owner_of S own (act_after S i e).link) p ≡ b
due_home S own p t i e start seconds mode b law lt w due h =
    let q = flies_from S own i e in
    let o = owner_of S own (act_after S i e).link in
    let le : lag S own q o ≤ seconds = lag-hop S own i e mode seconds lt w in
    let some : 1 ≤ lag S own q o = lag-some S own law.long q o in
    let test = h.0 (omega arith) in
    elim (cases_Bool (eqb o p)) [
      | inl f ↦
          let r = eqb-true o p f in
          let lep : lag S own q p ≤ seconds = subst (λ x. lag S own q x ≤ seconds) r le in
          let somep : 1 ≤ lag S own q p = subst (λ x. 1 ≤ lag S own q x) r some in
          let early : nat_le t (start + (lag S own q p - 1)) ≡ false = grind (arith, nat_tests) in
          let free : not (not (eqb q p) && nat_le t (start + less S own q p)) ≡ true = (rw early (no_more (not (eqb q p)))) in
          f ∙ sym free ∙ (let z = simp f at test in z)
      | inr f ↦ f ∙ (let z = simp f at test in z)
    ]

-- a leg begins in the second after the landing at the earliest
lands_late : (S : Setup) (t i : ℕ) (here : Act) (w : Leg) (next : Act) (o : Option ℕ) → leaving S t i here w next (At (ends_at o t)) ≡ []
lands_late S t i here w next None = refl
lands_late S t i here w next (Some planned) = let e = ne_eqb (max planned (t + 1)) t (λ q. omega arith) in rw e refl

pub stay_odd : (S : Setup) (i e : ℕ) → e % 2 ≡ 1 → act_at S i (e + 1) ≡ act_after S i e
stay_odd S i e h = ap (λ (x : ℕ). get_or (person_plan S i).acts x (record { kind = 0; link = 0; end = None })) (half_odd e h)

stay_even : (S : Setup) (i e : ℕ) → e % 2 ≡ 0 → act_at S i (e + 1) ≡ act_at S i e
stay_even S i e h = ap (λ (x : ℕ). get_or (person_plan S i).acts x (record { kind = 0; link = 0; end = None })) (half_even e h)

-- after phase A a person is as he was, or has landed and does not set out in this second
abbrev pub Landed : Setup → Owner → ℕ → ℕ → Bool → ℕ → Person → Person → Type 0
Landed S own p t b i P now = (now ≡ P) ⊎ (Home S own p t b i now × (leaving_moves S t i now ≡ []))

landing_out : (S : Setup) (own : Owner) (p t i : ℕ) (b : Bool) (P : Person) → Lawful S → i < length S.persons → ((start : ℕ) → P.place ≡ Teleporting start → P.element % 2 ≡ 1) → Home S own p t b i P → Landed S own p t b i P (person_moves S t i (landing_moves S t i P) P)
unfolding leaving_moves
landing_out S own p t i b P law lt odd h =
    flight_walk (λ ms. Landed S own p t b i P (person_moves S t i ms P)) S t i P (inl refl)
    (λ mode seconds start e w due.
    let home = due_home S own p t i P.element start seconds mode b law lt w due (subst (λ pl. IsHome S own p t b i P.element pl) e h) in
    let at_next : eqb (owner_of S own (act_at S i (P.element + 1)).link) p ≡ b = ap (λ (x : Act). eqb (owner_of S own x.link) p) (stay_odd S i P.element (odd start e)) ∙ home in
    rw (lands_is S t i mode seconds start (act_after S i P.element) P e) (let now = arrive S t i P in inr (at_next, lands_late S t i (act_at S i now.element) (leg_at S i now.element) (act_after S i now.element) (act_at S i (P.element + 1)).end)))

pub A_out : (S : Setup) (own : Owner) (p t i : ℕ) (b : Bool) → Lawful S → i < length S.persons → let P = person_of i (world_at S t) in Home S own p t b i P → Landed S own p t b i P (person_of i (A_world S t (world_at S t)))
A_out S own p t i b law lt h =
    let W = world_at S t in
    let P = person_of i W in
    let few = (always_kept S t).one_row in
    let c = length S.persons in
    let is : person_of i (A_world S t W) ≡ person_moves S t i (landing_moves S t i P) P =
    ap (λ ms. person_of i (run S t ms W)) (A_moves-are S t W) ∙ person-run S t i (flat_map (λ i. landing_turns S t i W) (below c)) W (omega arith)
    ∙ own-turn S t i c (λ n. landing_turns S t n W) (λ n g. of-quiet S t n i (landing_turns S t n W) g (landing_moves-of S t n (person_of n W))) lt P in
    rw is (landing_out S own p t i b P law lt (λ start e. odd_of S t i start law lt e) h)

-- PHASE B1
abbrev IsEven : Setup → ℕ → Person → Type 0
IsEven S i P = (end : ℕ) → P.place ≡ At (Some end) → (P.element % 2 ≡ 0) × (P.element / 2 < length (person_plan S i).legs)

even_of : (S : Setup) (t i : ℕ) → Lawful S → i < length S.persons → IsEven S i (person_of i (world_at S t))
even_of S t i law lt end e =
    let x = (person_of i (world_at S t)).element in
    let s = subst (λ pl. IsSoundPerson S i x pl) e ((law.sound t).persons i lt) in
    let more = law.one_more i lt in
    let ne : x / 2 + 1 ≢ length (person_plan S i).acts = eqb-false (x / 2 + 1) (length (person_plan S i).acts) s.1 in
    let within = s.0.1 in
    (s.0.0, omega arith)

sets_out_home : (S : Setup) (own : Owner) (p t i : ℕ) (b : Bool) (P : Person) (w : Leg) → Lawful S → i < length S.persons → P.element % 2 ≡ 0 → P.element / 2 < length (person_plan S i).legs → leg_at S i P.element ≡ w → eqb (owner_of S own (act_at S i P.element).link) p ≡ b →
    Home S own p t b i (person_moves S t i (Report (departs i (act_at S i P.element) w) ∷ sets_out S i w (act_after S i P.element)) P)
unfolding person_after
sets_out_home S own p t i b P (Car route) law lt ev leg f here = let q = eq-eqb i i refl in simp q tt
sets_out_home S own p t i b P (Teleport mode seconds) law lt ev leg f here =
    let q = eq-eqb i i refl in
    let from : eqb (flies_from S own i (P.element + 1)) p ≡ b = ap (λ (x : Act). eqb (owner_of S own x.link) p) (stay_even S i P.element ev) ∙ here in
    simp q ((λ h. absurd (omega arith)), (λ h. from))
sets_out_home S own p t i b P (Transit line access egress) law lt ev leg f here =
    let q = eq-eqb i i refl in
    let a = law.access i P.element line access egress lt leg f in
    simp q (ap (λ (x : ℕ). eqb (owner_of S own x) p) a ∙ here)

leaving_home : (S : Setup) (own : Owner) (p t i : ℕ) (b : Bool) (P : Person) → Lawful S → i < length S.persons → IsEven S i P → Home S own p t b i P → Home S own p t b i (person_moves S t i (leaving_moves S t i P) P)
leaving_home S own p t i b P law lt even h =
    leave_walk (λ ms. Home S own p t b i (person_moves S t i ms P)) S t i P h
    (λ e. let ev = even t e in sets_out_home S own p t i b P (leg_at S i P.element) law lt ev.0 ev.1 refl (subst (λ pl. IsHome S own p t b i P.element pl) e h))

-- what a person does in phase B1, after phase A
pub B1_plan : (S : Setup) (own : Owner) (p t i : ℕ) (b : Bool) → Lawful S → i < length S.persons → Home S own p t b i (person_of i (world_at S t)) →
    let P = person_of i (world_at S t) in let now = person_of i (A_world S t (world_at S t)) in
    ((now ≡ P) ⊎ (leaving_moves S t i now ≡ [])) × Home S own p t b i (person_moves S t i (leaving_moves S t i now) now)
B1_plan S own p t i b law lt h =
    let P = person_of i (world_at S t) in
    let now = person_of i (A_world S t (world_at S t)) in
    elim (A_out S own p t i b law lt h) [
      | inl e ↦ (inl e, rw e (leaving_home S own p t i b P law lt (even_of S t i law lt) h))
      | inr g ↦ let none : leaving_moves S t i now ≡ [] = g.1 in (inr none, subst (λ ms. Home S own p t b i (person_moves S t i ms now)) (sym none) g.0)
    ]

-- BEFORE PHASE C
pub home_mid : (S : Setup) (own : Owner) (p t i : ℕ) → Lawful S → i < length S.persons → Home S own p t (has S own (less S own) p t i) i (person_of i (mid S t))
home_mid S own p t i law lt = rw (mid_is S t i lt) (B1_plan S own p t i (has S own (less S own) p t i) law lt (home0 S own p t i law lt)).1

-- nobody waits at a stop on a link of others
waits_away : (S : Setup) (own : Owner) (p t : ℕ) (b : Bool) (l i element : ℕ) (w : Leg) (next : Act) (pl : Place) → eqb (owner_of S own l) p ≡ not b → IsHome S own p t b i element pl → waits_on S l i w next pl ≡ []
waits_away S own p t b l i element w next (Waiting stop since) o h =
    elim (cases_Bool (eqb (link_of_stop S stop) l)) [
      | inl e ↦ absurd (not_self b (sym h ∙ ap (λ (x : ℕ). eqb (owner_of S own x) p) (eqb-true (link_of_stop S stop) l e) ∙ o))
      | inr e ↦ rw e refl
    ]
waits_away S own p t b l i element w next _ o h = refl

pub waiter_away : (S : Setup) (own : Owner) (p t : ℕ) (b : Bool) (l i : ℕ) (P : Person) → eqb (owner_of S own l) p ≡ not b → Home S own p t b i P → waiter S l i P ≡ []
waiter_away S own p t b l i P o h = waits_away S own p t b l i P.element (leg_at S i P.element) (act_after S i P.element) P.place o h

-- nobody's car starts on a link of others
car_away : (S : Setup) (own : Owner) (p l i : ℕ) (b : Bool) (P : Person) (w : Leg) → Lawful S → i < length S.persons → P.element / 2 < length (person_plan S i).legs → leg_at S i P.element ≡ w → eqb (owner_of S own l) p ≡ not b → eqb (owner_of S own (act_at S i P.element).link) p ≡ b →
    Untouched l Wait (sets_out S i w (act_after S i P.element))
car_away S own p l i b P (Car route) law lt within f o h =
    let first = law.drive i P.element route lt within f in
    elim (cases_Bool (eqb (get_or route 0 0) l)) [
      | inl q ↦ absurd (not_self b (sym h ∙ ap (λ (x : ℕ). eqb (owner_of S own x) p) (sym first ∙ eqb-true (get_or route 0 0) l q) ∙ o))
      | inr q ↦ (q, tt)
    ]
car_away S own p l i b P (Teleport mode seconds) law lt within f o h = tt
car_away S own p l i b P (Transit line access egress) law lt within f o h = (refl, tt)

leaving_away : (S : Setup) (own : Owner) (p t l i : ℕ) (b : Bool) (P : Person) → Lawful S → i < length S.persons → IsEven S i P → eqb (owner_of S own l) p ≡ not b → Home S own p t b i P → Untouched l Wait (leaving_moves S t i P)
leaving_away S own p t l i b P law lt even o h =
    leave_walk (λ ms. Untouched l Wait ms) S t i P tt (λ e. (refl, car_away S own p l i b P (leg_at S i P.element) law lt (even t e).1 refl o (subst (λ pl. IsHome S own p t b i P.element pl) e h)))

pub leave_away : (S : Setup) (own : Owner) (p t l i : ℕ) → Lawful S → i < length S.persons → eqb (owner_of S own l) p ≡ not (has S own (less S own) p t i) → Untouched l Wait (leaving_turns S t i (A_world S t (world_at S t)))
leave_away S own p t l i law lt o =
    let b = has S own (less S own) p t i in
    let P = person_of i (world_at S t) in
    let h = home0 S own p t i law lt in
    elim (B1_plan S own p t i b law lt h).0 [
      | inl e ↦ rw e (leaving_away S own p t l i b P law lt (even_of S t i law lt) o h)
      | inr e ↦ subst (λ ms. Untouched l Wait ms) (sym e) tt
    ]
