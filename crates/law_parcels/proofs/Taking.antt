-- What absorbing makes of the own world of a partition.
use Rattle.traffic.proofs.Common.{◌≡◌, ℕ, ◌+◌, ◌-◌, ◌<◌, ◌≤◌, List, [], ◌∷◌, ◌++◌, ◌∙◌, ap, refl, sym, subst, arith, inl, inr, cases_Bool, true, false, Bool}
use Rattle.traffic.proofs.Common.{not, length, length-append, flat_map, filter-append, replicate, nat_le, nat_tests, eqb, eqb-true, eq-eqb, Some, None, Option}
use Rattle.traffic.proofs.Common.{VehicleId, Act, Leg, Setup, World, at, rank, credit_of, person_of, world_at, below, hole_of, waiter, waiters, waits_on}
use Rattle.traffic.proofs.{Common.leg_at, Common.act_after, Each.each_append, Each.each_if, Each.each_flat_all}
use Rattle.traffic.specs.declared.{riders.Rider.Rider, stage.Stage.Stage, stage.Stage.TheVariants.Queue, world.Person.Person, world.Place.Place}
use Rattle.traffic.specs.declared.world.Place.TheVariants.{At, Teleporting, Waiting, Riding, Aborted}
use Rattle.traffic.specs.declared.world.Row.{Row}
use Rattle.std.specs.{List.AllByRecursion as Each, Prelude.is_some}
use Rattle.law_in_range.specs.{Rows.Counts, Setups.IsFitSetup}
use Rattle.parts.specs.Owners.{Owner, owner_of, begins_in, crosses, lag}
use Rattle.parts.specs.Parts.{Held, Passed, Parcel, lasting, mine, has, unheard, held, ready}
use Rattle.law_partitions.proofs.Absorbed.{had_before, found_all}
use Rattle.law_partitions.proofs.{Absorbing.Only, Ends.less, History.filter_copies, History.length_copies, Joined.given-self, Lags.lag-up}
use Rattle.law_partitions.specs.{Alone.riding, Alone.flying, Alone.person_in, Alone.given, Alone.freed_of, Premises.Lawful, Premises.Arrivals}
use Rattle.law_own_worlds.proofs.{Knowing.unheard_known, Knowing.ready_known, Making.made, Making.one_person}
use Rattle.law_own_worlds.specs.{Days.world_before, Making.or_nobody, Making.IsKnown, OwnWorlds.IsOwnWorld}
use Rattle.law_own_seconds.proofs.Places.{start_known}
use Rattle.law_parcels.proofs.{Hearing.only_flat, Hearing.brings, Hearing.holes_of_link, Hearing.left_places, Lists.same_flat}
use Rattle.law_parcels.specs.Hearing.{HearsFrom, IsReadyBy, heard_rows, heard_holes, heard_persons, last_or}
use Rattle.law_parcels.specs.Worlds.{world_held, taken_in, TakesIn}

-- WHO COMES rides or flies
abbrev pub Moves : Place → Type 0
Moves (Riding v) = Unit {0}
Moves (Teleporting start) = Unit {0}
Moves _ = ⊥

abbrev AllMove : List Person → Type 0
AllMove ps = Each (λ (P : Person). Moves P.place) ps

riders_move : (i : ℕ) (v : VehicleId) (rs : List Rider) (es : List ℕ) → AllMove (riding i v rs es)
riders_move i v [] es = tt
riders_move i v (r ∷ rs) [] = tt
riders_move i v (r ∷ rs) (e ∷ es) =
    each_append (λ (P : Person). Moves P.place) _ _ (each_if (λ (P : Person). Moves P.place) (eqb r.person i) _ _ (tt, tt) tt)
    (riders_move i v rs es)

comers_move : (i s : ℕ) (o : Option Parcel) → AllMove (person_in i s o)
comers_move i s None = tt
comers_move i s (Some x) =
    each_append (λ (P : Person). Moves P.place) _ _
    (each_flat_all (λ (P : Person). Moves P.place) (λ (y : Passed). riding i y.row.vehicle.id y.row.vehicle.riders y.elements)
    (λ y. riders_move i y.row.vehicle.id y.row.vehicle.riders y.elements) x.vehicles)
    (each_flat_all (λ (P : Person). Moves P.place) (flying i s)
    (λ f. each_if (λ (P : Person). Moves P.place) (eqb f.person i) _ _ (tt, tt) tt) x.flights)

first_moves : (P : Person) (xs : List Person) → Only P xs → AllMove xs → 1 ≤ length xs → Moves P.place
first_moves P [] only all some = absurd (omega arith)
first_moves P (x ∷ xs) only all some = subst (λ (Q : Person). Moves Q.place) only.0 all.0

waits_not : (S : Setup) (l i : ℕ) (w : Leg) (next : Act) (pl : Place) → Moves pl → waits_on S l i w next pl ≡ []
waits_not S l i w next (Riding v) h = refl
waits_not S l i w next (Teleporting start) h = refl
waits_not S l i w next (At end) h = absurd h
waits_not S l i w next (Waiting stop since) h = absurd h
waits_not S l i w next (Aborted a) h = absurd h

-- who rides or flies waits at no stop
pub moving_waits : (S : Setup) (l i : ℕ) (P : Person) → Moves P.place → waiter S l i P ≡ []
moving_waits S l i P h = waits_not S l i (leg_at S i P.element) (act_after S i P.element) P.place h

-- those who wait in two worlds, where each waits in both or in none
pub same_waiters : (S : Setup) (l : ℕ) (U V : World) → length U.persons ≡ length S.persons → length V.persons ≡ length S.persons
    → ((i : ℕ) → i < length S.persons → waiter S l i (person_of i U) ≡ waiter S l i (person_of i V)) → waiters S l U ≡ waiters S l V
unfolding waiters
same_waiters S l U V m n h =
    ap (λ (k : ℕ). flat_map (λ (i : ℕ). waiter S l i (person_of i U)) (below k)) m
    ∙ same_flat (λ (i : ℕ). waiter S l i (person_of i U)) (λ (i : ℕ). waiter S l i (person_of i V)) (length S.persons) h 0
    (length S.persons)
    (omega arith)
    ∙ sym (ap (λ (k : ℕ). flat_map (λ (i : ℕ). waiter S l i (person_of i V)) (below k)) n)

module _ (S : Setup) (own : Owner) (parts p t : ℕ) (z : Counts) (law : Lawful S) (arrivals : Arrivals S) (shares : (n : ℕ) → own n < parts)
    (fit : IsFitSetup z S) (ns : List ℕ) (hears : HearsFrom S own p ns) (becomes : IsReadyBy S own p t ns) where
  abbrev R : Held
  R = ready S own p t

  abbrev K : Held
  K = held S own p t

  abbrev after : World
  after = world_before S own p t

  abbrev before : World
  before = world_held S own p t

  known_ready : IsKnown S own p R
  known_ready = ready_known S own p t z fit

  known_held : IsKnown S own p K
  known_held = unheard_known S own (lag S own) p t z fit

  of_ready : IsOwnWorld S own p t (λ i. is_some (R.person i)) R after
  of_ready = made S own p t R known_ready

  of_held : IsOwnWorld S own p t (λ i. is_some (K.person i)) K before
  of_held = made S own p t K known_held

  queue_is : (l : ℕ) → owner_of S own l ≡ p → at l Queue after ≡ at l Queue before ++ heard_rows S own p t ns l
  queue_is l o =
      sym (of_ready.world.list l Queue) ∙ becomes.queue l o
      ∙ ap (λ (rows : List Row). rows ++ heard_rows S own p t ns l) (of_held.world.list l Queue)

  list_is : (l : ℕ) (s : Stage) → eqb (rank s) 0 ≡ false → at l s after ≡ at l s before
  list_is l s e = sym (of_ready.world.list l s) ∙ becomes.list l s e ∙ of_held.world.list l s

  credit_is : (l : ℕ) → l < length S.links → credit_of l after ≡ credit_of l before
  credit_is l lt = sym (of_ready.world.credit l lt) ∙ becomes.credit l ∙ of_held.world.credit l lt

  person_is : (i : ℕ) → i < length S.persons → person_of i after ≡ last_or (person_of i before) (heard_persons S own p t ns i)
  person_is i lt =
      one_person S own p t R known_ready i ∙ becomes.person i lt
      ∙ ap (λ (P : Person). last_or P (heard_persons S own p t ns i)) (sym (one_person S own p t K known_held i))

  -- WHO WAITS
  module _ (l i : ℕ) (lt : i < length S.persons) where
    abbrev P : Person
    P = person_of i (world_at S t)

    abbrev late : Bool
    late = has S own (lag S own) p t i

    abbrev now : Bool
    now = has S own (less S own) p t i

    ready_is : R.person i ≡ mine now P
    unfolding unheard
    ready_is = refl

    held_is : K.person i ≡ mine late P
    unfolding unheard
    held_is = refl

    abbrev of : ℕ → List Person
    of q = person_in i (t - lag S own q p) (given S own p t q)

    comes_moving : late ≡ false → now ≡ true → Moves P.place
    comes_moving e f =
        first_moves P (flat_map of (below parts))
        (only_flat P of (λ q. (brings S own parts p t law arrivals shares ns hears i lt q).0) (below parts))
        (each_flat_all (λ (Q : Person). Moves Q.place) of (λ q. comers_move i (t - lag S own q p) (given S own p t q)) (below parts))
        (found_all S own parts p t i law arrivals shares lt e f)

    kept_waiter : waiter S l i (or_nobody (R.person i)) ≡ waiter S l i (or_nobody (K.person i))
    kept_waiter =
        let with : (b : Bool) → Option Person = λ b. mine b P in
        elim (cases_Bool late) [
          | inl e ↦
              let f = had_before S own parts p t i law arrivals shares lt e in
              ap (λ (o : Option Person). waiter S l i (or_nobody o)) (ready_is ∙ ap with f ∙ sym (held_is ∙ ap with e))
          | inr e ↦
              elim (cases_Bool now) [
                | inl f ↦
                    ap (λ (o : Option Person). waiter S l i (or_nobody o)) (ready_is ∙ ap with f)
                    ∙ moving_waits S l i P (comes_moving e f)
                    ∙ sym (ap (λ (o : Option Person). waiter S l i (or_nobody o)) (held_is ∙ ap with e))
                | inr f ↦ ap (λ (o : Option Person). waiter S l i (or_nobody o)) (ready_is ∙ ap with f ∙ sym (held_is ∙ ap with e))
              ]
        ]

    world_waiter : waiter S l i (person_of i after) ≡ waiter S l i (person_of i before)
    world_waiter =
        ap (waiter S l i) (one_person S own p t R known_ready i) ∙ kept_waiter
        ∙ ap (waiter S l i) (sym (one_person S own p t K known_held i))

  waits_are : (l : ℕ) → waiters S l after ≡ waiters S l before
  waits_are l = same_waiters S l after before of_ready.world.one_each of_held.world.one_each (world_waiter l)

  -- PLACES
  copies_last : (h n s : ℕ) → t ≤ s + h → lasting t h (replicate n s) ≡ replicate n s
  copies_last h n s le = filter_copies (λ (x : ℕ). nat_le t (x + h)) n s (grind (arith, nat_tests))

  -- places of which parcels tell are not free yet
  heard_last : (m : ℕ) → begins_in S own m ≡ p → length (lasting t (hole_of S m) (heard_holes S own p t ns m))
      ≡ length (heard_holes S own p t ns m)
  heard_last m b =
      let o = owner_of S own m in
      let n = left_places S own parts p t law arrivals shares ns hears m in
      let s = t - lag S own o p in
      let e = holes_of_link S own parts p t law arrivals shares ns hears m in
      let many = ap (λ (hs : List ℕ). length hs) e ∙ length_copies n s in
      let last = ap (λ (hs : List ℕ). length (lasting t (hole_of S m) hs)) e in
      elim (cases_Bool (eqb (begins_in S own m) o)) [
        | inl f ↦
            let same : eqb o p ≡ true = eq-eqb o p (sym (eqb-true (begins_in S own m) o f) ∙ b) in
            let none : n ≡ 0 = ap (freed_of m) (given-self S own p t o same) in
            let nothing = ap (λ (k : ℕ). length (lasting t (hole_of S m) (replicate k s))) none in
            omega arith
        | inr f ↦
            let c : crosses S own m ≡ true = ap not f in
            let le = lag-up S own m c in
            let is : lag S own o (begins_in S own m) ≡ lag S own o p = ap (lag S own o) b in
            let whole = ap (λ (hs : List ℕ). length hs) (copies_last (hole_of S m) n s (omega arith)) ∙ length_copies n s in
            omega arith
      ]

  taken_is : (m : ℕ) → m < length S.links → begins_in S own m ≡ p → taken_in S t m after ≡ taken_in S t m before
  taken_is m lt b =
      let h = hole_of S m in
      let x = start_known S own p t R known_ready t (omega arith) m lt b in
      let y = start_known S own p t K known_held t (omega arith) m lt b in
      let rows = becomes.rows m b in
      let more = heard_holes S own p t ns m in
      let holes = ap (λ (hs : List ℕ). length (lasting t h hs)) (becomes.holes m b)
      ∙ ap (λ (hs : List ℕ). length hs) (filter-append (λ (s : ℕ). nat_le t (s + h)) (K.holes m) more)
      ∙ length-append (lasting t h (K.holes m)) (lasting t h more) in
      let last = heard_last m b in
      omega arith

  pub takes_in : TakesIn S own p t ns
  takes_in = record {
    all = record { persons = of_held.world.one_each; credits = of_held.world.credits };
    all_before = record { persons = of_ready.world.one_each; credits = of_ready.world.credits };
    queue = queue_is;
    list = list_is;
    credit = credit_is;
    person = person_is;
    waits = waits_are;
    taken = taken_is;
  }
