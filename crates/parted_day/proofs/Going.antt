-- The part of a partition once those went who are in its parcels of a second.
use Rattle.traffic.proofs.Common.{◌≡◌, ℕ, suc, ◌+◌, ◌<◌, ◌≤◌, Bool, true, List, [], ◌∷◌, ◌∙◌, ap, refl, sym, subst, arith, inl, inr, cases_Bool}
use Rattle.traffic.proofs.Common.{true≢false, cond, eqb, eqb-true, eq-eqb, length, get_or, map, filter, count_by, nat_le, nat_tests, if◌then◌else◌, add-one}
use Rattle.traffic.proofs.Common.{Option, World, LinkState, link_state, at, holes_at, hole_of, storage_of, seconds_of, credit_of, person_of, nobody, world_at}
use Rattle.traffic.{proofs.Common.through, proofs.Common.Some, specs.declared.node_views.OutLink.OutLink}
use Rattle.traffic.specs.declared.stage.Stage.TheVariants.{Queue, Buffer, Wait, Bay}
use Rattle.traffic.specs.declared.world.{Person.Person, Row.Row, Waiter.Waiter}
use Rattle.std.{proofs.lemmas.List.ext_get_or, specs.List.AllByRecursion as Each}
use Rattle.town.specs.{Views.setup, declared.day_input.DayInput.DayInput}
use Rattle.calendar.specs.Waking.{wake_of}
use Rattle.law_in_range.{proofs.Days.chosen_fit, specs.Rows.IsFitWorld, specs.Setups.counts_in, specs.Setups.HaveFittingPlans}
use Rattle.law_joined_routes.{proofs.Routes.town_goes_on, specs.Going.GoesOn}
use Rattle.parts.specs.{Owners.Owner, Owners.owner_of, Owners.begins_in, Owners.lag, Parts.lasting, Parts.unheard, Parts.held}
use Rattle.law_own_worlds.{proofs.Fitting.unheard_fit, proofs.Knowing.unheard_known, proofs.Making.made, specs.Making.IsKnown}
use Rattle.law_own_seconds.specs.Seconds.{held_driven, world_driven}
use Rattle.law_parcels.specs.{Sending.is_gone, Worlds.world_held, Worlds.LetsGo}
use Rattle.law_parts_of_days.{proofs.Worlds.fit_setup, specs.Persons.PersonsStand}
use Rattle.link_seconds.specs.Seconds.{HaveLines}
use Rattle.part_links.specs.Links.{LinksStandAt, LinesStandAt, lies_on}
use Rattle.part_nodes.specs.Phase.{BufferWaits, AreAwaitedAt}
use Rattle.part_persons.{proofs.Joining.fit_as, specs.declared.persons.Persons.Persons}
use Rattle.part_places.specs.Taking.{AreTakenOf, begins_here, still, times}
use Rattle.part_places.proofs.Counting.{one, count_cons}
use Rattle.part_seconds.proofs.{Knowing.still_lasting, Knowing.waits_known, Names.in_second, Slots.link_there, Slots.link_own}
use Rattle.part_seconds.specs.{Leaving.HaveGone, Settling.places_known, Stands.NetworkStands, Stands.AreaStands, declared.area.Area.Area}

-- HOLES
-- what is counted of some is counted of all, where it holds of these alone
count_kept : (p : ℕ → Bool) (f : ℕ → ℕ) (q : ℕ → Bool) → ((s : ℕ) → p (f s) ≡ true → q s ≡ true)
    → (ss : List ℕ)
    → count_by p (map f (filter q ss)) ≡ count_by p (map f ss)
count_kept p f q h [] = refl
count_kept p f q h (s ∷ ss) =
    let rest = count_kept p f q h ss in
    let all = count_cons p (f s) (map f ss) in
    elim (cases_Bool (q s)) [
      | inl e ↦ rw e (count_cons p (f s) (map f (filter q ss)) ∙ ap (λ (n : ℕ). one p (f s) + n) rest ∙ sym all)
      | inr e ↦
          elim (cases_Bool (p (f s))) [
            | inl g ↦ absurd (true≢false (sym (h s g) ∙ e))
            | inr g ↦
                let none : 0 + count_by p (map f ss) ≡ count_by p (map f ss) = omega arith in
                rw e (rest ∙ sym (all ∙ ap (λ (b : Bool). cond b 1 0 + count_by p (map f ss)) g ∙ none))
          ]
    ]

-- when places come free that were left in these seconds, where a hole takes so long
abbrev free : ℕ → List ℕ → List ℕ
free h ss = map (λ (s : ℕ). s + h) ss

-- of the places that come free in second n or later as many are taken as of all, and as many come free in a second from then on
still_kept : (n h : ℕ) (ss : List ℕ) → still n (free h (lasting n h ss)) ≡ still n (free h ss)
still_kept n h ss = count_kept (λ (u : ℕ). nat_le n u) (λ (s : ℕ). s + h) (λ (s : ℕ). nat_le n (s + h)) (λ s e. e) ss

times_kept : (n u h : ℕ) (ss : List ℕ) → n ≤ u → times u (free h (lasting n h ss)) ≡ times u (free h ss)
times_kept n u h ss le =
    count_kept (λ (x : ℕ). eqb x u) (λ (s : ℕ). s + h) (λ (s : ℕ). nat_le n (s + h))
    (λ s e. (let same : s + h ≡ u = eqb-true (s + h) u e in grind (arith, nat_tests))) ss

abbrev place : ℕ → ℕ → ℕ → Option OutLink
place n s k = Some (record { taken = n; storage = s; seconds = k })

-- LINKS
abbrev state_with : List Row → List Row → List Row → List Row → ℕ → LinkState
state_with q b w y c = record { queue = q; buffer = b; wait = w; bay = y; credit = c }

same_state : (q b w y r c x z : List Row) (m n : ℕ) → q ≡ r → b ≡ c → w ≡ x → y ≡ z → m ≡ n
    → state_with q b w y m ≡ state_with r c x z n
same_state q b w y r c x z m n i j k l e =
    ap (λ (rows : List Row). state_with rows b w y m) i ∙ ap (λ (rows : List Row). state_with r rows w y m) j
    ∙ ap (λ (rows : List Row). state_with r c rows y m) k ∙ ap (λ (rows : List Row). state_with r c x rows m) l
    ∙ ap (λ (g : ℕ). state_with r c x z g) e

module _ (day : DayInput) (own : Owner) (p t : ℕ) (given : HaveFittingPlans day) (go : LetsGo (setup day) own p t) (A : Area)
    (h : AreaStands day own p (suc t) (suc t) (suc t) A (held_driven (setup day) own p t) (world_driven (setup day) own p t)) where
  open (in_second day own p t) use {S, end, V5 as V, B, num, size}
  open (in_second day own p (suc t)) use {V1 as now, K}

  -- PERSONS
  fit_now : IsFitWorld (counts_in day) now
  fit_now = unheard_fit S own (lag S own) p (suc t) (counts_in day) (fit_setup day given)

  module _ (P : Persons) (gone : HaveGone S own p t A.persons P) where
    row_is : (i : ℕ) → i < length P.world.persons → person_of i P.world ≡ person_of i now
    row_is i lt =
        let many = gone.count in
        let there : i < length A.persons.world.persons = omega arith in
        gone.each i there ∙ ap (λ (ps : List Person). if is_gone S own p t i then nobody else get_or ps i nobody) h.persons.persons
        ∙ sym (go.person i)

    rows_are : P.world.persons ≡ now.persons
    rows_are =
        ext_get_or nobody P.world.persons now.persons
        (gone.count ∙ ap (λ (ps : List Person). length ps) h.persons.persons ∙ go.all.persons ∙ sym go.all_held.persons) row_is

    persons_now : PersonsStand day (suc t) P now
    persons_now =
        let none = ap (λ (W : World). W.rows) gone.rest ∙ h.persons.rows in
        record {
          persons = rows_are;
          rows = none;
          fit = fit_as (counts_in day) A.persons.world now P.world h.persons.fit fit_now none rows_are
              (ap (λ (W : World). W.credits) gone.rest) (ap (λ (W : World). W.holes) gone.rest);
          followed = gone.followed S end (suc t) h.persons.followed;
          looks = gone.wakes ∙ h.persons.looks ∙ sym gone.count;
        }

  -- LINKS AND LINES
  state_is : (k : ℕ) → k < size → link_state (num k) V ≡ link_state (num k) now
  state_is k lt =
      let l = num k in
      let o = link_own S own p k lt in
      same_state (at l Queue V) (at l Buffer V) (at l Wait V) (at l Bay V) (at l Queue now) (at l Buffer now) (at l Wait now) (at l Bay now)
      (credit_of l V) (credit_of l now) (sym (go.list l Queue o)) (sym (go.list l Buffer o))
      (sym (go.list l Wait o)) (sym (go.list l Bay o))
      (sym (go.credit l (link_there S own p k lt) o))

  links_now : LinksStandAt num size S (suc t) A.network.links.items now
  links_now = record {
    count = h.network.links.count;
    credits = go.all_held.credits;
    numbers = h.network.links.numbers;
    raised = h.network.links.raised;
    lists = λ k lt. h.network.links.lists k lt ∙ state_is k lt;
  }

  lines_now : LinesStandAt num size S A.lines.items now
  lines_now = λ k lt. subst (λ (ws : List Waiter). HaveLines (lies_on S (num k)) A.lines.items ws) (sym (go.waits (num k))) (h.lines k lt)

  -- PLACES
  still_same : (m : ℕ) → begins_in S own m ≡ p
      → still (suc t) (free (hole_of S m) (B.holes m)) ≡ still (suc t) (free (hole_of S m) (K.holes m))
  still_same m b =
      sym (still_kept (suc t) (hole_of S m) (B.holes m))
      ∙ ap (λ (ss : List ℕ). still (suc t) (free (hole_of S m) ss)) (sym (go.holes m b))

  times_same : (m u : ℕ) → begins_in S own m ≡ p → suc t ≤ u
      → times u (free (hole_of S m) (B.holes m)) ≡ times u (free (hole_of S m) (K.holes m))
  times_same m u b from =
      sym (times_kept (suc t) u (hole_of S m) (B.holes m) from)
      ∙ ap (λ (ss : List ℕ). times u (free (hole_of S m) ss)) (sym (go.holes m b))

  places_now : AreTakenOf (begins_here S own p) (length S.links) end (suc t) (places_known S K) A.network.places
  places_now = record {
    places = λ m lt b.
        let o = eqb-true (begins_in S own m) p b in
        let rows = go.rows m o in
        let holes = still_same m o in
        let taken : B.rows m + still (suc t) (free (hole_of S m) (B.holes m))
        ≡ K.rows m + still (suc t) (free (hole_of S m) (K.holes m)) = omega arith in
        h.network.places.places m lt b ∙ ap (λ (n : ℕ). place n (storage_of S m) (seconds_of S m)) taken;
    holes = λ m lt b. h.network.places.holes m lt b ∙ still_same m (eqb-true (begins_in S own m) p b);
    freed = λ m u lt b from to. h.network.places.freed m u lt b from to ∙ times_same m u (eqb-true (begins_in S own m) p b) from;
  }

  -- WHO WAITS AT THE ENDS OF LINKS
  known : IsKnown S own p K
  known = unheard_known S own (lag S own) p (suc t) (counts_in day) (fit_setup day given)

  held_buffer : (l : ℕ) → owner_of S own l ≡ p → K.list l Buffer ≡ at l Buffer (world_at S (suc t))
  unfolding unheard
  held_buffer l o = let e : eqb (owner_of S own l) p ≡ true = eq-eqb (owner_of S own l) p o in rw e refl

  goes_now : (l : ℕ) → l < length S.links → owner_of S own l ≡ p → Each (GoesOn S l) (at l Buffer now)
  unfolding through
  goes_now l lt o =
      subst (λ (rows : List Row). Each (GoesOn S l) rows)
      (sym (sym ((made S own p (suc t) K known).world.list l Buffer) ∙ held_buffer l o))
      (town_goes_on day (suc t) [] (chosen_fit day given) l lt)

  taken_same : (m : ℕ) → m < length S.links → begins_in S own m ≡ p
      → length (at m Queue V) + still (suc t) (free (hole_of S m) (holes_at m V))
      ≡ length (at m Queue now) + still (suc t) (free (hole_of S m) (holes_at m now))
  taken_same m lt b =
      let same = go.taken m lt b in
      let x = still_lasting (suc t) (hole_of S m) (holes_at m V) in
      let y = still_lasting (suc t) (hole_of S m) (holes_at m now) in
      omega arith

  awaited_now : AreAwaitedAt (λ k. eqb (own k) p) S end (suc t) (suc t) A.network.node_wakes now
  awaited_now = λ n l nlt mine off lt to. (
      let o : owner_of S own l ≡ p = ap own to ∙ eqb-true (own n) p mine in
      waits_known S end (suc t) (suc t) (suc t) l (wake_of A.network.node_wakes n) V now (at l Buffer now) (goes_now l lt o)
      (λ m mlt from full. (let same = taken_same m mlt (ap own from ∙ o) in omega arith))
      (subst (λ (rows : List Row). BufferWaits S end (suc t) (suc t) l (wake_of A.network.node_wakes n) V rows) (sym (go.list l Buffer o))
      (h.network.awaited n l nlt mine off lt to)))

  network_now : NetworkStands day own p (suc t) (suc t) A.network K now
  network_now = record {
    links = links_now;
    asleep = h.network.asleep;
    places = places_now;
    nodes = h.network.nodes;
    awaited = awaited_now;
    only = h.network.only;
  }

  gone_stands : (P : Persons) → HaveGone S own p t A.persons P
      → AreaStands day own p (suc t) (suc t) (suc t) (record A { persons = P }) K now
  gone_stands P gone = record {
    persons = persons_now P gone;
    departures = h.departures;
    stops = h.stops;
    lines = lines_now;
    short = h.short;
    network = network_now;
    slots = h.slots;
    queues = λ k lt off.
        h.queues k lt off ∙ ap (λ (rows : List Row). length rows) (sym (go.list (num k) Queue (link_own S own p k lt)));
  }

-- once the turns of second t are over and those went who are in its parcels, it stands for what its partition holds then
pub next_stands : (day : DayInput) (own : Owner) (p t : ℕ) → HaveFittingPlans day → LetsGo (setup day) own p t
    → (A : Area) (P : Persons)
    → AreaStands day own p (t + 1) (t + 1) (t + 1) A (held_driven (setup day) own p t) (world_driven (setup day) own p t)
    → HaveGone (setup day) own p t A.persons P
    → AreaStands day own p (t + 1) (t + 1) (t + 1) (record A { persons = P }) (held (setup day) own p (t + 1))
    (world_held (setup day) own p (t + 1))
next_stands day own p t given go A P h gone =
    let S = setup day in
    let e = add-one t in
    subst (λ (n : ℕ). AreaStands day own p n n n (record A { persons = P }) (held S own p n) (world_held S own p n)) (sym e)
    (gone_stands day own p t given go A
    (subst (λ (n : ℕ). AreaStands day own p n n n A (held_driven S own p t) (world_driven S own p t)) e h) P gone)
