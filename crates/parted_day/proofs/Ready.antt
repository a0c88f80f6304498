-- The part of a partition once it absorbed all parcels that are due before a second.
use Rattle.traffic.proofs.Common.{◌≡◌, ℕ, ◌+◌, ◌-◌, ◌<◌, ◌≤◌, true, false, List, ◌++◌, ◌∙◌, ap, refl, sym, subst, arith, eqb, eqb-true, length, get_or, map}
use Rattle.traffic.proofs.Common.{map-append, Option, Setup, World, LinkState, link_state, at, holes_at, credit_of, hole_of, link_of_stop, nobody}
use Rattle.traffic.specs.declared.stage.Stage.TheVariants.{Queue, Buffer, Wait, Bay}
use Rattle.traffic.specs.declared.world.{Person.Person, Row.Row, Waiter.Waiter}
use Rattle.std.{proofs.lemmas.List.ext_get_or, specs.List.AllByRecursion as Each}
use Rattle.town.specs.{Views.setup, declared.day_input.DayInput.DayInput}
use Rattle.calendar.specs.{Due.Due, Due.due_at, Waking.wake_of}
use Rattle.law_in_range.specs.Setups.{counts_in, HaveFittingPlans}
use Rattle.law_joined_routes.specs.Going.{GoesOn}
use Rattle.parts.specs.{Owners.Owner, Owners.owner_of, Owners.begins_in, Parts.held}
use Rattle.law_partitions.specs.Laws.{IsOwner}
use Rattle.law_parcels.specs.Hearing.{heard_rows, heard_holes, heard_persons, last_or, IsReadyBy}
use Rattle.law_parcels.specs.Worlds.{world_held, taken_in, TakesIn}
use Rattle.law_parts_of_days.specs.{Persons.PersonsStand, Settling.queued_in}
use Rattle.link_seconds.specs.Seconds.{HaveLines, AreShort, lists_at}
use Rattle.queue_link.specs.Links.{LinkView}
use Rattle.node_seconds.specs.Networks.{lane}
use Rattle.part_links.specs.Links.{LinksStandAt, LinesStandAt}
use Rattle.part_nodes.specs.Phase.{AreAwaitedAt, GoOnThere, taken_before}
use Rattle.part_persons.proofs.Joining.{fit_as}
use Rattle.part_places.specs.Taking.{AreTakenOf, begins_here}
use Rattle.part_seconds.proofs.{Knowing.still_lasting, Names.in_second, Slots.link_there, Slots.link_own, Vacated.taken_alike, Waking.awaited_on}
use Rattle.part_seconds.specs.{Settling.places_known, Stands.NetworkStands, Stands.AreaStands, declared.area.Area.Area}
use Rattle.part_seconds.proofs.Knowing as knowing
use Rattle.parted_day.specs.Absorbed.{with_rows, places_heard, HasAbsorbed}

-- NUMBERS
below_as : (i a b : ℕ) → i < a → a ≡ b → i < b
below_as i a b lt e = omega arith

most_as : (a b t : ℕ) → a ≡ b → b ≤ t → a ≤ t
most_as a b t e le = omega arith

left_over : (a n b : ℕ) → a + n ≡ b → a ≡ b - n
left_over a n b e = omega arith

-- LISTS
same_state : (A B : LinkState) → A.queue ≡ B.queue → A.buffer ≡ B.buffer → A.wait ≡ B.wait → A.bay ≡ B.bay → A.credit ≡ B.credit → A ≡ B
same_state A B q b w y c = λ i. record { queue = q i; buffer = b i; wait = w i; bay = y i; credit = c i }

-- how many are in the queue of the link in a slot
queue_in : (l k u : ℕ) (vs : List LinkView) (X : World) → lists_at u (lane vs k) ≡ link_state l X → queued_in vs k ≡ length (at l Queue X)
queue_in l k u vs X e = ap (λ (L : LinkState). length L.queue) e

-- as many places of link m are taken in both worlds, by either count
taken_as : (S : Setup) (t m : ℕ) (V W : World) → taken_in S t m W ≡ taken_in S t m V → taken_before S t m V ≤ taken_before S t m W
taken_as S t m V W e =
    let x = still_lasting t (hole_of S m) (holes_at m V) in
    let y = still_lasting t (hole_of S m) (holes_at m W) in
    omega arith

module _ (day : DayInput) (own : Owner) (parts p t : ℕ) (given : HaveFittingPlans day) (shares : IsOwner own parts) (ns : List ℕ)
    (takes : TakesIn (setup day) own p t ns) (becomes : IsReadyBy (setup day) own p t ns) (old new : Area)
    (h : AreaStands day own p t t t old (held (setup day) own p t) (world_held (setup day) own p t))
    (done : HasAbsorbed day own p t ns old new) where
  open (in_second day own p t) use {S, end, V1 as V, V2 as W, K, H as R, num, size}

  -- PERSONS
  abbrev came : ℕ → List Person
  came i = heard_persons S own p t ns i

  persons_are : new.persons.world.persons ≡ W.persons
  persons_are =
      let before = ap (λ (ps : List Person). length ps) h.persons.persons ∙ takes.all.persons in
      ext_get_or nobody new.persons.world.persons W.persons (done.persons.count ∙ before ∙ sym takes.all_before.persons) (λ i lt. (
      let was = below_as i (length new.persons.world.persons) (length old.persons.world.persons) lt done.persons.count in
      let there = below_as i (length old.persons.world.persons) (length S.persons) was before in
      done.persons.each i was
      ∙ ap (λ (ps : List Person). last_or (get_or ps i nobody) (came i)) h.persons.persons
      ∙ sym (takes.person i there)))

  persons_stand : PersonsStand day t new.persons W
  persons_stand =
      let rest = done.persons.rest in
      let rows = ap (λ (X : World). X.rows) rest ∙ h.persons.rows in
      record {
        persons = persons_are;
        rows = rows;
        fit = fit_as (counts_in day) old.persons.world W new.persons.world h.persons.fit
            (knowing.fit_before day own parts p t given shares) rows
            persons_are (ap (λ (X : World). X.credits) rest) (ap (λ (X : World). X.holes) rest);
        followed = done.persons.followed t h.persons.followed;
        looks = done.persons.wakes;
      }

  -- LINKS
  -- a link with the lists of V has those of W with what came
  state_is : (l : ℕ) (v : LinkView) → l < length S.links → owner_of S own l ≡ p → lists_at t v ≡ link_state l V
      → lists_at t (with_rows (heard_rows S own p t ns l) v) ≡ link_state l W
  state_is l v lt o e =
      let rows = heard_rows S own p t ns l in
      let queue : v.lists.queue ++ rows ≡ at l Queue W
      = ap (λ (L : LinkState). L.queue ++ rows) e ∙ sym (takes.queue l o) in
      let buffer : v.lists.buffer ≡ at l Buffer W = ap (λ (L : LinkState). L.buffer) e ∙ sym (takes.list l Buffer refl) in
      let wait : v.lists.wait ≡ at l Wait W = ap (λ (L : LinkState). L.wait) e ∙ sym (takes.list l Wait refl) in
      let bay : v.lists.bay ≡ at l Bay W = ap (λ (L : LinkState). L.bay) e ∙ sym (takes.list l Bay refl) in
      let credit : (lists_at t v).credit ≡ credit_of l W = ap (λ (L : LinkState). L.credit) e ∙ sym (takes.credit l lt) in
      same_state (lists_at t (with_rows rows v)) (link_state l W) queue buffer wait bay credit

  stand : LinksStandAt num size S t new.network.links.items W
  stand = record {
    count = done.count ∙ h.network.links.count;
    credits = takes.all_before.credits;
    numbers = λ k lt. record {
      numbers = ap (λ (v : LinkView). v.numbers) (done.links k lt) ∙ (h.network.links.numbers k lt).numbers;
    };
    raised = λ k lt.
        most_as (lane new.network.links.items k).raised (lane old.network.links.items k).raised t
        (ap (λ (v : LinkView). v.raised) (done.links k lt)) (h.network.links.raised k lt);
    lists = λ k lt.
        ap (lists_at t) (done.links k lt)
        ∙ state_is (num k) (lane old.network.links.items k) (link_there S own p k lt) (link_own S own p k lt) (h.network.links.lists k lt);
  }

  -- PLACES
  -- as many as before are taken
  same_taken : (m : ℕ) → m < length S.links → begins_in S own m ≡ p → taken_before S t m V ≤ taken_before S t m W
  same_taken m lt b = taken_as S t m V W (takes.taken m lt b)

  rows_left : (m : ℕ) → begins_here S own p m ≡ true → R.rows m ≡ K.rows m - length (heard_holes S own p t ns m)
  rows_left m b =
      left_over (R.rows m) (length (heard_holes S own p t ns m)) (K.rows m) (becomes.rows m (eqb-true (begins_in S own m) p b))

  frees_are : (m : ℕ) → begins_here S own p m ≡ true
      → map (λ (s : ℕ). s + hole_of S m) (R.holes m)
      ≡ map (λ (s : ℕ). s + hole_of S m) (K.holes m) ++ map (λ (s : ℕ). s + hole_of S m) (heard_holes S own p t ns m)
  frees_are m b =
      let f : ℕ → ℕ = λ s. s + hole_of S m in
      ap (map f) (becomes.holes m (eqb-true (begins_in S own m) p b)) ∙ map-append f (K.holes m) (heard_holes S own p t ns m)

  places_are : AreTakenOf (begins_here S own p) (length S.links) end t (places_known S R) new.network.places
  places_are =
      taken_alike (begins_here S own p) (length S.links) end t (places_heard S own p t ns (places_known S K)) (places_known S R)
      new.network.places
      (record { storage = λ m lt b. refl; seconds = λ m lt b. refl; queued = λ m lt b. rows_left m b; frees = λ m lt b. frees_are m b })
      (done.places h.network.places)

  -- NODES
  -- nobody comes into a buffer
  same_buffers : (l : ℕ) → at l Buffer W ≡ at l Buffer V
  same_buffers l = takes.list l Buffer refl

  goes : GoOnThere (λ n. eqb (own n) p) S V
  goes = λ l lt e.
      subst (λ (xs : List Row). Each (GoesOn S l) xs)
      ((knowing.second day own parts p t given shares).lists l Buffer refl ∙ same_buffers l)
      (knowing.goes_early day own parts p t given shares l lt e)

  awaited : AreAwaitedAt (λ k. eqb (own k) p) S end t t new.network.node_wakes W
  awaited =
      subst (λ (ws : List (Option ℕ)). AreAwaitedAt (λ k. eqb (own k) p) S end t t ws W) (sym done.nodes)
      (awaited_on S own p end t t t old.network.node_wakes V W goes (λ l lt o. same_buffers l) same_taken h.network.awaited)

  network : NetworkStands day own p t t new.network R W
  network = record {
    links = stand;
    asleep = done.asleep h.network.asleep;
    places = places_are;
    nodes = ap (λ (ws : List (Option ℕ)). length ws) done.nodes ∙ h.network.nodes;
    awaited = awaited;
    only = λ k off. ap (λ (ws : List (Option ℕ)). wake_of ws k) done.nodes ∙ h.network.only k off;
  }

  -- QUEUES
  queues_are : (k : ℕ) → k < size → begins_here S own p (num k) ≡ false → get_or new.queues.items k 0 ≡ length (at (num k) Queue W)
  queues_are k lt off =
      let was : get_or old.queues.items k 0 ≡ queued_in old.network.links.items k
      = h.queues k lt off ∙ sym (queue_in (num k) k t old.network.links.items V (h.network.links.lists k lt)) in
      done.queues k lt was ∙ queue_in (num k) k t new.network.links.items W (stand.lists k lt)

  -- THE PART
  pub ready_stands : AreaStands day own p t t t new R W
  ready_stands = record {
    persons = persons_stand;
    departures = λ s from to. ap (λ (d : Due). due_at s d) done.departures ∙ h.departures s from to;
    stops = ap (λ (ls : List (List Waiter)). length ls) done.lines ∙ h.stops;
    lines = subst (λ (ls : List (List Waiter)). LinesStandAt num size S ls W) (sym done.lines) (λ k lt.
        subst (λ (ws : List Waiter). HaveLines (λ s. eqb (link_of_stop S s) (num k)) old.lines.items ws) (sym (takes.waits (num k)))
        (h.lines k lt));
    short = subst (λ (ls : List (List Waiter)). AreShort ls) (sym done.lines) h.short;
    network = network;
    slots = done.slots ∙ h.slots;
    queues = queues_are;
  }
