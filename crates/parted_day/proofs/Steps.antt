-- A part absorbs the parcels of its neighbours, one after the other.
use Rattle.traffic.proofs.Common.{◌≡◌, ℕ, zero, suc, ◌+◌, ◌-◌, ◌<◌, true, false, List, [], ◌∷◌, ◌++◌, ◌∙◌, ap, refl, sym, subst, arith, inl, inr, cases_Bool}
use Rattle.traffic.proofs.Common.{cases_lt, append-nil, append_assoc, length, get_or, take, drop, map, replicate, Option, None, Some, hole_of}
use Rattle.traffic.specs.declared.world.Row.{Row}
use Rattle.std.{proofs.lemmas.List.take_more, specs.List.AllByRecursion as Each}
use Rattle.rows.specs.declared.settings.Dwelling.{Dwelling}
use Rattle.town.specs.{Views.setup, declared.day_input.DayInput.DayInput}
use Rattle.parts.specs.{Owners.Owner, Owners.near, Owners.lag, Parts.Parcel as Sent, Parts.held, Parts.out}
use Rattle.law_partitions.specs.Alone.{rows_to, freed_of, person_in, given}
use Rattle.law_parcels.specs.{Hearing.heard_rows, Hearing.heard_holes, Hearing.heard_persons, Hearing.IsReadyBy, Hearing.IsBetween, Worlds.world_held}
use Rattle.law_parts_of_days.specs.Settling.{queued_in}
use Rattle.step_core.specs.{Views.IsHeard, declared.part.Border.Border}
use Rattle.divided_day.specs.Slots.{AreSlots}
use Rattle.queue_link.specs.Links.{LinkView}
use Rattle.node_move.specs.declared.crossings.Entering.{Entering}
use Rattle.node_seconds.specs.Networks.{lane, is_among, slot_in, accepted_all}
use Rattle.part_links.specs.Links.{IsLink, AreAsleep}
use Rattle.part_nodes.proofs.Entered.{length_all, ComesBy, all_accepted_asleep}
use Rattle.part_places.specs.Taking.{Taking, AreTakenOf, begins_here}
use Rattle.part_seconds.proofs.{Coming.come_next, Coming.come_none, Coming.same_come, Driven.put_length, Driven.put_other, Driven.put_here, Lists.flat_push}
use Rattle.part_seconds.{proofs.Names.in_second, proofs.Vacated.taken_alike, specs.Arriving.entered, specs.Contents.parcel_of}
use Rattle.part_seconds.specs.{Parcels.nothing, Settling.places_known, Stands.AreaStands, declared.area.Area.Area, declared.contents.Contents.Contents}
use Rattle.parted_day.proofs.{Borders.given_is, Borders.given_none, Freed.few_heard, Freed.can_hear, Freed.places_next, Nothing.nothing_more, Queues.none_to}
use Rattle.parted_day.proofs.Vehicles.{come_by, accepted_is}
use Rattle.parted_day.specs.Absorbed.{IsRight, entered_slots, entering_with, with_rows, places_heard, HasAbsorbedParcel, HasAbsorbed}

-- LISTS
-- a list about one of its places
split_at : (k : ℕ) (xs : List ℕ) → k < length xs → xs ≡ take k xs ++ get_or xs k 0 ∷ drop (suc k) xs
split_at k [] lt = absurd (omega arith)
split_at zero (x ∷ xs) lt = refl
split_at (suc k) (x ∷ xs) lt = ap (λ (ys : List ℕ). x ∷ ys) (split_at k xs (omega arith))

no_rows : (v : LinkView) → v ≡ with_rows [] v
no_rows v = ap (λ (rs : List Row). record v { lists = record v.lists { queue = rs } }) (sym (append-nil v.lists.queue))

more_rows : (rows more : List Row) (v : LinkView) → with_rows more (with_rows rows v) ≡ with_rows (rows ++ more) v
more_rows rows more v =
    ap (λ (rs : List Row). record v { lists = record v.lists { queue = rs } }) (append_assoc v.lists.queue rows more)

module _ (day : DayInput) (own : Owner) (p t : ℕ) (old : Area)
    (h : AreaStands day own p t t t old (held (setup day) own p t) (world_held (setup day) own p t)) where
  open (in_second day own p t) use {S, end, num, size}

  abbrev D : Dwelling
  D = S.settings.dwell

  abbrev K : Taking
  K = places_known S (held S own p t)

  -- NOTHING YET
  pub none_absorbed : HasAbsorbed day own p t [] old old
  none_absorbed = record {
    persons = come_none day (heard_persons S own p t []) old.persons h.persons.looks (λ i lt. refl);
    departures = refl;
    lines = refl;
    count = refl;
    links = λ k lt. no_rows (lane old.network.links.items k);
    asleep = λ a. a;
    places = λ a.
        taken_alike (begins_here S own p) (length S.links) end t K (places_heard S own p t [] K) old.network.places (record {
          storage = λ m lt b. refl;
          seconds = λ m lt b. refl;
          queued = λ m lt b. (let e : K.queued m - 0 ≡ K.queued m = omega arith in e);
          frees = λ m lt b. append-nil (K.frees m);
        }) a;
    nodes = refl;
    slots = refl;
    queues = λ k lt e. e;
  }

  -- SOME PARCELS
  module _ (ns : List ℕ) (now : Area) (g : HasAbsorbed day own p t ns old now) where
    many_links : length now.network.links.items ≡ size
    many_links = g.count ∙ h.network.links.count

    are_links : (k : ℕ) → k < size → IsLink S (num k) (lane now.network.links.items k)
    are_links k lt = record { numbers = ap (λ (v : LinkView). v.numbers) (g.links k lt) ∙ (h.network.links.numbers k lt).numbers }

    many_queues : length now.queues.items ≡ size
    many_queues = g.slots ∙ h.slots

    -- what a call asks for that takes in one more
    pub many_persons : length now.persons.world.persons ≡ length old.persons.world.persons
    many_persons = g.persons.count

    pub many_wakes : length now.network.link_wakes ≡ length now.network.links.items
    many_wakes = (g.asleep h.network.asleep).count

    -- A NEIGHBOUR THAT SENT NOTHING
    module _ (q : ℕ) (none : given S own p t q ≡ None) where
      same_rows : (l : ℕ) → heard_rows S own p t (ns ++ q ∷ []) l ≡ heard_rows S own p t ns l
      same_rows l =
          let before = heard_rows S own p t ns l in
          flat_push (λ (a : ℕ). rows_to l (given S own p t a)) ns q
          ∙ ap (λ (o : Option Sent). before ++ rows_to l o) none ∙ append-nil before

      same_holes : (m : ℕ) → heard_holes S own p t (ns ++ q ∷ []) m ≡ heard_holes S own p t ns m
      same_holes m =
          let before = heard_holes S own p t ns m in
          flat_push (λ (a : ℕ). replicate (freed_of m (given S own p t a)) (t - lag S own a p)) ns q
          ∙ ap (λ (o : Option Sent). before ++ replicate (freed_of m o) (t - lag S own q p)) none ∙ append-nil before

      same_persons : (i : ℕ) → heard_persons S own p t (ns ++ q ∷ []) i ≡ heard_persons S own p t ns i
      same_persons i =
          let before = heard_persons S own p t ns i in
          flat_push (λ (a : ℕ). person_in i (t - lag S own a p) (given S own p t a)) ns q
          ∙ ap (λ (o : Option Sent). before ++ person_in i (t - lag S own q p) o) none ∙ append-nil before

      none_more : HasAbsorbed day own p t (ns ++ q ∷ []) old now
      none_more = record {
        persons =
            same_come day (heard_persons S own p t ns) (heard_persons S own p t (ns ++ q ∷ [])) old.persons now.persons g.persons
            (λ i. sym (same_persons i));
        departures = g.departures;
        lines = g.lines;
        count = g.count;
        links = λ k lt. g.links k lt ∙ ap (λ (rs : List Row). with_rows rs (lane old.network.links.items k)) (sym (same_rows (num k)));
        asleep = g.asleep;
        places = λ a.
            taken_alike (begins_here S own p) (length S.links) end t (places_heard S own p t ns K) (places_heard S own p t (ns ++ q ∷ []) K)
            now.network.places (record {
              storage = λ m lt b. refl;
              seconds = λ m lt b. refl;
              queued = λ m lt b. ap (λ (hs : List ℕ). K.queued m - length hs) (same_holes m);
              frees = λ m lt b. ap (λ (hs : List ℕ). K.frees m ++ map (λ (s : ℕ). s + hole_of S m) hs) (same_holes m);
            }) (g.places a);
        nodes = g.nodes;
        slots = g.slots;
        queues = g.queues;
      }

    -- A NEIGHBOUR THAT SENT A PARCEL
    module _ (slots : List ℕ) (are : AreSlots (setup day) own slots) (all rest : List ℕ) (q s : ℕ) (x : Contents) (new : Area)
        (other : near (setup day) own q p ≡ true) (due : t ≡ s + lag (setup day) own q p) (right : IsRight (setup day) own q p s x)
        (between : IsBetween (setup day) own q p s) (split : all ≡ ns ++ q ∷ rest) (becomes : IsReadyBy (setup day) own p t all)
        (e : HasAbsorbedParcel day slots s x now new) where
      abbrev links : List LinkView
      links = now.network.links.items

      abbrev place : ℕ → Option ℕ
      place = slot_in slots links

      abbrev es : List Entering
      es = entering_with day s x

      abbrev came : Sent
      came = out S own q p s

      second_is : t - lag S own q p ≡ s
      second_is = omega arith

      es_are : es ≡ map entered came.vehicles
      es_are = ap (λ (y : Sent). map entered y.vehicles) right

      one_given : given S own p t q ≡ Some came
      one_given = given_is S own p q s t other due

      more_came : (l : ℕ) → heard_rows S own p t (ns ++ q ∷ []) l ≡ heard_rows S own p t ns l ++ rows_to l (Some came)
      more_came l =
          flat_push (λ (a : ℕ). rows_to l (given S own p t a)) ns q
          ∙ ap (λ (o : Option Sent). heard_rows S own p t ns l ++ rows_to l o) one_given

      more_persons : (i : ℕ) → heard_persons S own p t (ns ++ q ∷ []) i
          ≡ heard_persons S own p t ns i ++ person_in i s (Some (parcel_of S s x))
      more_persons i =
          let before = heard_persons S own p t ns i in
          flat_push (λ (a : ℕ). person_in i (t - lag S own a p) (given S own p t a)) ns q
          ∙ ap (λ (u : ℕ). before ++ person_in i u (given S own p t q)) second_is
          ∙ ap (λ (o : Option Sent). before ++ person_in i s o) one_given
          ∙ ap (λ (y : Sent). before ++ person_in i s (Some y)) (sym right)

      lane_is : (k : ℕ) → k < size → lane new.network.links.items k ≡ with_rows (rows_to (num k) (Some came)) (lane links k)
      lane_is k lt =
          ap (λ (vs : List LinkView). lane vs k) (e.links ∙ ap (λ (xs : List Entering). accepted_all place s xs links) es_are)
          ∙ accepted_is S own p q s t slots are links many_links are_links other due between k lt

      more_links : (k : ℕ) → k < size
          → lane new.network.links.items k ≡ with_rows (heard_rows S own p t (ns ++ q ∷ []) (num k)) (lane old.network.links.items k)
      more_links k lt =
          let v = lane old.network.links.items k in
          let more = rows_to (num k) (Some came) in
          lane_is k lt ∙ ap (λ (w : LinkView). with_rows more w) (g.links k lt) ∙ more_rows (heard_rows S own p t ns (num k)) more v
          ∙ ap (λ (rs : List Row). with_rows rs v) (sym (more_came (num k)))

      all_come_by : Each (ComesBy place t s links) es
      all_come_by =
          subst (λ (xs : List Entering). Each (ComesBy place t s links) xs) (sym es_are)
          (come_by S own p q s t slots are links many_links are_links other due between)

      rest_on : AreAsleep D end t old.network.links.items old.network.link_wakes
          → AreAsleep D end t new.network.links.items new.network.link_wakes
      rest_on a =
          subst (λ (vs : List LinkView). AreAsleep D end t vs new.network.link_wakes) (sym e.links)
          (subst (λ (ws : List (Option ℕ)). AreAsleep D end t (accepted_all place s es links) ws) (sym e.wakes)
          (all_accepted_asleep place D end t s es links now.network.link_wakes all_come_by (g.asleep a)))

      more_places : AreTakenOf (begins_here S own p) (length S.links) end t K old.network.places
          → AreTakenOf (begins_here S own p) (length S.links) end t (places_heard S own p t (ns ++ q ∷ []) K) new.network.places
      more_places a =
          let few = few_heard S own p t all becomes in
          places_next S own p q s t all ns rest K x right other due between split few end (length S.links) new.network.places
          (e.places (begins_here S own p) t (places_heard S own p t ns K)
          (can_hear S own p q s t all ns rest K x right other due between split few) (g.places a))

      many_new : length new.network.links.items ≡ length links
      many_new = ap (λ (vs : List LinkView). length vs) e.links ∙ length_all place s es links

      -- nobody came to a link whose slot is not counted again
      same_queue : (k : ℕ) → k < size → is_among k (entered_slots slots es) ≡ false
          → queued_in new.network.links.items k ≡ queued_in links k
      same_queue k lt off =
          let v = lane links k in
          let none : rows_to (num k) (Some came) ≡ []
          = none_to slots (num k) k came.vehicles (are.each p k lt)
          (ap (λ (xs : List Entering). is_among k (entered_slots slots xs)) (sym es_are) ∙ off) in
          ap (λ (w : LinkView). length w.lists.queue) (lane_is k lt ∙ ap (λ (rs : List Row). with_rows rs v) none)
          ∙ ap (λ (rs : List Row). length rs) (append-nil v.lists.queue)

      more_queues : (k : ℕ) → k < size → get_or old.queues.items k 0 ≡ queued_in old.network.links.items k
          → get_or new.queues.items k 0 ≡ queued_in new.network.links.items k
      more_queues k lt first =
          let ks = entered_slots slots es in
          let after = new.network.links.items in
          let is = ap (λ (qs : List ℕ). get_or qs k 0) e.queues in
          let n = many_queues in
          elim (cases_Bool (is_among k ks)) [
            | inl a ↦ is ∙ put_here after ks now.queues.items k (omega arith) a
            | inr a ↦ is ∙ put_other after ks now.queues.items k a ∙ g.queues k lt first ∙ sym (same_queue k lt a)
          ]

      one_more : HasAbsorbed day own p t (ns ++ q ∷ []) old new
      one_more = record {
        persons =
            come_next day (heard_persons S own p t ns) (λ i. person_in i s (Some (parcel_of S s x)))
            (heard_persons S own p t (ns ++ q ∷ []))
            old.persons now.persons new.persons g.persons e.persons more_persons;
        departures = e.departures ∙ g.departures;
        lines = e.lines ∙ g.lines;
        count = many_new ∙ g.count;
        links = more_links;
        asleep = rest_on;
        places = more_places;
        nodes = e.nodes ∙ g.nodes;
        slots =
            ap (λ (qs : List ℕ). length qs) e.queues
            ∙ put_length new.network.links.items (entered_slots slots es) now.queues.items ∙ g.slots;
        queues = more_queues;
      }

  -- A PLACE OF THE INBOX
  -- that of the neighbour at this border
  pub absorbed_next : (slots : List ℕ) → AreSlots S own slots → (all : List ℕ) (k : ℕ) (b : Border) → k < length all
      → get_or all k 0 ≡ b.neighbour → near S own b.neighbour p ≡ true → b.lag ≡ lag S own b.neighbour p → IsReadyBy S own p t all
      → ((s : ℕ) → IsBetween S own b.neighbour p s) → (x : Contents) (now new : Area) → IsHeard nothing (IsRight S own) p t b x
      → HasAbsorbed day own p t (take k all) old now → HasAbsorbedParcel day slots (t - b.lag) x now new
      → HasAbsorbed day own p t (take (k + 1) all) old new
  absorbed_next slots are all k b lt is other lags becomes between x now new heard g e =
      let q = b.neighbour in
      let ns = take k all in
      let last : take (k + 1) all ≡ ns ++ q ∷ []
      = take_more all k 0 lt ∙ ap (λ (n : ℕ). ns ++ n ∷ []) is in
      let split : all ≡ ns ++ q ∷ drop (suc k) all
      = split_at k all lt ∙ ap (λ (n : ℕ). ns ++ n ∷ drop (suc k) all) is in
      let more : HasAbsorbed day own p t (ns ++ q ∷ []) old new
      = elim (cases_lt t b.lag) [
        | inl early ↦
            let nothing_came : HasAbsorbedParcel day slots (t - b.lag) nothing now new
            = subst (λ (y : Contents). HasAbsorbedParcel day slots (t - b.lag) y now new) (heard.none early) e in
            let none : given S own p t q ≡ None = given_none S own p q t (omega arith) in
            none_more ns new (nothing_more day own p t ns slots (t - b.lag) old now new g nothing_came) q none
        | inr le ↦
            one_more ns now g slots are all (drop (suc k) all) q (t - b.lag) x new other (omega arith) (heard.came le)
            (between (t - b.lag)) split becomes e
      ] in
      subst (λ (rows : List ℕ). HasAbsorbed day own p t rows old new) (sym last) more
