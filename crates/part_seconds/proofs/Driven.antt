-- The part of a partition once its links have had their turns in a second.
use Rattle.traffic.proofs.Common.{◌≡◌, ℕ, zero, suc, ◌+◌, ◌-◌, ◌<◌, ◌≤◌, Bool, true, false, not, ◌&&◌, List, [], ◌∷◌, ◌++◌, ◌∙◌, ap, refl, sym, subst, arith}
use Rattle.traffic.proofs.Common.{inl, inr, cases_Bool, eqb, eqb-true, eqb-false, eq-eqb, ne_eqb, true≢false, if◌then◌else◌, nat_lt, length, length-set, get_or}
use Rattle.traffic.proofs.Common.{get_or-set_same, get_or-set_other, take, set, map, map-append, filter, flat_map, replicate, append-nil, Option, Setup, World}
use Rattle.traffic.proofs.Common.{Turn, Event, LinkState, at, holes_at, hole_of, world_at, below, numbers, told, turns, link_turns, moves_of, persons_after}
use Rattle.traffic.specs.declared.{moves.Move.Move, moves.Occurrence.Occurrence, stage.Stage.TheVariants.Queue, world.Waiter.Waiter}
use Rattle.std.proofs.Math.Seq.{take-append_seam}
use Rattle.rows.specs.declared.settings.Dwelling.{Dwelling}
use Rattle.events.specs.declared.event.Phase.TheVariants as phase
use Rattle.town.specs.{Views.setup, declared.day_input.DayInput.DayInput}
use Rattle.calendar.specs.{Due.Due, Due.AreIn, Due.due_at, Waking.wake_of, Waking.is_woken, Waking.woken}
use Rattle.law_in_range.specs.Setups.{counts_in, HaveFittingPlans}
use Rattle.law_sleeping.specs.Marks.{before_links}
use Rattle.parts.specs.{Owners.Owner, Owners.owner_of, Owners.begins_in, Owners.links_of, Parts.Freed, Parts.is_some_freed, Parts.freed}
use Rattle.law_partitions.specs.{Alone.my_links, Laws.IsOwner}
use Rattle.law_own_worlds.specs.Days.{my_link_turns}
use Rattle.law_own_seconds.{proofs.Places.more_holes, specs.Leaving.left_by}
use Rattle.law_own_seconds.specs.Seconds.{held_crossed, held_driven, world_crossed, world_driven}
use Rattle.law_parts_of_days.proofs.{Awaited.ends_length, Beginning.links_of as town_links, Beginning.dwell_of, Hearing.heard_stand, Taken.some_hole}
use Rattle.law_parts_of_days.proofs.Worlds.{consistent_setup, phases_are_sound}
use Rattle.law_parts_of_days.specs.Settling.{link_at, queued_in, wake_ends}
use Rattle.part_seconds.proofs.{Knowing.still_lasting, Names.in_second, Slots.slot_of, Slots.link_there, Slots.link_own, Slots.all_links, Slots.numbered}
use Rattle.part_seconds.proofs.Turning.{can_turn_at, stops_there_at, are_there}
use Rattle.part_seconds.proofs.Vacated.{IsLike, taken_alike, in_among, all_storage, all_seconds, all_other, all_here}
use Rattle.part_seconds.{proofs.Waking.number_at, proofs.Waking.ends_spare, proofs.Waking.awaited_after, specs.Contents.freed_row}
use Rattle.part_seconds.specs.Settling.{places_known, left_all, AreFew, AreApart, gone_from, freed_at, put_queues}
use Rattle.part_seconds.specs.{Stands.AreaStands, declared.area.Area.Area, declared.contents.FreedPlaces.FreedPlaces}
use Rattle.link_seconds.specs.Seconds.{AreShort, IsThere}
use Rattle.queue_link.specs.Links.{LinkView}
use Rattle.node_seconds.specs.Networks.{lane, is_among, AreOnce}
use Rattle.part_links.proofs.Heard.{heard_world}
use Rattle.part_links.{proofs.Whole.woken_there, proofs.Whole.woken_once, specs.Links.AreNumbered, specs.Links.LinksStandAt, specs.Links.LinesStandAt}
use Rattle.part_links.specs.{Links.StopsThere, Links.CanTurn, Links.AreAsleep, Links.lies_on, Phase.IsPhaseBy, Phase.IsPhaseAt, Phase.turns_at}
use Rattle.part_nodes.specs.Phase.{taken_before}
use Rattle.part_persons.{proofs.Early.woken_all, specs.Dues.AreFollowedIn}
use Rattle.part_places.specs.{Taking.Taking, Taking.AreTakenOf, Taking.begins_here, declared.places.Places.Places}
use Rattle.law_parcels.specs.Sending.{freed_over}
use Rattle.divided_day.specs.Slots.{link_in, slot_count, AreSlots}
use Rattle.part_seconds.proofs.Knowing as knowing

-- what a slice of a list was, once it is put back
pub back : {X : Type 0} (n : ℕ) (xs ys : List X) → n ≡ length xs → take n (xs ++ ys) ≡ xs
back n xs ys e = ap (λ (k : ℕ). take k (xs ++ ys)) e ∙ take-append_seam xs ys

-- THE TABLE OF QUEUES
pub put_length : (links : List LinkView) (ks qs : List ℕ) → length (put_queues links ks qs) ≡ length qs
unfolding put_queues
put_length links [] qs = refl
put_length links (k ∷ ks) qs = put_length links ks (set qs k (queued_in links k)) ∙ length-set qs k (queued_in links k)

pub put_other : (links : List LinkView) (ks qs : List ℕ) (j : ℕ) → is_among j ks ≡ false → get_or (put_queues links ks qs) j 0 ≡ get_or qs j 0
unfolding put_queues
put_other links [] qs j a = refl
put_other links (k ∷ ks) qs j a =
    elim (cases_Bool (eqb k j)) [
      | inl q ↦ absurd (let f : true ≡ false = (rw q at a) in true≢false f)
      | inr q ↦
          put_other links ks (set qs k (queued_in links k)) j (let f = (rw q at a) in f)
          ∙ get_or-set_other qs k j (queued_in links k) 0 (λ e. eqb-false k j q (sym e))
    ]

pub put_here : (links : List LinkView) (ks qs : List ℕ) (j : ℕ) → j < length qs → is_among j ks ≡ true → get_or (put_queues links ks qs) j 0 ≡ queued_in links j
unfolding put_queues
put_here links [] qs j lt a = absurd (true≢false (sym a))
put_here links (k ∷ ks) qs j lt a =
    let next = set qs k (queued_in links k) in
    let many = length-set qs k (queued_in links k) in
    elim (cases_Bool (is_among j ks)) [
      | inl b ↦ put_here links ks next j (omega arith) b
      | inr b ↦
          elim (cases_Bool (eqb k j)) [
            | inl q ↦
                let e : k ≡ j = eqb-true k j q in
                put_other links ks next j b ∙ ap (λ (n : ℕ). get_or (set qs n (queued_in links n)) j 0) e
                ∙ get_or-set_same qs j (queued_in links j) 0 lt
            | inr q ↦ absurd (let f : false ≡ true = sym b ∙ (rw q at a) in true≢false (sym f))
          ]
    ]

-- HOLES
free_all : (h k t : ℕ) → map (λ (s : ℕ). s + h) (replicate k t) ≡ replicate k (t + h)
free_all h zero t = refl
free_all h (suc k) t = ap (λ (xs : List ℕ). (t + h) ∷ xs) (free_all h k t)

more_free : (h k t : ℕ) (hs gs : List ℕ) → gs ≡ hs ++ replicate k t
    → map (λ (s : ℕ). s + h) gs ≡ map (λ (s : ℕ). s + h) hs ++ replicate k (t + h)
more_free h k t hs gs e =
    let f = λ (s : ℕ). s + h in
    ap (map f) e ∙ map-append f hs (replicate k t) ∙ ap (λ (xs : List ℕ). map f hs ++ xs) (free_all h k t)

-- ROWS THAT LEFT
-- of a link, if any did
freed_if : (ℕ → Freed) → ℕ → List Freed
freed_if g l = if is_some_freed (g l) then g l ∷ [] else []

some_kept : (g : ℕ → Freed) (q : ℕ → Bool) (ns : List ℕ)
    → filter is_some_freed (map g (filter q ns)) ≡ flat_map (λ (l : ℕ). if q l then freed_if g l else []) ns
unfolding freed_if
some_kept g q [] = refl
some_kept g q (n ∷ ns) =
    let rest = some_kept g q ns in
    elim (cases_Bool (q n)) [
      | inl e ↦
          elim (cases_Bool (is_some_freed (g n))) [
            | inl f ↦ rw (e, f) (ap (λ (xs : List Freed). g n ∷ xs) rest)
            | inr f ↦ rw (e, f) rest
          ]
      | inr e ↦ rw e rest
    ]

flat_of_map : (f : ℕ → List Freed) (g : ℕ → ℕ) (ks : List ℕ) → flat_map f (map g ks) ≡ flat_map (λ (k : ℕ). f (g k)) ks
flat_of_map f g [] = refl
flat_of_map f g (k ∷ ks) = ap (λ (xs : List Freed). f (g k) ++ xs) (flat_of_map f g ks)

map_flat : (f : FreedPlaces → Freed) (g : ℕ → List FreedPlaces) (ks : List ℕ) → map f (flat_map g ks) ≡ flat_map (λ (k : ℕ). map f (g k)) ks
map_flat f g [] = refl
map_flat f g (k ∷ ks) = map-append f (g k) (flat_map g ks) ∙ ap (λ (xs : List Freed). map f (g k) ++ xs) (map_flat f g ks)

flat_alike : (f g : ℕ → List Freed) (count : ℕ) (ks : List ℕ) → AreIn count ks → ((k : ℕ) → k < count → f k ≡ g k) → flat_map f ks ≡ flat_map g ks
flat_alike f g count [] there h = refl
flat_alike f g count (k ∷ ks) there h =
    ap (λ (xs : List Freed). xs ++ flat_map f ks) (h k there.0) ∙ ap (λ (xs : List Freed). g k ++ xs) (flat_alike f g count ks there.1 h)

skip_none : (f : ℕ → List Freed) (awake : ℕ → Bool) (k n : ℕ) → ((i : ℕ) → i < k + n → awake i ≡ false → f i ≡ [])
    → flat_map f (filter awake (numbers k n)) ≡ flat_map f (numbers k n)
skip_none f awake k zero h = refl
skip_none f awake k (suc n) h =
    let rest = skip_none f awake (k + 1) n (λ i lt e. h i (omega arith) e) in
    elim (cases_Bool (awake k)) [
      | inl e ↦ rw e (ap (λ (xs : List Freed). f k ++ xs) rest)
      | inr e ↦ rw e (rest ∙ ap (λ (xs : List Freed). xs ++ flat_map f (numbers (k + 1) n)) (sym (h k (omega arith) e)))
    ]

filter_both : (a b : ℕ → Bool) (ns : List ℕ) → filter (λ (n : ℕ). a n && b n) ns ≡ filter b (filter a ns)
filter_both a b [] = refl
filter_both a b (n ∷ ns) =
    elim (cases_Bool (a n)) [
      | inl e ↦
          elim (cases_Bool (b n)) [
            | inl f ↦ rw (e, f) (ap (λ (xs : List ℕ). n ∷ xs) (filter_both a b ns))
            | inr f ↦ rw (e, f) (filter_both a b ns)
          ]
      | inr e ↦ rw e (filter_both a b ns)
    ]

-- as many places of the links that begin in p are taken as this says, in the second after t
abbrev AreTakenThen : DayInput → Owner → ℕ → ℕ → Taking → Places → Type 0
AreTakenThen day own p t U P =
    AreTakenOf (begins_here (setup day) own p) (length (setup day).links) day.town.now.settings.end_second (t + 1) U P

-- What follows for the part of a partition whose links had their turns in second t: it has these new ones then, and in these slots are those
-- that had one. The code goes on with lists that are equal to theirs.
pub record Follows (day : DayInput) (own : Owner) (p t : ℕ) (A : Area) (new : List LinkView) (ks : List ℕ) : Type 0 where
  pub there : (ls : List LinkView) (js : List ℕ) → ls ≡ new → js ≡ ks → AreIn (length ls) js
  pub in_town : (ls : List LinkView) → ls ≡ new → (k : ℕ) → k < length ls → link_at ls k < length day.town.now.network.links
  pub many : (ls : List LinkView) (qs : List ℕ) → ls ≡ new → qs ≡ A.queues.items → length qs ≡ length ls
  -- what settling makes of the places
  pub settled :
      (ls : List LinkView) (js : List ℕ) (P Q : Places) → ls ≡ new → js ≡ ks
      → ((U : Taking) → AreApart ls → AreFew (setup day) own p ls U → AreTakenThen day own p t U P
      → AreTakenThen day own p t (left_all (setup day) own p t ls js U) Q)
      → AreTakenThen day own p t (places_known (setup day) (held_crossed (setup day) own p t)) P
      → AreTakenThen day own p t
      (left_all (setup day) own p t new ks (places_known (setup day) (held_crossed (setup day) own p t))) Q
  pub woken :
      (ls : List LinkView) (js : List ℕ) (ws : List (Option ℕ)) → ls ≡ new → js ≡ ks
      → ws ≡ wake_ends (setup day) t ls js A.network.node_wakes → ws ≡ wake_ends (setup day) t new ks A.network.node_wakes
  -- the queues of links that begin elsewhere
  pub freed_rows :
      (ls : List LinkView) (js qs : List ℕ) (out : List FreedPlaces) → ls ≡ new → js ≡ ks → qs ≡ A.queues.items
      → out ≡ flat_map (freed_at (setup day) own p ls qs) js → map freed_row out ≡ freed_over (setup day) own p t
  pub put :
      (ls : List LinkView) (js qs out : List ℕ) → ls ≡ new → js ≡ ks → qs ≡ A.queues.items → out ≡ put_queues ls js qs
      → out ≡ put_queues new ks A.queues.items
  pub stands :
      (C : Area) (first out : List Event) (spoken said : List Occurrence) → C.network.links.items ≡ new → spoken ≡ []
      → IsPhaseBy (link_in (setup day) own p) (slot_count (setup day) own p) (my_link_turns (setup day) own p t) (setup day)
      day.town.now.settings.end_second t (world_crossed (setup day) own p t) new C.lines.items C.network.link_wakes first out spoken said
      → AreTakenThen day own p t
      (left_all (setup day) own p t new ks (places_known (setup day) (held_crossed (setup day) own p t))) C.network.places
      → C.network.node_wakes ≡ wake_ends (setup day) t new ks A.network.node_wakes
      → length C.lines.items ≡ length A.lines.items → AreShort C.lines.items → C.queues.items ≡ put_queues new ks A.queues.items
      → C.persons.world ≡ record A.persons.world { persons = persons_after (setup day) t said A.persons.world.persons }
      → ((u : ℕ) → AreFollowedIn day u A.persons.world.persons A.persons.wakes → AreFollowedIn day u C.persons.world.persons C.persons.wakes)
      → length C.persons.wakes ≡ length C.persons.world.persons → C.departures ≡ A.departures
      → AreaStands day own p (t + 1) (t + 1) (t + 1) C (held_driven (setup day) own p t) (world_driven (setup day) own p t)

module _ (day : DayInput) (own : Owner) (parts p t : ℕ) (slots : List ℕ) (given : HaveFittingPlans day) (shares : IsOwner own parts)
    (are : AreSlots (setup day) own slots) (A : Area)
    (h : AreaStands day own p (t + 1) (t + 1) t A (held_crossed (setup day) own p t) (world_crossed (setup day) own p t)) where
  open (in_second day own p t) use {S, end, V4, V5, G, B, num, size}

  abbrev old : List LinkView
  old = A.network.links.items

  abbrev left : ℕ → ℕ
  left m = left_by S own p t m

  -- BEFORE THEIR TURNS
  pub able : (k : ℕ) → k < length old → CanTurn (length A.lines.items) t (lane old k)
  able =
      can_turn_at num size S (counts_in day) t (length A.lines.items) old V4 (knowing.stays day own parts p t given shares).crossed_is
      (h.stops ∙ (knowing.fit day own parts p t given shares).stops) h.network.links

  pub stop : (k : ℕ) → k < size → StopsThere S (num k) (lane old k)
  stop =
      stops_there_at num size S t old V4 h.network.links (λ k s lt.
      knowing.each_crossed day own parts p t given shares (IsThere (lies_on S (num k)) (num k)) (num k) s (link_own S own p k lt)
      (are_there S (num k) s (before_links S t (world_at S t)) (consistent_setup day given)
      (phases_are_sound day t (phase.A ∷ phase.B1 ∷ phase.B2 ∷ phase.C ∷ []) given)))

  turns_are : turns_at num size S t V4 ≡ my_link_turns S own p t
  turns_are = ap (λ (ns : List ℕ). turns S t (link_turns S t) ns V4) (all_links S own p)

  -- what they make of links, lines and wakes, and tell, by what the call says of any links that stand for a world
  pub turned : (links : List LinkView) (lines : List (List Waiter)) (wakes : List (Option ℕ)) (first out : List Event)
      (spoken said : List Occurrence)
      → ((number : ℕ → ℕ) (count : ℕ) (U : Setup) (V : World) → AreNumbered U count number → U.settings.dwell ≡ day.town.now.settings.dwell
      → LinksStandAt number count U t old V → LinesStandAt number count U A.lines.items V
      → ((k : ℕ) → k < count → StopsThere U (number k) (lane old k)) → AreAsleep day.town.now.settings.dwell end t old A.network.link_wakes
      → IsPhaseAt number count U end t V links lines wakes first out spoken said)
      → IsPhaseBy num size (my_link_turns S own p t) S end t V4 links lines wakes first out spoken said
  turned links lines wakes first out spoken said f =
      subst (λ (us : List Turn). IsPhaseBy num size us S end t V4 links lines wakes first out spoken said) turns_are
      (f num size S V4 (numbered S own p slots are) (dwell_of day) h.network.links h.lines stop
      (subst (λ (D : Dwelling). AreAsleep D end t old A.network.link_wakes) (dwell_of day) h.network.asleep))

  -- BEHIND THEM
  module _ (new : List LinkView) (ks : List ℕ) (stand : LinksStandAt num size S (t + 1) new V5)
      (same : (k : ℕ) → is_among k ks ≡ false → lane new k ≡ lane old k) (due : ks ≡ woken t A.network.link_wakes) where
    at_new : (k : ℕ) → k < size → link_at new k ≡ num k
    at_new k lt = number_at num size S (t + 1) k new V5 stand lt

    queue_new : (k : ℕ) → k < size → queued_in new k ≡ length (at (num k) Queue V5)
    queue_new k lt = ap (λ (L : LinkState). length L.queue) (stand.lists k lt)

    queue_old : (k : ℕ) → k < size → queued_in old k ≡ length (at (num k) Queue V4)
    queue_old k lt = ap (λ (L : LinkState). length L.queue) (h.network.links.lists k lt)

    pub there : AreIn (length new) ks
    there = woken_there t (length new) A.network.link_wakes ks due (h.network.asleep.count ∙ h.network.links.count ∙ sym stand.count)

    pub once : AreOnce ks
    once = woken_once t A.network.link_wakes ks due

    pub apart : AreApart new
    apart = λ j k jlt klt e.
        let n = stand.count in
        let j_in : j < size = omega arith in
        let k_in : k < size = omega arith in
        (numbered S own p slots are).apart j k j_in k_in (sym (at_new j j_in) ∙ e ∙ at_new k k_in)

    pub in_town : (k : ℕ) → k < length new → link_at new k < length day.town.now.network.links
    in_town k klt =
        let n = stand.count in
        let k_in : k < size = omega arith in
        let lt = link_there S own p k k_in in
        let e = at_new k k_in in
        let m = town_links day in
        omega arith

    -- of a link that had no turn nobody left
    none_left : (k : ℕ) → k < size → is_among k ks ≡ false → left (num k) ≡ 0
    none_left k lt off =
        let a = queue_new k lt in
        let b = queue_old k lt in
        let c = ap (λ (v : LinkView). length v.lists.queue) (same k off) in
        let q = (knowing.leaving day own parts p t given shares).queue (num k) (link_there S own p k lt) in
        omega arith

    pub few : AreFew S own p new (places_known S G)
    few = λ k klt b.
        let n = stand.count in
        let k_in : k < size = omega arith in
        let e = at_new k k_in in
        let m = num k in
        let begins : begins_here S own p m ≡ true = ap (begins_here S own p) (sym e) ∙ b in
        let own_rows = (knowing.places day own parts p t given shares).own_rows m (link_own S own p k k_in) (eqb-true (begins_in S own m) p begins) in
        let q = (knowing.leaving day own parts p t given shares).queue m (link_there S own p k k_in) in
        let c = queue_new k k_in in
        let r : G.rows (link_at new k) ≡ G.rows m = ap G.rows e in
        omega arith

    -- PLACES
    abbrev T : Taking
    T = places_known S G

    record IsLeft (m : ℕ) : Type 0 where
      rows : (left_all S own p t new ks T).queued m + left m ≡ G.rows m
      frees : (left_all S own p t new ks T).frees m ≡ T.frees m ++ replicate (left m) (t + hole_of S m)

    untouched : (m : ℕ) → IsLike T (left_all S own p t new ks T) m → left m ≡ 0 → IsLeft m
    untouched m like none = record {
      rows = (let a = like.queued in omega arith);
      frees = like.frees ∙ sym (append-nil (T.frees m)) ∙ ap (λ (n : ℕ). T.frees m ++ replicate n (t + hole_of S m)) (sym none);
    }

    own_left : (m k : ℕ) → k < size → num k ≡ m → begins_here S own p m ≡ true → IsLeft m
    own_left m k lt is b =
        let n = stand.count in
        let klt : k < length new = omega arith in
        let link_is : link_at new k ≡ m = at_new k lt ∙ is in
        let o : owner_of S own m ≡ p = ap (owner_of S own) (sym is) ∙ link_own S own p k lt in
        elim (cases_Bool (is_among k ks)) [
          | inl a ↦
              let H = all_here S own p t new apart ks m k T there once klt a link_is b in
              let own_rows = (knowing.places day own parts p t given shares).own_rows m o (eqb-true (begins_in S own m) p b) in
              let mlt : m < length S.links = subst (λ (l : ℕ). l < length S.links) is (link_there S own p k lt) in
              let q = (knowing.leaving day own parts p t given shares).queue m mlt in
              let c = queue_new k lt ∙ ap (λ (l : ℕ). length (at l Queue V5)) is in
              let hq = H.queued in
              let gone : G.rows m - queued_in new k ≡ left m = omega arith in
              record {
                rows = omega arith;
                frees = H.frees ∙ ap (λ (i : ℕ). T.frees m ++ replicate i (t + hole_of S m)) gone;
              }
          | inr a ↦
              let like = all_other S own p t new ks m T (λ j among e. (
              let j_in = in_among (length new) j ks there among in
              let same_slot : j ≡ k = apart j k j_in klt (e ∙ sym link_is) in
              true≢false (sym among ∙ ap (λ (i : ℕ). is_among i ks) same_slot ∙ a))) in
              untouched m like (ap left (sym is) ∙ none_left k lt a)
        ]

    is_left : (m : ℕ) → m < length S.links → begins_here S own p m ≡ true → IsLeft m
    is_left m lt b =
        elim (cases_Bool (eqb (owner_of S own m) p)) [
          | inl o ↦ let s = slot_of S own p m lt (eqb-true (owner_of S own m) p o) in own_left m s.0 s.1.0 s.1.1 b
          | inr off ↦
              let like = all_other S own p t new ks m T (λ j among e. (
              let n = stand.count in
              let j_in = in_among (length new) j ks there among in
              let j_lt : j < size = omega arith in
              let o : owner_of S own m ≡ p = ap (owner_of S own) (sym e ∙ at_new j j_lt) ∙ link_own S own p j j_lt in
              true≢false (sym (eq-eqb (owner_of S own m) p o) ∙ off))) in
              untouched m like ((knowing.leaving day own parts p t given shares).none m off)
        ]

    settled : (Q : Places) → AreTakenOf (begins_here S own p) (length S.links) end (t + 1) (left_all S own p t new ks T) Q
        → AreTakenOf (begins_here S own p) (length S.links) end (t + 1) (places_known S B) Q
    settled Q taken =
        let K = knowing.leaving day own parts p t given shares in
        taken_alike (begins_here S own p) (length S.links) end (t + 1) (left_all S own p t new ks T) (places_known S B) Q (record {
          storage = λ m lt b. sym (all_storage S own p t new ks m T);
          seconds = λ m lt b. sym (all_seconds S own p t new ks m T);
          queued = λ m lt b.
              let a = (is_left m lt b).rows in
              let c = K.known_rows m lt (eqb-true (begins_in S own m) p b) in
              omega arith;
          frees = λ m lt b. more_free (hole_of S m) (left m) t (G.holes m) (B.holes m) (K.known_holes m) ∙ sym (is_left m lt b).frees;
        }) taken

    -- QUEUES
    queues_are : (qs : List ℕ) → length qs ≡ size
        → ((k : ℕ) → k < size → begins_here S own p (num k) ≡ false → get_or qs k 0 ≡ length (at (num k) Queue V4))
        → (k : ℕ) → k < size → begins_here S own p (num k) ≡ false → get_or (put_queues new ks qs) k 0 ≡ length (at (num k) Queue V5)
    queues_are qs many was k lt off =
        elim (cases_Bool (is_among k ks)) [
          | inl a ↦ put_here new ks qs k (omega arith) a ∙ queue_new k lt
          | inr a ↦
              let q = (knowing.leaving day own parts p t given shares).queue (num k) (link_there S own p k lt) in
              let z = none_left k lt a in
              let e = put_other new ks qs k a in
              let w = was k lt off in
              omega arith
        ]

    abbrev link_moves : List Move
    link_moves = moves_of (my_link_turns S own p t)

    row_of : ℕ → Freed
    row_of l = record { link = l; rows = freed l link_moves }

    abbrev ends_here : ℕ → Bool
    ends_here l = not (begins_here S own p l)

    told_row : (k : ℕ) → List Freed
    told_row k = if ends_here (num k) then freed_if row_of (num k) else []

    one_row : (qs : List ℕ)
        → ((k : ℕ) → k < size → begins_here S own p (num k) ≡ false → get_or qs k 0 ≡ length (at (num k) Queue V4))
        → (k : ℕ) → k < size → map freed_row (freed_at S own p new qs k) ≡ told_row k
    unfolding told_row freed_if row_of
    one_row qs was k lt =
        let e = at_new k lt in
        elim (cases_Bool (begins_here S own p (num k))) [
          | inl b ↦
              let c : begins_here S own p (link_at new k) ≡ true = ap (begins_here S own p) e ∙ b in
              rw (c, b) refl
          | inr b ↦
              let c : begins_here S own p (link_at new k) ≡ false = ap (begins_here S own p) e ∙ b in
              let q = (knowing.leaving day own parts p t given shares).queue (num k) (link_there S own p k lt) in
              let w = was k lt b in
              let n = queue_new k lt in
              let gone : gone_from new qs k ≡ freed (num k) link_moves = omega arith in
              elim (cases_Bool (nat_lt 0 (freed (num k) link_moves))) [
                | inl some ↦
                    let f : nat_lt 0 (gone_from new qs k) ≡ true = ap (nat_lt 0) gone ∙ some in
                    rw (c, b, f, some) (same_rows (link_at new k) (num k) (gone_from new qs k) (freed (num k) link_moves) e gone)
                | inr none ↦
                    let f : nat_lt 0 (gone_from new qs k) ≡ false = ap (nat_lt 0) gone ∙ none in
                    rw (c, b, f, none) refl
              ]
        ]
      where
        same_rows : (a b m n : ℕ) → a ≡ b → m ≡ n
            → (let x : Freed = record { link = a; rows = m } in x) ∷ [] ≡ (let y : Freed = record { link = b; rows = n } in y) ∷ []
        same_rows a b m n e f =
            ap (λ (i : ℕ). (let x : Freed = record { link = i; rows = m } in x) ∷ []) e
            ∙ ap (λ (i : ℕ). (let x : Freed = record { link = b; rows = i } in x) ∷ []) f

    none_told : (k : ℕ) → k < size → is_among k ks ≡ false → told_row k ≡ []
    unfolding told_row freed_if row_of
    none_told k lt a =
        let z : freed (num k) link_moves ≡ 0 = none_left k lt a in
        elim (cases_Bool (ends_here (num k))) [
          | inl e ↦ rw (e, z) refl
          | inr e ↦ rw e refl
        ]

    freed_is : (qs : List ℕ)
        → ((k : ℕ) → k < size → begins_here S own p (num k) ≡ false → get_or qs k 0 ≡ length (at (num k) Queue V4))
        → map freed_row (flat_map (freed_at S own p new qs) ks) ≡ freed_over S own p t
    unfolding told_row row_of
    freed_is qs was =
        let n = stand.count in
        let awake = is_woken t A.network.link_wakes in
        let count : length A.network.link_wakes ≡ size = h.network.asleep.count ∙ h.network.links.count in
        let ks_are : ks ≡ filter awake (below size)
        = due ∙ woken_all t A.network.link_wakes ∙ ap (λ (i : ℕ). filter awake (below i)) count in
        let within : AreIn size ks = subst (λ (i : ℕ). AreIn i ks) n there in
        let idle : (i : ℕ) → i < 0 + size → awake i ≡ false → told_row i ≡ []
        = λ i lt off. none_told i (omega arith) (ap (is_among i) ks_are ∙ not_among awake i (below size) off) in
        map_flat freed_row (freed_at S own p new qs) ks
        ∙ flat_alike (λ k. map freed_row (freed_at S own p new qs k)) told_row size ks within (one_row qs was)
        ∙ ap (flat_map told_row) ks_are ∙ skip_none told_row awake 0 size idle
        ∙ sym (flat_of_map (λ l. if ends_here l then freed_if row_of l else []) num (below size))
        ∙ ap (flat_map (λ l. if ends_here l then freed_if row_of l else [])) (all_links S own p)
        ∙ sym (some_kept row_of ends_here (my_links S own p))
        ∙ ap (λ (ns : List ℕ). filter is_some_freed (map row_of ns)) (sym (filter_both (λ l. eqb (owner_of S own l) p) ends_here (links_of S)))
      where
        not_among : (q : ℕ → Bool) (i : ℕ) (ns : List ℕ) → q i ≡ false → is_among i (filter q ns) ≡ false
        not_among q i [] e = refl
        not_among q i (m ∷ ns) e =
            elim (cases_Bool (q m)) [
              | inl f ↦
                  let ne : eqb m i ≡ false = ne_eqb m i (λ z. true≢false (sym f ∙ ap q z ∙ e)) in
                  rw f (rw ne (not_among q i ns e))
              | inr f ↦ rw f (not_among q i ns e)
            ]

    -- THE PART
    taken_more : (m : ℕ) → m < length S.links → begins_in S own m ≡ p → taken_before S (t + 1) m V4 ≤ taken_before S (t + 1) m V5
    taken_more m lt b =
        let K = knowing.leaving day own parts p t given shares in
        let hole = some_hole S m in
        let q = K.queue m lt in
        let a = more_holes (t + 1) (hole_of S m) t (left m) (holes_at m V4) (holes_at m V5) (omega arith) (K.holes m) in
        let x = still_lasting (t + 1) (hole_of S m) (holes_at m V4) in
        let y = still_lasting (t + 1) (hole_of S m) (holes_at m V5) in
        omega arith

    -- what follows, list by list
    pub follows : Follows day own p t A new ks
    follows = record {
      there = λ ls js e f.
          subst (λ (vs : List LinkView). AreIn (length vs) js) (sym e) (subst (λ (ns : List ℕ). AreIn (length new) ns) (sym f) there);
      in_town = λ ls e.
          subst (λ (vs : List LinkView). (k : ℕ) → k < length vs → link_at vs k < length day.town.now.network.links) (sym e) in_town;
      many = λ ls qs e f.
          ap (λ (xs : List ℕ). length xs) f ∙ h.slots ∙ sym stand.count ∙ sym (ap (λ (vs : List LinkView). length vs) e);
      settled = λ ls js P Q e f g taken.
          subst (λ (ns : List ℕ). AreTakenThen day own p t (left_all S own p t new ns T) Q) f
          (subst (λ (vs : List LinkView). (U : Taking) → AreApart vs → AreFew S own p vs U → AreTakenThen day own p t U P
          → AreTakenThen day own p t (left_all S own p t vs js U) Q) e g T apart few taken);
      woken = λ ls js ws e f is.
          is ∙ ap (λ (ns : List ℕ). wake_ends S t ls ns A.network.node_wakes) f
          ∙ ap (λ (vs : List LinkView). wake_ends S t vs ks A.network.node_wakes) e;
      freed_rows = λ ls js qs out e f g is.
          ap (map freed_row) (is ∙ ap (flat_map (freed_at S own p ls qs)) f
          ∙ ap (λ (xs : List ℕ). flat_map (freed_at S own p ls xs) ks) g
          ∙ ap (λ (vs : List LinkView). flat_map (freed_at S own p vs A.queues.items) ks) e)
          ∙ freed_is A.queues.items h.queues;
      put = λ ls js qs out e f g is.
          is ∙ ap (λ (ns : List ℕ). put_queues ls ns qs) f ∙ ap (put_queues ls ks) g
          ∙ ap (λ (vs : List LinkView). put_queues vs ks A.queues.items) e;
      stands = λ C first out spoken said links silent g places nodes many short queues world followed looks departures.
          let us = my_link_turns S own p t in
          let n = ap (λ (ws : List (Option ℕ)). length ws) nodes ∙ ends_length S t new ks A.network.node_wakes ∙ h.network.nodes in
          record {
            persons = heard_stand day t (t + 1) (moves_of us) (flat_map told (moves_of us)) V4 A.persons C.persons (knowing.stays day own parts p t given shares).driven_is
                refl
                (heard_world S t (moves_of us) spoken said A.persons.world C.persons.world g.said silent world) (followed (t + 1)) looks h.persons;
            departures = λ s from to. ap (λ (d : Due). due_at s d) departures ∙ h.departures s from to;
            stops = many ∙ h.stops;
            lines = g.lines;
            short = short;
            network = record {
              links = subst (λ (vs : List LinkView). LinksStandAt num size S (t + 1) vs V5) (sym links) g.links;
              asleep = subst (λ (vs : List LinkView). AreAsleep S.settings.dwell end (t + 1) vs C.network.link_wakes) (sym links) g.asleep;
              places = settled C.network.places places;
              nodes = n;
              awaited = awaited_after num size S own p end t V4 V5 old new ks A.network.node_wakes C.network.node_wakes (slot_of S own p)
                  (knowing.goes_crossed day own parts p t given shares) taken_more h.network.links stand same h.network.nodes nodes
                  h.network.awaited;
              only = λ i off.
                  ap (λ (ws : List (Option ℕ)). wake_of ws i) nodes
                  ∙ ends_spare S t i new ks A.network.node_wakes (λ k among e. (
                  let c = stand.count in
                  let k_in = in_among (length new) k ks there among in
                  let k_lt : k < size = omega arith in
                  let o : owner_of S own (link_at new k) ≡ p = ap (owner_of S own) (at_new k k_lt) ∙ link_own S own p k k_lt in
                  true≢false (sym (eq-eqb (own i) p (ap own (sym e) ∙ o)) ∙ off)))
                  ∙ h.network.only i off;
            };
            slots = ap (λ (qs : List ℕ). length qs) queues ∙ put_length new ks A.queues.items ∙ h.slots;
            queues = λ k lt off. ap (λ (qs : List ℕ). get_or qs k 0) queues ∙ queues_are A.queues.items h.slots h.queues k lt off;
          };
    }
