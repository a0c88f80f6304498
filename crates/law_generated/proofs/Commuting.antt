-- The persons of a grid: their links are there, and their rows are five that may stand in plans.csv.
use Rattle.records.proofs.Common.{◌≡◌, List, ap, ℕ, length, ◌∙◌, arith, [], ◌<◌, None, Some, ◌++◌, ◌∷◌, refl, true, Bool, ◌+◌, false, ◌≤◌, ◌^◌, ◌&&◌, not}
use Rattle.records.proofs.Common.{subst, map, ◌-◌, Row, is_none, is_name, number_of, numbers_of, Option, decimal, list_all}
use Rattle.records.specs.{Lists.are_names, Lists.items_in, Numbers.are_digits, Numbers.number_in}
use Rattle.std.specs.Prelude.{codes, nat_eq}
use Rattle.draws.{proofs.Ranges.below_within, proofs.Ranges.word_fits, specs.Choices.below, specs.Words.word}
use Rattle.events.specs.{Names.is_name_byte, Words.mode_of, declared.event.Mode.Mode}
use Rattle.events.specs.declared.event.Mode.TheVariants as mode
use Rattle.limits.specs.declared.TheConstants.{LAST_SECOND}
use Rattle.plan_text.proofs.{Clean.all_weaker, Clean.name_bytes, Decimals.number_back}
use Rattle.plans.specs.declared.kinds.ElementKind.TheVariants as element
use Rattle.plans.specs.{Kinds.end_in, Kinds.kind_of, Refusals.has_bad_time, Refusals.has_surplus, Refusals.lacks_element_name, Refusals.lacks_link}
use Rattle.rows.specs.Joined.{is_joined}
use Rattle.workload.specs.Commuters.{commute_of, commuter, home_of, link_drawn, work_of, words_of}
use Rattle.workload.specs.{Links.grid_links, Rows.act_row, Rows.leg_row, Rows.link_name, Rows.person_name, Rows.person_rows, Rows.stop_name, Rows.walk_row}
use Rattle.workload.specs.{Rows.way_back, Rows.way_there, declared.TheConstants.FIRST_LEAVING, declared.TheConstants.LEAVING_SPAN}
use Rattle.workload.specs.declared.{TheConstants.WALK_SECONDS, TheConstants.WORK_SECONDS, commuters.Commute.Commute, commuters.Commuter.Commuter}
use Rattle.workload.specs.declared.commuters.Commute.TheVariants as commute
use Rattle.law_generated.proofs.{Elements.IsOwn, Elements.IsSound, Fields.lettered, Grid.IsLink, Grid.each_link, Links.held_right, Links.link_named}
use Rattle.law_generated.proofs.{Links.links_distinct, Links.some_links, Names.number_at, Routes.is_item_byte, Routes.items_back, Routes.name_item}
use Rattle.law_generated.proofs.{Rules.each_at, Stops.held_number, Stops.not_none, Stops.stop_link, Stops.stop_named, Travellers.IsTravel}

-- an activity may be on this link: it is one of the grid, and its name is known
pub record IsPlace (size : ℕ) (link : ℕ × ℕ) : Type 0 where
  pub inside : IsLink size link
  pub known : is_none (number_of (link_name link) (map link_name (grid_links size))) ≡ false

-- a person goes from such a link to such a link, and leaves home between 6 and 8 o'clock
pub record IsCommuter (size : ℕ) (c : Commuter) : Type 0 where
  pub home : IsPlace size c.home
  pub work : IsPlace size c.work
  pub leaves : c.leaves < FIRST_LEAVING + LEAVING_SPAN

both_named : (a b : Bool) → a ≡ true → b ≡ true → not (a && b) ≡ false
both_named a b p q = grind arith

three_all : (a b c : Bool) → a ≡ true → b ≡ true → c ≡ true → (a && (b && (c && true))) ≡ true
three_all a b c p q r = grind arith

home_named : is_name (codes "home") ≡ true
unfolding is_name
home_named = refl

work_named : is_name (codes "work") ≡ true
unfolding is_name
work_named = refl

bus_named : is_name (codes "bus") ≡ true
unfolding is_name
bus_named = refl

s0_named : is_name (codes "s0") ≡ true
unfolding is_name
s0_named = refl

no_and : (a b : Bool) → b ≡ false → (a && b) ≡ false
no_and a b h = grind arith

module _ (size : ℕ) (some : 3 ≤ size) (few : size ≤ 100) where
  drawn_place : (word : ℕ) → word < 2 ^ 32 → IsPlace size (link_drawn (grid_links size) word)
  drawn_place word fits =
      let place = below (length (grid_links size)) word in
      let less : place < length (grid_links size) = below_within (length (grid_links size)) word (some_links size some) fits in
      record {
        inside = each_at (IsLink size) (grid_links size) place (0, 0) (each_link size (omega (arith, some))) less;
        known = ap (λ (o : Option ℕ). is_none o) (number_at link_name (grid_links size) place (0, 0) (links_distinct size some few) less);
      }

  right_place : (k : ℕ) → k < size - 1 → IsPlace size (k, k + 1)
  right_place k less = record {
    inside = stop_link size some few k less;
    known = not_none (number_of (link_name (k, k + 1)) (map link_name (grid_links size)))
        (held_number (link_name (k, k + 1)) (map link_name (grid_links size)) (held_right size k (omega (arith, less))));
  }

  work_end : IsPlace size (size - 2, size - 1)
  work_end =
      let next : size - 2 + 1 ≡ size - 1 = omega (arith, some) in
      subst (λ (n : ℕ). IsPlace size (size - 2, n)) next (right_place (size - 2) (omega (arith, some)))

  home_place : (c : Commute) (word : ℕ) → word < 2 ^ 32 → IsPlace size (home_of (grid_links size) c word)
  home_place commute.Bus word fits = right_place 0 (omega (arith, some))
  home_place commute.Walk word fits = drawn_place word fits
  home_place commute.Car word fits = drawn_place word fits

  work_place : (c : Commute) (word : ℕ) → word < 2 ^ 32 → IsPlace size (work_of size (grid_links size) c word)
  work_place commute.Bus word fits = work_end
  work_place commute.Walk word fits = drawn_place word fits
  work_place commute.Car word fits = drawn_place word fits

  pub commutes : (seed person : ℕ) → IsCommuter size (commuter size (grid_links size) seed person)
  unfolding commuter
  commutes seed person = record {
    home = home_place (commute_of person) (word (words_of seed person) 0) (word_fits (words_of seed person) 0);
    work = work_place (commute_of person) (word (words_of seed person) 1) (word_fits (words_of seed person) 1);
    leaves = omega (arith, below_within LEAVING_SPAN (word (words_of seed person) 2) (omega arith) (word_fits (words_of seed person) 2));
  }

  -- THE ROWS
  module _ (person : ℕ) (less : person < 2 ^ 32) where
    me_named : is_name (person_name person) ≡ true
    me_named = lettered 112 person refl less

    own_act : (kind : List ℕ) (link : ℕ × ℕ) (end : Option ℕ) → IsOwn (person_name person) (act_row person kind link end)
    unfolding number_in are_digits
    own_act kind link end = record { who = refl; plan = refl; seven = refl }

    own_leg : (mode seconds route : List ℕ) → IsOwn (person_name person) (leg_row person mode seconds route)
    unfolding number_in are_digits
    own_leg mode seconds route = record { who = refl; plan = refl; seven = refl }

    sound_act : (ends : List (ℕ × ℕ)) (kind : List ℕ) (link : ℕ × ℕ) (end : Option ℕ) → is_name kind ≡ true → IsPlace size link
        → has_bad_time element.Act (act_row person kind link end) ≡ false
        → IsSound (map link_name (grid_links size)) ends element.Act (act_row person kind link end)
    unfolding kind_of has_surplus lacks_element_name lacks_link
    sound_act ends kind link end named place timed = record {
      is = refl;
      element = refl;
      fits = refl;
      named = both_named (is_name kind) (is_name (link_name link)) named (link_named size some few link place.inside);
      timed = timed;
      linked = place.known;
      joined = refl;
      moded = refl;
      short = refl;
    }

    timed_act : (kind : List ℕ) (link : ℕ × ℕ) (second : ℕ) → second ≤ LAST_SECOND → has_bad_time element.Act (act_row person kind link (Some second)) ≡ false
    unfolding has_bad_time
    timed_act kind link second within =
        no_and (not (nat_eq (length (decimal second)) 0)) (is_none (number_in 0 LAST_SECOND (decimal second)))
        (ap (λ (o : Option ℕ). is_none o) (number_back 0 LAST_SECOND second (omega arith) within (omega (arith, within))))

    ended_act : (kind : List ℕ) (link : ℕ × ℕ) (second : ℕ) → second ≤ LAST_SECOND → is_none (end_in (act_row person kind link (Some second))) ≡ false
    ended_act kind link second within = ap (λ (o : Option ℕ). is_none o) (number_back 0 LAST_SECOND second (omega arith) within (omega (arith, within)))

    endless_act : (kind : List ℕ) (link : ℕ × ℕ) → has_bad_time element.Act (act_row person kind link None) ≡ false
    unfolding has_bad_time
    endless_act kind link = refl

    sound_walk : (links : List (List ℕ)) (ends : List (ℕ × ℕ)) → IsSound links ends (element.Leg (Some mode.Walk)) (walk_row person)
    unfolding kind_of has_surplus lacks_element_name lacks_link has_bad_time mode_of items_in
    sound_walk links ends = record {
      is = refl;
      element = refl;
      fits = refl;
      named = refl;
      timed = ap (λ (o : Option ℕ). is_none o) (number_back 1 LAST_SECOND WALK_SECONDS (omega arith) (omega arith) (omega arith));
      linked = refl;
      joined = refl;
      moded = refl;
      short = refl;
    }

    sound_car : (links : List (List ℕ)) (ends : List (ℕ × ℕ)) → IsSound links ends (element.Leg (Some mode.Car)) (leg_row person (codes "car") [] [])
    unfolding kind_of has_surplus lacks_element_name lacks_link has_bad_time mode_of items_in numbers_of is_joined
    sound_car links ends = record { is = refl; element = refl; fits = refl; named = refl; timed = refl; linked = refl; joined = refl; moded = refl; short = refl }

    -- the three names of a way by bus
    pub bus_items : items_in (codes "bus s0 " ++ stop_name (size - 2)) ≡ codes "bus" ∷ codes "s0" ∷ stop_name (size - 2) ∷ []
    bus_items =
        items_back (codes "bus") (codes "s0" ∷ stop_name (size - 2) ∷ []) (omega arith)
        (three_all (list_all is_item_byte (codes "bus")) (list_all is_item_byte (codes "s0")) (list_all is_item_byte (stop_name (size - 2))) refl refl
        (all_weaker is_name_byte is_item_byte name_item (stop_name (size - 2)) (name_bytes (stop_name (size - 2)) (stop_named size some few (size - 2) (omega (arith, some))))))

    bus_names : are_names (codes "bus" ∷ codes "s0" ∷ stop_name (size - 2) ∷ []) ≡ true
    bus_names =
        three_all (is_name (codes "bus")) (is_name (codes "s0")) (is_name (stop_name (size - 2))) bus_named s0_named
        (stop_named size some few (size - 2) (omega (arith, some)))

    sound_bus : (links : List (List ℕ)) (ends : List (ℕ × ℕ))
        → IsSound links ends (element.Leg (Some mode.Pt)) (leg_row person (codes "pt") [] (codes "bus s0 " ++ stop_name (size - 2)))
    unfolding kind_of has_surplus lacks_element_name lacks_link has_bad_time mode_of
    sound_bus links ends = record {
      is = refl;
      element = refl;
      fits = refl;
      named = ap (λ (items : List (List ℕ)). not (nat_eq (length items) 3 && are_names items)) bus_items ∙ ap not bus_names;
      timed = refl;
      linked = refl;
      joined = refl;
      moded = refl;
      short = refl;
    }

    -- the way to work, and the way back
    record IsWay (links : List (List ℕ)) (ends : List (ℕ × ℕ)) (row : Row) : Type 0 where
      mode : Mode
      own : IsOwn (person_name person) row
      sound : IsSound links ends (element.Leg (Some mode)) row

    there_is : (links : List (List ℕ)) (ends : List (ℕ × ℕ)) (c : Commute) → IsWay links ends (way_there size person c)
    there_is links ends commute.Bus =
        record { mode = mode.Pt; own = own_leg (codes "pt") [] (codes "bus s0 " ++ stop_name (size - 2)); sound = sound_bus links ends }
    there_is links ends commute.Walk = record { mode = mode.Walk; own = own_leg (codes "walk") (decimal WALK_SECONDS) []; sound = sound_walk links ends }
    there_is links ends commute.Car = record { mode = mode.Car; own = own_leg (codes "car") [] []; sound = sound_car links ends }

    back_is : (links : List (List ℕ)) (ends : List (ℕ × ℕ)) (c : Commute) → IsWay links ends (way_back person c)
    back_is links ends commute.Bus = record { mode = mode.Walk; own = own_leg (codes "walk") (decimal WALK_SECONDS) []; sound = sound_walk links ends }
    back_is links ends commute.Walk = record { mode = mode.Walk; own = own_leg (codes "walk") (decimal WALK_SECONDS) []; sound = sound_walk links ends }
    back_is links ends commute.Car = record { mode = mode.Car; own = own_leg (codes "car") [] []; sound = sound_car links ends }

    -- a person's rows
    pub travel : (ends : List (ℕ × ℕ)) (c : Commuter) → IsCommuter size c
        → IsTravel (map link_name (grid_links size)) ends (person_name person) (person_rows size person c)
    travel ends c is =
        let links : List (List ℕ) = map link_name (grid_links size) in
        let out = there_is links ends c.commute in
        let again = back_is links ends c.commute in
        let leaves = is.leaves in
        let morning : c.leaves ≤ LAST_SECOND = omega (arith, leaves) in
        let evening : c.leaves + WORK_SECONDS ≤ LAST_SECOND = omega (arith, leaves) in
        record {
          home = act_row person (codes "home") c.home (Some c.leaves);
          there = way_there size person c.commute;
          work = act_row person (codes "work") c.work (Some (c.leaves + WORK_SECONDS));
          back = way_back person c.commute;
          last = act_row person (codes "home") c.home None;
          are = refl;
          by = out.mode;
          by_back = again.mode;
          named = me_named;
          own_home = own_act (codes "home") c.home (Some c.leaves);
          own_there = out.own;
          own_work = own_act (codes "work") c.work (Some (c.leaves + WORK_SECONDS));
          own_back = again.own;
          own_last = own_act (codes "home") c.home None;
          sound_home = sound_act ends (codes "home") c.home (Some c.leaves) home_named is.home (timed_act (codes "home") c.home c.leaves morning);
          sound_there = out.sound;
          sound_work = sound_act ends (codes "work") c.work (Some (c.leaves + WORK_SECONDS)) work_named is.work
              (timed_act (codes "work") c.work (c.leaves + WORK_SECONDS) evening);
          sound_back = again.sound;
          sound_last = sound_act ends (codes "home") c.home None home_named is.home (endless_act (codes "home") c.home);
          home_ends = ended_act (codes "home") c.home c.leaves morning;
          work_ends = ended_act (codes "work") c.work (c.leaves + WORK_SECONDS) evening;
        }
