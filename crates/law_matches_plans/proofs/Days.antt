-- Turns, phases, seconds and the day do their part to one person, and at its end who is under way is stuck.
use Rattle.traffic.proofs.Common.{◌≡◌, ℕ, List, ◌∙◌, length, ap, refl, sym, [], ◌∷◌, arith, ◌<◌, ◌++◌, ◌+◌, subst, ◌≤◌, false, suc, eqb, zero, ◌-◌, get_or}
use Rattle.traffic.proofs.Common.{append-nil, ◌/◌, ◌*◌, eq-eqb, length-map, get_or-map, map-append, filter-append, flat_map, map, filter, None, phase_code}
use Rattle.traffic.proofs.Common.{Event, Mode, Phase, PlanRows, Act, first_end, world_at, link_turns, moves_of, after, turns_of, turns_in, world_start, keyed}
use Rattle.traffic.proofs.Common.{through, world_from, events_from, count_of, phases, events_in, Turn, day, end_events, told_in, at_home, events_of, below, run}
use Rattle.traffic.proofs.Common.{done, told, stuck_at, stranded, mode_of_leg, World, person_of, at, nobody, Setup, leg_at, act_at, person_plan}
use Rattle.traffic.proofs.{Each.each_all, Moments.Along, Sublists.run-append, Turns.filter_one, Walks.IsWalk, Walks.phase_walk}
use Rattle.traffic.specs.declared.{moves.Move.Move, moves.Occurrence.Occurrence, world.Person.Person, world.Place.Place}
use Rattle.traffic.specs.declared.world.Place.TheVariants.{At, Aborted}
use Rattle.std.proofs.lemmas.List.{length-append, Concat.flat_map-append}
use Rattle.events.specs.declared.event.Phase.TheVariants as phase
use Rattle.events.specs.declared.event.Word.TheVariants as word
use Rattle.law_one_place.proofs.{Places.InOne, Turns.turn_keeps, Turns.start_kept}
use Rattle.events.specs.Persons.{names, of_person, is_step}
use Rattle.law_matches_plans.proofs.Events.{IsPlan, IsLast, own, told_steps, steps_append, Rest, worth, HasLeg, has_leg, IsFitAt}
use Rattle.law_matches_plans.proofs.Turns.{MayAlight, IsSane, Good, Passes, passes_append, passes_none, moves_pass, link_along, node_along, flight_along}
use Rattle.law_matches_plans.proofs.Turns.{leave_along, departure_along}
use Rattle.law_matches_plans.specs.Trips.{Places, anywhere, leg, legs, IsPlanned, steps, InTurn}

-- What keeps a person's events at these places: a predicate of worlds that a day has at its start and that turns keep, and by which whoever
-- alights in a link's turn does so at a place that will do.
pub record Keeps (A : Places) (S : Setup) (i : ℕ) (B : World → Type 0) : Type 0 where
  pub plan : IsPlan A S i
  pub start : B (world_start S)
  pub turn : (t n : ℕ) (p : Phase) (W : World) → n < count_of S p → B W → B (run S t (turns_of S t p n W) W)
  pub alight : (t l : ℕ) (W : World) → l < length S.links → B W → Along (λ V m. MayAlight A i V) S t (link_turns S t l W) W

turn_along : (A : Places) (S : Setup) (t n i : ℕ) (p : Phase) (B : World → Type 0) (W : World) → Keeps A S i B → n < count_of S p → B W → InOne i W → Along (Good A S t i) S t (turns_of S t p n W) W
unfolding turns_of
turn_along A S t n i phase.A B W k lt b h = flight_along A S t n i W k.plan h
turn_along A S t n i phase.B1 B W k lt b h = leave_along A S t n i W k.plan h
turn_along A S t n i phase.B2 B W k lt b h = departure_along A S t n i W h.there
turn_along A S t n i phase.C B W k lt b h = node_along A S t n i W h
turn_along A S t n i phase.D B W k lt b h = link_along A S t n i W k.plan (k.alight t n W lt b) h
turn_along A S t n i phase.E B W k lt b h = tt

-- a world in which person i is in one place, and which is sane
record IsFine (S : Setup) (i : ℕ) (B : World → Type 0) (W : World) : Type 0 where
  in_one : InOne i W
  sane : IsSane S i W
  kept : B W

abbrev Goes : Places → Setup → ℕ → (World → Type 0) → World → World → List Occurrence → Type 0
Goes A S i B W V es = Passes A S i W V es × IsFine S i B V

-- from such a world these moves do their part to him, and leave such a world
abbrev Does_part : Places → Setup → ℕ → ℕ → (World → Type 0) → World → List Move → Type 0
Does_part A S t i B W ms = IsFine S i B W → Goes A S i B W (run S t ms W) (flat_map told ms)

part_is : (A : Places) (S : Setup) (t i : ℕ) (B : World → Type 0) → IsWalk S t (Does_part A S t i B)
part_is A S t i B =
    record {
      none = λ W h. (passes_none A S i W h.sane, h);
      append = λ xs ys W f g h. let x = f h in let y = g x.1 in rw (run-append S t xs ys W, flat_map-append told xs ys) (passes_append A S i W (run S t xs W) (run S t ys (run S t xs W)) (flat_map told xs) (flat_map told ys) x.0 y.0, y.1);
    }

turn_goes : (A : Places) (S : Setup) (t n i : ℕ) (p : Phase) (B : World → Type 0) (W : World) → Keeps A S i B → n < count_of S p → Does_part A S t i B W (turns_of S t p n W)
turn_goes A S t n i p B W k lt h =
    let x = moves_pass A S t i (turns_of S t p n W) W (turn_along A S t n i p B W k lt h.kept h.in_one) h.sane in
    (x.0, record { in_one = turn_keeps S t n i p W h.in_one; sane = x.1; kept = k.turn t n p W lt h.kept })

-- EVENTS WITHOUT THEIR KEYS
abbrev unkeyed : Event → Occurrence
unkeyed e = record { word = e.word; person = e.person; vehicle = e.vehicle; link = e.link; more = e.more }

abbrev bare : List Event → List Occurrence
bare es = map unkeyed es

bare_keyed : (t code n k : ℕ) (xs : List Occurrence) → bare (keyed t code n k xs) ≡ xs
unfolding keyed
bare_keyed t code n k [] = refl
bare_keyed t code n k (x ∷ xs) = ap (λ ys. x ∷ ys) (bare_keyed t code n (k + 1) xs)

bare_events : (t : ℕ) (p : Phase) (us : List Turn) → bare (events_in t p us) ≡ flat_map told (moves_of us)
bare_events t p [] = refl
bare_events t p (u ∷ us) =
    rw (map-append unkeyed (events_of t p u) (events_in t p us), bare_keyed t (phase_code p) u.number 0 (flat_map told u.moves), bare_events t p us, flat_map-append told u.moves (moves_of us)) refl

bare_own : (i : ℕ) (es : List Event) → own i (bare es) ≡ bare (filter (of_person i) es)
bare_own i [] = refl
bare_own i (e ∷ es) = grind (arith, bare_own i es)

bare_steps : (es : List Event) → told_steps (bare es) ≡ map (λ (e : Event). (e.word, e.link, e.more)) (filter (λ (e : Event). is_step e.word) es)
bare_steps [] = refl
bare_steps (e ∷ es) = grind (arith, bare_steps es)

steps_are : (i : ℕ) (es : List Event) → told_steps (own i (bare es)) ≡ steps i es
unfolding steps
steps_are i es = ap told_steps (bare_own i es) ∙ bare_steps (filter (of_person i) es)

count_is : (i : ℕ) (es : List Event) → length (own i (bare es)) ≡ length (filter (of_person i) es)
count_is i es = ap (λ (xs : List Occurrence). length xs) (bare_own i es) ∙ length-map (filter (of_person i) es) unkeyed

-- PHASES, SECONDS, DAYS
through_goes : (A : Places) (S : Setup) (t i : ℕ) (B : World → Type 0) (ps : List Phase) (W : World) → Keeps A S i B → IsFine S i B W → Goes A S i B W (through S t ps W) (bare (told_in S t ps W))
unfolding through told_in
through_goes A S t i B [] W k h = (passes_none A S i W h.sane, h)
through_goes A S t i B (p ∷ ps) W k h =
    let us = turns_in S t p W in
    let V = after S t us W in
    let y = phase_walk (Does_part A S t i B) S t p (part_is A S t i B) (λ n V lt. turn_goes A S t n i p B V k lt) W h in
    rw (map-append unkeyed (events_in t p us) (told_in S t ps V), bare_events t p us) (let z = through_goes A S t i B ps V k y.1 in (passes_append A S i W V (through S t ps V) (flat_map told (moves_of us)) (bare (told_in S t ps V)) y.0 z.0, z.1))

from_goes : (A : Places) (S : Setup) (i : ℕ) (B : World → Type 0) (W : World) (t : ℕ) → Keeps A S i B → IsFine S i B W → Goes A S i B W (world_from S W t) (bare (events_from S W t))
unfolding world_from events_from
from_goes A S i B W zero k h = (passes_none A S i W h.sane, h)
from_goes A S i B W (suc t) k h =
    let V = world_from S W t in
    let y = from_goes A S i B W t k h in
    rw (map-append unkeyed (events_from S W t) (told_in S t phases V))
    (let z = through_goes A S t i B phases V k y.1 in (passes_append A S i W V (through S t phases V) (bare (events_from S W t)) (bare (told_in S t phases V)) y.0 z.0, z.1))

-- the end of the day
stuck_other : (S : Setup) (W : World) (j i : ℕ) (here : Act) (m : Mode) (pl : Place) → eqb j i ≡ false → own i (stuck_at S W j here m pl) ≡ []
stuck_other S W j i here m (At end) q = refl
stuck_other S W j i here m (Aborted l) q = refl
stuck_other S W j i here m _ q = simp q

-- what may follow, and no more than it is worth
abbrev Ends : Places → Setup → ℕ → Person → List Occurrence → Type 0
Ends A S i P es = Rest A S i P (told_steps es) × (length es ≤ worth S i P) × IsLast es

stuck_ends : (A : Places) (S : Setup) (W : World) (i e : ℕ) (here : Act) (pl : Place) → Ends A S i (record { element = e; place = pl }) (own i (stuck_at S W i here (mode_of_leg (leg S i (e / 2))) pl))
stuck_ends A S W i e here (At end) = (tt, omega arith, tt)
stuck_ends A S W i e here (Aborted l) = (refl, omega arith, tt)
stuck_ends A S W i e here _ = let q = eq-eqb i i refl in simp q ((refl, tt, refl), omega arith, ((λ k. refl), tt))

-- of all persons he alone tells of himself
own_those : (S : Setup) (W : World) (i : ℕ) (ns : List ℕ) → own i (flat_map (stranded S W) ns) ≡ own i (flat_map (stranded S W) (filter (λ j. eqb j i) ns))
unfolding stranded
own_those S W i [] = refl
own_those S W i (j ∷ ns) =
    let P = person_of j W in
    let split = filter-append (λ (e : Occurrence). names i e.person) (stranded S W j) in
    grind (
      arith,
      own_those S W i ns,
      stuck_other S W j i (act_at S j P.element) (mode_of_leg (leg_at S j P.element)) P.place,
      split (flat_map (stranded S W) ns),
      split (flat_map (stranded S W) (filter (λ j. eqb j i) ns)),
    )

own_one : (S : Setup) (W : World) (i n : ℕ) → i < n → own i (flat_map (stranded S W) (below n)) ≡ own i (stranded S W i)
own_one S W i n lt =
    own_those S W i (below n) ∙ ap (λ ns. own i (flat_map (stranded S W) ns)) (filter_one i 0 n (omega arith) (omega arith))
    ∙ ap (own i) (append-nil (stranded S W i))

bare_end : (S : Setup) (t : ℕ) (W : World) (ns : List ℕ) → bare (flat_map (λ j. keyed t (phase_code phase.E) j 0 (stranded S W j)) ns) ≡ flat_map (stranded S W) ns
bare_end S t W [] = refl
bare_end S t W (j ∷ ns) =
    rw (
      map-append unkeyed (keyed t (phase_code phase.E) j 0 (stranded S W j)) _,
      bare_keyed t (phase_code phase.E) j 0 (stranded S W j),
      bare_end S t W ns,
    ) refl

end_ends : (A : Places) (S : Setup) (t i : ℕ) (W : World) → i < length S.persons → Ends A S i (person_of i W) (own i (bare (end_events S t W)))
unfolding end_events stranded
end_ends A S t i W lt =
    let P = person_of i W in
    rw (bare_end S t W (below (length S.persons)), own_one S W i (length S.persons) lt) (stuck_ends A S W i P.element (act_at S i P.element) P.place)

-- THE WHOLE DAY
start_is : (S : Setup) (i : ℕ) → i < length S.persons → person_of i (world_start S) ≡ at_home (person_plan S i)
unfolding world_start
start_is S i lt = let none : PlanRows = record { acts = []; legs = [] } in get_or-map at_home S.persons i none nobody lt

first_act : (stays : List Act) (n : ℕ) → (n ≤ 0 → (get_or stays 0 (record { kind = 0; link = 0; end = None })).end ≡ None) → HasLeg n 0 (first_end stays)
first_act [] n h = tt
first_act (s ∷ ss) n h = has_leg n 0 s.end h

start_fine : (A : Places) (S : Setup) (i : ℕ) (B : World → Type 0) → Keeps A S i B → i < length S.persons → IsFine S i B (world_start S)
unfolding world_start
start_fine A S i B k lt =
    let p = k.plan.planned in
    let one = start_kept S in
    let home : IsFitAt S i 0 (At (first_end (person_plan S i).acts)) = (refl, first_act (person_plan S i).acts (legs S i) (p.last 0)) in
    record { in_one = record { there = omega arith; listed = one.one_place i lt }; sane = record { calls = refl; kinds = refl; drivers = refl; fit = rw (start_is S i lt) home }; kept = k.start }

-- the whole day of a person, from where he is at its start
abbrev pub HasDay : Places → Setup → ℕ → Type 0
HasDay A S i = InTurn A S i 0 (steps i (day S)) × (length (filter (of_person i) (day S)) ≤ 8 * legs S i) × IsLast (bare (filter (of_person i) (day S)))

pub has_day : (A : Places) (S : Setup) (i : ℕ) (B : World → Type 0) → Keeps A S i B → i < length S.persons → HasDay A S i
unfolding day world_start
has_day A S i B k lt =
    let W = world_start S in
    let V = world_at S S.settings.end_second in
    let xs = bare (events_from S W S.settings.end_second) in
    let ys = bare (end_events S S.settings.end_second V) in
    let f = (from_goes A S i B W S.settings.end_second k (start_fine A S i B k lt)).0 in
    let g = end_ends A S S.settings.end_second i V lt in
    let own_all : own i (bare (day S)) ≡ own i xs ++ own i ys =
    ap (own i) (map-append unkeyed (events_from S W S.settings.end_second) (end_events S S.settings.end_second V))
    ∙ filter-append (λ (e : Occurrence). names i e.person) xs ys in
    let told : steps i (day S) ≡ told_steps (own i xs) ++ told_steps (own i ys) = sym (steps_are i (day S)) ∙ ap told_steps own_all ∙ steps_append (own i xs) (own i ys) in
    let count : length (filter (of_person i) (day S)) ≡ length (own i xs) + length (own i ys) = sym (count_is i (day S)) ∙ ap (λ (es : List Occurrence). length es) own_all ∙ length-append (own i xs) (own i ys) in
    let home = start_is S i lt in
    let start : worth S i (person_of i W) ≡ 8 * (legs S i - 0) = ap (worth S i) home in
    (rw told (subst (λ (P : Person). Rest A S i P (told_steps (own i xs) ++ told_steps (own i ys))) home (f.0.leads (told_steps (own i ys)) g.0)), omega arith, subst IsLast (sym own_all ∙ bare_own i (day S)) (f.1 (own i ys) (omega arith) g.2))

-- after the event by which he is stuck nothing follows
last_at : (before later : List Event) (e : Event) → IsLast (bare (before ++ e ∷ later)) → e.word ≡ word.StuckAndAbort → later ≡ []
last_at [] [] e h q = refl
last_at [] (x ∷ later) e h q = let z = h.0 q in absurd (cc)
last_at (b ∷ before) later e h q = last_at before later e h.1 q

-- ANYWHERE
-- nothing is asked of a place that may be anywhere
all_moves : (S : Setup) (t i : ℕ) (ms : List Move) (W : World) → Along (λ V m. MayAlight anywhere i V) S t ms W
all_moves S t i [] W = tt
all_moves S t i (m ∷ ms) W = ((λ l s. each_all _ (λ r. ((λ e h. tt), (λ e f h. tt))) (at l s W)), all_moves S t i ms (done S t m W))

keeps_anywhere : (S : Setup) (i : ℕ) → IsPlanned S i → Keeps anywhere S i (λ W. Unit {0})
keeps_anywhere S i p =
    record {
      plan = record { planned = p; at_own = λ k. tt };
      start = tt;
      turn = λ t n p W lt b. tt;
      alight = λ t l W lt b. all_moves S t i (link_turns S t l W) W;
    }

pub has_some_day : (S : Setup) (i : ℕ) → IsPlanned S i → i < length S.persons → HasDay anywhere S i
has_some_day S i p lt = has_day anywhere S i (λ W. Unit {0}) (keeps_anywhere S i p) lt

pub stuck_last : (S : Setup) (i : ℕ) → IsPlanned S i → i < length S.persons → (before later : List Event) (e : Event) → filter (of_person i) (day S) ≡ before ++ e ∷ later → e.word ≡ word.StuckAndAbort → later ≡ []
stuck_last S i p lt before later e is q = last_at before later e (subst (λ (es : List Event). IsLast (bare es)) is (has_some_day S i p lt).2) q
