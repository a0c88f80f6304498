-- A day stays fit, second by second, and its events have their names.
use Rattle.traffic.proofs.Common.{◌≡◌, ℕ, List, ◌∙◌, length, refl, [], ◌∷◌, arith, ◌<◌, ◌++◌, inl, inr, ◌≤◌, suc, zero, get_or, ◌/◌, cases_lt, length-map}
use Rattle.traffic.proofs.Common.{get_or_past, get_or-map, length-replicate, All-nil, flat_map, map, Some, None, Option, phase_code, Book, Phase, PlanRows, Act}
use Rattle.traffic.proofs.Common.{first_end, world_at, moves_of, after, turns_of, turns_in, world_start, keyed, through, world_from, events_from, count_of}
use Rattle.traffic.proofs.Common.{phases, events_in, Turn, day, end_events, told_in, turns, at_home, events_of, TurnMoves, below, run, told, stranded, World}
use Rattle.traffic.proofs.{Common.nobody, Common.Setup, Each.each_append, Each.each_flat, Each.each_number, Walks.phases_keep, Walks.seconds_keep}
use Rattle.traffic.specs.declared.{moves.Move.Move, world.Hole.Hole, world.Place.TheVariants.At}
use Rattle.std.specs.List.{AllByRecursion as Each}
use Rattle.events.specs.declared.event.Phase.TheVariants as phase
use Rattle.law_in_range.proofs.{Junctions.node_fit, Kept.run_fit, LinkState.link_fit, Naming.Named, Naming.keyed_named, Naming.told_fit}
use Rattle.law_in_range.proofs.Travellers.{flight_fit, leave_fit, departure_fit, stranded_fit}
use Rattle.law_in_range.specs.{Moves.AreFitMoves, Moves.IsBookOf, Rows.Counts, Rows.IsFitRow, Rows.IsFitPlace, Rows.IsFitPerson, Rows.IsFitWorld}
use Rattle.law_in_range.specs.Setups.{IsFitSetup, HasItsLinks}

-- TURNS
pub moves_append : (z : Counts) (xs ys : List Move) → AreFitMoves z xs → AreFitMoves z ys → AreFitMoves z (xs ++ ys)
moves_append z [] ys h g = g
moves_append z (x ∷ xs) ys h g = (h.0, moves_append z xs ys h.1 g)

pub turn_fit : (z : Counts) (S : Setup) (t n : ℕ) (p : Phase) (W : World) → IsFitSetup z S → IsFitWorld z W → n < count_of S p → AreFitMoves z (turns_of S t p n W)
unfolding turns_of
turn_fit z S t n phase.A W f h lt = flight_fit z S t n W f (let e = f.persons in omega arith)
turn_fit z S t n phase.B1 W f h lt = leave_fit z S t n W f h (let e = f.persons in omega arith)
turn_fit z S t n phase.B2 W f h lt = departure_fit z S t n W f lt
turn_fit z S t n phase.C W f h lt = node_fit z S t n W f h
turn_fit z S t n phase.D W f h lt = link_fit z S t n W f h lt
turn_fit z S t n phase.E W f h lt = tt

abbrev IsFitTurn : Counts → Turn → Type 0
IsFitTurn z u = AreFitMoves z u.moves

moves_all : (z : Counts) (us : List Turn) → Each (IsFitTurn z) us → AreFitMoves z (moves_of us)
moves_all z [] h = tt
moves_all z (u ∷ us) h = moves_append z u.moves (moves_of us) h.0 (moves_all z us h.1)

turns_each : (z : Counts) (S : Setup) (t count : ℕ) (plan : TurnMoves) → IsFitSetup z S → ((n : ℕ) (W : World) → IsFitWorld z W → n < count → AreFitMoves z (plan n W)) →
    (ns : List ℕ) (W : World) → IsFitWorld z W → Each (λ n. n < count) ns → Each (IsFitTurn z) (turns S t plan ns W)
unfolding turns
turns_each z S t count plan f g [] W h k = tt
turns_each z S t count plan f g (n ∷ ns) W h k =
    let m = g n W h k.0 in (m, turns_each z S t count plan f g ns (run S t (plan n W) W) (run_fit z S t (plan n W) W f h m) k.1)

turns_fit : (z : Counts) (S : Setup) (t : ℕ) (p : Phase) (W : World) → IsFitSetup z S → IsFitWorld z W → Each (IsFitTurn z) (turns_in S t p W)
unfolding turns_in
turns_fit z S t p W f h =
    turns_each z S t (count_of S p) (turns_of S t p) f (λ n U g lt. turn_fit z S t n p U f g lt) (below (count_of S p)) W h (each_number (count_of S p) 0 (count_of S p) (omega arith))

pub phase_moves : (z : Counts) (S : Setup) (t : ℕ) (p : Phase) (W : World) → IsFitSetup z S → IsFitWorld z W → AreFitMoves z (moves_of (turns_in S t p W))
phase_moves z S t p W f h = moves_all z (turns_in S t p W) (turns_fit z S t p W f h)

-- WORLDS
pub through_fit : (z : Counts) (S : Setup) (t : ℕ) (ps : List Phase) (W : World) → IsFitSetup z S → IsFitWorld z W → IsFitWorld z (through S t ps W)
through_fit z S t ps W f h = phases_keep (IsFitWorld z) S t (λ p n V lt g. run_fit z S t (turns_of S t p n V) V f g (turn_fit z S t n p V f g lt)) ps W h

first_end_fit : (z : Counts) (i : ℕ) (o : Option ℕ) → ((second : ℕ) → o ≡ Some second → 0 / 2 < z.legs i) → IsFitPlace z i 0 (At o)
first_end_fit z i None h = tt
first_end_fit z i (Some second) h = h second refl

first_fit : (z : Counts) (i : ℕ) (stays : List Act) → ((second : ℕ) → (get_or stays (0 / 2) (record { kind = 0; link = 0; end = None })).end ≡ Some second → 0 / 2 < z.legs i) → IsFitPlace z i 0 (At (first_end stays))
first_fit z i [] h = tt
first_fit z i (s ∷ ss) h = first_end_fit z i s.end h

home_fit : (z : Counts) (S : Setup) (i : ℕ) → IsFitSetup z S → i < length S.persons → IsFitPerson z i (get_or (map at_home S.persons) i nobody)
home_fit z S i f lt =
    let none : PlanRows = record { acts = []; legs = [] } in
    let within : i < z.persons = (let e = f.persons in omega arith) in
    rw (get_or-map at_home S.persons i none nobody lt) (first_fit z i (get_or S.persons i none).acts (λ second e. f.ends i 0 second within e))

start_persons : (z : Counts) (S : Setup) (i : ℕ) → IsFitSetup z S → IsFitPerson z i (get_or (map at_home S.persons) i nobody)
start_persons z S i f =
    elim (cases_lt i (length S.persons)) [
      | inl lt ↦ home_fit z S i f lt
      | inr ge ↦ let past : length (map at_home S.persons) ≤ i = (let e = length-map S.persons at_home in omega arith) in rw (get_or_past (map at_home S.persons) i nobody past) tt
    ]

pub start_fit : (z : Counts) (S : Setup) → IsFitSetup z S → IsFitWorld z (world_start S)
unfolding world_start
start_fit z S f =
    record {
      rows = All-nil (IsFitRow z);
      persons = λ i. start_persons z S i f;
      one_each = length-map S.persons at_home ∙ f.persons;
      credits = length-replicate (length S.links) _ ∙ f.links;
      holes = All-nil (λ (h : Hole). h.link < z.links);
    }

pub start_links : (S : Setup) → HasItsLinks S (world_start S)
unfolding world_start
start_links S = record { credits = length-replicate (length S.links) _; holes = All-nil (λ (h : Hole). h.link < length S.links) }

pub from_fit : (z : Counts) (S : Setup) (W : World) (t : ℕ) → IsFitSetup z S → IsFitWorld z W → IsFitWorld z (world_from S W t)
from_fit z S W t f h = seconds_keep (IsFitWorld z) S (λ s V g. through_fit z S s phases V f g) W t h

-- EVENTS
phase_named : (z : Counts) (book : Book) (t : ℕ) (p : Phase) (us : List Turn) → IsBookOf z book → Each (IsFitTurn z) us → Each (Named book) (events_in t p us)
phase_named z book t p us b h = each_flat (IsFitTurn z) (Named book) (events_of t p) (λ u g. keyed_named z book t (phase_code p) u.number 0 (flat_map told u.moves) b (told_fit z u.moves g)) us h

told_named : (z : Counts) (book : Book) (S : Setup) (t : ℕ) (ps : List Phase) (W : World) → IsBookOf z book → IsFitSetup z S → IsFitWorld z W → Each (Named book) (told_in S t ps W)
unfolding told_in
told_named z book S t [] W b f h = tt
told_named z book S t (p ∷ ps) W b f h =
    each_append (Named book) (events_in t p (turns_in S t p W)) _ (phase_named z book t p (turns_in S t p W) b (turns_fit z S t p W f h))
    (told_named z book S t ps (after S t (turns_in S t p W) W) b f (run_fit z S t (moves_of (turns_in S t p W)) W f h (phase_moves z S t p W f h)))

from_named : (z : Counts) (book : Book) (S : Setup) (W : World) (t : ℕ) → IsBookOf z book → IsFitSetup z S → IsFitWorld z W → Each (Named book) (events_from S W t)
unfolding events_from
from_named z book S W zero b f h = tt
from_named z book S W (suc t) b f h =
    each_append (Named book) (events_from S W t) _ (from_named z book S W t b f h) (told_named z book S t phases (world_from S W t) b f (from_fit z S W t f h))

end_named : (z : Counts) (book : Book) (S : Setup) (t : ℕ) (W : World) → IsBookOf z book → IsFitSetup z S → IsFitWorld z W → Each (Named book) (end_events S t W)
unfolding end_events
end_named z book S t W b f h =
    each_flat (λ i. i < z.persons) (Named book) (λ i. keyed t (phase_code phase.E) i 0 (stranded S W i))
    (λ i lt. keyed_named z book t (phase_code phase.E) i 0 (stranded S W i) b (stranded_fit z S W i f h lt))
    (below (length S.persons)) (each_number z.persons 0 (length S.persons) (let e = f.persons in omega arith))

pub day_named : (z : Counts) (book : Book) (S : Setup) → IsBookOf z book → IsFitSetup z S → Each (Named book) (day S)
unfolding day
day_named z book S b f =
    let W = world_start S in
    let h = start_fit z S f in
    each_append (Named book) (events_from S W S.settings.end_second) _ (from_named z book S W S.settings.end_second b f h) (end_named z book S S.settings.end_second (world_at S S.settings.end_second) b f (from_fit z S W S.settings.end_second f h))
