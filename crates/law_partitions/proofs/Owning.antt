-- After the second of p those persons are of p whom it knew and who did not go out.
use Rattle.traffic.proofs.Common.{◌≡◌, ℕ, List, ◌∙◌, length, ap, refl, sym, [], ◌∷◌, arith, ◌<◌, true, ◌++◌, ◌+◌, Bool, inl, inr, subst, ◌≤◌, false, suc, eqb}
use Rattle.traffic.proofs.Common.{zero, ◌-◌, ◌≢◌, drop, append-nil, append_assoc, ◌⊎◌, cases_Bool, eqb-true, and_parts, cases_lt, eq-eqb, eqb-false, ne_eqb}
use Rattle.traffic.proofs.Common.{true≢false, lt-ltb, or_parts, ltb-false, nat_tests, flat_map-append, flat_map, filter, not, ◌&&◌, if◌then◌else◌, nat_lt}
use Rattle.traffic.proofs.Common.{nat_le, VehicleId, Act, Leg, world_at, link_turns, node_turns, through, Untouched, link_moves, rules, link_state, below}
use Rattle.traffic.proofs.Common.{numbers, run, at_after_all, touches, same, waiters, waiter, waits_on, World, person_of, at, on, rank, Setup, act_after}
use Rattle.traffic.proofs.{Common.leg_at, Common.link_row, Common.link_of_stop, Common.listed, Common.IsListed, Each.each_flat_where, Nodes.node_untouched}
use Rattle.traffic.specs.declared.{moves.Move.Move, moves.Move.TheVariants.Transfer, stage.Stage.Stage}
use Rattle.traffic.specs.declared.stage.Stage.TheVariants.{Queue, Buffer, Wait, Bay}
use Rattle.traffic.specs.declared.world.{Person.Person, Place.Place, Place.TheVariants.At, Place.TheVariants.Teleporting, Place.TheVariants.Waiting}
use Rattle.traffic.specs.declared.world.{Place.TheVariants.Riding, Place.TheVariants.Aborted, Row.Row}
use Rattle.events.specs.declared.event.Phase.TheVariants as phase
use Rattle.law_one_place.proofs.Boarding.{in_line, waits_few, line_one, waiters_in_line}
use Rattle.law_one_place.proofs.{Places.rides, Places.InOne, Places.off_none, Places.listed_once, Turns.always_kept, Turns.through_keeps}
use Rattle.parts.specs.Owners.{Owner, owner_of, begins_in, crosses, link_at, lag}
use Rattle.parts.specs.Parts.{came_last, late_rows, all_late, rides_in, is_late, has, flies_from, enters_queue, freed}
use Rattle.law_partitions.proofs.Calms.{away_list, trimmed, link_away, link_spare_away, node_spare_away, late_in, listed_in_one}
use Rattle.law_partitions.proofs.{Early.mid, Early.mid-list, Early.world-next, Early.came_is, Ends.less, Ends.past_next, Flights.few_mid, Flights.flights_began}
use Rattle.law_partitions.proofs.{Handed.entered, Handed.enters_put, History.queue_step, History.came_none, Home.Lawful, Home.Home, Home.IsHome, Home.has-is}
use Rattle.law_partitions.proofs.{Home.home_mid, Lags.lag-some, Lags.in_range, Late.link_moves-leaves, Listing.listed-filter, Listing.listed-two}
use Rattle.law_partitions.proofs.{Listing.listed_home, Listing.on_link, Listing.apart_lists, Persons.AlightAll, Persons.nodes_home, Persons.links_home}
use Rattle.law_partitions.proofs.{Persons.concern, Places.entered-append, Quiet.person_moves, Quiet.person-run}
use Rattle.law_partitions.proofs.Second.{C_world, C_moves-are, D_moves-are, C-came, C-list, D-list, C-length, came_in, came_late, next}
use Rattle.law_partitions.proofs.{Spare.Carries, Spare.Spare, Spare.spare-left, Spare.spare-enters, Spare.listed-drop, Tells.listed-cons, Tells.listed-append}
use Rattle.law_partitions.{proofs.Turns.eqb_turn, specs.Alone.my_nodes, specs.Alone.sent_out, specs.Alone.goes_out, specs.Premises.before_D}
pub use Rattle.law_partitions.specs.Premises.{Arrivals}

alight_here : (S : Setup) (t i l : ℕ) (s : Stage) → Arrivals S → i < length S.persons → AlightAll S l i (person_of i (C_world S t (mid S t))).element (at l s (C_world S t (mid S t)))
unfolding through
alight_here S t i l s a lt = a.alight t i l s lt

-- ONE LINK CONCERNS HIM
pub in_one_C : (S : Setup) (t i : ℕ) → i < length S.persons → InOne i (C_world S t (mid S t))
unfolding through
in_one_C S t i lt =
    let few = (always_kept S t).one_row in
    through_keeps S t i (phase.A ∷ phase.B1 ∷ phase.B2 ∷ phase.C ∷ []) (world_at S t) (record { there = omega arith; listed = listed_in_one S t i lt })

pub listed_before_D : (S : Setup) (t i : ℕ) → i < length S.persons → IsListed i (before_D S t).rows (person_of i (before_D S t)).place
unfolding through
listed_before_D S t i lt = (in_one_C S t i lt).listed

three_lists : (i l : ℕ) (rows : List Row) → listed i (filter (on l Queue) rows) + (listed i (filter (on l Wait) rows) + listed i (filter (on l Bay) rows)) ≤ listed i (filter (λ (r : Row). eqb r.link l) rows)
three_lists i l [] = omega arith
three_lists i l (r ∷ rs) =
    let h = three_lists i l rs in
    let cq = listed-cons i r (filter (on l Queue) rs) in
    let cw = listed-cons i r (filter (on l Wait) rs) in
    let cb = listed-cons i r (filter (on l Bay) rs) in
    let cl = listed-cons i r (filter (λ (r : Row). eqb r.link l) rs) in
    elim (cases_Bool (on l Queue r)) [
      | inl e ↦
          let w = apart_lists l Queue l Wait refl r e in
          let y = apart_lists l Queue l Bay refl r e in
          let z = eq-eqb r.link l (on_link l Queue r e) in rw (e, w, y, z) (omega arith)
      | inr e ↦ elim (cases_Bool (on l Wait r)) [
        | inl w ↦
            let y = apart_lists l Wait l Bay refl r w in
            let z = eq-eqb r.link l (on_link l Wait r w) in rw (e, w, y, z) (omega arith)
        | inr w ↦ elim (cases_Bool (on l Bay r)) [
          | inl y ↦ let z = eq-eqb r.link l (on_link l Bay r y) in rw (e, w, y, z) (omega arith)
          | inr y ↦ elim (cases_Bool (eqb r.link l)) [ inl z ↦ rw (e, w, y, z) (omega arith) | inr z ↦ rw (e, w, y, z) (omega arith) ]
        ]
      ]
    ]

waits_one : (S : Setup) (l a i : ℕ) (w : Leg) (next : Act) (pl : Place) → l ≢ a → 1 ≤ in_line i (waits_on S l i w next pl) → in_line i (waits_on S a i w next pl) ≡ 0
waits_one S l a i w next (Waiting stop since) ne h =
    elim (cases_Bool (eqb (link_of_stop S stop) l)) [
      | inl e ↦ let f = ne_eqb (link_of_stop S stop) a (λ q. ne (sym (eqb-true (link_of_stop S stop) l e) ∙ q)) in rw f refl
      | inr e ↦ let z = simp e at h in absurd (omega arith)
    ]
waits_one S l a i w next (At end) ne h = refl
waits_one S l a i w next (Teleporting start) ne h = refl
waits_one S l a i w next (Riding v) ne h = refl
waits_one S l a i w next (Aborted m) ne h = refl

line_le : (S : Setup) (l i : ℕ) (U : World) → in_line i (waiters S l U) ≤ in_line i (waiter S l i (person_of i U))
unfolding waiters
line_le S l i U = line_one (λ (j : ℕ). waiter S l j (person_of j U)) i (λ j. waits_few S l j i (leg_at S j (person_of j U).element) (act_after S j (person_of j U).element) (person_of j U).place) 0 (length U.persons)

on_two : (l a : ℕ) → l ≢ a → (r : Row) → eqb r.link l ≡ true → eqb r.link a ≡ false
on_two l a ne r e = ne_eqb r.link a (λ q. ne (sym (eqb-true r.link l e) ∙ q))

module _ (S : Setup) (own : Owner) (p t i : ℕ) (b : Bool) (U : World) (h : InOne i U) where
  rows_once : listed i U.rows ≤ 1
  rows_once = listed_once i U.rows (person_of i U).place h.listed

  line_off : (l : ℕ) → 1 ≤ in_line i (waiters S l U) → listed i U.rows ≡ 0
  line_off l some = off_none i U.rows (person_of i U).place ((waiters_in_line S l i U).off some) h.listed

  pub concern_few : (l : ℕ) → concern S own p t b i l U ≤ 1
  concern_few l =
      let a = three_lists i l U.rows in
      let c = listed-filter i (λ (r : Row). eqb r.link l) U.rows in
      let d = rows_once in
      let e = (waiters_in_line S l i U).once in
      elim (cases_lt 0 (in_line i (waiters S l U))) [ inl some ↦ let z = line_off l (omega arith) in omega arith | inr none ↦ omega arith ]

  pub concern_alone : (l a : ℕ) → l ≢ a → 1 ≤ concern S own p t b i l U → concern S own p t b i a U ≡ 0
  concern_alone l a ne some =
      let tl = three_lists i l U.rows in
      let ta = three_lists i a U.rows in
      let two = listed-two i (λ (r : Row). eqb r.link l) (λ (r : Row). eqb r.link a) (on_two l a ne) U.rows in
      let fl = listed-filter i (λ (r : Row). eqb r.link l) U.rows in
      let fa = listed-filter i (λ (r : Row). eqb r.link a) U.rows in
      let d = rows_once in
      let P = person_of i U in
      let ll = line_le S l i U in
      let la = line_le S a i U in
      elim (cases_lt 0 (in_line i (waiters S l U))) [
        | inl one ↦
            let z = line_off l (omega arith) in
            let y = waits_one S l a i (leg_at S i P.element) (act_after S i P.element) P.place ne (omega arith) in omega arith
        | inr none ↦ elim (cases_lt 0 (in_line i (waiters S a U))) [ inl one ↦ let z = line_off a (omega arith) in absurd (omega arith) | inr nobody ↦ omega arith ]
      ]

-- WHAT CAME, AND WHAT WAS SENT
untouched_enter : (l : ℕ) (m : Move) → touches l Queue m ≡ false → enters_queue (λ a. eqb a l) m ≡ []
untouched_enter l (Transfer a z k was now) h = let g = (or_parts (same l Queue a z) (on l Queue now) h).1 in enters_put l a z k was now ∙ (rw g refl)
untouched_enter l _ h = refl

untouched_enters : (l : ℕ) (ms : List Move) → Untouched l Queue ms → entered l ms ≡ []
untouched_enters l [] h = refl
untouched_enters l (m ∷ ms) h = ap (λ xs. xs ++ entered l ms) (untouched_enter l m h.0) ∙ untouched_enters l ms h.1

-- a row that goes out goes into the queue of some link, and what goes into a queue of others goes out
abbrev sends : Setup → Owner → ℕ → Move → List Row
sends S own p m = enters_queue (λ x. not (eqb (owner_of S own x) p)) m

sent_one : (S : Setup) (own : Owner) (p i : ℕ) (m : Move) → 1 ≤ listed i (sends S own p m) → (x : ℕ) × ((eqb (owner_of S own x) p ≡ false) × (1 ≤ listed i (enters_queue (λ y. eqb y x) m)))
sent_one S own p i (Transfer a z k was now) h =
    let x = now.link in
    elim (cases_Bool (eqb (owner_of S own x) p)) [
      | inl e ↦ let z : listed i (sends S own p (Transfer a z k was now)) ≡ 0 = (rw e refl) in absurd (omega arith)
      | inr e ↦
          let same : sends S own p (Transfer a z k was now) ≡ (if on x Queue now then now ∷ [] else []) = (rw e refl) in
          let g = ap (listed i) (same ∙ sym (enters_put x a z k was now)) in (x, (e, omega arith))
    ]
sent_one S own p i _ h = absurd (omega arith)

sent_find : (S : Setup) (own : Owner) (p i : ℕ) (ms : List Move) → 1 ≤ listed i (sent_out S own p ms) → (m : ℕ) × ((eqb (owner_of S own m) p ≡ false) × (1 ≤ listed i (entered m ms)))
sent_find S own p i [] h = absurd (omega arith)
sent_find S own p i (m ∷ ms) h =
    let c = listed-append i (sends S own p m) (sent_out S own p ms) in
    let into : ℕ → List Row = λ x. enters_queue (λ y. eqb y x) m in
    elim (cases_lt 0 (listed i (sends S own p m))) [
      | inl lt ↦ let r = sent_one S own p i m (omega arith) in let d = listed-append i (into r.0) (entered r.0 ms) in let g = r.1.1 in (r.0, (r.1.0, omega arith))
      | inr ge ↦ let r = sent_find S own p i ms (omega arith) in let d = listed-append i (into r.0) (entered r.0 ms) in let g = r.1.1 in (r.0, (r.1.0, omega arith))
    ]

if_le : (i : ℕ) (x y : Bool) (now : Row) → (x ≡ true → y ≡ true) → listed i (if x then now ∷ [] else []) ≤ listed i (if y then now ∷ [] else [])
if_le i true y now h = let e = h refl in rw e (omega arith)
if_le i false y now h = omega arith

sent_le : (S : Setup) (own : Owner) (p i l : ℕ) → eqb (owner_of S own l) p ≡ false → (m : Move) → listed i (enters_queue (λ a. eqb a l) m) ≤ listed i (sends S own p m)
sent_le S own p i l o (Transfer a z k was now) =
    let x = now.link in
    if_le i (eqb x l && on x Queue now) (not (eqb (owner_of S own x) p) && on x Queue now) now
    (λ e. let g = and_parts (eqb x l) (on x Queue now) e in let q : eqb (owner_of S own x) p ≡ false = ap (λ (y : ℕ). eqb (owner_of S own y) p) (eqb-true x l g.0) ∙ o in let g1 = g.1 in rw (q, g1) refl)
sent_le S own p i l o _ = omega arith

sent_all : (S : Setup) (own : Owner) (p i l : ℕ) → eqb (owner_of S own l) p ≡ false → (ms : List Move) → listed i (entered l ms) ≤ listed i (sent_out S own p ms)
sent_all S own p i l o [] = omega arith
sent_all S own p i l o (m ∷ ms) =
    let a1 = listed-append i (enters_queue (λ a. eqb a l) m) (entered l ms) in
    let a2 = listed-append i (sends S own p m) (sent_out S own p ms) in
    let le = sent_le S own p i l o m in
    let r = sent_all S own p i l o ms in omega arith

sent-append : (S : Setup) (own : Owner) (p : ℕ) (xs ys : List Move) → sent_out S own p (xs ++ ys) ≡ sent_out S own p xs ++ sent_out S own p ys
sent-append S own p xs ys = flat_map-append (enters_queue (λ m. not (eqb (owner_of S own m) p))) xs ys

-- of more turns there is more
entered_more : (i l : ℕ) (plan : ℕ → List Move) (mine : ℕ → Bool) (ns : List ℕ) → listed i (entered l (flat_map plan (filter mine ns))) ≤ listed i (entered l (flat_map plan ns))
entered_more i l plan mine [] = omega arith
entered_more i l plan mine (n ∷ ns) =
    let r = entered_more i l plan mine ns in
    let a = ap (listed i) (entered-append l (plan n) (flat_map plan ns)) ∙ listed-append i (entered l (plan n)) (entered l (flat_map plan ns)) in
    elim (cases_Bool (mine n)) [
      | inl e ↦ rw e (let c = ap (listed i) (entered-append l (plan n) (flat_map plan (filter mine ns))) ∙ listed-append i (entered l (plan n)) (entered l (flat_map plan (filter mine ns))) in omega arith)
      | inr e ↦ rw e (omega arith)
    ]

-- a person who is listed in rows is listed in one of their sublists
find_row : (i : ℕ) (rows : List Row) → 1 ≤ listed i rows → (l : ℕ) × ((s : Stage) × (1 ≤ listed i (filter (on l s) rows)))
find_row i [] h = absurd (omega arith)
find_row i (r ∷ rs) h =
    let c = listed-cons i r rs in
    elim (cases_lt 0 (rides i r.vehicle)) [
      | inl lt ↦
          let e : on r.link r.stage r ≡ true = (let x = eq-eqb (rank r.stage) (rank r.stage) refl in let y = eq-eqb r.link r.link refl in rw (x, y) refl) in
          (r.link, (r.stage, (rw e (let d = listed-cons i r (filter (on r.link r.stage) rs) in omega arith))))
      | inr ge ↦
          let f = find_row i rs (omega arith) in
          let l = f.0 in
          let s = f.1.0 in
          let g = f.1.1 in
          (l, (s, elim (cases_Bool (on l s r)) [ inl e ↦ rw e (let d = listed-cons i r (filter (on l s) rs) in omega arith) | inr e ↦ rw e g ]))
    ]

all_none : (i : ℕ) (f : ℕ → List Row) (pass : ℕ → Bool) → ((l : ℕ) → pass l ≡ true → listed i (f l) ≡ 0) → (ns : List ℕ) → listed i (flat_map f (filter pass ns)) ≡ 0
all_none i f pass h [] = refl
all_none i f pass h (n ∷ ns) =
    let r = all_none i f pass h ns in
    elim (cases_Bool (pass n)) [
      | inl e ↦ rw e (let a = listed-append i (f n) (flat_map f (filter pass ns)) in let z = h n e in omega arith)
      | inr e ↦ rw e r
    ]

pub all_some : (i : ℕ) (f : ℕ → List Row) (pass : ℕ → Bool) (l k c : ℕ) → k ≤ l → l < k + c → pass l ≡ true → listed i (f l) ≤ listed i (flat_map f (filter pass (numbers k c)))
all_some i f pass l k zero h g e = absurd (omega arith)
all_some i f pass l k (suc c) h g e =
    let rest = flat_map f (filter pass (numbers (k + 1) c)) in
    let a = listed-append i (f k) rest in
    elim (cases_Bool (eqb k l)) [
      | inl q ↦ let r = eqb-true k l q in let y : pass k ≡ true = ap pass r ∙ e in let z = ap (λ (x : ℕ). listed i (f x)) r in rw y (omega arith)
      | inr q ↦
          let d : k ≢ l = eqb-false k l q in
          let j = all_some i f pass l (k + 1) c (omega arith) (omega arith) e in
          elim (cases_Bool (pass k)) [ inl z ↦ rw z (omega arith) | inr z ↦ rw z j ]
    ]

-- AFTER THE SECOND
module _ (S : Setup) (own : Owner) (p t i : ℕ) (law : Lawful S) (arrivals : Arrivals S) (lt : i < length S.persons) where
  abbrev b : Bool
  b = has S own (less S own) p t i

  abbrev V : World
  V = mid S t

  abbrev U : World
  U = C_world S t V

  abbrev W1 : World
  W1 = world_at S (suc t)

  bool_or : (x y : Bool) → (x ≡ y) ⊎ (x ≡ not y)
  bool_or true true = inl refl
  bool_or true false = inr refl
  bool_or false true = inr refl
  bool_or false false = inl refl

  pub buffers_ours : (l : ℕ) → 1 ≤ listed i (at l Buffer V) → eqb (owner_of S own l) p ≡ b
  buffers_ours l some = elim (bool_or (eqb (owner_of S own l) p) b) [
    | inl o ↦ o
    | inr o ↦ let z = ap (listed i) (mid-list S t l Buffer refl) ∙ away_list S own p t i law lt l Buffer refl o in absurd (omega arith)
  ]

  home_C : Home S own p t b i (person_of i U)
  home_C =
      let few = few_mid S t in
      let e : person_of i U ≡ person_moves S t i (flat_map (λ n. node_turns S t n V) (below S.nodes)) (person_of i V) = ap (λ ms. person_of i (run S t ms V)) (C_moves-are S t V) ∙ person-run S t i (flat_map (λ n. node_turns S t n V) (below S.nodes)) V (omega arith) in
      rw e (nodes_home S own p t b i V buffers_ours (below S.nodes) (person_of i V) (home_mid S own p t i law lt))

  pub home_next : Home S own p t b i (person_of i W1)
  home_next =
      let few = few_mid S t in
      let f2 = C-length S t V in
      let one = in_one_C S t i lt in
      let ms = flat_map (λ l. link_turns S t l U) (below (length S.links)) in
      let e : person_of i W1 ≡ person_moves S t i ms (person_of i U) = ap (person_of i) (world-next S t) ∙ ap (λ us. person_of i (run S t us U)) (D_moves-are S t U) ∙ person-run S t i ms U (omega arith) in
      rw e (links_home S own p t b i (person_of i U).element U (concern_few S own p t i b U one) (concern_alone S own p t i b U one) (λ l s. alight_here S t i l s arrivals lt) (λ l o. link_away S own p t i law lt l o)
      0 (length S.links) (person_of i U) (λ l le some. refl) home_C)

  -- where p and he do not belong together he is listed nowhere, but for what came
  rest_U : (l : ℕ) (s : Stage) → eqb (rank s) 0 ≡ false → eqb (owner_of S own l) p ≡ not b → listed i (at l s U) ≡ 0
  rest_U l Queue z o = absurd (true≢false z)
  rest_U l Buffer z o =
      let n = (link_row S l).to in
      let ms = flat_map (λ n. node_turns S t n V) (filter (λ m. eqb m n) (below S.nodes)) in
      let e = C-list S t (λ m. eqb m n) l Buffer V (λ m f. eqb_turn m n f) in
      let sp : Spare i ms = each_flat_where (Carries i) (λ x. node_turns S t x V) (λ x. eqb x n) (λ x e. subst (λ (y : ℕ). Spare i (node_turns S t y V)) (sym (eqb-true x n e)) (node_spare_away S own p t i law lt n o)) (below S.nodes) in
      let le = spare-left i l Buffer ms (at l Buffer V) sp in
      let q = ap (listed i) e in
      let none = ap (listed i) (mid-list S t l Buffer refl) ∙ away_list S own p t i law lt l Buffer refl o in omega arith
  rest_U l Wait z o = (trimmed S own p t i law lt l o).1.1.4
  rest_U l Bay z o = (trimmed S own p t i law lt l o).1.1.5

  rest_list : (l : ℕ) (s : Stage) → eqb (rank s) 0 ≡ false → eqb (owner_of S own l) p ≡ not b → listed i (at l s W1) ≡ 0
  rest_list l s z o =
      let w = ap (λ (x : World). listed i (at l s x)) (world-next S t) in
      let none = rest_U l s z o in
      elim (cases_lt l (length S.links)) [
        | inl inside ↦
            let e = ap (listed i) (D-list S t l s U inside) in
            let le = spare-left i l s (link_turns S t l U) (at l s U) (link_spare_away S own p t i law lt l o) in omega arith
        | inr past ↦ let e = ap (listed i) (past_next S t l s V past) in omega arith
      ]

  rest_queue : (l : ℕ) (o : eqb (owner_of S own l) p ≡ not b) → listed i (at l Queue W1) ≡ listed i (trimmed S own p t i law lt l o).1.0 + listed i (came_in S t V l)
  rest_queue l o =
      let z = trimmed S own p t i law lt l o in
      let xs = z.0 in
      let ys = z.1.0 in
      let f = z.1.1 in
      let zs = ys ++ came_in S t V l in
      let w = ap (λ (x : World). listed i (at l Queue x)) (world-next S t) in
      let none : listed i xs ≡ 0 = f.2 in
      let more = listed-append i ys (came_in S t V l) in
      let all : at l Queue U ≡ xs ++ zs = C-came S t l V ∙ ap (λ us. us ++ came_in S t V l) (mid-list S t l Queue refl ∙ f.0) ∙ append_assoc xs ys (came_in S t V l) in
      elim (cases_lt l (length S.links)) [
        | inl inside ↦
            let L = record (link_state l U) { queue = xs } in
            let ws = waiters S l U in
            let ms = link_moves (rules S l) t l ws L in
            let e : at l Queue (next S t V) ≡ drop (freed l ms) xs ++ zs = D-list S t l Queue U inside ∙ ap (λ ns. at_after_all l Queue ns (at l Queue U)) f.3 ∙ ap (at_after_all l Queue ms) all ∙ (link_moves-leaves (rules S l) t l ws L zs).0 in
            let q = ap (listed i) e in
            let a = listed-append i (drop (freed l ms) xs) zs in
            let le = listed-drop i (freed l ms) xs in omega arith
        | inr past ↦
            let e = ap (listed i) (past_next S t l Queue V past ∙ all) in
            let a = listed-append i xs zs in omega arith
      ]

  -- what came from nodes with which he has nothing to do
  nodes_spare : (l : ℕ) → eqb (begins_in S own l) p ≡ not b → (ns : List ℕ) → listed i (entered l (flat_map (λ n. node_turns S t n V) ns)) ≡ 0
  nodes_spare l o [] = refl
  nodes_spare l o (n ∷ ns) =
      let plan : ℕ → List Move = λ n. node_turns S t n V in
      let r = nodes_spare l o ns in
      let a = ap (listed i) (entered-append l (plan n) (flat_map plan ns)) ∙ listed-append i (entered l (plan n)) (entered l (flat_map plan ns)) in
      let one : listed i (entered l (plan n)) ≡ 0 = (elim (cases_Bool (eqb n (link_row S l).from)) [
        | inl e ↦ spare-enters i (λ m. eqb m l) (plan n) (node_spare_away S own p t i law lt n (ap (λ (x : ℕ). eqb (own x) p) (eqb-true n (link_row S l).from e) ∙ o))
        | inr e ↦ ap (listed i) (untouched_enters l (plan n) (node_untouched S t n l Queue V (eqb_turn n (link_row S l).from e)))
      ]) in omega arith

  pub came_spare : (l : ℕ) → eqb (begins_in S own l) p ≡ not b → listed i (came_in S t V l) ≡ 0
  came_spare l o = ap (λ ms. listed i (entered l ms)) (C_moves-are S t V) ∙ nodes_spare l o (below S.nodes)

  abbrev pub sent : List Row
  sent = sent_out S own p (flat_map (λ n. node_turns S t n V) (my_nodes S own p))

  nodes_sent : (l : ℕ) → b ≡ true → eqb (owner_of S own l) p ≡ false → (ns : List ℕ) → listed i (entered l (flat_map (λ n. node_turns S t n V) ns)) ≤ listed i (sent_out S own p (flat_map (λ n. node_turns S t n V) (filter (λ n. eqb (own n) p) ns)))
  nodes_sent l y o [] = omega arith
  nodes_sent l y o (n ∷ ns) =
      let plan : ℕ → List Move = λ n. node_turns S t n V in
      let r = nodes_sent l y o ns in
      let a = ap (listed i) (entered-append l (plan n) (flat_map plan ns)) ∙ listed-append i (entered l (plan n)) (entered l (flat_map plan ns)) in
      elim (cases_Bool (eqb (own n) p)) [
        | inl e ↦ rw e (
            let c = ap (listed i) (sent-append S own p (plan n) (flat_map plan (filter (λ n. eqb (own n) p) ns))) ∙ listed-append i (sent_out S own p (plan n)) (sent_out S own p (flat_map plan (filter (λ n. eqb (own n) p) ns))) in
            let d = sent_all S own p i l o (plan n) in omega arith)
        | inr e ↦ rw e (let d = spare-enters i (λ m. eqb m l) (plan n) (node_spare_away S own p t i law lt n (e ∙ sym (ap not y))) in omega arith)
      ]

  came_sent : (l : ℕ) → b ≡ true → eqb (owner_of S own l) p ≡ false → listed i (came_in S t V l) ≤ listed i sent
  came_sent l y o = let e = ap (λ ms. listed i (entered l ms)) (C_moves-are S t V) in let f = nodes_sent l y o (below S.nodes) in omega arith

  pub sent_came : 1 ≤ listed i sent → (m : ℕ) × ((eqb (owner_of S own m) p ≡ false) × (1 ≤ listed i (came_in S t V m)))
  sent_came some =
      let f = sent_find S own p i (flat_map (λ n. node_turns S t n V) (my_nodes S own p)) some in
      let m = f.0 in
      let g = f.1.1 in
      let e = ap (λ ms. listed i (entered m ms)) (C_moves-are S t V) in
      let more = entered_more i m (λ n. node_turns S t n V) (λ n. eqb (own n) p) (below S.nodes) in
      (m, (f.1.0, omega arith))

  -- what came stands in the queue
  pub came_stays : (m : ℕ) → listed i (came_in S t V m) ≤ listed i (at m Queue W1)
  came_stays m =
      let w = ap (λ (x : World). listed i (at m Queue x)) (world-next S t) in
      elim (cases_lt m (length S.links)) [
        | inl inside ↦
            let q = queue_step S t m V (at m Queue V) [] inside (sym (append-nil (at m Queue V))) (came_late S t m V) in
            let e = ap (listed i) q.1 in
            let a = listed-append i q.0 (came_in S t V m) in omega arith
        | inr past ↦
            let e = ap (listed i) (past_next S t m Queue V past ∙ C-came S t m V) in
            let a = listed-append i (at m Queue V) (came_in S t V m) in omega arith
      ]

  -- WHO IS OF p AFTER THE SECOND
  abbrev P1 : Person
  P1 = person_of i W1

  abbrev now : ℕ → ℕ → ℕ
  now = lag S own

  in_one_next : IsListed i W1.rows P1.place
  in_one_next = listed_in_one S (suc t) i lt

  late_step : (l : ℕ) → crosses S own l ≡ true → late_rows S own now (suc t) l ≡ late_rows S own (less S own) t l ++ came_in S t V l
  unfolding came_last
  late_step l c =
      let q = begins_in S own l in
      let o = owner_of S own l in
      let some = lag-some S own law.long q o in
      let j : lag S own q o ≡ suc (lag S own q o - 1) = omega arith in
      (rw c (ap (came_last S l (suc t)) j ∙ ap (λ xs. came_last S l t (lag S own q o - 1) ++ xs) (came_is S l t)))

  late_none : (l : ℕ) → crosses S own l ≡ false → (late_rows S own now (suc t) l ≡ []) × (late_rows S own (less S own) t l ≡ [])
  late_none l c = ((rw c (came_none S l (suc t))), (rw c (came_none S l t)))

  link_next : (l : ℕ) (s : Stage) → 1 ≤ listed i (at l s W1) → link_at S W1 i P1.element P1.place ≡ l
  link_next l s some = listed_home S W1 l s i P1.element P1.place in_one_next some

  crosses_into : (l : ℕ) → eqb (owner_of S own l) p ≡ true → crosses S own l ≡ not (eqb (begins_in S own l) p)
  crosses_into l e = ap (λ x. not (eqb (begins_in S own l) x)) (eqb-true (owner_of S own l) p e)

  zero_of : (n : ℕ) → nat_lt 0 n ≡ false → n ≡ 0
  zero_of n e = let z = ltb-false 0 n e in omega arith

  not_true : (x : Bool) → not x ≡ true → x ≡ false
  not_true true e = absurd (true≢false (sym e))
  not_true false e = refl

  not_false : (x : Bool) → not x ≡ false → x ≡ true
  not_false true e = refl
  not_false false e = absurd (true≢false e)

  off_late : (l : ℕ) → listed i (world_at S t).rows ≡ 0 → listed i (late_rows S own (less S own) t l) ≡ 0
  off_late l none =
      let le = listed-filter i (on l Queue) (world_at S t).rows in
      let in_queue = late_in S own p t i law lt l in omega arith

  -- whom p knew before the second, he rides in no late row
  late_by : (l : ℕ) → eqb (owner_of S own l) p ≡ true → (pl : Place) → (person_of i (world_at S t)).place ≡ pl → not (is_late S own (less S own) p t i (person_of i (world_at S t)).element pl) ≡ true → listed i (late_rows S own (less S own) t l) ≡ 0
  late_by l o (Riding v) e f =
      let z = zero_of (listed i (all_late S own (less S own) p t)) (not_true (rides_in i (all_late S own (less S own) p t)) f) in
      elim (cases_Bool (crosses S own l)) [
        | inl c ↦
            let inside = in_range S own l c in
            let le = all_some i (late_rows S own (less S own) t) (λ l. eqb (owner_of S own l) p) l 0 (length S.links) (omega arith) (omega arith) o in omega arith
        | inr c ↦ ap (listed i) (late_none l c).1
      ]
  late_by l o (At end) e f = off_late l (subst (λ pl. IsListed i (world_at S t).rows pl) e (listed_in_one S t i lt))
  late_by l o (Teleporting start) e f = off_late l (subst (λ pl. IsListed i (world_at S t).rows pl) e (listed_in_one S t i lt))
  late_by l o (Waiting stop since) e f = off_late l (subst (λ pl. IsListed i (world_at S t).rows pl) e (listed_in_one S t i lt))
  late_by l o (Aborted m) e f = off_late l (subst (λ pl. IsListed i (world_at S t).rows pl) e (listed_in_one S t i lt))

  late_before : b ≡ true → (l : ℕ) → eqb (owner_of S own l) p ≡ true → listed i (late_rows S own (less S own) t l) ≡ 0
  late_before y l o =
      let W0 = world_at S t in
      let P0 = person_of i W0 in
      let q : (eqb (owner_of S own (link_at S W0 i P0.element P0.place)) p && not (is_late S own (less S own) p t i P0.element P0.place)) ≡ true = sym (has-is S own (less S own) p t i lt P0.place refl) ∙ y in
      late_by l o P0.place refl (and_parts (eqb (owner_of S own (link_at S W0 i P0.element P0.place)) p) (not (is_late S own (less S own) p t i P0.element P0.place)) q).1

  late_after : b ≡ true → listed i (all_late S own now p (suc t)) ≡ 0
  late_after y = all_none i (late_rows S own now (suc t)) (λ l. eqb (owner_of S own l) p)
      (λ l o. elim (cases_Bool (crosses S own l)) [
        | inl c ↦
            let e = ap (listed i) (late_step l c) ∙ listed-append i (late_rows S own (less S own) t l) (came_in S t V l) in
            let z = late_before y l o in
            let w = came_spare l (not_true (eqb (begins_in S own l) p) (sym (crosses_into l o) ∙ c) ∙ sym (ap not y)) in omega arith
        | inr c ↦ ap (listed i) (late_none l c).0
      ]) (below (length S.links))

  -- he does not ride on a link of others, unless he was sent there
  not_there : b ≡ true → listed i sent ≡ 0 → (l : ℕ) (s : Stage) → eqb (owner_of S own l) p ≡ false → 1 ≤ listed i (at l s W1) → ⊥
  not_there y none l Queue o some =
      let n : eqb (owner_of S own l) p ≡ not b = o ∙ sym (ap not y) in
      let e = rest_queue l n in
      let z = ap (listed i) ((trimmed S own p t i law lt l n).1.1.6 y) in
      let le = came_sent l y o in absurd (omega arith)
  not_there y none l Buffer o some = let e = rest_list l Buffer refl (o ∙ sym (ap not y)) in absurd (omega arith)
  not_there y none l Wait o some = let e = rest_list l Wait refl (o ∙ sym (ap not y)) in absurd (omega arith)
  not_there y none l Bay o some = let e = rest_list l Bay refl (o ∙ sym (ap not y)) in absurd (omega arith)

  -- and whom p did not know rides on its links in late rows alone
  must_be_late : b ≡ false → (l : ℕ) (s : Stage) → eqb (owner_of S own l) p ≡ true → 1 ≤ listed i (at l s W1) → 1 ≤ listed i (all_late S own now p (suc t))
  must_be_late n l Queue o some =
      let m : eqb (owner_of S own l) p ≡ not b = o ∙ sym (ap not n) in
      let e = rest_queue l m in
      let z = ap (listed i) ((trimmed S own p t i law lt l m).1.1.7 n) in
      elim (cases_Bool (crosses S own l)) [
        | inl c ↦
            let inside = in_range S own l c in
            let st = ap (listed i) (late_step l c) ∙ listed-append i (late_rows S own (less S own) t l) (came_in S t V l) in
            let le = all_some i (late_rows S own now (suc t)) (λ l. eqb (owner_of S own l) p) l 0 (length S.links) (omega arith) (omega arith) o in omega arith
        | inr c ↦
            let x = ap (listed i) (late_none l c).1 in
            let w = came_spare l (not_false (eqb (begins_in S own l) p) (sym (crosses_into l o) ∙ c) ∙ sym (ap not n)) in absurd (omega arith)
      ]
  must_be_late n l Buffer o some = let e = rest_list l Buffer refl (o ∙ sym (ap not n)) in absurd (omega arith)
  must_be_late n l Wait o some = let e = rest_list l Wait refl (o ∙ sym (ap not n)) in absurd (omega arith)
  must_be_late n l Bay o some = let e = rest_list l Bay refl (o ∙ sym (ap not n)) in absurd (omega arith)

  has_riding : (v : VehicleId) → P1.place ≡ Riding v → has S own now p (suc t) i ≡ (b && not (rides_in i sent))
  has_riding v e =
      let is = has-is S own now p (suc t) i lt (Riding v) e in
      let once : listed i W1.rows ≡ 1 = (subst (λ pl. IsListed i W1.rows pl) e in_one_next).0 in
      let f = find_row i W1.rows (omega arith) in
      let l = f.0 in
      let s = f.1.0 in
      let some = f.1.1 in
      let home : link_at S W1 i P1.element (Riding v) ≡ l = ap (link_at S W1 i P1.element) (sym e) ∙ link_next l s some in
      let owner : eqb (owner_of S own (link_at S W1 i P1.element (Riding v))) p ≡ eqb (owner_of S own l) p = ap (λ (x : ℕ). eqb (owner_of S own x) p) home in
      elim (cases_Bool b) [
        | inl y ↦ elim (cases_lt 0 (listed i sent)) [
          | inl out ↦
              let g = sent_came (omega arith) in
              let m = g.0 in
              let st = came_stays m in
              let c = g.1.1 in
              let there : link_at S W1 i P1.element (Riding v) ≡ m = ap (link_at S W1 i P1.element) (sym e) ∙ link_next m Queue (omega arith) in
              let off : eqb (owner_of S own (link_at S W1 i P1.element (Riding v))) p ≡ false = ap (λ (x : ℕ). eqb (owner_of S own x) p) there ∙ g.1.0 in
              let left : has S own now p (suc t) i ≡ false = is ∙ (rw off refl) in
              let r : rides_in i sent ≡ true = lt-ltb 0 (listed i sent) out in
              let right : (b && not (rides_in i sent)) ≡ false = (rw (y, r) refl) in
              left ∙ sym right
          | inr within ↦
              let none : listed i sent ≡ 0 = omega arith in
              let r : rides_in i sent ≡ false = ap (nat_lt 0) none in
              let right : (b && not (rides_in i sent)) ≡ true = (rw (y, r) refl) in
              let late : rides_in i (all_late S own now p (suc t)) ≡ false = ap (nat_lt 0) (late_after y) in
              let ours : eqb (owner_of S own (link_at S W1 i P1.element (Riding v))) p ≡ true = owner ∙ (elim (cases_Bool (eqb (owner_of S own l) p)) [ inl o ↦ o | inr o ↦ absurd (not_there y none l s o some) ]) in
              let left : has S own now p (suc t) i ≡ true = is ∙ (rw (ours, late) refl) in
              left ∙ sym right
        ]
        | inr n ↦
            let right : (b && not (rides_in i sent)) ≡ false = (rw n refl) in
            elim (cases_Bool (eqb (owner_of S own l) p)) [
              | inl o ↦
                  let late : rides_in i (all_late S own now p (suc t)) ≡ true = (let z = must_be_late n l s o some in lt-ltb 0 (listed i (all_late S own now p (suc t))) (omega arith)) in
                  let ours : eqb (owner_of S own (link_at S W1 i P1.element (Riding v))) p ≡ true = owner ∙ o in
                  let left : has S own now p (suc t) i ≡ false = is ∙ (rw (ours, late) refl) in
                  left ∙ sym right
              | inr o ↦
                  let off : eqb (owner_of S own (link_at S W1 i P1.element (Riding v))) p ≡ false = owner ∙ o in
                  let left : has S own now p (suc t) i ≡ false = is ∙ (rw off refl) in
                  left ∙ sym right
            ]
      ]

  fly_two : (x y : Bool) → (x && not (not y && true)) ≡ (y && not (true && not x))
  fly_two true true = refl
  fly_two true false = refl
  fly_two false true = refl
  fly_two false false = refl

  and_yes : (x : Bool) → (x && true) ≡ x
  and_yes true = refl
  and_yes false = refl

  fly_now : (x y q le : Bool) → q ≡ y → le ≡ true → (x && not (not q && le)) ≡ (y && not (true && not x))
  fly_now x y q le e f = (rw (e, f) (fly_two x y))

  has_flying : (start : ℕ) → P1.place ≡ Teleporting start → has S own now p (suc t) i ≡ (b && not (goes_out S own p t sent i P1.element (Teleporting start)))
  has_flying start e =
      let is = has-is S own now p (suc t) i lt (Teleporting start) e in
      let before = flights_began S (suc t) i start lt e in
      let h : IsHome S own p t b i P1.element (Teleporting start) = subst (λ pl. IsHome S own p t b i P1.element pl) e home_next in
      let q = flies_from S own i P1.element in
      let x = eqb (owner_of S own (act_after S i P1.element).link) p in
      let some = lag-some S own law.long q p in
      elim (cases_Bool (eqb start t)) [
        | inl g ↦
            let at_t = eqb-true start t g in
            let le : nat_le (suc t) (start + lag S own q p) ≡ true = grind (arith, nat_tests) in
            let from : eqb q p ≡ b = h.1 at_t in
            is ∙ fly_now x b (eqb q p) (nat_le (suc t) (start + lag S own q p)) from le ∙ (rw g refl)
        | inr g ↦
            let d : start ≢ t = eqb-false start t g in
            let test = h.0 (omega arith) in
            let same : nat_le (suc t) (start + lag S own q p) ≡ nat_le t (start + less S own q p) = grind (arith, nat_tests) in
            let right : (b && not (goes_out S own p t sent i P1.element (Teleporting start))) ≡ b = (rw g (and_yes b)) in
            is ∙ ap (λ z. x && not (not (eqb q p) && z)) same ∙ test ∙ sym right
      ]

  stays_home : (y : Bool) → y ≡ b → (y && true) ≡ (b && true)
  stays_home y e = ap (λ z. z && true) e

  -- So it is with every place.
  has_next_at : (pl : Place) → P1.place ≡ pl → has S own now p (suc t) i ≡ (b && not (goes_out S own p t sent i P1.element pl))
  has_next_at (At end) e = has-is S own now p (suc t) i lt (At end) e ∙ stays_home _ (subst (λ pl. IsHome S own p t b i P1.element pl) e home_next)
  has_next_at (Teleporting start) e = has_flying start e
  has_next_at (Waiting stop since) e = has-is S own now p (suc t) i lt (Waiting stop since) e ∙ stays_home _ (subst (λ pl. IsHome S own p t b i P1.element pl) e home_next)
  has_next_at (Riding v) e = has_riding v e
  has_next_at (Aborted l) e = has-is S own now p (suc t) i lt (Aborted l) e ∙ stays_home _ (subst (λ pl. IsHome S own p t b i P1.element pl) e home_next)

  pub has_next : has S own now p (suc t) i ≡ (b && not (goes_out S own p t sent i P1.element P1.place))
  has_next = has_next_at P1.place refl
