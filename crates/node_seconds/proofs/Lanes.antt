-- Links that are taken out of their slots and put back, and vehicles that come to links.
use Rattle.std.proofs.Common.{◌≡◌, ℕ, zero, suc, ◌+◌, ◌-◌, ◌<◌, ◌≤◌, Bool, true, false, List, [], ◌∷◌, ◌++◌, length, get_or, set, take, drop, append-nil}
use Rattle.std.proofs.Common.{append_assoc, refl, ap, sym, ◌∙◌, subst, inl, inr, arith, eqb}
use Rattle.std.proofs.lemmas.Bool.{cases_Bool, eq-eqb, eqb-true, eqb-false, ne_eqb, lt-ltb, ltb-true, or_parts, true≢false}
use Rattle.std.proofs.lemmas.List.{get_or-set_same, get_or-set_other, length-set, map-append, take-append-le, take_all, take_more}
use Rattle.std.specs.List.{flat_map, AllByRecursion as Each}
use Rattle.std.specs.Prelude.{map, ◌||◌, nat_lt, if◌then◌else◌, Option, None, Some}
use Rattle.queue_link.specs.{Links.LinkView, declared.numbers.LinkNumbers.LinkNumbers}
use Rattle.draws.specs.Words.{word}
use Rattle.traffic.specs.{Nodes.HaveNext, Vehicles.VehicleState, declared.moves.Occurrence.Occurrence}
use Rattle.calendar.specs.{Due.AreIn, Waking.wake_of, Waking.earlier}
use Rattle.node_move.specs.{Spaces.places_in, Spaces.holes_in, declared.crossings.Entering.Entering, declared.turns.NodeTurn.NodeTurn, Entries.SpaceRows}
use Rattle.node_move.specs.NodeStates.{NodeState, node_state, after_turn, buffer_after, entering_by, no_link, AreReady}
use Rattle.node_seconds.specs.Networks.{lane, is_among, AreOnce, if_there, slot_in, put_back, with_queued, put_queued, accepted, accepted_all, wakes_within}
use Rattle.node_seconds.specs.{Networks.wake_queued, Networks.wakes_after, Networks.wakes_after_all, Turns.moves_in, Turns.IsNodeSecond}

-- SLOTS
pub put_none : (ks : List ℕ) (links : List LinkView) → put_back ks [] links ≡ links
unfolding put_back
put_none [] links = refl
put_none (k ∷ ks) links = refl

-- so many links were put into the first of these slots; one more is, where a slot is left
pub left_next : (rest slots : List ℕ) (yielded : List LinkView) (v : LinkView) (links first new vs : List LinkView) → 1 ≤ length rest
    → new ≡ set links (get_or rest 0 0) v → ((ws : List LinkView) → put_back rest ws links ≡ put_back slots (yielded ++ ws) first)
    → put_back (take (length rest - 1) (drop 1 rest)) vs new ≡ put_back slots ((yielded ++ v ∷ []) ++ vs) first
unfolding put_back
left_next [] slots yielded v links first new vs some e h = absurd (omega arith)
left_next (k ∷ ks) slots yielded v links first new vs some e h =
    ap (λ (xs : List ℕ). put_back xs vs new) (take_all (length (k ∷ ks) - 1) ks (omega arith)) ∙ ap (λ (ls : List LinkView). put_back ks vs ls) e
    ∙ h (v ∷ vs) ∙ ap (λ (ws : List LinkView). put_back slots ws first) (sym (append_assoc yielded (v ∷ []) vs))

pub left_none : (rest slots : List ℕ) (yielded : List LinkView) (v : LinkView) (links first vs : List LinkView) → length rest < 1
    → ((ws : List LinkView) → put_back rest ws links ≡ put_back slots (yielded ++ ws) first)
    → put_back rest vs links ≡ put_back slots ((yielded ++ v ∷ []) ++ vs) first
unfolding put_back
left_none (k ∷ ks) slots yielded v links first vs none h = absurd (omega arith)
left_none [] slots yielded v links first vs none h =
    h (v ∷ vs) ∙ ap (λ (ws : List LinkView). put_back slots ws first) (sym (append_assoc yielded (v ∷ []) vs))

pub put_so_far : (rest slots : List ℕ) (yielded links first : List LinkView)
    → ((ws : List LinkView) → put_back rest ws links ≡ put_back slots (yielded ++ ws) first) → links ≡ put_back slots yielded first
put_so_far rest slots yielded links first h =
    sym (put_none rest links) ∙ h [] ∙ ap (λ (ws : List LinkView). put_back slots ws first) (append-nil yielded)

put_lane : (f : ℕ → LinkView) (ns : List ℕ) (links : List LinkView) (l : ℕ) → l < length links
    → lane (put_back ns (map f ns) links) l ≡ (if is_among l ns then f l else lane links l)
unfolding put_back
put_lane f [] links l lt = refl
put_lane f (n ∷ ns) links l lt =
    let here = set links n (f n) in
    let there : l < length here = (let q = length-set links n (f n) in omega arith) in
    let start = put_lane f ns here l there in
    elim (cases_Bool (is_among l ns)) [
      | inl a ↦ start ∙ by_later (eqb n l) (is_among l ns) (f l) (lane here l) (lane links l) a
      | inr a ↦
          elim (cases_Bool (eqb n l)) [
            | inl q ↦
                let same : n ≡ l = eqb-true n l q in
                let own : lane here l ≡ f l
                = ap (λ (k : ℕ). lane (set links k (f k)) l) same ∙ get_or-set_same links l (f l) no_link lt in
                start ∙ by_own (eqb n l) (is_among l ns) (f l) (lane here l) (lane links l) a q own
            | inr q ↦
                let other : lane here l ≡ lane links l = get_or-set_other links n l (f n) no_link (λ z. eqb-false n l q (sym z)) in
                start ∙ by_none (eqb n l) (is_among l ns) (f l) (lane here l) (lane links l) a q other
          ]
    ]
  where
    by_later : (b a : Bool) (x y z : LinkView) → a ≡ true → (if a then x else y) ≡ (if b || a then x else z)
    by_later true true x y z e = refl
    by_later false true x y z e = refl
    by_later true false x y z e = absurd (true≢false (sym e))
    by_later false false x y z e = absurd (true≢false (sym e))

    by_own : (b a : Bool) (x y z : LinkView) → a ≡ false → b ≡ true → y ≡ x → (if a then x else y) ≡ (if b || a then x else z)
    by_own true a x y z e q own = rw e own
    by_own false a x y z e q own = absurd (true≢false (sym q))

    by_none : (b a : Bool) (x y z : LinkView) → a ≡ false → b ≡ false → y ≡ z → (if a then x else y) ≡ (if b || a then x else z)
    by_none b a x y z e q other = rw (e, q) other

-- TAKING
among_last : (q : ℕ) (ns : List ℕ) (n : ℕ) → is_among q (ns ++ n ∷ []) ≡ false → (is_among q ns ≡ false) × (eqb n q ≡ false)
among_last q [] n h = (refl, (or_parts (eqb n q) false h).0)
among_last q (m ∷ ns) n h =
    let p = or_parts (eqb m q) (is_among q (ns ++ n ∷ [])) h in
    let r = among_last q ns n p.1 in
    let z = p.0 in (rw z r.0, r.1)

among_at : (ns : List ℕ) (i n : ℕ) → i < length ns → get_or ns i 0 ≡ n → is_among n ns ≡ true
among_at [] i n lt e = absurd (omega arith)
among_at (m ∷ ns) zero n lt e = let q : eqb m n ≡ true = eq-eqb m n e in rw q refl
among_at (m ∷ ns) (suc i) n lt e =
    elim (cases_Bool (eqb m n)) [ inl q ↦ rw q refl | inr q ↦ rw q (among_at ns i n (omega arith) e) ]

-- a number that stands once is not among those before it
pub among_front : (ns : List ℕ) (i : ℕ) → AreOnce ns → i < length ns → is_among (get_or ns i 0) (take i ns) ≡ false
among_front [] i h lt = absurd (omega arith)
among_front (n ∷ ns) zero h lt = refl
among_front (n ∷ ns) (suc i) h lt =
    let m = get_or ns i 0 in
    let r = among_front ns i h.1 (omega arith) in
    let ne : eqb n m ≡ false = ne_eqb n m (λ e. true≢false (sym (among_at ns i n (omega arith) (sym e)) ∙ h.0)) in
    rw ne r

-- the links of these numbers were taken out of links, in order, and the others stand there now
pub record AreTaken (links now : List LinkView) (ns : List ℕ) (taken : List LinkView) : Type 0 where
  pub all : taken ≡ map (lane links) ns
  pub others : (q : ℕ) → is_among q ns ≡ false → lane now q ≡ lane links q

pub take_one : (links now later : List LinkView) (ns : List ℕ) (i n : ℕ) (v empty : LinkView) (taken more : List LinkView) → AreOnce ns → i < length ns
    → n ≡ get_or ns i 0 → v ≡ lane now n → later ≡ set now n empty → more ≡ taken ++ v ∷ []
    → AreTaken links now (take i ns) taken → AreTaken links later (take (i + 1) ns) more
take_one links now later ns i n v empty taken more once lt e ev el em h =
    let split : take (i + 1) ns ≡ take i ns ++ n ∷ [] = take_more ns i 0 lt ∙ ap (λ (k : ℕ). take i ns ++ k ∷ []) (sym e) in
    let fresh : is_among n (take i ns) ≡ false = ap (λ (k : ℕ). is_among k (take i ns)) e ∙ among_front ns i once lt in
    let was : v ≡ lane links n = ev ∙ h.others n fresh in
    record {
      all =
          em ∙ ap (λ (xs : List LinkView). xs ++ v ∷ []) h.all ∙ ap (λ (x : LinkView). map (lane links) (take i ns) ++ x ∷ []) was
          ∙ sym (map-append (lane links) (take i ns) (n ∷ [])) ∙ sym (ap (map (lane links)) split);
      others = λ q out.
          let p = among_last q (take i ns) n (sym (ap (is_among q) split) ∙ out) in
          ap (λ (xs : List LinkView). lane xs q) el ∙ get_or-set_other now n q empty no_link (λ z. eqb-false n q p.1 (sym z)) ∙ h.others q p.0;
    }

pub taken_none : (links : List LinkView) (ns : List ℕ) (taken : List LinkView) → taken ≡ [] → AreTaken links links (take 0 ns) taken
taken_none links ns taken e = record { all = e; others = λ q out. refl }

pub in_at : (count : ℕ) (ns : List ℕ) (i now : ℕ) → AreIn count ns → i < length ns → now ≡ count → get_or ns i 0 < now
in_at count [] i now h lt e = absurd (omega arith)
in_at count (n ∷ ns) zero now h lt e = let q = h.0 in omega arith
in_at count (n ∷ ns) (suc i) now h lt e = in_at count ns i now h.1 (omega arith) e

pub taken_all : (links now : List LinkView) (i : ℕ) (ns : List ℕ) (taken : List LinkView) → length ns ≤ i → AreTaken links now (take i ns) taken
    → taken ≡ map (lane links) ns
taken_all links now i ns taken le h = h.all ∙ ap (map (lane links)) (take_all i ns le)

pub others_all : (links now : List LinkView) (i : ℕ) (ns : List ℕ) (taken : List LinkView) → length ns ≤ i → AreTaken links now (take i ns) taken
    → (l : ℕ) → is_among l ns ≡ false → lane now l ≡ lane links l
others_all links now i ns taken le h = λ l e. h.others l (ap (is_among l) (take_all i ns le) ∙ e)

-- WHAT IS TAKEN
pub ready_taken : (f : ℕ → LinkView) (ns : List ℕ) → Each (λ (n : ℕ). HaveNext (f n).lists.buffer) ns → AreReady (map f ns)
ready_taken f [] h = tt
ready_taken f (n ∷ ns) h = (h.0, ready_taken f ns h.1)

-- WHAT IS PUT BACK
map_twice : (f : ℕ → LinkView) (g : LinkView → LinkView) (ns : List ℕ) → map g (map f ns) ≡ map (λ (n : ℕ). g (f n)) ns
map_twice f g [] = refl
map_twice f g (n ∷ ns) = ap (λ (vs : List LinkView). g (f n) ∷ vs) (map_twice f g ns)

-- what several links make of a network, which were taken out for the turn and put back
pub several_turned : (turn : NodeTurn) (n : ℕ) (old mid new taken back rest : List LinkView) (into : List ℕ) (greens : List Bool)
    (free space : SpaceRows) (es fs entering : List Entering) (gone lost : List VehicleState) (said heard : List Occurrence)
    → taken ≡ map (lane old) into → length mid ≡ length old → ((l : ℕ) → is_among l into ≡ false → lane mid l ≡ lane old l)
    → node_state back (places_in space) fs lost heard
    ≡ after_turn turn.stuck turn.second (word turn.draws) greens (node_state taken (places_in free) es gone said)
    → length back ≡ n → new ≡ put_back into (take n (back ++ rest)) mid → es ≡ [] → entering ≡ fs
    → ((m : ℕ) → holes_in space m ≡ holes_in free m) → IsNodeSecond turn into greens old new free space entering said heard
several_turned turn n old mid new taken back rest into greens free space es fs entering gone lost said heard t len others run long e none en kept =
    let P = places_in free in
    let ms = moves_in turn old into greens P in
    let turned : ℕ → LinkView = λ k. buffer_after ms (lane old k) in
    let M : List LinkView → NodeState = λ vs. after_turn turn.stuck turn.second (word turn.draws) greens (node_state vs P es gone said) in
    let is : node_state back (places_in space) fs lost heard ≡ M (map (lane old) into) = run ∙ ap M t in
    let moved : back ≡ map turned into = ap (λ (N : NodeState). N.in_links) is ∙ map_twice (lane old) (buffer_after ms) into in
    let whole : take n (back ++ rest) ≡ back = take-append-le n back rest (omega arith) ∙ take_all n back (omega arith) in
    record {
      links = λ l lt.
          let there : l < length mid = omega arith in
          let at = ap (λ (vs : List LinkView). lane vs l) (e ∙ ap (λ (vs : List LinkView). put_back into vs mid) (whole ∙ moved))
          ∙ put_lane turned into mid l there in
          elim (cases_Bool (is_among l into)) [
            | inl a ↦ at ∙ (rw a refl)
            | inr a ↦ at ∙ (rw a (others l a))
          ];
      space = ap (λ (N : NodeState). N.out_links) is;
      holes = kept;
      entered = en ∙ ap (λ (N : NodeState). N.entering) is ∙ ap (λ (xs : List Entering). xs ++ flat_map entering_by ms) none;
      said = ap (λ (N : NodeState). N.said) is;
    }

-- what a single link makes of it, in its slot
picked : (b : Bool) (x y z : LinkView) → b ≡ true → z ≡ x → z ≡ (if b || false then x else y)
picked true x y z e h = h
picked false x y z e h = absurd (true≢false (sym e))

left_out : (b : Bool) (x y z : LinkView) → b ≡ false → z ≡ y → z ≡ (if b || false then x else y)
left_out false x y z e h = h
left_out true x y z e h = absurd (true≢false e)

pub alone_turned : (turn : NodeTurn) (k : ℕ) (green : Bool) (old new : List LinkView) (v w : LinkView) (free space : SpaceRows)
    (es fs entering : List Entering) (gone lost : List VehicleState) (said heard : List Occurrence)
    → v ≡ lane old k → new ≡ set old k w
    → node_state (w ∷ []) (places_in space) fs lost heard
    ≡ after_turn turn.stuck turn.second (word turn.draws) (green ∷ []) (node_state (v ∷ []) (places_in free) es gone said)
    → es ≡ [] → entering ≡ fs → ((m : ℕ) → holes_in space m ≡ holes_in free m)
    → IsNodeSecond turn (k ∷ []) (green ∷ []) old new free space entering said heard
alone_turned turn k green old new v w free space es fs entering gone lost said heard own e run none en kept =
    let P = places_in free in
    let ms = moves_in turn old (k ∷ []) (green ∷ []) P in
    let M : LinkView → NodeState = λ x. after_turn turn.stuck turn.second (word turn.draws) (green ∷ []) (node_state (x ∷ []) P es gone said) in
    let is : node_state (w ∷ []) (places_in space) fs lost heard ≡ M (lane old k) = run ∙ ap M own in
    let moved : w ≡ buffer_after ms (lane old k) = ap (λ (N : NodeState). lane N.in_links 0) is in
    record {
      links = λ l lt.
          elim (cases_Bool (eqb k l)) [
            | inl q ↦
                let s : k ≡ l = eqb-true k l q in
                picked (eqb k l) (buffer_after ms (lane old l)) (lane old l) (lane new l) q (
                ap (λ (xs : List LinkView). lane xs l) e ∙ ap (λ (j : ℕ). lane (set old j w) l) s ∙ get_or-set_same old l w no_link lt
                ∙ moved ∙ ap (λ (j : ℕ). buffer_after ms (lane old j)) s
                )
            | inr q ↦
                left_out (eqb k l) (buffer_after ms (lane old l)) (lane old l) (lane new l) q
                (ap (λ (xs : List LinkView). lane xs l) e ∙ get_or-set_other old k l w no_link (λ (z : l ≡ k). eqb-false k l q (sym z)))
          ];
      space = ap (λ (N : NodeState). N.out_links) is;
      holes = kept;
      entered = en ∙ ap (λ (N : NodeState). N.entering) is ∙ ap (λ (xs : List Entering). xs ++ flat_map entering_by ms) none;
      said = ap (λ (N : NodeState). N.said) is;
    }

-- VEHICLES THAT COME
queued_length : (t : ℕ) (e : Entering) (o : Option ℕ) (links : List LinkView) → length (put_queued t e o links) ≡ length links
queued_length t e None links = refl
queued_length t e (Some k) links = length-set links k (with_queued t e (lane links k))

pub accepted_length : (place : ℕ → Option ℕ) (t : ℕ) (e : Entering) (links : List LinkView) → length (accepted place t e links) ≡ length links
accepted_length place t e links = queued_length t e (place e.link) links

within_length : (end l u : ℕ) (wakes : List (Option ℕ)) → length (wakes_within end l u wakes) ≡ length wakes
within_length end l u wakes =
    elim (cases_Bool (nat_lt u end)) [ inl q ↦ rw q (length-set wakes l (earlier u (wake_of wakes l))) | inr q ↦ rw q refl ]

wake_length : (end t : ℕ) (o : Option ℕ) (links : List LinkView) (wakes : List (Option ℕ)) → length (wake_queued end t o links wakes) ≡ length wakes
wake_length end t None links wakes = refl
wake_length end t (Some k) links wakes =
    let v = lane links k in
    elim (cases_Bool (eqb (length v.lists.queue) 0)) [
      | inl p ↦ rw p (within_length end k (t + v.numbers.seconds) wakes)
      | inr p ↦ rw p refl
    ]

pub woken_length : (place : ℕ → Option ℕ) (end t : ℕ) (e : Entering) (links : List LinkView) (wakes : List (Option ℕ))
    → length (wakes_after place end t e links wakes) ≡ length wakes
woken_length place end t e links wakes = wake_length end t (place e.link) links wakes

pub accepted_last : (place : ℕ → Option ℕ) (t : ℕ) (es : List Entering) (e : Entering) (links : List LinkView)
    → accepted_all place t (es ++ e ∷ []) links ≡ accepted place t e (accepted_all place t es links)
unfolding accepted_all
accepted_last place t [] e links = refl
accepted_last place t (f ∷ es) e links = accepted_last place t es e (accepted place t f links)

pub woken_last : (place : ℕ → Option ℕ) (end t : ℕ) (es : List Entering) (e : Entering) (links : List LinkView) (wakes : List (Option ℕ))
    → wakes_after_all place end t (es ++ e ∷ []) links wakes
    ≡ wakes_after place end t e (accepted_all place t es links) (wakes_after_all place end t es links wakes)
unfolding accepted_all wakes_after_all
woken_last place end t [] e links wakes = refl
woken_last place end t (f ∷ es) e links wakes = woken_last place end t es e (accepted place t f links) (wakes_after place end t f links wakes)

-- IN WHICH SLOTS THEY COME
there_is : (links : List LinkView) (m j k : ℕ) → if_there links m j ≡ Some k → (j ≡ k) × (k < length links) × ((lane links k).numbers.link ≡ m)
there_is links m j k e =
    elim (cases_Bool (nat_lt j (length links))) [
      | inl b ↦
          let f : (if eqb (lane links j).numbers.link m then Some j else None) ≡ Some k = rw b at e in
          elim (cases_Bool (eqb (lane links j).numbers.link m)) [
            | inl c ↦
                let g : Some j ≡ Some k = rw c at f in
                let s : j ≡ k = cc in
                let lt = ltb-true j (length links) b in
                let n : (lane links j).numbers.link ≡ m = eqb-true (lane links j).numbers.link m c in
                (s, omega arith, subst (λ (x : ℕ). (lane links x).numbers.link ≡ m) s n)
            | inr c ↦ let g : None ≡ Some k = rw c at f in absurd (cc)
          ]
      | inr b ↦ let f : None ≡ Some k = rw b at e in absurd (cc)
    ]

-- a slot that is found is one of these, and the link stands in it
pub slot_is : (slots : List ℕ) (links : List LinkView) (m k : ℕ) → slot_in slots links m ≡ Some k
    → (get_or slots m 0 ≡ k) × (k < length links) × ((lane links k).numbers.link ≡ m)
unfolding slot_in
slot_is slots links m k e =
    elim (cases_Bool (nat_lt m (length slots))) [
      | inl a ↦ there_is links m (get_or slots m 0) k (rw a at e)
      | inr a ↦ let f : None ≡ Some k = rw a at e in absurd (cc)
    ]

-- and a link that stands in the slot of the table is found
pub slot_there : (slots : List ℕ) (links : List LinkView) (m k : ℕ) → m < length slots → get_or slots m 0 ≡ k → k < length links
    → (lane links k).numbers.link ≡ m → slot_in slots links m ≡ Some k
unfolding slot_in
slot_there slots links m k lt s there n =
    let a = lt-ltb m (length slots) lt in
    let b = lt-ltb k (length links) there in
    let c = eq-eqb (lane links k).numbers.link m n in
    rw a (ap (if_there links m) s ∙ rw (b, c) refl)

-- by links of the same numbers the slots are the same
slot_alike : (slots : List ℕ) (A B : List LinkView) → length A ≡ length B → ((k : ℕ) → (lane A k).numbers ≡ (lane B k).numbers)
    → (m : ℕ) → slot_in slots A m ≡ slot_in slots B m
unfolding slot_in
slot_alike slots A B n f m =
    let k = get_or slots m 0 in
    ap (λ (j : ℕ). if nat_lt m (length slots) then (if nat_lt k j then (if eqb (lane A k).numbers.link m then Some k else None) else None) else None) n
    ∙ ap (λ (x : LinkNumbers). if nat_lt m (length slots) then (if nat_lt k (length B) then (if eqb x.link m then Some k else None) else None) else None) (f k)

set_numbers : (t : ℕ) (e : Entering) (links : List LinkView) (j k : ℕ)
    → (lane (set links j (with_queued t e (lane links j))) k).numbers ≡ (lane links k).numbers
set_numbers t e [] j k = refl
set_numbers t e (v ∷ vs) zero zero = refl
set_numbers t e (v ∷ vs) zero (suc k) = refl
set_numbers t e (v ∷ vs) (suc j) zero = refl
set_numbers t e (v ∷ vs) (suc j) (suc k) = set_numbers t e vs j k

queued_numbers : (t : ℕ) (e : Entering) (o : Option ℕ) (links : List LinkView) (k : ℕ) → (lane (put_queued t e o links) k).numbers ≡ (lane links k).numbers
queued_numbers t e None links k = refl
queued_numbers t e (Some j) links k = set_numbers t e links j k

pub slots_kept : (slots : List ℕ) (place : ℕ → Option ℕ) (t : ℕ) (e : Entering) (links : List LinkView) (m : ℕ)
    → slot_in slots (accepted place t e links) m ≡ slot_in slots links m
slots_kept slots place t e links m =
    slot_alike slots (accepted place t e links) links (accepted_length place t e links) (queued_numbers t e (place e.link) links) m
