-- The slots in which the links of a part stand: those of the links into a node, and where a table finds them.
use Rattle.traffic.proofs.Common.{◌≡◌, ℕ, ◌<◌, Bool, true, false, List, [], ◌∷◌, ◌∙◌, ap, refl, sym, arith, inl, inr, length, get_or, map, not, ◌||◌}
use Rattle.traffic.proofs.Common.{cases_Bool, eqb, eqb-true, eqb-false, eq-eqb, ne_eqb, or_parts, true≢false, Option, None, Some, Setup, World, into, link_row}
use Rattle.traffic.proofs.Each.{each_weaker}
use Rattle.std.specs.List.{AllByRecursion as Each}
use Rattle.calendar.specs.Due.{AreIn}
use Rattle.queue_link.specs.Links.{LinkView}
use Rattle.node_move.specs.NodeStates.{IsNone, AreApart}
use Rattle.node_seconds.specs.Networks.{lane, is_among, AreOnce, slot_in, is_nowhere}
use Rattle.node_seconds.proofs.Lanes.{slot_is, slot_there}
use Rattle.part_links.specs.Links.{AreNumbered, LinksStandAt}
use Rattle.part_nodes.proofs.Seen.{number_is, into_there, into_to, among_into}
use Rattle.part_nodes.specs.{InLinks.slots_of, Phase.Extent, Phase.HasLinks}

-- NUMBERS OF SLOTS
pub numbers_there : (S : Setup) (E : Extent) (ks : List ℕ) → AreNumbered S E.size E.number → AreIn E.size ks → AreIn (length S.links) (map E.number ks)
numbers_there S E [] h there = tt
numbers_there S E (k ∷ ks) h there = (h.there k there.0, numbers_there S E ks h there.1)

among_numbers : (S : Setup) (E : Extent) (k : ℕ) (ks : List ℕ) → AreNumbered S E.size E.number → k < E.size → AreIn E.size ks
    → is_among (E.number k) (map E.number ks) ≡ is_among k ks
among_numbers S E k [] h lt there = refl
among_numbers S E k (j ∷ ks) h lt there =
    let first : eqb (E.number j) (E.number k) ≡ eqb j k
    = elim (cases_Bool (eqb j k)) [
      | inl q ↦ eq-eqb (E.number j) (E.number k) (ap E.number (eqb-true j k q)) ∙ sym q
      | inr q ↦ ne_eqb (E.number j) (E.number k) (λ (e : E.number j ≡ E.number k). eqb-false j k q (h.apart j k there.0 lt e)) ∙ sym q
    ] in
    ap (λ (b : Bool). b || is_among (E.number k) (map E.number ks)) first
    ∙ ap (λ (b : Bool). eqb j k || b) (among_numbers S E k ks h lt there.1)

fresh_number : (f : ℕ → ℕ) (k : ℕ) (ks : List ℕ) → is_among (f k) (map f ks) ≡ false → is_among k ks ≡ false
fresh_number f k [] e = refl
fresh_number f k (j ∷ ks) e =
    let q = or_parts (eqb (f j) (f k)) (is_among (f k) (map f ks)) e in
    let first : eqb j k ≡ false = ne_eqb j k (λ (s : j ≡ k). eqb-false (f j) (f k) q.0 (ap f s)) in
    rw first (fresh_number f k ks q.1)

pub once_numbers : (f : ℕ → ℕ) (ks : List ℕ) → AreOnce (map f ks) → AreOnce ks
once_numbers f [] h = tt
once_numbers f (k ∷ ks) h = (fresh_number f k ks h.0, once_numbers f ks h.1)

-- so many links have these numbers, slot by slot
pub record AreNumberedBy (E : Extent) (links : List LinkView) : Type 0 where
  pub count : length links ≡ E.size
  pub numbers : (k : ℕ) → k < E.size → (lane links k).numbers.link ≡ E.number k

pub stand_numbered : (E : Extent) (S : Setup) (t : ℕ) (links : List LinkView) (V : World) → LinksStandAt E.number E.size S t links V
    → AreNumberedBy E links
stand_numbered E S t links V h = record { count = h.count; numbers = λ k lt. number_is E S t k links V lt h }

none_apart : (S : Setup) (E : Extent) (links : List LinkView) (k : ℕ) (ks : List ℕ) → AreNumbered S E.size E.number → AreNumberedBy E links
    → k < E.size → AreIn E.size ks → is_among k ks ≡ false → IsNone (lane links k).numbers.link (map (lane links) ks)
none_apart S E links k [] h n lt there e = tt
none_apart S E links k (j ∷ ks) h n lt there e =
    let q = or_parts (eqb j k) (is_among k ks) e in (
      (λ (s : (lane links j).numbers.link ≡ (lane links k).numbers.link).
          eqb-false j k q.0 (h.apart j k there.0 lt (sym (n.numbers j there.0) ∙ s ∙ n.numbers k lt))),
      none_apart S E links k ks h n lt there.1 q.1,
    )

-- the links in different slots have different numbers
pub apart_in : (S : Setup) (E : Extent) (links : List LinkView) (ks : List ℕ) → AreNumbered S E.size E.number → AreNumberedBy E links
    → AreIn E.size ks → AreOnce ks → AreApart (map (lane links) ks)
apart_in S E links [] h n there once = tt
apart_in S E links (k ∷ ks) h n there once =
    (none_apart S E links k ks h n there.0 there.1 once.0, apart_in S E links ks h n there.1 once.1)

-- THE LINKS INTO A NODE
slots_there : (S : Setup) (E : Extent) (slots ls : List ℕ) → HasLinks S E slots → AreIn (length S.links) ls
    → Each (λ (l : ℕ). E.mine (link_row S l).to ≡ true) ls → AreIn E.size (slots_of slots ls)
slots_there S E slots [] h there own = tt
slots_there S E slots (l ∷ ls) h there own = ((h.found l there.0 own.0).there, slots_there S E slots ls h there.1 own.1)

slots_back : (S : Setup) (E : Extent) (slots ls : List ℕ) → HasLinks S E slots → AreIn (length S.links) ls
    → Each (λ (l : ℕ). E.mine (link_row S l).to ≡ true) ls → map E.number (slots_of slots ls) ≡ ls
slots_back S E slots [] h there own = refl
slots_back S E slots (l ∷ ls) h there own =
    ap (λ (n : ℕ). n ∷ map E.number (slots_of slots ls)) (h.found l there.0 own.0).link
    ∙ ap (λ (ns : List ℕ). l ∷ ns) (slots_back S E slots ls h there.1 own.1)

own_into : (S : Setup) (E : Extent) (n : ℕ) → E.mine n ≡ true → Each (λ (l : ℕ). E.mine (link_row S l).to ≡ true) (into S n)
own_into S E n own =
    each_weaker (λ (l : ℕ). (link_row S l).to ≡ n) (λ (l : ℕ). E.mine (link_row S l).to ≡ true) (λ l e. ap E.mine e ∙ own) (into S n) (into_to S n)

-- each of them stands in one of the slots of the part, and is a link into the node
pub node_there : (S : Setup) (E : Extent) (slots : List ℕ) (n : ℕ) → HasLinks S E slots → E.mine n ≡ true → AreIn E.size (slots_of slots (into S n))
node_there S E slots n h own = slots_there S E slots (into S n) h (into_there S n) (own_into S E n own)

pub node_back : (S : Setup) (E : Extent) (slots : List ℕ) (n : ℕ) → HasLinks S E slots → E.mine n ≡ true
    → map E.number (slots_of slots (into S n)) ≡ into S n
node_back S E slots n h own = slots_back S E slots (into S n) h (into_there S n) (own_into S E n own)

-- a slot is among theirs where its link leads to the node
pub node_among : (S : Setup) (E : Extent) (slots : List ℕ) (n k : ℕ) → HasLinks S E slots → E.mine n ≡ true → k < E.size
    → is_among k (slots_of slots (into S n)) ≡ eqb (link_row S (E.number k)).to n
node_among S E slots n k h own lt =
    sym (among_numbers S E k (slots_of slots (into S n)) h.numbered lt (node_there S E slots n h own))
    ∙ ap (is_among (E.number k)) (node_back S E slots n h own) ∙ among_into S n (E.number k) (h.numbered.there k lt)

-- WHERE A LINK STANDS
-- whether this is slot k
abbrev pub is_slot : ℕ → Option ℕ → Bool
is_slot k None = false
is_slot k (Some j) = eqb j k

not_slot : (k : ℕ) (o : Option ℕ) → (o ≡ Some k → ⊥) → is_slot k o ≡ false
not_slot k None h = refl
not_slot k (Some j) h = elim (cases_Bool (eqb j k)) [ inl q ↦ absurd (h (ap (λ (i : ℕ). Some i) (eqb-true j k q))) | inr q ↦ q ]

no_slot : (o : Option ℕ) → ((k : ℕ) → o ≡ Some k → ⊥) → is_nowhere o ≡ true
no_slot None h = refl
no_slot (Some k) h = absurd (h k refl)

slot_found : (S : Setup) (E : Extent) (slots : List ℕ) (links : List LinkView) (k : ℕ) → HasLinks S E slots → AreNumberedBy E links → k < E.size
    → slot_in slots links (E.number k) ≡ Some k
slot_found S E slots links k h n lt =
    let within = h.numbered.there k lt in
    let f = h.found (E.number k) within (h.own k lt) in
    let same : get_or slots (E.number k) 0 ≡ k = h.numbered.apart (get_or slots (E.number k) 0) k f.there lt f.link in
    let table : E.number k < length slots = (let a = h.table in omega arith) in
    let there : k < length links = (let a = n.count in omega arith) in
    slot_there slots links (E.number k) k table same there (n.numbers k lt)

-- link m is found in slot k where it is the link of that slot
pub slot_finds : (S : Setup) (E : Extent) (slots : List ℕ) (links : List LinkView) (m k : ℕ) → HasLinks S E slots → AreNumberedBy E links → k < E.size
    → is_slot k (slot_in slots links m) ≡ eqb m (E.number k)
slot_finds S E slots links m k h n lt =
    elim (cases_Bool (eqb m (E.number k))) [
      | inl q ↦
          ap (λ (j : ℕ). is_slot k (slot_in slots links j)) (eqb-true m (E.number k) q)
          ∙ ap (is_slot k) (slot_found S E slots links k h n lt) ∙ eq-eqb k k refl ∙ sym q
      | inr q ↦
          not_slot k (slot_in slots links m)
          (λ (e : slot_in slots links m ≡ Some k).
          (let z = slot_is slots links m k e in eqb-false m (E.number k) q (sym z.2 ∙ n.numbers k lt))) ∙ sym q
    ]

-- and nowhere where it leads to a node that the part has not
pub slot_nowhere : (S : Setup) (E : Extent) (slots : List ℕ) (links : List LinkView) (m : ℕ) → HasLinks S E slots → AreNumberedBy E links
    → m < length S.links → is_nowhere (slot_in slots links m) ≡ not (E.mine (link_row S m).to)
slot_nowhere S E slots links m h n lt =
    elim (cases_Bool (E.mine (link_row S m).to)) [
      | inl q ↦
          let f = h.found m lt q in
          ap is_nowhere (ap (slot_in slots links) (sym f.link) ∙ slot_found S E slots links (get_or slots m 0) h n f.there) ∙ sym (ap not q)
      | inr q ↦
          no_slot (slot_in slots links m)
          (λ (k : ℕ) (e : slot_in slots links m ≡ Some k).
          (let z = slot_is slots links m k e in
          let there : k < E.size = (let a = n.count in let b = z.1 in omega arith) in
          let same : E.number k ≡ m = sym (n.numbers k there) ∙ z.2 in
          true≢false (sym (h.own k there) ∙ ap (λ (l : ℕ). E.mine (link_row S l).to) same ∙ q))) ∙ sym (ap not q)
    ]
