-- The links into each node, one link after the other.
use Rattle.traffic.proofs.Common.{◌≡◌, ℕ, zero, suc, ◌+◌, ◌<◌, List, ◌∙◌, ap, sym, [], ◌∷◌, ◌++◌, inl, inr, arith, eqb, true, false, length, get_or, filter}
use Rattle.traffic.proofs.Common.{append-nil, Bool, refl, cases_Bool, eqb-true, eqb-false, eq-eqb, ne_eqb, filter-append, nat_tests, if◌then◌else◌, add-one}
use Rattle.traffic.proofs.Common.{numbers, below, into, LinkRow}
use Rattle.std.specs.Prelude.{replicate, ◌==◌}
use Rattle.std.proofs.lemmas.List.{get_or_default, get_or-replicate, length-replicate, map-append}
use Rattle.calendar.specs.Due.{HasOneMore}
use Rattle.rows.specs.Networks.{is_link}
use Rattle.town.specs.{Setups.setup_of, Views.setup, declared.day_input.DayInput.DayInput}
use Rattle.law_in_range.proofs.Lists.{each_at, each_tested}
use Rattle.part_nodes.specs.InLinks.{AreInto, leads_to, first_into, slots_of}

numbers_last : (k n : ℕ) → numbers k (suc n) ≡ numbers k n ++ (k + n) ∷ []
numbers_last k zero = let e : k ≡ k + 0 = omega arith in ap (λ (j : ℕ). j ∷ []) e
numbers_last k (suc n) =
    let e : k + 1 + n ≡ k + suc n = omega arith in
    ap (λ (xs : List ℕ). k ∷ xs) (numbers_last (k + 1) n ∙ ap (λ (j : ℕ). numbers (k + 1) n ++ j ∷ []) e)

pub below_last : (n : ℕ) → below (n + 1) ≡ below n ++ n ∷ []
below_last n = let e : 0 + n ≡ n = omega arith in ap (λ (j : ℕ). numbers 0 j) (add-one n) ∙ numbers_last 0 n ∙ ap (λ (j : ℕ). below n ++ j ∷ []) e

first_last : (links : List LinkRow) (k n : ℕ) → first_into links (k + 1) n ≡ first_into links k n ++ (if leads_to links k == n then k ∷ [] else [])
first_last links k n =
    ap (filter (λ (l : ℕ). leads_to links l == n)) (below_last k) ∙ filter-append (λ (l : ℕ). leads_to links l == n) (below k) (k ∷ [])

if_slot : (slots : List ℕ) (k : ℕ) (b : Bool) → slots_of slots (if b then k ∷ [] else []) ≡ (if b then get_or slots k 0 ∷ [] else [])
if_slot slots k true = refl
if_slot slots k false = refl

slots_last : (slots : List ℕ) (links : List LinkRow) (k n : ℕ)
    → slots_of slots (first_into links (k + 1) n)
    ≡ slots_of slots (first_into links k n) ++ (if leads_to links k == n then get_or slots k 0 ∷ [] else [])
slots_last slots links k n =
    ap (slots_of slots) (first_last links k n)
    ∙ map-append (λ (l : ℕ). get_or slots l 0) (first_into links k n) (if leads_to links k == n then k ∷ [] else [])
    ∙ ap (λ (xs : List ℕ). slots_of slots (first_into links k n) ++ xs) (if_slot slots k (leads_to links k == n))

pub into_none : (size : ℕ) (links : List LinkRow) (slots : List ℕ) (into : List (List ℕ)) → into ≡ replicate size [] → AreInto size 0 links slots into
into_none size links slots into e = record {
  nodes = ap length e ∙ length-replicate size [];
  each = λ n lt. ap (λ (xs : List (List ℕ)). get_or xs n []) e ∙ get_or-replicate size n [] [] lt;
}

pub into_more : (size k : ℕ) (links : List LinkRow) (slots : List ℕ) (d : LinkRow) (old new : List (List ℕ)) → k < length links
    → HasOneMore (get_or links k d).to (get_or slots k 0) old new → length new ≡ length old → AreInto size k links slots old
    → AreInto size (k + 1) links slots new
into_more size k links slots d old new lt more n h =
    let row = get_or links k d in
    let slot = get_or slots k 0 in
    let to : leads_to links k ≡ row.to
    = ap (λ (r : LinkRow). r.to) (get_or_default links k (record { from = 0; to = 0; length = 0; speed = 1; capacity = 0; lanes = 0 }) d lt) in
    record {
      nodes = n ∙ h.nodes;
      each = λ node within.
          let last = slots_last slots links k node in
          let first = slots_of slots (first_into links k node) in
          more node
          ∙ elim (cases_Bool (eqb node row.to)) [
            | inl q ↦
                let s : eqb (leads_to links k) node ≡ true = eq-eqb (leads_to links k) node (to ∙ sym (eqb-true node row.to q)) in
                rw q (ap (λ (xs : List ℕ). xs ++ slot ∷ []) (h.each node within)
                ∙ sym (last ∙ ap (λ (b : Bool). first ++ (if b then slot ∷ [] else [])) s))
            | inr q ↦
                let s : eqb (leads_to links k) node ≡ false = ne_eqb (leads_to links k) node (λ (z : leads_to links k ≡ node). eqb-false node row.to q (sym z ∙ to)) in
                rw q (h.each node within
                ∙ sym (last ∙ ap (λ (b : Bool). first ++ (if b then slot ∷ [] else [])) s ∙ append-nil first))
          ];
    }

within : (nodes : ℕ) (r : LinkRow) → is_link nodes r ≡ true → r.to < nodes
unfolding is_link
within nodes r e = grind (arith, nat_tests, e)

pub leads_within : (day : DayInput) (l : ℕ) → l < length day.town.now.network.links → leads_to day.town.now.network.links l < length day.town.now.network.nodes
leads_within day l lt =
    let nodes = length day.town.now.network.nodes in
    let links = day.town.now.network.links in
    each_at (λ (r : LinkRow). r.to < nodes) links l (record { from = 0; to = 0; length = 0; speed = 1; capacity = 0; lanes = 0 }) lt
    (each_tested (λ (r : LinkRow). r.to < nodes) (is_link nodes) (within nodes) links day.town.now.sound.links)

pub town_links : (day : DayInput) → length (setup day).links ≡ length day.town.now.network.links
unfolding setup_of
town_links day = refl

pub town_into : (day : DayInput) (nodes : ℕ) (slots : List ℕ) (in_links : List (List ℕ)) → nodes ≡ length day.town.now.network.nodes
    → AreInto nodes (length day.town.now.network.links) day.town.now.network.links slots in_links
    → (length in_links ≡ (setup day).nodes)
    × ((n : ℕ) → n < (setup day).nodes → get_or in_links n [] ≡ slots_of slots (into (setup day) n))
unfolding setup_of into
town_into day nodes slots in_links e h = (h.nodes ∙ e, λ n lt. h.each n (let q = e in omega arith))
