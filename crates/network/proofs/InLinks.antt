-- How many links end at each node, as links are added.
use Rattle.std.proofs.Common.{◌≡◌, ◌≢◌, ℕ, ◌+◌, ◌<◌, ◌≤◌, cond, List, [], ◌∷◌, ◌++◌, length, get_or, inl, inr, refl, sym, ◌∙◌, ap, arith, replicate}
use Rattle.std.proofs.lemmas.Bool.{cases_eq, Decides.nat_tests}
use Rattle.std.proofs.lemmas.List.{get_or-set_same, get_or-set_other, get_or-replicate, length-set, length-replicate, get_or_default, Sums.sum_by-append}
use Rattle.std.specs.Prelude.{nat_eq, slice_set as set, slice_index}
use Rattle.records.proofs.Numbering.{numbered_within}
use Rattle.limits.specs.declared.TheConstants.{MAX_IN_LINKS}
use Rattle.rows.specs.{Networks.in_links, declared.network.LinkRow.LinkRow}

-- the number of a node is among those of the nodes
pub ruleset known_nodes = (numbered_within)

pub in_links-none : (node : ℕ) → in_links [] node ≡ 0
unfolding in_links
in_links-none node = refl

pub in_links-push : (links : List LinkRow) (link : LinkRow) (node : ℕ) → in_links (links ++ link ∷ []) node ≡ in_links links node + (0 + cond (nat_eq link.to node) 1 0)
unfolding in_links
in_links-push links link node = sum_by-append (λ (l : LinkRow). cond (nat_eq l.to node) 1 0) links (link ∷ [])

-- at first no link ends anywhere
pub counted_none : (nodes : ℕ) (node : ℕ) → node < nodes → slice_index (replicate nodes 0) node ≡ in_links [] node
counted_none nodes node less = get_or-replicate nodes node 0 0 less ∙ sym (in_links-none node)

-- at first no link ends at any node
pub counted_start : (nodes : ℕ) (into : List ℕ) (links : List LinkRow) → into ≡ replicate nodes 0 → links ≡ [] → (node : ℕ) → node < length into → slice_index into node ≡ in_links links node
counted_start nodes into links zeros none node within =
    let count : length into ≡ nodes = ap length zeros ∙ length-replicate nodes 0 in
    let less : node < nodes = omega (arith, count) in
    ap (λ (xs : List ℕ). get_or xs node 0) zeros ∙ counted_none nodes node less ∙ ap (λ (ls : List LinkRow). in_links ls node) (sym none)

pub few_start : (links : List LinkRow) → links ≡ [] → (node : ℕ) → in_links links node ≤ MAX_IN_LINKS
few_start links none node = let zero_links = ap (λ (ls : List LinkRow). in_links ls node) none ∙ in_links-none node in omega (arith, zero_links)

at_node : (here before x node to : ℕ) → here ≡ before + (0 + cond (nat_eq to node) 1 0) → node ≡ to → x ≡ before → x + 1 ≡ here
at_node here before x node to more same is = grind (arith, nat_tests)

elsewhere : (here before x node to : ℕ) → here ≡ before + (0 + cond (nat_eq to node) 1 0) → node ≢ to → x ≡ before → x ≡ here
elsewhere here before x node to more other is = grind (arith, nat_tests)

not_many : (here before node to : ℕ) → here ≡ before + (0 + cond (nat_eq to node) 1 0) → before ≤ MAX_IN_LINKS → (node ≡ to → before < MAX_IN_LINKS) → here ≤ MAX_IN_LINKS
not_many here before node to more few room = grind (arith, nat_tests)

-- a link is counted at its end
pub counted_push : (into : List ℕ) (links links' : List LinkRow) (link : LinkRow) (x : ℕ) → ((node : ℕ) → node < length into → slice_index into node ≡ in_links links node) → link.to < length into
    → x ≡ get_or into link.to x → links' ≡ links ++ link ∷ [] → (node : ℕ) → node < length (set into link.to (x + 1)) → slice_index (set into link.to (x + 1)) node ≡ in_links links' node
counted_push into links links' link x counted within read pushed node less =
    let less_into : node < length into = omega (arith, length-set into link.to (x + 1)) in
    let grown = in_links-push links link node in
    elim (cases_eq node link.to) as (λ _. get_or (set into link.to (x + 1)) node 0 ≡ in_links links' node) [
      | inl same ↦
          ap (λ (n : ℕ). get_or (set into link.to (x + 1)) n 0) same ∙ get_or-set_same into link.to (x + 1) 0 within
          ∙ at_node (in_links (links ++ link ∷ []) node) (in_links links node) x node link.to grown same
          (read ∙ get_or_default into link.to x 0 within ∙ ap (λ (n : ℕ). get_or into n 0) (sym same) ∙ counted node less_into)
          ∙ ap (λ (ls : List LinkRow). in_links ls node) (sym pushed)
      | inr other ↦
          get_or-set_other into link.to node (x + 1) 0 other
          ∙ elsewhere (in_links (links ++ link ∷ []) node) (in_links links node) (get_or into node 0) node link.to grown other (counted node less_into)
          ∙ ap (λ (ls : List LinkRow). in_links ls node) (sym pushed)
    ]

pub few_push : (links links' : List LinkRow) (link : LinkRow) → ((node : ℕ) → in_links links node ≤ MAX_IN_LINKS) → in_links links link.to < MAX_IN_LINKS → links' ≡ links ++ link ∷ [] → (node : ℕ) → in_links links' node ≤ MAX_IN_LINKS
few_push links links' link few room pushed node =
    let grown = ap (λ (ls : List LinkRow). in_links ls node) pushed ∙ in_links-push links link node in
    not_many (in_links links' node) (in_links links node) node link.to grown (few node) (λ same. let there = ap (λ (n : ℕ). in_links links n) same in omega (arith, there))
