-- The labels of nodes, line by line.
use Rattle.std.proofs.Common.{◌≡◌, ℕ, ◌+◌, ◌<◌, ◌≤◌, true, List, [], ◌∷◌, ◌++◌, length, drop, get_or, Option, refl, sym, ◌∙◌, ap, arith, append_assoc}
use Rattle.std.proofs.lemmas.{Bool.lt-ltb, List.append-nil, List.drop_all, List.drop_more}
use Rattle.std.specs.{List.list_all, Prelude.nat_lt}
use Rattle.events.specs.Names.{name_at}
use Rattle.walks.specs.Walks.{Ends, end_of, IsWalk}
use Rattle.route_report.specs.Report.{label_text, label_lines}

-- the line of a node comes off the front of those that are still to be written
pub label_here : (names : List (List ℕ)) (labels : List (Option ℕ)) (node : ℕ) (d : Option ℕ) (name text more all : List ℕ)
    → length labels ≡ length names → node < length names → name ≡ name_at names node → more ≡ text ++ label_text name (get_or labels node d)
    → text ++ label_lines (drop node names) (drop node labels) ≡ all
    → more ++ label_lines (drop (node + 1) names) (drop (node + 1) labels) ≡ all
unfolding label_lines
label_here names labels node d name text more all same within named pushed so_far =
    ap (λ (t : List ℕ). t ++ label_lines (drop (node + 1) names) (drop (node + 1) labels)) pushed
    ∙ append_assoc text (label_text name (get_or labels node d)) (label_lines (drop (node + 1) names) (drop (node + 1) labels))
    ∙ ap (λ (n : List ℕ). text ++ (label_text n (get_or labels node d) ++ label_lines (drop (node + 1) names) (drop (node + 1) labels))) named
    ∙ ap (λ (ls : List (Option ℕ)). text ++ label_lines (name_at names node ∷ drop (node + 1) names) ls)
    (sym (drop_more labels node d (omega (arith, same, within))))
    ∙ ap (λ (ns : List (List ℕ)). text ++ label_lines ns (drop node labels)) (sym (drop_more names node [] within))
    ∙ so_far

-- behind the last node all lines are written
pub all_lines : (names : List (List ℕ)) (labels : List (Option ℕ)) (node : ℕ) (text all : List ℕ) → length names ≤ node
    → text ++ label_lines (drop node names) (drop node labels) ≡ all → text ≡ all
unfolding label_lines
all_lines names labels node text all past so_far =
    sym (append-nil text) ∙ ap (λ (ns : List (List ℕ)). text ++ label_lines ns (drop node labels)) (sym (drop_all node names past)) ∙ so_far

-- the links of a walk are links
pub walk_links : (ends : Ends) (from to : ℕ) (links : List ℕ) → IsWalk ends from links to →
    list_all (λ link. nat_lt link (length ends)) links ≡ true
walk_links ends from to [] walk = refl
walk_links ends from to (link ∷ links) walk =
    let here : nat_lt link (length ends) ≡ true = lt-ltb link (length ends) walk.0 in
    let rest = walk_links ends (end_of ends link) to links walk.2 in
    grind (arith, here, rest)
