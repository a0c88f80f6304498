-- A search that begins later, along links that take as long whenever they are entered: it finds the same, later by as much.
use Rattle.std.proofs.Common.{◌≡◌, ℕ, zero, suc, ◌+◌, min, Bool, true, false, cond, ◌&&◌, List, [], ◌∷◌, ◌++◌, length, map, fold, Option, None, Some, inl, inr}
use Rattle.std.proofs.Common.{refl, sym, ◌∙◌, ap, arith}
use Rattle.std.proofs.{Math.ListN.get_or-map, lemmas.Bool.cases_eq, lemmas.Bool.eq-eqb, lemmas.Bool.ne_eqb}
use Rattle.std.specs.{List.range_with_len, Option.option_map, Option.option_map_or, Option.option_eq, Prelude.nat_eq, Prelude.find}
use Rattle.walks.specs.{Alike.TakesAlike, Alike.delayed, Arrivals.Arrivals, Chosen.leads, Chosen.link_before, Chosen.followed, Chosen.chosen_route}
use Rattle.walks.specs.Rounds.{Labels, label_at, along, links_into, start_labels, relabelled, labels_after, least_labels}
use Rattle.walks.specs.Walks.{Ends, start_of, end_of}
use Rattle.calendar.specs.Waking.{earliest}

same_test : (later a b : ℕ) → nat_eq (later + a) (later + b) ≡ nat_eq a b
same_test later a b =
    elim (cases_eq a b) [
      | inl same ↦ eq-eqb (later + a) (later + b) (ap (λ (n : ℕ). later + n) same) ∙ sym (eq-eqb a b same)
      | inr apart ↦ ne_eqb (later + a) (later + b) (λ same. apart (omega arith)) ∙ sym (ne_eqb a b apart)
    ]

-- where tests agree on every number, so do the first numbers that pass
same_find : (p q : ℕ → Bool) (xs : List ℕ) → ((x : ℕ) → p x ≡ q x) → find p xs ≡ find q xs
same_find p q [] same = refl
same_find p q (x ∷ xs) same =
    ap (λ (b : Bool). cond b (Some x) (find p xs)) (same x) ∙ ap (λ (o : Option ℕ). cond (q x) (Some x) o) (same_find p q xs same)

same_map : (f g : ℕ → Option ℕ) (xs : List ℕ) (later : ℕ) → ((x : ℕ) → f x ≡ option_map (λ at. later + at) (g x)) → map f xs
    ≡ delayed later (map g xs)
same_map f g [] later same = refl
same_map f g (x ∷ xs) later same =
    ap (λ (o : Option ℕ). o ∷ map f xs) (same x) ∙ ap (λ (os : Labels). option_map (λ at. later + at) (g x) ∷ os)
    (same_map f g xs later same)

same_behind : (f g : ℕ → List ℕ) (o : Option ℕ) → ((link : ℕ) → f link ≡ g link) → option_map_or (λ link. f link ++ link ∷ []) o []
    ≡ option_map_or (λ link. g link ++ link ∷ []) o []
same_behind f g None same = refl
same_behind f g (Some link) same = ap (λ (ls : List ℕ). ls ++ link ∷ []) (same link)

module _ (arrive : Arrivals) (alike : TakesAlike arrive) (later : ℕ) where
  pub delayed_label : (labels : Labels) (node : ℕ) → label_at (delayed later labels) node
      ≡ option_map (λ at. later + at) (label_at labels node)
  delayed_label labels node = get_or-map (λ (o : Option ℕ). option_map (λ at. later + at) o) labels node None

  delayed_earlier : (a b : Option ℕ) → earliest (option_map (λ at. later + at) a) (option_map (λ at. later + at) b)
      ≡ option_map (λ at. later + at) (earliest a b)
  delayed_earlier None b = refl
  delayed_earlier (Some a) None = refl
  delayed_earlier (Some a) (Some b) = ap (λ (n : ℕ). Some n) (both a b)
    where
      both : (a b : ℕ) → min (later + a) (later + b) ≡ later + min a b
      both a b = grind arith

  delayed_arrival : (link : ℕ) (o : Option ℕ) → option_map (arrive link) (option_map (λ at. later + at) o)
      ≡ option_map (λ at. later + at) (option_map (arrive link) o)
  delayed_arrival link None = refl
  delayed_arrival link (Some left) = ap (λ (n : ℕ). Some n) (alike link left later)

  delayed_along : (labels : Labels) (link : ℕ × (ℕ × ℕ)) → along arrive (delayed later labels) link
      ≡ option_map (λ at. later + at) (along arrive labels link)
  delayed_along labels link = ap (λ (o : Option ℕ). option_map (arrive link.0) o)
      (delayed_label labels link.1.0) ∙ delayed_arrival link.0 (label_at labels link.1.0)

  delayed_best : (labels : Labels) (links : List (ℕ × (ℕ × ℕ))) (o : Option ℕ)
      → fold earliest (option_map (λ at. later + at) o) (map (along arrive (delayed later labels)) links)
      ≡ option_map (λ at. later + at) (fold earliest o (map (along arrive labels) links))
  delayed_best labels [] o = refl
  delayed_best labels (link ∷ links) o =
      let rest : Labels = map (along arrive (delayed later labels)) links in
      ap (λ (b : Option ℕ). fold earliest (earliest (option_map (λ at. later + at) o) b) rest) (delayed_along labels link)
      ∙ ap (λ (b : Option ℕ). fold earliest b rest) (delayed_earlier o (along arrive labels link))
      ∙ delayed_best labels links (earliest o (along arrive labels link))

  delayed_round : (ends : Ends) (labels : Labels) (node : ℕ) → relabelled ends arrive (delayed later labels) node
      ≡ option_map (λ at. later + at) (relabelled ends arrive labels node)
  unfolding relabelled
  delayed_round ends labels node =
      ap (λ (o : Option ℕ). fold earliest o (map (along arrive (delayed later labels)) (links_into ends node))) (delayed_label labels node)
      ∙ delayed_best labels (links_into ends node) (label_at labels node)

  delayed_start : (nodes from : ℕ) → start_labels nodes from later ≡ delayed later (start_labels nodes from 0)
  unfolding start_labels
  delayed_start nodes from = same_map (λ node. cond (nat_eq node from) (Some later) None) (λ node. cond (nat_eq node from) (Some 0) None)
      (range_with_len 0 nodes) later
      (λ node. at_start (nat_eq node from))
    where
      at_start : (b : Bool) → cond b (Some later) None ≡ option_map (λ at. later + at) (cond b (Some 0) None)
      at_start true = let same : later ≡ later + 0 = omega arith in ap (λ (n : ℕ). Some n) same
      at_start false = refl

  delayed_after : (rounds nodes : ℕ) (ends : Ends) (from : ℕ) → labels_after rounds nodes ends arrive from later
      ≡ delayed later (labels_after rounds nodes ends arrive from 0)
  unfolding labels_after
  delayed_after zero nodes ends from = delayed_start nodes from
  delayed_after (suc rounds) nodes ends from =
      ap (λ (labels : Labels). map (relabelled ends arrive labels) (range_with_len 0 nodes)) (delayed_after rounds nodes ends from)
      ∙ same_map (relabelled ends arrive (delayed later (labels_after rounds nodes ends arrive from 0)))
      (relabelled ends arrive (labels_after rounds nodes ends arrive from 0))
      (range_with_len 0 nodes) later (delayed_round ends (labels_after rounds nodes ends arrive from 0))

  -- the links that lead to a node are the same
  delayed_leads : (ends : Ends) (labels : Labels) (node link : ℕ) → leads ends arrive (delayed later labels) node link
      ≡ leads ends arrive labels node link
  delayed_leads ends labels node link =
      let test : Option ℕ → Option ℕ → Bool = λ p o. nat_eq (end_of ends link) node && option_map_or
      (λ left. option_eq nat_eq (Some (arrive link left)) p) o false in
      ap (λ (p : Option ℕ). test p (label_at (delayed later labels) (start_of ends link))) (delayed_label labels node)
      ∙ ap (λ (o : Option ℕ). test (option_map (λ at. later + at) (label_at labels node)) o) (delayed_label labels (start_of ends link))
      ∙ ap (λ (b : Bool). nat_eq (end_of ends link) node && b) (tested (label_at labels (start_of ends link)) (label_at labels node))
    where
      tested : (o p : Option ℕ) → option_map_or (λ left. option_eq nat_eq (Some (arrive link left)) (option_map (λ at. later + at) p))
          (option_map (λ at. later + at) o) false
          ≡ option_map_or (λ left. option_eq nat_eq (Some (arrive link left)) p) o false
      tested None p = refl
      tested (Some left) None = refl
      tested (Some left) (Some at) = ap (λ (n : ℕ). nat_eq n (later + at)) (alike link left later) ∙ same_test later (arrive link left) at

  delayed_before : (ends : Ends) (labels : Labels) (node : ℕ) → link_before ends arrive (delayed later labels) node
      ≡ link_before ends arrive labels node
  unfolding link_before
  delayed_before ends labels node =
      same_find (leads ends arrive (delayed later labels) node) (leads ends arrive labels node) (range_with_len 0 (length ends))
      (delayed_leads ends labels node)

  delayed_followed : (ends : Ends) (labels : Labels) (from most node : ℕ) → followed ends arrive (delayed later labels) from most node
      ≡ followed ends arrive labels from most node
  unfolding followed
  delayed_followed ends labels from zero node = refl
  delayed_followed ends labels from (suc most) node =
      let behind : Option ℕ → List ℕ = λ o. option_map_or
      (λ link. followed ends arrive (delayed later labels) from most (start_of ends link) ++ link ∷ []) o [] in
      ap (λ (o : Option ℕ). cond (nat_eq node from) [] (behind o)) (delayed_before ends labels node)
      ∙ ap (λ (ls : List ℕ). cond (nat_eq node from) [] ls)
      (same_behind (λ link. followed ends arrive (delayed later labels) from most (start_of ends link))
      (λ link. followed ends arrive labels from most (start_of ends link))
      (link_before ends arrive labels node) (λ link. delayed_followed ends labels from most (start_of ends link)))

  pub delayed_labels : (nodes : ℕ) (ends : Ends) (from : ℕ) → least_labels nodes ends arrive from later
      ≡ delayed later (least_labels nodes ends arrive from 0)
  delayed_labels nodes ends from = delayed_after nodes nodes ends from

  pub delayed_route : (nodes : ℕ) (ends : Ends) (from to : ℕ)
      → chosen_route nodes ends arrive (least_labels nodes ends arrive from later) from to
      ≡ chosen_route nodes ends arrive (least_labels nodes ends arrive from 0) from to
  delayed_route nodes ends from to =
      ap (λ (labels : Labels). followed ends arrive labels from nodes to) (delayed_labels nodes ends from)
      ∙ delayed_followed ends (least_labels nodes ends arrive from 0) from nodes to
