-- Tables over the rows of a town are those of its day.
use Rattle.std.proofs.Common.{◌≡◌, ℕ, ◌+◌, Bool, true, false, List, [], ◌∷◌, ◌++◌, arith, refl, sym, ◌∙◌, ap, subst, length, get_or, map, append_assoc}
use Rattle.std.proofs.{Common.length-append, Common.inl, Common.inr, Math.Seq.get_or-append_seam}
use Rattle.std.specs.{List.list_any, List.flat_map, Prelude.◌==◌, Prelude.◌&&◌, Prelude.◌||◌, Prelude.not, Prelude.filter}
use Rattle.traffic.{proofs.Common.cases_Bool, specs.Lists.numbers, specs.Setup.seconds_of, specs.Setup.hole_of}
use Rattle.rows.specs.declared.network.LinkRow.{LinkRow}
use Rattle.town.specs.{Setups.setup_of, Views.setup, Views.chosen_in, declared.day_input.DayInput.DayInput}
use Rattle.parts.specs.Owners.{Owner, Hop, hops, leads, hops_over, links_of, near, lag, least, longest_lag}
use Rattle.partition.specs.Neighbours.{hops_in, leads_over, hop_leads_over, is_over, is_hop_over, hole_at, seconds_of_hop, shortest}
use Rattle.partition.proofs.Tables.{least_append}
use Rattle.travel_times.specs.Times.{free_of}

-- WHAT IS ASKED OF EACH NUMBER OF A LIST IS ASKED OF EACH ELEMENT
seam : {X : Type 0} (ys : List X) (x : X) (xs : List X) (k : ℕ) (d : X) → length ys ≡ k → get_or (ys ++ x ∷ xs) k d ≡ x
seam ys x xs k d h = ap (λ n. get_or (ys ++ x ∷ xs) n d) (sym h) ∙ get_or-append_seam ys x xs d

longer : {X : Type 0} (ys : List X) (x : X) (k : ℕ) → length ys ≡ k → length (ys ++ x ∷ []) ≡ k + 1
longer ys x k h = let l = length-append ys (x ∷ []) in omega arith

any_from : {X : Type 0} (f : X → Bool) (d : X) (xs ys : List X) (k : ℕ) → length ys ≡ k → list_any (λ n. f (get_or (ys ++ xs) n d)) (numbers k (length xs)) ≡ list_any f xs
any_from f d [] ys k h = refl
any_from f d (x ∷ xs) ys k h =
    let all = ys ++ x ∷ xs in
    let one : f (get_or all k d) ≡ f x = ap f (seam ys x xs k d h) in
    let more = subst (λ zs. list_any (λ n. f (get_or zs n d)) (numbers (k + 1) (length xs)) ≡ list_any f xs) (append_assoc ys (x ∷ []) xs) (any_from f d xs (ys ++ x ∷ []) (k + 1) (longer ys x k h)) in
    ap (λ z. z || list_any (λ n. f (get_or all n d)) (numbers (k + 1) (length xs))) one ∙ ap (λ z. f x || z) more

filtered_from : {X Y : Type 0} (f : X → Y) (g : X → Bool) (d : X) (xs ys : List X) (k : ℕ) → length ys ≡ k
    → map (λ n. f (get_or (ys ++ xs) n d)) (filter (λ n. g (get_or (ys ++ xs) n d)) (numbers k (length xs))) ≡ map f (filter g xs)
filtered_from f g d [] ys k h = refl
filtered_from f g d (x ∷ xs) ys k h =
    let all = ys ++ x ∷ xs in
    let at = seam ys x xs k d h in
    let more = subst (λ zs. map (λ n. f (get_or zs n d)) (filter (λ n. g (get_or zs n d)) (numbers (k + 1) (length xs))) ≡ map f (filter g xs)) (append_assoc ys (x ∷ []) xs)
    (filtered_from f g d xs (ys ++ x ∷ []) (k + 1) (longer ys x k h)) in
    elim (cases_Bool (g x)) [
      | inl e ↦
          let e2 : g (get_or all k d) ≡ true = ap g at ∙ e in
          let one : f (get_or all k d) ≡ f x = ap f at in
          (rw (e2, e) (ap (λ y. y ∷ map (λ n. f (get_or all n d)) (filter (λ n. g (get_or all n d)) (numbers (k + 1) (length xs)))) one ∙ ap (λ ys2. f x ∷ ys2) more))
      | inr e ↦
          let e2 : g (get_or all k d) ≡ false = ap g at ∙ e in
          (rw (e2, e) more)
    ]

flat_from : {X Y : Type 0} (f : X → List Y) (d : X) (xs ys : List X) (k : ℕ) → length ys ≡ k → flat_map (λ n. f (get_or (ys ++ xs) n d)) (numbers k (length xs)) ≡ flat_map f xs
flat_from f d [] ys k h = refl
flat_from f d (x ∷ xs) ys k h =
    let all = ys ++ x ∷ xs in
    let one : f (get_or all k d) ≡ f x = ap f (seam ys x xs k d h) in
    let more = subst (λ zs. flat_map (λ n. f (get_or zs n d)) (numbers (k + 1) (length xs)) ≡ flat_map f xs) (append_assoc ys (x ∷ []) xs) (flat_from f d xs (ys ++ x ∷ []) (k + 1) (longer ys x k h)) in
    ap (λ z. z ++ flat_map (λ n. f (get_or all n d)) (numbers (k + 1) (length xs))) one ∙ ap (λ z. f x ++ z) more

-- THE DAY OF A TOWN
abbrev links_in : DayInput → List LinkRow
links_in day = day.town.now.network.links

abbrev no_link : LinkRow
no_link = record { from = 0; to = 0; length = 0; speed = 1; capacity = 0; lanes = 0 }

pub hops_are : (day : DayInput) → hops (setup day) ≡ flat_map hops_in (chosen_in day)
unfolding hops setup_of
hops_are day = flat_from hops_in (record { acts = []; legs = [] }) (chosen_in day) [] 0 refl

any_links : (day : DayInput) (own : Owner) (p q : ℕ)
    → list_any (λ l. leads (setup day) own p q l || leads (setup day) own q p l) (links_of (setup day)) ≡ list_any (is_over own p q) (links_in day)
unfolding setup_of
any_links day own p q = any_from (is_over own p q) no_link (links_in day) [] 0 refl

any_hops : (day : DayInput) (own : Owner) (p q : ℕ)
    → list_any (λ (h : Hop). hops_over (setup day) own p q h || hops_over (setup day) own q p h) (hops (setup day)) ≡ list_any (is_hop_over own (links_in day) p q) (flat_map hops_in (chosen_in day))
unfolding setup_of
any_hops day own p q = ap (list_any (is_hop_over own (links_in day) p q)) (hops_are day)

-- which partitions are neighbours
pub near_is : (day : DayInput) (own : Owner) (p q : ℕ)
    → near (setup day) own p q ≡ (not (p == q) && (list_any (is_over own p q) (links_in day) || list_any (is_hop_over own (links_in day) p q) (flat_map hops_in (chosen_in day))))
unfolding near
near_is day own p q =
    let a = any_links day own p q in
    let b = any_hops day own p q in
    ap (λ z. not (p == q) && (z || list_any (λ (h : Hop). hops_over (setup day) own p q h || hops_over (setup day) own q p h) (hops (setup day)))) a
    ∙ ap (λ z. not (p == q) && (list_any (is_over own p q) (links_in day) || z)) b

free_links : (day : DayInput) (own : Owner) (p q : ℕ) → map (seconds_of (setup day)) (filter (leads (setup day) own p q) (links_of (setup day))) ≡ map free_of (filter (leads_over own p q) (links_in day))
unfolding setup_of
free_links day own p q = filtered_from free_of (leads_over own p q) no_link (links_in day) [] 0 refl

hole_links : (day : DayInput) (own : Owner) (p q : ℕ)
    → map (hole_of (setup day)) (filter (leads (setup day) own p q) (links_of (setup day))) ≡ map (hole_at day.town.now.settings.hole_speed) (filter (leads_over own p q) (links_in day))
unfolding setup_of
hole_links day own p q = filtered_from (hole_at day.town.now.settings.hole_speed) (leads_over own p q) no_link (links_in day) [] 0 refl

hop_seconds : (day : DayInput) (own : Owner) (p q : ℕ)
    → map (λ (h : Hop). h.seconds) (filter (hops_over (setup day) own p q) (hops (setup day))) ≡ map seconds_of_hop (filter (hop_leads_over own (links_in day) p q) (flat_map hops_in (chosen_in day)))
unfolding setup_of
hop_seconds day own p q = ap (λ hs. map seconds_of_hop (filter (hop_leads_over own (links_in day) p q) hs)) (hops_are day)

-- and with which lags
pub lag_is : (day : DayInput) (own : Owner) (p q : ℕ)
    → lag (setup day) own p q ≡ shortest free_of (leads_over own p q) (links_in day) (shortest (hole_at day.town.now.settings.hole_speed) (leads_over own q p) (links_in day)
    (shortest seconds_of_hop (hop_leads_over own (links_in day) p q) (flat_map hops_in (chosen_in day)) longest_lag))
unfolding lag
lag_is day own p q =
    let A = map (seconds_of (setup day)) (filter (leads (setup day) own p q) (links_of (setup day))) in
    let B = map (hole_of (setup day)) (filter (leads (setup day) own q p) (links_of (setup day))) in
    let C = map (λ (h : Hop). h.seconds) (filter (hops_over (setup day) own p q) (hops (setup day))) in
    least_append longest_lag (A ++ B) C ∙ least_append (least longest_lag C) A B
    ∙ ap (λ z. least (least (least longest_lag z) B) A) (hop_seconds day own p q)
    ∙ ap (λ z. least (least (least longest_lag (map seconds_of_hop (filter (hop_leads_over own (links_in day) p q) (flat_map hops_in (chosen_in day))))) z) A) (hole_links day own q p)
    ∙ ap (λ z. least (least (least longest_lag (map seconds_of_hop (filter (hop_leads_over own (links_in day) p q) (flat_map hops_in (chosen_in day))))) (map (hole_at day.town.now.settings.hole_speed) (filter (leads_over own q p) (links_in day)))) z) (free_links day own p q)
