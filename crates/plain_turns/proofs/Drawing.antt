-- The drawing: the weights, the one that is drawn, and the ones that are left.
use Rattle.traffic.proofs.Common.{◌≡◌, ℕ, List, ◌∙◌, length, ap, refl, [], ◌∷◌, arith, ◌<◌, ◌++◌, ◌+◌, Bool, inl, inr, ◌≤◌, suc, zero, get_or, append_assoc}
use Rattle.traffic.proofs.Common.{◌*◌, cases_Bool, sum_by-cons, remove, sum, map, filter, not, Option, Stuck, without_at, is_nil, pass_node_all, drawn}
use Rattle.traffic.proofs.Common.{no_in_link, ready, draw, out_links_after}
use Rattle.traffic.specs.{Nodes.weight_of, declared.moves.Move.Move, declared.node_views.InLink.InLink, declared.node_views.OutLink.OutLink}
use Rattle.limits.specs.declared.TheConstants.{MAX_CAPACITY}
use Rattle.plain_turns.specs.OutLinks.{IsInLink, AreInLinks, is_green}
use Rattle.std.proofs.lemmas.List.{get_or_default}

pub sum_least : (es : List InLink) → AreInLinks es → length es ≤ sum (map weight_of es)
sum_least [] h = omega arith
sum_least (e ∷ es) h =
    let a = h.0.least in let b = sum_least es h.1 in
    let c : sum (map weight_of (e ∷ es)) ≡ e.capacity + sum (map weight_of es) = sum_by-cons (λ (x : ℕ). x) e.capacity (map weight_of es) in omega arith

pub sum_most : (es : List InLink) → AreInLinks es → sum (map weight_of es) ≤ MAX_CAPACITY * length es
sum_most [] h = omega arith
sum_most (e ∷ es) h =
    let a = h.0.most in let b = sum_most es h.1 in
    let c : sum (map weight_of (e ∷ es)) ≡ e.capacity + sum (map weight_of es) = sum_by-cons (λ (x : ℕ). x) e.capacity (map weight_of es) in omega arith

pub without_is : (k : ℕ) (es : List InLink) → k < length es → without_at k es ≡ remove es k
without_is k [] h = absurd (omega arith)
without_is zero (e ∷ es) h = refl
without_is (suc k) (e ∷ es) h = let g = without_is k es (omega arith) in rw g refl

pub without-length : (k : ℕ) (es : List InLink) → k < length es → length (without_at k es) + 1 ≡ length es
without-length k [] h = absurd (omega arith)
without-length zero (e ∷ es) h = omega arith
without-length (suc k) (e ∷ es) h = let g = without-length k es (omega arith) in omega arith

pub in_links_without : (k : ℕ) (es : List InLink) → AreInLinks es → AreInLinks (without_at k es)
in_links_without k [] h = tt
in_links_without zero (e ∷ es) h = h.1
in_links_without (suc k) (e ∷ es) h = (h.0, in_links_without k es h.1)

pub in_link_at : (k : ℕ) (es : List InLink) → k < length es → AreInLinks es → IsInLink (get_or es k no_in_link)
in_link_at k [] h g = absurd (omega arith)
in_link_at zero (e ∷ es) h g = g.0
in_link_at (suc k) (e ∷ es) h g = in_link_at k es (omega arith) g.1

step_of : (K : Stuck) (t : ℕ) (word : ℕ → ℕ) (n j k : ℕ) (es : List InLink) (out_links : ℕ → Option OutLink) → k ≡ drawn es (word (16 * t + j)) →
    draw K t word (suc n) j es out_links ≡ pass_node_all K t out_links (get_or es k no_in_link) ++ draw K t word n (j + 1) (without_at k es) (out_links_after (pass_node_all K t out_links (get_or es k no_in_link)) out_links)
unfolding draw
step_of K t word n j k es out_links e = rw e refl

-- one pick: what the drawn link hands over, and the picks of the ones that are left
pub draw_step : (K : Stuck) (t : ℕ) (word : ℕ → ℕ) (j k : ℕ) (es : List InLink) (out_links : ℕ → Option OutLink) → k < length es → k ≡ drawn es (word (16 * t + j)) →
    draw K t word (length es) j es out_links ≡ pass_node_all K t out_links (get_or es k no_in_link) ++ draw K t word (length (without_at k es)) (j + 1) (without_at k es) (out_links_after (pass_node_all K t out_links (get_or es k no_in_link)) out_links)
draw_step K t word j k es out_links h e =
    let n = length (without_at k es) in
    let q : length es ≡ suc n = (let g = without-length k es h in omega arith) in
    ap (λ m. draw K t word m j es out_links) q ∙ step_of K t word n j k es out_links e

-- an element that is there does not depend on the default
pub same_in_link : (k : ℕ) (es : List InLink) (e : InLink) → k < length es → e ≡ get_or es k e → e ≡ get_or es k no_in_link
same_in_link k es e h q = q ∙ get_or_default es k e no_in_link h

-- one pick, as the code does it: what is told and what is left to draw are the drawing from before it on
pub pick_step : (K : Stuck) (t : ℕ) (word : ℕ → ℕ) (j k : ℕ) (es left : List InLink) (out_links after : ℕ → Option OutLink) (e : InLink) (out0 out1 : List Move) →
    k < length es → k ≡ drawn es (word (16 * t + j)) → e ≡ get_or es k no_in_link → left ≡ without_at k es →
    after ≡ out_links_after (pass_node_all K t out_links e) out_links → out1 ≡ out0 ++ pass_node_all K t out_links e →
    out1 ++ draw K t word (length left) (j + 1) left after ≡ out0 ++ draw K t word (length es) j es out_links
pick_step K t word j k es left out_links after e out0 out1 lt d q l a o =
    let s = draw_step K t word j k es out_links lt d in
    rw (o, l, a, q, s) (append_assoc out0 (pass_node_all K t out_links (get_or es k no_in_link)) (draw K t word (length (without_at k es)) (j + 1) (without_at k es) (out_links_after (pass_node_all K t out_links (get_or es k no_in_link)) out_links)))

in_links_filter : (p : InLink → Bool) (es : List InLink) → AreInLinks es → AreInLinks (filter p es)
in_links_filter p [] h = tt
in_links_filter p (e ∷ es) h = elim (cases_Bool (p e)) [ inl q ↦ simp q (h.0, in_links_filter p es h.1) | inr q ↦ simp q (in_links_filter p es h.1) ]

few_filter : (p : InLink → Bool) (es : List InLink) → length (filter p es) ≤ length es
few_filter p [] = omega arith
few_filter p (e ∷ es) = let k = few_filter p es in elim (cases_Bool (p e)) [ inl q ↦ simp q (omega arith) | inr q ↦ simp q (omega arith) ]

pub are_candidates : (es : List InLink) → AreInLinks es → AreInLinks (filter is_green (ready es))
are_candidates es h = in_links_filter is_green (ready es) (in_links_filter (λ (e : InLink). not (is_nil e.rows)) es h)

pub few_candidates : (es : List InLink) → length (filter is_green (ready es)) ≤ length es
few_candidates es = let a = few_filter is_green (ready es) in let b = few_filter (λ (e : InLink). not (is_nil e.rows)) es in omega arith
