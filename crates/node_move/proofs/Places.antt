-- Links by their places: one of them hands over, and the others stay as they are.
use Rattle.std.proofs.Common.{◌≡◌, ◌≢◌, ℕ, zero, suc, ◌<◌, true, List, [], ◌∷◌, length, get_or, refl, ap, sym, ◌∙◌, subst, arith}
use Rattle.std.specs.{List.remove, Prelude.map, Prelude.set, Prelude.Option}
use Rattle.rows.specs.declared.settings.Stuck.{Stuck}
use Rattle.traffic.specs.{Lists.without_at, Nodes.pass_node, Nodes.pass_node_all, Nodes.no_in_link, Nodes.HaveNext, Vehicles.VehicleState}
use Rattle.traffic.specs.declared.{moves.Occurrence.Occurrence, node_views.InLink.InLink, node_views.OutLink.OutLink, world.Row.Row}
use Rattle.law_sleeping.proofs.Marking.{pass_node_spares}
use Rattle.queue_link.specs.Links.{LinkView}
use Rattle.node_move.proofs.Runs.{with_buffer, same_state}
use Rattle.node_move.specs.NodeStates.{NodeState, node_state, node_run, buffer_after, in_link_of, seen, no_link, AreReady, IsNone, AreApart, IsNotIn, ArePlaces}
use Rattle.node_move.specs.declared.crossings.Entering.{Entering}

-- ONE LINK HANDS OVER
others_kept : (K : Stuck) (t a : ℕ) (P : ℕ → Option OutLink) (since : ℕ) (rows : List Row) (vs : List LinkView) → IsNone a vs
    → map (buffer_after (pass_node K t a P since rows)) vs ≡ vs
others_kept K t a P since rows [] h = refl
others_kept K t a P since rows (v ∷ vs) h =
    let e = pass_node_spares K t v.numbers.link a (λ q. h.0 (sym q)) P since rows v.lists.buffer in
    ap (λ (xs : List Row). with_buffer v xs ∷ map (buffer_after (pass_node K t a P since rows)) vs) e
    ∙ ap (λ (us : List LinkView). v ∷ us) (others_kept K t a P since rows vs h.1)

none_at : (l : ℕ) (vs : List LinkView) (k : ℕ) → IsNone l vs → k < length vs → (get_or vs k no_link).numbers.link ≢ l
none_at l [] k h lt = absurd (omega arith)
none_at l (v ∷ vs) zero h lt = h.0
none_at l (v ∷ vs) (suc k) h lt = none_at l vs k h.1 (omega arith)

at_place : (K : Stuck) (t a : ℕ) (P : ℕ → Option OutLink) (since : ℕ) (rows : List Row) (vs : List LinkView) (k : ℕ) → AreApart vs → k < length vs
    → (get_or vs k no_link).numbers.link ≡ a
    → map (buffer_after (pass_node K t a P since rows)) vs ≡ set vs k (buffer_after (pass_node K t a P since rows) (get_or vs k no_link))
at_place K t a P since rows [] k h lt e = absurd (omega arith)
at_place K t a P since rows (v ∷ vs) zero h lt e =
    ap (λ (us : List LinkView). buffer_after (pass_node K t a P since rows) v ∷ us)
    (others_kept K t a P since rows vs (subst (λ (l : ℕ). IsNone l vs) e h.0))
at_place K t a P since rows (v ∷ vs) (suc k) h lt e =
    let ne : a ≢ v.numbers.link = λ q. none_at v.numbers.link vs k h.0 (omega arith) (e ∙ q) in
    let s = pass_node_spares K t v.numbers.link a ne P since rows v.lists.buffer in
    ap (λ (xs : List Row). with_buffer v xs ∷ map (buffer_after (pass_node K t a P since rows)) vs) s
    ∙ ap (λ (us : List LinkView). v ∷ us) (at_place K t a P since rows vs k h.1 (omega arith) e)

first_link : List LinkView → LinkView
first_link [] = no_link
first_link (v ∷ vs) = v

pub is_passed : (K : Stuck) (t : ℕ) (v w : LinkView) (P Q : ℕ → Option OutLink) (es fs : List Entering) (gone lost : List VehicleState) (said later : List Occurrence)
    → node_state (w ∷ []) Q fs lost later ≡ node_run (pass_node_all K t P (in_link_of v true)) (node_state (v ∷ []) P es gone said)
    → w ≡ buffer_after (pass_node_all K t P (in_link_of v true)) v
unfolding first_link
is_passed K t v w P Q es fs gone lost said later e = ap (λ (N : NodeState). first_link N.in_links) e

-- what one link does to its own, it does among the others
pub pass_among : (K : Stuck) (t : ℕ) (vs : List LinkView) (k : ℕ) (w : LinkView) (P Q : ℕ → Option OutLink) (es fs : List Entering) (gone lost : List VehicleState)
    (said later : List Occurrence) → AreApart vs → k < length vs
    → node_state (w ∷ []) Q fs lost later
    ≡ node_run (pass_node_all K t P (in_link_of (get_or vs k no_link) true)) (node_state (get_or vs k no_link ∷ []) P es gone said)
    → node_state (set vs k w) Q fs lost later ≡ node_run (pass_node_all K t P (in_link_of (get_or vs k no_link) true)) (node_state vs P es gone said)
pass_among K t vs k w P Q es fs gone lost said later h lt e =
    let v = get_or vs k no_link in
    let a = at_place K t v.numbers.link P _ v.lists.buffer vs k h lt refl in
    let b = is_passed K t v w P Q es fs gone lost said later e in
    same_state _ _ _ _ _ _ _ _ _ _ (ap (set vs k) b ∙ sym a) (ap (λ (N : NodeState). N.out_links) e) (ap (λ (N : NodeState). N.entering) e)
    (ap (λ (N : NodeState). N.removed) e) (ap (λ (N : NodeState). N.said) e)

-- THE OTHER FACTS
pub ready_at : (vs : List LinkView) (k : ℕ) → AreReady vs → HaveNext (get_or vs k no_link).lists.buffer
ready_at [] k h = tt
ready_at (v ∷ vs) zero h = h.0
ready_at (v ∷ vs) (suc k) h = ready_at vs k h.1

pub ready_with : (vs : List LinkView) (k : ℕ) (w : LinkView) → AreReady vs → HaveNext w.lists.buffer → AreReady (set vs k w)
ready_with [] k w h g = tt
ready_with (v ∷ vs) zero w h g = (g, h.1)
ready_with (v ∷ vs) (suc k) w h g = (h.0, ready_with vs k w h.1 g)

none_with : (l : ℕ) (vs : List LinkView) (k : ℕ) (w : LinkView) → IsNone l vs → w.numbers ≡ (get_or vs k no_link).numbers → IsNone l (set vs k w)
none_with l [] k w h e = tt
none_with l (v ∷ vs) zero w h e = ((λ q. h.0 (sym (ap (λ n. n.link) e) ∙ q)), h.1)
none_with l (v ∷ vs) (suc k) w h e = (h.0, none_with l vs k w h.1 e)

pub apart_with : (vs : List LinkView) (k : ℕ) (w : LinkView) → AreApart vs → w.numbers ≡ (get_or vs k no_link).numbers → AreApart (set vs k w)
apart_with [] k w h e = tt
apart_with (v ∷ vs) zero w h e = (subst (λ (l : ℕ). IsNone l vs) (sym (ap (λ n. n.link) e)) h.0, h.1)
apart_with (v ∷ vs) (suc k) w h e = (none_with v.numbers.link vs k w h.0 e, apart_with vs k w h.1 e)

-- PLACES
pub places_within : (n : ℕ) (ks : List ℕ) (k : ℕ) → ArePlaces n ks → k < length ks → get_or ks k 0 < n
places_within n [] k h lt = absurd (omega arith)
places_within n (x ∷ ks) zero h lt = h.0
places_within n (x ∷ ks) (suc k) h lt = places_within n ks k h.2 (omega arith)

not_in_without : (x : ℕ) (ks : List ℕ) (k : ℕ) → IsNotIn x ks → IsNotIn x (without_at k ks)
not_in_without x [] k h = tt
not_in_without x (y ∷ ks) zero h = h.1
not_in_without x (y ∷ ks) (suc k) h = (h.0, not_in_without x ks k h.1)

pub places_without : (n : ℕ) (ks : List ℕ) (k : ℕ) → ArePlaces n ks → ArePlaces n (without_at k ks)
places_without n [] k h = tt
places_without n (x ∷ ks) zero h = h.2
places_without n (x ∷ ks) (suc k) h = (h.0, not_in_without x ks k h.1, places_without n ks k h.2)

in_at : (x : ℕ) (ks : List ℕ) (k : ℕ) → IsNotIn x ks → k < length ks → get_or ks k 0 ≢ x
in_at x [] k h lt = absurd (omega arith)
in_at x (y ∷ ks) zero h lt = h.0
in_at x (y ∷ ks) (suc k) h lt = in_at x ks k h.1 (omega arith)

taken_not_left : (n : ℕ) (ks : List ℕ) (k : ℕ) → ArePlaces n ks → k < length ks → IsNotIn (get_or ks k 0) (without_at k ks)
taken_not_left n [] k h lt = absurd (omega arith)
taken_not_left n (x ∷ ks) zero h lt = h.1
taken_not_left n (x ∷ ks) (suc k) h lt = ((λ q. in_at x ks k h.1 (omega arith) (sym q)), taken_not_left n ks k h.2 (omega arith))

pub seen_at : (vs : List LinkView) (ks : List ℕ) (k : ℕ) → k < length ks → get_or (seen vs ks) k no_in_link ≡ in_link_of (get_or vs (get_or ks k 0) no_link) true
seen_at vs [] k lt = absurd (omega arith)
seen_at vs (x ∷ ks) zero lt = refl
seen_at vs (x ∷ ks) (suc k) lt = seen_at vs ks k (omega arith)

seen_without : (vs : List LinkView) (ks : List ℕ) (k : ℕ) → seen vs (without_at k ks) ≡ without_at k (seen vs ks)
seen_without vs [] k = refl
seen_without vs (x ∷ ks) zero = refl
seen_without vs (x ∷ ks) (suc k) = ap (λ (es : List InLink). in_link_of (get_or vs x no_link) true ∷ es) (seen_without vs ks k)

seen_alike : (vs us : List LinkView) (place : ℕ) (ks : List ℕ) → ((q : ℕ) → q ≢ place → get_or us q no_link ≡ get_or vs q no_link) → IsNotIn place ks
    → seen us ks ≡ seen vs ks
seen_alike vs us place [] f h = refl
seen_alike vs us place (x ∷ ks) f h =
    ap (λ (v : LinkView). in_link_of v true ∷ seen us ks) (f x h.0)
    ∙ ap (λ (es : List InLink). in_link_of (get_or vs x no_link) true ∷ es) (seen_alike vs us place ks f h.1)

pub seen_rest : (vs us : List LinkView) (n : ℕ) (ks : List ℕ) (k : ℕ) → ArePlaces n ks → k < length ks
    → ((q : ℕ) → q ≢ get_or ks k 0 → get_or us q no_link ≡ get_or vs q no_link) → seen us (without_at k ks) ≡ without_at k (seen vs ks)
seen_rest vs us n ks k h lt f =
    seen_alike vs us (get_or ks k 0) (without_at k ks) f (taken_not_left n ks k h lt) ∙ seen_without vs ks k

pub length_seen : (vs : List LinkView) (ks : List ℕ) → length (seen vs ks) ≡ length ks
length_seen vs [] = refl
length_seen vs (x ∷ ks) = ap (λ (n : ℕ). suc n) (length_seen vs ks)

-- AT A PLACE
pub is_at : (vs : List LinkView) (k : ℕ) (v : LinkView) → k < length vs → v ≡ get_or vs k v → v ≡ get_or vs k no_link
is_at [] k v lt e = absurd (omega arith)
is_at (x ∷ vs) zero v lt e = e
is_at (x ∷ vs) (suc k) v lt e = is_at vs k v (omega arith) e

pub without_is : {X : Type 0} (k : ℕ) (xs : List X) → k < length xs → remove xs k ≡ without_at k xs
without_is k [] h = absurd (omega arith)
without_is zero (x ∷ xs) h = refl
without_is (suc k) (x ∷ xs) h = ap (λ ys. x ∷ ys) (without_is k xs (omega arith))

pub length_without : {X : Type 0} (k : ℕ) (xs : List X) → k < length xs → suc (length (without_at k xs)) ≡ length xs
length_without k [] h = absurd (omega arith)
length_without zero (x ∷ xs) h = refl
length_without (suc k) (x ∷ xs) h = ap (λ (n : ℕ). suc n) (length_without k xs (omega arith))

pub number_at : (ks : List ℕ) (k x : ℕ) → k < length ks → x ≡ get_or ks k x → x ≡ get_or ks k 0
number_at [] k x lt e = absurd (omega arith)
number_at (y ∷ ks) zero x lt e = e
number_at (y ∷ ks) (suc k) x lt e = number_at ks k x (omega arith) e

pub number_within : (n : ℕ) (ks : List ℕ) (k x : ℕ) → ArePlaces n ks → k < length ks → x ≡ get_or ks k 0 → x < n
number_within n ks k x h lt e = let w = places_within n ks k h lt in omega arith
