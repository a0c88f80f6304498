-- A node's turn is the handing over of those that can.
use Rattle.std.proofs.Common.{◌≡◌, ℕ, zero, suc, ◌+◌, ◌*◌, ◌^◌, ◌<◌, ◌≢◌, Bool, true, false, List, [], ◌∷◌, ◌++◌, length, get_or, refl, ap, sym, ◌∙◌, subst}
use Rattle.std.proofs.Common.{eqb, arith, inl, inr, append-nil}
use Rattle.std.proofs.lemmas.Bool.{cases_Bool, or_parts, or_cases, or_left, or_right, and_right, Decides.nat_tests}
use Rattle.std.{proofs.lemmas.List.Sums.sum_by-cons, specs.List.AllByRecursion as Each}
use Rattle.std.specs.Prelude.{map, filter, not, ◌&&◌, ◌||◌, Option, None, Some, sum}
use Rattle.draws.proofs.Ranges.{pick_within}
use Rattle.traffic.{proofs.Each.each_kept, proofs.Each.each_weaker, proofs.Each.each_without_at, specs.Lists.is_nil, specs.Lists.without_at}
use Rattle.traffic.specs.Nodes.{NodeView, next_link, is_out_link, has_room, with_one_more, one_more, is_stuck, may_enter, pass_node, since_of, out_links_by}
use Rattle.traffic.specs.Nodes.{out_links_after, pass_node_all, drawn, no_in_link, draw, ready, red, candidates, mark, node_moves}
use Rattle.traffic.specs.declared.{moves.Move.Move, moves.Move.TheVariants.Transfer, node_views.InLink.InLink, node_views.OutLink.OutLink, world.Row.Row}
use Rattle.rows.specs.declared.settings.Stuck.{Stuck}
use Rattle.law_sleeping.specs.Able.{can_go, can_pass_node, is_able, IsFuller, AreWeighted, AreWords, order, pass_node_each, Choice, HasAble}
use Rattle.law_sleeping.specs.Able.{by_chosen, draw_lazily}

-- WHO CANNOT GO HANDS NOTHING OVER
may_enter_not : (K : Stuck) (t since : ℕ) (o : Option OutLink) → has_room o ≡ false → is_stuck K t since ≡ false → may_enter K t since o
    ≡ false
may_enter_not K t since o e f = rw (e, f) (and_right (is_out_link o) (false || (K.push && false)) (and_right K.push false refl))

pub pass_node_none : (K : Stuck) (t a : ℕ) (out_links : ℕ → Option OutLink) (rows : List Row) → can_go K t out_links rows ≡ false
    → pass_node K t a out_links (since_of rows) rows ≡ []
unfolding pass_node
pass_node_none K t a out_links [] h = refl
pass_node_none K t a out_links (r ∷ rs) h =
    let g = or_parts (has_room (out_links (next_link r.vehicle))) (is_stuck K t r.second) h in
    let m = may_enter_not K t r.second (out_links (next_link r.vehicle)) g.0 g.1 in
    rw (m, g.1) refl

pub pass_node_all_none : (K : Stuck) (t : ℕ) (out_links : ℕ → Option OutLink) (e : InLink) → can_pass_node K t out_links e ≡ false
    → pass_node_all K t out_links e ≡ []
pass_node_all_none K t out_links e h = pass_node_none K t e.link out_links e.rows h

-- and who can hands something over
has_room_out_link : (o : Option OutLink) → has_room o ≡ true → is_out_link o ≡ true
has_room_out_link None e = absurd (cc)
has_room_out_link (Some x) e = refl

pub pass_node_some : (K : Stuck) (t a : ℕ) (out_links : ℕ → Option OutLink) (rows : List Row) → can_go K t out_links rows ≡ true
    → pass_node K t a out_links (since_of rows) rows ≢ []
unfolding pass_node
pass_node_some K t a out_links [] h = λ q. cc
pass_node_some K t a out_links (r ∷ rs) h =
    let o = out_links (next_link r.vehicle) in
    elim (cases_Bool (may_enter K t r.second o)) [
      | inl e ↦ rw e (λ q. cc)
      | inr e ↦
          elim (or_cases (has_room o) (is_stuck K t r.second) h) [
            | inl f ↦ let g = has_room_out_link o f in absurd (let z : true ≡ false = sym (rw (g, f) refl) ∙ e in cc)
            | inr f ↦ rw (e, f) (λ q. cc)
          ]
    ]

-- ROOM IS NEVER GAINED IN A TURN
fuller_more : (o : Option OutLink) → has_room (with_one_more o) ≡ true → has_room o ≡ true
fuller_more None e = e
fuller_more (Some x) e = grind (arith, nat_tests)

fuller_one : (m : ℕ) (out_links : ℕ → Option OutLink) → IsFuller (one_more m out_links) out_links
unfolding one_more
fuller_one m out_links l e = elim (cases_Bool (eqb l m)) [ inl q ↦ fuller_more (out_links l) (rw q at e) | inr q ↦ rw q at e ]

fuller_by : (m : Move) (out_links : ℕ → Option OutLink) → IsFuller (out_links_by m out_links) out_links
fuller_by (Transfer l s k was now) out_links = fuller_one now.link out_links
fuller_by _ out_links = λ m e. e

pub fuller_after : (ms : List Move) (out_links : ℕ → Option OutLink) → IsFuller (out_links_after ms out_links) out_links
fuller_after [] out_links m e = e
fuller_after (x ∷ ms) out_links m e = fuller_by x out_links m (fuller_after ms (out_links_by x out_links) m e)

pub can_go_before : (K : Stuck) (t : ℕ) (out_links before : ℕ → Option OutLink) → IsFuller out_links before → (rows : List Row)
    → can_go K t out_links rows ≡ true → can_go K t before rows ≡ true
can_go_before K t out_links before f [] h = h
can_go_before K t out_links before f (r ∷ rs) h =
    let m = next_link r.vehicle in
    elim (or_cases (has_room (out_links m)) (is_stuck K t r.second) h) [
      | inl e ↦ or_left (has_room (before m)) (is_stuck K t r.second) (f m e)
      | inr e ↦ or_right (has_room (before m)) (is_stuck K t r.second) e
    ]

pub cannot_later : (K : Stuck) (t : ℕ) (out_links before : ℕ → Option OutLink) → IsFuller out_links before → (e : InLink)
    → can_pass_node K t before e ≡ false → can_pass_node K t out_links e ≡ false
cannot_later K t out_links before f e h =
    elim (cases_Bool (can_pass_node K t out_links e)) [
      | inl q ↦ absurd (let z = can_go_before K t out_links before f e.rows q in cc)
      | inr q ↦ q
    ]

-- A TURN IN WHICH NOBODY CAN
abbrev pub Cannot : Stuck → ℕ → (ℕ → Option OutLink) → List InLink → Type 0
Cannot K t out_links es = Each (λ (e : InLink). can_pass_node K t out_links e ≡ false) es

drawn_none : (K : Stuck) (t : ℕ) (out_links : ℕ → Option OutLink) (k : ℕ) (es : List InLink) → Cannot K t out_links es
    → pass_node_all K t out_links (get_or es k no_in_link) ≡ []
drawn_none K t out_links k [] h = pass_node_all_none K t out_links no_in_link refl
drawn_none K t out_links zero (e ∷ es) h = pass_node_all_none K t out_links e h.0
drawn_none K t out_links (suc k) (e ∷ es) h = drawn_none K t out_links k es h.1

pub draw_none : (K : Stuck) (t : ℕ) (word : ℕ → ℕ) (left j : ℕ) (es : List InLink) (out_links : ℕ → Option OutLink)
    → Cannot K t out_links es → draw K t word left j es out_links ≡ []
unfolding draw
draw_none K t word zero j es out_links h = refl
draw_none K t word (suc left) j es out_links h =
    let k = drawn es (word (16 * t + j)) in
    let e = drawn_none K t out_links k es h in
    rw e (draw_none K t word left (j + 1) (without_at k es) out_links (each_without_at (λ (e : InLink). can_pass_node K t out_links e
    ≡ false) k es h))

-- of the green ones that are not able none can
pub cannot_green : (K : Stuck) (t : ℕ) (out_links : ℕ → Option OutLink) (es : List InLink)
    → Each (λ (e : InLink). is_able K t out_links e ≡ false) es → Cannot K t out_links (filter (λ (e : InLink). e.green) es)
cannot_green K t out_links [] h = tt
cannot_green K t out_links (e ∷ es) h =
    elim (cases_Bool e.green) [
      | inl q ↦ simp q (
        (let f : (e.green && can_pass_node K t out_links e)
            ≡ false = h.0 in rw q at f),
        cannot_green K t out_links es h.1,
      )
      | inr q ↦ simp q (cannot_green K t out_links es h.1)
    ]

pub node_rest : (K : Stuck) (t : ℕ) (word : ℕ → ℕ) (see : NodeView)
    → Each (λ (e : InLink). is_able K t see.out_links e ≡ false) see.in_links → node_moves K t word see ≡ map (mark t) (red see.in_links)
unfolding node_moves
node_rest K t word see h =
    let links = candidates see.in_links in
    let g = cannot_green K t see.out_links (ready see.in_links) (each_kept (λ (e : InLink). is_able K t see.out_links e
    ≡ false) (λ (e : InLink). not (is_nil e.rows)) see.in_links h) in
    let e = draw_none K t word (length links) 0 links see.out_links g in
    rw e (append-nil (map (mark t) (red see.in_links)))

-- THE ORDER OF THE DRAWING
pub in_order : (K : Stuck) (t : ℕ) (word : ℕ → ℕ) (left j : ℕ) (es : List InLink) (out_links : ℕ → Option OutLink)
    → draw K t word left j es out_links ≡ pass_node_each K t out_links (order t word left j es)
unfolding draw pass_node_each order
in_order K t word zero j es out_links = refl
in_order K t word (suc left) j es out_links =
    let k = drawn es (word (16 * t + j)) in
    let moves = pass_node_all K t out_links (get_or es k no_in_link) in
    ap (λ ms. moves ++ ms) (in_order K t word left (j + 1) (without_at k es) (out_links_after moves out_links))

able_alone_from : (K : Stuck) (t : ℕ) (start out_links : ℕ → Option OutLink) → IsFuller out_links start → (es : List InLink)
    → pass_node_each K t out_links es ≡ pass_node_each K t out_links (filter (can_pass_node K t start) es)
unfolding pass_node_each
able_alone_from K t start out_links f [] = refl
able_alone_from K t start out_links f (e ∷ es) =
    elim (cases_Bool (can_pass_node K t start e)) [
      | inl q ↦
          let moves = pass_node_all K t out_links e in
          simp q (ap (λ ms. moves ++ ms) (able_alone_from K t start (out_links_after moves out_links)
          (λ m x. f m (fuller_after moves out_links m x)) es))
      | inr q ↦
          let n = pass_node_all_none K t out_links e (cannot_later K t out_links start f e q) in
          simp q (rw n (able_alone_from K t start out_links f es))
    ]

pub able_alone : (K : Stuck) (t : ℕ) (out_links : ℕ → Option OutLink) (es : List InLink) → pass_node_each K t out_links es
    ≡ pass_node_each K t out_links (filter (can_pass_node K t out_links) es)
able_alone K t out_links es = able_alone_from K t out_links out_links (λ m e. e) es

-- EACH PICK DRAWS ONE
sum_positive : (e : InLink) (es : List InLink) → 0 < e.capacity → 0 < sum (map (λ (x : InLink). x.capacity) (e ∷ es))
sum_positive e es h = let f = sum_by-cons (λ (x : ℕ). x) e.capacity (map (λ (x : InLink). x.capacity) es) in omega arith

length_map : (es : List InLink) → length (map (λ (x : InLink). x.capacity) es) ≡ length es
length_map [] = refl
length_map (e ∷ es) = ap suc (length_map es)

pub drawn_in : (es : List InLink) (w : ℕ) → es ≢ [] → AreWeighted es → w < 2 ^ 32 → drawn es w < length es
drawn_in [] w ne h g = absurd (ne refl)
drawn_in (e ∷ es) w ne h g =
    let ws = map (λ (x : InLink). x.capacity) (e ∷ es) in
    subst (λ (n : ℕ). drawn (e ∷ es) w < n) (length_map (e ∷ es)) (pick_within ws w (sum_positive e es h.0) g)

pub length_without : (k n : ℕ) (es : List InLink) → k < length es → suc n ≡ length es → n ≡ length (without_at k es)
length_without k n [] h e = absurd (omega arith)
length_without zero n (x ∷ es) h e = omega arith
length_without (suc k) zero (x ∷ es) h e = absurd (omega arith)
length_without (suc k) (suc n) (x ∷ es) h e = let r = length_without k n es (omega arith) (omega arith) in omega arith

-- WHO IS CHOSEN
filter_none : (p : InLink → Bool) (es : List InLink) → filter p es ≡ [] → Each (λ (e : InLink). p e ≡ false) es
filter_none p [] h = tt
filter_none p (e ∷ es) h = elim (cases_Bool (p e)) [
  | inl q ↦ absurd (let z = simp q at h in cc)
  | inr q ↦ (q, filter_none p es (simp q at h))
]

pub each_get : (P : InLink → Type 0) (k : ℕ) (es : List InLink) → Each P es → k < length es → P (get_or es k no_in_link)
each_get P k [] h lt = absurd (omega arith)
each_get P zero (e ∷ es) h lt = h.0
each_get P (suc k) (e ∷ es) h lt = each_get P k es h.1 (omega arith)

without_no : (p : InLink → Bool) (k : ℕ) (es : List InLink) → p (get_or es k no_in_link) ≡ false → filter p (without_at k es) ≡ filter p es
without_no p k [] h = refl
without_no p zero (e ∷ es) h = let q : p e ≡ false = h in simp q
without_no p (suc k) (e ∷ es) h =
    let r = without_no p k es h in
    elim (cases_Bool (p e)) [ inl q ↦ simp q (ap (λ xs. e ∷ xs) r) | inr q ↦ simp q r ]

without_only : (p : InLink → Bool) (k : ℕ) (e : InLink) (es : List InLink) → k < length es → p (get_or es k no_in_link) ≡ true
    → filter p es ≡ e ∷ [] → (get_or es k no_in_link ≡ e) × (filter p (without_at k es) ≡ [])
without_only p k e [] lt h f = absurd (omega arith)
without_only p zero e (x ∷ es) lt h f =
    let q : p x ≡ true = h in
    let g : x ∷ filter p es ≡ e ∷ [] = simp q at f in
    ((let z = g in cc), (let z = g in cc))
without_only p (suc k) e (x ∷ es) lt h f =
    elim (cases_Bool (p x)) [
      | inl q ↦
          let g : x ∷ filter p es ≡ e ∷ [] = simp q at f in
          let n : filter p es ≡ [] = cc in
          absurd (let z = each_get (λ (y : InLink). p y ≡ false) k es (filter_none p es n) (omega arith) in cc)
      | inr q ↦
          let g : filter p es ≡ e ∷ [] = simp q at f in
          let r = without_only p k e es (omega arith) h g in
          (r.0, simp q r.1)
    ]

-- a choice that has all who can: who is not chosen cannot
not_chosen : (K : Stuck) (t : ℕ) (p : Choice) (out_links : ℕ → Option OutLink) → HasAble K t p out_links → (e : InLink) → p out_links e
    ≡ false → can_pass_node K t out_links e ≡ false
not_chosen K t p out_links a e h = elim (cases_Bool (can_pass_node K t out_links e))
    [ inl q ↦ absurd (let z = a out_links (λ m x. x) e q in cc) | inr q ↦ q ]

none_chosen : (K : Stuck) (t : ℕ) (p : Choice) (out_links : ℕ → Option OutLink) → HasAble K t p out_links → (es : List InLink)
    → filter (p out_links) es ≡ [] → Cannot K t out_links es
none_chosen K t p out_links a es h = each_weaker (λ (e : InLink). p out_links e ≡ false) (λ (e : InLink). can_pass_node K t out_links e
    ≡ false) (not_chosen K t p out_links a) es (filter_none (p out_links) es h)

has_able_later : (K : Stuck) (t : ℕ) (p : Choice) (out_links later : ℕ → Option OutLink) → IsFuller later out_links
    → HasAble K t p out_links → HasAble K t p later
has_able_later K t p out_links later f a = λ x g e h. a x (λ m y. f m (g m y)) e h

pub not_nil : (es : List InLink) (n : ℕ) → suc n ≡ length es → es ≢ []
not_nil [] n h = absurd (omega arith)
not_nil (e ∷ es) n h = λ q. cc

-- only one is chosen: whatever the words are, it is drawn at some time, and all others hand over nothing
pub one_left : (K : Stuck) (t : ℕ) (word : ℕ → ℕ) → AreWords word
    → (p : InLink → Bool) (left j : ℕ) (e : InLink) (es : List InLink) (out_links : ℕ → Option OutLink)
    → ((x : InLink) → p x ≡ false → can_pass_node K t out_links x ≡ false) → AreWeighted es → left ≡ length es → filter p es ≡ e ∷ []
    → draw K t word left j es out_links ≡ pass_node_all K t out_links e
unfolding draw
one_left K t word small p zero j e [] out_links a w n f = absurd (let z : [] ≡ e ∷ [] = f in cc)
one_left K t word small p zero j e (x ∷ es) out_links a w n f = absurd (omega arith)
one_left K t word small p (suc left) j e es out_links a w n f =
    let k = drawn es (word (16 * t + j)) in
    let lt : k < length es = drawn_in es (word (16 * t + j)) (not_nil es left n) w (small (16 * t + j)) in
    let moves = pass_node_all K t out_links (get_or es k no_in_link) in
    let m = length_without k left es lt n in
    elim (cases_Bool (p (get_or es k no_in_link))) [
      | inl q ↦
          let o = without_only p k e es lt q f in
          let rest = each_weaker (λ (x : InLink). p x ≡ false) (λ (x : InLink). can_pass_node K t out_links x
          ≡ false) a (without_at k es) (filter_none p (without_at k es) o.1) in
          let later = each_weaker (λ (x : InLink). can_pass_node K t out_links x
          ≡ false) (λ (x : InLink). can_pass_node K t (out_links_after moves out_links) x
          ≡ false) (cannot_later K t (out_links_after moves out_links) out_links (fuller_after moves out_links)) (without_at k es) rest in
          let d = draw_none K t word left (j + 1) (without_at k es) (out_links_after moves out_links) later in
          ap (λ ms. moves ++ ms) d ∙ append-nil moves ∙ ap (pass_node_all K t out_links) o.0
      | inr q ↦
          let c = pass_node_all_none K t out_links (get_or es k no_in_link) (a (get_or es k no_in_link) q) in
          rw c (one_left K t word small p left (j + 1) e (without_at k es) out_links a
          (each_without_at (λ (x : InLink). 0 < x.capacity) k es w) m (without_no p k es q ∙ f))
    ]

by_chosen_is : (alone : InLink → List Move) (more ms : List Move) (chosen : List InLink) → (chosen ≡ [] → ms ≡ [])
    → ((e : InLink) → chosen ≡ e ∷ [] → ms ≡ alone e) → ms ≡ more → ms ≡ by_chosen alone more chosen
by_chosen_is alone more ms [] a b c = a refl
by_chosen_is alone more ms (e ∷ []) a b c = b e refl
by_chosen_is alone more ms (e ∷ f ∷ es) a b c = c

pub lazily : (K : Stuck) (t : ℕ) (word : ℕ → ℕ) → AreWords word
    → (p : Choice) (left j : ℕ) (es : List InLink) (out_links : ℕ → Option OutLink)
    → HasAble K t p out_links → AreWeighted es → left ≡ length es → draw K t word left j es out_links
    ≡ draw_lazily p K t word left j es out_links
unfolding draw draw_lazily
lazily K t word small p zero j es out_links a w n = refl
lazily K t word small p (suc left) j es out_links a w n =
    let k = drawn es (word (16 * t + j)) in
    let lt : k < length es = drawn_in es (word (16 * t + j)) (not_nil es left n) w (small (16 * t + j)) in
    let moves = pass_node_all K t out_links (get_or es k no_in_link) in
    let r = lazily K t word small p left (j + 1) (without_at k es) (out_links_after moves out_links)
    (has_able_later K t p out_links (out_links_after moves out_links) (fuller_after moves out_links) a)
    (each_without_at (λ (x : InLink). 0 < x.capacity) k es w) (length_without k left es lt n) in
    by_chosen_is (pass_node_all K t out_links) _ _ (filter (p out_links) es)
    (λ q. draw_none K t word (suc left) j es out_links (none_chosen K t p out_links a es q))
    (λ e q. one_left K t word small (p out_links) (suc left) j e es out_links (not_chosen K t p out_links a) w n q)
    (ap (λ ms. moves ++ ms) r)
