-- After a node's turn no green link into it can hand over.
use Rattle.std.proofs.Common.{◌≡◌, ◌≢◌, ℕ, zero, suc, ◌+◌, ◌*◌, ◌<◌, ◌≤◌, Bool, true, false, List, [], ◌∷◌, ◌++◌, length, get_or, refl, ap, sym, ◌∙◌, subst}
use Rattle.std.proofs.{Common.eqb, Common.arith, Common.inl, Common.inr, Common.append-nil, Common.length-append, Math.Path.fun_ext}
use Rattle.std.proofs.lemmas.Bool.{cases_Bool, or_from, or_left, eqb-true, eqb-false, eq-eqb, ne_eqb}
use Rattle.std.specs.List.{AllByRecursion as Each}
use Rattle.std.specs.Prelude.{map, filter, not, ◌&&◌, if◌then◌else◌, Option, Some, None}
use Rattle.events.specs.declared.event.Phase.TheVariants as phase
use Rattle.traffic.proofs.{Each.each_kept, Each.each_without_at, Nodes.nodes_apart, Nodes.node_untouched, Sublists.at_after_all-append}
use Rattle.traffic.{proofs.Sublists.at_after_all-untouched, proofs.Turns.at-phase_one, specs.Day.node_turns, specs.Day.turns_of, specs.Day.turns_in}
use Rattle.traffic.specs.{Day.after, Lists.is_nil, Lists.without_at, Lists.on_front, Lists.numbers, Moves.at_second, Moves.at_after, Moves.at_after_all}
use Rattle.traffic.specs.Nodes.{in_force, mark, red, node_view, with_one_more, out_link, next_link, has_room, one_more, is_stuck, may_enter, entered, pass_node}
use Rattle.traffic.specs.Nodes.{since_of, out_links_after, pass_node_all, drawn, no_in_link, draw, ready, candidates}
use Rattle.traffic.specs.{Rows.World, Rows.at, Rows.holes_at, Setup.Setup, Setup.link_row, Setup.into, Setup.hole_of, Setup.storage_of, Setup.seconds_of}
use Rattle.traffic.specs.declared.moves.Move.{Move, TheVariants.Transfer, TheVariants.Remove, TheVariants.SetFrontSince}
use Rattle.traffic.specs.declared.node_views.{InLink.InLink, OutLink.OutLink}
use Rattle.traffic.specs.declared.{stage.Stage.TheVariants.Queue, stage.Stage.TheVariants.Buffer, world.Row.Row}
use Rattle.rows.specs.declared.settings.Stuck.{Stuck}
use Rattle.law_sleeping.proofs.Marking.{Lacks, Spares, pass_node_spares, draw_keeps, node_behind}
use Rattle.law_sleeping.proofs.Passing.{fuller_after, can_go_before, drawn_in, length_without, not_nil, each_get, in_order}
use Rattle.law_sleeping.proofs.{Reading.weighted_lazy, Reading.weighted_candidates, Skipping.marks_touch_buffers, Whole.nodes_holes}
use Rattle.law_sleeping.specs.Able.{can_go, IsFuller, AreWeighted, AreWords, order, pass_node_each}
use Rattle.law_sleeping.specs.Marks.{catch_up, Buffers, AreBehind, lazy_in_link, lazy_node_view, lazy_node_turns, buffers_after}

-- ONE LINK
cannot_more : (K : Stuck) (t : ℕ) (later out_links : ℕ → Option OutLink) (rows : List Row) → IsFuller later out_links
    → can_go K t out_links rows ≡ false → can_go K t later rows ≡ false
cannot_more K t later out_links rows f h = elim (cases_Bool (can_go K t later rows))
    [ inl q ↦ absurd (let z = can_go_before K t later out_links f rows q in cc) | inr q ↦ q ]

room_enters : (K : Stuck) (t since : ℕ) (o : Option OutLink) → may_enter K t since o ≡ false → has_room o ≡ false
room_enters K t since None h = refl
room_enters K t since (Some x) h =
    elim (cases_Bool (has_room (Some x))) [
      | inl q ↦ absurd (let z = or_left (has_room (Some x)) (K.push && is_stuck K t since) q in cc)
      | inr q ↦ q
    ]

-- what is left of the rows cannot go
Rests : Stuck → ℕ → ℕ → (ℕ → Option OutLink) → List Row → List Move → Type 0
Rests K t a out_links rows ms = can_go K t (out_links_after ms out_links) (at_after_all a Buffer ms rows) ≡ false

if_by : (P : List Move → Type 0) (b : Bool) (xs ys : List Move) → (b ≡ true → P xs) → (b ≡ false → P ys) → P (if b then xs else ys)
if_by P b xs ys h g = elim (cases_Bool b) [ inl e ↦ rw e (h e) | inr e ↦ rw e (g e) ]

passed_one : (a t : ℕ) (r now : Row) (rs : List Row) → now.stage ≡ Queue → (was : Row)
    → at_after a Buffer (SetFrontSince a t) (at_after a Buffer (Transfer a Buffer 0 was now) (r ∷ rs)) ≡ on_front (at_second t) rs
passed_one a t r now rs s was = let e = eq-eqb a a refl in let u = append-nil rs in rw (e, s, u) refl

removed_one : (a t : ℕ) (r was : Row) (rs : List Row) → at_after a Buffer (SetFrontSince a t)
    (at_after a Buffer (Remove a Buffer 0 was) (r ∷ rs)) ≡ on_front (at_second t) rs
removed_one a t r was rs = let e = eq-eqb a a refl in rw e refl

pass_node_rests : (K : Stuck) (t a : ℕ) (out_links : ℕ → Option OutLink) (since : ℕ) (rows : List Row)
    → Rests K t a out_links (on_front (at_second since) rows) (pass_node K t a out_links since rows)
unfolding pass_node Rests
pass_node_rests K t a out_links since [] = refl
pass_node_rests K t a out_links since (r ∷ rs) =
    let m = next_link r.vehicle in
    let was = at_second since r in
    let now = entered t (out_links m) r.vehicle in
    let P : List Move → Type 0 = λ ms. can_go K t (out_links_after ms out_links) (at_after_all a Buffer ms (was ∷ rs)) ≡ false in
    if_by P (may_enter K t since (out_links m)) _ _
    (λ e.
    let ms = pass_node K t a (one_more m out_links) t rs in
    let h = pass_node_rests K t a (one_more m out_links) t rs in
    subst (λ (xs : List Row). can_go K t (out_links_after ms (one_more m out_links)) (at_after_all a Buffer ms xs)
    ≡ false) (sym (passed_one a t was now rs refl was)) h)
    (λ e. if_by P (is_stuck K t since) _ _
    (λ f.
    let ms = pass_node K t a out_links t rs in
    let h = pass_node_rests K t a out_links t rs in
    subst (λ (xs : List Row). can_go K t (out_links_after ms out_links) (at_after_all a Buffer ms xs)
    ≡ false) (sym (removed_one a t was was rs)) h)
    (λ f. or_from (has_room (out_links m)) (is_stuck K t since) (room_enters K t since (out_links m) e) f))

first_kept : (xs : List Row) → on_front (at_second (since_of xs)) xs ≡ xs
first_kept [] = refl
first_kept (r ∷ rs) = refl

in_link_rests : (K : Stuck) (t : ℕ) (out_links : ℕ → Option OutLink) (e : InLink)
    → can_go K t (out_links_after (pass_node_all K t out_links e) out_links)
    (at_after_all e.link Buffer (pass_node_all K t out_links e) e.rows) ≡ false
unfolding Rests
in_link_rests K t out_links e =
    subst (λ (xs : List Row). can_go K t (out_links_after (pass_node_all K t out_links e) out_links)
    (at_after_all e.link Buffer (pass_node_all K t out_links e) xs)
    ≡ false) (first_kept e.rows) (pass_node_rests K t e.link out_links (since_of e.rows) e.rows)

-- ALL LINKS, IN AN ORDER
-- the in-links are of different links
abbrev Apart : List InLink → Type 0
Apart [] = Unit {0}
Apart (e ∷ es) = Lacks e.link es × Apart es

each_spares : (K : Stuck) (t l : ℕ) (out_links : ℕ → Option OutLink) (es : List InLink) → Lacks l es
    → Spares l (pass_node_each K t out_links es)
unfolding pass_node_each
each_spares K t l out_links [] h = λ xs. refl
each_spares K t l out_links (e ∷ es) h = λ xs.
    let moves = pass_node_all K t out_links e in
    at_after_all-append l Buffer moves (pass_node_each K t (out_links_after moves out_links) es) xs
    ∙ each_spares K t l (out_links_after moves out_links) es h.1 (at_after_all l Buffer moves xs)
    ∙ pass_node_spares K t l e.link h.0 out_links (since_of e.rows) e.rows xs

after_append : (ms ns : List Move) (out_links : ℕ → Option OutLink) → out_links_after (ms ++ ns) out_links
    ≡ out_links_after ns (out_links_after ms out_links)
after_append [] ns out_links = refl
after_append (m ∷ ms) ns out_links = after_append ms ns _

abbrev RestsAfter : Stuck → ℕ → (ℕ → Option OutLink) → List Move → InLink → Type 0
RestsAfter K t out_links ms e = can_go K t (out_links_after ms out_links) (at_after_all e.link Buffer ms e.rows) ≡ false

-- those that come later, after what the first one handed over
later_rest : (K : Stuck) (t : ℕ) (out_links : ℕ → Option OutLink) (first : InLink) (rest : List Move) (es : List InLink)
    → Lacks first.link es
    → Each (RestsAfter K t (out_links_after (pass_node_all K t out_links first) out_links) rest) es
    → Each (RestsAfter K t out_links (pass_node_all K t out_links first ++ rest)) es
later_rest K t out_links first rest [] n h = tt
later_rest K t out_links first rest (e ∷ es) n h =
    let moves = pass_node_all K t out_links first in
    let s : at_after_all e.link Buffer moves e.rows ≡ e.rows = pass_node_spares K t e.link first.link (λ q. n.0 (sym q)) out_links
    (since_of first.rows) first.rows e.rows in
    let a : at_after_all e.link Buffer (moves ++ rest) e.rows ≡ at_after_all e.link Buffer rest e.rows = at_after_all-append e.link Buffer
    moves rest e.rows ∙ ap (at_after_all e.link Buffer rest) s in
    let b = after_append moves rest out_links in (
      subst (λ (xs : List Row). can_go K t (out_links_after (moves ++ rest) out_links) xs
          ≡ false) (sym a) (subst (λ (later : ℕ → Option OutLink). can_go K t later (at_after_all e.link Buffer rest e.rows)
          ≡ false) (sym b) h.0),
      later_rest K t out_links first rest es n.1 h.1,
    )

each_rests : (K : Stuck) (t : ℕ) (out_links : ℕ → Option OutLink) (es : List InLink) → Apart es
    → Each (RestsAfter K t out_links (pass_node_each K t out_links es)) es
unfolding pass_node_each
each_rests K t out_links [] d = tt
each_rests K t out_links (e ∷ es) d =
    let moves = pass_node_all K t out_links e in
    let rest = pass_node_each K t (out_links_after moves out_links) es in
    let s : at_after_all e.link Buffer (moves ++ rest) e.rows ≡ at_after_all e.link Buffer moves e.rows =
    at_after_all-append e.link Buffer moves rest e.rows ∙ each_spares K t e.link (out_links_after moves out_links) es d.0
    (at_after_all e.link Buffer moves e.rows) in
    let b = after_append moves rest out_links in
    let one = cannot_more K t (out_links_after rest (out_links_after moves out_links)) (out_links_after moves out_links)
    (at_after_all e.link Buffer moves e.rows) (fuller_after rest (out_links_after moves out_links)) (in_link_rests K t out_links e) in (
      subst (λ (xs : List Row). can_go K t (out_links_after (moves ++ rest) out_links) xs
          ≡ false) (sym s) (subst (λ (later : ℕ → Option OutLink). can_go K t later (at_after_all e.link Buffer moves e.rows)
          ≡ false) (sym b) one),
      later_rest K t out_links e rest es d.0 (each_rests K t (out_links_after moves out_links) es d.1),
    )

-- THE ORDER HAS ALL
put_back : (P : InLink → Type 0) (k : ℕ) (es : List InLink) → k < length es → P (get_or es k no_in_link) → Each P (without_at k es)
    → Each P es
put_back P k [] lt p h = tt
put_back P zero (e ∷ es) lt p h = (p, h)
put_back P (suc k) (e ∷ es) lt p h = (h.0, put_back P k es (omega arith) p h.1)

order_has : (P : InLink → Type 0) (t : ℕ) (word : ℕ → ℕ) → AreWords word → (left j : ℕ) (es : List InLink) → AreWeighted es → left
    ≡ length es → Each P (order t word left j es) → Each P es
unfolding order
order_has P t word small zero j [] w n h = tt
order_has P t word small zero j (e ∷ es) w n h = absurd (omega arith)
order_has P t word small (suc left) j es w n h =
    let k = drawn es (word (16 * t + j)) in
    let lt : k < length es = drawn_in es (word (16 * t + j)) (not_nil es left n) w (small (16 * t + j)) in
    put_back P k es lt h.0 (order_has P t word small left (j + 1) (without_at k es)
    (each_without_at (λ (x : InLink). 0 < x.capacity) k es w) (length_without k left es lt n) h.1)

order_all : (P : InLink → Type 0) (t : ℕ) (word : ℕ → ℕ) → AreWords word → (left j : ℕ) (es : List InLink) → AreWeighted es → left
    ≡ length es → Each P es → Each P (order t word left j es)
unfolding order
order_all P t word small zero j es w n h = tt
order_all P t word small (suc left) j es w n h =
    let k = drawn es (word (16 * t + j)) in
    let lt : k < length es = drawn_in es (word (16 * t + j)) (not_nil es left n) w (small (16 * t + j)) in (
      each_get P k es h lt,
      order_all P t word small left (j + 1) (without_at k es)
          (each_without_at (λ (x : InLink). 0 < x.capacity) k es w) (length_without k left es lt n) (each_without_at P k es h),
    )

apart_without : (k : ℕ) (es : List InLink) → Apart es → Apart (without_at k es)
apart_without k [] d = tt
apart_without zero (e ∷ es) d = d.1
apart_without (suc k) (e ∷ es) d = (each_without_at (λ (x : InLink). x.link ≢ e.link) k es d.0, apart_without k es d.1)

apart_one : (k : ℕ) (es : List InLink) → k < length es → Apart es → Lacks (get_or es k no_in_link).link (without_at k es)
apart_one k [] lt d = tt
apart_one zero (e ∷ es) lt d = d.0
apart_one (suc k) (e ∷ es) lt d =
    ((λ q. each_get (λ (x : InLink). x.link ≢ e.link) k es d.0 (omega arith) (sym q)), apart_one k es (omega arith) d.1)

order_apart : (t : ℕ) (word : ℕ → ℕ) → AreWords word → (left j : ℕ) (es : List InLink) → AreWeighted es → left ≡ length es → Apart es
    → Apart (order t word left j es)
unfolding order
order_apart t word small zero j es w n d = tt
order_apart t word small (suc left) j es w n d =
    let k = drawn es (word (16 * t + j)) in
    let lt : k < length es = drawn_in es (word (16 * t + j)) (not_nil es left n) w (small (16 * t + j)) in
    let v = each_without_at (λ (x : InLink). 0 < x.capacity) k es w in
    let m = length_without k left es lt n in (
      order_all (λ (x : InLink). x.link ≢ (get_or es k no_in_link).link) t word small left (j + 1) (without_at k es) v m
          (apart_one k es lt d),
      order_apart t word small left (j + 1) (without_at k es) v m (apart_without k es d),
    )

draw_rests : (K : Stuck) (t : ℕ) (word : ℕ → ℕ) → AreWords word → (es : List InLink) (out_links : ℕ → Option OutLink) → AreWeighted es
    → Apart es → Each (RestsAfter K t out_links (draw K t word (length es) 0 es out_links)) es
draw_rests K t word small es out_links w d =
    let o = order t word (length es) 0 es in
    let e = in_order K t word (length es) 0 es out_links in
    subst (λ (ms : List Move). Each (RestsAfter K t out_links ms) es) (sym e)
    (order_has (RestsAfter K t out_links (pass_node_each K t out_links o)) t word small (length es) 0 es w refl
    (each_rests K t out_links o (order_apart t word small (length es) 0 es w refl d)))

-- A NODE
apart_filter : (p : InLink → Bool) (es : List InLink) → Apart es → Apart (filter p es)
apart_filter p [] d = tt
apart_filter p (e ∷ es) d = elim (cases_Bool (p e)) [
  | inl q ↦ simp q
      (each_kept (λ (x : InLink). x.link ≢ e.link) p es d.0, apart_filter p es d.1)
  | inr q ↦ simp q (apart_filter p es d.1)
]

in_links_lack : (S : Setup) (t n l : ℕ) (rows : Buffers) (k count : ℕ) → l < k
    → Lacks l (map (lazy_in_link S t rows) (filter (λ a. eqb (link_row S a).to n) (numbers k count)))
in_links_lack S t n l rows k zero lt = tt
in_links_lack S t n l rows k (suc count) lt =
    let h = in_links_lack S t n l rows (k + 1) count (omega arith) in
    elim (cases_Bool (eqb (link_row S k).to n)) [ inl q ↦ simp q ((λ e. omega arith), h) | inr q ↦ simp q h ]

in_links_apart : (S : Setup) (t n : ℕ) (rows : Buffers) (k count : ℕ)
    → Apart (map (lazy_in_link S t rows) (filter (λ a. eqb (link_row S a).to n) (numbers k count)))
in_links_apart S t n rows k zero = tt
in_links_apart S t n rows k (suc count) =
    let h = in_links_apart S t n rows (k + 1) count in
    elim (cases_Bool (eqb (link_row S k).to n)) [
      | inl q ↦ simp q (in_links_lack S t n k rows (k + 1) count (omega arith), h)
      | inr q ↦ simp q h
    ]

first_candidate : (P : InLink → Type 0) (e : InLink) (es : List InLink) → is_nil e.rows ≡ false → e.green ≡ true
    → Each P (candidates (e ∷ es)) → P e
first_candidate P e es c b h = (simp (c, b) at h).0

-- of what holds of all candidates: it holds of the in-link of a green link with a nonempty buffer
for_one : (P : InLink → Type 0) (S : Setup) (t n l : ℕ) (rows : Buffers) (k count : ℕ) → k ≤ l → l < k + count → eqb (link_row S l).to n
    ≡ true → S.green l t ≡ true → is_nil (catch_up (S.green l) t (rows l)) ≡ false
    → Each P (candidates (map (lazy_in_link S t rows) (filter (λ a. eqb (link_row S a).to n) (numbers k count))))
    → P (lazy_in_link S t rows l)
for_one P S t n l rows k zero low high to g ne h = absurd (omega arith)
for_one P S t n l rows k (suc count) low high to g ne h =
    elim (cases_Bool (eqb k l)) [
      | inl q ↦
          let i = eqb-true k l q in
          let a : eqb (link_row S k).to n ≡ true = ap (λ (x : ℕ). eqb (link_row S x).to n) i ∙ to in
          let b : S.green k t ≡ true = ap (λ (x : ℕ). S.green x t) i ∙ g in
          let c : is_nil (catch_up (S.green k) t (rows k)) ≡ false = ap (λ (x : ℕ). is_nil (catch_up (S.green x) t (rows x))) i ∙ ne in
          let f = simp a at h in
          subst (λ (x : ℕ). P (lazy_in_link S t rows x)) i
          (first_candidate P (lazy_in_link S t rows k) (map (lazy_in_link S t rows)
          (filter (λ a. eqb (link_row S a).to n) (numbers (k + 1) count))) c b f)
      | inr q ↦
          let d : k ≢ l = eqb-false k l q in
          elim (cases_Bool (eqb (link_row S k).to n)) [
            | inl a ↦
                elim (cases_Bool (is_nil (catch_up (S.green k) t (rows k)))) [
                  | inl c ↦ let f = simp (a, c) at h in for_one P S t n l rows (k + 1) count (omega arith) (omega arith) to g ne f
                  | inr c ↦
                      elim (cases_Bool (S.green k t)) [
                        | inl b ↦ let f = simp (a, c, b) at h in for_one P S t n l rows (k + 1) count (omega arith) (omega arith) to g ne
                            f.1
                        | inr b ↦ let f = simp (a, c, b) at h in for_one P S t n l rows (k + 1) count (omega arith) (omega arith) to g ne f
                      ]
                ]
            | inr a ↦ let f = simp a at h in for_one P S t n l rows (k + 1) count (omega arith) (omega arith) to g ne f
          ]
    ]

pub turn_rests : (S : Setup) (t l : ℕ) (rows : Buffers) (V : World) → AreWords (S.word (link_row S l).to)
    → ((a : ℕ) → a < length S.links → 0 < (link_row S a).capacity) → l < length S.links → S.green l t ≡ true
    → is_nil (catch_up (S.green l) t (rows l)) ≡ false
    → can_go S.settings.stuck t (out_links_after (lazy_node_turns S t (link_row S l).to rows V) (out_link S t (link_row S l).to V))
    (at_after_all l Buffer (lazy_node_turns S t (link_row S l).to rows V) (catch_up (S.green l) t (rows l))) ≡ false
unfolding into
turn_rests S t l rows V small cap lt g ne =
    let n = (link_row S l).to in
    let es = (lazy_node_view S t n rows V).in_links in
    let links = candidates es in
    let w = weighted_candidates es (weighted_lazy S t n rows cap 0 (length S.links) (omega arith)) in
    let d = apart_filter (λ (e : InLink). e.green) (ready es)
    (apart_filter (λ (e : InLink). not (is_nil e.rows)) es (in_links_apart S t n rows 0 (length S.links))) in
    let all = draw_rests S.settings.stuck t (S.word n) small links (out_link S t n V) w d in
    for_one (RestsAfter S.settings.stuck t (out_link S t n V) (lazy_node_turns S t n rows V)) S t n l rows 0 (length S.links) (omega arith)
    (omega arith) (eq-eqb n n refl) g ne all

-- THE SAME IN THE WORLD
-- a link out of the node, by the rows of its queue and its holes
abbrev OutLinkOf : Setup → ℕ → ℕ → ℕ → List ℕ → List Row → Option OutLink
OutLinkOf S t n m hs xs = if eqb (link_row S m).from n then Some
    (record { taken = length xs + in_force t (hole_of S m) hs; storage = storage_of S m; seconds = seconds_of S m }) else None

out_link_longer : (S : Setup) (t n m : ℕ) (hs : List ℕ) (xs : List Row) (now : Row) → with_one_more (OutLinkOf S t n m hs xs)
    ≡ OutLinkOf S t n m hs (xs ++ now ∷ [])
out_link_longer S t n m hs xs now =
    let e = length-append xs (now ∷ []) in
    elim (cases_Bool (eqb (link_row S m).from n)) [
      | inl q ↦ rw q (ap (λ (taken : ℕ). Some (record { taken = taken; storage = storage_of S m; seconds = seconds_of S m })) (omega arith))
      | inr q ↦ rw q refl
    ]

-- the out-links follow the queues
abbrev Follows : Setup → ℕ → ℕ → ℕ → List ℕ → (ℕ → Option OutLink) → List Move → Type 0
Follows S t n m hs out_links ms = (xs : List Row) → out_links m ≡ OutLinkOf S t n m hs xs → out_links_after ms out_links m
    ≡ OutLinkOf S t n m hs (at_after_all m Queue ms xs)

transfer_follows : (S : Setup) (t n m : ℕ) (hs : List ℕ) (out_links : ℕ → Option OutLink) (a : ℕ) (was now : Row) (xs : List Row)
    → now.stage ≡ Queue → out_links m ≡ OutLinkOf S t n m hs xs
    → one_more now.link out_links m ≡ OutLinkOf S t n m hs (at_after m Queue (Transfer a Buffer 0 was now) xs)
unfolding one_more
transfer_follows S t n m hs out_links a was now xs s h =
    elim (cases_Bool (eqb m now.link)) [
      | inl q ↦
          let i = eqb-true m now.link q in
          let o : eqb now.link m ≡ true = eq-eqb now.link m (sym i) in
          let e : at_after m Queue (Transfer a Buffer 0 was now) xs ≡ xs ++ now ∷ [] = rw (s, o) refl in
          rw q (ap with_one_more h ∙ out_link_longer S t n m hs xs now ∙ ap (OutLinkOf S t n m hs) (sym e))
      | inr q ↦
          let o : eqb now.link m ≡ false = ne_eqb now.link m (λ i. eqb-false m now.link q (sym i)) in
          let e : at_after m Queue (Transfer a Buffer 0 was now) xs ≡ xs = rw (s, o) (append-nil xs) in
          rw q (h ∙ ap (OutLinkOf S t n m hs) (sym e))
    ]

follows_if : (S : Setup) (t n m : ℕ) (hs : List ℕ) (out_links : ℕ → Option OutLink) (b : Bool) (ms ns : List Move)
    → Follows S t n m hs out_links ms → Follows S t n m hs out_links ns → Follows S t n m hs out_links (if b then ms else ns)
follows_if S t n m hs out_links b ms ns h g = elim b as (λ c. Follows S t n m hs out_links (if c then ms else ns)) [ true ↦ h | false ↦ g ]

pass_node_follows : (S : Setup) (t n m : ℕ) (hs : List ℕ) (K : Stuck) (a : ℕ) (out_links : ℕ
    → Option OutLink) (since : ℕ) (rows : List Row) → Follows S t n m hs out_links (pass_node K t a out_links since rows)
unfolding pass_node
pass_node_follows S t n m hs K a out_links since [] = λ xs h. h
pass_node_follows S t n m hs K a out_links since (r ∷ rs) =
    let x = next_link r.vehicle in
    let was = at_second since r in
    let now = entered t (out_links x) r.vehicle in
    follows_if S t n m hs out_links (may_enter K t since (out_links x)) _ _
    (λ xs h. pass_node_follows S t n m hs K a (one_more x out_links) t rs (at_after m Queue (Transfer a Buffer 0 was now) xs)
    (transfer_follows S t n m hs out_links a was now xs refl h))
    (follows_if S t n m hs out_links (is_stuck K t since) _ _ (λ xs h. pass_node_follows S t n m hs K a out_links t rs xs h) (λ xs h. h))

draw_follows : (S : Setup) (t n m : ℕ) (hs : List ℕ) (K : Stuck) (word : ℕ → ℕ) (left j : ℕ) (es : List InLink) (out_links : ℕ
    → Option OutLink) → Follows S t n m hs out_links (draw K t word left j es out_links)
unfolding draw
draw_follows S t n m hs K word zero j es out_links = λ xs h. h
draw_follows S t n m hs K word (suc left) j es out_links = λ xs h.
    let k = drawn es (word (16 * t + j)) in
    let e = get_or es k no_in_link in
    let moves = pass_node_all K t out_links e in
    let rest = draw K t word left (j + 1) (without_at k es) (out_links_after moves out_links) in
    ap (λ (f : ℕ → Option OutLink). f m) (after_append moves rest out_links)
    ∙ draw_follows S t n m hs K word left (j + 1) (without_at k es) (out_links_after moves out_links) (at_after_all m Queue moves xs)
    (pass_node_follows S t n m hs K e.link out_links (since_of e.rows) e.rows xs h)
    ∙ ap (OutLinkOf S t n m hs) (sym (at_after_all-append m Queue moves rest xs))

no_buffer : Queue ≢ Buffer
no_buffer e = cc

-- the queue of a link after the phase of nodes
queue_after : (S : Setup) (t m : ℕ) (rows : Buffers) (V : World) → (link_row S m).from < S.nodes → AreBehind S t rows V
    → at m Queue (after S t (turns_in S t phase.C V) V) ≡ at_after_all m Queue (lazy_node_turns S t (link_row S m).from rows V)
    (at m Queue V)
unfolding turns_in turns_of
queue_after S t m rows V lt h =
    let n = (link_row S m).from in
    let marks = map (mark t) (red (node_view S t n V).in_links) in
    let moves = lazy_node_turns S t n rows V in
    at-phase_one S t (node_turns S t) (nodes_apart S t) n S.nodes m Queue V lt
    (λ x q. node_untouched S t x m Queue V (ne_eqb n x (λ i. eqb-false x n q (sym i))))
    ∙ ap (λ (ms : List Move). at_after_all m Queue ms (at m Queue V)) (node_behind S t n rows V h)
    ∙ at_after_all-append m Queue marks moves (at m Queue V)
    ∙ ap (at_after_all m Queue moves) (at_after_all-untouched m Queue marks (at m Queue V)
    (marks_touch_buffers t m Queue (red (node_view S t n V).in_links) marks no_buffer refl))

out_link_one : (S : Setup) (t n m : ℕ) (rows : Buffers) (V : World) → n < S.nodes → AreBehind S t rows V
    → out_link S t n (after S t (turns_in S t phase.C V) V) m ≡ out_links_after (lazy_node_turns S t n rows V) (out_link S t n V) m
out_link_one S t n m rows V lt h =
    let U = after S t (turns_in S t phase.C V) V in
    let links = candidates (lazy_node_view S t n rows V).in_links in
    let f = draw_follows S t n m (holes_at m V) S.settings.stuck (S.word n) (length links) 0 links (out_link S t n V) (at m Queue V) refl in
    let hs : holes_at m U ≡ holes_at m V = nodes_holes S t m V in
    elim (cases_Bool (eqb (link_row S m).from n)) [
      | inl q ↦
          let i = eqb-true (link_row S m).from n q in
          let e : at m Queue U ≡ at_after_all m Queue (lazy_node_turns S t n rows V) (at m Queue V) =
          queue_after S t m rows V (omega arith) h ∙ ap (λ (x : ℕ). at_after_all m Queue (lazy_node_turns S t x rows V) (at m Queue V)) i in
          ap (λ (xs : List Row). OutLinkOf S t n m (holes_at m U) xs) e
          ∙ ap (λ (ys : List ℕ). OutLinkOf S t n m ys (at_after_all m Queue (lazy_node_turns S t n rows V) (at m Queue V))) hs ∙ sym f
      | inr q ↦
          let a : OutLinkOf S t n m (holes_at m U) (at m Queue U) ≡ None = rw q refl in
          let b : OutLinkOf S t n m (holes_at m V) (at_after_all m Queue (lazy_node_turns S t n rows V) (at m Queue V))
          ≡ None = rw q refl in
          a ∙ sym b ∙ sym f
    ]

pub out_links_are : (S : Setup) (t n : ℕ) (rows : Buffers) (V : World) → n < S.nodes → AreBehind S t rows V
    → out_links_after (lazy_node_turns S t n rows V) (out_link S t n V) ≡ out_link S t n (after S t (turns_in S t phase.C V) V)
out_links_are S t n rows V lt h = fun_ext (λ m. sym (out_link_one S t n m rows V lt h))

-- what the moves make of the front as it would be marked
caught_after : (S : Setup) (t n l : ℕ) (rows : Buffers) (V : World) → l < length S.links → AreBehind S t rows V
    → at_after_all l Buffer (lazy_node_turns S t n rows V) (catch_up (S.green l) t (rows l))
    ≡ catch_up (S.green l) t (at_after_all l Buffer (lazy_node_turns S t n rows V) (rows l))
caught_after S t n l rows V lt h =
    let links = candidates (lazy_node_view S t n rows V).in_links in
    (draw_keeps (S.green l) S.settings.stuck t l (S.word n) (length links) 0 links (out_link S t n V) (rows l)
    (catch_up (S.green l) t (rows l)) (record { marks = refl; before = (h l lt).before })).marks

nil_caught : (green : ℕ → Bool) (t : ℕ) (xs : List Row) → xs ≢ [] → is_nil (catch_up green t xs) ≡ false
nil_caught green t [] ne = absurd (ne refl)
nil_caught green t (x ∷ xs) ne = refl

pub node_settles : (S : Setup) (t l : ℕ) (rows : Buffers) (V : World) → AreWords (S.word (link_row S l).to)
    → ((a : ℕ) → a < length S.links → 0 < (link_row S a).capacity) → l < length S.links → (link_row S l).to < S.nodes
    → AreBehind S t rows V → S.green l t ≡ true → rows l ≢ []
    → can_go S.settings.stuck t (out_link S t (link_row S l).to (after S t (turns_in S t phase.C V) V))
    (catch_up (S.green l) t (buffers_after S t rows V l)) ≡ false
node_settles S t l rows V small cap lt to h g ne =
    let n = (link_row S l).to in
    let a = turn_rests S t l rows V small cap lt g (nil_caught (S.green l) t (rows l) ne) in
    let e = out_links_are S t n rows V to h in
    let f = caught_after S t n l rows V lt h in
    subst (λ (out_links : ℕ → Option OutLink). can_go S.settings.stuck t out_links (catch_up (S.green l) t (buffers_after S t rows V l))
    ≡ false) e
    (subst (λ (xs : List Row). can_go S.settings.stuck t (out_links_after (lazy_node_turns S t n rows V) (out_link S t n V)) xs
    ≡ false) f a)
