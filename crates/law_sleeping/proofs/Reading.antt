-- Which words a node's turn reads, and its laws as they stand.
use Rattle.std.proofs.Common.{Bool, ◌≢◌, subst, ◌≡◌, ℕ, zero, suc, ◌+◌, ◌*◌, ◌<◌, ◌≤◌, true, false, List, [], ◌∷◌, ◌++◌, length, get_or, refl, ap, sym, ◌∙◌}
use Rattle.std.proofs.{Common.eqb, Common.arith, Common.inl, Common.inr, lemmas.Bool.cases_eq, lemmas.Bool.cases_Bool, lemmas.Bool.and_right}
use Rattle.std.specs.{List.AllByRecursion as Each, Prelude.map, Prelude.filter, Prelude.not, Prelude.Option}
use Rattle.traffic.{proofs.Each.each_kept, specs.Lists.is_nil, specs.Lists.without_at, specs.Lists.numbers}
use Rattle.traffic.specs.Nodes.{draw, NodeView, in_link, out_link, node_view, out_links_after, pass_node_all, drawn, no_in_link, ready, red, candidates, mark}
use Rattle.traffic.specs.{Nodes.node_moves, Rows.World, Setup.Setup, Setup.link_row, Setup.into}
use Rattle.traffic.specs.declared.{moves.Move.Move, node_views.InLink.InLink, node_views.OutLink.OutLink, world.Row.Row}
use Rattle.rows.specs.declared.settings.Stuck.{Stuck}
use Rattle.law_sleeping.proofs.Passing.{draw_none, pass_node_all_none, can_go_before, one_left, lazily}
use Rattle.law_sleeping.specs.Able.{can_go, can_pass_node, is_able, AreWeighted, AreWords, Choice, HasAble, able_now, able_before, by_chosen, draw_lazily}
use Rattle.law_sleeping.specs.{Able.count_chosen, Able.words_read, Marks.Buffers, Marks.lazy_in_link, Marks.lazy_node_view, Marks.lazy_node_turns}

-- the two choices have all who can
pub now_has : (K : Stuck) (t : ℕ) (out_links : ℕ → Option OutLink) → HasAble K t (able_now K t) out_links
now_has K t out_links = λ later f e h. h

pub before_has : (K : Stuck) (t : ℕ) (out_links : ℕ → Option OutLink) → HasAble K t (able_before K t out_links) out_links
before_has K t out_links = λ later f e h. can_go_before K t later out_links f e.rows h

nil_cannot : (K : Stuck) (t : ℕ) (out_links : ℕ → Option OutLink) (rows : List Row) → is_nil rows ≡ true → can_go K t out_links rows ≡ false
nil_cannot K t out_links [] e = refl
nil_cannot K t out_links (r ∷ rs) e = absurd (cc)

-- those who can among the candidates are the able ones
able_candidates : (K : Stuck) (t : ℕ) (out_links : ℕ → Option OutLink) (es : List InLink)
    → filter (can_pass_node K t out_links) (candidates es) ≡ filter (is_able K t out_links) es
able_candidates K t out_links [] = refl
able_candidates K t out_links (e ∷ es) =
    let r = able_candidates K t out_links es in
    elim (cases_Bool (is_nil e.rows)) [
      | inl n ↦
          let c = nil_cannot K t out_links e.rows n in
          let a : is_able K t out_links e ≡ false = and_right e.green (can_pass_node K t out_links e) c in
          simp (n, a) r
      | inr n ↦
          elim (cases_Bool e.green) [
            | inl g ↦ elim (cases_Bool (can_pass_node K t out_links e)) [
              | inl c ↦ simp (n, g, c) (ap (λ (xs : List InLink). e ∷ xs) r)
              | inr c ↦ simp (n, g, c) r
            ]
            | inr g ↦ simp (n, g) r
          ]
    ]

pub weighted_candidates : (es : List InLink) → AreWeighted es → AreWeighted (candidates es)
weighted_candidates es w = each_kept (λ (e : InLink). 0 < e.capacity) (λ (e : InLink). e.green) (ready es)
    (each_kept (λ (e : InLink). 0 < e.capacity) (λ (e : InLink). not (is_nil e.rows)) es w)

-- one is able
pub node_one : (K : Stuck) (t : ℕ) (word : ℕ → ℕ) (see : NodeView) (e : InLink) → AreWords word → AreWeighted see.in_links
    → filter (is_able K t see.out_links) see.in_links ≡ e ∷ []
    → node_moves K t word see ≡ map (mark t) (red see.in_links) ++ pass_node_all K t see.out_links e
unfolding node_moves
node_one K t word see e small w h =
    let links = candidates see.in_links in
    let f = able_candidates K t see.out_links see.in_links ∙ h in
    ap (λ (ms : List Move). map (mark t) (red see.in_links) ++ ms)
    (one_left K t word small (can_pass_node K t see.out_links) (length links) 0 e links see.out_links (λ x q. q)
    (weighted_candidates see.in_links w) refl f)

-- the lazy drawing
pub node_lazily : (p : Choice) (K : Stuck) (t : ℕ) (word : ℕ → ℕ) (see : NodeView) → AreWords word → AreWeighted see.in_links
    → HasAble K t p see.out_links
    → node_moves K t word see ≡ map (mark t) (red see.in_links) ++ draw_lazily p K t word (length (candidates see.in_links)) 0
    (candidates see.in_links) see.out_links
unfolding node_moves
node_lazily p K t word see small w a =
    let links = candidates see.in_links in
    ap (λ (ms : List Move). map (mark t) (red see.in_links) ++ ms)
    (lazily K t word small p (length links) 0 links see.out_links a (weighted_candidates see.in_links w) refl)

-- the lazy drawing where red marks were left out
pub weighted_lazy : (S : Setup) (t n : ℕ) (rows : Buffers) → ((l : ℕ) → l < length S.links → 0 < (link_row S l).capacity) → (k count : ℕ)
    → k + count ≤ length S.links
    → AreWeighted (map (lazy_in_link S t rows) (filter (λ (a : ℕ). eqb (link_row S a).to n) (numbers k count)))
weighted_lazy S t n rows h k zero le = tt
weighted_lazy S t n rows h k (suc count) le =
    let r = weighted_lazy S t n rows h (k + 1) count (omega arith) in
    elim (cases_Bool (eqb (link_row S k).to n)) [ inl q ↦ simp q (h k (omega arith), r) | inr q ↦ simp q r ]

pub green_lazily : (S : Setup) (t n : ℕ) (p : Choice) (rows : Buffers) (V : World) → AreWords (S.word n)
    → ((l : ℕ) → l < length S.links → 0 < (link_row S l).capacity) → HasAble S.settings.stuck t p (out_link S t n V)
    → lazy_node_turns S t n rows V ≡ draw_lazily p S.settings.stuck t (S.word n)
    (length (candidates (lazy_node_view S t n rows V).in_links)) 0 (candidates (lazy_node_view S t n rows V).in_links) (out_link S t n V)
unfolding into
green_lazily S t n p rows V small h a =
    let es = (lazy_node_view S t n rows V).in_links in
    lazily S.settings.stuck t (S.word n) small p (length (candidates es)) 0 (candidates es) (out_link S t n V) a
    (weighted_candidates es (weighted_lazy S t n rows h 0 (length S.links) (omega arith))) refl

-- WORDS THAT ARE NOT READ DO NOT MATTER
chosen_same : (alone : InLink → List Move) (more other : List Move) (n : ℕ) (chosen : List InLink)
    → (count_chosen (suc n) chosen ≡ suc n → more ≡ other) → by_chosen alone more chosen ≡ by_chosen alone other chosen
chosen_same alone more other n [] h = refl
chosen_same alone more other n (e ∷ []) h = refl
chosen_same alone more other n (e ∷ f ∷ es) h = h refl

pub draw_reads : (p : Choice) (K : Stuck) (t : ℕ) (u v : ℕ → ℕ) (left j : ℕ) (es : List InLink) (out_links : ℕ → Option OutLink)
    → ((i : ℕ) → j ≤ i → i < j + words_read p K t u left j es out_links → u (16 * t + i) ≡ v (16 * t + i))
    → draw_lazily p K t u left j es out_links ≡ draw_lazily p K t v left j es out_links
unfolding draw_lazily words_read
draw_reads p K t u v zero j es out_links h = refl
draw_reads p K t u v (suc left) j es out_links h =
    let k = drawn es (u (16 * t + j)) in
    let moves = pass_node_all K t out_links (get_or es k no_in_link) in
    let n = words_read p K t u left (j + 1) (without_at k es) (out_links_after moves out_links) in
    chosen_same (pass_node_all K t out_links) _ _ n (filter (p out_links) es)
    (λ q.
    let same : u (16 * t + j) ≡ v (16 * t + j) = h j (omega arith) (rw q (omega arith)) in
    let r = draw_reads p K t u v left (j + 1) (without_at k es) (out_links_after moves out_links)
    (λ i a b. h i (omega arith) (rw q (omega arith))) in
    ap (λ (ms : List Move). moves ++ ms) r ∙ ap (λ (w : ℕ).
    let k = drawn es w in
    let moves = pass_node_all K t out_links (get_or es k no_in_link) in
    moves ++ draw_lazily p K t v left (j + 1) (without_at k es) (out_links_after moves out_links)) same)

pub node_reads : (p : Choice) (K : Stuck) (t : ℕ) (u v : ℕ → ℕ) (see : NodeView) → AreWords u → AreWords v → AreWeighted see.in_links
    → HasAble K t p see.out_links
    → ((i : ℕ) → i < words_read p K t u (length (candidates see.in_links)) 0 (candidates see.in_links) see.out_links → u (16 * t + i)
    ≡ v (16 * t + i))
    → node_moves K t u see ≡ node_moves K t v see
node_reads p K t u v see a b w has h =
    let links = candidates see.in_links in
    node_lazily p K t u see a w has
    ∙ ap (λ (ms : List Move). map (mark t) (red see.in_links) ++ ms)
    (draw_reads p K t u v (length links) 0 links see.out_links (λ i low high. h i (omega arith)))
    ∙ sym (node_lazily p K t v see b w has)

-- links with a capacity make in-links with a weight
weighted_from : (S : Setup) (t n : ℕ) (W : World) → ((l : ℕ) → l < length S.links → 0 < (link_row S l).capacity) → (k count : ℕ)
    → k + count ≤ length S.links
    → AreWeighted (map (in_link S t W) (filter (λ (a : ℕ). eqb (link_row S a).to n) (numbers k count)))
weighted_from S t n W h k zero le = tt
weighted_from S t n W h k (suc count) le =
    let r = weighted_from S t n W h (k + 1) count (omega arith) in
    elim (cases_Bool (eqb (link_row S k).to n)) [ inl q ↦ simp q (h k (omega arith), r) | inr q ↦ simp q r ]

pub node_view_weighted : (S : Setup) (t n : ℕ) (W : World) → ((l : ℕ) → l < length S.links → 0 < (link_row S l).capacity)
    → AreWeighted (node_view S t n W).in_links
unfolding into
node_view_weighted S t n W h = weighted_from S t n W h 0 (length S.links) (omega arith)

-- ENDING A DRAWING EARLY
-- as a loop that draws may use it: none is left who can, or only the one at place k
pub none_left : (K : Stuck) (t : ℕ) (word : ℕ → ℕ) (left j : ℕ) (es : List InLink) (out_links : ℕ → Option OutLink)
    → Each (λ (e : InLink). can_pass_node K t out_links e ≡ false) es → draw K t word left j es out_links ≡ []
none_left K t word left j es out_links h = draw_none K t word left j es out_links h

filter_nobody : (p : InLink → Bool) (es : List InLink) → ((i : ℕ) → i < length es → p (get_or es i no_in_link) ≡ false) → filter p es ≡ []
filter_nobody p [] h = refl
filter_nobody p (e ∷ es) h = let q : p e ≡ false = h 0 (omega arith) in simp q (filter_nobody p es (λ i lt. h (suc i) (omega arith)))

filter_only : (p : InLink → Bool) (k : ℕ) (es : List InLink) → k < length es
    → ((i : ℕ) → i < length es → i ≢ k → p (get_or es i no_in_link) ≡ false) → p (get_or es k no_in_link) ≡ true → filter p es
    ≡ get_or es k no_in_link ∷ []
filter_only p k [] lt h e = absurd (omega arith)
filter_only p zero (x ∷ es) lt h e =
    let q : p x ≡ true = e in
    let r = filter_nobody p es (λ i below. h (suc i) (omega arith) (λ z. omega arith)) in
    simp q (ap (λ (ys : List InLink). x ∷ ys) r)
filter_only p (suc k) (x ∷ es) lt h e =
    let q : p x ≡ false = h 0 (omega arith) (λ z. omega arith) in
    simp q (filter_only p k es (omega arith) (λ i below ne. h (suc i) (omega arith) (λ z. ne (omega arith))) e)

cannot_all : (p : InLink → Bool) (k : ℕ) (es : List InLink) → ((i : ℕ) → i < length es → i ≢ k → p (get_or es i no_in_link) ≡ false)
    → p (get_or es k no_in_link) ≡ false → (i : ℕ) → i < length es → p (get_or es i no_in_link) ≡ false
cannot_all p k es h e i lt = elim (cases_eq i k) [
  | inl q ↦ subst (λ (x : ℕ). p (get_or es x no_in_link) ≡ false) (sym q) e
  | inr q ↦ h i lt q
]

each_at : (P : InLink → Type 0) (es : List InLink) → ((i : ℕ) → i < length es → P (get_or es i no_in_link)) → Each P es
each_at P [] h = tt
each_at P (e ∷ es) h = (h 0 (omega arith), each_at P es (λ i lt. h (suc i) (omega arith)))

pub only_left : (K : Stuck) (t : ℕ) (word : ℕ → ℕ) (left j k : ℕ) (es : List InLink) (out_links : ℕ → Option OutLink) → AreWords word
    → AreWeighted es → left ≡ length es → k < length es
    → ((i : ℕ) → i < length es → i ≢ k → can_pass_node K t out_links (get_or es i no_in_link) ≡ false) → draw K t word left j es out_links
    ≡ pass_node_all K t out_links (get_or es k no_in_link)
only_left K t word left j k es out_links small w n lt h =
    elim (cases_Bool (can_pass_node K t out_links (get_or es k no_in_link))) [
      | inl q ↦ one_left K t word small (can_pass_node K t out_links) left j (get_or es k no_in_link) es out_links (λ x z. z) w n
          (filter_only (can_pass_node K t out_links) k es lt h q)
      | inr q ↦
          draw_none K t word left j es out_links (each_at (λ (e : InLink). can_pass_node K t out_links e
          ≡ false) es (cannot_all (can_pass_node K t out_links) k es h q))
          ∙ sym (pass_node_all_none K t out_links (get_or es k no_in_link) q)
    ]
