-- The drawing: marks, candidates, weights, and one pick after the other.
use Rattle.std.proofs.Common.{◌≡◌, ◌≢◌, ℕ, zero, suc, ◌+◌, ◌*◌, ◌<◌, ◌≤◌, Bool, true, false, List, [], ◌∷◌, ◌++◌, length, get_or, refl, ap, sym, ◌∙◌, subst}
use Rattle.std.proofs.{Common.arith, Common.take, Common.drop, Common.add-one, Common.append-nil, Common.inl, Common.inr, Math.Seq.take-suc}
use Rattle.std.proofs.lemmas.{Bool.cases_Bool, Bool.ne_eqb, Bool.eq-eqb, List.map-append, List.take-append-drop, List.Elements.filter-append}
use Rattle.std.{proofs.lemmas.List.Sums.sum_by-cons, specs.List.flat_map, specs.List.AllByRecursion as Each}
use Rattle.std.specs.Prelude.{map, filter, not, ◌&&◌, set, sum, Option, Some, None, if◌then◌else◌}
use Rattle.limits.specs.declared.TheConstants.{MAX_CAPACITY}
use Rattle.draws.{proofs.Ranges.word_fits, specs.Choices.pick, specs.Words.Source, specs.Words.word}
use Rattle.rows.specs.declared.settings.Stuck.{Stuck}
use Rattle.traffic.{proofs.Each.each_without_at, specs.Lists.is_nil, specs.Lists.without_at, specs.Lists.on_front}
use Rattle.traffic.specs.Moves.{told, at_second, at_after, at_after_all}
use Rattle.traffic.specs.Nodes.{pass_node_all, out_links_after, no_in_link, drawn, draw, ready, red, candidates, mark, node_moves, weight_of}
use Rattle.traffic.specs.{Vehicles.VehicleState, declared.moves.Move.Move, declared.moves.Move.TheVariants.SetFrontSince, declared.moves.Occurrence.Occurrence}
use Rattle.traffic.specs.declared.{node_views.InLink.InLink, node_views.OutLink.OutLink, stage.Stage.TheVariants.Buffer, world.Row.Row}
use Rattle.law_sleeping.proofs.{Passing.lazily, Reading.now_has}
use Rattle.law_sleeping.specs.Able.{can_go, able_now, by_chosen, draw_lazily, AreWeighted}
use Rattle.queue_link.specs.Links.{LinkView}
use Rattle.node_move.proofs.{Fronts.next_behind, Places.seen_at, Places.seen_rest, Places.length_seen, Places.is_at, Places.length_without, Runs.with_buffer}
use Rattle.node_move.{proofs.Runs.same_state, proofs.Runs.run_none, proofs.Runs.run_both, specs.Choices.by_able}
use Rattle.node_move.specs.NodeStates.{NodeState, node_state, node_run, buffer_after, entering_by, removed_by, in_link_of, in_links_of, after_turn, seen}
use Rattle.node_move.specs.NodeStates.{no_link, marked, all_marked, HaveWeights, AreReady, IsNone, AreApart, IsNotIn, ArePlaces}
use Rattle.node_move.specs.declared.candidates.Able.{Able, TheVariants.Nobody, TheVariants.Only, TheVariants.Several}
use Rattle.node_move.specs.declared.crossings.Entering.{Entering}

-- THE MARKS
pub no_greens : (t : ℕ) (vs : List LinkView) → all_marked t vs [] ≡ vs
no_greens t [] = refl
no_greens t (v ∷ vs) = refl

marks_suc : (t : ℕ) (vs : List LinkView) (greens : List Bool) (k : ℕ) (d : Bool) (e : LinkView) → k < length greens → length greens ≡ length vs → get_or greens k d ≡ false
    → set (all_marked t vs (take k greens)) k (marked t (get_or (all_marked t vs (take k greens)) k e)) ≡ all_marked t vs (take (suc k) greens)
marks_suc t vs [] k d e lt n f = absurd (omega arith)
marks_suc t [] (g ∷ gs) k d e lt n f = absurd (omega arith)
marks_suc t (v ∷ vs) (g ∷ gs) zero d e lt n f = rw f (ap (λ (us : List LinkView). marked t v ∷ us) (sym (no_greens t vs)))
marks_suc t (v ∷ vs) (g ∷ gs) (suc k) d e lt n f =
    ap (λ (us : List LinkView). (if g then v else marked t v) ∷ us) (marks_suc t vs gs k d e (omega arith) (omega arith) f)

skips_suc : (t : ℕ) (vs : List LinkView) (greens : List Bool) (k : ℕ) (d : Bool) → k < length greens → length greens ≡ length vs → get_or greens k d ≡ true
    → all_marked t vs (take k greens) ≡ all_marked t vs (take (suc k) greens)
skips_suc t vs [] k d lt n f = absurd (omega arith)
skips_suc t [] (g ∷ gs) k d lt n f = absurd (omega arith)
skips_suc t (v ∷ vs) (g ∷ gs) zero d lt n f = rw f (ap (λ (us : List LinkView). v ∷ us) (sym (no_greens t vs)))
skips_suc t (v ∷ vs) (g ∷ gs) (suc k) d lt n f =
    ap (λ (us : List LinkView). (if g then v else marked t v) ∷ us) (skips_suc t vs gs k d (omega arith) (omega arith) f)

pub marks_next : (t : ℕ) (vs us : List LinkView) (greens : List Bool) (k : ℕ) (d : Bool) (e w : LinkView) → k < length greens → length greens ≡ length vs
    → get_or greens k d ≡ false → us ≡ all_marked t vs (take k greens) → w ≡ marked t (get_or us k e)
    → set us k w ≡ all_marked t vs (take (k + 1) greens)
marks_next t vs us greens k d e w lt n f a b =
    ap (set us k) b ∙ ap (λ (xs : List LinkView). set xs k (marked t (get_or xs k e))) a
    ∙ marks_suc t vs greens k d e lt n f ∙ ap (λ (m : ℕ). all_marked t vs (take m greens)) (sym (add-one k))

pub skips_next : (t : ℕ) (vs us : List LinkView) (greens : List Bool) (k : ℕ) (d : Bool) → k < length greens → length greens ≡ length vs
    → get_or greens k d ≡ true → us ≡ all_marked t vs (take k greens) → us ≡ all_marked t vs (take (k + 1) greens)
skips_next t vs us greens k d lt n f a =
    a ∙ skips_suc t vs greens k d lt n f ∙ ap (λ (m : ℕ). all_marked t vs (take m greens)) (sym (add-one k))

-- the moves of the marks
abbrev marks : ℕ → List LinkView → List Bool → List Move
marks t vs greens = map (mark t) (red (in_links_of vs greens))

one_marked : (l t a : ℕ) → a ≢ l → (xs : List Row) → at_after l Buffer (SetFrontSince a t) xs ≡ xs
one_marked l t a ne xs = let e = ne_eqb a l ne in rw e refl

marks_if : (t : ℕ) (v : LinkView) (green : Bool) (es : List InLink)
    → red (in_link_of v green ∷ es) ≡ (if not (is_nil v.lists.buffer) && not green then in_link_of v green ∷ red es else red es)
marks_if t v green es = by_rows (not (is_nil v.lists.buffer)) green refl
  where
    by_rows : (b g : Bool) → not (is_nil v.lists.buffer) ≡ b
        → red (in_link_of v g ∷ es) ≡ (if not (is_nil v.lists.buffer) && not g then in_link_of v g ∷ red es else red es)
    by_rows true true e = rw e refl
    by_rows true false e = rw e refl
    by_rows false g e = rw e refl

marks_spare : (t l : ℕ) (vs : List LinkView) (greens : List Bool) → IsNone l vs → (xs : List Row) → at_after_all l Buffer (marks t vs greens) xs ≡ xs
marks_spare t l [] greens h xs = refl
marks_spare t l (v ∷ vs) [] h xs = refl
marks_spare t l (v ∷ vs) (g ∷ gs) h xs =
    elim (cases_Bool (not (is_nil v.lists.buffer) && not g)) [
      | inl e ↦
          let f : red (in_links_of (v ∷ vs) (g ∷ gs)) ≡ in_link_of v g ∷ red (in_links_of vs gs) = marks_if t v g (in_links_of vs gs) ∙ rw e refl in
          ap (λ (es : List InLink). at_after_all l Buffer (map (mark t) es) xs) f
          ∙ ap (at_after_all l Buffer (marks t vs gs)) (one_marked l t v.numbers.link h.0 xs) ∙ marks_spare t l vs gs h.1 xs
      | inr e ↦
          let f : red (in_links_of (v ∷ vs) (g ∷ gs)) ≡ red (in_links_of vs gs) = marks_if t v g (in_links_of vs gs) ∙ rw e refl in
          ap (λ (es : List InLink). at_after_all l Buffer (map (mark t) es) xs) f ∙ marks_spare t l vs gs h.1 xs
    ]

others_marked : (t a : ℕ) (ms : List Move) (vs : List LinkView) → IsNone a vs → map (buffer_after (SetFrontSince a t ∷ ms)) vs ≡ map (buffer_after ms) vs
others_marked t a ms [] h = refl
others_marked t a ms (v ∷ vs) h =
    ap (λ (xs : List Row). with_buffer v (at_after_all v.numbers.link Buffer ms xs) ∷ map (buffer_after (SetFrontSince a t ∷ ms)) vs)
    (one_marked v.numbers.link t a (λ q. h.0 (sym q)) v.lists.buffer)
    ∙ ap (λ (us : List LinkView). buffer_after ms v ∷ us) (others_marked t a ms vs h.1)

own_marked : (l t : ℕ) (xs : List Row) → at_after l Buffer (SetFrontSince l t) xs ≡ on_front (at_second t) xs
own_marked l t xs = let e = eq-eqb l l refl in rw e refl

nil_marked : (t : ℕ) (xs : List Row) → not (is_nil xs) ≡ false → on_front (at_second t) xs ≡ xs
nil_marked t [] e = refl
nil_marked t (x ∷ xs) e = absurd (cc)

unmarked : (t : ℕ) (v : LinkView) (g : Bool) → (not (is_nil v.lists.buffer) && not g) ≡ false → v ≡ (if g then v else marked t v)
unmarked t v true e = refl
unmarked t v false e =
    elim (cases_Bool (not (is_nil v.lists.buffer))) [
      | inl q ↦ absurd (let f : (true && not false) ≡ false = rw q at e in cc)
      | inr q ↦ ap (with_buffer v) (sym (nil_marked t v.lists.buffer q))
    ]

is_red : (b g : Bool) → (b && not g) ≡ true → g ≡ false
is_red b false e = refl
is_red true true e = absurd (cc)
is_red false true e = absurd (cc)

marks_in_links : (t : ℕ) (vs : List LinkView) (greens : List Bool) → AreApart vs → length greens ≡ length vs
    → map (buffer_after (marks t vs greens)) vs ≡ all_marked t vs greens
marks_in_links t [] greens h n = refl
marks_in_links t (v ∷ vs) [] h n = absurd (omega arith)
marks_in_links t (v ∷ vs) (g ∷ gs) h n =
    let l = v.numbers.link in
    let ms = marks t vs gs in
    let i = marks_in_links t vs gs h.1 (omega arith) in
    elim (cases_Bool (not (is_nil v.lists.buffer) && not g)) [
      | inl e ↦
          let f : red (in_links_of (v ∷ vs) (g ∷ gs)) ≡ in_link_of v g ∷ red (in_links_of vs gs) = marks_if t v g (in_links_of vs gs) ∙ rw e refl in
          let r : g ≡ false = is_red (not (is_nil v.lists.buffer)) g e in
          let a : at_after_all l Buffer (SetFrontSince l t ∷ ms) v.lists.buffer ≡ on_front (at_second t) v.lists.buffer
          = ap (at_after_all l Buffer ms) (own_marked l t v.lists.buffer) ∙ marks_spare t l vs gs h.0 (on_front (at_second t) v.lists.buffer) in
          ap (λ (es : List InLink). map (buffer_after (map (mark t) es)) (v ∷ vs)) f
          ∙ ap (λ (xs : List Row). with_buffer v xs ∷ map (buffer_after (SetFrontSince l t ∷ ms)) vs) a
          ∙ ap (λ (us : List LinkView). marked t v ∷ us) (others_marked t l ms vs h.0 ∙ i)
          ∙ ap (λ (b : Bool). (if b then v else marked t v) ∷ all_marked t vs gs) (sym r)
      | inr e ↦
          let f : red (in_links_of (v ∷ vs) (g ∷ gs)) ≡ red (in_links_of vs gs) = marks_if t v g (in_links_of vs gs) ∙ rw e refl in
          ap (λ (es : List InLink). map (buffer_after (map (mark t) es)) (v ∷ vs)) f
          ∙ ap (λ (xs : List Row). with_buffer v xs ∷ map (buffer_after ms) vs) (marks_spare t l vs gs h.0 v.lists.buffer)
          ∙ ap (λ (us : List LinkView). v ∷ us) i
          ∙ ap (λ (u : LinkView). u ∷ all_marked t vs gs) (unmarked t v g e)
    ]

nothing_by : {X : Type 0} (f : Move → List X) (t : ℕ) → ((l : ℕ) → f (SetFrontSince l t) ≡ []) → (es : List InLink) → flat_map f (map (mark t) es) ≡ []
nothing_by f t h [] = refl
nothing_by f t h (e ∷ es) = ap (λ xs. xs ++ flat_map f (map (mark t) es)) (h e.link) ∙ nothing_by f t h es

marks_out_links : (t : ℕ) (es : List InLink) (P : ℕ → Option OutLink) → out_links_after (map (mark t) es) P ≡ P
marks_out_links t [] P = refl
marks_out_links t (e ∷ es) P = marks_out_links t es P

more_of_none : {X : Type 0} (xs ys : List X) → ys ≡ [] → xs ++ ys ≡ xs
more_of_none xs ys e = ap (λ zs. xs ++ zs) e ∙ append-nil xs

pub marks_run : (t : ℕ) (vs : List LinkView) (greens : List Bool) (P : ℕ → Option OutLink) (es : List Entering) (gone : List VehicleState) (said : List Occurrence)
    → AreApart vs → length greens ≡ length vs
    → node_run (map (mark t) (red (in_links_of vs greens))) (node_state vs P es gone said) ≡ node_state (all_marked t vs greens) P es gone said
marks_run t vs greens P es gone said h n =
    let reds = red (in_links_of vs greens) in
    same_state _ _ _ _ _ _ _ _ _ _ (marks_in_links t vs greens h n) (marks_out_links t reds P)
    (more_of_none es _ (nothing_by entering_by t (λ l. refl) reds)) (more_of_none gone _ (nothing_by removed_by t (λ l. refl) reds))
    (more_of_none said _ (nothing_by told t (λ l. refl) reds))

pub marks_ready : (t : ℕ) (vs : List LinkView) (greens : List Bool) → AreReady vs → AreReady (all_marked t vs greens)
marks_ready t [] greens h = tt
marks_ready t (v ∷ vs) [] h = h
marks_ready t (v ∷ vs) (true ∷ gs) h = (h.0, marks_ready t vs gs h.1)
marks_ready t (v ∷ vs) (false ∷ gs) h = (next_behind t v.lists.buffer h.0, marks_ready t vs gs h.1)

none_marked : (l t : ℕ) (vs : List LinkView) (greens : List Bool) → IsNone l vs → IsNone l (all_marked t vs greens)
none_marked l t [] greens h = tt
none_marked l t (v ∷ vs) [] h = h
none_marked l t (v ∷ vs) (true ∷ gs) h = (h.0, none_marked l t vs gs h.1)
none_marked l t (v ∷ vs) (false ∷ gs) h = (h.0, none_marked l t vs gs h.1)

pub marks_apart : (t : ℕ) (vs : List LinkView) (greens : List Bool) → AreApart vs → AreApart (all_marked t vs greens)
marks_apart t [] greens h = tt
marks_apart t (v ∷ vs) [] h = h
marks_apart t (v ∷ vs) (true ∷ gs) h = (none_marked v.numbers.link t vs gs h.0, marks_apart t vs gs h.1)
marks_apart t (v ∷ vs) (false ∷ gs) h = (none_marked v.numbers.link t vs gs h.0, marks_apart t vs gs h.1)

-- THE CANDIDATES
red_out : (v : LinkView) (es : List InLink) → candidates (in_link_of v false ∷ es) ≡ candidates es
red_out v es = elim (cases_Bool (not (is_nil v.lists.buffer))) [ inl e ↦ rw e refl | inr e ↦ rw e refl ]

pub marks_candidates : (t : ℕ) (vs : List LinkView) (greens : List Bool)
    → candidates (in_links_of (all_marked t vs greens) greens) ≡ candidates (in_links_of vs greens)
marks_candidates t [] greens = refl
marks_candidates t (v ∷ vs) [] = refl
marks_candidates t (v ∷ vs) (true ∷ gs) =
    elim (cases_Bool (not (is_nil v.lists.buffer))) [
      | inl e ↦ rw e (ap (λ (es : List InLink). in_link_of v true ∷ es) (marks_candidates t vs gs))
      | inr e ↦ rw e (marks_candidates t vs gs)
    ]
marks_candidates t (v ∷ vs) (false ∷ gs) =
    red_out (marked t v) (in_links_of (all_marked t vs gs) gs) ∙ marks_candidates t vs gs ∙ sym (red_out v (in_links_of vs gs))

take_past : (es : List InLink) (k : ℕ) → length es ≤ k → take k es ≡ es
take_past [] zero le = refl
take_past [] (suc k) le = refl
take_past (e ∷ es) zero le = absurd (omega arith)
take_past (e ∷ es) (suc k) le = ap (λ (xs : List InLink). e ∷ xs) (take_past es k (omega arith))

-- one link more is looked at
candidates_append : (xs ys : List InLink) → candidates (xs ++ ys) ≡ candidates xs ++ candidates ys
candidates_append xs ys =
    ap (filter (λ (e : InLink). e.green)) (filter-append (λ (e : InLink). not (is_nil e.rows)) xs ys)
    ∙ filter-append (λ (e : InLink). e.green) (ready xs) (ready ys)

length_in_links : (vs : List LinkView) (greens : List Bool) → length greens ≡ length vs → length (in_links_of vs greens) ≡ length greens
length_in_links [] [] n = refl
length_in_links [] (g ∷ gs) n = absurd (omega arith)
length_in_links (v ∷ vs) [] n = absurd (omega arith)
length_in_links (v ∷ vs) (g ∷ gs) n = ap (λ (k : ℕ). suc k) (length_in_links vs gs (omega arith))

in_link_at : (vs : List LinkView) (greens : List Bool) (k : ℕ) (d : Bool) → k < length greens → length greens ≡ length vs
    → get_or (in_links_of vs greens) k no_in_link ≡ in_link_of (get_or vs k no_link) (get_or greens k d)
in_link_at vs [] k d lt n = absurd (omega arith)
in_link_at [] (g ∷ gs) k d lt n = absurd (omega arith)
in_link_at (v ∷ vs) (g ∷ gs) zero d lt n = refl
in_link_at (v ∷ vs) (g ∷ gs) (suc k) d lt n = in_link_at vs gs k d (omega arith) (omega arith)

one_looked_at : (vs : List LinkView) (greens : List Bool) (k : ℕ) (d : Bool) → k < length greens → length greens ≡ length vs
    → candidates (take (k + 1) (in_links_of vs greens))
    ≡ candidates (take k (in_links_of vs greens)) ++ candidates (in_link_of (get_or vs k no_link) (get_or greens k d) ∷ [])
one_looked_at vs greens k d lt n =
    let es = in_links_of vs greens in
    let m = length_in_links vs greens n in
    ap (λ (j : ℕ). candidates (take j es)) (add-one k) ∙ ap candidates (take-suc es k no_in_link (omega arith))
    ∙ candidates_append (take k es) (get_or es k no_in_link ∷ [])
    ∙ ap (λ (e : InLink). candidates (take k es) ++ candidates (e ∷ [])) (in_link_at vs greens k d lt n)

single : (v : LinkView) (g : Bool) → candidates (in_link_of v g ∷ []) ≡ (if g && not (is_nil v.lists.buffer) then in_link_of v true ∷ [] else [])
single v false = red_out v []
single v true = elim (cases_Bool (not (is_nil v.lists.buffer))) [ inl e ↦ rw e refl | inr e ↦ rw e refl ]

seen_more : (vs : List LinkView) (ks : List ℕ) (k : ℕ) → seen vs (ks ++ k ∷ []) ≡ seen vs ks ++ in_link_of (get_or vs k no_link) true ∷ []
seen_more vs [] k = refl
seen_more vs (x ∷ ks) k = ap (λ (es : List InLink). in_link_of (get_or vs x no_link) true ∷ es) (seen_more vs ks k)

pub joins : (vs : List LinkView) (greens : List Bool) (k : ℕ) (d : Bool) (ks : List ℕ) → k < length greens → length greens ≡ length vs
    → (get_or greens k d && not (is_nil (get_or vs k no_link).lists.buffer)) ≡ true → seen vs ks ≡ candidates (take k (in_links_of vs greens))
    → seen vs (ks ++ k ∷ []) ≡ candidates (take (k + 1) (in_links_of vs greens))
joins vs greens k d ks lt n e h =
    let v = get_or vs k no_link in
    let s : candidates (in_link_of v (get_or greens k d) ∷ []) ≡ in_link_of v true ∷ [] = single v (get_or greens k d) ∙ rw e refl in
    seen_more vs ks k ∙ ap (λ (es : List InLink). es ++ in_link_of v true ∷ []) h
    ∙ ap (λ (es : List InLink). candidates (take k (in_links_of vs greens)) ++ es) (sym s) ∙ sym (one_looked_at vs greens k d lt n)

pub stays_out : (vs : List LinkView) (greens : List Bool) (k : ℕ) (d : Bool) (ks : List ℕ) → k < length greens → length greens ≡ length vs
    → (get_or greens k d && not (is_nil (get_or vs k no_link).lists.buffer)) ≡ false → seen vs ks ≡ candidates (take k (in_links_of vs greens))
    → seen vs ks ≡ candidates (take (k + 1) (in_links_of vs greens))
stays_out vs greens k d ks lt n e h =
    let v = get_or vs k no_link in
    let s : candidates (in_link_of v (get_or greens k d) ∷ []) ≡ [] = single v (get_or greens k d) ∙ rw e refl in
    h ∙ sym (append-nil (candidates (take k (in_links_of vs greens))))
    ∙ ap (λ (es : List InLink). candidates (take k (in_links_of vs greens)) ++ es) (sym s) ∙ sym (one_looked_at vs greens k d lt n)

pub all_looked_at : (vs : List LinkView) (greens : List Bool) (k : ℕ) (ks : List ℕ) → length greens ≤ k → length greens ≡ length vs
    → seen vs ks ≡ candidates (take k (in_links_of vs greens)) → seen vs ks ≡ candidates (in_links_of vs greens)
all_looked_at vs greens k ks le n h =
    let m = length_in_links vs greens n in
    h ∙ ap candidates (take_past (in_links_of vs greens) k (omega arith))

-- places, one after the other
abbrev pub AllBelow : ℕ → List ℕ → Type 0
AllBelow n ks = Each (λ (k : ℕ). k < n) ks

pub below_more : (k : ℕ) (ks : List ℕ) → AllBelow k ks → AllBelow (k + 1) (ks ++ k ∷ [])
below_more k [] h = (omega arith, tt)
below_more k (x ∷ ks) h = (let lt = h.0 in omega arith, below_more k ks h.1)

pub below_later : (k : ℕ) (ks : List ℕ) → AllBelow k ks → AllBelow (k + 1) ks
below_later k [] h = tt
below_later k (x ∷ ks) h = (let lt = h.0 in omega arith, below_later k ks h.1)

not_in_more : (x k : ℕ) (ks : List ℕ) → IsNotIn x ks → k ≢ x → IsNotIn x (ks ++ k ∷ [])
not_in_more x k [] h ne = (ne, tt)
not_in_more x k (y ∷ ks) h ne = (h.0, not_in_more x k ks h.1 ne)

pub places_more : (n k : ℕ) (ks : List ℕ) → ArePlaces n ks → AllBelow k ks → k < n → ArePlaces n (ks ++ k ∷ [])
places_more n k [] h b lt = (lt, tt, tt)
places_more n k (x ∷ ks) h b lt = (h.0, not_in_more x k ks h.1 (λ q. let l = b.0 in absurd (omega arith)), places_more n k ks h.2 b.1 lt)

-- weights, one after the other
pub weights_more : (vs : List LinkView) (ks : List ℕ) (k : ℕ) (ws us : List ℕ) → ws ≡ map weight_of (seen vs ks)
    → us ≡ ws ++ (get_or vs k no_link).numbers.capacity ∷ [] → us ≡ map weight_of (seen vs (ks ++ k ∷ []))
weights_more vs ks k ws us h e =
    e ∙ ap (λ (xs : List ℕ). xs ++ (get_or vs k no_link).numbers.capacity ∷ []) h
    ∙ sym (map-append weight_of (seen vs ks) (in_link_of (get_or vs k no_link) true ∷ [])) ∙ ap (map weight_of) (sym (seen_more vs ks k))

have_more : (es : List InLink) (e : InLink) → HaveWeights es → 0 < e.capacity → e.capacity ≤ MAX_CAPACITY → HaveWeights (es ++ e ∷ [])
have_more [] e h a b = ((a, b), tt)
have_more (x ∷ es) e h a b = (h.0, have_more es e h.1 a b)

pub some_more : (vs : List LinkView) (ks : List ℕ) (k : ℕ) → HaveWeights (seen vs ks) → 0 < (get_or vs k no_link).numbers.capacity
    → (get_or vs k no_link).numbers.capacity ≤ MAX_CAPACITY → HaveWeights (seen vs (ks ++ k ∷ []))
some_more vs ks k h a b =
    subst (λ (es : List InLink). HaveWeights es) (sym (seen_more vs ks k)) (have_more (seen vs ks) (in_link_of (get_or vs k no_link) true) h a b)

-- SUMS OF WEIGHTS
pub sum_least : (es : List InLink) → HaveWeights es → length es ≤ sum (map weight_of es)
sum_least [] h = omega arith
sum_least (e ∷ es) h =
    let a = h.0.0 in let b = sum_least es h.1 in
    let c : sum (map weight_of (e ∷ es)) ≡ e.capacity + sum (map weight_of es) = sum_by-cons (λ (x : ℕ). x) e.capacity (map weight_of es) in
    omega arith

pub sum_most : (es : List InLink) → HaveWeights es → sum (map weight_of es) ≤ MAX_CAPACITY * length es
sum_most [] h = omega arith
sum_most (e ∷ es) h =
    let a = h.0.1 in let b = sum_most es h.1 in
    let c : sum (map weight_of (e ∷ es)) ≡ e.capacity + sum (map weight_of es) = sum_by-cons (λ (x : ℕ). x) e.capacity (map weight_of es) in
    omega arith

weighted : (es : List InLink) → HaveWeights es → AreWeighted es
weighted [] h = tt
weighted (e ∷ es) h = (h.0.0, weighted es h.1)

map_without : (k : ℕ) (es : List InLink) → map weight_of (without_at k es) ≡ without_at k (map weight_of es)
map_without k [] = refl
map_without zero (e ∷ es) = refl
map_without (suc k) (e ∷ es) = ap (λ (xs : List ℕ). e.capacity ∷ xs) (map_without k es)

pub have_without : (k : ℕ) (es : List InLink) → HaveWeights es → HaveWeights (without_at k es)
have_without k es h = each_without_at (λ (e : InLink). (0 < e.capacity) × (e.capacity ≤ MAX_CAPACITY)) k es h

pub weights_without : (k : ℕ) (es fs : List InLink) (ws us : List ℕ) → ws ≡ map weight_of es → us ≡ without_at k ws → fs ≡ without_at k es
    → us ≡ map weight_of fs
weights_without k es fs ws us h e f = e ∙ ap (without_at k) h ∙ sym (map_without k es) ∙ ap (map weight_of) (sym f)

-- WHO CAN

filter_next : (p : InLink → Bool) (es : List InLink) (k : ℕ) → k < length es
    → filter p (take (k + 1) es) ≡ filter p (take k es) ++ (if p (get_or es k no_in_link) then get_or es k no_in_link ∷ [] else [])
filter_next p es k lt =
    ap (λ (j : ℕ). filter p (take j es)) (add-one k) ∙ ap (filter p) (take-suc es k no_in_link lt)
    ∙ filter-append p (take k es) (get_or es k no_in_link ∷ [])

-- of those that were looked at none can, or only the one at a place
abbrev pub IsOnly : (InLink → Bool) → List InLink → ℕ → Option ℕ → Type 0
IsOnly p es k None = filter p (take k es) ≡ []
IsOnly p es k (Some j) = (j < k) × (filter p (take k es) ≡ get_or es j no_in_link ∷ [])

pub nobody_more : (p : InLink → Bool) (es : List InLink) (k : ℕ) (only : Option ℕ) → k < length es → p (get_or es k no_in_link) ≡ false → IsOnly p es k only
    → IsOnly p es (k + 1) only
nobody_more p es k None lt e h = filter_next p es k lt ∙ rw (h, e) refl
nobody_more p es k (Some j) lt e h = (let l = h.0 in omega arith, filter_next p es k lt ∙ rw e (append-nil (filter p (take k es)) ∙ h.1))

pub first_found : (p : InLink → Bool) (es : List InLink) (k : ℕ) → k < length es → p (get_or es k no_in_link) ≡ true → IsOnly p es k None
    → IsOnly p es (k + 1) (Some k)
first_found p es k lt e h = (omega arith, filter_next p es k lt ∙ rw (h, e) refl)

-- two can: those behind make no difference
several : (alone : InLink → List Move) (more : List Move) (x y : InLink) (es : List InLink) → more ≡ by_chosen alone more (x ∷ y ∷ es)
several alone more x y es = refl

pub several_found : (alone : InLink → List Move) (more : List Move) (p : InLink → Bool) (es : List InLink) (k j : ℕ) → k < length es
    → p (get_or es k no_in_link) ≡ true → IsOnly p es k (Some j) → by_able alone more es Several ≡ by_chosen alone more (filter p es)
several_found alone more p es k j lt e h =
    let x = get_or es j no_in_link in
    let y = get_or es k no_in_link in
    let a : filter p (take (k + 1) es) ≡ x ∷ y ∷ [] = filter_next p es k lt ∙ rw (h.1, e) refl in
    let b : filter p es ≡ x ∷ y ∷ filter p (drop (k + 1) es)
    = ap (filter p) (sym (take-append-drop (k + 1) es)) ∙ filter-append p (take (k + 1) es) (drop (k + 1) es)
    ∙ ap (λ (xs : List InLink). xs ++ filter p (drop (k + 1) es)) a in
    several alone more x y (filter p (drop (k + 1) es)) ∙ ap (by_chosen alone more) (sym b)

-- THE PICKS
-- how a drawing goes on, by who can
abbrev Goes : Stuck → ℕ → (ℕ → ℕ) → ℕ → List InLink → (ℕ → Option OutLink) → Able → Type 0
Goes K t word j es P a =
    (alone : InLink → List Move) (more : List Move) → by_able alone more es a ≡ by_chosen alone more (filter (able_now K t P) es)

pub draws_nobody : (K : Stuck) (t : ℕ) (word : ℕ → ℕ) (n j : ℕ) (es : List InLink) (P : ℕ → Option OutLink) (N : NodeState) → Goes K t word j es P Nobody
    → node_run (draw_lazily (able_now K t) K t word n j es P) N ≡ N
unfolding draw_lazily
draws_nobody K t word n j es P N g = ap (λ (ms : List Move). node_run ms N) (no_draw n) ∙ run_none N
  where
    no_draw : (m : ℕ) → draw_lazily (able_now K t) K t word m j es P ≡ []
    no_draw zero = refl
    no_draw (suc m) = sym (g _ _)

pub draws_only : (K : Stuck) (t : ℕ) (word : ℕ → ℕ) (n j k : ℕ) (es : List InLink) (P : ℕ → Option OutLink) → Goes K t word j es P (Only k) → n ≡ length es
    → k < length es → draw_lazily (able_now K t) K t word n j es P ≡ pass_node_all K t P (get_or es k no_in_link)
unfolding draw_lazily
draws_only K t word zero j k es P g e lt = absurd (omega arith)
draws_only K t word (suc n) j k es P g e lt = sym (g _ _)

pub draws_several : (K : Stuck) (t : ℕ) (word : ℕ → ℕ) (n j : ℕ) (es : List InLink) (P : ℕ → Option OutLink) → Goes K t word j es P Several
    → draw_lazily (able_now K t) K t word (suc n) j es P
    ≡ pass_node_all K t P (get_or es (drawn es (word (16 * t + j))) no_in_link)
    ++ draw_lazily (able_now K t) K t word n (j + 1) (without_at (drawn es (word (16 * t + j))) es)
    (out_links_after (pass_node_all K t P (get_or es (drawn es (word (16 * t + j))) no_in_link)) P)
unfolding draw_lazily
draws_several K t word n j es P g = sym (g _ _)

-- the words that are left out make no difference
pub draws_lazily : (s : Source) (K : Stuck) (t : ℕ) (vs : List LinkView) (ks : List ℕ) (P : ℕ → Option OutLink) → HaveWeights (seen vs ks)
    → draw K t (word s) (length ks) 0 (seen vs ks) P ≡ draw_lazily (able_now K t) K t (word s) (length ks) 0 (seen vs ks) P
draws_lazily s K t vs ks P h =
    lazily K t (word s) (λ p. word_fits s p) (able_now K t) (length ks) 0 (seen vs ks) P (now_has K t P) (weighted (seen vs ks) h)
    (sym (length_seen vs ks))

-- THE TURN
pub whole_turn : (s : Source) (K : Stuck) (t : ℕ) (vs us : List LinkView) (greens : List Bool) (ks : List ℕ) (P : ℕ → Option OutLink) (es : List Entering)
    (gone : List VehicleState) (said : List Occurrence) (M : NodeState) → AreApart vs → length greens ≡ length vs → us ≡ all_marked t vs greens
    → seen us ks ≡ candidates (in_links_of vs greens) → M ≡ node_run (draw K t (word s) (length ks) 0 (seen us ks) P) (node_state us P es gone said)
    → M ≡ after_turn K t (word s) greens (node_state vs P es gone said)
unfolding node_moves
whole_turn s K t vs us greens ks P es gone said M h n u c e =
    let links = candidates (in_links_of vs greens) in
    let N = node_state vs P es gone said in
    let a : M ≡ node_run (draw K t (word s) (length links) 0 links P) (node_state us P es gone said)
    = e ∙ ap (λ (k : ℕ). node_run (draw K t (word s) k 0 (seen us ks) P) (node_state us P es gone said)) (sym (length_seen us ks))
    ∙ ap (λ (fs : List InLink). node_run (draw K t (word s) (length fs) 0 fs P) (node_state us P es gone said)) c in
    a ∙ ap (λ (xs : List LinkView). node_run (draw K t (word s) (length links) 0 links P) (node_state xs P es gone said)) u
    ∙ ap (node_run (draw K t (word s) (length links) 0 links P)) (sym (marks_run t vs greens P es gone said h n))
    ∙ sym (run_both (map (mark t) (red (in_links_of vs greens))) (draw K t (word s) (length links) 0 links P) N)

-- THE SAME AS THE CODE FINDS IT
pub able_at : (K : Stuck) (t : ℕ) (P : ℕ → Option OutLink) (vs : List LinkView) (ks : List ℕ) (k : ℕ) (v : LinkView) (result b : Bool) → k < length ks
    → get_or ks k 0 < length vs → v ≡ get_or vs (get_or ks k 0) v → result ≡ can_go K t P v.lists.buffer → result ≡ b
    → able_now K t P (get_or (seen vs ks) k no_in_link) ≡ b
able_at K t P vs ks k v result b lt in_vs is e r =
    ap (able_now K t P) (seen_at vs ks k lt) ∙ ap (λ (x : LinkView). can_go K t P x.lists.buffer) (sym (is_at vs (get_or ks k 0) v in_vs is)) ∙ sym e ∙ r

pub two_found : (alone : InLink → List Move) (more : List Move) (p : InLink → Bool) (es : List InLink) (k j : ℕ) (only : Option ℕ) → k < length es
    → p (get_or es k no_in_link) ≡ true → only ≡ Some j → IsOnly p es k only → more ≡ by_chosen alone more (filter p es)
two_found alone more p es k j only lt e q h = several_found alone more p es k j lt e (subst (λ (o : Option ℕ). IsOnly p es k o) q h)

pub found_first : (p : InLink → Bool) (es : List InLink) (k : ℕ) (only now : Option ℕ) → k < length es → p (get_or es k no_in_link) ≡ true → only ≡ None
    → now ≡ Some k → IsOnly p es k only → IsOnly p es (k + 1) now
found_first p es k only now lt e q n h =
    subst (λ (o : Option ℕ). IsOnly p es (k + 1) o) (sym n) (first_found p es k lt e (subst (λ (o : Option ℕ). IsOnly p es k o) q h))

pub found_none : (p : InLink → Bool) (es : List InLink) (k : ℕ) (only now : Option ℕ) → k < length es → p (get_or es k no_in_link) ≡ false → now ≡ only
    → IsOnly p es k only → IsOnly p es (k + 1) now
found_none p es k only now lt e n h = subst (λ (o : Option ℕ). IsOnly p es (k + 1) o) (sym n) (nobody_more p es k only lt e h)

-- the link at a place of the left ones
drawn_link : (vs : List LinkView) (ks : List ℕ) (k place : ℕ) → k < length ks → place ≡ get_or ks k 0
    → get_or (seen vs ks) k no_in_link ≡ in_link_of (get_or vs place no_link) true
drawn_link vs ks k place lt e = seen_at vs ks k lt ∙ ap (λ (m : ℕ). in_link_of (get_or vs m no_link) true) (sym e)

pub only_passes : (K : Stuck) (t : ℕ) (word : ℕ → ℕ) (j k place : ℕ) (vs : List LinkView) (ks : List ℕ) (P : ℕ → Option OutLink) (N M : NodeState)
    → Goes K t word j (seen vs ks) P (Only k) → k < length ks → place ≡ get_or ks k 0
    → M ≡ node_run (pass_node_all K t P (in_link_of (get_or vs place no_link) true)) N
    → node_run (draw_lazily (able_now K t) K t word (length ks) j (seen vs ks) P) N ≡ M
only_passes K t word j k place vs ks P N M g lt e run =
    let n = length_seen vs ks in
    ap (λ (ms : List Move). node_run ms N) (draws_only K t word (length ks) j k (seen vs ks) P g (sym n) (omega arith))
    ∙ ap (λ (x : InLink). node_run (pass_node_all K t P x) N) (drawn_link vs ks k place lt e) ∙ sym run

pub one_pick : (K : Stuck) (t : ℕ) (word : ℕ → ℕ) (j w place : ℕ) (vs us : List LinkView) (ks ls weights : List ℕ) (P Q : ℕ → Option OutLink)
    (es fs : List Entering) (gone lost : List VehicleState) (said later : List Occurrence) → ArePlaces (length vs) ks → weights ≡ map weight_of (seen vs ks)
    → w ≡ word (16 * t + j) → place ≡ get_or ks (pick weights w) 0 → pick weights w < length ks → ls ≡ without_at (pick weights w) ks
    → node_state us Q fs lost later
    ≡ node_run (pass_node_all K t P (in_link_of (get_or vs place no_link) true)) (node_state vs P es gone said)
    → ((q : ℕ) → q ≢ place → get_or us q no_link ≡ get_or vs q no_link) → Goes K t word j (seen vs ks) P Several
    → node_run (draw_lazily (able_now K t) K t word (length ks) j (seen vs ks) P) (node_state vs P es gone said)
    ≡ node_run (draw_lazily (able_now K t) K t word (length ls) (j + 1) (seen us ls) Q) (node_state us Q fs lost later)
one_pick K t word j w place vs us ks ls weights P Q es fs gone lost said later p wt wd pl lt lq run others g =
    let k = pick weights w in
    let links = seen vs ks in
    let N = node_state vs P es gone said in
    let E = in_link_of (get_or vs place no_link) true in
    let A = pass_node_all K t P E in
    let d : drawn links (word (16 * t + j)) ≡ k = sym (ap (λ (xs : List ℕ). pick xs w) wt ∙ ap (pick (map weight_of links)) wd) in
    let n : length ks ≡ suc (length ls) = sym (ap (λ (xs : List ℕ). suc (length xs)) lq ∙ length_without k ks lt) in
    let e : get_or links k no_in_link ≡ E = drawn_link vs ks k place lt pl in
    let r : without_at k links ≡ seen us ls
    = sym (ap (seen us) lq ∙ seen_rest vs us (length vs) ks k p lt (λ q ne. others q (λ (x : q ≡ place). ne (x ∙ pl)))) in
    let o : out_links_after A P ≡ Q = sym (ap (λ (x : NodeState). x.out_links) run) in
    let goes_on = λ (m : ℕ).
    pass_node_all K t P (get_or links m no_in_link)
    ++ draw_lazily (able_now K t) K t word (length ls) (j + 1) (without_at m links)
    (out_links_after (pass_node_all K t P (get_or links m no_in_link)) P) in
    let B = draw_lazily (able_now K t) K t word (length ls) (j + 1) (seen us ls) Q in
    let moves : draw_lazily (able_now K t) K t word (length ks) j links P ≡ A ++ B
    = ap (λ (m : ℕ). draw_lazily (able_now K t) K t word m j links P) n ∙ draws_several K t word (length ls) j links P g ∙ ap goes_on d
    ∙ ap (λ (x : InLink). pass_node_all K t P x
    ++ draw_lazily (able_now K t) K t word (length ls) (j + 1) (without_at k links) (out_links_after (pass_node_all K t P x) P)) e
    ∙ ap (λ (xs : List InLink). A ++ draw_lazily (able_now K t) K t word (length ls) (j + 1) xs (out_links_after A P)) r
    ∙ ap (λ (O : ℕ → Option OutLink). A ++ draw_lazily (able_now K t) K t word (length ls) (j + 1) (seen us ls) O) o in
    ap (λ (ms : List Move). node_run ms N) moves ∙ run_both A B N ∙ ap (node_run B) (sym run)
