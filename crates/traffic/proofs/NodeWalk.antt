-- The walk over a node's turn: each of its moves, in the world in which it is made.
use Rattle.traffic.proofs.Common.{◌≡◌, ℕ, List, ◌∙◌, length, ap, refl, sym, [], ◌∷◌, arith, ◌<◌, true, ◌++◌, ◌+◌, Bool, inl, inr, false, suc, eqb, zero, get_or}
use Rattle.traffic.proofs.Common.{◌≢◌, append-nil, length-append, ◌*◌, cases_Bool, eq-eqb, ne_eqb, nat_tests, map, filter, Some, None, not, Option}
use Rattle.traffic.proofs.Common.{if◌then◌else◌, node_turns, on_front, numbers, without_at, is_nil, Move, Transfer, Remove, SetFrontSince, run, done, at_second}
use Rattle.traffic.proofs.Common.{InLink, OutLink, with_one_more, may_enter, since_of, out_links_by, pass_node_all, drawn, no_in_link, red, candidates, entered}
use Rattle.traffic.proofs.Common.{next_link, in_link, in_force, node_view, out_link, ready, node_moves, draw, one_more, pass_node, not-true, is_stuck, mark}
use Rattle.traffic.proofs.Common.{out_links_after, Row, World, at, holes_at, Setup, link_row, hole_of, seconds_of, storage_of, into}
use Rattle.traffic.proofs.{Each.each_weaker, Each.each_filter, Each.each_without_at, Moments.Along, Moments.along_append, Sublists.at-done}
use Rattle.traffic.specs.declared.stage.Stage.TheVariants.{Queue, Buffer}
use Rattle.std.{proofs.lemmas.Bool.false≢true, specs.List.AllByRecursion as Each}

-- row r is the front of the buffer of link a, which leads into node n
pub record IsFront (S : Setup) (n a : ℕ) (r : Row) (xs : List Row) (W : World) : Type 0 where
  pub into : eqb (link_row S a).to n ≡ true
  pub rows : at a Buffer W ≡ r ∷ xs

-- What is said of each move of a node's turn in its world: a front enters its next link, which has this out-link; or it is removed, being
-- stuck; and a front is first since this second.
pub record NodeCases (S : Setup) (t n : ℕ) (F : World → Move → Type 0) : Type 0 where
  pub enter : (a : ℕ) (e : Option OutLink) (r : Row) (xs : List Row) (W : World) → IsFront S n a r xs W → e ≡ out_link S t n W (next_link r.vehicle)
      → may_enter S.settings.stuck t r.second e ≡ true → F W (Transfer a Buffer 0 r (entered t e r.vehicle))
  pub abort : (a : ℕ) (r : Row) (xs : List Row) (W : World) → IsFront S n a r xs W → is_stuck S.settings.stuck t r.second ≡ true → F W (Remove a Buffer 0 r)
  pub mark : (a : ℕ) (W : World) → eqb (link_row S a).to n ≡ true → F W (SetFrontSince a t)

-- EXITS
-- these are the out-links of the node in this world
abbrev pub AreOutLinks : Setup → ℕ → ℕ → (ℕ → Option OutLink) → World → Type 0
AreOutLinks S t n out_links W = (l : ℕ) → out_links l ≡ out_link S t n W l

abbrev out_link_by : Setup → ℕ → ℕ → ℕ → List Row → List ℕ → Option OutLink
out_link_by S t n l xs holes =
    if eqb (link_row S l).from n then Some (record { taken = length xs + in_force t (hole_of S l) holes; storage = storage_of S l; seconds = seconds_of S l }) else None

one_longer : (S : Setup) (t n l : ℕ) (xs : List Row) (holes : List ℕ) (now : Row) → out_link_by S t n l (xs ++ now ∷ []) holes ≡ with_one_more (out_link_by S t n l xs holes)
one_longer S t n l xs holes now = grind (arith, length-append xs (now ∷ []))

one_put : (S : Setup) (t n l : ℕ) (b : Bool) (xs : List Row) (holes : List ℕ) (now : Row) →
    out_link_by S t n l (xs ++ (if b then now ∷ [] else [])) holes ≡ (if b then with_one_more (out_link_by S t n l xs holes) else out_link_by S t n l xs holes)
one_put S t n l b xs holes now = grind (arith, one_longer S t n l xs holes now, append-nil xs)

-- a row that enters the queue of its next link takes a place there
pub out_links_put : (S : Setup) (t n a : ℕ) (e : Option OutLink) (r : Row) (out_links : ℕ → Option OutLink) (W : World) → AreOutLinks S t n out_links W → AreOutLinks S t n (one_more (next_link r.vehicle) out_links) (done S t (Transfer a Buffer 0 r (entered t e r.vehicle)) W)
unfolding one_more
out_links_put S t n a e r out_links W h l =
    let now = entered t e r.vehicle in
    let q : eqb l now.link ≡ eqb now.link l = grind (arith, nat_tests) in
    rw (h l, q) (sym (ap (λ (xs : List Row). out_link_by S t n l xs (holes_at l W)) (at-done S t l Queue (Transfer a Buffer 0 r now) W) ∙ one_put S t n l (eqb now.link l) (at l Queue W) (holes_at l W) now))

pub out_links_gone : (S : Setup) (t n a : ℕ) (r : Row) (out_links : ℕ → Option OutLink) (W : World) → AreOutLinks S t n out_links W → AreOutLinks S t n out_links (done S t (Remove a Buffer 0 r) W)
out_links_gone S t n a r out_links W h l = h l ∙ sym (ap (λ (xs : List Row). out_link_by S t n l xs (holes_at l W)) (at-done S t l Queue (Remove a Buffer 0 r) W))

pub out_links_mark : (S : Setup) (t n a u : ℕ) (out_links : ℕ → Option OutLink) (W : World) → AreOutLinks S t n out_links W → AreOutLinks S t n out_links (done S t (SetFrontSince a u) W)
out_links_mark S t n a u out_links W h l = h l ∙ sym (ap (λ (xs : List Row). out_link_by S t n l xs (holes_at l W)) (at-done S t l Queue (SetFrontSince a u) W))

-- BUFFERS
-- a move that leaves the buffers of all links but this one
abbrev Apart : Setup → ℕ → ℕ → Move → World → Type 0
Apart S t a m W = (l : ℕ) → l ≢ a → at l Buffer (done S t m W) ≡ at l Buffer W

put_apart : (S : Setup) (t a : ℕ) (e : Option OutLink) (r : Row) (W : World) → Apart S t a (Transfer a Buffer 0 r (entered t e r.vehicle)) W
put_apart S t a e r W l ne = grind (arith, nat_tests, at-done S t l Buffer (Transfer a Buffer 0 r (entered t e r.vehicle)) W, append-nil (at l Buffer W))

gone_apart : (S : Setup) (t a : ℕ) (r : Row) (W : World) → Apart S t a (Remove a Buffer 0 r) W
gone_apart S t a r W l ne = let q = ne_eqb a l (λ k. ne (sym k)) in at-done S t l Buffer (Remove a Buffer 0 r) W ∙ simp q

mark_apart : (S : Setup) (t a : ℕ) (W : World) → Apart S t a (SetFrontSince a t) W
mark_apart S t a W l ne = let q = ne_eqb a l (λ k. ne (sym k)) in at-done S t l Buffer (SetFrontSince a t) W ∙ simp q

-- the front is taken out, and the next one is first since this second
next_first : (S : Setup) (t a : ℕ) (m : Move) (xs : List Row) (W : World) → at a Buffer (done S t m W) ≡ xs → at a Buffer (done S t (SetFrontSince a t) (done S t m W)) ≡ on_front (at_second t) xs
next_first S t a m xs W h = let q = eq-eqb a a refl in at-done S t a Buffer (SetFrontSince a t) (done S t m W) ∙ simp q (ap (on_front (at_second t)) h)

put_front : (S : Setup) (t a : ℕ) (e : Option OutLink) (r : Row) (xs : List Row) (W : World) → at a Buffer W ≡ r ∷ xs → at a Buffer (done S t (Transfer a Buffer 0 r (entered t e r.vehicle)) W) ≡ xs
put_front S t a e r xs W h = let q = eq-eqb a a refl in at-done S t a Buffer (Transfer a Buffer 0 r (entered t e r.vehicle)) W ∙ simp (q, h) (append-nil xs)

gone_front : (S : Setup) (t a : ℕ) (r : Row) (xs : List Row) (W : World) → at a Buffer W ≡ r ∷ xs → at a Buffer (done S t (Remove a Buffer 0 r) W) ≡ xs
gone_front S t a r xs W h = let q = eq-eqb a a refl in at-done S t a Buffer (Remove a Buffer 0 r) W ∙ simp (q, h)

-- ENTRIES
-- each is such, and no link is among them twice
abbrev Each_once : (InLink → Type 0) → List InLink → Type 0
Each_once P [] = Unit {0}
Each_once P (e ∷ es) = P e × Each (λ (x : InLink). x.link ≢ e.link) es × Each_once P es

once_each : (P : InLink → Type 0) (es : List InLink) → Each_once P es → Each P es
once_each P [] h = tt
once_each P (e ∷ es) h = (h.0, once_each P es h.2)

once_filter : (P Q : InLink → Type 0) (p : InLink → Bool) → ((e : InLink) → p e ≡ true → P e → Q e) → (es : List InLink) → Each_once P es → Each_once Q (filter p es)
once_filter P Q p f [] h = tt
once_filter P Q p f (e ∷ es) h =
    elim (cases_Bool (p e)) [
      | inl q ↦ simp q (f e q h.0, each_filter (λ (x : InLink). x.link ≢ e.link) _ p (λ x k g. g) es h.1, once_filter P Q p f es h.2)
      | inr q ↦ simp q (once_filter P Q p f es h.2)
    ]

-- those of other links than this one
once_apart : (P Q : InLink → Type 0) (a : ℕ) → ((e : InLink) → e.link ≢ a → P e → Q e) → (es : List InLink) → Each (λ (x : InLink). x.link ≢ a) es → Each_once P es → Each_once Q es
once_apart P Q a f [] g h = tt
once_apart P Q a f (e ∷ es) g h = (f e g.0 h.0, h.1, once_apart P Q a f es g.1 h.2)

-- an in-link of the node in a world, as it is seen there
pub record IsInLink (S : Setup) (t n : ℕ) (W : World) (e : InLink) : Type 0 where
  pub into : eqb (link_row S e.link).to n ≡ true
  pub green : e.green ≡ S.green e.link t
  pub rows : at e.link Buffer W ≡ e.rows

in_links_away : (S : Setup) (t n : ℕ) (W : World) (a k count : ℕ) → a < k → Each (λ (x : InLink). x.link ≢ a) (map (in_link S t W) (filter (λ l. eqb (link_row S l).to n) (numbers k count)))
in_links_away S t n W a k zero lt = tt
in_links_away S t n W a k (suc count) lt =
    let y = in_links_away S t n W a (k + 1) count (omega arith) in elim (cases_Bool (eqb (link_row S k).to n)) [ inl q ↦ simp q ((λ e. omega arith), y) | inr q ↦ simp q y ]

in_links_once : (S : Setup) (t n : ℕ) (W : World) (k count : ℕ) → Each_once (IsInLink S t n W) (map (in_link S t W) (filter (λ l. eqb (link_row S l).to n) (numbers k count)))
in_links_once S t n W k zero = tt
in_links_once S t n W k (suc count) =
    let y = in_links_once S t n W (k + 1) count in
    elim (cases_Bool (eqb (link_row S k).to n)) [
      | inl q ↦ simp q (record { into = q; green = refl; rows = refl }, in_links_away S t n W k (k + 1) count (omega arith), y)
      | inr q ↦ simp q y
    ]

first_as_it_is : (xs : List Row) → on_front (at_second (since_of xs)) xs ≡ xs
first_as_it_is [] = refl
first_as_it_is (r ∷ rs) = refl

module _ (S : Setup) (t n : ℕ) (F : World → Move → Type 0) (cases : NodeCases S t n F) where
  -- A LINK HANDS OVER
  -- these moves are such; the out-links after them are those of the world after them; and the other buffers are as they were
  abbrev Over : ℕ → List Move → (ℕ → Option OutLink) → World → Type 0
  Over a ms out_links W = Along F S t ms W × AreOutLinks S t n (out_links_after ms out_links) (run S t ms W) × ((l : ℕ) → l ≢ a → at l Buffer (run S t ms W) ≡ at l Buffer W)

  over_if : (a : ℕ) (out_links : ℕ → Option OutLink) (W : World) (b : Bool) (xs ys : List Move) → (b ≡ true → Over a xs out_links W) → (b ≡ false → Over a ys out_links W) → Over a (if b then xs else ys) out_links W
  over_if a out_links W true xs ys h g = h refl
  over_if a out_links W false xs ys h g = g refl

  -- one move of the front, after which another is the front
  over_then : (a : ℕ) (m : Move) (ms : List Move) (out_links : ℕ → Option OutLink) (W : World) → eqb (link_row S a).to n ≡ true → F W m → Apart S t a m W → Over a ms (out_links_by m out_links) (done S t (SetFrontSince a t) (done S t m W)) → Over a (m ∷ SetFrontSince a t ∷ ms) out_links W
  over_then a m ms out_links W i f apart y = ((f, (cases.mark a (done S t m W) i, y.0)), y.1, λ l ne. y.2 l ne ∙ mark_apart S t a (done S t m W) l ne ∙ apart l ne)

  pass_node_walk : (a : ℕ) → eqb (link_row S a).to n ≡ true → (out_links : ℕ → Option OutLink) (since : ℕ) (xs : List Row) (W : World) → at a Buffer W ≡ on_front (at_second since) xs → AreOutLinks S t n out_links W → Over a (pass_node S.settings.stuck t a out_links since xs) out_links W
  unfolding pass_node
  pass_node_walk a i out_links since [] W h s = (tt, s, λ l ne. refl)
  pass_node_walk a i out_links since (r ∷ rs) W h s =
      let m = next_link r.vehicle in
      let e = out_links m in
      let was = at_second since r in
      let put = Transfer a Buffer 0 was (entered t e was.vehicle) in
      let gone = Remove a Buffer 0 was in
      let front : IsFront S n a was rs W = record { into = i; rows = h } in
      over_if a out_links W (may_enter S.settings.stuck t since e) _ _
      (λ c. over_then a put (pass_node S.settings.stuck t a (one_more m out_links) t rs) out_links W i (cases.enter a e was rs W front (s m) c) (put_apart S t a e was W)
      (pass_node_walk a i (one_more m out_links) t rs (done S t (SetFrontSince a t) (done S t put W)) (next_first S t a put rs W (put_front S t a e was rs W h))
      (out_links_mark S t n a t (one_more m out_links) (done S t put W) (out_links_put S t n a e was out_links W s))))
      (λ c. over_if a out_links W (is_stuck S.settings.stuck t since) _ _
      (λ d. over_then a gone (pass_node S.settings.stuck t a out_links t rs) out_links W i (cases.abort a was rs W front d) (gone_apart S t a was W)
      (pass_node_walk a i out_links t rs (done S t (SetFrontSince a t) (done S t gone W)) (next_first S t a gone rs W (gone_front S t a was rs W h))
      (out_links_mark S t n a t out_links (done S t gone W) (out_links_gone S t n a was out_links W s))))
      (λ d. (tt, s, λ l ne. refl)))

  -- THE DRAWING
  -- a green link of the node, whose buffer is still as it was seen
  pub record IsLeft (W : World) (e : InLink) : Type 0 where
    pub into : eqb (link_row S e.link).to n ≡ true
    pub green : S.green e.link t ≡ true
    pub rows : at e.link Buffer W ≡ e.rows

  left_kept : (a : ℕ) (W U : World) (es : List InLink) → ((l : ℕ) → l ≢ a → at l Buffer U ≡ at l Buffer W) → Each (λ (x : InLink). x.link ≢ a) es → Each_once (IsLeft W) es → Each_once (IsLeft U) es
  left_kept a W U es f g h = once_apart (IsLeft W) (IsLeft U) a (λ e ne k. record { into = k.into; green = k.green; rows = f e.link ne ∙ k.rows }) es g h

  -- after the one that is drawn handed over
  pub record IsDrawn (ms : List Move) (out_links : ℕ → Option OutLink) (es rest : List InLink) (W : World) : Type 0 where
    pub along : Along F S t ms W
    pub out_links_are : AreOutLinks S t n (out_links_after ms out_links) (run S t ms W)
    pub others : (l : ℕ) → Each (λ (x : InLink). x.link ≢ l) es → at l Buffer (run S t ms W) ≡ at l Buffer W
    pub left : Each_once (IsLeft (run S t ms W)) rest

  drawn_walk : (out_links : ℕ → Option OutLink) (k : ℕ) (es : List InLink) (W : World) → Each_once (IsLeft W) es → AreOutLinks S t n out_links W → IsDrawn (pass_node_all S.settings.stuck t out_links (get_or es k no_in_link)) out_links es (without_at k es) W
  unfolding pass_node
  drawn_walk out_links k [] W h s = record { along = tt; out_links_are = s; others = λ l g. refl; left = tt }
  drawn_walk out_links zero (e ∷ es) W h s =
      let y = pass_node_walk e.link h.0.into out_links (since_of e.rows) e.rows W (h.0.rows ∙ sym (first_as_it_is e.rows)) s in
      record { along = y.0; out_links_are = y.1; others = λ l g. y.2 l (λ q. g.0 (sym q)); left = left_kept e.link W _ es y.2 h.1 h.2 }
  drawn_walk out_links (suc k) (e ∷ es) W h s =
      let y = drawn_walk out_links k es W h.2 s in
      record {
        along = y.along;
        out_links_are = y.out_links_are;
        others = λ l g. y.others l g.1;
        left = (record { into = h.0.into; green = h.0.green; rows = y.others e.link h.1 ∙ h.0.rows }, each_without_at (λ (x : InLink). x.link ≢ e.link) k es h.1, y.left);
      }

  draw_walk : (word : ℕ → ℕ) (left j : ℕ) (es : List InLink) (out_links : ℕ → Option OutLink) (W : World) → Each_once (IsLeft W) es → AreOutLinks S t n out_links W → Along F S t (draw S.settings.stuck t word left j es out_links) W
  unfolding draw
  draw_walk word zero j es out_links W h s = tt
  draw_walk word (suc left) j es out_links W h s =
      let k = drawn es (word (16 * t + j)) in
      let ms = pass_node_all S.settings.stuck t out_links (get_or es k no_in_link) in
      let y = drawn_walk out_links k es W h s in
      along_append F S t ms _ W y.along (draw_walk word left (j + 1) (without_at k es) (out_links_after ms out_links) (run S t ms W) y.left y.out_links_are)

  -- RED LINKS, AND THE WHOLE TURN
  abbrev IsRed : InLink → Type 0
  IsRed e = (eqb (link_row S e.link).to n ≡ true) × (S.green e.link t ≡ false)

  marks_walk : (reds es : List InLink) (out_links : ℕ → Option OutLink) (W : World) → Each IsRed reds → Each_once (IsLeft W) es → AreOutLinks S t n out_links W →
      Along F S t (map (mark t) reds) W × Each_once (IsLeft (run S t (map (mark t) reds) W)) es × AreOutLinks S t n out_links (run S t (map (mark t) reds) W)
  marks_walk [] es out_links W r h s = (tt, h, s)
  marks_walk (x ∷ xs) es out_links W r h s =
      let V = done S t (mark t x) W in
      let apart = each_weaker (λ (e : InLink). S.green e.link t ≡ true) (λ (e : InLink). e.link ≢ x.link) (λ e g q. false≢true (sym r.0.1 ∙ ap (λ (l : ℕ). S.green l t) (sym q) ∙ g)) es
      (each_weaker (IsLeft W) _ (λ e k. k.green) es (once_each (IsLeft W) es h)) in
      let y = marks_walk xs es out_links V r.1 (left_kept x.link W V es (mark_apart S t x.link W) apart h) (out_links_mark S t n x.link t out_links W s) in
      ((cases.mark x.link W r.0.0, y.0), y.1, y.2)

  -- each move of a node's turn is such in the world in which it is made
  pub node_walk : (W : World) → Along F S t (node_turns S t n W) W
  unfolding node_moves into
  node_walk W =
      let see = node_view S t n W in
      let all = in_links_once S t n W 0 (length S.links) in
      let some = once_filter (IsInLink S t n W) (IsInLink S t n W) (λ (e : InLink). not (is_nil e.rows)) (λ e q k. k) see.in_links all in
      let reds = each_filter (IsInLink S t n W) IsRed (λ (e : InLink). not e.green) (λ e q k. (k.into, sym k.green ∙ not-true e.green q)) (ready see.in_links) (once_each (IsInLink S t n W) (ready see.in_links) some) in
      let greens = once_filter (IsInLink S t n W) (IsLeft W) (λ (e : InLink). e.green) (λ e q k. record { into = k.into; green = sym k.green ∙ q; rows = k.rows }) (ready see.in_links) some in
      let es = candidates see.in_links in
      let y = marks_walk (red see.in_links) es see.out_links W reds greens (λ l. refl) in
      along_append F S t (map (mark t) (red see.in_links)) _ W y.0 (draw_walk (S.word n) (length es) 0 es see.out_links (run S t (map (mark t) (red see.in_links)) W) y.1 y.2)
