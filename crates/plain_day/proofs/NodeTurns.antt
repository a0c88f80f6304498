-- The turn of a node, by what it sees.
use Rattle.traffic.proofs.Common.{◌≡◌, ℕ, List, ◌∙◌, length, ap, refl, sym, [], ◌∷◌, arith, ◌<◌, true, ◌+◌, Bool, inl, inr, ◌≤◌, false, suc, eqb, zero, get_or}
use Rattle.traffic.proofs.Common.{cases_Bool, eqb-true, and_parts, eq-eqb, ne_eqb, lt-ltb, nat_tests, length-map, length-filter, list_any, map, filter, None}
use Rattle.traffic.proofs.Common.{nat_lt, ◌==◌, nat_eq, word, LinkRow, node_turns, below, numbers, in_link, node_view, out_link, ready, node_moves, World, on}
use Rattle.traffic.proofs.{Common.rank, Common.Setup, Common.into, Common.or_parts, Common.true≢false, Idle.node_idle}
use Rattle.traffic.specs.declared.{moves.Move.Move, node_views.InLink.InLink, stage.Stage.TheVariants.Buffer, world.Row.Row}
use Rattle.limits.specs.declared.TheConstants.{MAX_IN_LINKS}
use Rattle.std.{proofs.lemmas.List.get_or_default, specs.List.AllByRecursion as Each}
use Rattle.draws.specs.Words.{Source, node_source}
use Rattle.law_in_range.specs.{Rows.Counts, Rows.IsFitWorld, Setups.counts_in}
use Rattle.rows.specs.Networks.{in_links as count_in_links}
use Rattle.town.specs.{Setups.setup_of, Views.setup, declared.day_input.DayInput.DayInput}
use Rattle.plain_turns.specs.{OutLinks.out_links_in, OutLinks.node_view_of, declared.out_links.OutLinkRow.OutLinkRow}
use Rattle.plain_day.proofs.{Agree.Agree, Agree.Goes, Agree.node_same, Fitting.going_at, Seen.into_is}
use Rattle.plain_day.specs.Views.{out_link_row, is_out, is_in, is_before}
use Rattle.person_moves.proofs.LinkRows.{row_is}

-- THE EXITS
-- no link before the first number is among these
before_first : (S : Setup) (t n : ℕ) (W : World) (l k m : ℕ) → l < k → out_links_in (map (out_link_row S t W) (filter (is_out S n) (numbers k m))) l ≡ None
unfolding out_links_in
before_first S t n W l k zero h = refl
before_first S t n W l k (suc m) h =
    let i = before_first S t n W l (k + 1) m (omega arith) in
    let e : eqb k l ≡ false = ne_eqb k l (λ p. omega arith) in
    elim (cases_Bool (is_out S n k)) [ inl q ↦ simp (q, e) i | inr q ↦ simp q i ]

out_links_from : (S : Setup) (t n : ℕ) (W : World) (l k m : ℕ) → k ≤ l → l < k + m → out_links_in (map (out_link_row S t W) (filter (is_out S n) (numbers k m))) l ≡ out_link S t n W l
unfolding out_links_in
out_links_from S t n W l k zero h g = absurd (omega arith)
out_links_from S t n W l k (suc m) h g =
    elim (cases_Bool (eqb k l)) [
      | inl e ↦ let p : k ≡ l = eqb-true k l e in rw (← p) (
          let s : eqb k k ≡ true = eq-eqb k k refl in
          elim (cases_Bool (is_out S n k)) [
            | inl q ↦ simp (q, s) refl
            | inr q ↦ simp q (before_first S t n W k (k + 1) m (omega arith))
          ])
      | inr e ↦
          let b : k + 1 ≤ l = grind (arith, nat_tests, e) in
          let i = out_links_from S t n W l (k + 1) m b (omega arith) in
          elim (cases_Bool (is_out S n k)) [ inl q ↦ simp (q, e) i | inr q ↦ simp q i ]
    ]

pub out_links_agree : (S : Setup) (t n links : ℕ) (W : World) → Agree links (out_links_in (map (out_link_row S t W) (filter (is_out S n) (below links)))) (out_link S t n W)
out_links_agree S t n links W l h = out_links_from S t n W l 0 links (omega arith) (omega arith)

-- THE ENTRIES
in_links_go : (S : Setup) (t : ℕ) (z : Counts) (W : World) (ls : List ℕ) → IsFitWorld z W → Each (Goes z.links) (map (in_link S t W) ls)
in_links_go S t z W [] h = tt
in_links_go S t z W (l ∷ ls) h = ((going_at z l W h).1, in_links_go S t z W ls h)

-- a buffer in which no row stands is empty
no_row : (S : Setup) (links n l : ℕ) (rows : List Row) → l < links → is_in S n l ≡ true → list_any (is_before S links n) rows ≡ false → filter (on l Buffer) rows ≡ []
no_row S links n l [] h i g = refl
no_row S links n l (r ∷ rs) h i g =
    let p = or_parts (is_before S links n r) (list_any (is_before S links n) rs) g in
    elim (cases_Bool (on l Buffer r)) [
      | inl e ↦
          let a = and_parts (rank r.stage == rank Buffer) (r.link == l) e in
          let q = eqb-true r.link l a.1 in
          let b : nat_lt r.link links ≡ true = lt-ltb r.link links (omega arith) in
          let c : is_in S n r.link ≡ true = ap (is_in S n) q ∙ i in
          let d : is_before S links n r ≡ true = (rw (a.0, b, c) refl) in
          absurd (true≢false (sym d ∙ p.0))
      | inr e ↦ simp e (no_row S links n l rs h i p.1)
    ]

none_ready : (S : Setup) (t links n : ℕ) (W : World) (k m : ℕ) → k + m ≤ links → list_any (is_before S links n) W.rows ≡ false →
    ready (map (in_link S t W) (filter (is_in S n) (numbers k m))) ≡ []
none_ready S t links n W k zero h g = refl
none_ready S t links n W k (suc m) h g =
    let i = none_ready S t links n W (k + 1) m (omega arith) g in
    elim (cases_Bool (is_in S n k)) [
      | inl q ↦ let e = no_row S links n k W.rows (omega arith) q g in simp (q, e) i
      | inr q ↦ simp q i
    ]

-- a node to which no row comes does nothing
pub quiet_is : (day : DayInput) (t n : ℕ) (W : World) (rows : List Row) → rows ≡ W.rows → list_any (is_before (setup day) (length day.town.now.network.links) n) rows ≡ false →
    node_turns (setup day) t n W ≡ []
unfolding setup_of into
quiet_is day t n W rows r g =
    let v : list_any (is_before (setup day) (length day.town.now.network.links) n) W.rows ≡ false = rw (← r) g in
    let e : ready (map (in_link (setup day) t W) (into (setup day) n)) ≡ []
    = ap (λ (ls : List ℕ). ready (map (in_link (setup day) t W) ls)) (into_is day n) ∙ none_ready (setup day) t (length day.town.now.network.links) n W 0 (length day.town.now.network.links) (omega arith) v in
    node_idle (setup day).settings.stuck t ((setup day).word n) (node_view (setup day) t n W) e

-- the turn of a node, by its parts
pub node_is : (day : DayInput) (t n : ℕ) (W : World) (in_links : List InLink) (out_links : List OutLinkRow) (draws : Source) (moves : List Move) → IsFitWorld (counts_in day) W →
    in_links ≡ map (in_link (setup day) t W) (into (setup day) n) →
    out_links ≡ map (out_link_row (setup day) t W) (filter (is_out (setup day) n) (below (length day.town.now.network.links))) →
    draws ≡ node_source day.town.now.seed day.iteration n → moves ≡ node_moves day.town.now.settings.stuck t (word draws) (node_view_of in_links out_links) → moves ≡ node_turns (setup day) t n W
unfolding setup_of into
node_is day t n W in_links out_links draws moves fit e x d m =
    let S = setup day in
    let links = length day.town.now.network.links in
    let es = map (in_link S t W) (into S n) in
    let agree : Agree links (out_links_in out_links) (out_link S t n W) = rw x (out_links_agree S t n links W) in
    m ∙ ap (λ (ys : List InLink). node_moves day.town.now.settings.stuck t (word draws) (record { in_links = ys; out_links = out_links_in out_links })) e
    ∙ node_same links day.town.now.settings.stuck t (word draws) es (out_links_in out_links) (out_link S t n W) agree (in_links_go S t (counts_in day) W (into S n) fit)
    ∙ ap (λ (s : Source). node_moves day.town.now.settings.stuck t (word s) (node_view S t n W)) d

-- AT MOST SIXTEEN LINKS
as_many : {X : Type 0} (f : ℕ → Bool) (q : X → Bool) (d : X) (k : ℕ) (xs : List X) → ((j : ℕ) → j < length xs → f (k + j) ≡ q (get_or xs j d)) → length (filter f (numbers k (length xs))) ≡ length (filter q xs)
as_many f q d k [] h = refl
as_many f q d k (x ∷ xs) h =
    let a : f k ≡ q x = ap f (let e : k ≡ k + 0 = omega arith in e) ∙ h 0 (omega arith) in
    let i = as_many f q d (k + 1) xs (λ j b. ap f (let e : k + 1 + j ≡ k + (j + 1) = omega arith in e) ∙ (let s : j + 1 < length (x ∷ xs) = omega arith in h (j + 1) s) ∙ ap (λ n. q (get_or (x ∷ xs) n d)) (let e : j + 1 ≡ suc j = omega arith in e)) in
    elim (cases_Bool (q x)) [
      | inl e ↦ let b = a ∙ e in simp (b, e) (ap suc i)
      | inr e ↦ let b = a ∙ e in simp (b, e) i
    ]

in_is : (day : DayInput) (n j : ℕ) (d : LinkRow) → j < length day.town.now.network.links → is_in (setup day) n j ≡ nat_eq (get_or day.town.now.network.links j d).to n
in_is day n j d h =
    let row = get_or day.town.now.network.links j d in
    ap (λ (r : LinkRow). r.to == n) (row_is day j row h (get_or_default day.town.now.network.links j d row h))

pub few_in_links : (day : DayInput) (t n : ℕ) (W : World) (in_links : List InLink) → in_links ≡ map (in_link (setup day) t W) (into (setup day) n) → count_in_links day.town.now.network.links n ≤ MAX_IN_LINKS → length in_links ≤ MAX_IN_LINKS
unfolding count_in_links
few_in_links day t n W in_links e h =
    let d : LinkRow = record { from = 0; to = 0; length = 0; speed = 0; capacity = 0; lanes = 0 } in
    let a : length in_links ≡ length (into (setup day) n) = ap length e ∙ length-map (into (setup day) n) (in_link (setup day) t W) in
    let b : length (into (setup day) n) ≡ length (filter (is_in (setup day) n) (below (length day.town.now.network.links))) = ap length (into_is day n) in
    let f : length (filter (is_in (setup day) n) (below (length day.town.now.network.links))) ≡ length (filter (λ (l : LinkRow). nat_eq l.to n) day.town.now.network.links)
    = as_many (is_in (setup day) n) (λ (l : LinkRow). nat_eq l.to n) d 0 day.town.now.network.links (λ j g. ap (is_in (setup day) n) (let q : 0 + j ≡ j = omega arith in q) ∙ in_is day n j d g) in
    let c = length-filter (λ (l : LinkRow). nat_eq l.to n) day.town.now.network.links in
    omega arith
