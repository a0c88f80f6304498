-- One second of a part: its credits, the rows and holes of the links that begin in it, and what it sends.
use Rattle.traffic.proofs.Common.{◌≡◌, ℕ, List, ◌∙◌, length, ap, refl, sym, [], ◌∷◌, arith, ◌<◌, true, ◌++◌, ◌+◌, Bool, inl, inr, false, eqb, ◌-◌, ◌≢◌, drop}
use Rattle.traffic.proofs.Common.{append-nil, append_assoc, length-append, drop-append_seam, cases_Bool, eq-eqb, true≢false, nat_tests, flat_map-append}
use Rattle.traffic.proofs.Common.{flat_map, filter, link_turns, moves_of, AreAt, IsAt, rules, link_state, waiting, buffered, LinkState, link_moves, below}
use Rattle.traffic.proofs.Common.{at_after_all, credit_after_all, hole_after_all, credit_after, hole_after, waiters, World, at, on, holes_at, credit_of, Setup}
use Rattle.traffic.proofs.{Common.link_row, Common.served_row, Each.each_all, Each.each_flat_all, LinkEach.serving_stage, LinkEach.FrontMoves, LinkEach.Have}
use Rattle.traffic.proofs.{LinkEach.link_each, Links.link-at, Sublists.holes-run, Sublists.credits-run, Sublists.credit-run, Turns.filter_one}
use Rattle.traffic.specs.declared.moves.Move.{Move, TheVariants.Transfer, TheVariants.Remove, TheVariants.Credit, TheVariants.LeaveHole}
use Rattle.traffic.specs.declared.{numbers.Rules.Rules, stage.Stage.Stage, stage.Stage.TheVariants.Queue, stage.Stage.TheVariants.Bay}
use Rattle.traffic.specs.declared.world.{Row.Row, Waiter.Waiter}
use Rattle.std.{proofs.Common.length-drop, proofs.Math.ListN.replicate, proofs.lemmas.List.replicate-append-replicate, specs.List.AllByRecursion as Each}
use Rattle.parts.specs.{Owners.Owner, Owners.owner_of, Owners.begins_in, Parts.Held, Parts.enters_queue, Parts.frees, Parts.freed}
use Rattle.law_partitions.proofs.Handed.{AreHanded, entered, enters_put, frees_none, handed-adds, handed-holes}
use Rattle.law_partitions.proofs.Late.{freed-cons, freed-append, freed_other, link_moves-leaves}
use Rattle.law_partitions.proofs.Second.{C_world, D_world, C_moves, D_moves, came_in, went_in, next, D_moves-are, C-handed, C-came, D-list, Short}
use Rattle.law_partitions.proofs.Second.{held_run-credit, held_run-holes, C_mine, C_after, C_after-credit, D_part-moves, D_after, part-handed}
use Rattle.law_partitions.{proofs.Turns.not_mine, specs.Alone.held_done, specs.Alone.held_run, specs.Alone.my_links, specs.Alone.C_part, specs.Alone.D_part}

-- CREDITS
pub credit-append : (l : ℕ) (ms ns : List Move) (c : ℕ) → credit_after_all l (ms ++ ns) c ≡ credit_after_all l ns (credit_after_all l ms c)
credit-append l [] ns c = refl
credit-append l (m ∷ ms) ns c = credit-append l ms ns (credit_after l m c)

credit_one_other : (l n : ℕ) (m : Move) (c : ℕ) → l ≢ n → IsAt n m → credit_after l m c ≡ c
credit_one_other l n (Credit b d) c ne h = grind (arith, nat_tests)
credit_one_other l n _ c ne h = refl

pub credit_all_other : (l n : ℕ) (ms : List Move) (c : ℕ) → l ≢ n → AreAt n ms → credit_after_all l ms c ≡ c
credit_all_other l n [] c ne h = refl
credit_all_other l n (m ∷ ms) c ne h = ap (credit_after_all l ms) (credit_one_other l n m c ne h.0) ∙ credit_all_other l n ms c ne h.1

credit-filter : (S : Setup) (t : ℕ) (V : World) (mine : ℕ → Bool) (l : ℕ) → mine l ≡ true → (ns : List ℕ) (c : ℕ) →
    credit_after_all l (flat_map (λ n. link_turns S t n V) ns) c ≡ credit_after_all l (flat_map (λ n. link_turns S t n V) (filter mine ns)) c
credit-filter S t V mine l e [] c = refl
credit-filter S t V mine l e (n ∷ ns) c =
    let plan : ℕ → List Move = λ n. link_turns S t n V in
    elim (cases_Bool (mine n)) [
      | inl f ↦ simp f (credit-append l (plan n) (flat_map plan ns) c ∙ credit-filter S t V mine l e ns (credit_after_all l (plan n) c) ∙ sym (credit-append l (plan n) (flat_map plan (filter mine ns)) c))
      | inr f ↦ simp f (credit-append l (plan n) (flat_map plan ns) c
          ∙ ap (credit_after_all l (flat_map plan ns)) (credit_all_other l n (plan n) c (λ q. true≢false (sym e ∙ ap mine q ∙ f)) (link-at S t n V))
          ∙ credit-filter S t V mine l e ns c)
    ]

-- PLACES
pub entered-append : (m : ℕ) (xs ys : List Move) → entered m (xs ++ ys) ≡ entered m xs ++ entered m ys
entered-append m xs ys = flat_map-append (enters_queue (λ a. eqb a m)) xs ys

rows_adds : (S : Setup) (t l : ℕ) (ms : List Move) (H : Held) → AreHanded S t ms → (held_run S t ms H).rows l ≡ H.rows l + length (entered l ms)
rows_adds S t l [] H h = omega arith
rows_adds S t l (m ∷ ms) H h =
    let e = frees_none S t l m h.0 in
    let f = rows_adds S t l ms (held_done S t m H) h.1 in
    let k = length-append (enters_queue (λ a. eqb a l) m) (entered l ms) in omega arith

-- a link's moves put nothing into a queue, and free places in this second
abbrev pub Leaving : ℕ → Move → Type 0
Leaving t m = ((l : ℕ) → enters_queue (λ a. eqb a l) m ≡ []) × ((l : ℕ) (hs : List ℕ) → hole_after l m hs ≡ hs ++ replicate (frees l m) t)

abbrev pub AreLeaving : ℕ → List Move → Type 0
AreLeaving t ms = Each (Leaving t) ms

puts : (t : ℕ) (a : ℕ) (s : Stage) (k : ℕ) (was now : Row) → ((l : ℕ) → on l Queue now ≡ false) → Leaving t (Transfer a s k was now)
puts t a s k was now off = (λ l. let e = enters_put l a s k was now in let f = off l in e ∙ rw f refl, λ l hs. sym (append-nil hs))

quits : (t a : ℕ) (s : Stage) (k : ℕ) (was : Row) → Leaving t (Remove a s k was)
quits t a s k was = (λ l. refl, λ l hs. sym (append-nil hs))

pays : (t a c : ℕ) → Leaving t (Credit a c)
pays t a c = (λ l. refl, λ l hs. sym (append-nil hs))

digs : (t a : ℕ) → Leaving t (LeaveHole a t)
digs t a = (λ l. refl, λ l hs. elim (cases_Bool (eqb a l)) [ inl e ↦ simp e | inr e ↦ simp e (sym (append-nil hs)) ])

link-leaving : (K : Rules) (t l : ℕ) (ws : List Waiter) (L : LinkState) → AreLeaving t (link_moves K t l ws L)
link-leaving K t l ws L =
    let all : (xs : List Row) → Have (λ v. Unit {0}) xs = λ xs. each_all _ (λ r. tt) xs in
    let fronts : (s : Bool) → FrontMoves K t l (λ v. Unit {0}) (λ us. Unit {0}) (Leaving t) s =
    λ s. record {
      serve = λ us r h w. puts t l (serving_stage s) 0 r (served_row K.dwell t l us r.vehicle) (λ a. refl);
      left = λ v us w. tt;
      arrive = λ r h. quits t l (serving_stage s) 0 r;
      pass = λ b r h. puts t l (serving_stage s) 0 r (buffered t l b r) (λ a. refl);
      pay = λ c. pays t l c;
    } in
    link_each K t l (λ v. Unit {0}) (λ us. Unit {0}) (Leaving t) fronts (λ k r h. puts t l Bay k r (waiting l r) (λ a. refl)) (digs t l) ws L tt (all L.queue) (all L.wait) (all L.bay)

pub links-leaving : (S : Setup) (t : ℕ) (V : World) (ns : List ℕ) → AreLeaving t (flat_map (λ n. link_turns S t n V) ns)
links-leaving S t V ns = each_flat_all (Leaving t) (λ n. link_turns S t n V) (λ n. link-leaving (rules S n) t n (waiters S n V) (link_state n V)) ns

rows_frees : (S : Setup) (t l : ℕ) (ms : List Move) (H : Held) → AreLeaving t ms → (held_run S t ms H).rows l ≡ H.rows l - freed l ms
rows_frees S t l [] H h = omega arith
rows_frees S t l (m ∷ ms) H h =
    let e = ap length (h.0.0 l) in
    let g = freed-cons l m ms in
    let f = rows_frees S t l ms (held_done S t m H) h.1 in omega arith

pub dug : (l t : ℕ) (ms : List Move) (hs : List ℕ) → AreLeaving t ms → hole_after_all l ms hs ≡ hs ++ replicate (freed l ms) t
dug l t [] hs h = sym (append-nil hs)
dug l t (m ∷ ms) hs h =
    dug l t ms (hole_after l m hs) h.1
    ∙ ap (λ xs. xs ++ replicate (freed l ms) t) (h.0.1 l hs)
    ∙ append_assoc hs (replicate (frees l m) t) (replicate (freed l ms) t)
    ∙ ap (λ xs. hs ++ xs) (replicate-append-replicate (frees l m) (freed l ms) t)
    ∙ ap (λ n. hs ++ replicate n t) (sym (freed-cons l m ms))

append-cancel_left : (xs ys zs : List Row) → xs ++ ys ≡ xs ++ zs → ys ≡ zs
append-cancel_left xs ys zs e = sym (drop-append_seam xs ys) ∙ ap (drop (length xs)) e ∙ drop-append_seam xs zs

freed-filter : (S : Setup) (t : ℕ) (U : World) (mine : ℕ → Bool) (m : ℕ) → mine m ≡ true → (ns : List ℕ) →
    freed m (flat_map (λ n. link_turns S t n U) ns) ≡ freed m (flat_map (λ n. link_turns S t n U) (filter mine ns))
freed-filter S t U mine m e [] = refl
freed-filter S t U mine m e (n ∷ ns) =
    let plan : ℕ → List Move = λ n. link_turns S t n U in
    let k = freed-append m (plan n) (flat_map plan ns) in
    let r = freed-filter S t U mine m e ns in
    elim (cases_Bool (mine n)) [
      | inl f ↦ rw f (let g = freed-append m (plan n) (flat_map plan (filter mine ns)) in omega arith)
      | inr f ↦ rw f (let z = freed_other m n (plan n) (λ q. true≢false (sym e ∙ ap mine (sym q) ∙ f)) (link-at S t n U) in omega arith)
    ]

freed-one : (S : Setup) (t m : ℕ) (U : World) → m < length S.links → freed m (flat_map (λ n. link_turns S t n U) (below (length S.links))) ≡ freed m (link_turns S t m U)
freed-one S t m U lt =
    freed-filter S t U (λ n. eqb n m) m (eq-eqb m m refl) (below (length S.links))
    ∙ ap (λ ns. freed m (flat_map (λ n. link_turns S t n U) ns)) (filter_one m 0 (length S.links) (omega arith) (omega arith))
    ∙ ap (freed m) (append-nil (link_turns S t m U))

went-is : (S : Setup) (t m : ℕ) (U : World) → m < length S.links → went_in S t U m ≡ freed m (link_turns S t m U)
went-is S t m U lt = ap (freed m) (D_moves-are S t U) ∙ freed-one S t m U lt

-- how long the day's queue is after phase D
pub D-length : (S : Setup) (t m : ℕ) (U : World) → m < length S.links → length (at m Queue (D_world S t U)) + went_in S t U m ≡ length (at m Queue U)
D-length S t m U lt =
    let ms = link_turns S t m U in
    let h = link_moves-leaves (rules S m) t m (waiters S m U) (link_state m U) [] in
    let e : at m Queue (D_world S t U) ≡ drop (freed m ms) (at m Queue U) ++ [] = D-list S t m Queue U lt ∙ ap (at_after_all m Queue ms) (sym (append-nil (at m Queue U))) ∙ h.0 in
    let f = ap length (e ∙ append-nil (drop (freed m ms) (at m Queue U))) in
    let k = length-drop (freed m ms) (at m Queue U) in
    let w = went-is S t m U lt in
    let z = h.1 in omega arith

others_freed : (S : Setup) (t m : ℕ) (U : World) (mine : ℕ → Bool) → mine m ≡ false → (ns : List ℕ) → freed m (flat_map (λ n. link_turns S t n U) (filter mine ns)) ≡ 0
others_freed S t m U mine e [] = refl
others_freed S t m U mine e (n ∷ ns) =
    let plan : ℕ → List Move = λ n. link_turns S t n U in
    let r = others_freed S t m U mine e ns in
    elim (cases_Bool (mine n)) [
      | inl f ↦ rw f (let g = freed-append m (plan n) (flat_map plan (filter mine ns)) in
          let z = freed_other m n (plan n) (λ q. true≢false (sym f ∙ ap mine q ∙ e)) (link-at S t n U) in omega arith)
      | inr f ↦ rw f r
    ]

-- the day's holes
pub holes-next : (S : Setup) (t m : ℕ) (W : World) → holes_at m (next S t W) ≡ holes_at m W ++ replicate (went_in S t (C_world S t W) m) t
holes-next S t m W =
    let U = C_world S t W in
    let ms = D_moves S t U in
    let e : AreLeaving t ms = rw (D_moves-are S t U) (links-leaving S t U (below (length S.links))) in
    holes-run S t m ms U ∙ dug m t ms (holes_at m U) e
    ∙ ap (λ xs. xs ++ replicate (freed m ms) t) (holes-run S t m (C_moves S t W) W ∙ handed-holes S t m (C_moves S t W) (holes_at m W) (C-handed S t W))

module _ (S : Setup) (own : Owner) (p t : ℕ) (late : ℕ → List Row) (has : ℕ → Bool) (W : World) (H : Held) (h : Short S own p t late has W H) where
  abbrev A : Held
  A = C_after S own p t late has W H h

  abbrev B : Held
  B = D_after S own p t late has W H h

  abbrev U : World
  U = C_world S t W

  pub D_after-credit : (l : ℕ) → l < length W.credits → eqb (owner_of S own l) p ≡ true → B.credit l ≡ credit_of l (next S t W)
  D_after-credit l lt e =
      let c = credits-run S t (C_moves S t W) W in
      held_run-credit S t l (moves_of (D_part S own p t A)) A
      ∙ ap (λ ms. credit_after_all l ms (A.credit l)) (D_part-moves S own p t late has W H h)
      ∙ ap (credit_after_all l (flat_map (λ n. link_turns S t n U) (my_links S own p))) (C_after-credit S own p t late has W H h l e)
      ∙ sym (credit-filter S t U (λ n. eqb (owner_of S own n) p) l e (below (length S.links)) (credit_of l U))
      ∙ ap (λ ms. credit_after_all l ms (credit_of l U)) (sym (D_moves-are S t U))
      ∙ sym (credit-run S t l (D_moves S t U) U (omega arith))

  -- what the part's nodes put into the queue of a link that begins here is what came there
  pub out-came : (l : ℕ) → eqb (begins_in S own l) p ≡ true → entered l (moves_of (C_part S own p t H)) ≡ came_in S t W l
  out-came l g =
      let ms = moves_of (C_part S own p t H) in
      let a = C_mine S own p t late has W H h l Queue (λ n f. not_mine own p n (link_row S l).from g f) ∙ C-came S t l W in
      let b = handed-adds S t l ms (at l Queue W) (part-handed S own p t late has W H h) in
      append-cancel_left (at l Queue W) (entered l ms) (came_in S t W l) (sym b ∙ a)

  C_after-rows : (m : ℕ) → eqb (begins_in S own m) p ≡ true → A.rows m ≡ H.rows m + length (came_in S t W m)
  C_after-rows m g =
      let e = rows_adds S t m (moves_of (C_part S own p t H)) H (part-handed S own p t late has W H h) in
      let f = ap length (out-came m g) in omega arith

  -- what the part's links free is what went, for its own links, and nothing for others
  pub out-went : (l : ℕ) → l < length S.links → eqb (owner_of S own l) p ≡ true → freed l (moves_of (D_part S own p t A)) ≡ went_in S t U l
  out-went l lt e =
      ap (freed l) (D_part-moves S own p t late has W H h)
      ∙ sym (freed-filter S t U (λ n. eqb (owner_of S own n) p) l e (below (length S.links)))
      ∙ freed-one S t l U lt
      ∙ sym (went-is S t l U lt)

  pub out-none : (l : ℕ) → eqb (owner_of S own l) p ≡ false → freed l (moves_of (D_part S own p t A)) ≡ 0
  out-none l e = ap (freed l) (D_part-moves S own p t late has W H h) ∙ others_freed S t l U (λ n. eqb (owner_of S own n) p) e (below (length S.links))

  part-leaving : AreLeaving t (moves_of (D_part S own p t A))
  part-leaving = rw (D_part-moves S own p t late has W H h) (links-leaving S t U (my_links S own p))

  -- rows and holes after the second
  pub D_after-rows : (m : ℕ) → eqb (begins_in S own m) p ≡ true → B.rows m ≡ (H.rows m + length (came_in S t W m)) - freed m (moves_of (D_part S own p t A))
  D_after-rows m g = rows_frees S t m (moves_of (D_part S own p t A)) A part-leaving ∙ ap (λ x. x - freed m (moves_of (D_part S own p t A))) (C_after-rows m g)

  pub D_after-holes : (m : ℕ) → B.holes m ≡ H.holes m ++ replicate (freed m (moves_of (D_part S own p t A))) t
  D_after-holes m =
      let ms = moves_of (D_part S own p t A) in
      held_run-holes S t m ms A ∙ dug m t ms (A.holes m) part-leaving
      ∙ ap (λ xs. xs ++ replicate (freed m ms) t) (held_run-holes S t m (moves_of (C_part S own p t H)) H ∙ handed-holes S t m (moves_of (C_part S own p t H)) (H.holes m) (part-handed S own p t late has W H h))
