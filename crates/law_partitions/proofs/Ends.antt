-- The second alone gives what is held next, and absorbing makes that ready: lists, credits, rows and holes.
use Rattle.traffic.proofs.Common.{◌≡◌, ℕ, List, ◌∙◌, length, ap, refl, sym, [], ◌∷◌, arith, true, ◌++◌, ◌+◌, Bool, inl, inr, subst, ◌≤◌, false, suc, eqb, zero}
use Rattle.traffic.proofs.Common.{◌-◌, append-nil, length-append, take, fun_ext, cases_Bool, eqb-true, cases_lt, ne_eqb, get_or_past, filter-append, flat_map}
use Rattle.traffic.proofs.Common.{filter, not, nat_le, replicate, world_at, link_turns, turns_in, world_start, moves_of, Untouched, below, numbers}
use Rattle.traffic.proofs.Common.{at_after_all, credit_after_all, World, at, holes_at, credit_of, Setup, hole_of}
use Rattle.traffic.proofs.{Links.link-at, Sublists.credits-run, Sublists.Untouched-append, Sublists.at-run_untouched, Sublists.at_after_all-untouched}
use Rattle.traffic.{proofs.Walks.credits_start, proofs.Walks.credits_day, specs.declared.moves.Move.Move, specs.declared.stage.Stage.Stage}
use Rattle.traffic.specs.declared.stage.Stage.TheVariants.{Queue, Buffer, Wait, Bay}
use Rattle.traffic.specs.declared.world.Row.{Row}
use Rattle.events.specs.declared.event.Phase.TheVariants as phase
use Rattle.parts.specs.Owners.{Owner, owner_of, begins_in, crosses, lag}
use Rattle.parts.specs.Parts.{Held, freed, came, went, came_last, went_last, lasting, late_rows, known_list, up, has, unheard, held, ready}
use Rattle.law_partitions.proofs.{Begins.Ready, Begins.Calm, Begins.begins, Begins.early_rows, Begins.early_holes, Early.mid, Early.mid-list, Early.world-next}
use Rattle.law_partitions.proofs.{Early.came_is, Early.went_is, Early.A_world, Early.B1_world, Heard.crossing, Heard.not_crossing, Heard.within}
use Rattle.law_partitions.proofs.{Heard.known_whole, Heard.late_of, Heard.heard, History.known, History.went_none, History.lasting-next, History.holes-world}
use Rattle.law_partitions.proofs.{Joined.given-self, Joined.queue_more, Joined.rows_more, Lags.in_range, Lags.LongHops, Lags.lag-some, Late.freed-append}
use Rattle.law_partitions.proofs.{Late.freed_other, Places.credit-append, Places.credit_all_other, Places.D_after-credit, Places.D-length, Places.out-went}
use Rattle.law_partitions.proofs.{Places.out-none, Places.D_after-rows, Places.D_after-holes, Second.C_world, Second.C_moves, Second.D_moves}
use Rattle.law_partitions.proofs.Second.{came_in, went_in, next, D_moves-are, C-came, D_untouched, Short, held_run-list, held_run-credit, C_after-queue_own}
use Rattle.law_partitions.proofs.Second.{C_after-buffer, C_after-wait, C_after-bay, C_after-credit, D_part-moves, D_after-buffer, D_after-wait, D_after-bay}
use Rattle.law_partitions.proofs.{Second.D_after-queue_own, Second.D_border, Second.take_front, Turns.eqb_turn}
use Rattle.law_partitions.specs.Alone.{my_links, D_part, early, after_C, after_D, alone, rows_to, freed_of, with_rows, absorb, given}

-- LINKS THAT ARE NOT THERE
credits-length : (S : Setup) (t : ℕ) → length (world_at S t).credits ≡ length S.links
credits-length S t = credits_day S (world_start S) t (credits_start S)

past_links : (S : Setup) (t l : ℕ) (s : Stage) (mine : ℕ → Bool) (V : World) (k c : ℕ) → k + c ≤ l → Untouched l s (flat_map (λ n. link_turns S t n V) (filter mine (numbers k c)))
past_links S t l s mine V k zero h = tt
past_links S t l s mine V k (suc c) h =
    let r = past_links S t l s mine V (k + 1) c (omega arith) in
    elim (cases_Bool (mine k)) [
      | inl e ↦ simp e (Untouched-append l s (link_turns S t k V) _ (D_untouched S t l k s V (ne_eqb k l (λ q. omega arith))) r)
      | inr e ↦ simp e r
    ]

all_true : (ns : List ℕ) → filter (λ n. true) ns ≡ ns
all_true [] = refl
all_true (n ∷ ns) = ap (λ xs. n ∷ xs) (all_true ns)

pub past_next : (S : Setup) (t l : ℕ) (s : Stage) (W : World) → length S.links ≤ l → at l s (next S t W) ≡ at l s (C_world S t W)
past_next S t l s W h =
    let U = C_world S t W in
    let ns = below (length S.links) in
    at-run_untouched S t l s (D_moves S t U) U (rw (D_moves-are S t U) (subst (λ xs. Untouched l s (flat_map (λ n. link_turns S t n U) xs)) (all_true ns) (past_links S t l s (λ n. true) U 0 (length S.links) (omega arith))))

past_freed : (S : Setup) (t l : ℕ) (mine : ℕ → Bool) (V : World) (k c : ℕ) → k + c ≤ l → freed l (flat_map (λ n. link_turns S t n V) (filter mine (numbers k c))) ≡ 0
past_freed S t l mine V k zero h = refl
past_freed S t l mine V k (suc c) h =
    let plan : ℕ → List Move = λ n. link_turns S t n V in
    let r = past_freed S t l mine V (k + 1) c (omega arith) in
    elim (cases_Bool (mine k)) [
      | inl e ↦ rw e (let a = freed-append l (plan k) (flat_map plan (filter mine (numbers (k + 1) c))) in let b = freed_other l k (plan k) (λ q. omega arith) (link-at S t k V) in omega arith)
      | inr e ↦ rw e r
    ]

past_credit : (S : Setup) (t l : ℕ) (mine : ℕ → Bool) (V : World) (k c : ℕ) (x : ℕ) → k + c ≤ l → credit_after_all l (flat_map (λ n. link_turns S t n V) (filter mine (numbers k c))) x ≡ x
past_credit S t l mine V k zero x h = refl
past_credit S t l mine V k (suc c) x h =
    let plan : ℕ → List Move = λ n. link_turns S t n V in
    let r = past_credit S t l mine V (k + 1) c x (omega arith) in
    elim (cases_Bool (mine k)) [
      | inl e ↦ rw e (credit-append l (plan k) (flat_map plan (filter mine (numbers (k + 1) c))) x ∙ ap (credit_after_all l (flat_map plan (filter mine (numbers (k + 1) c)))) (credit_all_other l k (plan k) x (λ q. omega arith) (link-at S t k V)) ∙ r)
      | inr e ↦ rw e r
    ]

went_past : (S : Setup) (t l : ℕ) (U : World) → length S.links ≤ l → went_in S t U l ≡ 0
went_past S t l U h = ap (freed l) (D_moves-are S t U) ∙ ap (λ xs. freed l (flat_map (λ n. link_turns S t n U) xs)) (sym (all_true (below (length S.links)))) ∙ past_freed S t l (λ n. true) U 0 (length S.links) (omega arith)

-- THE SECOND ALONE
-- the seconds that p has not heard of before its second
abbrev pub less : Setup → Owner → ℕ → ℕ → ℕ
less S own q p = lag S own q p - 1

module _ (S : Setup) (own : Owner) (p t : ℕ) (long : LongHops S) (c : Calm S own p t (has S own (less S own) p t)) where
  abbrev k : ℕ → ℕ → ℕ
  k = less S own

  abbrev late : ℕ → List Row
  late = late_of S own k p t

  abbrev mine_p : ℕ → Bool
  mine_p = has S own k p t

  abbrev R : Held
  R = ready S own p t

  abbrev h : Ready S own p t late mine_p (world_at S t) R
  h = heard S own k p t (within S own long)

  abbrev E : Held
  E = early S own p t R

  abbrev V : World
  V = mid S t

  pub sh : Short S own p t late mine_p V E
  sh = begins S own p t late mine_p R h c

  abbrev A : Held
  A = after_C S own p t E

  abbrev B : Held
  B = after_D S own p t A

  past_D : (l : ℕ) (s : Stage) → length S.links ≤ l → B.list l s ≡ A.list l s
  past_D l s past =
      held_run-list S t l s (moves_of (D_part S own p t A)) A
      ∙ ap (λ ms. at_after_all l s ms (A.list l s)) (D_part-moves S own p t late mine_p V E sh)
      ∙ at_after_all-untouched l s (flat_map (λ n. link_turns S t n (C_world S t V)) (my_links S own p)) (A.list l s) (past_links S t l s (λ n. eqb (owner_of S own n) p) (C_world S t V) 0 (length S.links) (omega arith))

  to_next : (l : ℕ) (s : Stage) → at l s (next S t V) ≡ at l s (world_at S (suc t))
  to_next l s = ap (at l s) (sym (world-next S t))

  queue_here : (l : ℕ) → eqb (owner_of S own l) p ≡ true → eqb (begins_in S own l) p ≡ true → B.list l Queue ≡ at l Queue (world_at S (suc t))
  queue_here l e g = elim (cases_lt l (length S.links)) [
    | inl lt ↦ D_after-queue_own S own p t late mine_p V E sh l lt e g
    | inr past ↦ past_D l Queue past ∙ C_after-queue_own S own p t late mine_p V E sh l e g ∙ sym (past_next S t l Queue V past)
  ] ∙ to_next l Queue

  buffer_next : (l : ℕ) → eqb (owner_of S own l) p ≡ true → B.list l Buffer ≡ at l Buffer (world_at S (suc t))
  buffer_next l e = elim (cases_lt l (length S.links)) [
    | inl lt ↦ D_after-buffer S own p t late mine_p V E sh l lt e
    | inr past ↦ past_D l Buffer past ∙ C_after-buffer S own p t late mine_p V E sh l e ∙ sym (past_next S t l Buffer V past)
  ] ∙ to_next l Buffer

  wait_next : (l : ℕ) → eqb (owner_of S own l) p ≡ true → B.list l Wait ≡ at l Wait (world_at S (suc t))
  wait_next l e = elim (cases_lt l (length S.links)) [
    | inl lt ↦ D_after-wait S own p t late mine_p V E sh l lt e
    | inr past ↦ past_D l Wait past ∙ C_after-wait S own p t late mine_p V E sh l e ∙ sym (past_next S t l Wait V past)
  ] ∙ to_next l Wait

  bay_next : (l : ℕ) → eqb (owner_of S own l) p ≡ true → B.list l Bay ≡ at l Bay (world_at S (suc t))
  bay_next l e = elim (cases_lt l (length S.links)) [
    | inl lt ↦ D_after-bay S own p t late mine_p V E sh l lt e
    | inr past ↦ past_D l Bay past ∙ C_after-bay S own p t late mine_p V E sh l e ∙ sym (past_next S t l Bay V past)
  ] ∙ to_next l Bay

  -- the last seconds, one more
  late_more : (l d : ℕ) → came_last S l (suc t) (suc d) ≡ came_last S l t d ++ came S l t
  unfolding came_last
  late_more l d = refl

  gone_more : (m d : ℕ) → went_last S m (suc t) (suc d) ≡ went_last S m t d + went S m t
  unfolding went_last
  gone_more m d = refl

  queue_border : (l : ℕ) → eqb (owner_of S own l) p ≡ true → eqb (begins_in S own l) p ≡ false → B.list l Queue ≡ known_list S own (lag S own) (suc t) l Queue
  queue_border l e g =
      let cr : crosses S own l ≡ true = crossing S own p l e ∙ ap not g in
      let lt = in_range S own l cr in
      let q = begins_in S own l in
      let o = owner_of S own l in
      let some = lag-some S own long q o in
      let d = lag S own q o - 1 in
      let i : lag S own q o ≡ suc d = omega arith in
      let now : late_rows S own (lag S own) (suc t) l ≡ late l ++ came_in S t V l = (rw (cr, g) (ap (came_last S l (suc t)) i ∙ late_more l d ∙ ap (λ xs. came_last S l t d ++ xs) (came_is S l t))) in
      let b : at l Queue (world_at S (suc t)) ≡ B.list l Queue ++ (late l ++ came_in S t V l) = sym (to_next l Queue) ∙ D_border S own p t late mine_p V E sh l lt e g in
      sym (ap (λ (xs : List Row). take (length (at l Queue (world_at S (suc t))) - length xs) (at l Queue (world_at S (suc t)))) now
      ∙ ap (λ (xs : List Row). take (length xs - length (late l ++ came_in S t V l)) xs) b
      ∙ take_front (B.list l Queue) (late l ++ came_in S t V l))

  queue_own : (l : ℕ) → eqb (owner_of S own l) p ≡ true → eqb (begins_in S own l) p ≡ true → B.list l Queue ≡ known_list S own (lag S own) (suc t) l Queue
  queue_own l e g = let cr = not_crossing S own p l e g in queue_here l e g ∙ sym (rw cr (known_whole S l (suc t)))

  one_list : (l : ℕ) (s : Stage) → eqb (owner_of S own l) p ≡ true → B.list l s ≡ known_list S own (lag S own) (suc t) l s
  one_list l Queue e = elim (cases_Bool (eqb (begins_in S own l) p)) [ inl g ↦ queue_own l e g | inr g ↦ queue_border l e g ]
  one_list l Buffer e = buffer_next l e
  one_list l Wait e = wait_next l e
  one_list l Bay e = bay_next l e

  pub alone-list : (alone S own p t R).list ≡ (held S own p (suc t)).list
  unfolding alone unheard
  alone-list = fun_ext (λ l. fun_ext (λ s. elim (cases_Bool (eqb (owner_of S own l) p)) [ inl e ↦ rw e (one_list l s e) | inr e ↦ rw e refl ]))

  one_credit : (l : ℕ) → eqb (owner_of S own l) p ≡ true → B.credit l ≡ credit_of l (world_at S (suc t))
  one_credit l e =
      let n0 = credits-length S t in
      let W1 = A_world S t (world_at S t) in
      let W2 = B1_world S t W1 in
      let n1 = credits-run S t (moves_of (turns_in S t phase.A (world_at S t))) (world_at S t) in
      let n2 = credits-run S t (moves_of (turns_in S t phase.B1 W1)) W1 in
      let n3 = credits-run S t (moves_of (turns_in S t phase.B2 W2)) W2 in
      let n4 = credits-length S (suc t) in
      let n5 = credits-run S t (C_moves S t V) V in
      elim (cases_lt l (length S.links)) [
        | inl lt ↦ D_after-credit S own p t late mine_p V E sh l (omega arith) e ∙ ap (credit_of l) (sym (world-next S t))
        | inr past ↦
            held_run-credit S t l (moves_of (D_part S own p t A)) A
            ∙ ap (λ ms. credit_after_all l ms (A.credit l)) (D_part-moves S own p t late mine_p V E sh)
            ∙ past_credit S t l (λ n. eqb (owner_of S own n) p) (C_world S t V) 0 (length S.links) (A.credit l) (omega arith)
            ∙ C_after-credit S own p t late mine_p V E sh l e
            ∙ get_or_past (C_world S t V).credits l 0 (omega arith) ∙ sym (get_or_past (world_at S (suc t)).credits l 0 (omega arith))
      ]

  pub alone-credit : (alone S own p t R).credit ≡ (held S own p (suc t)).credit
  unfolding alone unheard
  alone-credit = fun_ext (λ l. elim (cases_Bool (eqb (owner_of S own l) p)) [ inl e ↦ rw e (one_credit l e) | inr e ↦ rw e refl ])

  -- what its links free
  pub frees_own : (m : ℕ) → eqb (owner_of S own m) p ≡ true → freed m (moves_of (D_part S own p t A)) ≡ went S m t
  frees_own m e = elim (cases_lt m (length S.links)) [
    | inl lt ↦ out-went S own p t late mine_p V E sh m lt e
    | inr past ↦ ap (freed m) (D_part-moves S own p t late mine_p V E sh) ∙ past_freed S t m (λ n. eqb (owner_of S own n) p) (C_world S t V) 0 (length S.links) (omega arith) ∙ sym (went_past S t m (C_world S t V) past)
  ] ∙ sym (went_is S m t)

  -- how the day's queue changes
  lengths : (m : ℕ) → length (at m Queue (world_at S (suc t))) + went S m t ≡ length (at m Queue (world_at S t)) + length (came_in S t V m)
  lengths m =
      let a = ap length (to_next m Queue) in
      let b = ap length (C-came S t m V) in
      let z = length-append (at m Queue V) (came_in S t V m) in
      let d = ap length (mid-list S t m Queue refl) in
      let w = went_is S m t in
      elim (cases_lt m (length S.links)) [
        | inl lt ↦ let f = D-length S t m (C_world S t V) lt in omega arith
        | inr past ↦ let f = ap length (past_next S t m Queue V past) in let g = went_past S t m (C_world S t V) past in omega arith
      ]

  ready_rows : (m : ℕ) → eqb (begins_in S own m) p ≡ true → R.rows m ≡ length (at m Queue (world_at S t)) + went_last S m t (up S own k m)
  unfolding unheard
  ready_rows m g = rw g refl

  ready_holes : (m : ℕ) → eqb (begins_in S own m) p ≡ true → R.holes m ≡ lasting t (hole_of S m) (holes_at m (world_at S (t - up S own k m)))
  unfolding unheard
  ready_holes m g = rw g refl

  crosses_from : (m : ℕ) → eqb (begins_in S own m) p ≡ true → eqb (owner_of S own m) p ≡ false → crosses S own m ≡ true
  crosses_from m g f = let q = eqb-true (begins_in S own m) p g in ap (λ x. not (eqb x (owner_of S own m))) q ∙ ap not (eqb_turn (owner_of S own m) p f)

  one_rows : (m : ℕ) → eqb (begins_in S own m) p ≡ true → B.rows m ≡ length (at m Queue (world_at S (suc t))) + went_last S m (suc t) (up S own (lag S own) m)
  one_rows m g =
      let a = D_after-rows S own p t late mine_p V E sh m g in
      let b = early_rows S own p t late mine_p R h c m in
      let r = ready_rows m g in
      let n = lengths m in
      elim (cases_Bool (eqb (owner_of S own m) p)) [
        | inl e ↦
            let cr = not_crossing S own p m e g in
            let f = frees_own m e in
            let u0 : went_last S m t (up S own k m) ≡ 0 = (rw cr (went_none S m t)) in
            let u1 : went_last S m (suc t) (up S own (lag S own) m) ≡ 0 = (rw cr (went_none S m (suc t))) in omega arith
        | inr e ↦
            let cr = crosses_from m g e in
            let f = out-none S own p t late mine_p V E sh m e in
            let o = owner_of S own m in
            let q = begins_in S own m in
            let some = lag-some S own long o q in
            let i : lag S own o q ≡ suc (lag S own o q - 1) = omega arith in
            let u0 : went_last S m t (up S own k m) ≡ went_last S m t (lag S own o q - 1) = (rw cr refl) in
            let u1 : went_last S m (suc t) (up S own (lag S own) m) ≡ went_last S m t (lag S own o q - 1) + went S m t = (rw cr (ap (went_last S m (suc t)) i ∙ gone_more m (lag S own o q - 1))) in omega arith
      ]

  pub alone-rows : (alone S own p t R).rows ≡ (held S own p (suc t)).rows
  unfolding alone unheard
  alone-rows = fun_ext (λ m. elim (cases_Bool (eqb (begins_in S own m) p)) [ inl g ↦ rw g (one_rows m g) | inr g ↦ rw g refl ])

  one_holes : (m : ℕ) → eqb (begins_in S own m) p ≡ true → lasting (suc t) (hole_of S m) (B.holes m) ≡ lasting (suc t) (hole_of S m) (holes_at m (world_at S (suc t - up S own (lag S own) m)))
  one_holes m g =
      let hs = holes_at m (world_at S (t - up S own k m)) in
      let fr = freed m (moves_of (D_part S own p t A)) in
      let pass : ℕ → Bool = λ s. nat_le (suc t) (s + hole_of S m) in
      let a : B.holes m ≡ lasting t (hole_of S m) hs ++ replicate fr t = D_after-holes S own p t late mine_p V E sh m ∙ ap (λ xs. xs ++ replicate fr t) (early_holes S own p t late mine_p R h c m ∙ ready_holes m g) in
      ap (lasting (suc t) (hole_of S m)) a
      ∙ filter-append pass (lasting t (hole_of S m) hs) (replicate fr t)
      ∙ ap (λ xs. xs ++ lasting (suc t) (hole_of S m) (replicate fr t)) (lasting-next t (hole_of S m) hs)
      ∙ elim (cases_Bool (eqb (owner_of S own m) p)) [
        | inl e ↦
            let cr = not_crossing S own p m e g in
            let i0 : t - up S own k m ≡ t = (rw cr (omega arith)) in
            let i1 : suc t - up S own (lag S own) m ≡ suc t = (rw cr (omega arith)) in
            let w = frees_own m e in
            sym (filter-append pass hs (replicate fr t))
            ∙ ap (λ j. lasting (suc t) (hole_of S m) (holes_at m (world_at S j) ++ replicate fr t)) i0
            ∙ ap (λ n. lasting (suc t) (hole_of S m) (holes_at m (world_at S t) ++ replicate n t)) w
            ∙ ap (lasting (suc t) (hole_of S m)) (sym (holes-world S t m))
            ∙ ap (λ j. lasting (suc t) (hole_of S m) (holes_at m (world_at S j))) (sym i1)
        | inr e ↦
            let cr = crosses_from m g e in
            let o = owner_of S own m in
            let q = begins_in S own m in
            let some = lag-some S own long o q in
            let i : t - up S own k m ≡ suc t - up S own (lag S own) m = (rw cr (omega arith)) in
            let z = out-none S own p t late mine_p V E sh m e in
            ap (λ n. lasting (suc t) (hole_of S m) hs ++ lasting (suc t) (hole_of S m) (replicate n t)) z
            ∙ append-nil (lasting (suc t) (hole_of S m) hs)
            ∙ ap (λ j. lasting (suc t) (hole_of S m) (holes_at m (world_at S j))) i
      ]

  pub alone-holes : (alone S own p t R).holes ≡ (held S own p (suc t)).holes
  unfolding alone unheard
  alone-holes = fun_ext (λ m. elim (cases_Bool (eqb (begins_in S own m) p)) [ inl g ↦ rw g (one_holes m g) | inr g ↦ rw g refl ])

-- ABSORBING
module _ (S : Setup) (own : Owner) (parts p t : ℕ) (long : LongHops S) where
  abbrev got : Held
  got = absorb S own parts p t (given S own p t) (held S own p t)

  take_in : (l : ℕ) → eqb (owner_of S own l) p ≡ true → known_list S own (lag S own) t l Queue ++ rows_to l (given S own p t (begins_in S own l)) ≡ known_list S own (less S own) t l Queue
  take_in l e = elim (cases_Bool (eqb (begins_in S own l) p)) [
    | inl g ↦
        let cr = not_crossing S own p l e g in
        let z = given-self S own p t (begins_in S own l) g in
        ap (λ x. known_list S own (lag S own) t l Queue ++ rows_to l x) z ∙ append-nil (known_list S own (lag S own) t l Queue) ∙ (rw cr refl)
    | inr g ↦
        let cr : crosses S own l ≡ true = crossing S own p l e ∙ ap not g in
        let o = owner_of S own l in
        let q = begins_in S own l in
        let some = lag-some S own long q o in
        let d = lag S own q o - 1 in
        let i : lag S own q o ≡ suc d = omega arith in
        let r = eqb-true o p e in
        let m = queue_more S own l t d long cr i in
        rw cr (ap (λ j. known S t j l ++ rows_to l (given S own p t q)) i ∙ ap (λ x. known S t (suc d) l ++ rows_to l (given S own x t q)) (sym r) ∙ m)
  ]

  one_in : (l : ℕ) (s : Stage) → eqb (owner_of S own l) p ≡ true → with_rows s (known_list S own (lag S own) t l s) (rows_to l (given S own p t (begins_in S own l))) ≡ known_list S own (less S own) t l s
  one_in l Queue e = take_in l e
  one_in l Buffer e = refl
  one_in l Wait e = refl
  one_in l Bay e = refl

  pub absorb-list : got.list ≡ (ready S own p t).list
  unfolding absorb unheard
  absorb-list = fun_ext (λ l. fun_ext (λ s. elim (cases_Bool (eqb (owner_of S own l) p)) [ inl e ↦ rw e (one_in l s e) | inr e ↦ rw e refl ]))

  pub absorb-credit : got.credit ≡ (ready S own p t).credit
  unfolding absorb unheard
  absorb-credit = refl

  places_in : (m : ℕ) → eqb (begins_in S own m) p ≡ true →
      ((length (at m Queue (world_at S t)) + went_last S m t (up S own (lag S own) m)) - freed_of m (given S own p t (owner_of S own m)) ≡ length (at m Queue (world_at S t)) + went_last S m t (up S own (less S own) m))
      × (lasting t (hole_of S m) (holes_at m (world_at S (t - up S own (lag S own) m))) ++ replicate (freed_of m (given S own p t (owner_of S own m))) (t - lag S own (owner_of S own m) p) ≡ lasting t (hole_of S m) (holes_at m (world_at S (t - up S own (less S own) m))))
  places_in m g = elim (cases_Bool (eqb (owner_of S own m) p)) [
    | inl e ↦
        let cr = not_crossing S own p m e g in
        let z : freed_of m (given S own p t (owner_of S own m)) ≡ 0 = ap (freed_of m) (given-self S own p t (owner_of S own m) e) in
        (rw (cr, z) (omega arith), rw (cr, z) (append-nil (lasting t (hole_of S m) (holes_at m (world_at S (t - 0))))))
    | inr e ↦
        let q = begins_in S own m in
        let o = owner_of S own m in
        let r = eqb-true q p g in
        let cr : crosses S own m ≡ true = ap (λ x. not (eqb x o)) r ∙ ap not (eqb_turn o p e) in
        let some = lag-some S own long o q in
        let u = lag S own o q - 1 in
        let i : lag S own o q ≡ suc u = omega arith in
        let j : lag S own o p ≡ suc u = ap (lag S own o) (sym r) ∙ i in
        let w = rows_more S own m t u cr i in
        let f : freed_of m (given S own q t o) ≡ freed_of m (given S own p t o) = ap (λ x. freed_of m (given S own x t o)) r in
        let a = w.0 in
        let b : went_last S m t (lag S own o q) ≡ went_last S m t (suc u) = ap (went_last S m t) i in (
          rw cr (omega arith),
          rw cr (ap (λ y. lasting t (hole_of S m) (holes_at m (world_at S (t - y))) ++ replicate (freed_of m (given S own p t o)) (t - lag S own o p)) i
              ∙ ap (λ y. lasting t (hole_of S m) (holes_at m (world_at S (t - suc u))) ++ replicate (freed_of m (given S own p t o)) (t - y)) j
              ∙ ap (λ n. lasting t (hole_of S m) (holes_at m (world_at S (t - suc u))) ++ replicate n (t - suc u)) (sym f)
              ∙ w.1),
        )
  ]

  pub absorb-rows : got.rows ≡ (ready S own p t).rows
  unfolding absorb unheard
  absorb-rows = fun_ext (λ m. elim (cases_Bool (eqb (begins_in S own m) p)) [ inl g ↦ rw g (places_in m g).0 | inr g ↦ rw g refl ])

  pub absorb-holes : got.holes ≡ (ready S own p t).holes
  unfolding absorb unheard
  absorb-holes = fun_ext (λ m. elim (cases_Bool (eqb (begins_in S own m) p)) [ inl g ↦ rw g (places_in m g).1 | inr g ↦ rw g refl ])
