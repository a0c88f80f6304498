-- The walk over a link's turn: each of its moves, in the world in which it is made.
use Rattle.traffic.proofs.Common.{◌≡◌, ℕ, List, ◌∙◌, length, ap, refl, sym, [], ◌∷◌, true, ◌++◌, ◌+◌, Bool, inl, inr, subst, false, ◌-◌, append-nil}
use Rattle.traffic.proofs.Common.{append_assoc, length-append, slice_get, cases_Bool, eq-eqb, map, filter, Some, not, nat_lt, nat_le, raised, VEHICLE_COST}
use Rattle.traffic.proofs.Common.{link_turns, rules, link_state, waiting, buffered, is_last, may_pass, link_moves, leave_bay, from_queue, from_wait, wait_after}
use Rattle.traffic.proofs.Common.{without_at, Credit, Move, Transfer, Remove, LeaveHole, run, done, at_after, waiters, Row, World, at, on, Setup, Waiter}
use Rattle.traffic.proofs.Common.{served_row, calls_on, served_vehicle, left_behind}
use Rattle.traffic.proofs.LeftBehind.{serving_stage, serving, served_line, calm_line}
use Rattle.traffic.proofs.{Moments.Along, Moments.along_append, Moments.along_if, Sublists.at-done, Waiting.gone_calm, Waiting.pass_calm}
use Rattle.traffic.specs.declared.stage.Stage.TheVariants.{Queue, Wait, Bay}

-- What is said of each move of a link's turn in its world: a row whose second has come leaves the bay; the front of the queue or of the wait
-- list is served at a stop, where these wait, or arrives at the end of its route, or passes into the buffer; the credit changes; and a place
-- in the queue is left.
pub record LinkCases (S : Setup) (t l : ℕ) (F : World → Move → Type 0) : Type 0 where
  pub due : (k : ℕ) (r : Row) (W : World) → slice_get (at l Bay W) k ≡ Some r → nat_le r.second t ≡ true → F W (Transfer l Bay k r (waiting l r))
  pub serve : (s : Bool) (ws : List Waiter) (r : Row) (xs : List Row) (W : World) → at l (serving_stage s) W ≡ r ∷ xs → calls_on l r.vehicle ≡ true
      → ws ≡ waiters S l W → F W (Transfer l (serving_stage s) 0 r (served_row S.settings.dwell t l ws r.vehicle))
  pub arrive : (s : Bool) (r : Row) (xs : List Row) (W : World) → at l (serving_stage s) W ≡ r ∷ xs → calls_on l r.vehicle ≡ false
      → is_last r.vehicle ≡ true → F W (Remove l (serving_stage s) 0 r)
  pub pass : (s : Bool) (b : ℕ) (r : Row) (xs : List Row) (W : World) → at l (serving_stage s) W ≡ r ∷ xs → calls_on l r.vehicle ≡ false
      → is_last r.vehicle ≡ false → F W (Transfer l (serving_stage s) 0 r (buffered t l b r))
  pub pay : (credit : ℕ) (W : World) → F W (Credit l credit)
  pub free : (W : World) → F W (LeaveHole l t)

-- a row at the front goes elsewhere, or for good
front_put : (l : ℕ) (s : Bool) (r now : Row) (xs ys : List Row) → on l Queue now ≡ false → on l Wait now ≡ false → (at_after l (serving_stage s) (Transfer l (serving_stage s) 0 r now) (r ∷ xs) ≡ xs) × (at_after l (serving_stage (not s)) (Transfer l (serving_stage s) 0 r now) ys ≡ ys)
front_put l false r now xs ys f g = let q = eq-eqb l l refl in (simp (q, f) (append-nil xs), rw g (append-nil ys))
front_put l true r now xs ys f g = let q = eq-eqb l l refl in (simp (q, g) (append-nil xs), rw f (append-nil ys))

front_gone : (l : ℕ) (s : Bool) (r : Row) (xs ys : List Row) → (at_after l (serving_stage s) (Remove l (serving_stage s) 0 r) (r ∷ xs) ≡ xs) × (at_after l (serving_stage (not s)) (Remove l (serving_stage s) 0 r) ys ≡ ys)
front_gone l false r xs ys = let q = eq-eqb l l refl in (simp q, refl)
front_gone l true r xs ys = let q = eq-eqb l l refl in (simp q, refl)

-- a row of the bay
row_after : (xs ys : List Row) (r : Row) → slice_get (xs ++ r ∷ ys) (length xs) ≡ Some r
row_after [] ys r = refl
row_after (x ∷ xs) ys r = row_after xs ys r

without_after : (xs ys : List Row) (r : Row) → without_at (length xs) (xs ++ r ∷ ys) ≡ xs ++ ys
without_after [] ys r = refl
without_after (x ∷ xs) ys r = ap (λ zs. x ∷ zs) (without_after xs ys r)

-- in the midst of a link's turn these rows are left in the one list and in the other, and these wait
record IsMidst (S : Setup) (l : ℕ) (s : Bool) (ws : List Waiter) (xs ys : List Row) (W : World) : Type 0 where
  front : at l (serving_stage s) W ≡ xs
  behind : at l (serving_stage (not s)) W ≡ ys
  line : ws ≡ waiters S l W

swapped : (S : Setup) (l : ℕ) (ws : List Waiter) (xs ys : List Row) (W : World) → IsMidst S l false ws xs ys W → IsMidst S l true ws ys xs W
swapped S l ws xs ys W h = record { front = h.behind; behind = h.front; line = h.line }

module _ (S : Setup) (t l : ℕ) (F : World → Move → Type 0) (cases : LinkCases S t l F) where
  -- one move
  moved : (s : Bool) (ws left : List Waiter) (m : Move) (xs ys zs : List Row) (W : World) → (at_after l (serving_stage s) m xs ≡ zs) × (at_after l (serving_stage (not s)) m ys ≡ ys) → left ≡ waiters S l (done S t m W) → IsMidst S l s ws xs ys W → IsMidst S l s left zs ys (done S t m W)
  moved s ws left m xs ys zs W p e h =
      record { front = at-done S t l (serving_stage s) m W ∙ ap (at_after l (serving_stage s) m) h.front ∙ p.0; behind = at-done S t l (serving_stage (not s)) m W ∙ ap (at_after l (serving_stage (not s)) m) h.behind ∙ p.1; line = e }

  served : (s : Bool) (ws : List Waiter) (r : Row) (xs ys : List Row) (W : World) → IsMidst S l s ws (r ∷ xs) ys W → IsMidst S l s (left_behind r.vehicle ws) xs ys (done S t (serving s S.settings.dwell t l ws r) W)
  unfolding served_vehicle
  served s ws r xs ys W h = moved s ws _ (serving s S.settings.dwell t l ws r) (r ∷ xs) ys xs W (front_put l s r (served_row S.settings.dwell t l ws r.vehicle) xs ys refl refl) (served_line S t l s S.settings.dwell r ws W h.line) h

  arrived : (s : Bool) (ws : List Waiter) (r : Row) (xs ys : List Row) (W : World) → IsMidst S l s ws (r ∷ xs) ys W → IsMidst S l s ws xs ys (done S t (Remove l (serving_stage s) 0 r) W)
  arrived s ws r xs ys W h = let m = Remove l (serving_stage s) 0 r in moved s ws ws m (r ∷ xs) ys xs W (front_gone l s r xs ys) (calm_line S t l m ws W (λ Q. gone_calm Q l s r) h.line) h

  passed : (s : Bool) (ws : List Waiter) (b : ℕ) (r : Row) (xs ys : List Row) (W : World) → IsMidst S l s ws (r ∷ xs) ys W → IsMidst S l s ws xs ys (done S t (Transfer l (serving_stage s) 0 r (buffered t l b r)) W)
  passed s ws b r xs ys W h =
      let now = buffered t l b r in
      let m = Transfer l (serving_stage s) 0 r now in moved s ws ws m (r ∷ xs) ys xs W (front_put l s r now xs ys refl refl) (calm_line S t l m ws W (λ Q. pass_calm Q t l b s r) h.line) h

  paid : (s : Bool) (ws : List Waiter) (c : ℕ) (xs ys : List Row) (W : World) → IsMidst S l s ws xs ys W → IsMidst S l s ws xs ys (done S t (Credit l c) W)
  paid s ws c xs ys W h = record { front = h.front; behind = h.behind; line = calm_line S t l (Credit l c) ws W (λ Q. tt) h.line }

  freed : (s : Bool) (ws : List Waiter) (xs ys : List Row) (W : World) → IsMidst S l s ws xs ys W → IsMidst S l s ws xs ys (done S t (LeaveHole l t) W)
  freed s ws xs ys W h = record { front = h.front; behind = h.behind; line = calm_line S t l (LeaveHole l t) ws W (λ Q. tt) h.line }

  -- THE STEPS OF THE TURN
  wait_walk : (ws : List Waiter) (b c : ℕ) (xs ys : List Row) (W : World) → IsMidst S l true ws xs ys W → Along F S t (from_wait (rules S l) t l ws b c xs) W
  unfolding from_wait
  wait_walk ws b c [] ys W h = tt
  wait_walk ws b c (r ∷ rs) ys W h =
      let d = c - VEHICLE_COST in
      along_if F S t (calls_on l r.vehicle) _ _ W (λ e. (cases.serve true ws r rs W h.front e h.line, wait_walk (left_behind r.vehicle ws) b c rs ys _ (served true ws r rs ys W h)))
      (λ e. along_if F S t (is_last r.vehicle) _ _ W (λ o. (cases.arrive true r rs W h.front e o, wait_walk ws b c rs ys _ (arrived true ws r rs ys W h)))
      (λ o. along_if F S t (may_pass (rules S l) b c) _ _ W
      (λ k. let p = passed true ws b r rs ys W h in (cases.pass true b r rs W h.front e o, (cases.pay d _, wait_walk ws (b + 1) d rs ys _ (paid true ws d rs ys _ p)))) (λ k. tt)))

  queue_walk : (ws : List Waiter) (b c : ℕ) (xs ys : List Row) (W : World) → IsMidst S l false ws xs ys W → Along F S t (from_queue (rules S l) t l ws b c xs ys) W
  unfolding from_queue
  queue_walk ws b c [] ys W h = wait_walk ws b c ys [] W (swapped S l ws [] ys W h)
  queue_walk ws b c (r ∷ rs) ys W h =
      let d = c - VEHICLE_COST in
      let waits = wait_walk ws b c ys (r ∷ rs) W (swapped S l ws (r ∷ rs) ys W h) in
      along_if F S t (nat_lt t r.second) _ _ W (λ u. waits)
      (λ u. along_if F S t (calls_on l r.vehicle) _ _ W
      (λ e. (cases.serve false ws r rs W h.front e h.line, (cases.free _, queue_walk (left_behind r.vehicle ws) b c rs ys _ (freed false _ rs ys _ (served false ws r rs ys W h)))))
      (λ e. along_if F S t (is_last r.vehicle) _ _ W (λ o. (cases.arrive false r rs W h.front e o, (cases.free _, queue_walk ws b c rs ys _ (freed false ws rs ys _ (arrived false ws r rs ys W h)))))
      (λ o. along_if F S t (may_pass (rules S l) b c) _ _ W
      (λ k. let p = freed false ws rs ys _ (passed false ws b r rs ys W h) in (cases.pass false b r rs W h.front e o, (cases.free _, (cases.pay d _, queue_walk ws (b + 1) d rs ys _ (paid false ws d rs ys _ p))))) (λ k. waits))))

  -- step 1
  bay_walk : (ws : List Waiter) (xs wait queue front : List Row) (W : World) → at l Bay W ≡ front ++ xs → IsMidst S l true ws wait queue W →
      Along F S t (leave_bay t l (length front) xs) W × IsMidst S l true ws (wait ++ map (waiting l) (filter (λ (r : Row). nat_le r.second t) xs)) queue (run S t (leave_bay t l (length front) xs) W)
  unfolding leave_bay
  bay_walk ws [] wait queue front W e h = (tt, rw (append-nil wait) h)
  bay_walk ws (r ∷ rs) wait queue front W e h =
      let m = Transfer l Bay (length front) r (waiting l r) in
      let q = eq-eqb l l refl in
      let due : Row → Bool = λ x. nat_le x.second t in
      elim (cases_Bool (nat_le r.second t)) [
        | inl f ↦
            let bay : at l Bay (done S t m W) ≡ front ++ rs = at-done S t l Bay m W ∙ ap (at_after l Bay m) e ∙ simp q (append-nil _ ∙ without_after front rs r) in
            let here = moved true ws ws m wait queue (wait ++ waiting l r ∷ []) W (simp q, append-nil queue) (calm_line S t l m ws W (λ Q. (tt, tt)) h.line) h in
            let y = bay_walk ws rs (wait ++ waiting l r ∷ []) queue front (done S t m W) bay here in
            simp f ((cases.due (length front) r W (rw e (row_after front rs r)) f, y.0), subst (λ zs. IsMidst S l true ws zs queue (run S t (leave_bay t l (length front) rs) (done S t m W))) (append_assoc wait (waiting l r ∷ []) (map (waiting l) (filter due rs))) y.1)
        | inr f ↦
            let more : length (front ++ r ∷ []) ≡ length front + 1 = length-append front (r ∷ []) in
            simp f (subst (λ k. Along F S t (leave_bay t l k rs) W × IsMidst S l true ws (wait ++ map (waiting l) (filter due rs)) queue (run S t (leave_bay t l k rs) W)) more
            (bay_walk ws rs wait queue (front ++ r ∷ []) W (e ∙ sym (append_assoc front (r ∷ []) rs)) h))
      ]

  -- each move of a link's turn is such in the world in which it is made
  pub link_walk : (W : World) → Along F S t (link_turns S t l W) W
  unfolding link_moves
  link_walk W =
      let L = link_state l W in
      let ws = waiters S l W in
      let c = raised (rules S l).gain L.credit in
      let y = bay_walk ws L.bay L.wait L.queue [] W refl (record { front = refl; behind = refl; line = refl }) in
      let V = run S t (leave_bay t l 0 L.bay) W in
      along_append F S t (leave_bay t l 0 L.bay) _ W y.0
      (cases.pay c V, queue_walk ws (length L.buffer) c L.queue (wait_after t l L) (done S t (Credit l c) V) (paid false ws c L.queue (wait_after t l L) V (record { front = y.1.behind; behind = y.1.front; line = y.1.line })))
