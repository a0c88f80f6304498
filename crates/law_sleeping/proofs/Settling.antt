-- After its turn a link lets nobody else go in that second, and sleeps until one may.
use Rattle.std.proofs.Common.{◌≡◌, ◌≢◌, ℕ, zero, suc, ◌+◌, ◌-◌, ◌<◌, ◌≤◌, max, Bool, true, false, List, [], ◌∷◌, ◌++◌, length, refl, ap}
use Rattle.std.proofs.Common.{sym, ◌∙◌, subst, eqb, arith, inl, inr, append-nil, length-append, append_assoc}
use Rattle.std.specs.Prelude.{map, filter, not, ◌||◌, if◌then◌else◌, nat_le, nat_lt}
use Rattle.std.specs.List.{AllByRecursion as Each}
use Rattle.std.proofs.lemmas.Bool.{cases_Bool, or_parts, or_from, or_left, or_right, and_cases, and_left, and_right, and_from, leb-true}
use Rattle.std.proofs.lemmas.Bool.{leb-false, lt-leb, le-ltb, ltb-true, ltb-false, eqb-true, eqb-false, eq-eqb}
use Rattle.fixed_flow.specs.{Flow.raised, declared.TheConstants.VEHICLE_COST}
use Rattle.traffic.{proofs.Each.each_append, specs.Links.LinkState, specs.Links.leave_bay, specs.Links.is_last, specs.Links.may_pass}
use Rattle.traffic.specs.{Links.buffered, Links.waiting, Links.from_wait, Links.from_queue, Links.wait_after, Links.link_moves, Lists.is_nil, Lists.without_at}
use Rattle.traffic.specs.{Moves.at_after, Rows.VehicleState, Stops.calls_on, Stops.left_behind, Stops.stays_until, Stops.served_row, declared.moves.Move.Move}
use Rattle.traffic.specs.declared.moves.Move.TheVariants.{Transfer, Remove, Credit, LeaveHole}
use Rattle.traffic.specs.declared.{numbers.Rules.Rules, stage.Stage.TheVariants.Queue, stage.Stage.TheVariants.Buffer, stage.Stage.TheVariants.Wait}
use Rattle.traffic.specs.declared.{stage.Stage.TheVariants.Bay, world.Row.Row, world.Waiter.Waiter}
use Rattle.rows.specs.declared.settings.Dwelling.{Dwelling}
use Rattle.law_sleeping.proofs.{Sleep.poor_until, Sleep.poor_ever, Whole.link_state_append}
use Rattle.law_sleeping.specs.Quiet.{can_leave, queue_goes, wait_goes, IsPoor, IsHeld, QueueSleeps, WaitSleeps, Sleeps, link_state_after, link_state_after_all}
use Rattle.law_sleeping.specs.Quiet.{IsSettled, held_due, queue_due, wait_due, IsBy, IsDue, has_come, is_blocked}

-- FROM SETTLED TO SLEEP
pass_parts : (K : Rules) (b c : ℕ) → may_pass K b c ≡ false → nat_le K.room b ≡ false → c < VEHICLE_COST
pass_parts K b c h e =
    let lt : b < K.room = leb-false K.room b e in
    elim (and_cases (nat_lt b K.room) (nat_le VEHICLE_COST c) h) [
      | inl a ↦ absurd (let z = ltb-false b K.room a in omega arith)
      | inr a ↦ leb-false VEHICLE_COST c a
    ]

poor_zero : (gain t due c : ℕ) → gain ≡ 0 → c < VEHICLE_COST → IsPoor gain t due c
poor_zero gain t due c e h = subst (λ (g : ℕ). IsPoor g t due c) (sym e) (poor_ever t due c h)

positive : (g : ℕ) → g ≢ 0 → 0 < g
positive zero ne = absurd (ne refl)
positive (suc g) ne = omega arith

held_until : (K : Rules) (blocked : Bool) (t due l b c : ℕ) (r : Row) → (nat_le K.room b ≡ true → blocked ≡ true) → can_leave K l b c r
    ≡ false → IsBy due (held_due K t b c) → IsHeld K blocked t due l b c r
held_until K blocked t due l b c r m h d =
    let g = or_parts (calls_on l r.vehicle) (is_last r.vehicle || may_pass K b c) h in
    let f = or_parts (is_last r.vehicle) (may_pass K b c) g.1 in (
      g.0,
      f.0,
      elim (cases_Bool (nat_le K.room b)) [
        | inl e ↦ inl (m e, leb-true K.room b e)
        | inr e ↦
            let poor = pass_parts K b c f.1 e in
            elim (cases_Bool (eqb K.gain 0)) [
              | inl z ↦ inr (poor_zero K.gain t due c (eqb-true K.gain 0 z) poor)
              | inr z ↦ let q = simp (e, z) at d in inr (poor_until K.gain t due c (positive K.gain (eqb-false K.gain 0 z)) q)
            ]
      ],
    )

queue_until : (K : Rules) (blocked : Bool) (t due l b c : ℕ) (rows : List Row)
    → (nat_le K.room b ≡ true → has_come t rows ≡ true → blocked ≡ true) → queue_goes K t l b c rows ≡ false
    → IsBy due (queue_due K t b c rows)
    → QueueSleeps K blocked t due l b c rows
queue_until K blocked t due l b c [] m h d = tt
queue_until K blocked t due l b c (r ∷ rs) m h d =
    elim (cases_Bool (nat_le r.second t)) [
      | inl e ↦ inr (held_until K blocked t due l b c r (λ x. m x e) (rw e at h) (rw e at d))
      | inr e ↦ inl (rw e at d)
    ]

wait_until : (K : Rules) (blocked : Bool) (t due l b c : ℕ) (rows : List Row)
    → (nat_le K.room b ≡ true → not (is_nil rows) ≡ true → blocked ≡ true) → wait_goes K l b c rows ≡ false
    → IsBy due (wait_due K t b c rows)
    → WaitSleeps K blocked t due l b c rows
wait_until K blocked t due l b c [] m h d = tt
wait_until K blocked t due l b c (r ∷ rs) m h d = held_until K blocked t due l b c r (λ x. m x refl) h d

pub settled_sleeps : (K : Rules) (t due l : ℕ) (L : LinkState) → IsSettled K t l L → IsDue K t due L → Sleeps K (is_blocked K t L) t due l L
settled_sleeps K t due l L s d =
    let full = nat_le K.room (length L.buffer) in
    record {
      bay = d.bay;
      queue = queue_until K (is_blocked K t L) t due l (length L.buffer) L.credit L.queue
          (λ x y. and_from full (has_come t L.queue || not (is_nil L.wait)) x (or_left (has_come t L.queue) (not (is_nil L.wait)) y))
          s.queue
          d.queue;
      wait = wait_until K (is_blocked K t L) t due l (length L.buffer) L.credit L.wait
          (λ x y. and_from full (has_come t L.queue || not (is_nil L.wait)) x (or_right (has_come t L.queue) (not (is_nil L.wait)) y))
          s.wait
          d.wait;
    }

-- THE TURN SETTLES
-- less room and less credit let nobody more go
pass_less : (K : Rules) (b c more less : ℕ) → b ≤ more → less ≤ c → may_pass K b c ≡ false → may_pass K more less ≡ false
pass_less K b c more less lb lc h =
    elim (and_cases (nat_lt b K.room) (nat_le VEHICLE_COST c) h) [
      | inl a ↦ let z = ltb-false b K.room a in and_left (nat_lt more K.room) (nat_le VEHICLE_COST less) (le-ltb more K.room (omega arith))
      | inr a ↦ let z = leb-false VEHICLE_COST c a in and_right (nat_lt more K.room) (nat_le VEHICLE_COST less)
          (lt-leb VEHICLE_COST less (omega arith))
    ]

leave_less : (K : Rules) (l b c more less : ℕ) (r : Row) → b ≤ more → less ≤ c → can_leave K l b c r ≡ false → can_leave K l more less r
    ≡ false
leave_less K l b c more less r lb lc h =
    let g = or_parts (calls_on l r.vehicle) (is_last r.vehicle || may_pass K b c) h in
    let f = or_parts (is_last r.vehicle) (may_pass K b c) g.1 in
    or_from (calls_on l r.vehicle) (is_last r.vehicle || may_pass K more less) g.0
    (or_from (is_last r.vehicle) (may_pass K more less) f.0 (pass_less K b c more less lb lc f.1))

queue_less : (K : Rules) (t l b c more less : ℕ) (rows : List Row) → b ≤ more → less ≤ c → queue_goes K t l b c rows ≡ false
    → queue_goes K t l more less rows ≡ false
queue_less K t l b c more less [] lb lc h = refl
queue_less K t l b c more less (r ∷ rs) lb lc h =
    elim (and_cases (nat_le r.second t) (can_leave K l b c r) h) [
      | inl a ↦ and_left (nat_le r.second t) (can_leave K l more less r) a
      | inr a ↦ and_right (nat_le r.second t) (can_leave K l more less r) (leave_less K l b c more less r lb lc a)
    ]

-- a vehicle that is served stands for a second at least
not_sooner : (wait : Bool) (departed offset second t : ℕ) → t < second → t < (if wait then max second (departed + offset) else second)
not_sooner true departed offset second t h = grind arith
not_sooner false departed offset second t h = h

later_than : (t a : ℕ) → t < t + max 1 a
later_than t a = grind arith

served_later : (D : Dwelling) (t l : ℕ) (ws : List Waiter) (v : VehicleState) → t < (served_row D t l ws v).second
unfolding stays_until
served_later D t l ws v = not_sooner _ _ _ _ t (later_than t _)

-- the lists along a link's turn
abbrev pub lists_with : List Row → List Row → List Row → List Row → ℕ → LinkState
lists_with queue buffer wait bay credit = record { queue = queue; buffer = buffer; wait = wait; bay = bay; credit = credit }

same_lists : (q1 q2 b1 b2 w1 w2 y1 y2 : List Row) (c1 c2 : ℕ) → q1 ≡ q2 → b1 ≡ b2 → w1 ≡ w2 → y1 ≡ y2 → c1 ≡ c2 → lists_with q1 b1 w1 y1 c1
    ≡ lists_with q2 b2 w2 y2 c2
same_lists q1 q2 b1 b2 w1 w2 y1 y2 c1 c2 q b w y c = λ i. lists_with (q i) (b i) (w i) (y i) (c i)

-- the moves of a link's turn on its lists
pub wait_served : (l : ℕ) (r now : Row) (q b rs y : List Row) (c : ℕ) → now.stage ≡ Bay → now.link ≡ l
    → link_state_after l (Transfer l Wait 0 r now) (lists_with q b (r ∷ rs) y c) ≡ lists_with q b rs (y ++ now ∷ []) c
wait_served l r now q b rs y c s k =
    let e = eq-eqb l l refl in let f = eq-eqb now.link l k in
    let o1 : at_after l Queue (Transfer l Wait 0 r now) q ≡ q = rw s (append-nil q) in
    let o2 : at_after l Buffer (Transfer l Wait 0 r now) b ≡ b = rw s (append-nil b) in
    let o3 : at_after l Wait (Transfer l Wait 0 r now) (r ∷ rs) ≡ rs = rw (e, s) (append-nil rs) in
    let o4 : at_after l Bay (Transfer l Wait 0 r now) y ≡ y ++ now ∷ [] = rw (s, f) refl in
    same_lists _ _ _ _ _ _ _ _ _ _ o1 o2 o3 o4 refl

pub wait_removed : (l : ℕ) (r : Row) (q b rs y : List Row) (c : ℕ) → link_state_after l (Remove l Wait 0 r) (lists_with q b (r ∷ rs) y c)
    ≡ lists_with q b rs y c
wait_removed l r q b rs y c =
    let e = eq-eqb l l refl in
    let o3 : at_after l Wait (Remove l Wait 0 r) (r ∷ rs) ≡ rs = rw e refl in
    same_lists _ _ _ _ _ _ _ _ _ _ refl refl o3 refl refl

pub wait_passed : (l : ℕ) (r now : Row) (q b rs y : List Row) (c : ℕ) → now.stage ≡ Buffer → now.link ≡ l
    → link_state_after l (Transfer l Wait 0 r now) (lists_with q b (r ∷ rs) y c) ≡ lists_with q (b ++ now ∷ []) rs y c
wait_passed l r now q b rs y c s k =
    let e = eq-eqb l l refl in let f = eq-eqb now.link l k in
    let o1 : at_after l Queue (Transfer l Wait 0 r now) q ≡ q = rw s (append-nil q) in
    let o2 : at_after l Buffer (Transfer l Wait 0 r now) b ≡ b ++ now ∷ [] = rw (s, f) refl in
    let o3 : at_after l Wait (Transfer l Wait 0 r now) (r ∷ rs) ≡ rs = rw (e, s) (append-nil rs) in
    let o4 : at_after l Bay (Transfer l Wait 0 r now) y ≡ y = rw s (append-nil y) in
    same_lists _ _ _ _ _ _ _ _ _ _ o1 o2 o3 o4 refl

pub queue_served : (l : ℕ) (r now : Row) (rs b w y : List Row) (c : ℕ) → now.stage ≡ Bay → now.link ≡ l
    → link_state_after l (Transfer l Queue 0 r now) (lists_with (r ∷ rs) b w y c) ≡ lists_with rs b w (y ++ now ∷ []) c
queue_served l r now rs b w y c s k =
    let e = eq-eqb l l refl in let f = eq-eqb now.link l k in
    let o1 : at_after l Queue (Transfer l Queue 0 r now) (r ∷ rs) ≡ rs = rw (e, s) (append-nil rs) in
    let o2 : at_after l Buffer (Transfer l Queue 0 r now) b ≡ b = rw s (append-nil b) in
    let o3 : at_after l Wait (Transfer l Queue 0 r now) w ≡ w = rw s (append-nil w) in
    let o4 : at_after l Bay (Transfer l Queue 0 r now) y ≡ y ++ now ∷ [] = rw (s, f) refl in
    same_lists _ _ _ _ _ _ _ _ _ _ o1 o2 o3 o4 refl

pub queue_removed : (l : ℕ) (r : Row) (rs b w y : List Row) (c : ℕ) → link_state_after l (Remove l Queue 0 r) (lists_with (r ∷ rs) b w y c)
    ≡ lists_with rs b w y c
queue_removed l r rs b w y c =
    let e = eq-eqb l l refl in
    let o1 : at_after l Queue (Remove l Queue 0 r) (r ∷ rs) ≡ rs = rw e refl in
    same_lists _ _ _ _ _ _ _ _ _ _ o1 refl refl refl refl

pub queue_passed : (l : ℕ) (r now : Row) (rs b w y : List Row) (c : ℕ) → now.stage ≡ Buffer → now.link ≡ l
    → link_state_after l (Transfer l Queue 0 r now) (lists_with (r ∷ rs) b w y c) ≡ lists_with rs (b ++ now ∷ []) w y c
queue_passed l r now rs b w y c s k =
    let e = eq-eqb l l refl in let f = eq-eqb now.link l k in
    let o1 : at_after l Queue (Transfer l Queue 0 r now) (r ∷ rs) ≡ rs = rw (e, s) (append-nil rs) in
    let o2 : at_after l Buffer (Transfer l Queue 0 r now) b ≡ b ++ now ∷ [] = rw (s, f) refl in
    let o3 : at_after l Wait (Transfer l Queue 0 r now) w ≡ w = rw s (append-nil w) in
    let o4 : at_after l Bay (Transfer l Queue 0 r now) y ≡ y = rw s (append-nil y) in
    same_lists _ _ _ _ _ _ _ _ _ _ o1 o2 o3 o4 refl

pub credited : (l d : ℕ) (q b w y : List Row) (c : ℕ) → link_state_after l (Credit l d) (lists_with q b w y c) ≡ lists_with q b w y d
credited l d q b w y c = let e = eq-eqb l l refl in rw e refl

without_middle : (xs : List Row) (r : Row) (rs : List Row) (k : ℕ) → k ≡ length xs → without_at k (xs ++ r ∷ rs) ≡ xs ++ rs
without_middle [] r rs zero e = refl
without_middle [] r rs (suc k) e = absurd (omega arith)
without_middle (x ∷ xs) r rs zero e = absurd (omega arith)
without_middle (x ∷ xs) r rs (suc k) e = ap (λ (ys : List Row). x ∷ ys) (without_middle xs r rs k (omega arith))

bay_left : (l k : ℕ) (r now : Row) (q b w y z : List Row) (c : ℕ) → now.stage ≡ Wait → now.link ≡ l → without_at k y ≡ z
    → link_state_after l (Transfer l Bay k r now) (lists_with q b w y c) ≡ lists_with q b (w ++ now ∷ []) z c
bay_left l k r now q b w y z c s i h =
    let e = eq-eqb l l refl in let f = eq-eqb now.link l i in
    let o1 : at_after l Queue (Transfer l Bay k r now) q ≡ q = rw s (append-nil q) in
    let o2 : at_after l Buffer (Transfer l Bay k r now) b ≡ b = rw s (append-nil b) in
    let o3 : at_after l Wait (Transfer l Bay k r now) w ≡ w ++ now ∷ [] = rw (s, f) refl in
    let o4 : at_after l Bay (Transfer l Bay k r now) y ≡ z = rw (e, s) (append-nil (without_at k y) ∙ h) in
    same_lists _ _ _ _ _ _ _ _ _ _ o1 o2 o3 o4 refl

if_by : (P : List Move → Type 0) (b : Bool) (xs ys : List Move) → (b ≡ true → P xs) → (b ≡ false → P ys) → P (if b then xs else ys)
if_by P b xs ys h g = elim (cases_Bool b) [ inl e ↦ rw e (h e) | inr e ↦ rw e (g e) ]

-- from an equation for the lists after the first move
settles_cons : (K : Rules) (t l : ℕ) (m : Move) (ms : List Move) (L M : LinkState) → link_state_after l m L ≡ M
    → IsSettled K t l (link_state_after_all l ms M) → IsSettled K t l (link_state_after_all l (m ∷ ms) L)
settles_cons K t l m ms L M e h = subst (λ (N : LinkState). IsSettled K t l (link_state_after_all l ms N)) (sym e) h

still : (K : Rules) (t l : ℕ) (q b w y : List Row) (c : ℕ) → Each (λ (r : Row). t < r.second) y → queue_goes K t l (length b) c q ≡ false
    → wait_goes K l (length b) c w ≡ false → IsSettled K t l (lists_with q b w y c)
still K t l q b w y c h g f = record { bay = h; queue = g; wait = f }

settle_wait : (K : Rules) (t l : ℕ) (ws : List Waiter) (b c : ℕ) (rows q buffer y : List Row) → b ≡ length buffer → queue_goes K t l b c q
    ≡ false → Each (λ (r : Row). t < r.second) y
    → IsSettled K t l (link_state_after_all l (from_wait K t l ws b c rows) (lists_with q buffer rows y c))
unfolding from_wait
settle_wait K t l ws b c [] q buffer y n h g = still K t l q buffer [] y c g (subst (λ (k : ℕ). queue_goes K t l k c q ≡ false) n h) refl
settle_wait K t l ws b c (r ∷ rs) q buffer y n h g =
    let L = lists_with q buffer (r ∷ rs) y c in
    let P : List Move → Type 0 = λ ms. IsSettled K t l (link_state_after_all l ms L) in
    if_by P (calls_on l r.vehicle) _ _
    (λ e.
    let now = served_row K.dwell t l ws r.vehicle in
    let ms = from_wait K t l (left_behind r.vehicle ws) b c rs in
    settles_cons K t l (Transfer l Wait 0 r now) ms L (lists_with q buffer rs (y ++ now ∷ []) c)
    (wait_served l r now q buffer rs y c refl refl)
    (settle_wait K t l (left_behind r.vehicle ws) b c rs q buffer (y ++ now ∷ []) n h
    (each_append (λ (r : Row). t < r.second) y (now ∷ []) g ((served_later K.dwell t l ws r.vehicle), tt))))
    (λ e1. if_by P (is_last r.vehicle) _ _
    (λ e. settles_cons K t l (Remove l Wait 0 r) (from_wait K t l ws b c rs) L (lists_with q buffer rs y c)
    (wait_removed l r q buffer rs y c) (settle_wait K t l ws b c rs q buffer y n h g))
    (λ e2. if_by P (may_pass K b c) _ _
    (λ e.
    let now = buffered t l b r in
    let ms = from_wait K t l ws (b + 1) (c - VEHICLE_COST) rs in
    let M = lists_with q (buffer ++ now ∷ []) rs y c in
    settles_cons K t l (Transfer l Wait 0 r now) (Credit l (c - VEHICLE_COST) ∷ ms) L M (wait_passed l r now q buffer rs y c refl refl)
    (settles_cons K t l (Credit l (c - VEHICLE_COST)) ms M (lists_with q (buffer ++ now ∷ []) rs y (c - VEHICLE_COST))
    (credited l (c - VEHICLE_COST) q (buffer ++ now ∷ []) rs y c)
    (settle_wait K t l ws (b + 1) (c - VEHICLE_COST) rs q (buffer ++ now ∷ []) y (let z = length-append buffer (now ∷ []) in omega arith)
    (queue_less K t l b c (b + 1) (c - VEHICLE_COST) q (omega arith) (omega arith) h) g)))
    (λ e3.
    let f = or_from (calls_on l r.vehicle) (is_last r.vehicle || may_pass K b c) e1 (or_from (is_last r.vehicle) (may_pass K b c) e2 e3) in
    still K t l q buffer (r ∷ rs) y c g (subst (λ (k : ℕ). queue_goes K t l k c q ≡ false) n h) (subst (λ (k : ℕ). can_leave K l k c r
    ≡ false) n f))))

settle_queue : (K : Rules) (t l : ℕ) (ws : List Waiter) (b c : ℕ) (rows buffer w y : List Row) → b ≡ length buffer
    → Each (λ (r : Row). t < r.second) y
    → IsSettled K t l (link_state_after_all l (from_queue K t l ws b c rows w) (lists_with rows buffer w y c))
unfolding from_queue
settle_queue K t l ws b c [] buffer w y n g = settle_wait K t l ws b c w [] buffer y n refl g
settle_queue K t l ws b c (r ∷ rs) buffer w y n g =
    let L = lists_with (r ∷ rs) buffer w y c in
    let P : List Move → Type 0 = λ ms. IsSettled K t l (link_state_after_all l ms L) in
    if_by P (nat_lt t r.second) _ _
    (λ e. settle_wait K t l ws b c w (r ∷ rs) buffer y n
    (and_left (nat_le r.second t) (can_leave K l b c r) (lt-leb r.second t (ltb-true t r.second e))) g)
    (λ e0. if_by P (calls_on l r.vehicle) _ _
    (λ e.
    let now = served_row K.dwell t l ws r.vehicle in
    let ms = from_queue K t l (left_behind r.vehicle ws) b c rs w in
    settles_cons K t l (Transfer l Queue 0 r now) (LeaveHole l t ∷ ms) L (lists_with rs buffer w (y ++ now ∷ []) c)
    (queue_served l r now rs buffer w y c refl refl)
    (settle_queue K t l (left_behind r.vehicle ws) b c rs buffer w (y ++ now ∷ []) n
    (each_append (λ (r : Row). t < r.second) y (now ∷ []) g ((served_later K.dwell t l ws r.vehicle), tt))))
    (λ e1. if_by P (is_last r.vehicle) _ _
    (λ e. settles_cons K t l (Remove l Queue 0 r) (LeaveHole l t ∷ from_queue K t l ws b c rs w) L (lists_with rs buffer w y c)
    (queue_removed l r rs buffer w y c) (settle_queue K t l ws b c rs buffer w y n g))
    (λ e2. if_by P (may_pass K b c) _ _
    (λ e.
    let now = buffered t l b r in
    let ms = from_queue K t l ws (b + 1) (c - VEHICLE_COST) rs w in
    let M = lists_with rs (buffer ++ now ∷ []) w y c in
    settles_cons K t l (Transfer l Queue 0 r now) (LeaveHole l t ∷ Credit l (c - VEHICLE_COST) ∷ ms) L M
    (queue_passed l r now rs buffer w y c refl refl)
    (settles_cons K t l (Credit l (c - VEHICLE_COST)) ms M (lists_with rs (buffer ++ now ∷ []) w y (c - VEHICLE_COST))
    (credited l (c - VEHICLE_COST) rs (buffer ++ now ∷ []) w y c)
    (settle_queue K t l ws (b + 1) (c - VEHICLE_COST) rs (buffer ++ now ∷ []) w y (let z = length-append buffer (now ∷ []) in omega arith)
    g)))
    (λ e3.
    let f = or_from (calls_on l r.vehicle) (is_last r.vehicle || may_pass K b c) e1 (or_from (is_last r.vehicle) (may_pass K b c) e2 e3) in
    settle_wait K t l ws b c w (r ∷ rs) buffer y n (and_right (nat_le r.second t) (can_leave K l b c r) f) g))))

-- step 1 on the lists
unfoldable pub stays : ℕ → List Row → List Row
stays t [] = []
stays t (r ∷ rs) = if nat_le r.second t then stays t rs else r ∷ stays t rs

stays_later : (t : ℕ) (rows : List Row) → Each (λ (r : Row). t < r.second) (stays t rows)
unfolding stays
stays_later t [] = tt
stays_later t (r ∷ rs) = elim (cases_Bool (nat_le r.second t)) [
  | inl e ↦ rw e (stays_later t rs)
  | inr e ↦ rw e (leb-false r.second t e, stays_later t rs)
]

pub bay_link_state : (t l k : ℕ) (rows kept q b w : List Row) (c : ℕ) → k ≡ length kept
    → link_state_after_all l (leave_bay t l k rows) (lists_with q b w (kept ++ rows) c)
    ≡ lists_with q b (w ++ map (waiting l) (filter (λ (r : Row). nat_le r.second t) rows)) (kept ++ stays t rows) c
unfolding leave_bay stays
bay_link_state t l k [] kept q b w c n = same_lists q q b b w (w ++ []) (kept ++ []) (kept ++ []) c c refl refl (sym (append-nil w)) refl
    refl
bay_link_state t l k (r ∷ rs) kept q b w c n =
    let now = waiting l r in
    elim (cases_Bool (nat_le r.second t)) [
      | inl e ↦
          simp e
          (ap (link_state_after_all l (leave_bay t l k rs))
          (bay_left l k r now q b w (kept ++ r ∷ rs) (kept ++ rs) c refl refl (without_middle kept r rs k n))
          ∙ bay_link_state t l k rs kept q b (w ++ now ∷ []) c n
          ∙ same_lists q q b b _ _ _ _ c c refl refl (append_assoc w (now ∷ [])
          (map (waiting l) (filter (λ (r : Row). nat_le r.second t) rs))) refl refl)
      | inr e ↦
          let f = append_assoc kept (r ∷ []) rs in
          let g = append_assoc kept (r ∷ []) (stays t rs) in
          simp e
          (ap (λ (ys : List Row). link_state_after_all l (leave_bay t l (k + 1) rs) (lists_with q b w ys c)) (sym f)
          ∙ bay_link_state t l (k + 1) rs (kept ++ r ∷ []) q b w c (let z = length-append kept (r ∷ []) in omega arith)
          ∙ same_lists q q b b _ _ _ _ c c refl refl refl g refl)
    ]

pub turn_settles : (K : Rules) (t l : ℕ) (ws : List Waiter) (L : LinkState)
    → IsSettled K t l (link_state_after_all l (link_moves K t l ws L) L)
unfolding link_moves
turn_settles K t l ws L =
    let c = raised K.gain L.credit in
    let w = wait_after t l L in
    let later = from_queue K t l ws (length L.buffer) c L.queue w in
    let a : link_state_after_all l (leave_bay t l 0 L.bay) L ≡ lists_with L.queue L.buffer w (stays t L.bay) L.credit = bay_link_state t l
    0 L.bay [] L.queue L.buffer L.wait L.credit refl in
    let b = ap (link_state_after l (Credit l c)) a ∙ credited l c L.queue L.buffer w (stays t L.bay) L.credit in
    let e = link_state_append l (leave_bay t l 0 L.bay) (Credit l c ∷ later) L ∙ ap (link_state_after_all l later) b in
    subst (IsSettled K t l) (sym e) (settle_queue K t l ws (length L.buffer) c L.queue L.buffer w (stays t L.bay) refl
    (stays_later t L.bay))
