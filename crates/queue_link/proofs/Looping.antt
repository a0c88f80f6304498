-- The turns of a link, one after the other, are its moves.
use Rattle.std.proofs.Common.{◌≡◌, ℕ, ◌+◌, ◌-◌, List, [], ◌∷◌, ◌++◌, length, refl, ap, sym, ◌∙◌, subst, append-nil, append_assoc}
use Rattle.std.specs.List.{flat_map}
use Rattle.fixed_flow.specs.declared.TheConstants.{VEHICLE_COST}
use Rattle.rows.specs.declared.settings.Dwelling.{Dwelling}
use Rattle.traffic.specs.{Links.LinkState, Links.buffered, Links.from_wait, Links.from_queue, Moves.told, Stops.left_behind, Stops.served_row, Telling.starts}
use Rattle.traffic.specs.{Telling.arrives, Telling.serves, declared.moves.Move.Move, declared.moves.Move.TheVariants.Transfer}
use Rattle.traffic.specs.declared.moves.{Move.TheVariants.Remove, Move.TheVariants.Credit, Move.TheVariants.LeaveHole, Occurrence.Occurrence}
use Rattle.traffic.specs.declared.{numbers.Rules.Rules, stage.Stage.TheVariants.Queue, stage.Stage.TheVariants.Wait, world.Row.Row, world.Waiter.Waiter}
use Rattle.law_sleeping.specs.Quiet.{link_state_after, link_state_after_all}
use Rattle.law_sleeping.proofs.Settling.{lists_with, wait_served, wait_removed, wait_passed, queue_served, queue_removed, queue_passed, credited}
use Rattle.queue_link.proofs.Steps.{queue_front_moves_pass, queue_front_moves_stop, queue_front_moves_arrive, queue_moves_stay, wait_front_moves_pass}
use Rattle.queue_link.proofs.Steps.{wait_front_moves_stop, wait_front_moves_arrive, wait_moves_stay, queue_passes, queue_stops, queue_arrives, wait_passes}
use Rattle.queue_link.proofs.Steps.{wait_stops, wait_arrives, both_stay, wait_stays_on, counted}
use Rattle.queue_link.specs.{Links.row_on, Loops.up_to_halt, Loops.AreOn, Loops.ComeTo, Numbers.rules_of}
use Rattle.queue_link.specs.Turns.{Outcome, queue_fate, wait_fate, moves_left, goes_on}
use Rattle.queue_link.specs.declared.fates.Fate.{Fate, TheVariants.Stops, TheVariants.Arrives, TheVariants.Passes, TheVariants.Stays}
use Rattle.queue_link.specs.declared.{numbers.LinkNumbers.LinkNumbers, turns.Turn.TheVariants.Stop, turns.Turn.TheVariants.Arrive, turns.Turn.TheVariants.Done}

-- the same for other moves and another outcome that are these
come_to_by : (K : Rules) (t l : ℕ) (ws : List Waiter) (ms ns : List Move) (L : LinkState) (said : List Occurrence) (o p : Outcome) → ms ≡ ns → o ≡ p
    → ComeTo K t l ws ns L said p → ComeTo K t l ws ms L said o
come_to_by K t l ws ms ns L said o p e f h =
    subst (λ (x : Outcome). ComeTo K t l ws ms L said x) (sym f) (subst (λ (xs : List Move). ComeTo K t l ws xs L said p) (sym e) h)

-- SOMEBODY PASSES
queue_pass : (K : Rules) (t l d : ℕ) (ws : List Waiter) (r : Row) (ms : List Move) (rs b w y : List Row) (c : ℕ) (said : List Occurrence) (o : Outcome)
    → ComeTo K t l ws ms (lists_with rs (b ++ buffered t l (length b) r ∷ []) w y d) said o
    → ComeTo K t l ws (Transfer l Queue 0 r (buffered t l (length b) r) ∷ LeaveHole l t ∷ Credit l d ∷ ms) (lists_with (r ∷ rs) b w y c) said o
unfolding up_to_halt
queue_pass K t l d ws r ms rs b w y c said o h =
    let now = buffered t l (length b) r in
    let e : link_state_after l (Transfer l Queue 0 r now) (lists_with (r ∷ rs) b w y c) ≡ lists_with rs (b ++ now ∷ []) w y c
    = queue_passed l r now rs b w y c refl refl in
    record {
      moves = ap (λ (xs : List Move). Transfer l Queue 0 r now ∷ LeaveHole l t ∷ Credit l d ∷ xs) h.moves;
      lists =
          ap (λ (L : LinkState). link_state_after_all l (up_to_halt l t ms) (link_state_after l (Credit l d) L)) e
          ∙ ap (link_state_after_all l (up_to_halt l t ms)) (credited l d rs (b ++ now ∷ []) w y c) ∙ h.lists;
      told = h.told;
    }

wait_pass : (K : Rules) (t l d : ℕ) (ws : List Waiter) (r : Row) (ms : List Move) (q rs b y : List Row) (c : ℕ) (said : List Occurrence) (o : Outcome)
    → ComeTo K t l ws ms (lists_with q (b ++ buffered t l (length b) r ∷ []) rs y d) (said ++ starts r) o
    → ComeTo K t l ws (Transfer l Wait 0 r (buffered t l (length b) r) ∷ Credit l d ∷ ms) (lists_with q b (r ∷ rs) y c) said o
unfolding up_to_halt
wait_pass K t l d ws r ms q rs b y c said o h =
    let now = buffered t l (length b) r in
    let e : link_state_after l (Transfer l Wait 0 r now) (lists_with q b (r ∷ rs) y c) ≡ lists_with q (b ++ now ∷ []) rs y c
    = wait_passed l r now q b rs y c refl refl in
    let later = flat_map told (up_to_halt l t ms) in
    record {
      moves = ap (λ (xs : List Move). Transfer l Wait 0 r now ∷ Credit l d ∷ xs) h.moves;
      lists =
          ap (λ (L : LinkState). link_state_after_all l (up_to_halt l t ms) (link_state_after l (Credit l d) L)) e
          ∙ ap (link_state_after_all l (up_to_halt l t ms)) (credited l d q (b ++ now ∷ []) rs y c) ∙ h.lists;
      told = ap (λ (xs : List Occurrence). said ++ (xs ++ later)) (append-nil (starts r)) ∙ sym (append_assoc said (starts r) later) ∙ h.told;
    }

-- SOMEBODY HALTS
same_serves : (D : Dwelling) (t l : ℕ) (ws : List Waiter) (r : Row) → r.link ≡ l
    → serves r (served_row D t l ws r.vehicle) ≡ serves (row_on l Queue 0 r.vehicle) (served_row D t l ws r.vehicle)
same_serves D t l ws r e =
    ap (λ (k : ℕ). serves (row_on k Queue 0 r.vehicle) (served_row D t l ws r.vehicle)) e

queue_stop : (K : Rules) (t l : ℕ) (ws : List Waiter) (r : Row) (rs b w y : List Row) (c : ℕ) (said : List Occurrence) → r.link ≡ l
    → ComeTo K t l ws (Transfer l Queue 0 r (served_row K.dwell t l ws r.vehicle) ∷ LeaveHole l t ∷ from_queue K t l (left_behind r.vehicle ws) (length b) c rs w)
    (lists_with (r ∷ rs) b w y c) said (record { turn = Stop r.vehicle; lists = lists_with rs b w y c; told = said })
unfolding up_to_halt
queue_stop K t l ws r rs b w y c said e =
    let now = served_row K.dwell t l ws r.vehicle in
    record {
      moves = refl;
      lists = queue_served l r now rs b w y c refl refl;
      told = ap (λ (xs : List Occurrence). said ++ xs) (append-nil (serves r now) ∙ same_serves K.dwell t l ws r e);
    }

queue_arrive : (K : Rules) (t l : ℕ) (ws : List Waiter) (r : Row) (rs b w y : List Row) (c : ℕ) (said : List Occurrence)
    → ComeTo K t l ws (Remove l Queue 0 r ∷ LeaveHole l t ∷ from_queue K t l ws (length b) c rs w)
    (lists_with (r ∷ rs) b w y c) said (record { turn = Arrive r.vehicle; lists = lists_with rs b w y c; told = said ++ arrives r })
unfolding up_to_halt
queue_arrive K t l ws r rs b w y c said =
    record {
      moves = refl;
      lists = queue_removed l r rs b w y c;
      told = ap (λ (xs : List Occurrence). said ++ xs) (append-nil (arrives r));
    }

wait_stop : (n : LinkNumbers) (dwell : Dwelling) (t : ℕ) (ws : List Waiter) (r : Row) (q rs b y : List Row) (c : ℕ) (said : List Occurrence) → r.link ≡ n.link
    → queue_fate n t (length b) c q ≡ Stays
    → ComeTo (rules_of n dwell) t n.link ws
    (Transfer n.link Wait 0 r (served_row dwell t n.link ws r.vehicle) ∷ from_wait (rules_of n dwell) t n.link (left_behind r.vehicle ws) (length b) c rs)
    (lists_with q b (r ∷ rs) y c) said (record { turn = Stop r.vehicle; lists = lists_with q b rs y c; told = said ++ starts r })
unfolding up_to_halt
wait_stop n dwell t ws r q rs b y c said e s =
    let l = n.link in
    let now = served_row dwell t l ws r.vehicle in
    let stay = queue_moves_stay n dwell t (left_behind r.vehicle ws) (length b) c q rs s in
    record {
      moves = ap (λ (xs : List Move). Transfer l Wait 0 r now ∷ xs) (sym stay);
      lists = wait_served l r now q b rs y c refl refl;
      told =
          ap (λ (xs : List Occurrence). said ++ xs) (append-nil (starts r ++ serves r now)) ∙ sym (append_assoc said (starts r) (serves r now))
          ∙ ap (λ (xs : List Occurrence). (said ++ starts r) ++ xs) (same_serves dwell t l ws r e);
    }

wait_arrive : (n : LinkNumbers) (dwell : Dwelling) (t : ℕ) (ws : List Waiter) (r : Row) (q rs b y : List Row) (c : ℕ) (said : List Occurrence)
    → queue_fate n t (length b) c q ≡ Stays
    → ComeTo (rules_of n dwell) t n.link ws (Remove n.link Wait 0 r ∷ from_wait (rules_of n dwell) t n.link ws (length b) c rs)
    (lists_with q b (r ∷ rs) y c) said (record { turn = Arrive r.vehicle; lists = lists_with q b rs y c; told = (said ++ starts r) ++ arrives r })
unfolding up_to_halt
wait_arrive n dwell t ws r q rs b y c said s =
    let stay = queue_moves_stay n dwell t ws (length b) c q rs s in
    record {
      moves = ap (λ (xs : List Move). Remove n.link Wait 0 r ∷ xs) (sym stay);
      lists = wait_removed n.link r q b rs y c;
      told = ap (λ (xs : List Occurrence). said ++ xs) (append-nil (starts r ++ arrives r)) ∙ sym (append_assoc said (starts r) (arrives r));
    }

nothing : (K : Rules) (t l : ℕ) (ws : List Waiter) (L : LinkState) (said : List Occurrence)
    → ComeTo K t l ws [] L said (record { turn = Done; lists = L; told = said })
unfolding up_to_halt
nothing K t l ws L said = record { moves = refl; lists = refl; told = append-nil said }

-- THE WAIT LIST
wait_front : (n : LinkNumbers) (dwell : Dwelling) (t : ℕ) (ws : List Waiter) (q b : List Row) (r : Row) (rs y : List Row) (c : ℕ) (said : List Occurrence)
    → ((b2 : List Row) (c2 : ℕ) (said2 : List Occurrence) → AreOn n.link rs → queue_fate n t (length b2) c2 q ≡ Stays
    → ComeTo (rules_of n dwell) t n.link ws (moves_left (rules_of n dwell) t n.link ws (lists_with q b2 rs y c2)) (lists_with q b2 rs y c2) said2
    (goes_on n dwell ws t (lists_with q b2 rs y c2) said2))
    → AreOn n.link (r ∷ rs) → queue_fate n t (length b) c q ≡ Stays → (f : Fate) → wait_fate n (length b) c (r ∷ rs) ≡ f
    → ComeTo (rules_of n dwell) t n.link ws (moves_left (rules_of n dwell) t n.link ws (lists_with q b (r ∷ rs) y c)) (lists_with q b (r ∷ rs) y c) said
    (goes_on n dwell ws t (lists_with q b (r ∷ rs) y c) said)
wait_front n dwell t ws q b r rs y c said ih h s Stops e =
    come_to_by (rules_of n dwell) t n.link ws _ _ (lists_with q b (r ∷ rs) y c) said _ _
    (queue_moves_stay n dwell t ws (length b) c q (r ∷ rs) s ∙ wait_front_moves_stop n dwell t ws (length b) c r rs e)
    (wait_stops n dwell ws t r q rs b y c said s e) (wait_stop n dwell t ws r q rs b y c said h.0 s)
wait_front n dwell t ws q b r rs y c said ih h s Arrives e =
    come_to_by (rules_of n dwell) t n.link ws _ _ (lists_with q b (r ∷ rs) y c) said _ _
    (queue_moves_stay n dwell t ws (length b) c q (r ∷ rs) s ∙ wait_front_moves_arrive n dwell t ws (length b) c r rs e)
    (wait_arrives n dwell ws t r q rs b y c said s e) (wait_arrive n dwell t ws r q rs b y c said s)
wait_front n dwell t ws q b r rs y c said ih h s Stays e =
    come_to_by (rules_of n dwell) t n.link ws _ _ (lists_with q b (r ∷ rs) y c) said _ _
    (queue_moves_stay n dwell t ws (length b) c q (r ∷ rs) s ∙ wait_moves_stay n dwell t ws (length b) c (r ∷ rs) e)
    (both_stay n dwell ws t q b (r ∷ rs) y c said s e) (nothing (rules_of n dwell) t n.link ws (lists_with q b (r ∷ rs) y c) said)
wait_front n dwell t ws q b r rs y c said ih h s Passes e =
    let K = rules_of n dwell in
    let now = buffered t n.link (length b) r in
    let later = lists_with q (b ++ now ∷ []) rs y (c - VEHICLE_COST) in
    let on : queue_fate n t (length (b ++ now ∷ [])) (c - VEHICLE_COST) q ≡ Stays = wait_stays_on n t q b now c s in
    let left : from_wait K t n.link ws (length b + 1) (c - VEHICLE_COST) rs ≡ moves_left K t n.link ws later
    = ap (λ (k : ℕ). from_wait K t n.link ws k (c - VEHICLE_COST) rs) (sym (counted b now))
    ∙ sym (queue_moves_stay n dwell t ws (length (b ++ now ∷ [])) (c - VEHICLE_COST) q rs on) in
    come_to_by K t n.link ws _ _ (lists_with q b (r ∷ rs) y c) said _ _
    (queue_moves_stay n dwell t ws (length b) c q (r ∷ rs) s ∙ wait_front_moves_pass n dwell t ws (length b) c r rs e
    ∙ ap (λ (xs : List Move). Transfer n.link Wait 0 r now ∷ Credit n.link (c - VEHICLE_COST) ∷ xs) left)
    (wait_passes n dwell ws t r q rs b y c said s e)
    (wait_pass K t n.link (c - VEHICLE_COST) ws r (moves_left K t n.link ws later) q rs b y c said _
    (ih (b ++ now ∷ []) (c - VEHICLE_COST) (said ++ starts r) h.1 on))

wait_comes : (n : LinkNumbers) (dwell : Dwelling) (t : ℕ) (ws : List Waiter) (q b w y : List Row) (c : ℕ) (said : List Occurrence) → AreOn n.link w
    → queue_fate n t (length b) c q ≡ Stays
    → ComeTo (rules_of n dwell) t n.link ws (moves_left (rules_of n dwell) t n.link ws (lists_with q b w y c)) (lists_with q b w y c) said
    (goes_on n dwell ws t (lists_with q b w y c) said)
wait_comes n dwell t ws q b [] y c said h s =
    come_to_by (rules_of n dwell) t n.link ws _ _ (lists_with q b [] y c) said _ _
    (queue_moves_stay n dwell t ws (length b) c q [] s ∙ wait_moves_stay n dwell t ws (length b) c [] refl)
    (both_stay n dwell ws t q b [] y c said s refl) (nothing (rules_of n dwell) t n.link ws (lists_with q b [] y c) said)
wait_comes n dwell t ws q b (r ∷ rs) y c said h s =
    wait_front n dwell t ws q b r rs y c said (λ b2 c2 said2 h2 s2. wait_comes n dwell t ws q b2 rs y c2 said2 h2 s2) h s
    (wait_fate n (length b) c (r ∷ rs)) refl

-- THE QUEUE
queue_front : (n : LinkNumbers) (dwell : Dwelling) (t : ℕ) (ws : List Waiter) (r : Row) (rs b w y : List Row) (c : ℕ) (said : List Occurrence)
    → ((b2 : List Row) (c2 : ℕ) (said2 : List Occurrence) → AreOn n.link rs → AreOn n.link w
    → ComeTo (rules_of n dwell) t n.link ws (moves_left (rules_of n dwell) t n.link ws (lists_with rs b2 w y c2)) (lists_with rs b2 w y c2) said2
    (goes_on n dwell ws t (lists_with rs b2 w y c2) said2))
    → AreOn n.link (r ∷ rs) → AreOn n.link w → (f : Fate) → queue_fate n t (length b) c (r ∷ rs) ≡ f
    → ComeTo (rules_of n dwell) t n.link ws (moves_left (rules_of n dwell) t n.link ws (lists_with (r ∷ rs) b w y c)) (lists_with (r ∷ rs) b w y c) said
    (goes_on n dwell ws t (lists_with (r ∷ rs) b w y c) said)
queue_front n dwell t ws r rs b w y c said ih h g Stops e =
    come_to_by (rules_of n dwell) t n.link ws _ _ (lists_with (r ∷ rs) b w y c) said _ _ (queue_front_moves_stop n dwell t ws (length b) c r rs w e)
    (queue_stops n dwell ws t r rs b w y c said e) (queue_stop (rules_of n dwell) t n.link ws r rs b w y c said h.0)
queue_front n dwell t ws r rs b w y c said ih h g Arrives e =
    come_to_by (rules_of n dwell) t n.link ws _ _ (lists_with (r ∷ rs) b w y c) said _ _ (queue_front_moves_arrive n dwell t ws (length b) c r rs w e)
    (queue_arrives n dwell ws t r rs b w y c said e) (queue_arrive (rules_of n dwell) t n.link ws r rs b w y c said)
queue_front n dwell t ws r rs b w y c said ih h g Stays e = wait_comes n dwell t ws (r ∷ rs) b w y c said g e
queue_front n dwell t ws r rs b w y c said ih h g Passes e =
    let K = rules_of n dwell in
    let now = buffered t n.link (length b) r in
    let later = lists_with rs (b ++ now ∷ []) w y (c - VEHICLE_COST) in
    let left : from_queue K t n.link ws (length b + 1) (c - VEHICLE_COST) rs w ≡ moves_left K t n.link ws later
    = ap (λ (k : ℕ). from_queue K t n.link ws k (c - VEHICLE_COST) rs w) (sym (counted b now)) in
    come_to_by K t n.link ws _ _ (lists_with (r ∷ rs) b w y c) said _ _
    (queue_front_moves_pass n dwell t ws (length b) c r rs w e
    ∙ ap (λ (xs : List Move). Transfer n.link Queue 0 r now ∷ LeaveHole n.link t ∷ Credit n.link (c - VEHICLE_COST) ∷ xs) left)
    (queue_passes n dwell ws t r rs b w y c said e)
    (queue_pass K t n.link (c - VEHICLE_COST) ws r (moves_left K t n.link ws later) rs b w y c said _
    (ih (b ++ now ∷ []) (c - VEHICLE_COST) said h.1 g))

pub queue_comes : (n : LinkNumbers) (dwell : Dwelling) (t : ℕ) (ws : List Waiter) (q b w y : List Row) (c : ℕ) (said : List Occurrence) → AreOn n.link q
    → AreOn n.link w
    → ComeTo (rules_of n dwell) t n.link ws (moves_left (rules_of n dwell) t n.link ws (lists_with q b w y c)) (lists_with q b w y c) said
    (goes_on n dwell ws t (lists_with q b w y c) said)
queue_comes n dwell t ws [] b w y c said h g = wait_comes n dwell t ws [] b w y c said g refl
queue_comes n dwell t ws (r ∷ rs) b w y c said h g =
    queue_front n dwell t ws r rs b w y c said (λ b2 c2 said2 h2 g2. queue_comes n dwell t ws rs b2 w y c2 said2 h2 g2) h g
    (queue_fate n t (length b) c (r ∷ rs)) refl
