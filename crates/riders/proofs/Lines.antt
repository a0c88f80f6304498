-- Those who wait at one stop: in turn, and none of them twice.
use Rattle.std.proofs.Common.{◌≡◌, ◌≢◌, ℕ, zero, suc, Bool, true, false, List, [], ◌∷◌, ◌++◌, length, take, refl, ap, sym, ◌∙◌, arith, append_assoc, append-nil}
use Rattle.std.proofs.{Common.inl, Common.inr, Common.◌+◌, Common.◌-◌, Common.◌<◌, Common.◌≤◌, Common.drop, Common.get_or, lemmas.Bool.cases_Bool}
use Rattle.std.proofs.lemmas.{Bool.eq-eqb, Bool.ne_eqb, Bool.and_parts, Bool.or_parts, Bool.ltb-true, Bool.lt-ltb, Bool.Decides.nat_tests, List.drop_more}
use Rattle.std.specs.{List.list_any, Prelude.not, Prelude.◌&&◌, Prelude.nat_lt, Prelude.map, Prelude.filter, Prelude.if◌then◌else◌}
use Rattle.traffic.specs.Stops.{ComesBefore, comes_first, among, in_turn, is_person, next_call, staying, may_board, boarding, left_behind, rider}
use Rattle.traffic.specs.{Vehicles.VehicleState, declared.riders.Rider.Rider, declared.world.Waiter.Waiter}
use Rattle.riders.specs.{Serving.left_over, Waiting.NobodyIs, Waiting.AllBefore, Waiting.ComesBeforeAll, Waiting.AreWaiting}

-- SOME OF THEM, AND ONE MORE
passes_before : (p : Waiter → Bool) (w : Waiter) (ws : List Waiter) → ComesBeforeAll w ws → ComesBeforeAll w (filter p ws)
passes_before p w [] h = tt
passes_before p w (x ∷ xs) h =
    elim (cases_Bool (p x)) [ inl e ↦ rw e (h.0, passes_before p w xs h.1) | inr e ↦ rw e (passes_before p w xs h.1) ]

pub passes_nobody : (p : Waiter → Bool) (i : ℕ) (ws : List Waiter) → NobodyIs i ws → NobodyIs i (filter p ws)
passes_nobody p i [] h = tt
passes_nobody p i (x ∷ xs) h =
    elim (cases_Bool (p x)) [ inl e ↦ rw e (h.0, passes_nobody p i xs h.1) | inr e ↦ rw e (passes_nobody p i xs h.1) ]

pub passes_wait : (p : Waiter → Bool) (ws : List Waiter) → AreWaiting ws → AreWaiting (filter p ws)
passes_wait p [] h = tt
passes_wait p (w ∷ ws) h =
    elim (cases_Bool (p w)) [
      | inl e ↦ rw e (passes_before p w ws h.0, passes_nobody p w.person ws h.1, passes_wait p ws h.2)
      | inr e ↦ rw e (passes_wait p ws h.2)
    ]

before_last : (x : Waiter) (ws : List Waiter) (w : Waiter) → ComesBeforeAll x ws → ComesBefore x w → ComesBeforeAll x (ws ++ w ∷ [])
before_last x [] w h b = (b, tt)
before_last x (y ∷ ys) w h b = (h.0, before_last x ys w h.1 b)

nobody_last : (i : ℕ) (ws : List Waiter) (w : Waiter) → NobodyIs i ws → w.person ≢ i → NobodyIs i (ws ++ w ∷ [])
nobody_last i [] w h n = (n, tt)
nobody_last i (y ∷ ys) w h n = (h.0, nobody_last i ys w h.1 n)

pub one_more : (ws : List Waiter) (w : Waiter) → AreWaiting ws → NobodyIs w.person ws → AllBefore ws w → AreWaiting (ws ++ w ∷ [])
one_more [] w h n b = (tt, tt, tt)
one_more (x ∷ xs) w h n b =
    (before_last x xs w h.0 b.0, nobody_last x.person xs w h.1 (λ q. n.0 (sym q)), one_more xs w h.2 n.1 b.1)

-- THEY ARE IN TURN
first_of : (w x : Waiter) → ComesBefore w x → x.person ≢ w.person → comes_first w x ≡ true
first_of w x h n = grind (arith, nat_tests)

among_first : (w : Waiter) (ws : List Waiter) → ComesBeforeAll w ws → NobodyIs w.person ws → among w ws ≡ w ∷ ws
unfolding among
among_first w [] h n = refl
among_first w (x ∷ xs) h n = rw (first_of w x h.0 n.0) refl

pub in_line : (ws : List Waiter) → AreWaiting ws → in_turn ws ≡ ws
unfolding in_turn
in_line [] h = refl
in_line (w ∷ ws) h = ap (among w) (in_line ws h.2) ∙ among_first w ws h.0 h.1

-- WHO IS LEFT
abbrev stays : List Waiter → Waiter → Bool
stays bs w = not (list_any (is_person w.person) bs)

all_stay : (ws : List Waiter) → filter (stays []) ws ≡ ws
all_stay [] = refl
all_stay (w ∷ ws) = ap (λ (xs : List Waiter). w ∷ xs) (all_stay ws)

pub take_nobody : (k i : ℕ) (ws : List Waiter) → NobodyIs i ws → NobodyIs i (take k ws)
take_nobody zero i ws h = tt
take_nobody (suc k) i [] h = tt
take_nobody (suc k) i (w ∷ ws) h = (h.0, take_nobody k i ws h.1)

pub none_is : (i : ℕ) (ws : List Waiter) → NobodyIs i ws → list_any (is_person i) ws ≡ false
none_is i [] h = refl
none_is i (w ∷ ws) h = rw (ne_eqb w.person i h.0) (none_is i ws h.1)

skipped : (w : Waiter) (bs ws : List Waiter) → NobodyIs w.person ws → filter (stays (w ∷ bs)) ws ≡ filter (stays bs) ws
skipped w bs [] h = refl
skipped w bs (x ∷ xs) h =
    let e = ne_eqb w.person x.person (λ q. h.0 (sym q)) in
    rw e (ap (λ (ys : List Waiter). if stays bs x then x ∷ ys else ys) (skipped w bs xs h.1))

left_next : (p : Waiter → Bool) (k : ℕ) (w : Waiter) (ws : List Waiter) (b : Bool) → p w ≡ b → NobodyIs w.person ws
    → left_over k p ws ≡ filter (stays (take k (filter p ws))) ws → left_over (suc k) p ws ≡ filter (stays (take (suc k) (filter p ws))) ws
    → left_over (suc k) p (w ∷ ws) ≡ filter (stays (take (suc k) (filter p (w ∷ ws)))) (w ∷ ws)
unfolding left_over
left_next p k w ws true e h f g =
    let i = eq-eqb w.person w.person refl in
    let d : take (suc k) (filter p (w ∷ ws)) ≡ w ∷ take k (filter p ws) = rw e refl in
    let l : left_over (suc k) p (w ∷ ws) ≡ left_over k p ws = rw e refl in
    let r : filter (stays (w ∷ take k (filter p ws))) (w ∷ ws) ≡ filter (stays (w ∷ take k (filter p ws))) ws = rw i refl in
    l ∙ f ∙ sym (skipped w (take k (filter p ws)) ws h) ∙ sym r ∙ ap (λ (bs : List Waiter). filter (stays bs) (w ∷ ws)) (sym d)
left_next p k w ws false e h f g =
    let n = none_is w.person (take (suc k) (filter p ws)) (take_nobody (suc k) w.person (filter p ws) (passes_nobody p w.person ws h)) in
    let d : filter p (w ∷ ws) ≡ filter p ws = rw e refl in
    let l : left_over (suc k) p (w ∷ ws) ≡ w ∷ left_over (suc k) p ws = rw e refl in
    let r : filter (stays (take (suc k) (filter p ws))) (w ∷ ws) ≡ w ∷ filter (stays (take (suc k) (filter p ws))) ws = rw n refl in
    l ∙ ap (λ (xs : List Waiter). w ∷ xs) g ∙ sym r ∙ ap (λ (bs : List Waiter). filter (stays (take (suc k) bs)) (w ∷ ws)) (sym d)

left_is : (p : Waiter → Bool) (k : ℕ) (ws : List Waiter) → AreWaiting ws → left_over k p ws ≡ filter (stays (take k (filter p ws))) ws
unfolding left_over
left_is p zero ws h = sym (all_stay ws)
left_is p (suc k) [] h = refl
left_is p (suc k) (w ∷ ws) h = left_next p k w ws (p w) refl h.1 (left_is p k ws h.2) (left_is p (suc k) ws h.2)

-- the seats that are free once those have alighted whose stop it is
abbrev pub free : VehicleState → ℕ
free v = v.seats - length (staying (next_call v).stop v.riders)

pub boards : (v : VehicleState) (ws : List Waiter) → AreWaiting ws → take (free v) (filter (may_board v) ws) ≡ boarding v ws
unfolding boarding
boards v ws h = ap (take (free v)) (sym (in_line (filter (may_board v) ws) (passes_wait (may_board v) ws h)))

pub left : (v : VehicleState) (ws : List Waiter) → AreWaiting ws → left_over (free v) (may_board v) ws ≡ left_behind v ws
unfolding left_behind
left v ws h =
    left_is (may_board v) (free v) ws h ∙ ap (λ (bs : List Waiter). filter (λ (w : Waiter). not (list_any (is_person w.person) bs)) ws)
    (boards v ws h)

pub left_wait : (v : VehicleState) (ws : List Waiter) → AreWaiting ws → AreWaiting (left_behind v ws)
unfolding left_behind
left_wait v ws h = passes_wait (λ (w : Waiter). not (list_any (is_person w.person) (boarding v ws))) ws h

-- ONE AFTER THE OTHER
suc_less_one : (k : ℕ) → suc k - 1 ≡ k
suc_less_one k = omega arith

taken_rows : (k : ℕ) (p : Waiter → Bool) (w : Waiter) (ws : List Waiter) → (nat_lt 0 k && p w) ≡ true
    → take k (filter p (w ∷ ws)) ≡ w ∷ take (k - 1) (filter p ws)
taken_rows zero p w ws e = absurd (let f = and_parts (nat_lt 0 0) (p w) e in let g = ltb-true 0 0 f.0 in omega arith)
taken_rows (suc k) p w ws e =
    let f = and_parts (nat_lt 0 (suc k)) (p w) e in
    rw (f.1, suc_less_one k) refl

taken_left : (k : ℕ) (p : Waiter → Bool) (w : Waiter) (ws : List Waiter) → (nat_lt 0 k && p w) ≡ true
    → left_over k p (w ∷ ws) ≡ left_over (k - 1) p ws
unfolding left_over
taken_left zero p w ws e = absurd (let f = and_parts (nat_lt 0 0) (p w) e in let g = ltb-true 0 0 f.0 in omega arith)
taken_left (suc k) p w ws e =
    let f = and_parts (nat_lt 0 (suc k)) (p w) e in
    rw f.1 (ap (λ (n : ℕ). left_over n p ws) (sym (suc_less_one k)))

one_taken : (k : ℕ) (p : Waiter → Bool) (w : Waiter) (ws : List Waiter) → (nat_lt 0 k && p w) ≡ true
    → (take k (filter p (w ∷ ws)) ≡ w ∷ take (k - 1) (filter p ws)) × (left_over k p (w ∷ ws) ≡ left_over (k - 1) p ws)
one_taken k p w ws e = (taken_rows k p w ws e, taken_left k p w ws e)

left_rows : (k : ℕ) (p : Waiter → Bool) (w : Waiter) (ws : List Waiter) → (nat_lt 0 k && p w) ≡ false
    → take k (filter p (w ∷ ws)) ≡ take k (filter p ws)
left_rows zero p w ws e = refl
left_rows (suc k) p w ws e = let f : p w ≡ false = rw (lt-ltb 0 (suc k) (omega arith)) at e in rw f refl

left_left : (k : ℕ) (p : Waiter → Bool) (w : Waiter) (ws : List Waiter) → (nat_lt 0 k && p w) ≡ false
    → left_over k p (w ∷ ws) ≡ w ∷ left_over k p ws
unfolding left_over
left_left zero p w ws e = refl
left_left (suc k) p w ws e = let f : p w ≡ false = rw (lt-ltb 0 (suc k) (omega arith)) at e in rw f refl

one_left : (k : ℕ) (p : Waiter → Bool) (w : Waiter) (ws : List Waiter) → (nat_lt 0 k && p w) ≡ false
    → (take k (filter p (w ∷ ws)) ≡ take k (filter p ws)) × (left_over k p (w ∷ ws) ≡ w ∷ left_over k p ws)
one_left k p w ws e = (left_rows k p w ws e, left_left k p w ws e)

one_more_row : (ws : List Waiter) (i : ℕ) (d : Waiter) → i < length ws → drop i ws ≡ get_or ws i d ∷ drop (i + 1) ws
one_more_row ws i d lt = drop_more ws i d lt

pub taken_boards : (bs cs : List Rider) (k : ℕ) (p : Waiter → Bool) (d : Waiter) (x : Rider) (i : ℕ) (ws : List Waiter) (all : List Rider)
    → cs ≡ bs ++ x ∷ [] → x ≡ rider (get_or ws i d) → i < length ws → (nat_lt 0 k && p (get_or ws i d)) ≡ true
    → bs ++ map rider (take k (filter p (drop i ws))) ≡ all → cs ++ map rider (take (k - 1) (filter p (drop (i + 1) ws))) ≡ all
taken_boards bs cs k p d x i ws all e r lt g h =
    let w = get_or ws i d in
    let t = one_taken k p w (drop (i + 1) ws) g in
    ap (λ (xs : List Rider). xs ++ map rider (take (k - 1) (filter p (drop (i + 1) ws)))) (e ∙ ap (λ (y : Rider). bs ++ y ∷ []) r)
    ∙ append_assoc bs (rider w ∷ []) (map rider (take (k - 1) (filter p (drop (i + 1) ws))))
    ∙ ap (λ (xs : List Waiter). bs ++ map rider xs) (sym t.0)
    ∙ ap (λ (xs : List Waiter). bs ++ map rider (take k (filter p xs))) (sym (one_more_row ws i d lt)) ∙ h

pub taken_leaves : (ls : List Waiter) (k : ℕ) (p : Waiter → Bool) (d : Waiter) (i : ℕ) (ws all : List Waiter)
    → i < length ws → (nat_lt 0 k && p (get_or ws i d)) ≡ true → ls ++ left_over k p (drop i ws) ≡ all
    → ls ++ left_over (k - 1) p (drop (i + 1) ws) ≡ all
taken_leaves ls k p d i ws all lt g h =
    let t = one_taken k p (get_or ws i d) (drop (i + 1) ws) g in
    ap (λ (xs : List Waiter). ls ++ xs) (sym t.1) ∙ ap (λ (xs : List Waiter). ls ++ left_over k p xs) (sym (one_more_row ws i d lt)) ∙ h

pub left_boards : (bs : List Rider) (k : ℕ) (p : Waiter → Bool) (d : Waiter) (i : ℕ) (ws : List Waiter) (all : List Rider)
    → i < length ws → (nat_lt 0 k && p (get_or ws i d)) ≡ false → bs ++ map rider (take k (filter p (drop i ws))) ≡ all
    → bs ++ map rider (take k (filter p (drop (i + 1) ws))) ≡ all
left_boards bs k p d i ws all lt g h =
    let t = one_left k p (get_or ws i d) (drop (i + 1) ws) g in
    ap (λ (xs : List Waiter). bs ++ map rider xs) (sym t.0)
    ∙ ap (λ (xs : List Waiter). bs ++ map rider (take k (filter p xs))) (sym (one_more_row ws i d lt)) ∙ h

pub left_leaves : (ls ms : List Waiter) (k : ℕ) (p : Waiter → Bool) (d : Waiter) (i : ℕ) (ws all : List Waiter) → ms
    ≡ ls ++ get_or ws i d ∷ []
    → i < length ws → (nat_lt 0 k && p (get_or ws i d)) ≡ false → ls ++ left_over k p (drop i ws) ≡ all
    → ms ++ left_over k p (drop (i + 1) ws) ≡ all
left_leaves ls ms k p d i ws all e lt g h =
    let w = get_or ws i d in
    let t = one_left k p w (drop (i + 1) ws) g in
    ap (λ (xs : List Waiter). xs ++ left_over k p (drop (i + 1) ws)) e
    ∙ append_assoc ls (w ∷ []) (left_over k p (drop (i + 1) ws))
    ∙ ap (λ (xs : List Waiter). ls ++ xs) (sym t.1)
    ∙ ap (λ (xs : List Waiter). ls ++ left_over k p xs) (sym (one_more_row ws i d lt)) ∙ h

none_over : (k : ℕ) (p : Waiter → Bool) → left_over k p [] ≡ []
unfolding left_over
none_over zero p = refl
none_over (suc k) p = refl

drop_past : (ws : List Waiter) (i : ℕ) → length ws ≤ i → drop i ws ≡ []
drop_past [] zero le = refl
drop_past [] (suc i) le = refl
drop_past (w ∷ ws) zero le = absurd (omega arith)
drop_past (w ∷ ws) (suc i) le = drop_past ws i (omega arith)

-- all of them, at the end
pub none_more : (ls : List Waiter) (k : ℕ) (p : Waiter → Bool) (i : ℕ) (ws all : List Waiter) → length ws ≤ i
    → ls ++ left_over k p (drop i ws) ≡ all → ls ≡ all
none_more ls k p i ws all le h =
    sym (append-nil ls) ∙ ap (λ (xs : List Waiter). ls ++ xs) (sym (none_over k p))
    ∙ ap (λ (xs : List Waiter). ls ++ left_over k p xs) (sym (drop_past ws i le)) ∙ h

-- BY WHAT WAS COUNTED
pub boards_by : (v : VehicleState) (ws rows read : List Waiter) (stay seats : ℕ) → AreWaiting rows → ws ≡ rows → read ≡ rows
    → stay ≡ length (staying (next_call v).stop v.riders) → seats ≡ v.seats - stay → take seats (filter (may_board v) read) ≡ boarding v ws
boards_by v ws rows read stay seats h e r c s =
    ap (λ (k : ℕ). take k (filter (may_board v) read)) (s ∙ ap (λ (k : ℕ). v.seats - k) c)
    ∙ ap (λ (xs : List Waiter). take (free v) (filter (may_board v) xs)) r ∙ boards v rows h ∙ ap (boarding v) (sym e)

pub left_by : (v : VehicleState) (ws rows read : List Waiter) (stay seats : ℕ) → AreWaiting rows → ws ≡ rows → read ≡ rows
    → stay ≡ length (staying (next_call v).stop v.riders) → seats ≡ v.seats - stay → left_over seats (may_board v) read ≡ left_behind v ws
left_by v ws rows read stay seats h e r c s =
    ap (λ (k : ℕ). left_over k (may_board v) read) (s ∙ ap (λ (k : ℕ). v.seats - k) c)
    ∙ ap (left_over (free v) (may_board v)) r ∙ left v rows h ∙ ap (left_behind v) (sym e)

-- WHERE NOBODY BOARDS
none_pass : (p : Waiter → Bool) (ws : List Waiter) → list_any p ws ≡ false → filter p ws ≡ []
none_pass p [] e = refl
none_pass p (w ∷ ws) e = let q = or_parts (p w) (list_any p ws) e in let f = q.0 in rw f (none_pass p ws q.1)

none_taken : (k : ℕ) (p : Waiter → Bool) (ws : List Waiter) → (nat_lt 0 k && list_any p ws) ≡ false → take k (filter p ws) ≡ []
none_taken zero p ws e = refl
none_taken (suc k) p ws e =
    let f : list_any p ws ≡ false = rw (lt-ltb 0 (suc k) (omega arith)) at e in ap (take (suc k)) (none_pass p ws f)

stay_over : (k : ℕ) (p : Waiter → Bool) (ws : List Waiter) → list_any p ws ≡ false → left_over (suc k) p ws ≡ ws
unfolding left_over
stay_over k p [] e = refl
stay_over k p (w ∷ ws) e =
    let q = or_parts (p w) (list_any p ws) e in let f = q.0 in rw f (ap (λ (xs : List Waiter). w ∷ xs) (stay_over k p ws q.1))

all_over : (k : ℕ) (p : Waiter → Bool) (ws : List Waiter) → (nat_lt 0 k && list_any p ws) ≡ false → left_over k p ws ≡ ws
unfolding left_over
all_over zero p ws e = refl
all_over (suc k) p ws e =
    let f : list_any p ws ≡ false = rw (lt-ltb 0 (suc k) (omega arith)) at e in stay_over k p ws f

pub nobody_boards : (v : VehicleState) (ws rows read : List Waiter) (stay seats : ℕ) → AreWaiting rows → ws ≡ rows → read ≡ rows
    → stay ≡ length (staying (next_call v).stop v.riders) → seats ≡ v.seats - stay
    → (nat_lt 0 seats && list_any (may_board v) read) ≡ false → [] ≡ map rider (boarding v ws)
nobody_boards v ws rows read stay seats h e r c s n =
    ap (map rider) (sym (none_taken seats (may_board v) read n) ∙ boards_by v ws rows read stay seats h e r c s)

pub all_left : (v : VehicleState) (ws rows read : List Waiter) (stay seats : ℕ) → AreWaiting rows → ws ≡ rows → read ≡ rows
    → stay ≡ length (staying (next_call v).stop v.riders) → seats ≡ v.seats - stay
    → (nat_lt 0 seats && list_any (may_board v) read) ≡ false → ws ≡ left_behind v ws
all_left v ws rows read stay seats h e r c s n =
    e ∙ sym r ∙ sym (all_over seats (may_board v) read n) ∙ left_by v ws rows read stay seats h e r c s
