-- How long a link sleeps, and what others do meanwhile.
use Rattle.std.proofs.Common.{◌≡◌, ◌≢◌, ℕ, suc, ◌+◌, ◌-◌, ◌<◌, ◌≤◌, Bool, true, false, List, [], ◌∷◌, ◌++◌, length, refl, ap, sym, ◌∙◌, subst, eqb, arith, inl}
use Rattle.std.proofs.Common.{inr, append-nil, length-append}
use Rattle.std.proofs.lemmas.{Bool.cases_lt, Bool.ne_eqb, Bool.eqb-true, Bool.and_right, Bool.and_parts, List.length-set}
use Rattle.std.specs.{List.AllByRecursion as Each, Prelude.◌⊎◌, Prelude.if◌then◌else◌}
use Rattle.fixed_flow.specs.{Flow.raised, Flow.raised_times, Link.ceiling, declared.TheConstants.VEHICLE_COST}
use Rattle.traffic.proofs.{Each.each_append, Each.each_weaker, Sublists.at-done, Sublists.credit-done}
use Rattle.traffic.specs.{Day.turns_in, Day.moves_of, Day.after, Links.LinkState, Links.link_state, Lists.without_at, Lists.on_front, Moves.same}
use Rattle.traffic.specs.{Moves.at_second, Moves.done, Moves.run, Moves.credits_after, Rows.rank, Rows.World, Rows.on, Setup.Setup, declared.moves.Move.Move}
use Rattle.traffic.specs.declared.moves.Move.TheVariants.{Transfer, Remove, Enter, SetFrontSince, Credit, LeaveHole, Report}
use Rattle.traffic.specs.declared.{numbers.Rules.Rules, stage.Stage.Stage, stage.Stage.TheVariants.Queue, stage.Stage.TheVariants.Buffer}
use Rattle.traffic.specs.declared.{stage.Stage.TheVariants.Wait, stage.Stage.TheVariants.Bay, world.Row.Row}
use Rattle.events.specs.declared.event.Phase.{Phase}
use Rattle.law_sleeping.{proofs.Credits.raised_more, proofs.Credits.pays_after, proofs.Credits.never_pays, specs.Quiet.IsPoor}
use Rattle.law_sleeping.specs.Quiet.{IsHeld, QueueSleeps, WaitSleeps, Sleeps, link_state_after, link_state_after_all, TakesAside, ComesAside, IsAside, AreAside}

-- WITHIN THE SLEEP
poor_next : (gain t due c : ℕ) → IsPoor gain t due c → IsPoor gain (suc t) due (raised gain c)
poor_next gain t due c h = λ k pos lt. let e = raised_more gain c k in rw e (h (suc k) (omega arith) (omega arith))

held_next : (K : Rules) (blocked : Bool) (t due l b c : ℕ) (r : Row) → IsHeld K blocked t due l b c r
    → IsHeld K blocked (suc t) due l b (raised K.gain c) r
held_next K blocked t due l b c r h = (h.0, h.1, elim h.2 [ inl a ↦ inl a | inr a ↦ inr (poor_next K.gain t due c a) ])

queue_next : (K : Rules) (blocked : Bool) (t due l b c : ℕ) (rows : List Row) → QueueSleeps K blocked t due l b c rows
    → QueueSleeps K blocked (suc t) due l b (raised K.gain c) rows
queue_next K blocked t due l b c [] h = tt
queue_next K blocked t due l b c (r ∷ rs) (inl h) = inl h
queue_next K blocked t due l b c (r ∷ rs) (inr h) = inr (held_next K blocked t due l b c r h)

wait_next : (K : Rules) (blocked : Bool) (t due l b c : ℕ) (rows : List Row) → WaitSleeps K blocked t due l b c rows
    → WaitSleeps K blocked (suc t) due l b (raised K.gain c) rows
wait_next K blocked t due l b c [] h = tt
wait_next K blocked t due l b c (r ∷ rs) h = held_next K blocked t due l b c r h

pub sleeps_on : (K : Rules) (blocked : Bool) (t due l : ℕ) (L : LinkState) → Sleeps K blocked t due l L
    → Sleeps K blocked (suc t) due l (record L { credit = raised K.gain L.credit })
sleeps_on K blocked t due l L s =
    record {
      bay = s.bay;
      queue = queue_next K blocked t due l (length L.buffer) L.credit L.queue s.queue;
      wait = wait_next K blocked t due l (length L.buffer) L.credit L.wait s.wait;
    }

-- A SHORTER SLEEP
poor_less : (gain t due less c : ℕ) → less ≤ due → IsPoor gain t due c → IsPoor gain t less c
poor_less gain t due less c le h = λ k pos lt. h k pos (omega arith)

held_less : (K : Rules) (blocked : Bool) (t due less l b c : ℕ) (r : Row) → less ≤ due → IsHeld K blocked t due l b c r
    → IsHeld K blocked t less l b c r
held_less K blocked t due less l b c r le h = (h.0, h.1, elim h.2 [ inl a ↦ inl a | inr a ↦ inr (poor_less K.gain t due less c le a) ])

queue_less : (K : Rules) (blocked : Bool) (t due less l b c : ℕ) (rows : List Row) → less ≤ due → QueueSleeps K blocked t due l b c rows
    → QueueSleeps K blocked t less l b c rows
queue_less K blocked t due less l b c [] le h = tt
queue_less K blocked t due less l b c (r ∷ rs) le (inl h) = inl (omega arith)
queue_less K blocked t due less l b c (r ∷ rs) le (inr h) = inr (held_less K blocked t due less l b c r le h)

wait_less : (K : Rules) (blocked : Bool) (t due less l b c : ℕ) (rows : List Row) → less ≤ due → WaitSleeps K blocked t due l b c rows
    → WaitSleeps K blocked t less l b c rows
wait_less K blocked t due less l b c [] le h = tt
wait_less K blocked t due less l b c (r ∷ rs) le h = held_less K blocked t due less l b c r le h

pub sleeps_less : (K : Rules) (blocked : Bool) (t due less l : ℕ) (L : LinkState) → less ≤ due → Sleeps K blocked t due l L
    → Sleeps K blocked t less l L
sleeps_less K blocked t due less l L le s =
    record {
      bay = each_weaker (λ (r : Row). due ≤ r.second) (λ (r : Row). less ≤ r.second) (λ r h. omega arith) L.bay s.bay;
      queue = queue_less K blocked t due less l (length L.buffer) L.credit L.queue le s.queue;
      wait = wait_less K blocked t due less l (length L.buffer) L.credit L.wait le s.wait;
    }

-- UNTIL WHEN CREDIT LACKS
pub poor_until : (gain t due credit : ℕ) → 0 < gain → due ≤ t + ceiling (VEHICLE_COST - credit) gain → IsPoor gain t due credit
poor_until gain t due credit g le = λ k pos lt.
    elim (cases_lt (raised_times gain k credit) VEHICLE_COST) [
      | inl h ↦ h
      | inr h ↦ let p = pays_after gain credit k g h in absurd (omega arith)
    ]

pub poor_ever : (t due credit : ℕ) → credit < VEHICLE_COST → IsPoor 0 t due credit
poor_ever t due credit h = λ k pos lt. let e = never_pays credit k h in rw e h

-- WHAT OTHERS DO
-- a held front stays held whatever the buffer is, if it does not wait for room, and while the buffer does not shrink
held_kept : (K : Rules) (blocked : Bool) (t due l b more c : ℕ) (r : Row) → (blocked ≡ true → b ≤ more) → IsHeld K blocked t due l b c r
    → IsHeld K blocked t due l more c r
held_kept K blocked t due l b more c r le h = (
  h.0,
  h.1,
  elim h.2 [
    | inl a ↦ inl (a.0, (let z = le a.0 in let y = a.1 in omega arith))
    | inr a ↦ inr a
  ],
)

queue_kept : (K : Rules) (blocked : Bool) (t due l b more c : ℕ) (xs ys : List Row) → (blocked ≡ true → b ≤ more)
    → ((xs ≡ []) → QueueSleeps K blocked t due l more c ys) → QueueSleeps K blocked t due l b c xs
    → QueueSleeps K blocked t due l more c (xs ++ ys)
queue_kept K blocked t due l b more c [] ys le f h = f refl
queue_kept K blocked t due l b more c (r ∷ rs) ys le f (inl h) = inl h
queue_kept K blocked t due l b more c (r ∷ rs) ys le f (inr h) = inr (held_kept K blocked t due l b more c r le h)

wait_kept : (K : Rules) (blocked : Bool) (t due l b more c : ℕ) (xs ys : List Row) → (blocked ≡ true → b ≤ more)
    → ((xs ≡ []) → WaitSleeps K blocked t due l more c ys) → WaitSleeps K blocked t due l b c xs
    → WaitSleeps K blocked t due l more c (xs ++ ys)
wait_kept K blocked t due l b more c [] ys le f h = f refl
wait_kept K blocked t due l b more c (r ∷ rs) ys le f h = held_kept K blocked t due l b more c r le h

-- the rows that a move brings, if any
abbrev brought : Bool → Row → List Row
brought b now = if b then now ∷ [] else []

queue_brought : (K : Rules) (blocked : Bool) (t due l b c : ℕ) (comes : Bool) (xs : List Row) (now : Row)
    → (comes ≡ true → (xs ≢ []) ⊎ (due ≤ now.second)) → xs ≡ [] → QueueSleeps K blocked t due l b c (brought comes now)
queue_brought K blocked t due l b c false xs now h e = tt
queue_brought K blocked t due l b c true xs now h e = elim (h refl) [ inl a ↦ absurd (a e) | inr a ↦ inl a ]

wait_brought : (K : Rules) (blocked : Bool) (t due l b c : ℕ) (comes : Bool) (xs : List Row) (now : Row) → (comes ≡ true → xs ≢ []) → xs
    ≡ [] → WaitSleeps K blocked t due l b c (brought comes now)
wait_brought K blocked t due l b c false xs now h e = tt
wait_brought K blocked t due l b c true xs now h e = absurd (h refl e)

bay_brought : (due : ℕ) (comes : Bool) (now : Row) → (comes ≡ true → due ≤ now.second)
    → Each (λ (r : Row). due ≤ r.second) (brought comes now)
bay_brought due false now h = tt
bay_brought due true now h = (h refl, tt)

-- rows come, and the buffer is as long as it was or no front waits for room
comes_kept : (K : Rules) (blocked : Bool) (t due l : ℕ) (L : LinkState) (buffer : List Row) (now : Row) → ComesAside l due L now
    → (blocked ≡ true → length L.buffer ≤ length buffer) → Sleeps K blocked t due l L
    → Sleeps K blocked t due l (record {
      queue = L.queue ++ brought (on l Queue now) now;
      buffer = buffer;
      wait = L.wait ++ brought (on l
          Wait now) now;
      bay = L.bay ++ brought (on l Bay now) now;
      credit = L.credit;
    })
comes_kept K blocked t due l L buffer now h le s =
    record {
      bay = each_append (λ (r : Row). due ≤ r.second) L.bay (brought (on l Bay now) now) s.bay (bay_brought due (on l Bay now) now h.2);
      queue = queue_kept K blocked t due l (length L.buffer) (length buffer) L.credit L.queue (brought (on l Queue now) now) le
          (queue_brought K blocked t due l (length buffer) L.credit (on l Queue now) L.queue now h.0) s.queue;
      wait = wait_kept K blocked t due l (length L.buffer) (length buffer) L.credit L.wait (brought (on l Wait now) now) le
          (wait_brought K blocked t due l (length buffer) L.credit (on l Wait now) L.wait now h.1) s.wait;
    }

-- the fronts stay as they are
fronts_kept : (K : Rules) (blocked : Bool) (t due l : ℕ) (L : LinkState) (buffer : List Row)
    → (blocked ≡ true → length L.buffer ≤ length buffer) → Sleeps K blocked t due l L
    → Sleeps K blocked t due l (record L { buffer = buffer })
fronts_kept K blocked t due l L buffer le s =
    let e : (xs : List Row) → xs ++ [] ≡ xs = λ xs. append-nil xs in
    record {
      bay = s.bay;
      queue = subst (QueueSleeps K blocked t due l (length buffer) L.credit) (e L.queue)
          (queue_kept K blocked t due l (length L.buffer) (length buffer) L.credit L.queue [] le (λ q. tt) s.queue);
      wait = subst (WaitSleeps K blocked t due l (length buffer) L.credit) (e L.wait)
          (wait_kept K blocked t due l (length L.buffer) (length buffer) L.credit L.wait [] le (λ q. tt) s.wait);
    }

cut_buffer : (blocked taken : Bool) (k : ℕ) (xs : List Row) → (taken ≡ true → blocked ≡ false) → blocked ≡ true
    → length xs ≤ length (if taken then without_at k xs else xs)
cut_buffer blocked true k xs h b = absurd (let z = h refl in cc)
cut_buffer blocked false k xs h b = omega arith

marked_length : (b : Bool) (u : ℕ) (xs : List Row) → length xs ≡ length (if b then on_front (at_second u) xs else xs)
marked_length true u [] = refl
marked_length true u (x ∷ xs) = refl
marked_length false u xs = refl

pub aside_keeps : (K : Rules) (blocked : Bool) (t due l : ℕ) (L : LinkState) (m : Move) → IsAside blocked due l L m
    → Sleeps K blocked t due l L → Sleeps K blocked t due l (link_state_after l m L)
aside_keeps K blocked t due l L (Transfer a z k was now) h s =
    let g = h.0 in
    let left = (if same l Buffer a z then without_at k L.buffer else L.buffer) in
    let le : blocked ≡ true → length L.buffer ≤ length (left ++ brought (on l Buffer now) now) =
    λ b. let i = cut_buffer blocked (same l Buffer a z) k L.buffer g.3 b in let j = length-append left (brought (on l Buffer now) now)
    in omega arith in
    let r = comes_kept K blocked t due l L (left ++ brought (on l Buffer now) now) now h.1 le s in
    let q = g.0 in let w = g.1 in let y = g.2 in
    rw (q, w, y) r
aside_keeps K blocked t due l L (Remove a z k was) h s =
    let left = (if same l Buffer a z then without_at k L.buffer else L.buffer) in
    let r = fronts_kept K blocked t due l L left (cut_buffer blocked (same l Buffer a z) k L.buffer h.3) s in
    let q = h.0 in let w = h.1 in let y = h.2 in
    rw (q, w, y) r
aside_keeps K blocked t due l L (Enter now) h s =
    comes_kept K blocked t due l L (L.buffer ++ brought (on l Buffer now) now) now h
    (λ b. let j = length-append L.buffer (brought (on l Buffer now) now) in omega arith) s
aside_keeps K blocked t due l L (SetFrontSince a u) h s =
    fronts_kept K blocked t due l L (if same l Buffer a Buffer then on_front (at_second u) L.buffer else L.buffer)
    (λ b. let e = marked_length (same l Buffer a Buffer) u L.buffer in omega arith) s
aside_keeps K blocked t due l L (Credit a c) h s = let e = ne_eqb a l h in rw e s
aside_keeps K blocked t due l L (LeaveHole a u) h s = s
aside_keeps K blocked t due l L (Report says) h s = s

pub asides_keep : (K : Rules) (blocked : Bool) (t due l : ℕ) (ms : List Move) (L : LinkState) → AreAside blocked due l L ms
    → Sleeps K blocked t due l L → Sleeps K blocked t due l (link_state_after_all l ms L)
asides_keep K blocked t due l [] L h s = s
asides_keep K blocked t due l (m ∷ ms) L h s = asides_keep K blocked t due l ms (link_state_after l m L) h.1
    (aside_keeps K blocked t due l L m h.0 s)

-- IN A WORLD
pub link_state_done : (S : Setup) (t l : ℕ) (m : Move) (W : World) → l < length W.credits → link_state l (done S t m W)
    ≡ link_state_after l m (link_state l W)
link_state_done S t l m W h =
    let q = at-done S t l Queue m W in
    let b = at-done S t l Buffer m W in
    let w = at-done S t l Wait m W in
    let y = at-done S t l Bay m W in
    let c = credit-done S t l m W h in cc

credits_long : (m : Move) (cs : List ℕ) → length (credits_after m cs) ≡ length cs
credits_long (Credit l c) cs = length-set cs l c
credits_long _ cs = refl

pub credits_run : (S : Setup) (t : ℕ) (ms : List Move) (W : World) → length (run S t ms W).credits ≡ length W.credits
credits_run S t [] W = refl
credits_run S t (m ∷ ms) W = credits_run S t ms (done S t m W) ∙ credits_long m W.credits

pub link_state_run : (S : Setup) (t l : ℕ) (ms : List Move) (W : World) → l < length W.credits → link_state l (run S t ms W)
    ≡ link_state_after_all l ms (link_state l W)
link_state_run S t l [] W h = refl
link_state_run S t l (m ∷ ms) W h = link_state_run S t l ms (done S t m W) (let e = credits_long m W.credits in omega arith)
    ∙ ap (link_state_after_all l ms) (link_state_done S t l m W h)

-- MOVES THAT DO NOT WAKE
other_place : (l a : ℕ) (s z : Stage) → a ≢ l → same l s a z ≡ false
other_place l a s z ne = and_right (eqb (rank z) (rank s)) (eqb a l) (ne_eqb a l ne)

takes_far : (l a : ℕ) (blocked : Bool) (z : Stage) → a ≢ l → TakesAside l blocked a z
takes_far l a blocked z ne = (
  other_place l a Queue z ne,
  other_place l a Wait z ne,
  other_place l a Bay z ne,
  λ e. absurd
      (let f = other_place l a Buffer z ne in cc),
)

stands_here : (l : ℕ) (s : Stage) (now : Row) → on l s now ≡ true → now.link ≡ l
stands_here l s now e = eqb-true now.link l (and_parts (eqb (rank now.stage) (rank s)) (eqb now.link l) e).1

comes_far : (l due : ℕ) (L : LinkState) (now : Row) → now.link ≢ l → ComesAside l due L now
comes_far l due L now ne = (
  (λ e. absurd (ne (stands_here l Queue now e))),
  (λ e. absurd (ne (stands_here l Wait now e))),
  (λ e. absurd (ne (stands_here l Bay now e))),
)

pub aside_far : (blocked : Bool) (due l a k : ℕ) (z : Stage) (was now : Row) (L : LinkState) → a ≢ l → now.link ≢ l
    → IsAside blocked due l L (Transfer a z k was now)
aside_far blocked due l a k z was now L ne far = (takes_far l a blocked z ne, comes_far l due L now far)

takes_buffer : (l a : ℕ) (blocked : Bool) → (a ≡ l → blocked ≡ false) → TakesAside l blocked a Buffer
takes_buffer l a blocked h = (refl, refl, refl, λ e. h (eqb-true a l e))

queue_comes : (l due : ℕ) (L : LinkState) (now : Row) → now.stage ≡ Queue → (now.link ≡ l → (L.queue ≢ []) ⊎ (due ≤ now.second))
    → ComesAside l due L now
queue_comes l due L now s h =
    let w : on l Wait now ≡ false = rw s refl in
    let y : on l Bay now ≡ false = rw s refl in
    ((λ e. h (stands_here l Queue now e)), (λ e. absurd (cc)), (λ e. absurd (cc)))

pub aside_passed : (blocked : Bool) (due l a k : ℕ) (was now : Row) (L : LinkState) → now.stage ≡ Queue → (a ≡ l → blocked ≡ false)
    → (now.link ≡ l → (L.queue ≢ []) ⊎ (due ≤ now.second))
    → IsAside blocked due l L (Transfer a Buffer k was now)
aside_passed blocked due l a k was now L s h g = (takes_buffer l a blocked h, queue_comes l due L now s g)

pub aside_removed : (blocked : Bool) (due l a k : ℕ) (was : Row) (L : LinkState) → (a ≡ l → blocked ≡ false)
    → IsAside blocked due l L (Remove a Buffer k was)
aside_removed blocked due l a k was L h = takes_buffer l a blocked h

pub aside_new : (blocked : Bool) (due l : ℕ) (now : Row) (L : LinkState) → now.stage ≡ Wait → (now.link ≡ l → L.wait ≢ [])
    → IsAside blocked due l L (Enter now)
aside_new blocked due l now L s h =
    let q : on l Queue now ≡ false = rw s refl in
    let y : on l Bay now ≡ false = rw s refl in
    ((λ e. absurd (cc)), (λ e. h (stands_here l Wait now e)), (λ e. absurd (cc)))

pub phase_sleep : (S : Setup) (K : Rules) (blocked : Bool) (t u due l : ℕ) (p : Phase) (V : World) → l < length V.credits
    → AreAside blocked due l (link_state l V) (moves_of (turns_in S u p V)) → Sleeps K blocked t due l (link_state l V)
    → Sleeps K blocked t due l (link_state l (after S u (turns_in S u p V) V))
phase_sleep S K blocked t u due l p V long h s =
    let ms = moves_of (turns_in S u p V) in
    subst (Sleeps K blocked t due l) (sym (link_state_run S u l ms V long)) (asides_keep K blocked t due l ms (link_state l V) h s)
