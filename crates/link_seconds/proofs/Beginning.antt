-- The begin of a link's second: the bay and the credit.
use Rattle.std.proofs.Common.{◌≡◌, ℕ, suc, ◌+◌, ◌-◌, ◌≤◌, Bool, false, List, [], ◌∷◌, ◌++◌, refl, ap, sym, ◌∙◌, subst, inl, inr, arith, append-nil}
use Rattle.std.proofs.{Common.append_assoc, lemmas.Bool.cases_Bool, lemmas.Grind.flat_map-append}
use Rattle.std.specs.{List.flat_map, List.AllByRecursion as Each, Prelude.map, Prelude.filter, Prelude.nat_le}
use Rattle.fixed_flow.specs.Flow.{raised, raised_times}
use Rattle.traffic.{proofs.Each.each_append, proofs.Each.each_map, proofs.Each.each_kept, specs.Links.LinkState}
use Rattle.traffic.specs.{Links.waiting, Links.leave_bay, Links.link_moves, Links.wait_after, Moves.told, Telling.goes_on, declared.moves.Move.Move}
use Rattle.traffic.specs.declared.{moves.Move.TheVariants.Credit, moves.Occurrence.Occurrence, numbers.Rules.Rules, world.Row.Row, world.Waiter.Waiter}
use Rattle.law_sleeping.proofs.Settling.{lists_with, credited, stays, bay_link_state}
use Rattle.law_sleeping.{proofs.Whole.link_state_append, specs.Quiet.link_state_after, specs.Quiet.link_state_after_all}
use Rattle.queue_link.specs.{Links.LinkView, Turns.is_due, Turns.left_in_bay, Turns.begun, Turns.moves_left, declared.numbers.LinkNumbers.LinkNumbers}
use Rattle.link_seconds.specs.Seconds.{HaveLines, AreReady, IsReady, StopThere, IsThere, left_after, LeadsOn, IsSecond, lists_at}
use Rattle.link_seconds.proofs.Leading.{left_append}

-- WHAT THE BEGIN DOES
left_stays : (t : ℕ) (rows : List Row) → stays t rows ≡ left_in_bay t rows
unfolding stays
left_stays t [] = refl
left_stays t (r ∷ rs) = elim (cases_Bool (nat_le r.second t)) [ inl e ↦ simp e (left_stays t rs) | inr e ↦ simp e (ap (λ (xs : List Row). r ∷ xs) (left_stays t rs)) ]

bay_told : (t l k : ℕ) (rows : List Row) → flat_map told (leave_bay t l k rows) ≡ flat_map goes_on (filter (is_due t) rows)
unfolding leave_bay
bay_told t l k [] = refl
bay_told t l k (r ∷ rs) =
    elim (cases_Bool (nat_le r.second t)) [
      | inl e ↦ simp e (ap (λ (xs : List Occurrence). goes_on r ++ xs) (bay_told t l k rs))
      | inr e ↦ simp e (bay_told t l (k + 1) rs)
    ]

bay_leaves : (t l k : ℕ) (rows : List Row) (ws : List Waiter) → left_after (leave_bay t l k rows) ws ≡ ws
unfolding leave_bay
bay_leaves t l k [] ws = refl
bay_leaves t l k (r ∷ rs) ws = elim (cases_Bool (nat_le r.second t)) [ inl e ↦ simp e (bay_leaves t l k rs ws) | inr e ↦ simp e (bay_leaves t l (k + 1) rs ws) ]

-- the moves of the begin
begins : Rules → ℕ → ℕ → LinkState → List Move
begins K t l L = leave_bay t l 0 L.bay ++ Credit l (raised K.gain L.credit) ∷ []

begins_lists : (K : Rules) (t l : ℕ) (L : LinkState) → link_state_after_all l (begins K t l L) L ≡ begun K.gain 1 t l L
unfolding begins raised_times
begins_lists K t l L =
    link_state_append l (leave_bay t l 0 L.bay) (Credit l (raised K.gain L.credit) ∷ []) L
    ∙ ap (link_state_after l (Credit l (raised K.gain L.credit))) (bay_link_state t l 0 L.bay [] L.queue L.buffer L.wait L.credit refl)
    ∙ credited l (raised K.gain L.credit) L.queue L.buffer (wait_after t l L) (stays t L.bay) L.credit
    ∙ ap (λ (y : List Row). lists_with L.queue L.buffer (wait_after t l L) y (raised K.gain L.credit)) (left_stays t L.bay)

begins_told : (K : Rules) (t l : ℕ) (L : LinkState) → flat_map told (begins K t l L) ≡ flat_map goes_on (filter (is_due t) L.bay)
unfolding begins
begins_told K t l L =
    flat_map-append told (leave_bay t l 0 L.bay) (Credit l (raised K.gain L.credit) ∷ []) ∙ append-nil _ ∙ bay_told t l 0 L.bay

begins_left : (K : Rules) (t l : ℕ) (L : LinkState) (ws : List Waiter) → left_after (begins K t l L) ws ≡ ws
unfolding begins
begins_left K t l L ws = left_append (leave_bay t l 0 L.bay) (Credit l (raised K.gain L.credit) ∷ []) ws ∙ bay_leaves t l 0 L.bay ws

all_moves : (K : Rules) (t l : ℕ) (ws : List Waiter) (L : LinkState)
    → link_moves K t l ws L ≡ begins K t l L ++ moves_left K t l ws (begun K.gain 1 t l L)
unfolding begins link_moves raised_times
all_moves K t l ws L = sym (append_assoc (leave_bay t l 0 L.bay) (Credit l (raised K.gain L.credit) ∷ []) _)

-- the lists that the code begins with, which were not raised for some seconds
begun_at : (t l : ℕ) (v : LinkView) → v.raised ≤ t
    → begun v.numbers.gain (t + 1 - v.raised) t l v.lists ≡ begun v.numbers.gain 1 t l (lists_at t v)
unfolding raised_times
begun_at t l v le =
    let L = v.lists in
    let e : t + 1 - v.raised ≡ suc (t - v.raised) = omega arith in
    ap (λ (k : ℕ). begun v.numbers.gain k t l L) e

-- THE WHOLE SECOND
pub whole_second : (lies : ℕ → Bool) (K : Rules) (t l : ℕ) (ws : List Waiter) (v : LinkView) (B M : LinkState) (said heard now : List Occurrence)
    (lines later : List (List Waiter)) → K.gain ≡ v.numbers.gain → v.raised ≤ t
    → B ≡ begun v.numbers.gain (t + 1 - v.raised) t l v.lists
    → heard ≡ said ++ flat_map goes_on (filter (is_due t) v.lists.bay)
    → LeadsOn lies false K t l ws B heard lines M now later
    → IsSecond lies K t l ws (lists_at t v) said lines M now later
whole_second lies K t l ws v B M said heard now lines later g le e f h =
    let L = lists_at t v in
    let first = begins K t l L in
    let b : B ≡ begun K.gain 1 t l L = e ∙ begun_at t l v le ∙ ap (λ (k : ℕ). begun k 1 t l L) (sym g) in
    let rest : moves_left K t l ws (begun K.gain 1 t l L) ≡ h.moves
    = ap (moves_left K t l ws) (sym b) ∙ h.all ∙ append-nil h.moves in
    let ms : link_moves K t l ws L ≡ first ++ h.moves = all_moves K t l ws L ∙ ap (λ (xs : List Move). first ++ xs) rest in
    let leaves : left_after (link_moves K t l ws L) ws ≡ h.left
    = ap (λ (xs : List Move). left_after xs ws) ms ∙ left_append first h.moves ws ∙ ap (left_after h.moves) (begins_left K t l L ws) ∙ h.leaves in
    record {
      lists = sym (ap (λ (xs : List Move). link_state_after_all l xs L) ms ∙ link_state_append l first h.moves L
          ∙ ap (link_state_after_all l h.moves) (begins_lists K t l L ∙ sym b) ∙ h.lists);
      events = sym (ap (λ (xs : List Move). said ++ flat_map told xs) ms ∙ ap (λ (xs : List Occurrence). said ++ xs) (flat_map-append told first h.moves)
          ∙ sym (append_assoc said (flat_map told first) (flat_map told h.moves))
          ∙ ap (λ (xs : List Occurrence). (said ++ xs) ++ flat_map told h.moves) (begins_told K t l L)
          ∙ ap (λ (xs : List Occurrence). xs ++ flat_map told h.moves) (sym f) ∙ h.events);
      waits = subst (λ (xs : List Waiter). HaveLines lies later xs) (sym leaves) h.waits;
      others = h.others;
    }

-- ROWS
-- what holds of the rows of a link, whatever list they are on, holds of those on its wait list after the begin
waits_such : (R : Row → Type 0) (t l : ℕ) (wait bay : List Row) → ((r : Row) → R r → R (waiting l r)) → Each R wait → Each R bay
    → Each R (wait ++ map (waiting l) (filter (is_due t) bay))
waits_such R t l wait bay f h g = each_append R wait _ h (each_map R R (waiting l) f (filter (is_due t) bay) (each_kept R (is_due t) bay g))

same_link : (v w : LinkView) → w.numbers ≡ v.numbers → v.numbers.link ≡ w.numbers.link
same_link v w e = ap (λ (x : LinkNumbers). x.link) (sym e)

pub begun_ready : (stops t k : ℕ) (v w : LinkView) → w.numbers ≡ v.numbers → w.lists ≡ begun v.numbers.gain k t v.numbers.link v.lists
    → AreReady stops v → Each (IsReady stops v.numbers.link) v.lists.bay → AreReady stops w
begun_ready stops t k v w n e h g =
    let l = v.numbers.link in
    let R = IsReady stops l in
    let i = same_link v w n in
    record {
      queue = subst (λ (m : ℕ). Each (IsReady stops m) w.lists.queue) i (subst (λ (L : LinkState). Each R L.queue) (sym e) h.queue);
      wait = subst (λ (m : ℕ). Each (IsReady stops m) w.lists.wait) i
          (subst (λ (L : LinkState). Each R L.wait) (sym e) (waits_such R t l v.lists.wait v.lists.bay (λ r x. (refl, x.1)) h.wait g));
    }

pub begun_there : (lies : ℕ → Bool) (t k : ℕ) (v w : LinkView) → w.numbers ≡ v.numbers → w.lists ≡ begun v.numbers.gain k t v.numbers.link v.lists
    → StopThere lies v → Each (IsThere lies v.numbers.link) v.lists.bay → StopThere lies w
begun_there lies t k v w n e h g =
    let l = v.numbers.link in
    let R = IsThere lies l in
    let i = same_link v w n in
    record {
      queue = subst (λ (m : ℕ). Each (IsThere lies m) w.lists.queue) i (subst (λ (L : LinkState). Each R L.queue) (sym e) h.queue);
      wait = subst (λ (m : ℕ). Each (IsThere lies m) w.lists.wait) i
          (subst (λ (L : LinkState). Each R L.wait) (sym e) (waits_such R t l v.lists.wait v.lists.bay (λ r x. x) h.wait g));
    }
