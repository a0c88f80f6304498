-- One turn of a link as the code makes it.
use Rattle.std.proofs.Common.{◌≡◌, ℕ, zero, suc, ◌+◌, ◌-◌, ◌<◌, ◌≤◌, Bool, true, false, List, [], ◌∷◌, ◌++◌, length, set, refl, ap, sym, ◌∙◌, subst, inl, inr}
use Rattle.std.proofs.{Common.arith, lemmas.Bool.cases_Bool, lemmas.Bool.and_parts, lemmas.Bool.ltb-true, lemmas.List.length-set}
use Rattle.std.specs.{List.flat_map, List.AllByRecursion as Each, Prelude.◌==◌, Prelude.nat_lt, Prelude.filter}
use Rattle.limits.specs.declared.TheConstants.{MAX_PERSONS}
use Rattle.rows.specs.declared.settings.Dwelling.{Dwelling}
use Rattle.traffic.{proofs.Each.each_weaker, specs.Links.LinkState, specs.Moves.told, specs.Stops.next_call}
use Rattle.traffic.specs.{Stops.calls_on, Stops.left_behind, Stops.served_row, Telling.serves, Telling.goes_on as telling_on, Vehicles.VehicleState}
use Rattle.traffic.specs.declared.{moves.Occurrence.Occurrence, world.Row.Row, world.Waiter.Waiter}
use Rattle.queue_link.specs.{Links.LinkView, Loops.AreOn, Numbers.rules_of, Turns.goes_on, Turns.begun, Turns.is_due, declared.numbers.LinkNumbers.LinkNumbers}
use Rattle.queue_link.specs.declared.turns.Turn.{Turn, TheVariants.Stop}
use Rattle.riders.specs.Serving.{stopping as stopping_row}
use Rattle.link_seconds.proofs.{Beginning.whole_second, Holding.holds, Leading.stop_leads, Leading.leads_then}
use Rattle.link_seconds.specs.Seconds.{line_at, AreShort, CanStop, IsReady, AreReady, IsThere, StopThere, HaveLines, LeadsOn, IsSecond, lists_at}

-- a vehicle that stops has a call to be served
served_some : (l : ℕ) (v : VehicleState) → calls_on l v ≡ true → v.served < length v.calls
served_some l v e = ltb-true v.served (length v.calls) (and_parts (nat_lt v.served (length v.calls)) ((next_call v).link == l) e).0

pub record Stopping (stops : ℕ) (v : VehicleState) : Type 0 where
  pub can : CanStop stops v
  pub calls : v.served < length v.calls

pub stopping : (stops t : ℕ) (dwell : Dwelling) (ws : List Waiter) (A : LinkView) (M : LinkState) (v : VehicleState) (said heard : List Occurrence)
    → AreReady stops A → goes_on A.numbers dwell ws t A.lists said ≡ record { turn = Stop v; lists = M; told = heard } → Stopping stops v
stopping stops t dwell ws A M v said heard h e =
    let l = A.numbers.link in
    let s = (holds (IsReady stops l) A.numbers dwell t ws A.lists said (record { turn = Stop v; lists = M; told = heard }) h.queue h.wait e).stops in
    record {
      can = subst (CanStop stops) s.1.0 s.1.1.1;
      calls = served_some l v s.1.2;
    }

pub stops_there : (lies : ℕ → Bool) (t : ℕ) (dwell : Dwelling) (ws : List Waiter) (A : LinkView) (M : LinkState) (v : VehicleState) (said heard : List Occurrence)
    → StopThere lies A → goes_on A.numbers dwell ws t A.lists said ≡ record { turn = Stop v; lists = M; told = heard } → lies (next_call v).stop ≡ true
stops_there lies t dwell ws A M v said heard h e =
    let l = A.numbers.link in
    let s = (holds (IsThere lies l) A.numbers dwell t ws A.lists said (record { turn = Stop v; lists = M; told = heard }) h.queue h.wait e).stops in
    let on : calls_on l s.0.vehicle ≡ true = ap (calls_on l) s.1.0 ∙ s.1.2 in
    sym (ap (λ (x : VehicleState). lies (next_call x).stop) s.1.0) ∙ s.1.1 on

-- what is left is ready
pub left_ready : (stops t : ℕ) (dwell : Dwelling) (ws : List Waiter) (A B : LinkView) (turn : Turn) (M : LinkState) (said heard : List Occurrence)
    → AreReady stops A → goes_on A.numbers dwell ws t A.lists said ≡ record { turn = turn; lists = M; told = heard }
    → B.numbers ≡ A.numbers → B.lists.queue ≡ M.queue → B.lists.wait ≡ M.wait → AreReady stops B
left_ready stops t dwell ws A B turn M said heard h e n q w =
    let g = holds (IsReady stops A.numbers.link) A.numbers dwell t ws A.lists said (record { turn = turn; lists = M; told = heard }) h.queue h.wait e in
    let i : A.numbers.link ≡ B.numbers.link = ap (λ (x : LinkNumbers). x.link) (sym n) in
    record {
      queue = subst (λ (m : ℕ). Each (IsReady stops m) B.lists.queue) i (subst (λ (xs : List Row). Each (IsReady stops A.numbers.link) xs) (sym q) g.queue);
      wait = subst (λ (m : ℕ). Each (IsReady stops m) B.lists.wait) i (subst (λ (xs : List Row). Each (IsReady stops A.numbers.link) xs) (sym w) g.wait);
    }

pub left_there : (lies : ℕ → Bool) (t : ℕ) (dwell : Dwelling) (ws : List Waiter) (A B : LinkView) (turn : Turn) (M : LinkState) (said heard : List Occurrence)
    → StopThere lies A → goes_on A.numbers dwell ws t A.lists said ≡ record { turn = turn; lists = M; told = heard }
    → B.numbers ≡ A.numbers → B.lists.queue ≡ M.queue → B.lists.wait ≡ M.wait → StopThere lies B
left_there lies t dwell ws A B turn M said heard h e n q w =
    let g = holds (IsThere lies A.numbers.link) A.numbers dwell t ws A.lists said (record { turn = turn; lists = M; told = heard }) h.queue h.wait e in
    let i : A.numbers.link ≡ B.numbers.link = ap (λ (x : LinkNumbers). x.link) (sym n) in
    record {
      queue = subst (λ (m : ℕ). Each (IsThere lies m) B.lists.queue) i (subst (λ (xs : List Row). Each (IsThere lies A.numbers.link) xs) (sym q) g.queue);
      wait = subst (λ (m : ℕ). Each (IsThere lies m) B.lists.wait) i (subst (λ (xs : List Row). Each (IsThere lies A.numbers.link) xs) (sym w) g.wait);
    }

-- rows are on the link
pub ready_on : (stops l : ℕ) (rows : List Row) → Each (IsReady stops l) rows → AreOn l rows
ready_on stops l rows h = each_weaker (IsReady stops l) (λ (r : Row). r.link ≡ l) (λ r g. g.0) rows h

-- LINES
each_set : (P : List Waiter → Type 0) (lines : List (List Waiter)) (k : ℕ) (ws : List Waiter) → Each P lines → P ws → Each P (set lines k ws)
each_set P [] k ws h g = tt
each_set P (x ∷ xs) zero ws h g = (g, h.1)
each_set P (x ∷ xs) (suc k) ws h g = (h.0, each_set P xs k ws h.1 g)

short_at : (lines : List (List Waiter)) (k : ℕ) → AreShort lines → length (line_at lines k) ≤ MAX_PERSONS
short_at [] k h = omega arith
short_at (x ∷ xs) zero h = h.0
short_at (x ∷ xs) (suc k) h = short_at xs k h.1

shorter : (p : Waiter → Bool) (ws : List Waiter) → length (filter p ws) ≤ length ws
shorter p [] = omega arith
shorter p (w ∷ ws) = let h = shorter p ws in elim (cases_Bool (p w)) [ inl e ↦ simp e (omega arith) | inr e ↦ simp e (omega arith) ]

fewer : (v : VehicleState) (ws : List Waiter) → length (left_behind v ws) ≤ length ws
unfolding left_behind
fewer v ws = shorter _ ws

pub served_short : (lines later : List (List Waiter)) (k : ℕ) (v : VehicleState) → AreShort lines → later ≡ set lines k (left_behind v (line_at lines k)) → AreShort later
served_short lines later k v h e =
    let few : length (left_behind v (line_at lines k)) ≤ MAX_PERSONS = (let f = fewer v (line_at lines k) in let s = short_at lines k h in omega arith) in
    subst AreShort (sym e) (each_set (λ (ws : List Waiter). length ws ≤ MAX_PERSONS) lines k _ h few)

-- A TURN
pub lists_of : (B C : LinkView) (M : LinkState) → C ≡ record B { lists = M } → C.lists ≡ M
lists_of B C M e = ap (λ (V : LinkView). V.lists) e

pub numbers_kept : (A B : LinkView) → B ≡ record A { lists = B.lists } → B.numbers ≡ A.numbers
numbers_kept A B e = ap (λ (V : LinkView). V.numbers) e

-- the lists of a link with one more row in its bay
abbrev pub with_parked : LinkState → Row → LinkState
with_parked M r = record M { bay = M.bay ++ r ∷ [] }

pub stop_turn : (lies : ℕ → Bool) (dwell : Dwelling) (t : ℕ) (ws : List Waiter) (lines later : List (List Waiter)) (A B C : LinkView) (v : VehicleState)
    (said heard now : List Occurrence)
    → AreReady (length lines) A → HaveLines lies lines ws → StopThere lies A
    → goes_on A.numbers dwell ws t A.lists said ≡ record { turn = Stop v; lists = B.lists; told = heard }
    → B ≡ record A { lists = B.lists }
    → C ≡ record B { lists = with_parked B.lists (served_row dwell t B.numbers.link (line_at lines (next_call v).stop) v) }
    → later ≡ set lines (next_call v).stop (left_behind v (line_at lines (next_call v).stop))
    → now ≡ heard ++ serves (stopping_row B.numbers.link v) (served_row dwell t B.numbers.link (line_at lines (next_call v).stop) v)
    → LeadsOn lies true (rules_of A.numbers dwell) t A.numbers.link ws A.lists said lines C.lists now later
stop_turn lies dwell t ws lines later A B C v said heard now ready h there e same park el et =
    let n = A.numbers in
    let line = line_at lines (next_call v).stop in
    let i : B.numbers.link ≡ n.link = ap (λ (x : LinkNumbers). x.link) (numbers_kept A B same) in
    let s = stopping (length lines) t dwell ws A B.lists v said heard ready e in
    stop_leads lies n dwell t ws lines later A.lists B.lists C.lists v said heard now
    (ready_on (length lines) n.link A.lists.queue ready.queue) (ready_on (length lines) n.link A.lists.wait ready.wait) h e
    (stops_there lies t dwell ws A B.lists v said heard there e) (s.can.stop s.calls)
    (lists_of B C _ park ∙ ap (λ (k : ℕ). with_parked B.lists (served_row dwell t k line v)) i) el
    (et ∙ ap (λ (k : ℕ). heard ++ serves (stopping_row k v) (served_row dwell t k line v)) i)

pub parked_ready : (t : ℕ) (dwell : Dwelling) (ws : List Waiter) (lines later : List (List Waiter)) (A B C : LinkView) (v : VehicleState) (r : Row) (xs : List Waiter)
    (said heard : List Occurrence) → AreReady (length lines) A
    → goes_on A.numbers dwell ws t A.lists said ≡ record { turn = Stop v; lists = B.lists; told = heard }
    → B ≡ record A { lists = B.lists } → C ≡ record B { lists = with_parked B.lists r } → later ≡ set lines (next_call v).stop xs
    → AreReady (length later) C
parked_ready t dwell ws lines later A B C v r xs said heard h e same park el =
    let n : length later ≡ length lines = ap length el ∙ length-set lines (next_call v).stop xs in
    subst (λ (k : ℕ). AreReady k C) (sym n)
    (left_ready (length lines) t dwell ws A C (Stop v) B.lists said heard h e (ap (λ (V : LinkView). V.numbers) park ∙ numbers_kept A B same)
    (ap (λ (V : LinkView). V.lists.queue) park) (ap (λ (V : LinkView). V.lists.wait) park))

pub parked_there : (lies : ℕ → Bool) (t : ℕ) (dwell : Dwelling) (ws : List Waiter) (A B C : LinkView) (v : VehicleState) (r : Row)
    (said heard : List Occurrence) → StopThere lies A
    → goes_on A.numbers dwell ws t A.lists said ≡ record { turn = Stop v; lists = B.lists; told = heard }
    → B ≡ record A { lists = B.lists } → C ≡ record B { lists = with_parked B.lists r } → StopThere lies C
parked_there lies t dwell ws A B C v r said heard h e same park =
    left_there lies t dwell ws A C (Stop v) B.lists said heard h e (ap (λ (V : LinkView). V.numbers) park ∙ numbers_kept A B same)
    (ap (λ (V : LinkView). V.lists.queue) park) (ap (λ (V : LinkView). V.lists.wait) park)

-- TURNS
pub turns_more : (lies : ℕ → Bool) (goes : Bool) (D : Dwelling) (t : ℕ) (ws : List Waiter) (A B C : LinkView) (said heard now : List Occurrence)
    (lines mid later : List (List Waiter)) → B ≡ record A { lists = B.lists }
    → (p : LeadsOn lies true (rules_of A.numbers D) t A.numbers.link ws A.lists said lines B.lists heard mid)
    → LeadsOn lies goes (rules_of B.numbers D) t B.numbers.link p.left B.lists heard mid C.lists now later
    → LeadsOn lies goes (rules_of A.numbers D) t A.numbers.link ws A.lists said lines C.lists now later
turns_more lies goes D t ws A B C said heard now lines mid later e p q =
    leads_then lies goes (rules_of A.numbers D) t A.numbers.link ws A.lists B.lists C.lists said heard now lines mid later p
    (subst (λ (n : LinkNumbers). LeadsOn lies goes (rules_of n D) t n.link p.left B.lists heard mid C.lists now later) (numbers_kept A B e) q)

pub goes_by : (lies : ℕ → Bool) (goes other : Bool) (D : Dwelling) (t : ℕ) (ws : List Waiter) (A B : LinkView) (said now : List Occurrence)
    (lines later : List (List Waiter)) → goes ≡ other → LeadsOn lies goes (rules_of A.numbers D) t A.numbers.link ws A.lists said lines B.lists now later
    → LeadsOn lies other (rules_of A.numbers D) t A.numbers.link ws A.lists said lines B.lists now later
goes_by lies goes other D t ws A B said now lines later e h =
    subst (λ (b : Bool). LeadsOn lies b (rules_of A.numbers D) t A.numbers.link ws A.lists said lines B.lists now later) e h

pub kept_on : (A B C : LinkView) → B ≡ record A { lists = B.lists } → C ≡ record B { lists = C.lists } → C ≡ record A { lists = C.lists }
kept_on A B C e f = f ∙ ap (λ (V : LinkView). let W : LinkView = record V { lists = C.lists } in W) e

-- THE SECOND
pub second_done : (lies : ℕ → Bool) (D : Dwelling) (t : ℕ) (ws : List Waiter) (A B C : LinkView) (said heard now : List Occurrence)
    (lines later : List (List Waiter)) → A.raised ≤ t
    → B ≡ record A { lists = begun A.numbers.gain (t + 1 - A.raised) t A.numbers.link A.lists; raised = t + 1 }
    → heard ≡ said ++ flat_map telling_on (filter (is_due t) A.lists.bay)
    → LeadsOn lies false (rules_of B.numbers D) t B.numbers.link ws B.lists heard lines C.lists now later
    → IsSecond lies (rules_of A.numbers D) t A.numbers.link ws (lists_at t A) said lines C.lists now later
second_done lies D t ws A B C said heard now lines later le e f h =
    let n = ap (λ (V : LinkView). V.numbers) e in
    whole_second lies (rules_of A.numbers D) t A.numbers.link ws A B.lists C.lists said heard now lines later refl le (ap (λ (V : LinkView). V.lists) e) f
    (subst (λ (k : LinkNumbers). LeadsOn lies false (rules_of k D) t k.link ws B.lists heard lines C.lists now later) n h)
