-- Turns of a link, one after the other, with the services of those who stop.
use Rattle.std.proofs.Common.{◌≡◌, ◌≢◌, ℕ, ◌<◌, Bool, true, false, List, [], ◌∷◌, ◌++◌, length, set, refl, ap, sym, ◌∙◌, subst, inl, inr, append_assoc, eqb}
use Rattle.std.proofs.lemmas.{Bool.cases_Bool, Bool.eqb-true, Bool.eqb-false, Bool.true≢false, Grind.flat_map-append, List.get_or-set_same}
use Rattle.std.{proofs.lemmas.List.get_or-set_other, specs.List.flat_map, specs.Prelude.if◌then◌else◌}
use Rattle.rows.specs.declared.settings.Dwelling.{Dwelling}
use Rattle.traffic.specs.{Links.LinkState, Moves.told, Stops.next_call, Stops.left_behind, Stops.served_row, Telling.serves, Vehicles.VehicleState}
use Rattle.traffic.specs.declared.moves.Move.{Move, TheVariants.Transfer, TheVariants.Remove, TheVariants.Enter, TheVariants.SetFrontSince, TheVariants.Credit}
use Rattle.traffic.specs.declared.{moves.Move.TheVariants.LeaveHole, moves.Move.TheVariants.Report, moves.Occurrence.Occurrence, numbers.Rules.Rules}
use Rattle.traffic.specs.declared.stage.Stage.{Stage, TheVariants.Queue, TheVariants.Buffer, TheVariants.Wait, TheVariants.Bay}
use Rattle.traffic.specs.declared.world.{Row.Row, Waiter.Waiter}
use Rattle.law_sleeping.{proofs.Whole.link_state_append, specs.Quiet.link_state_after, specs.Quiet.link_state_after_all}
use Rattle.queue_link.proofs.Looping.{queue_comes}
use Rattle.queue_link.specs.{Links.row_on, Loops.hole_of, Loops.up_to_halt, Loops.waiting_behind, Loops.AreOn, Loops.ComeTo, Numbers.rules_of, Turns.Outcome}
use Rattle.queue_link.specs.{Turns.in_bay, Turns.moves_left, Turns.starts_from, Turns.until_halt, Turns.goes_on, declared.numbers.LinkNumbers.LinkNumbers}
use Rattle.queue_link.specs.declared.turns.Turn.TheVariants.{Stop, Arrive, Done}
use Rattle.riders.{proofs.Apart.rows_alike, proofs.Apart.left_here, proofs.Apart.left_elsewhere, proofs.Apart.left_once, specs.Waiting.at_stop}
use Rattle.link_seconds.specs.Seconds.{line_at, HaveLines, left_after, rest_of, LeadsOn}

-- WHO IS LEFT
hole_leaves : (l t : ℕ) (s : Stage) (ws : List Waiter) → left_after (hole_of l t s) ws ≡ ws
hole_leaves l t Queue ws = refl
hole_leaves l t Buffer ws = refl
hole_leaves l t Wait ws = refl
hole_leaves l t Bay ws = refl

pub left_up_to : (l t : ℕ) (ms : List Move) (L : LinkState) (said : List Occurrence) (ws : List Waiter)
    → left_after (up_to_halt l t ms) ws ≡ waiting_behind (until_halt l ms L said).turn ws
unfolding up_to_halt until_halt
left_up_to l t [] L said ws = refl
left_up_to l t (Transfer a s k was now ∷ ms) L said ws =
    let M = link_state_after l (Transfer a s k was now) L in
    let heard = said ++ told (Transfer a s k was now) in
    let stop : Outcome = record { turn = Stop was.vehicle; lists = link_state_after l (Remove a s k was) L; told = said ++ starts_from s was } in
    let P : Bool → Type 0 = λ b. left_after (if b then hole_of l t s else up_to_halt l t ms) (if b then left_behind was.vehicle ws else ws)
    ≡ waiting_behind (if b then stop else until_halt l ms M heard).turn ws in
    elim (cases_Bool (in_bay now.stage)) [
      | inl e ↦ subst P (sym e) (hole_leaves l t s (left_behind was.vehicle ws))
      | inr e ↦ subst P (sym e) (left_up_to l t ms M heard ws)
    ]
left_up_to l t (Remove a s k was ∷ ms) L said ws = hole_leaves l t s ws
left_up_to l t (Enter now ∷ ms) L said ws = left_up_to l t ms (link_state_after l (Enter now) L) (said ++ told (Enter now)) ws
left_up_to l t (SetFrontSince a u ∷ ms) L said ws =
    left_up_to l t ms (link_state_after l (SetFrontSince a u) L) (said ++ told (SetFrontSince a u)) ws
left_up_to l t (Credit a d ∷ ms) L said ws = left_up_to l t ms (link_state_after l (Credit a d) L) (said ++ told (Credit a d)) ws
left_up_to l t (LeaveHole a u ∷ ms) L said ws = left_up_to l t ms (link_state_after l (LeaveHole a u) L) (said ++ told (LeaveHole a u)) ws
left_up_to l t (Report says ∷ ms) L said ws = left_up_to l t ms (link_state_after l (Report says) L) (said ++ told (Report says)) ws

pub left_append : (xs ys : List Move) (ws : List Waiter) → left_after (xs ++ ys) ws ≡ left_after ys (left_after xs ws)
left_append [] ys ws = refl
left_append (Transfer l s k was now ∷ xs) ys ws = left_append xs ys (if in_bay now.stage then left_behind was.vehicle ws else ws)
left_append (Remove l s k was ∷ xs) ys ws = left_append xs ys ws
left_append (Enter now ∷ xs) ys ws = left_append xs ys ws
left_append (SetFrontSince l u ∷ xs) ys ws = left_append xs ys ws
left_append (Credit l d ∷ xs) ys ws = left_append xs ys ws
left_append (LeaveHole l u ∷ xs) ys ws = left_append xs ys ws
left_append (Report says ∷ xs) ys ws = left_append xs ys ws

-- LINES
-- the lines after the service of a stop that lies on the link
lines_served : (lies : ℕ → Bool) (v : VehicleState) (lines : List (List Waiter)) (ws : List Waiter) → HaveLines lies lines ws
    → lies (next_call v).stop ≡ true → (next_call v).stop < length lines
    → HaveLines lies (set lines (next_call v).stop (left_behind v (line_at lines (next_call v).stop))) (left_behind v ws)
lines_served lies v lines ws h there within =
    let stop = (next_call v).stop in
    let now = left_behind v (line_at lines stop) in
    record {
      once = left_once v ws h.once;
      each = λ s e. elim (cases_Bool (eqb s stop)) [
        | inl q ↦
            let i = eqb-true s stop q in
            subst (λ (k : ℕ). line_at (set lines stop now) k ≡ at_stop k (left_behind v ws)) (sym i)
            (get_or-set_same lines stop now [] within ∙ ap (left_behind v) (h.each stop there) ∙ sym (left_here v ws h.once))
        | inr q ↦
            let ne : s ≢ stop = eqb-false s stop q in
            get_or-set_other lines stop s now [] ne ∙ h.each s e ∙ sym (left_elsewhere v ws s h.once ne)
      ];
    }

other_lines : (lies : ℕ → Bool) (k : ℕ) (lines : List (List Waiter)) (now : List Waiter) → lies k ≡ true → (stop : ℕ) → lies stop ≡ false
    → line_at (set lines k now) stop ≡ line_at lines stop
other_lines lies k lines now there stop e = get_or-set_other lines k stop now [] (λ q. true≢false (sym there ∙ ap lies (sym q) ∙ e))

-- TURNS
comes : (n : LinkNumbers) (dwell : Dwelling) (t : ℕ) (ws : List Waiter) (L : LinkState) (said : List Occurrence) (o : Outcome)
    → AreOn n.link L.queue → AreOn n.link L.wait → goes_on n dwell ws t L said ≡ o
    → ComeTo (rules_of n dwell) t n.link ws (moves_left (rules_of n dwell) t n.link ws L) L said o
comes n dwell t ws L said o q w e =
    subst (λ (x : Outcome). ComeTo (rules_of n dwell) t n.link ws (moves_left (rules_of n dwell) t n.link ws L) L said x) e
    (queue_comes n dwell t ws L.queue L.buffer L.wait L.bay L.credit said q w)

leaves_at : (n : LinkNumbers) (dwell : Dwelling) (t : ℕ) (ws : List Waiter) (L : LinkState) (said : List Occurrence) (o : Outcome)
    → goes_on n dwell ws t L said ≡ o
    → left_after (up_to_halt n.link t (moves_left (rules_of n dwell) t n.link ws L)) ws ≡ waiting_behind o.turn ws
leaves_at n dwell t ws L said o e =
    left_up_to n.link t (moves_left (rules_of n dwell) t n.link ws L) L said ws ∙ ap (λ (x : Outcome). waiting_behind x.turn ws) e

pub stop_leads : (lies : ℕ → Bool) (n : LinkNumbers) (dwell : Dwelling) (t : ℕ) (ws : List Waiter) (lines later : List (List Waiter))
    (L M N : LinkState) (v : VehicleState) (said heard now : List Occurrence)
    → AreOn n.link L.queue → AreOn n.link L.wait → HaveLines lies lines ws
    → goes_on n dwell ws t L said ≡ record { turn = Stop v; lists = M; told = heard }
    → lies (next_call v).stop ≡ true → (next_call v).stop < length lines
    → N ≡ record M { bay = M.bay ++ served_row dwell t n.link (line_at lines (next_call v).stop) v ∷ [] }
    → later ≡ set lines (next_call v).stop (left_behind v (line_at lines (next_call v).stop))
    → now ≡ heard ++ serves (row_on n.link Queue 0 v) (served_row dwell t n.link (line_at lines (next_call v).stop) v)
    → LeadsOn lies true (rules_of n dwell) t n.link ws L said lines N now later
stop_leads lies n dwell t ws lines later L M N v said heard now q w h e there within en el et =
    let K = rules_of n dwell in
    let o : Outcome = record { turn = Stop v; lists = M; told = heard } in
    let stop = (next_call v).stop in
    let row : served_row dwell t n.link (line_at lines stop) v ≡ served_row dwell t n.link ws v
    = ap (λ (xs : List Waiter). served_row dwell t n.link xs v) (h.each stop there) ∙ rows_alike dwell t n.link v ws h.once in
    let put : Row → LinkState = λ r. record M { bay = M.bay ++ r ∷ [] } in
    let same : N ≡ put (served_row dwell t n.link ws v) = en ∙ ap put row in
    let ms = up_to_halt n.link t (moves_left K t n.link ws L) in
    let come = comes n dwell t ws L said o q w e in
    record {
      moves = ms;
      left = left_behind v ws;
      all = come.moves ∙ ap (λ (X : LinkState). ms ++ moves_left K t n.link (left_behind v ws) X) (sym same);
      lists = come.lists ∙ sym same;
      events = come.told ∙ sym (et ∙ ap (λ (r : Row). heard ++ serves (row_on n.link Queue 0 v) r) row);
      leaves = leaves_at n dwell t ws L said o e;
      waits = subst (λ (xs : List (List Waiter)). HaveLines lies xs (left_behind v ws)) (sym el) (lines_served lies v lines ws h there within);
      others = λ s un. ap (λ (xs : List (List Waiter)). line_at xs s) el ∙ other_lines lies stop lines _ there s un;
    }

pub arrive_leads : (lies : ℕ → Bool) (n : LinkNumbers) (dwell : Dwelling) (t : ℕ) (ws : List Waiter) (lines : List (List Waiter))
    (L M : LinkState) (v : VehicleState) (said heard : List Occurrence)
    → AreOn n.link L.queue → AreOn n.link L.wait → HaveLines lies lines ws
    → goes_on n dwell ws t L said ≡ record { turn = Arrive v; lists = M; told = heard }
    → LeadsOn lies true (rules_of n dwell) t n.link ws L said lines M heard lines
arrive_leads lies n dwell t ws lines L M v said heard q w h e =
    let o : Outcome = record { turn = Arrive v; lists = M; told = heard } in
    let come = comes n dwell t ws L said o q w e in
    record {
      moves = up_to_halt n.link t (moves_left (rules_of n dwell) t n.link ws L);
      left = ws;
      all = come.moves;
      lists = come.lists;
      events = come.told;
      leaves = leaves_at n dwell t ws L said o e;
      waits = h;
      others = λ s un. refl;
    }

pub done_leads : (lies : ℕ → Bool) (n : LinkNumbers) (dwell : Dwelling) (t : ℕ) (ws : List Waiter) (lines : List (List Waiter))
    (L M : LinkState) (said heard : List Occurrence)
    → AreOn n.link L.queue → AreOn n.link L.wait → HaveLines lies lines ws
    → goes_on n dwell ws t L said ≡ record { turn = Done; lists = M; told = heard }
    → LeadsOn lies false (rules_of n dwell) t n.link ws L said lines M heard lines
done_leads lies n dwell t ws lines L M said heard q w h e =
    let o : Outcome = record { turn = Done; lists = M; told = heard } in
    let come = comes n dwell t ws L said o q w e in
    record {
      moves = up_to_halt n.link t (moves_left (rules_of n dwell) t n.link ws L);
      left = ws;
      all = come.moves;
      lists = come.lists;
      events = come.told;
      leaves = leaves_at n dwell t ws L said o e;
      waits = h;
      others = λ s un. refl;
    }

-- ONE AFTER THE OTHER

pub leads_then : (lies : ℕ → Bool) (goes : Bool) (K : Rules) (t l : ℕ) (ws : List Waiter) (A B C : LinkState) (said heard now : List Occurrence)
    (lines mid later : List (List Waiter)) → (h : LeadsOn lies true K t l ws A said lines B heard mid)
    → LeadsOn lies goes K t l h.left B heard mid C now later → LeadsOn lies goes K t l ws A said lines C now later
leads_then lies goes K t l ws A B C said heard now lines mid later h g =
    let ms = h.moves in
    let ns = g.moves in
    record {
      moves = ms ++ ns;
      left = g.left;
      all = h.all ∙ ap (λ (xs : List Move). ms ++ xs) g.all ∙ sym (append_assoc ms ns (rest_of goes K t l g.left C));
      lists = link_state_append l ms ns A ∙ ap (link_state_after_all l ns) h.lists ∙ g.lists;
      events =
          ap (λ (xs : List Occurrence). said ++ xs) (flat_map-append told ms ns) ∙ sym (append_assoc said (flat_map told ms) (flat_map told ns))
          ∙ ap (λ (xs : List Occurrence). xs ++ flat_map told ns) h.events ∙ g.events;
      leaves = left_append ms ns ws ∙ ap (left_after ns) h.leaves ∙ g.leaves;
      waits = g.waits;
      others = λ s un. g.others s un ∙ h.others s un;
    }
