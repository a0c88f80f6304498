-- After its second a link rests until it may have something to do.
use Rattle.std.proofs.Common.{◌≡◌, ℕ, suc, ◌+◌, ◌-◌, ◌≤◌, List, [], ◌∷◌, length, ap, sym, subst, arith}
use Rattle.std.specs.{List.AllByRecursion as Each, Prelude.Option, Prelude.None, Prelude.Some}
use Rattle.fixed_flow.specs.Flow.{raised_times}
use Rattle.rows.specs.declared.settings.Dwelling.{Dwelling}
use Rattle.traffic.specs.{Links.LinkState, declared.world.Row.Row}
use Rattle.law_sleeping.proofs.{Resting.sleeps_quiet, Settling.settled_sleeps}
use Rattle.law_sleeping.specs.Quiet.{IsQuiet, IsSettled, IsBy, IsDue, queue_due, wait_due, is_blocked, rested}
use Rattle.queue_link.specs.{Links.LinkView, Numbers.rules_of, Numbers.no_dwelling, Waking.bay_due, Waking.due_of, declared.numbers.LinkNumbers.LinkNumbers}
use Rattle.calendar.specs.Waking.{earliest}
use Rattle.link_seconds.specs.Seconds.{lists_at}
use Rattle.law_waking.specs.Resting.{Rests}

-- a second not after the earliest one of two is not after either
by_first : (due : ℕ) (a b : Option ℕ) → IsBy due (earliest a b) → IsBy due a
by_first due None b h = tt
by_first due (Some t) None h = h
by_first due (Some t) (Some u) h = omega arith

by_second : (due : ℕ) (a b : Option ℕ) → IsBy due (earliest a b) → IsBy due b
by_second due None b h = h
by_second due (Some t) None h = tt
by_second due (Some t) (Some u) h = omega arith

bay_by : (due : ℕ) (rows : List Row) → IsBy due (bay_due rows) → Each (λ (r : Row). due ≤ r.second) rows
unfolding bay_due
bay_by due [] h = tt
bay_by due (r ∷ rs) h = (by_first due (Some r.second) (bay_due rs) h, bay_by due rs (by_second due (Some r.second) (bay_due rs) h))

-- the second that the code finds is such a second
is_due : (n : LinkNumbers) (D : Dwelling) (t due : ℕ) (L : LinkState) → IsBy due (due_of n t L) → IsDue (rules_of n D) t due L
is_due n D t due L h =
    let q = queue_due (rules_of n no_dwelling) t (length L.buffer) L.credit L.queue in
    let w = wait_due (rules_of n no_dwelling) t (length L.buffer) L.credit L.wait in
    let rest = by_second due q (earliest w (bay_due L.bay)) h in
    record {
      bay = bay_by due L.bay (by_second due w (bay_due L.bay) rest);
      queue = by_first due q (earliest w (bay_due L.bay)) h;
      wait = by_first due w (bay_due L.bay) rest;
    }

pub settled_rests : (D : Dwelling) (t due : ℕ) (v : LinkView) → v.raised ≡ t + 1 → IsSettled (rules_of v.numbers D) t v.numbers.link v.lists
    → IsBy due (due_of v.numbers t v.lists) → Rests D (t + 1) due v
settled_rests D t due v e settled by = λ u from to.
    let K = rules_of v.numbers D in
    let L = v.lists in
    let k = u - (t + 1) in
    let at : t + suc k ≡ u = omega arith in
    let sleep = settled_sleeps K t due v.numbers.link L settled (is_due v.numbers D t due L by) in
    let quiet = sleeps_quiet K (is_blocked K t L) t due v.numbers.link k L sleep (omega arith) in
    let same : rested K k L ≡ lists_at u v = ap (λ (m : ℕ). record L { credit = raised_times K.gain (u - m) L.credit }) (sym e) in
    subst (λ (x : ℕ). IsQuiet K x v.numbers.link (lists_at u v)) at (subst (λ (M : LinkState). IsQuiet K (t + suc k) v.numbers.link M) same quiet)
