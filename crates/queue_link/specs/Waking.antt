-- When a link has to be woken.
use Rattle.std.specs.Prelude.{ℕ, Bool, false, List, [], ◌∷◌, length, nat_le, Option, None, Some}
use Rattle.traffic.specs.{Links.LinkState, declared.world.Row.Row}
use Rattle.law_sleeping.specs.Quiet.{queue_due, wait_due}
use Rattle.queue_link.specs.{Numbers.rules_of, Numbers.no_dwelling, declared.numbers.LinkNumbers.LinkNumbers}
use Rattle.calendar.specs.Waking.{earliest}

-- the least second of the rows of a bay
unfoldable pub bay_due : List Row → Option ℕ
bay_due [] = None
bay_due (r ∷ rs) = earliest (Some r.second) (bay_due rs)

-- whether this second, where there is one, is t or before it
abbrev pub is_by : ℕ → Option ℕ → Bool
is_by t None = false
is_by t (Some u) = nat_le u t

-- the second in which a link that has done second t may next have something to do, if nobody else does anything
abbrev pub due_of : LinkNumbers → ℕ → LinkState → Option ℕ
due_of n t L =
    let K = rules_of n no_dwelling in
    earliest (queue_due K t (length L.buffer) L.credit L.queue) (earliest (wait_due K t (length L.buffer) L.credit L.wait) (bay_due L.bay))
