-- Until when a link that sleeps has nothing to do, by what is kept of it.
use Rattle.std.specs.Prelude.{ℕ, ◌<◌, ◌≤◌, Option, None, Some}
use Rattle.rows.specs.declared.settings.Dwelling.{Dwelling}
use Rattle.law_sleeping.specs.Quiet.{IsQuiet}
use Rattle.queue_link.specs.{Links.LinkView, Numbers.rules_of}
use Rattle.link_seconds.specs.Seconds.{lists_at}

-- from this second on and before that one the link lets nobody go: its turns raise its credit and do nothing else
abbrev pub Rests : Dwelling → ℕ → ℕ → LinkView → Type 0
Rests D now due v = (u : ℕ) → now ≤ u → u < due → IsQuiet (rules_of v.numbers D) u v.numbers.link (lists_at u v)

-- the second up to which a link sleeps, by its wake and the end of the day
abbrev pub sleeps_to : ℕ → Option ℕ → ℕ
sleeps_to end None = end
sleeps_to end (Some u) = u
