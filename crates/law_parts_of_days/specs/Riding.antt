-- On which links persons ride, by what stands on the links.
use Rattle.std.specs.Prelude.{ℕ, List, [], ◌∷◌, get_or, set}
use Rattle.events.specs.{Keys.phase_code, declared.event.Event.Event}
use Rattle.events.specs.declared.event.Phase.TheVariants as phase
use Rattle.traffic.specs.{Day.keyed, Persons.stuck_on, Rows.nobody, Setup.Setup, Setup.act_at, Setup.leg_at}
use Rattle.traffic.specs.declared.{moves.Occurrence.Occurrence, riders.Rider.Rider, world.Person.Person, world.Row.Row}
use Rattle.rows.specs.Plan.{mode_of_leg}
use Rattle.queue_link.specs.Links.{LinkView, all_rows}

-- a table of links by person, once these riders are on link l
unfoldable pub put_riders : ℕ → List Rider → List ℕ → List ℕ
put_riders l [] table = table
put_riders l (r ∷ rs) table = put_riders l rs (set table r.person l)

-- once those of these vehicles are
unfoldable pub put_rows : ℕ → List Row → List ℕ → List ℕ
put_rows l [] table = table
put_rows l (r ∷ rs) table = put_rows l rs (put_riders l r.vehicle.riders table)

-- once those of all vehicles of these links are
unfoldable pub put_links : List LinkView → List ℕ → List ℕ
put_links [] table = table
put_links (v ∷ vs) table = put_links vs (put_rows v.numbers.link (all_rows v.lists) table)

-- what is told at the end of a day of a person with this row, who rides on this link if he rides
abbrev pub stranded_on : Setup → ℕ → ℕ → Person → List Occurrence
stranded_on S l i P = stuck_on S l i (act_at S i P.element) (mode_of_leg (leg_at S i P.element)) P.place

-- what the end of a day in second t tells of the person of a number among these, where these are the links of who rides
abbrev pub told_on : Setup → ℕ → List ℕ → List Person → ℕ → List Event
told_on S t links persons i = keyed t (phase_code phase.E) i 0 (stranded_on S (get_or links i 0) i (get_or persons i nobody))
