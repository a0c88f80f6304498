-- What a day is made from, and the numbers of its links.
use Rattle.std.specs.Prelude.{ℕ, ◌+◌, ◌/◌, max, Bool, List, [], filter, length, get_or, ◌==◌, Option, None, Some}
use Rattle.events.specs.declared.lists.StopCall.{StopCall}
use Rattle.fixed_flow.specs.Link.{free_seconds, credit_per_second, storage, buffer_room}
use Rattle.rows.specs.{PlanRows.PlanRows, PlanRows.act_in, PlanRows.leg_in, Stops.stop_link}
use Rattle.rows.specs.declared.{network.LinkRow.LinkRow, plan.Act.Act, plan.Leg.Leg, schedule.StopRow.StopRow, settings.TrafficSettings.TrafficSettings}
use Rattle.traffic.specs.Lists.{below}

-- a transit vehicle that starts in its second
pub record Departure : Type 0 where
  pub second : ℕ
  pub seats : ℕ
  pub line : ℕ
  pub route : List ℕ
  pub calls : List StopCall

pub record Setup : Type 0 where
  pub settings : TrafficSettings
  -- how many nodes there are
  pub nodes : ℕ
  pub links : List LinkRow
  pub stops : List StopRow
  pub departures : List Departure
  -- the chosen plan of each person
  pub persons : List PlanRows
  -- the random word of a node at a place
  pub word : ℕ → ℕ → ℕ
  -- whether a link is green in a second
  pub green : ℕ → ℕ → Bool

-- the row of a link among these; behind the last one, that of a link without length
abbrev pub row_at : List LinkRow → ℕ → LinkRow
row_at rows l = get_or rows l (record { from = 0; to = 0; length = 0; speed = 1; capacity = 0; lanes = 0 })

abbrev pub link_row : Setup → ℕ → LinkRow
link_row S l = row_at S.links l

-- the free seconds of a link
abbrev pub seconds_of : Setup → ℕ → ℕ
seconds_of S l = free_seconds (link_row S l).length (link_row S l).speed

-- the credit that a link gains in a second
abbrev pub gain_of : Setup → ℕ → ℕ
gain_of S l = credit_per_second (link_row S l).capacity S.settings.flow_permille

-- the storage of a link: how many taken places its queue may have
abbrev pub storage_of : Setup → ℕ → ℕ
storage_of S l = storage (link_row S l).length (link_row S l).lanes S.settings.storage_permille (seconds_of S l) (gain_of S l)

-- how many rows the buffer of a link holds
abbrev pub room_of : Setup → ℕ → ℕ
room_of S l = buffer_room (gain_of S l)

-- h: a place that was left in second s is free for the nodes from second s + h on; the seconds that a hole travels along the link, at least one
unfoldable pub hole_seconds : ℕ → Option ℕ → ℕ
hole_seconds length None = 1
hole_seconds length (Some speed) = max 1 (length / speed)

abbrev pub hole_of : Setup → ℕ → ℕ
hole_of S l = hole_seconds (link_row S l).length S.settings.hole_speed

-- the links into a node, in order
unfoldable pub into : Setup → ℕ → List ℕ
into S n = filter (λ l. (link_row S l).to == n) (below (length S.links))

-- the link on which a stop lies
abbrev pub link_of_stop : Setup → ℕ → ℕ
link_of_stop S stop = stop_link S.stops stop

abbrev pub departure : Setup → ℕ → Departure
departure S d = get_or S.departures d (record { second = 0; seats = 0; line = 0; route = []; calls = [] })

abbrev pub person_plan : Setup → ℕ → PlanRows
person_plan S i = get_or S.persons i (record { acts = []; legs = [] })

-- the activity of an element of a person's plan, or the one before the leg that the element is
abbrev pub act_at : Setup → ℕ → ℕ → Act
act_at S i element = act_in (person_plan S i) element

-- the leg of an element of a person's plan, or the one after the activity that the element is
abbrev pub leg_at : Setup → ℕ → ℕ → Leg
leg_at S i element = leg_in (person_plan S i) element

-- the activity after that leg
abbrev pub act_after : Setup → ℕ → ℕ → Act
act_after S i element = act_at S i (element + 2)
