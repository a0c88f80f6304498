-- What the rows of a text say, read one by one: the activities and legs of the plan that it may be.
use Rattle.std.specs.Prelude.{ℕ, bytes_eq, if◌then◌else◌, List, map, codes, Option, None, Some, option_map}
use Rattle.std.specs.List.{filter_map}
use Rattle.events.specs.{Names.number_of, Words.mode_of, declared.event.Book.Book, declared.event.Mode.Mode}
use Rattle.events.specs.declared.event.Mode.TheVariants as mode
use Rattle.records.specs.{Fields.field, Lists.parts_of, Lists.numbers_of, Rows.Row}
use Rattle.rows.specs.declared.plan.{Act.Act, Leg.Leg}
use Rattle.rows.specs.declared.plan.Leg.TheVariants as leg
use Rattle.plans.specs.Kinds.{end_in, seconds_in, items_of, item}

-- the activity of this kind, link and end
abbrev pub numbered_act : Option ℕ → Option ℕ → Option ℕ → Option Act
numbered_act None link end = None
numbered_act (Some kind) None end = None
numbered_act (Some kind) (Some link) end = Some (record { kind = kind; link = link; end = end })

-- the activity that a row says
unfoldable pub act_in : Book → Row → Option Act
act_in book row =
    if bytes_eq (field row 2) (codes "act") then numbered_act (number_of (field row 3) book.kinds) (number_of (field row 4) book.links) (end_in row) else None

-- the transit leg of this line and these stops
abbrev pub numbered_transit : Option ℕ → Option ℕ → Option ℕ → Option Leg
numbered_transit None access egress = None
numbered_transit (Some line) None egress = None
numbered_transit (Some line) (Some access) None = None
numbered_transit (Some line) (Some access) (Some egress) = Some (leg.Transit line access egress)

abbrev pub transit_in : Book → List (List ℕ) → Option Leg
transit_in book items = numbered_transit (number_of (item items 0) book.lines) (number_of (item items 1) book.stops) (number_of (item items 2) book.stops)

-- the leg of a mode that a row says
unfoldable pub leg_by : Book → Mode → Row → Option Leg
leg_by book mode.Car row = option_map (λ route. leg.Car route) (numbers_of (items_of row) book.links)
leg_by book mode.Pt row = transit_in book (items_of row)
leg_by book mode row = option_map (λ seconds. leg.Teleport mode seconds) (seconds_in row)

abbrev pub leg_of_mode : Book → Option Mode → Row → Option Leg
leg_of_mode book None row = None
leg_of_mode book (Some mode) row = leg_by book mode row

-- the leg that a row says
unfoldable pub leg_in : Book → Row → Option Leg
leg_in book row = if bytes_eq (field row 2) (codes "leg") then leg_of_mode book (mode_of (field row 3)) row else None

-- the rows of a text, cut at line feeds and commas
unfoldable pub rows_in : List ℕ → List Row
rows_in bytes = map (parts_of 44) (parts_of 10 bytes)

-- the activities and the legs that rows say
abbrev pub acts_in : Book → List Row → List Act
acts_in book rows = filter_map (act_in book) rows

abbrev pub legs_in : Book → List Row → List Leg
legs_in book rows = filter_map (leg_in book) rows
