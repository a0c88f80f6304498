-- The rows of the links of a town, and the setup of a day in it.
use Rattle.traffic.proofs.Common.{◌≡◌, ℕ, ◌∙◌, length, ap, sym, arith, ◌<◌, get_or, nat_tests, LinkRow, link_row, hole_of, hole_seconds}
use Rattle.std.proofs.lemmas.List.{get_or_default}
use Rattle.rows.specs.Networks.{is_link, are_measures, IsMeasured}
use Rattle.town.specs.{Setups.setup_of, Views.setup, declared.day_input.DayInput.DayInput}
use Rattle.person_moves.proofs.Lists.{passes_at}

-- the row of a link
pub row_is : (day : DayInput) (l : ℕ) (row : LinkRow) → l < length day.town.now.network.links → row ≡ get_or day.town.now.network.links l row → link_row (setup day) l ≡ row
unfolding setup_of
row_is day l row h e = sym (e ∙ get_or_default day.town.now.network.links l row _ h)

-- its numbers are in their ranges
pub measured : (day : DayInput) (l : ℕ) (row : LinkRow) → l < length day.town.now.network.links → row ≡ get_or day.town.now.network.links l row → IsMeasured row
unfolding is_link are_measures
measured day l row lt e =
    let h = passes_at (is_link (length day.town.now.network.nodes)) day.town.now.network.links l row day.town.now.sound.links lt e in
    record {
      some_length = grind (arith, nat_tests, h);
      most_length = grind (arith, nat_tests, h);
      some_speed = grind (arith, nat_tests, h);
      some_capacity = grind (arith, nat_tests, h);
      most_capacity = grind (arith, nat_tests, h);
      most_lanes = grind (arith, nat_tests, h);
    }

-- it begins and ends at a node that is there
pub begins_there : (day : DayInput) (l : ℕ) (row : LinkRow) → l < length day.town.now.network.links → row ≡ get_or day.town.now.network.links l row
    → row.from < length day.town.now.network.nodes
unfolding is_link
begins_there day l row lt e =
    let n = length day.town.now.network.nodes in
    let h = passes_at (is_link n) day.town.now.network.links l row day.town.now.sound.links lt e in
    grind (arith, nat_tests, h)

pub leads_there : (day : DayInput) (l : ℕ) (row : LinkRow) → l < length day.town.now.network.links → row ≡ get_or day.town.now.network.links l row
    → row.to < length day.town.now.network.nodes
unfolding is_link
leads_there day l row lt e =
    let n = length day.town.now.network.nodes in
    let h = passes_at (is_link n) day.town.now.network.links l row day.town.now.sound.links lt e in
    grind (arith, nat_tests, h)

-- how long a place that was left on it stays taken
pub hole_is : (day : DayInput) (l : ℕ) (row : LinkRow) (v : ℕ) → link_row (setup day) l ≡ row → v ≡ hole_seconds row.length day.town.now.settings.hole_speed → v ≡ hole_of (setup day) l
unfolding setup_of
hole_is day l row v e h = h ∙ ap (λ (r : LinkRow). hole_seconds r.length day.town.now.settings.hole_speed) (sym e)
