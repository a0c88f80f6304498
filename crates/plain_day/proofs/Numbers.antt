-- The numbers of a link, by its row and the settings of traffic.
use Rattle.traffic.proofs.Common.{◌≡◌, ℕ, ◌∙◌, ap, sym, credit_per_second, storage, buffer_room, LinkRow, rules, gain_of, link_row, seconds_of, storage_of}
use Rattle.traffic.specs.declared.numbers.Rules.{Rules}
use Rattle.town.specs.{Setups.setup_of, Views.setup, declared.day_input.DayInput.DayInput}

pub gain_is : (day : DayInput) (l : ℕ) (row : LinkRow) (v : ℕ) → link_row (setup day) l ≡ row → v ≡ credit_per_second row.capacity day.town.now.settings.flow_permille → v ≡ gain_of (setup day) l
unfolding setup_of
gain_is day l row v e h = h ∙ ap (λ (r : LinkRow). credit_per_second r.capacity day.town.now.settings.flow_permille) (sym e)

pub storage_is : (day : DayInput) (l : ℕ) (row : LinkRow) (seconds gain v : ℕ) → link_row (setup day) l ≡ row → seconds ≡ seconds_of (setup day) l → gain ≡ gain_of (setup day) l →
    v ≡ storage row.length row.lanes day.town.now.settings.storage_permille seconds gain → v ≡ storage_of (setup day) l
unfolding setup_of
storage_is day l row seconds gain v e s g h =
    rw (h, ← e, s, g)

pub rules_are : (day : DayInput) (l gain room : ℕ) → gain ≡ gain_of (setup day) l → room ≡ buffer_room gain →
    ◌≡◌ {A = Rules} (record { room = room; gain = gain; dwell = day.town.now.settings.dwell }) (rules (setup day) l)
unfolding setup_of
rules_are day l gain room g r =
    rw (r, g)
