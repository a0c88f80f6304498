-- The ranges of the settings of traffic.
use Rattle.std.specs.Prelude.{◌≡◌, ℕ, ◌≤◌, Bool, true, ◌&&◌, nat_le, Option, None, Some}
use Rattle.limits.specs.declared.TheConstants.{LAST_SECOND, MAX_PERMILLE, MAX_SPEED, MAX_DWELL}
use Rattle.rows.specs.declared.settings.{Dwelling.Dwelling, TrafficSettings.TrafficSettings}

-- 1 to 10,000 cm a second, where it is given
abbrev pub is_hole_speed : Option ℕ → Bool
is_hole_speed None = true
is_hole_speed (Some speed) = nat_le 1 speed && nat_le speed MAX_SPEED

-- dwell times are at most an hour
pub record IsDwelling (d : Dwelling) : Type 0 where
  pub per_stop : d.per_stop ≤ MAX_DWELL
  pub per_alight : d.per_alight ≤ MAX_DWELL
  pub per_board : d.per_board ≤ MAX_DWELL

-- each setting is in its range
pub record AreInRange (s : TrafficSettings) : Type 0 where
  pub begins : 1 ≤ s.end_second
  pub ends : s.end_second ≤ LAST_SECOND
  pub some_flow : 1 ≤ s.flow_permille
  pub most_flow : s.flow_permille ≤ MAX_PERMILLE
  pub some_storage : 1 ≤ s.storage_permille
  pub most_storage : s.storage_permille ≤ MAX_PERMILLE
  pub some_patience : 1 ≤ s.stuck.seconds
  pub most_patience : s.stuck.seconds ≤ LAST_SECOND
  pub holes : is_hole_speed s.hole_speed ≡ true
  pub dwell : IsDwelling s.dwell
