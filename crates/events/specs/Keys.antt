-- The order of events.
use Rattle.std.specs.Prelude.{ℕ, Bool, ◌&&◌, ◌||◌, nat_lt, nat_eq}
use Rattle.events.specs.declared.event.{Key.Key, Phase.Phase}
use Rattle.events.specs.declared.event.Phase.TheVariants as phase

-- the phases of a second, numbered in their order
abbrev pub phase_code : Phase → ℕ
phase_code phase.A = 0
phase_code phase.B1 = 1
phase_code phase.B2 = 2
phase_code phase.C = 3
phase_code phase.D = 4
phase_code phase.E = 5

-- whether a key comes before another: by second, then phase, then number, then index
unfoldable pub key_before : Key → Key → Bool
key_before a b =
    nat_lt a.second b.second || (nat_eq a.second b.second
    && (nat_lt a.phase b.phase || (nat_eq a.phase b.phase
    && (nat_lt a.number b.number || (nat_eq a.number b.number
    && nat_lt a.index b.index)))))
