-- The file signals.csv.
use Rattle.std.specs.Prelude.{◌≡◌, ℕ, Bool, true, ◌&&◌, nat_lt, List, [], length, map, take, get_or, find, unwrap_or, Option, option_map}
use Rattle.edge_files.specs.declared.reasons.{Reason.Reason, RowFault.RowFault}
use Rattle.edge_files.specs.declared.reasons.Reason.TheVariants as reason
use Rattle.records.specs.{Faults.first_fault, Files.optional_head_reason, Files.body_of, Rows.Row}
use Rattle.rows.specs.Greens.{Phases, always, is_green, green_at}
use Rattle.signals.specs.{Clash.clash, Rows.signals_header, Rows.row_reason, Rows.seen_in, declared.conflict.Conflict.Conflict}

-- why the row at a place is refused, by the rows before it
unfoldable pub reason_at : List (List ℕ) → List (ℕ × ℕ) → List Row → ℕ → Option Reason
reason_at links ends rows place = row_reason links ends (seen_in links (take place rows)) (get_or rows place [])

-- the first fault of rows, by the reason of row 0
unfoldable pub rows_fault : Option Reason → List (List ℕ) → List (ℕ × ℕ) → List Row → Option RowFault
rows_fault head links ends rows = first_fault head (reason_at links ends rows) (length rows)

-- the first fault of signals.csv
abbrev pub signals_fault : List (List ℕ) → List (ℕ × ℕ) → List ℕ → Option RowFault
signals_fault links ends bytes = rows_fault (optional_head_reason signals_header bytes) links ends (body_of bytes)

-- a link without a signal is always green
abbrev pub or_always : Option Phases → Phases
or_always signal = unwrap_or signal always

-- the signal of each link, and the conflicts
pub record SignalRows : Type 0 where
  pub greens : List Phases
  pub conflicts : List Conflict

-- what the rows behind the header give
abbrev pub signal_rows_of : List (List ℕ) → List Row → SignalRows
signal_rows_of links rows = record { greens = map or_always (seen_in links rows).signals; conflicts = (seen_in links rows).conflicts }

-- both links of a conflict are among so many
abbrev pub is_among : ℕ → Conflict → Bool
is_among links conflict = nat_lt conflict.link links && nat_lt conflict.other links

-- both links of a conflict are green in some second
abbrev pub is_clash : List Phases → Conflict → Bool
is_clash greens conflict = clash (green_at greens conflict.link) (green_at greens conflict.other)

-- no second, however late, has both of its links green
abbrev pub AreNeverGreen : List Phases → Conflict → Type 0
AreNeverGreen greens conflict = (t : ℕ) → is_green (green_at greens conflict.link) t ≡ true → is_green (green_at greens conflict.other) t ≡ true → ⊥

-- the first conflict of which both are green in some second
unfoldable pub first_clash : List Phases → List Conflict → Option Conflict
first_clash greens conflicts = find (is_clash greens) conflicts

-- as a fault of its row
abbrev pub clash_fault : SignalRows → Option RowFault
clash_fault signals = option_map (λ conflict. record { row = conflict.row; reason = reason.Conflict }) (first_clash signals.greens signals.conflicts)
