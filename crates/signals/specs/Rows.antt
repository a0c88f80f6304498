-- The rows of signals.csv: `kind,link,other,cycle,offset,greens`.
use Rattle.std.specs.List.{list_all}
use Rattle.std.specs.Prelude.{ℕ, ◌+◌, ◌-◌, Bool, false, not, ◌&&◌, ◌||◌, nat_le, nat_lt, nat_eq, is_none, is_some, bytes_eq, codes, unwrap_or, replicate, List}
use Rattle.std.specs.Prelude.{[], ◌∷◌, ◌++◌, length, map, get_or, set, Option, None, Some, if◌then◌else◌}
use Rattle.limits.specs.declared.TheConstants.{MAX_CYCLE, MAX_SPANS, MAX_CONFLICTS}
use Rattle.edge_files.specs.declared.reasons.Reason.{Reason}
use Rattle.edge_files.specs.declared.reasons.Reason.TheVariants as reason
use Rattle.events.specs.Names.{number_of}
use Rattle.records.specs.{Faults.least, Fields.field, Fields.holds_name, Fields.is_blank, Lists.items_in, Numbers.number_in, Rows.Row}
use Rattle.rows.specs.Greens.{Phases}
use Rattle.signals.specs.Spans.{span_text, has_numbers, span_of, ascend}
use Rattle.signals.specs.declared.{conflict.Conflict.Conflict, kinds.RowKind.RowKind, spans.SpanText.SpanText}
use Rattle.signals.specs.declared.kinds.RowKind.TheVariants as kind

abbrev pub signals_header : List (List ℕ)
signals_header = codes "kind" ∷ codes "link" ∷ codes "other" ∷ codes "cycle" ∷ codes "offset" ∷ codes "greens" ∷ []

-- what a row tells of: the signal of a link, a conflict of two links, or neither
abbrev pub kind_of : Row → RowKind
kind_of row = if bytes_eq (field row 0) (codes "signal") then kind.Signal else if bytes_eq (field row 0) (codes "conflict") then kind.Conflict else kind.Neither

-- the numbers of the link and of the other link, where they exist
abbrev pub link_in : List (List ℕ) → Row → Option ℕ
link_in links row = number_of (field row 1) links

abbrev pub other_in : List (List ℕ) → Row → Option ℕ
other_in links row = number_of (field row 2) links

-- seconds, 1 to 3,600
abbrev pub cycle_in : Row → Option ℕ
cycle_in row = number_in 1 MAX_CYCLE (field row 3)

-- seconds, 0 to 3,599
abbrev pub offset_in : Row → Option ℕ
offset_in row = number_in 0 (MAX_CYCLE - 1) (field row 4)

-- the texts of the spans
abbrev pub texts_in : Row → List SpanText
texts_in row = map span_text (items_in (field row 5))

-- the signal that a row tells of
unfoldable pub phases_in : Row → Phases
phases_in row = record { cycle = unwrap_or (cycle_in row) 0; offset = unwrap_or (offset_in row) 0; spans = map span_of (texts_in row) }

-- the cycle, the offset, or the second of a span is no number, or out of range
abbrev pub has_bad_number : Row → List SpanText → Bool
has_bad_number row texts = is_none (cycle_in row) || is_none (offset_in row) || not (list_all has_numbers texts)

-- the link has a signal already
abbrev pub has_signal : List (Option Phases) → Option ℕ → Bool
has_signal signals None = false
has_signal signals (Some link) = is_some (get_or signals link None)

-- a text is no span; or the offset is not below the cycle; or a span has no second, leaves the cycle, or begins before the one before it ends
abbrev pub is_wrong : Row → List SpanText → Bool
is_wrong row texts =
    not (nat_lt (unwrap_or (offset_in row) 0) (unwrap_or (cycle_in row) 0)) || not (list_all (λ text. text.is_span) texts)
    || not (ascend (unwrap_or (cycle_in row) 0) 0 (map span_of texts))

-- why the signal of a link is refused, by the texts of its spans and the signals of the rows before it
unfoldable pub texts_reason : List (List ℕ) → List (Option Phases) → Row → List SpanText → Option Reason
texts_reason links signals row texts = least (
    (not (is_blank row 2), reason.FieldCount)
    ∷ (not (holds_name row 1), reason.BadName)
    ∷ (has_bad_number row texts, reason.BadNumber)
    ∷ (has_signal signals (link_in links row), reason.Twice)
    ∷ (is_none (link_in links row), reason.Unknown)
    ∷ (nat_lt MAX_SPANS (length texts), reason.TooMany)
    ∷ (is_wrong row texts, reason.SignalWrong)
    ∷ [])

-- the same, by the row
abbrev pub signal_reason : List (List ℕ) → List (Option Phases) → Row → Option Reason
signal_reason links signals row = texts_reason links signals row (texts_in row)

-- the node where a link ends
abbrev pub end_of : List (ℕ × ℕ) → ℕ → ℕ
end_of ends link = (get_or ends link (0, 0)).1

-- the two are one link, or end at different nodes
abbrev pub are_apart : List (ℕ × ℕ) → ℕ → ℕ → Bool
are_apart ends link other = nat_eq link other || not (nat_eq (end_of ends link) (end_of ends other))

-- why a conflict is refused, by how many conflicts the rows before it have
unfoldable pub conflict_reason : List (List ℕ) → List (ℕ × ℕ) → ℕ → Row → Option Reason
conflict_reason links ends conflicts row = least (
    (not (is_blank row 3 && is_blank row 4 && is_blank row 5), reason.FieldCount)
    ∷ (not (holds_name row 1 && holds_name row 2), reason.BadName)
    ∷ (is_none (link_in links row) || is_none (other_in links row), reason.Unknown)
    ∷ (nat_le MAX_CONFLICTS conflicts, reason.TooMany)
    ∷ (are_apart ends (unwrap_or (link_in links row) 0) (unwrap_or (other_in links row) 0), reason.SignalWrong)
    ∷ [])

-- WHAT THE ROWS GIVE
-- the signal of each link that has one, and the conflicts
pub record Seen : Type 0 where
  pub signals : List (Option Phases)
  pub conflicts : List Conflict

-- why a row of its kind is refused, by what the rows before it give
unfoldable pub kind_reason : List (List ℕ) → List (ℕ × ℕ) → Seen → Row → RowKind → Option Reason
kind_reason links ends seen row kind.Signal = signal_reason links seen.signals row
kind_reason links ends seen row kind.Conflict = conflict_reason links ends (length seen.conflicts) row
kind_reason links ends seen row kind.Neither = Some reason.SignalWrong

-- why a row of signals.csv is refused
unfoldable pub row_reason : List (List ℕ) → List (ℕ × ℕ) → Seen → Row → Option Reason
row_reason links ends seen row = if nat_eq (length row) 6 then kind_reason links ends seen row (kind_of row) else Some reason.FieldCount

-- the signals of the links with that of a row
abbrev pub with_signal : List (List ℕ) → Row → List (Option Phases) → List (Option Phases)
with_signal links row signals = set signals (unwrap_or (link_in links row) 0) (Some (phases_in row))

-- the conflict of a row of this number
abbrev pub conflict_of : List (List ℕ) → ℕ → Row → Conflict
conflict_of links number row = record { row = number; link = unwrap_or (link_in links row) 0; other = unwrap_or (other_in links row) 0 }

-- what a row of its kind adds
unfoldable pub with_kind : List (List ℕ) → ℕ → Row → Seen → RowKind → Seen
with_kind links number row seen kind.Signal = record { signals = with_signal links row seen.signals; conflicts = seen.conflicts }
with_kind links number row seen kind.Conflict = record { signals = seen.signals; conflicts = seen.conflicts ++ conflict_of links number row ∷ [] }
with_kind links number row seen kind.Neither = seen

-- one more row, of this number
abbrev pub with_row : List (List ℕ) → ℕ → Row → Seen → Seen
with_row links number row seen = with_kind links number row seen (kind_of row)

-- rows that are numbered from this one on, one after the other
unfoldable pub with_rows : List (List ℕ) → ℕ → List Row → Seen → Seen
with_rows links number [] seen = seen
with_rows links number (row ∷ rows) seen = with_rows links (number + 1) rows (with_row links number row seen)

-- what the rows behind the header give: at first no link has a signal, and there is no conflict
abbrev pub seen_in : List (List ℕ) → List Row → Seen
seen_in links rows = with_rows links 1 rows (record { signals = replicate (length links) None; conflicts = [] })
