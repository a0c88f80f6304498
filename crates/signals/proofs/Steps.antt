-- The rows of signals.csv, read one after the other up to the first fault.
use Rattle.records.proofs.Common.{◌≡◌, List, ap, ℕ, length, ◌∙◌, arith, map, [], ◌<◌, sym, None, Some, ◌++◌, ◌∷◌, refl, Option, ◌+◌, get_or, take, subst, true}
use Rattle.records.proofs.Common.{Bool, cond, suc, Err, Ok, Result, length-map, take_all, take_more, fields_of, ByteRecord, Reason, RowStop, Answers}
use Rattle.records.proofs.{Common.first_fault, Common.body_of, Common.TellsStop, Common.Row, Common.nat_eq, Faulty.none_of_none, Faulty.one_more}
use Rattle.records.proofs.{Faulty.fault_here, Faulty.answers_head, InTurn.row_at, Numbering.numbered_within}
use Rattle.std.proofs.{Common.◌≢◌, Common.IfOk, lemmas.Bool.ne_eqb, lemmas.Bool.eq-eqb, lemmas.List.length-take-le, lemmas.List.length-set}
use Rattle.std.{proofs.lemmas.List.length-replicate, specs.Prelude.replicate}
use Rattle.edge_files.specs.declared.reasons.RowFault.{RowFault}
use Rattle.edge_files.specs.declared.reasons.Reason.TheVariants as reason
use Rattle.edge_files.specs.declared.reasons.RowStop.TheVariants as stop
use Rattle.signals.specs.Rows.{Seen, kind_of, kind_reason, row_reason, with_kind, with_row, with_rows, seen_in}
use Rattle.signals.specs.{Signals.SignalRows, Signals.reason_at, Signals.rows_fault, Signals.or_always, Signals.signal_rows_of, Views.signal_view, Views.Reads}
use Rattle.signals.specs.{Views.AreSeen, declared.kinds.RowKind.RowKind, declared.lists.Signals.Signals, declared.signals_read.SignalsRead.SignalsRead}
use Rattle.signals.specs.declared.kinds.RowKind.TheVariants as kind

-- the number of a link is among those of the links
pub ruleset known_links = (numbered_within)

-- WHAT IS FOUND OF A ROW
-- a row of another number of fields
pub other_length : (links : List (List ℕ)) (ends : List (ℕ × ℕ)) (seen : Seen) (row : Row) (n : ℕ) → n ≡ length row → n ≢ 6 → row_reason links ends seen row ≡ Some reason.FieldCount
unfolding row_reason
other_length links ends seen row n count other =
    ap (λ (b : Bool). cond b (kind_reason links ends seen row (kind_of row)) (Some reason.FieldCount)) (ne_eqb (length row) 6 (λ six. other (count ∙ six)))

six_fields : (row : Row) (n : ℕ) → n ≡ length row → n ≡ 6 → nat_eq (length row) 6 ≡ true
six_fields row n count six = eq-eqb (length row) 6 (sym count ∙ six)

-- a row of this kind is read as its kind is
pub row_reads : (links : List (List ℕ)) (ends : List (ℕ × ℕ)) (seen : Seen) (number : ℕ) (row : Row) (k : RowKind) (found : Result SignalsRead Reason) (n : ℕ) → n ≡ length row → n ≡ 6 → kind_of row ≡ k
    → Reads found (kind_reason links ends seen row k) (with_kind links number row seen k) → Reads found (row_reason links ends seen row) (with_row links number row seen)
unfolding row_reason
row_reads links ends seen number row k found n count six is h =
    let of_kind = subst (λ (x : RowKind). Reads found (kind_reason links ends seen row x) (with_kind links number row seen x)) (sym is) h in
    subst (λ (b : Bool). Reads found (cond b (kind_reason links ends seen row (kind_of row)) (Some reason.FieldCount)) (with_row links number row seen)) (sym (six_fields row n count six)) of_kind

-- a row of neither kind
pub neither_reason : (links : List (List ℕ)) (ends : List (ℕ × ℕ)) (seen : Seen) (row : Row) (n : ℕ) → n ≡ length row → n ≡ 6 → kind_of row ≡ kind.Neither → row_reason links ends seen row ≡ Some reason.SignalWrong
unfolding row_reason kind_reason
neither_reason links ends seen row n count six is =
    ap (λ (b : Bool). cond b (kind_reason links ends seen row (kind_of row)) (Some reason.FieldCount)) (six_fields row n count six)
    ∙ ap (λ (k : RowKind). kind_reason links ends seen row k) is

-- ROWS
-- one more row behind rows
with_rows_more : (links : List (List ℕ)) (number : ℕ) (rows : List Row) (row : Row) (seen : Seen) → with_rows links number (rows ++ row ∷ []) seen ≡ with_row links (number + length rows) row (with_rows links number rows seen)
unfolding with_rows
with_rows_more links number [] row seen = let e : number ≡ number + 0 = omega arith in ap (λ (n : ℕ). with_row links n row seen) e
with_rows_more links number (x ∷ xs) row seen =
    let e : number + 1 + length xs ≡ number + suc (length xs) = omega arith in
    let before = with_rows links (number + 1) xs (with_row links number x seen) in
    with_rows_more links (number + 1) xs row (with_row links number x seen) ∙ ap (λ (n : ℕ). with_row links n row before) e

pub seen_more : (links : List (List ℕ)) (rows : List Row) (n : ℕ) → n < length rows → seen_in links (take (n + 1) rows) ≡ with_row links (n + 1) (get_or rows n []) (seen_in links (take n rows))
seen_more links rows n less =
    let count : length (take n rows) ≡ n = length-take-le n rows (omega arith) in
    let e : 1 + length (take n rows) ≡ n + 1 = omega arith in
    let row = get_or rows n [] in
    ap (λ (l : List Row). seen_in links l) (take_more rows n [] less) ∙ with_rows_more links 1 (take n rows) row (record { signals = replicate (length links) None; conflicts = [] })
    ∙ ap (λ (m : ℕ). with_row links m row (seen_in links (take n rows))) e

-- the first n rows have no fault, and this is what they give
pub record IsReadTo (links : List (List ℕ)) (ends : List (ℕ × ℕ)) (records : List ByteRecord) (n : ℕ) (seen : Seen) : Type 0 where
  pub none : first_fault None (reason_at links ends (map fields_of records)) n ≡ None
  pub given : seen ≡ seen_in links (take n (map fields_of records))
  pub such : AreSeen (length links) seen

module _ (links : List (List ℕ)) (ends : List (ℕ × ℕ)) (records : List ByteRecord) where
  pub read_none : (seen : Seen) → seen ≡ record { signals = replicate (length links) None; conflicts = [] } → IsReadTo links ends records 0 seen
  unfolding with_rows
  read_none seen is = record {
    none = none_of_none (reason_at links ends (map fields_of records));
    given = is;
    such = record { each = ap (λ (s : Seen). length s.signals) is ∙ length-replicate (length links) None; there = rw is refl };
  }

  reason_is : (n : ℕ) (seen : Seen) (row : ByteRecord) → IsReadTo links ends records n seen → n < length records → row ≡ get_or records n row
      → reason_at links ends (map fields_of records) n ≡ row_reason links ends seen (fields_of row)
  unfolding reason_at
  reason_is n seen row before less is =
      ap (λ (r : Row). row_reason links ends (seen_in links (take n (map fields_of records))) r) (row_at records n row less is)
      ∙ ap (λ (s : Seen). row_reason links ends s (fields_of row)) (sym before.given)

  -- one more row is read
  pub read_more : (n : ℕ) (seen after : Seen) (row : ByteRecord) → IsReadTo links ends records n seen → n < length records → row ≡ get_or records n row
      → row_reason links ends seen (fields_of row) ≡ None → after ≡ with_row links (n + 1) (fields_of row) seen → AreSeen (length links) after → IsReadTo links ends records (n + 1) after
  read_more n seen after row before less is free more such =
      let rows : List Row = map fields_of records in
      let within : n < length rows = omega (arith, length-map records fields_of) in
      record {
        none = one_more (reason_at links ends rows) n before.none (reason_is n seen row before less is ∙ free);
        given = more ∙ ap (λ (s : Seen). with_row links (n + 1) (fields_of row) s) before.given
            ∙ ap (λ (r : Row). with_row links (n + 1) r (seen_in links (take n rows))) (sym (row_at records n row less is)) ∙ sym (seen_more links rows n within);
        such = such;
      }

  -- a row with a reason is the first fault
  pub read_fault : (n : ℕ) (seen : Seen) (row : ByteRecord) (why : Reason) (told : RowStop) (value : SignalRows) → IsReadTo links ends records n seen → n < length records → row ≡ get_or records n row
      → row_reason links ends seen (fields_of row) ≡ Some why → told ≡ stop.Fault (record { row = n + 1; reason = why }) → Answers signal_view (Err told) (rows_fault None links ends (map fields_of records)) value
  unfolding rows_fault
  read_fault n seen row why told value before less is against tells =
      let rows : List Row = map fields_of records in
      let within : n < length rows = omega (arith, length-map records fields_of) in
      let first = fault_here (reason_at links ends rows) n (length rows) why within before.none (reason_is n seen row before less is ∙ against) in
      subst (λ (s : RowStop). Answers signal_view (Err s) (first_fault None (reason_at links ends rows) (length rows)) value) (sym tells) first

  -- all rows are read
  pub read_all : (n : ℕ) (seen : Seen) → IsReadTo links ends records n seen → n ≡ length records → (rows_fault None links ends (map fields_of records) ≡ None) × (seen ≡ seen_in links (map fields_of records))
  unfolding rows_fault
  read_all n seen read end =
      let rows : List Row = map fields_of records in
      let all : n ≡ length rows = end ∙ sym (length-map records fields_of) in
      let whole : take n rows ≡ rows = ap (λ (m : ℕ). take m rows) all ∙ take_all (length rows) rows (omega arith) in (
        ap (λ (m : ℕ). first_fault None (reason_at links ends rows) m) (sym all) ∙ read.none,
        read.given ∙ ap (λ (l : List Row). seen_in links l) whole,
      )

-- THE FILE
-- what is answered of the rows behind a header without fault is answered of the file
pub answers_rows : (answer : Result Signals RowStop) (head : Option Reason) (links : List (List ℕ)) (ends : List (ℕ × ℕ)) (bytes : List ℕ) (rows : List Row) → head ≡ None → rows ≡ body_of bytes
    → Answers signal_view answer (rows_fault None links ends rows) (signal_rows_of links rows)
    → Answers signal_view answer (rows_fault head links ends (body_of bytes)) (signal_rows_of links (body_of bytes))
answers_rows answer head links ends bytes rows good same answers =
    let at_body = subst (λ (l : List Row). Answers signal_view answer (rows_fault None links ends l) (signal_rows_of links l)) same answers in
    subst (λ (h : Option Reason). Answers signal_view answer (rows_fault h links ends (body_of bytes)) (signal_rows_of links (body_of bytes))) (sym good) at_body

-- what is told of row 0 is told of the file
pub answers_stop : (told : RowStop) (head : Option Reason) (links : List (List ℕ)) (ends : List (ℕ × ℕ)) (rows : List Row) (value : SignalRows) → TellsStop told head
    → Answers signal_view (Err told) (rows_fault head links ends rows) value
unfolding rows_fault
answers_stop told head links ends rows value tells = answers_head signal_view told head (reason_at links ends rows) (length rows) value tells

-- EACH LINK HAS A SIGNAL
kind_length : (links : List (List ℕ)) (number : ℕ) (row : Row) (seen : Seen) (k : RowKind) → length (with_kind links number row seen k).signals ≡ length seen.signals
unfolding with_kind
kind_length links number row seen kind.Signal = length-set seen.signals _ _
kind_length links number row seen kind.Conflict = refl
kind_length links number row seen kind.Neither = refl

rows_length : (links : List (List ℕ)) (number : ℕ) (rows : List Row) (seen : Seen) → length (with_rows links number rows seen).signals ≡ length seen.signals
unfolding with_rows
rows_length links number [] seen = refl
rows_length links number (row ∷ rows) seen = rows_length links (number + 1) rows (with_row links number row seen) ∙ kind_length links number row seen (kind_of row)

pub greens_length : (links : List (List ℕ)) (rows : List Row) → length (signal_rows_of links rows).greens ≡ length links
greens_length links rows =
    let nothing : Seen = record { signals = replicate (length links) None; conflicts = [] } in
    length-map (seen_in links rows).signals or_always ∙ rows_length links 1 rows nothing ∙ length-replicate (length links) None

pub answered_each : (answer : Result Signals RowStop) (fault : Option RowFault) (links : List (List ℕ)) (rows : List Row) → Answers signal_view answer fault (signal_rows_of links rows)
    → IfOk answer (λ (signals : Signals). length signals.greens ≡ length links)
answered_each (Ok signals) fault links rows told = ap (λ (s : SignalRows). length s.greens) told.1 ∙ greens_length links rows
answered_each (Err why) fault links rows told = tt
