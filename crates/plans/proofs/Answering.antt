-- The records of the code are the rows of the definitions.
use Rattle.records.proofs.Common.{◌≡◌, List, ap, ℕ, length, ◌∙◌, arith, map, [], ◌<◌, sym, None, Some, Option, ◌+◌, get_or, suc, zero, Err, ◌-◌}
use Rattle.records.proofs.Common.{length-map, get_or-map, fields_of, ByteRecord, Reason, RowStop, Mode, Row}
use Rattle.edge_files.specs.declared.reasons.RowStop.TheVariants as stop
use Rattle.plans.specs.declared.kinds.ElementKind.TheVariants as element
use Rattle.plans.proofs.FileRead.{row_fault, first_row_fault, first_is, first_read}
use Rattle.plans.{proofs.RowRead.act_able, proofs.RowRead.row_able, proofs.RowRead.row_read, specs.Kinds.kind_of}
use Rattle.plans.specs.Progress.{Progress, ActAble, RowAble, IsReadTo, step_first, step_act, step_leg}
use Rattle.plans.specs.{Read.Reads, Refusals.row_reason, Values.row_before, Values.row_behind, Values.rows_fault}

row_at : (records : List ByteRecord) (n : ℕ) (row : ByteRecord) → n < length records → row ≡ get_or records n row → get_or (map fields_of records) n [] ≡ fields_of row
row_at records n row less is = get_or-map fields_of records n row [] less ∙ ap fields_of (sym is)

-- the row before a place that is not the first
pub before_there : (records : List ByteRecord) (place : ℕ) (row : ByteRecord) → 0 < place → place < length records → row ≡ get_or records (place - 1) row → Some (fields_of row) ≡ row_before (map fields_of records) place
unfolding row_before
before_there records zero row some less is = absurd (omega arith)
before_there records (suc place) row some less is =
    let same : suc place - 1 ≡ place = omega arith in
    rw (row_at records place row (omega arith) (rw same at is))

-- what was asked of a row behind others, at its place
module _ (links : List (List ℕ)) (ends : List (ℕ × ℕ)) (records : List ByteRecord) (n : ℕ) (p : Progress) (row : ByteRecord) (count : ℕ)
    (before next : Option Row)
    (r : IsReadTo links ends (map fields_of records) n p) (less : n < length records) (is : row ≡ get_or records n row) (few : count ≡ length p.legs)
    (b : before ≡ row_before (map fields_of records) n) (a : next ≡ row_behind (map fields_of records) n) where
  asked : (o : Option Reason) → o ≡ row_reason links ends p.persons count before (fields_of row) next
      → row_reason links ends p.persons (length p.legs) (row_before (map fields_of records) n) (get_or (map fields_of records) n [])
      (row_behind (map fields_of records) n) ≡ o
  asked o h = let same = row_at records n row less is in cc

  within : n < length (map fields_of records)
  within = rw length-map less

  -- a reason against the row is the first fault
  pub next_told : (why : Reason) (told : RowStop) → Some why ≡ row_reason links ends p.persons count before (fields_of row) next
      → told ≡ stop.Fault (record { row = n + 1; reason = why })
      → Reads (Err told) links ends (map fields_of records) (n + 1)
  next_told why told h tells = rw tells (row_fault links ends (map fields_of records) n p why r within (asked (Some why) h))

  pub next_able : None ≡ row_reason links ends p.persons count before (fields_of row) next → RowAble links p before (fields_of row)
  next_able h = rw (b, ← row_at records n row less is) (row_able links ends (map fields_of records) n p r within (asked None h))

  pub next_read : None ≡ row_reason links ends p.persons count before (fields_of row) next → (q : Progress)
      → (kind_of (fields_of row) ≡ element.Act → q ≡ step_act links p before (fields_of row) (n + 1))
      → ((mode : Mode) → kind_of (fields_of row) ≡ element.Leg (Some mode) → q ≡ step_leg links p mode (fields_of row))
      → IsReadTo links ends (map fields_of records) (n + 1) q
  next_read h q act leg =
      let same = row_at records n row less is in
      row_read links ends (map fields_of records) n p r within (asked None h) q
      (λ kind. rw (same, ← b) (act (rw same at kind))) (λ mode kind. rw same (leg mode (rw same at kind)))

-- and of the first row
module _ (links : List (List ℕ)) (ends : List (ℕ × ℕ)) (row : ByteRecord) (nobody : List (List ℕ)) (next : Option Row) (none : nobody ≡ []) where
  pub first_able : None ≡ row_reason links ends nobody 0 None (fields_of row) next → ActAble links (fields_of row)
  first_able h = let asked = sym (rw none at h) in act_able links ends [] 0 None (fields_of row) next asked (first_is links ends (fields_of row) next asked).0

  module _ (records : List ByteRecord) (less : 0 < length records) (is : row ≡ get_or records 0 row) (a : next ≡ row_behind (map fields_of records) 0) where
    first_asked : (o : Option Reason) → o ≡ row_reason links ends nobody 0 None (fields_of row) next
        → row_reason links ends [] 0 None (get_or (map fields_of records) 0 []) (row_behind (map fields_of records) 0) ≡ o
    first_asked o h = let same = row_at records 0 row less is in cc

    pub first_told : (why : Reason) (told : RowStop) → Some why ≡ row_reason links ends nobody 0 None (fields_of row) next
        → told ≡ stop.Fault (record { row = 1; reason = why })
        → Reads (Err told) links ends (map fields_of records) 1
    first_told why told h tells = rw tells (first_row_fault links ends (map fields_of records) why (rw length-map less) (first_asked (Some why) h))

    pub first_done : (q : Progress) → None ≡ row_reason links ends nobody 0 None (fields_of row) next → q ≡ step_first links (fields_of row)
        → IsReadTo links ends (map fields_of records) 1 q
    first_done q h done = rw (done, ← row_at records 0 row less is) (first_read links ends (map fields_of records) (rw length-map less) (first_asked None h))

-- all rows are read
pub all_read : (links : List (List ℕ)) (ends : List (ℕ × ℕ)) (records : List ByteRecord) (n : ℕ) (p : Progress) → IsReadTo links ends (map fields_of records) n p → n ≡ length records
    → IsReadTo links ends (map fields_of records) (length (map fields_of records)) p
all_read links ends records n p r end = rw (length-map records fields_of, ← end) r

-- then no row has a fault
pub none_left : (links : List (List ℕ)) (ends : List (ℕ × ℕ)) (rows : List Row) (p : Progress) → IsReadTo links ends rows (length rows) p → rows_fault None links ends rows ≡ None
unfolding rows_fault
none_left links ends rows p r = r.none
