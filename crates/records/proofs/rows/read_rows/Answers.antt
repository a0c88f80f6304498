use Rattle.records.proofs.Common.{◌≡◌, List, ℕ, ◌∙◌, arith, map, [], sym, Some, ◌∷◌, refl, true, Bor, inl, inr, rules, length-map, map-append, Reached}
use Rattle.records.proofs.{Common.strip_bom, Common.fields_of, Common.rows_of, Records.all_records, Records.few, Records.length-strip_bom}
use Rattle.std.specs.Result.{is_ok}
use Rattle.csv.{proofs.ReadFacts.rows-end, proofs.ReadFacts.rows-more, specs.Reading.default_config}
use Rattle.csv.specs.declared.parser.State.TheVariants as st
use Rattle.records.proofs.rows.read_rows.Goals as goal

pub loop-row-init : goal.loop-row-init
unfolding Reached
loop-row-init c =
    let made = c.from_reader-reader.ensures in
    let flexible = c.flexible.ensures in
    let headers = c.has_headers.ensures in
    let start = c.into_iter-row-iterator.ensures.into_iter_gives ∙ refl in
    let reader = c.into_byte_records-row-items.ensures.rdr in
    let left = c.into_byte_records-row-items.ensures.left in
    rw (start, reader, c.new-rows.ensures.items) (
      rw (flexible, headers) at made.trim ∙ c.new.ensures.trim,
      inr (inr (rw (flexible, headers) at made.has_headers, made.headers)),
      left,
      rw (flexible, headers) at made.config ∙ c.new.ensures.config,
      strip_bom c.args.bytes.now,
      made.source,
      (sym made.state, refl),
    )

pub loop-row-preserved : goal.loop-row-preserved
loop-row-preserved c =
    let inv = c.loop-row.invariant in
    let s = rw (c.in-Some.is, c.in-Ok.is) at ((c.next.ensures.steps inv.2 inv.0).0 inv.1) in
    let good : is_ok c.push.result ≡ true = search rules in
    let items = rw good at c.push.ensures.items in
    let m = rows-more (λ (s : Bor (List ℕ)). Some s.now) c.loop-row.row-iterator.rdr c.next.new.self.rdr (fields_of c.in-Ok.row) default_config st.StartRecord (strip_bom c.args.bytes.now) inv.4 (map fields_of c.loop-row.rows.items) inv.3 inv.5 inv.6 s.0 in
    (s.0.3 ∙ inv.0, inl s.1, s.2, s.0.2 ∙ inv.3, m.0, m.1, rw (items, map-append fields_of c.loop-row.rows.items (c.in-Ok.row ∷ [])) m.2)

-- what is left is read as no record: the rows are all the records
pub returns : goal.returns
unfolding rows_of
returns c =
    let inv = c.loop-row.invariant in
    let s = rw c.in-None.is at ((c.next.ensures.steps inv.2 inv.0).0 inv.1) in
    let end = rows-end (λ (s : Bor (List ℕ)). Some s.now) c.loop-row.row-iterator.rdr c.next.new.self.rdr [] default_config inv.4 inv.3 inv.5 s in
    let taken = few default_config st.StartRecord c.loop-row.row-iterator.rdr.state (strip_bom c.args.bytes.now) inv.4 (map fields_of c.loop-row.rows.items) inv.6 in
    let shorter = length-strip_bom c.args.bytes.now in
    record {
      rows = all_records default_config (strip_bom c.args.bytes.now) (map fields_of c.loop-row.rows.items) (c.loop-row.row-iterator.rdr.state, inv.4, inv.6, end);
      few = omega (arith, taken, shorter, length-map c.loop-row.rows.items fields_of);
    }
