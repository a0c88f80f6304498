use Rattle.records.proofs.Common.{List, ap, ℕ, length, ◌∙◌, arith, map, ◌<◌, sym, refl, Option, ◌+◌, ◌≤◌, length-map, fields_of, Reason, number_of, with_name}
use Rattle.records.proofs.{Common.field, Common.Row, InTurn.read_none, InTurn.read_more, InTurn.read_fault, InTurn.read_all, InTurn.read_count, InTurn.row_at}
use Rattle.rows.specs.declared.schedule.{RouteRow.RouteRow, Stops.Stops}
use Rattle.schedule.proofs.Lines.{lines_none, lines_more, lines_all, line_stays, route_found, route_why}
use Rattle.schedule.specs.{Routes.route_reason, Routes.route_of, Routes.lists_of, Routes.lines_of, Views.route_lists}
use Rattle.schedule.proofs.routes.read_body.Goals as goal

abbrev why : List (List ℕ) → List (ℕ × ℕ) → Stops → List (List ℕ) → List RouteRow → Row → Option Reason
why links ends stops names values row = route_reason links ends stops.names stops.rows names row

abbrev value : List (List ℕ) → Stops → List Row → Row → RouteRow
value links stops rows = route_of links stops.names stops.rows (lines_of rows)

pub loop-place-init : goal.loop-place-init
loop-place-init c =
    let args = c.args in
    record {
      read = read_none 1 (value args.links.now args.stops.now (map fields_of args.rows.now)) (why args.links.now args.ends.now args.stops.now) args.rows.now _ _ c.new-names.ensures c.new-routes.ensures.items;
      lines = lines_none _ c.new-lines.ensures;
    }

pub loop-place-preserved : goal.loop-place-preserved
loop-place-preserved c =
    let args = c.args in
    let rows = map fields_of args.rows.now in
    let n = c.loop-place.place in
    let read = c.loop-place.invariant.read in
    let of = value args.links.now args.stops.now rows in
    let reason = why args.links.now args.ends.now args.stops.now in
    let record_at = c.index-rows-place.result in
    let row = fields_of record_at in
    let at = row_at args.rows.now n record_at c.loop-place-test.true c.index-rows-place.is in
    let within : n < length rows = omega (arith, length-map args.rows.now fields_of, c.loop-place-test.true) in
    let found = c.in-Ok-Ok in
    let lists = sym found.field-0-is ∙ found.ensures.lists in
    let fresh = rw found.field-0-is at found.ensures.fresh in
    let lines = lines_more rows n row c.loop-place.lines c.number.new.names within at c.loop-place.invariant.lines
    (c.in-Ok.ensures.names ∙ ap (λ (name : List ℕ). with_name c.loop-place.lines name) c.field.ensures) in
    let line = line_stays rows (n + 1) (field row 0) c.in-Ok.line
    (ap (λ (l : List (List ℕ)). number_of (field row 0) l) (sym lines) ∙ ap (λ (name : List ℕ). number_of name c.number.new.names) (sym c.field.ensures) ∙ c.in-Ok.ensures.number) in
    record {
      read = read_more 1 of reason args.rows.now n c.loop-place.names _ c.loop-place.routes.items _ record_at (record { line = c.in-Ok.line; links = found.lists.links; calls = found.lists.calls })
          read c.loop-place-test.true c.index-rows-place.is
          (route_found (reason c.loop-place.names c.loop-place.routes.items row) args.links.now args.stops.now.names args.stops.now.rows (lines_of rows) row found.lists c.in-Ok.line _ lists line refl) fresh
          (c.in-Ok-add_row.ensures.names ∙ ap (λ (name : List ℕ). with_name c.loop-place.names name) c.field-in-loop-place.ensures) c.in-Ok-add_row.ensures.rows;
      lines = lines;
    }

pub returns-in-Ok-Err : goal.returns-in-Ok-Err
returns-in-Ok-Err c =
    let args = c.args in
    let of = value args.links.now args.stops.now (map fields_of args.rows.now) in
    let reason = why args.links.now args.ends.now args.stops.now in
    let row = fields_of c.index-rows-place.result in
    read_fault route_lists _ 1 of reason args.rows.now c.loop-place.place c.loop-place.names c.loop-place.routes.items c.index-rows-place.result c.in-Ok-Err.reason _
    c.loop-place.invariant.read c.loop-place-test.true c.index-rows-place.is
    (route_why (reason c.loop-place.names c.loop-place.routes.items row) (lists_of args.links.now args.stops.now.names args.stops.now.rows row) (of row) c.in-Ok-Err.reason (sym c.in-Ok-Err.field-0-is ∙ c.in-Ok-Err.ensures.lists))
    c.fault.ensures

pub returns : goal.returns
returns c =
    let args = c.args in
    let rows = map fields_of args.rows.now in
    let of = value args.links.now args.stops.now rows in
    let reason = why args.links.now args.ends.now args.stops.now in
    let all = read_all 1 of reason args.rows.now c.loop-place.place c.loop-place.names c.loop-place.routes.items c.loop-place.invariant.read (omega arith) in
    let end : length rows ≤ c.loop-place.place = omega (arith, length-map args.rows.now fields_of, c.loop-place-test.false) in
    let lines = lines_all rows c.loop-place.place c.loop-place.lines end c.loop-place.invariant.lines in
    (all.0, cc (lines, all.1, all.2))

pub invariant_of-result : goal.invariant_of-result
invariant_of-result c =
    let args = c.args in
    let of = value args.links.now args.stops.now (map fields_of args.rows.now) in
    let reason = why args.links.now args.ends.now args.stops.now in
    let count = read_count 1 of reason args.rows.now c.loop-place.place c.loop-place.names c.loop-place.routes.items c.loop-place.invariant.read (omega arith) in
    omega (arith, count.0, count.1)
