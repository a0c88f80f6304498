-- The lines of routes, numbered as they first appear.
use Rattle.records.proofs.Common.{◌≡◌, List, ap, ℕ, length, ◌∙◌, [], ◌<◌, sym, None, Some, ◌++◌, ◌∷◌, true, Bool, Option, ◌+◌, false, cond, get_or, ◌≤◌, drop}
use Rattle.records.proofs.Common.{take, Err, Ok, map-append, take_all, fold-append, unwrap_or, Reason, number_of, with_name, is_held, firsts, field, column}
use Rattle.records.{proofs.Common.Row, specs.Faults.unless, proofs.Columns.map_more}
use Rattle.std.{proofs.lemmas.List.take-append-drop, specs.Prelude.fold}
use Rattle.events.proofs.NameLists.{number_of-kept, firsts-push}
use Rattle.rows.specs.declared.schedule.{RouteRow.RouteRow, StopRow.StopRow}
use Rattle.schedule.specs.{Routes.lines_of, Routes.route_of, Routes.lists_of, declared.route_lists.RouteLists.RouteLists}

-- the lines so far, one more row read
pub lines_more : (rows : List Row) (n : ℕ) (row : Row) (lines lines' : List (List ℕ)) → n < length rows → get_or rows n [] ≡ row → lines ≡ lines_of (take n rows) → lines' ≡ with_name lines (field row 0)
    → lines' ≡ lines_of (take (n + 1) rows)
lines_more rows n row lines lines' less at is more =
    more ∙ ap (λ (l : List (List ℕ)). with_name l (field row 0)) is ∙ ap (λ (r : Row). with_name (lines_of (take n rows)) (field r 0)) (sym at)
    ∙ sym (firsts-push (column 0 (take n rows)) (field (get_or rows n []) 0)) ∙ ap firsts (sym (map_more (λ row. field row 0) rows n less))

pub lines_none : (lines : List (List ℕ)) → lines ≡ [] → lines ≡ lines_of []
unfolding firsts
lines_none lines none = none

-- all rows are read
pub lines_all : (rows : List Row) (n : ℕ) (lines : List (List ℕ)) → length rows ≤ n → lines ≡ lines_of (take n rows) → lines ≡ lines_of rows
lines_all rows n lines end is = is ∙ ap (λ (l : List Row). lines_of l) (take_all n rows end)

kept : (names : List (List ℕ)) (name other : List ℕ) (n : ℕ) → number_of other names ≡ Some n → number_of other (with_name names name) ≡ Some n
kept names name other n held = by (is_held name names)
  where
    by : (b : Bool) → number_of other (cond b names (names ++ name ∷ [])) ≡ Some n
    by true = held
    by false = number_of-kept names name other n held

kept_all : (more names : List (List ℕ)) (other : List ℕ) (n : ℕ) → number_of other names ≡ Some n → number_of other (fold with_name names more) ≡ Some n
kept_all [] names other n held = held
kept_all (name ∷ more) names other n held = kept_all more (with_name names name) other n (kept names name other n held)

-- a line keeps its number
pub line_stays : (rows : List Row) (n : ℕ) (line : List ℕ) (number : ℕ) → number_of line (lines_of (take n rows)) ≡ Some number → number_of line (lines_of rows) ≡ Some number
unfolding firsts
line_stays rows n line number held =
    let whole : column 0 rows ≡ column 0 (take n rows) ++ column 0 (drop n rows) =
    ap (λ (l : List Row). column 0 l) (sym (take-append-drop n rows)) ∙ map-append (λ (row : Row). field row 0) (take n rows) (drop n rows) in
    ap (λ (l : List (List ℕ)). number_of line (fold with_name [] l)) whole
    ∙ ap (λ (l : List (List ℕ)). number_of line l) (fold-append with_name [] (column 0 (take n rows)) (column 0 (drop n rows)))
    ∙ kept_all (column 0 (drop n rows)) (fold with_name [] (column 0 (take n rows))) line number held

-- the links and calls of a row make its route, with the number of its line
pub route_found : (o : Option Reason) (links stops : List (List ℕ)) (rows : List StopRow) (lines : List (List ℕ)) (row : Row) (lists : RouteLists) (line : ℕ) (route : RouteRow) → Ok lists ≡ unless o (lists_of links stops rows row)
    → number_of (field row 0) lines ≡ Some line → route ≡ record { line = line; links = lists.links; calls = lists.calls } → Ok route ≡ unless o (route_of links stops rows lines row)
unfolding route_of
route_found None links stops rows lines row lists line route found held is =
    let same : lists ≡ lists_of links stops rows row = cc in
    let at : unwrap_or (number_of (field row 0) lines) 0 ≡ line = ap (λ (o : Option ℕ). unwrap_or o 0) held in
    ap Ok (is ∙ ap (λ (l : RouteLists). record { line = line; links = l.links; calls = l.calls }) same
    ∙ ap (λ (m : ℕ). record { line = m; links = (lists_of links stops rows row).links; calls = (lists_of links stops rows row).calls }) (sym at))
route_found (Some why) links stops rows lines row lists line route found held is = cc

-- and what is against it is told
pub route_why : (o : Option Reason) (lists : RouteLists) (route : RouteRow) (why : Reason) → Err why ≡ unless o lists → Err why ≡ unless o route
route_why None lists route why told = cc
route_why (Some other) lists route why told = let same : why ≡ other = cc in ap Err same
