-- The legs of a grid's plans: those by bus fit its line, and for those by car there is a route.
use Rattle.records.proofs.Common.{◌≡◌, List, ap, ℕ, length, ◌∙◌, arith, [], ◌<◌, None, Some, ◌++◌, ◌∷◌, refl, true, Bool, ◌+◌, false, ◌≤◌, ◌^◌, ◌&&◌, ◌||◌, not}
use Rattle.records.proofs.Common.{map, sym, suc, zero, ◌-◌, nat_tests, Row, Reason, Option, field, bytes_eq, flat_map, get_or, get_or-map, is_held, is_none}
use Rattle.records.{proofs.Common.number_of, proofs.Common.unwrap_or, proofs.Common.nat_eq, specs.Lists.items_in, specs.Lists.numbers_of}
use Rattle.std.{proofs.lemmas.Bool.or_left, specs.List.list_any, specs.Prelude.codes, specs.Prelude.if◌then◌else◌}
use Rattle.edge_files.specs.declared.reasons.Reason.TheVariants as reason
use Rattle.events.{proofs.NameLists.is_held-firsts, proofs.NameLists.name_at-number_of, specs.Words.mode_of}
use Rattle.events.specs.declared.event.Mode.TheVariants as mode
use Rattle.plans.specs.declared.kinds.ElementKind.TheVariants as element
use Rattle.plans.{proofs.Naming.numbered_held, specs.Kinds.is_leg, specs.Kinds.kind_of, specs.Kinds.seconds_in}
use Rattle.plans.specs.Values.{Tables, act_of, leg_by, leg_of, line_in, named_by, number_in_table, stops_in, tables_of, transit_of}
use Rattle.rows.specs.{Stops.stop_link, declared.plan.Act.Act, declared.schedule.RouteRow.RouteRow, declared.schedule.StopRow.StopRow}
use Rattle.rows.specs.declared.plan.Leg.TheVariants as leg
use Rattle.scenario.specs.Legs.{LegChecks, act_in, ends_elsewhere, is_unknown, lacks_route, leg_in_town, leg_reason, leg_reason_at}
use Rattle.scenario.specs.Legs.{number_at, numbers_in, stops_elsewhere}
use Rattle.town.specs.Fits.{has_wrong_stops, is_joining}
use Rattle.workload.specs.{Commuters.bus_home, Commuters.bus_work, Rows.act_row, Rows.leg_row, Rows.link_name, Rows.stop_name, Rows.walk_row, Rows.way_back}
use Rattle.workload.specs.{Rows.way_there, declared.TheConstants.WORK_SECONDS, declared.commuters.Commute.Commute, declared.commuters.Commuter.Commuter}
use Rattle.workload.specs.declared.commuters.Commute.TheVariants as commute
use Rattle.law_generated.proofs.{Commuting.bus_items, Names.held_first, Names.held_later, Names.same, Tables.no_reason}

-- LEGS OF EACH MODE
-- nothing speaks against a walk
walk_fits : (W : LegChecks) (here : Act) (there seconds : ℕ) → leg_reason W here there (leg.Teleport mode.Walk seconds) ≡ None
unfolding leg_reason
walk_fits W here there seconds = refl

-- nor against a car leg for which a route is found
car_fits : (W : LegChecks) (here : Act) (there : ℕ) → is_none (W.searched here there) ≡ false → leg_reason W here there (leg.Car []) ≡ None
unfolding leg_reason
car_fits W here there found =
    no_reason (
    (is_unknown W.numbers (leg.Car []), reason.Unknown)
    ∷ (ends_elsewhere here.link there (leg.Car []), reason.EndWrong)
    ∷ (stops_elsewhere W here.link there (leg_in_town W.numbers (leg.Car [])), reason.StopsWrong)
    ∷ (lacks_route W here there (leg.Car []), reason.NoRoute)
    ∷ []) (refl, (refl, (refl, (found, tt))))

all_known : (x y z : Option ℕ) (l a e : ℕ) → x ≡ Some l → y ≡ Some a → z ≡ Some e → (is_none x || is_none y || is_none z) ≡ false
all_known x y z l a e p q r = rw (p, q, r) refl

all_read : (f : ℕ → ℕ → ℕ → Bool) (x y z : Option ℕ) (l a e : ℕ) → x ≡ Some l → y ≡ Some a → z ≡ Some e
    → f (unwrap_or x 0) (unwrap_or y 0) (unwrap_or z 0) ≡ f l a e
all_read f x y z l a e p q r = rw (p, q, r) refl

-- nor against a leg by a line and between stops that the town has, where these are right
bus_fits : (W : LegChecks) (here : Act) (there line access egress l a e : ℕ) → number_at W.numbers.lines line ≡ Some l
    → number_at W.numbers.stops access ≡ Some a → number_at W.numbers.stops egress ≡ Some e
    → has_wrong_stops W.stops W.routes here.link there l a e ≡ false → leg_reason W here there (leg.Transit line access egress) ≡ None
unfolding leg_reason
bus_fits W here there line access egress l a e p q r right =
    no_reason (
    (is_unknown W.numbers (leg.Transit line access egress), reason.Unknown)
    ∷ (ends_elsewhere here.link there (leg.Transit line access egress), reason.EndWrong)
    ∷ (stops_elsewhere W here.link there (leg_in_town W.numbers (leg.Transit line access egress)), reason.StopsWrong)
    ∷ (lacks_route W here there (leg.Transit line access egress), reason.NoRoute)
    ∷ []) (
      all_known (number_at W.numbers.lines line) (number_at W.numbers.stops access) (number_at W.numbers.stops egress) l a e p q r,
      (
        refl,
        (
          all_read (has_wrong_stops W.stops W.routes here.link there) (number_at W.numbers.lines line) (number_at W.numbers.stops access)
              (number_at W.numbers.stops egress) l a e p q r ∙ right,
          (refl, tt),
        ),
      ),
    )

equal : (a b : ℕ) → a ≡ b → nat_eq a b ≡ true
equal a b h = grind (arith, nat_tests)

right_stops : (stops : List StopRow) (routes : List RouteRow) (here there line access egress : ℕ) → stop_link stops access ≡ here
    → stop_link stops egress ≡ there → list_any (is_joining line access egress) routes ≡ true
    → has_wrong_stops stops routes here there line access egress ≡ false
unfolding has_wrong_stops
right_stops stops routes here there line access egress p q r =
    none_wrong (nat_eq (stop_link stops access) here) (nat_eq (stop_link stops egress) there)
    (list_any (is_joining line access egress) routes)
    (equal (stop_link stops access) here p) (equal (stop_link stops egress) there q) r
  where
    none_wrong : (a b c : Bool) → a ≡ true → b ≡ true → c ≡ true → not (a && b && c) ≡ false
    none_wrong a b c p q r = grind arith

-- NUMBERS BY NAMES
-- a name in a row is among those of all rows
held_in_rows : (names : Row → List (List ℕ)) (rows : List Row) (place : ℕ) (name : List ℕ) → place < length rows
    → is_held name (names (get_or rows place [])) ≡ true → is_held name (flat_map names rows) ≡ true
held_in_rows names [] place name less held = absurd (omega (arith, less))
held_in_rows names (row ∷ rows) zero name less held = held_first name (names row) (flat_map names rows) held
held_in_rows names (row ∷ rows) (suc place) name less held =
    held_later name (names row) (flat_map names rows) (held_in_rows names rows place name (omega (arith, less)) held)

named_in : (names : Row → List (List ℕ)) (rows : List Row) (place : ℕ) (name : List ℕ) → place < length rows
    → is_held name (names (get_or rows place [])) ≡ true → is_held name (named_by names rows) ≡ true
unfolding named_by
named_in names rows place name less held = is_held-firsts (flat_map names rows) name ∙ held_in_rows names rows place name less held

-- the town's number of a name, by its number in the plans
town_number : (names town : List (List ℕ)) (name : List ℕ) → is_held name names ≡ true
    → number_at (numbers_in names town) (number_in_table name names) ≡ number_of name town
unfolding numbers_in
town_number names town name held =
    let there = numbered_held names name held in
    let at = name_at-number_of name names there.number there.is in
    ap (λ (o : Option ℕ). get_or (map (λ (n : List ℕ). number_of n town) names) (unwrap_or o 0) None) there.is
    ∙ get_or-map (λ (n : List ℕ). number_of n town) names there.number [] None at.0
    ∙ ap (λ (n : List ℕ). number_of n town) at.1

-- THE LEGS OF A PERSON
-- the line of a grid goes from the link of its first stop to that of its last one
pub record IsServed (size : ℕ) (links lines stops : List (List ℕ)) (places : List StopRow) (routes : List RouteRow) : Type 0 where
  pub line : number_of (codes "bus") lines ≡ Some 0
  pub first : number_of (codes "s0") stops ≡ Some 0
  pub last : number_of (stop_name (size - 2)) stops ≡ Some (size - 2)
  pub begins : stop_link places 0 ≡ number_in_table (link_name bus_home) links
  pub ends : stop_link places (size - 2) ≡ number_in_table (link_name (bus_work size)) links
  pub joined : list_any (is_joining 0 0 (size - 2)) routes ≡ true

-- a leg by bus, and its names
abbrev pub bus_row : ℕ → ℕ → Row
bus_row size person = leg_row person (codes "pt") [] (codes "bus s0 " ++ stop_name (size - 2))

-- when a person leaves home, and when he leaves work
abbrev pub home_row : ℕ → Commuter → Row
home_row person c = act_row person (codes "home") c.home (Some c.leaves)

abbrev pub work_row : ℕ → Commuter → Row
work_row person c = act_row person (codes "work") c.work (Some (c.leaves + WORK_SECONDS))

-- who goes by bus lives and works where the bus goes
abbrev pub IsByBus : ℕ → Commuter → Type 0
IsByBus size c = c.commute ≡ commute.Bus → (c.home ≡ bus_home) × (c.work ≡ bus_work size)

walk_is : (lines stops links : List (List ℕ)) (person : ℕ)
    → leg_of lines stops links (walk_row person) ≡ leg.Teleport mode.Walk (unwrap_or (seconds_in (walk_row person)) 0)
unfolding kind_of mode_of leg_by
walk_is lines stops links person = refl

car_is : (lines stops links : List (List ℕ)) (person : ℕ) → leg_of lines stops links (leg_row person (codes "car") [] []) ≡ leg.Car []
unfolding kind_of mode_of leg_by items_in numbers_of
car_is lines stops links person = refl

module _ (size : ℕ) (some : 3 ≤ size) (few : size ≤ 100) (person : ℕ) (less : person < 2 ^ 32) where
  bus_is : (lines stops links : List (List ℕ)) → leg_of lines stops links (bus_row size person)
      ≡ leg.Transit (number_in_table (codes "bus") lines) (number_in_table (codes "s0") stops)
      (number_in_table (stop_name (size - 2)) stops)
  unfolding kind_of mode_of leg_by
  bus_is lines stops links = ap (transit_of lines stops) (bus_items size some few person less)

  lines_are : line_in (bus_row size person) ≡ codes "bus" ∷ []
  unfolding line_in kind_of mode_of
  lines_are = ap (λ (items : List (List ℕ)). get_or items 0 [] ∷ []) (bus_items size some few person less)

  stops_are : stops_in (bus_row size person) ≡ codes "s0" ∷ stop_name (size - 2) ∷ []
  unfolding stops_in kind_of mode_of
  stops_are = ap (λ (items : List (List ℕ)). get_or items 1 [] ∷ get_or items 2 [] ∷ []) (bus_items size some few person less)

one_held : (x : List ℕ) (xs : List (List ℕ)) → is_held x (x ∷ xs) ≡ true
one_held x xs = or_left (bytes_eq x x) (is_held x xs) (same x)

-- the names of a leg by bus in some row are among those of all rows
record AreNamed (size : ℕ) (rows : List (List (List ℕ))) : Type 0 where
  line : is_held (codes "bus") (named_by line_in rows) ≡ true
  first : is_held (codes "s0") (named_by stops_in rows) ≡ true
  last : is_held (stop_name (size - 2)) (named_by stops_in rows) ≡ true

named_there : (size : ℕ) → 3 ≤ size → size ≤ 100 → (person : ℕ) → person < 2 ^ 32 → (rows : List Row) (place : ℕ) → place < length rows
    → get_or rows place [] ≡ bus_row size person → AreNamed size rows
named_there size some few person less rows place within is =
    let lines = ap line_in is ∙ lines_are size some few person less in
    let stops = ap stops_in is ∙ stops_are size some few person less in
    let end = stop_name (size - 2) in
    record {
      line = named_in line_in rows place (codes "bus") within (ap (is_held (codes "bus")) lines ∙ one_held (codes "bus") []);
      first = named_in stops_in rows place (codes "s0") within (ap (is_held (codes "s0")) stops ∙ one_held (codes "s0") (end ∷ []));
      last = named_in stops_in rows place end within
          (ap (is_held end) stops ∙ held_later end (codes "s0" ∷ []) (end ∷ []) (one_held end []));
    }

module _ (size : ℕ) (some : 3 ≤ size) (few : size ≤ 100) (links lines stops : List (List ℕ)) (places : List StopRow)
    (routes : List RouteRow) (served : IsServed size links lines stops places routes) (searched : Act → ℕ → Option (List ℕ))
    (found : (here : Act) (there : ℕ) → is_none (searched here there) ≡ false) (rows : List Row) where
  -- what the legs of these rows are held against
  abbrev pub checks : LegChecks
  checks = record {
    numbers = record { lines = numbers_in (named_by line_in rows) lines; stops = numbers_in (named_by stops_in rows) stops };
    stops = places;
    routes = routes;
    searched = searched;
  }

  -- nothing speaks against this leg between these activities
  abbrev pub Fits : Row → Row → Row → Type 0
  Fits before row after =
      leg_reason checks (act_in (tables_of links rows) before) (act_in (tables_of links rows) after).link
      (leg_of (tables_of links rows).lines (tables_of links rows).stops (tables_of links rows).links row)
      ≡ None

  walked : (before after : Row) (person : ℕ) → Fits before (walk_row person) after
  walked before after person =
      let tables : Tables = tables_of links rows in
      ap (leg_reason checks (act_in tables before) (act_in tables after).link) (walk_is tables.lines tables.stops tables.links person)
      ∙ walk_fits checks (act_in tables before) (act_in tables after).link (unwrap_or (seconds_in (walk_row person)) 0)

  driven : (before after : Row) (person : ℕ) → Fits before (leg_row person (codes "car") [] []) after
  driven before after person =
      let tables : Tables = tables_of links rows in
      ap (leg_reason checks (act_in tables before) (act_in tables after).link) (car_is tables.lines tables.stops tables.links person)
      ∙ car_fits checks (act_in tables before) (act_in tables after).link (found (act_in tables before) (act_in tables after).link)

  ridden : (before after : Row) (person : ℕ) → person < 2 ^ 32 → field before 4 ≡ link_name bus_home
      → field after 4 ≡ link_name (bus_work size) → AreNamed size rows → Fits before (bus_row size person) after
  unfolding tables_of act_of
  ridden before after person less home work named =
      let tables : Tables = tables_of links rows in
      let here : Act = act_in (tables_of links rows) before in
      let there : ℕ = (act_in (tables_of links rows) after).link in
      ap (leg_reason checks here there) (bus_is size some few person less (named_by line_in rows) (named_by stops_in rows) links)
      ∙ bus_fits checks here there (number_in_table (codes "bus") (named_by line_in rows))
      (number_in_table (codes "s0") (named_by stops_in rows)) (number_in_table (stop_name (size - 2)) (named_by stops_in rows))
      0 0 (size - 2)
      (town_number (named_by line_in rows) lines (codes "bus") named.line ∙ served.line)
      (town_number (named_by stops_in rows) stops (codes "s0") named.first ∙ served.first)
      (town_number (named_by stops_in rows) stops (stop_name (size - 2)) named.last ∙ served.last)
      (right_stops places routes here.link there 0 0 (size - 2)
      (served.begins ∙ ap (λ (name : List ℕ). number_in_table name links) (sym home))
      (served.ends ∙ ap (λ (name : List ℕ). number_in_table name links) (sym work)) served.joined)

  -- the way to work fits, and the way back
  there_by : (person : ℕ) → person < 2 ^ 32 → (c : Commuter) → IsByBus size c → (place : ℕ) → place < length rows
      → (k : Commute) → c.commute ≡ k → get_or rows place [] ≡ way_there size person k
      → Fits (home_row person c) (way_there size person k)
      (work_row person c)
  there_by person less c by_bus place within commute.Bus is row =
      ridden (home_row person c) (work_row person c) person less
      (ap link_name (by_bus is).0) (ap link_name (by_bus is).1) (named_there size some few person less rows place within row)
  there_by person less c by_bus place within commute.Walk is row =
      walked (home_row person c) (work_row person c) person
  there_by person less c by_bus place within commute.Car is row =
      driven (home_row person c) (work_row person c) person

  pub there_fits : (person : ℕ) → person < 2 ^ 32 → (c : Commuter) → IsByBus size c → (place : ℕ) → place < length rows
      → get_or rows place [] ≡ way_there size person c.commute
      → Fits (home_row person c) (way_there size person c.commute)
      (work_row person c)
  there_fits person less c by_bus place within row = there_by person less c by_bus place within c.commute refl row

  pub back_fits : (person : ℕ) (k : Commute) (before after : Row) → Fits before (way_back person k) after
  back_fits person commute.Bus before after = walked before after person
  back_fits person commute.Walk before after = walked before after person
  back_fits person commute.Car before after = driven before after person

-- ROW BY ROW
not_if : (b : Bool) (o : Option Reason) → b ≡ false → (if b then o else None) ≡ None
not_if true o h = absurd (cc h)
not_if false o h = refl

if_none : (b : Bool) (o : Option Reason) → o ≡ None → (if b then o else None) ≡ None
if_none true o h = h
if_none false o h = refl

module _ (W : LegChecks) (tables : Tables) (rows : List Row) (place : ℕ) where
  pub act_passes : (row : Row) → get_or rows place [] ≡ row → kind_of row ≡ element.Act → leg_reason_at W tables rows place ≡ None
  unfolding leg_reason_at
  act_passes row here act =
      not_if (is_leg (kind_of (get_or rows place [])))
      (leg_reason W (act_in tables (get_or rows (place - 1) [])) (act_in tables (get_or rows (place + 1) [])).link
      (leg_of tables.lines tables.stops tables.links (get_or rows place [])))
      (ap (λ (r : Row). is_leg (kind_of r)) here ∙ ap is_leg act)

  pub leg_passes : (before row after : Row) → get_or rows (place - 1) [] ≡ before → get_or rows place [] ≡ row
      → get_or rows (place + 1) [] ≡ after
      → leg_reason W (act_in tables before) (act_in tables after).link (leg_of tables.lines tables.stops tables.links row) ≡ None
      → leg_reason_at W tables rows place ≡ None
  unfolding leg_reason_at
  leg_passes before row after p q r fits =
      let last : Row = get_or rows (place + 1) [] in
      if_none (is_leg (kind_of (get_or rows place [])))
      (leg_reason W (act_in tables (get_or rows (place - 1) [])) (act_in tables (get_or rows (place + 1) [])).link
      (leg_of tables.lines tables.stops tables.links (get_or rows place [])))
      (ap (λ (b : Row). leg_reason W (act_in tables b) (act_in tables last).link
      (leg_of tables.lines tables.stops tables.links (get_or rows place []))) p
      ∙ ap (λ (o : Row). leg_reason W (act_in tables before) (act_in tables last).link (leg_of tables.lines tables.stops tables.links o)) q
      ∙ ap (λ (a : Row). leg_reason W (act_in tables before) (act_in tables a).link (leg_of tables.lines tables.stops tables.links row)) r
      ∙ fits)
