-- A leg is read.
use Rattle.records.proofs.Common.{◌≡◌, List, ap, ℕ, length, ◌∙◌, arith, [], ◌<◌, sym, None, Some, ◌++◌, ◌∷◌, refl, true, Option, ◌+◌, false, get_or, take}
use Rattle.records.proofs.Common.{length-append, take_more, append-nil, list_all, nat_lt, unwrap_or, is_none, option_to_list, with_name, is_held, Mode, field}
use Rattle.records.proofs.{Common.numbers_of, Common.Row, Sound.numbers_known}
use Rattle.std.specs.Cmp.Derive.{both_true}
use Rattle.events.specs.declared.event.Mode.TheVariants as mode
use Rattle.events.proofs.NameLists.{number_held}
use Rattle.rows.specs.declared.plan.Leg.{Leg}
use Rattle.plans.proofs.ActSteps.{among_leg, names_more, kinds_more, lines_more, stops_more, with_held, starts_more, legs_to_more}
use Rattle.plans.proofs.{Items.number_kept, Naming.held_there, Naming.numbered_held, Naming.IsSame, Naming.same_number}
use Rattle.plans.proofs.Passing.{same_name, plan_of_person, plan_of_number, Next, leg_goes_on, leg_followed, read_on}
use Rattle.plans.{proofs.RunsMore.runs_on, proofs.Soundness.all_push, specs.Kinds.kind_of, specs.Kinds.is_leg, specs.Kinds.is_transit, specs.Kinds.items_of}
use Rattle.plans.specs.{Kinds.item, Progress.Progress, Progress.lines_with, Progress.stops_with, Progress.step_leg, Progress.Named, Progress.IsReadTo}
use Rattle.plans.specs.Refusals.{same_person, same_plan, is_neither, lacks_link, is_broken}
use Rattle.plans.specs.Values.{tables_of, person_in, line_in, stops_in, named_by, leg_by, leg_of, row_behind, begins_at, is_leg_named}
use Rattle.plans.specs.declared.kinds.ElementKind.{ElementKind}
use Rattle.plans.specs.declared.kinds.ElementKind.TheVariants as element

kept_held : (names : List (List ℕ)) (name other : List ℕ) → is_held other names ≡ true → is_held other (with_name names name) ≡ true
kept_held names name other held =
    let there = numbered_held names other held in
    number_held (with_name names name) other there.number (number_kept names name other there.number there.is)

route_within : (items links : List (List ℕ)) (found : Option (List ℕ)) → numbers_of items links ≡ found → is_none found ≡ false → list_all (λ n. nat_lt n (length links)) (unwrap_or found []) ≡ true
route_within items links None is none = cc
route_within items links (Some numbers) is none = numbers_known items links numbers (sym is)

-- the leg that a row gives
abbrev pub leg_now : List (List ℕ) → Progress → Mode → Row → Leg
leg_now links p mode row =
    let by_line = is_transit (element.Leg (Some mode)) in
    leg_by (lines_with by_line p.lines (items_of row)) (stops_with by_line p.stops (items_of row)) links mode row

-- a leg at a place: it is that of its row, and its numbers have names
module _ (links : List (List ℕ)) (rows : List Row) (n : ℕ) (p : Progress) (less : n < length rows) (names : Named rows n p) where
  abbrev items : List (List ℕ)
  items = items_of (get_or rows n [])

  -- the numbers of a line and of two stops are the same in all names
  transit_numbers : kind_of (get_or rows n []) ≡ element.Leg (Some mode.Pt) → IsSame (item items 0) (lines_with true p.lines items) (named_by line_in rows)
      × IsSame (item items 1) (stops_with true p.stops items) (named_by stops_in rows)
      × IsSame (item items 2) (stops_with true p.stops items) (named_by stops_in rows)
  transit_numbers kind =
      let line = lines_more rows n p.lines (element.Leg (Some mode.Pt)) less names.lines_are kind in
      let stop = stops_more rows n p.stops (element.Leg (Some mode.Pt)) less names.stops_are kind in
      let first = with_name p.stops (item items 1) in (
        same_number line_in rows (n + 1) _ (item items 0) line (held_there p.lines (item items 0)),
        same_number stops_in rows (n + 1) _ (item items 1) stop (kept_held first (item items 2) (item items 1) (held_there p.stops (item items 1))),
        same_number stops_in rows (n + 1) _ (item items 2) stop (held_there first (item items 2)),
      )

  pub leg_put : (mode : Mode) → kind_of (get_or rows n []) ≡ element.Leg (Some mode)
      → leg_now links p mode (get_or rows n [])
      ≡ leg_of (tables_of links rows).lines (tables_of links rows).stops (tables_of links rows).links (get_or rows n [])
  unfolding leg_by tables_of
  leg_put mode.Pt kind = rw kind (let same = transit_numbers kind in cc)
  leg_put mode kind = rw kind refl

  leg_named : (ends : List (ℕ × ℕ)) (mode : Mode) → kind_of (get_or rows n []) ≡ element.Leg (Some mode)
      → lacks_link links (element.Leg (Some mode)) (get_or rows n []) ≡ false
      → is_broken links ends (element.Leg (Some mode)) (get_or rows n []) ≡ false
      → is_leg_named (tables_of links rows) ends (leg_now links p mode (get_or rows n [])) ≡ true
  unfolding leg_by tables_of lacks_link
  leg_named ends mode.Car kind found joined = both_true (route_within items links (numbers_of items links) refl found) (grind arith)
  leg_named ends mode.Pt kind found joined =
      let same = transit_numbers kind in both_true (both_true same.0.within same.1.within) same.2.within
  leg_named ends mode kind found joined = refl

-- a leg is read: all that is known of the rows so far stays known
pub leg_in_plan : (links : List (List ℕ)) (ends : List (ℕ × ℕ)) (rows : List Row) (n : ℕ) (p : Progress) (r : IsReadTo links ends rows n p) (mode : Mode)
    → Next links ends rows n p r
    → kind_of (get_or rows n []) ≡ element.Leg (Some mode) → IsReadTo links ends rows (n + 1) (step_leg links p mode (get_or rows n []))
unfolding step_leg row_behind
leg_in_plan links ends rows n p r mode x kind =
    let y = get_or rows n [] in
    let tables = tables_of links rows in
    let k : ElementKind = element.Leg (Some mode) in
    let g = r.groups in
    let plan = leg_goes_on links ends rows n p r x (ap is_leg kind) in
    let person = plan_of_person r.latest y plan in
    let begins : begins_at rows n ≡ false = rw (r.is_latest, plan) refl in
    let held : is_held (field y 0) p.persons ≡ true = rw (← same_name r.latest y person) r.behind.held in
    let named = leg_named links rows n p x.within r.names ends mode kind (rw kind at x.ok.linked) (rw kind at x.ok.joined) in
    let among = among_leg tables (g.begun ++ r.latest ∷ []) y mode kind in
    read_on links ends rows n _ x.none
    (record {
      persons_are = rw (← with_held p.persons (field y 0) held) (names_more person_in rows n p.persons _ x.within r.names.persons_are refl);
      kinds_are = kinds_more rows n p.kinds k x.within r.names.kinds_are kind;
      lines_are = lines_more rows n p.lines k x.within r.names.lines_are kind;
      stops_are = stops_more rows n p.stops k x.within r.names.stops_are kind;
      starts_are = sym (append-nil p.starts) ∙ starts_more rows n false p.starts r.names.starts_are begins;
      legs_count = length-append p.legs (leg_now links p mode y ∷ []) ∙ legs_to_more rows n false k (length p.legs) r.names.legs_count begins kind;
    })
    (record {
      held = held;
      numbered = sym (plan_of_number r.latest y plan) ∙ r.behind.numbered;
      last_is = rw kind refl;
      kinded = ap is_neither kind;
      goes_on = λ none. leg_followed links ends rows n p r x (ap is_leg kind);
    })
    (record {
      earlier = g.earlier;
      others = g.others;
      front = g.front ++ r.latest ∷ [];
      begun = g.begun ++ r.latest ∷ [];
      split = rw (take_more rows n [] x.within) (runs_on same_person (take n rows) g.earlier g.front r.latest y g.split person);
      split_own = runs_on same_plan (g.front ++ r.latest ∷ []) g.others g.begun r.latest y g.split_own plan;
      plans_are = g.plans_are;
      own_are = g.own_are;
      acts_are = append-nil (p.acts ++ option_to_list p.last) ∙ g.acts_are ∙ sym among.0;
      legs_are = rw (among.1, g.legs_are, leg_put links rows n p x.within r.names mode kind);
    })
    (record {
      in_plans = r.sound.in_plans;
      in_own = r.sound.in_own;
      in_acts = rw append-nil r.sound.in_acts;
      in_legs = all_push (is_leg_named tables ends) p.legs _ r.sound.in_legs named;
      each = r.sound.each;
      few = r.sound.few;
    })
