-- What the report of a route proves.
use Rattle.std.proofs.Common.{◌≡◌, ℕ, ◌<◌, List, length, Option, None, Some, refl, sym, ap, subst}
use Rattle.std.specs.{Option.option_map, Prelude.◌↔◌, Prelude.MatchOption, Prelude.option_and_then}
use Rattle.events.{proofs.NameLists.name_at-number_of, specs.Names.number_of}
use Rattle.travel_times.{proofs.Arriving.arrivals_are_fifo, specs.Times.free_times, specs.Times.arrivals}
use Rattle.rows.specs.Joined.{ends_of}
use Rattle.walks.proofs.{Followed.chosen_is_least, Least.least_or_none}
use Rattle.walks.specs.{Rounds.label_at, Walks.AreWithin, Walks.NoWalk, Walks.IsLeast}
use Rattle.router.specs.Ways.{least_of, route_of}
use Rattle.route_report.specs.{Report.RoadMap, Report.search_on, Report.route_lines, Report.text_of, Report.route_text, Reported.NoWay, Reported.IsReport}

module _ (M : RoadMap) (from to : List ℕ) (second : ℕ) (inside : AreWithin (length M.node_names) (ends_of M.links)) where
  -- the label of a node is the least arrival there, and where there is none no walk leads there
  label_is : (start : ℕ) → start < length M.node_names → (node : ℕ)
      → MatchOption (label_at (least_of (search_on M start second)) node) (NoWalk (ends_of M.links) start node)
      (IsLeast (ends_of M.links) (arrivals (free_times M.links)) start second node)
  label_is start within node = least_or_none (length M.node_names) (ends_of M.links) (arrivals (free_times M.links))
      (arrivals_are_fifo (free_times M.links)) inside start second within node

  -- between two nodes there is none exactly where no walk joins them
  none_between : (start end : ℕ) → start < length M.node_names → text_of M (search_on M start second) end ≡ None →
      NoWalk (ends_of M.links) start end
  none_between start end within none = by_label (label_at (least_of (search_on M start second)) end) refl (label_is start within end)
    where
      by_label : (label : Option ℕ) → label_at (least_of (search_on M start second)) end ≡ label
          → MatchOption (label_at (least_of (search_on M start second)) end) (NoWalk (ends_of M.links) start end)
          (IsLeast (ends_of M.links) (arrivals (free_times M.links)) start second end)
          → NoWalk (ends_of M.links) start end
      by_label None is matched =
          let P : Option ℕ → Type 0 = λ o. MatchOption o (NoWalk (ends_of M.links) start end)
          (IsLeast (ends_of M.links) (arrivals (free_times M.links)) start second end) in
          subst P is matched
      by_label (Some at) is matched =
          let told = ap (λ (o : Option ℕ). option_map (λ at. route_lines M (route_of (search_on M start second) end) at
          (least_of (search_on M start second))) o) is in
          absurd (cc (none, told))

  -- and where no walk joins them, none is told
  pub walk_between : (start end : ℕ) → start < length M.node_names → NoWalk (ends_of M.links) start end →
      text_of M (search_on M start second) end ≡ None
  walk_between start end within no_walk = by_label (label_at (least_of (search_on M start second)) end) refl (label_is start within end)
    where
      by_label : (label : Option ℕ) → label_at (least_of (search_on M start second)) end ≡ label
          → MatchOption (label_at (least_of (search_on M start second)) end) (NoWalk (ends_of M.links) start end)
          (IsLeast (ends_of M.links) (arrivals (free_times M.links)) start second end)
          → text_of M (search_on M start second) end ≡ None
      by_label None is matched = ap (λ (o : Option ℕ). option_map
          (λ at. route_lines M (route_of (search_on M start second) end) at (least_of (search_on M start second))) o) is
      by_label (Some at) is matched =
          let P : Option ℕ → Type 0 = λ o. MatchOption o (NoWalk (ends_of M.links) start end)
          (IsLeast (ends_of M.links) (arrivals (free_times M.links)) start second end) in
          let least = subst P is matched in
          absurd (no_walk least.reached.0 least.reached.1)

  no_text : (a b : Option ℕ) → number_of from M.node_names ≡ a → number_of to M.node_names ≡ b
      → option_and_then (λ start. option_and_then (λ end. text_of M (search_on M start second) end) b) a ≡ None → NoWay M from to
  no_text None b is_a is_b none start end from_is to_is = absurd (cc (is_a, from_is))
  no_text (Some s) None is_a is_b none start end from_is to_is = absurd (cc (is_b, to_is))
  no_text (Some s) (Some e) is_a is_b none start end from_is to_is =
      let same_start : s ≡ start = cc (is_a, from_is) in
      let same_end : e ≡ end = cc (is_b, to_is) in
      let P : ℕ → Type 0 = λ n. NoWalk (ends_of M.links) n end in
      let Q : ℕ → Type 0 = λ n. NoWalk (ends_of M.links) s n in
      subst P same_start (subst Q same_end (none_between s e (name_at-number_of from M.node_names s is_a).0 none))

  no_way : (a b : Option ℕ) → number_of from M.node_names ≡ a → number_of to M.node_names ≡ b → NoWay M from to
      → option_and_then (λ start. option_and_then (λ end. text_of M (search_on M start second) end) b) a ≡ None
  no_way None b is_a is_b none = refl
  no_way (Some s) None is_a is_b none = refl
  no_way (Some s) (Some e) is_a is_b none = walk_between s e (name_at-number_of from M.node_names s is_a).0 (none s e is_a is_b)

  pub none_is : (route_text M from to second ≡ None) ↔ NoWay M from to
  unfolding route_text
  none_is = (
    no_text (number_of from M.node_names) (number_of to M.node_names) refl refl,
    no_way (number_of from M.node_names) (number_of to M.node_names) refl refl,
  )

  report_of : (s e at : ℕ) (text : List ℕ) → number_of from M.node_names ≡ Some s → number_of to M.node_names ≡ Some e →
      label_at (least_of (search_on M s second)) e ≡ Some at
      → route_lines M (route_of (search_on M s second) e) at (least_of (search_on M s second)) ≡ text → IsReport M from to second text
  report_of s e at text is_a is_b label told =
      let within = (name_at-number_of from M.node_names s is_a).0 in
      let P : Option ℕ → Type 0 = λ o. MatchOption o (NoWalk (ends_of M.links) s e)
      (IsLeast (ends_of M.links) (arrivals (free_times M.links)) s second e) in
      let walk = chosen_is_least (length M.node_names) (ends_of M.links) (arrivals (free_times M.links))
      (arrivals_are_fifo (free_times M.links)) inside s second within e at label in
      record {
        start = s;
        end = e;
        links = route_of (search_on M s second) e;
        arrival = at;
        labels = least_of (search_on M s second);
        from_start = is_a;
        to_end = is_b;
        least = record { chosen = refl; label = label; walk = walk.0; arrives = walk.1; least = subst P label (label_is s within e) };
        reached = label_is s within;
        told = sym told;
      }

  some_text : (a b : Option ℕ) (text : List ℕ) → number_of from M.node_names ≡ a → number_of to M.node_names ≡ b
      → option_and_then (λ start. option_and_then (λ end. text_of M (search_on M start second) end) b) a ≡ Some text →
      IsReport M from to second text
  some_text None b text is_a is_b told = absurd (cc told)
  some_text (Some s) None text is_a is_b told = absurd (cc told)
  some_text (Some s) (Some e) text is_a is_b told = by_label (label_at (least_of (search_on M s second)) e) refl told
    where
      by_label : (label : Option ℕ) → label_at (least_of (search_on M s second)) e ≡ label
          → option_map (λ at. route_lines M (route_of (search_on M s second) e) at (least_of (search_on M s second)))
          (label_at (least_of (search_on M s second)) e) ≡ Some text → IsReport M from to second text
      by_label None is told =
          let nothing = ap (λ (o : Option ℕ). option_map (λ at.
          route_lines M (route_of (search_on M s second) e) at (least_of (search_on M s second))) o) is in
          absurd (cc (told, nothing))
      by_label (Some at) is told =
          let given = ap (λ (o : Option ℕ). option_map (λ at.
          route_lines M (route_of (search_on M s second) e) at (least_of (search_on M s second))) o) is in
          report_of s e at text is_a is_b is (cc (told, given))

  pub report_is : (text : List ℕ) → route_text M from to second ≡ Some text → IsReport M from to second text
  unfolding route_text
  report_is text told = some_text (number_of from M.node_names) (number_of to M.node_names) text refl refl told
