-- The three ways in which an activity is read: in the opened plan, as the first of a further plan, as the first of a person.
use Rattle.records.proofs.Common.{◌≡◌, List, ap, ℕ, length, ◌∙◌, [], ◌<◌, sym, Some, ◌++◌, ◌∷◌, refl, true, Bool, ◌+◌, false, cond, get_or, drop, not, take}
use Rattle.records.proofs.Common.{length-append, take_more, append-nil, with_name, is_held, field, Row}
use Rattle.records.proofs.Unrefused.{found_below}
use Rattle.std.{proofs.Common.add-zero, specs.Cmp.Derive.both_true}
use Rattle.rows.specs.declared.plan.Act.{Act}
use Rattle.plans.specs.declared.kinds.ElementKind.TheVariants as element
use Rattle.plans.specs.{Kinds.kind_of, Kinds.is_act, Kinds.plan_number, Refusals.same_person, Refusals.same_plan, Refusals.is_neither, Refusals.lacks_link}
use Rattle.plans.specs.Values.{tables_of, person_in, kind_in, act_of, acts_among, named_by, first_row, begins_at, is_act_named}
use Rattle.plans.specs.Progress.{Progress, with_kind, new_person, new_plan, same_plan_act, Named, Behind, IsReadTo}
use Rattle.plans.proofs.{RunsMore.runs_one, RunsMore.runs_on, RunsMore.runs_new, Naming.held_there, Naming.same_number}
use Rattle.plans.proofs.Passing.{same_name, plan_of_person, plan_of_number, next_number, first_number, Next, vacant, closes, read_on}
use Rattle.plans.proofs.ActSteps.{among_act, own_closed, plans_closed, names_more, kinds_more, lines_more, stops_more, with_held, starts_more, legs_to_more}
use Rattle.plans.proofs.Soundness.{few_own, sound_in_plan, sound_new_plan, sound_new_person}

-- the activity that a row gives
abbrev pub act_by : List (List ℕ) → Progress → Row → Act
act_by links p row = act_of (with_name p.kinds (field row 3)) links row

-- an activity at a place: what it is, and what names and places are with it
module _ (links : List (List ℕ)) (rows : List Row) (n : ℕ) (p : Progress) (less : n < length rows) (names : Named rows n p)
    (kind : kind_of (get_or rows n []) ≡ element.Act) where
  abbrev y : Row
  y = get_or rows n []

  kinds_now : with_name p.kinds (field (get_or rows n []) 3) ≡ named_by kind_in (take (n + 1) rows)
  kinds_now = kinds_more rows n p.kinds element.Act less names.kinds_are kind

  pub act_same : act_by links p (get_or rows n []) ≡ act_of (tables_of links rows).kinds (tables_of links rows).links (get_or rows n [])
  unfolding act_of tables_of
  act_same = let same = same_number kind_in rows (n + 1) _ (field y 3) kinds_now (held_there p.kinds (field y 3)) in cc

  pub act_named : lacks_link links (kind_of (get_or rows n [])) (get_or rows n []) ≡ false
      → is_act_named (tables_of links rows) (act_by links p (get_or rows n [])) ≡ true
  unfolding act_of tables_of lacks_link
  act_named linked =
      let same = same_number kind_in rows (n + 1) _ (field y 3) kinds_now (held_there p.kinds (field y 3)) in
      both_true same.within (found_below links (field y 4) (rw kind at linked))

  pub act_names : (b : Bool) → begins_at rows n ≡ b → (q : Progress) → q.persons ≡ with_name p.persons (field (get_or rows n []) 0)
      → q.kinds ≡ with_name p.kinds (field (get_or rows n []) 3)
      → q.lines ≡ p.lines → q.stops ≡ p.stops → q.starts ≡ p.starts ++ cond b ((n + 1) ∷ []) [] → length q.legs ≡ cond b 0 (length p.legs)
      → Named rows (n + 1) q
  act_names b begins q persons kinds lines stops starts legs = record {
    persons_are = persons ∙ names_more person_in rows n p.persons _ less names.persons_are refl;
    kinds_are = kinds ∙ kinds_now;
    lines_are = lines ∙ lines_more rows n p.lines element.Act less names.lines_are kind;
    stops_are = stops ∙ stops_more rows n p.stops element.Act less names.stops_are kind;
    starts_are = starts ∙ starts_more rows n b p.starts names.starts_are begins;
    legs_count = legs ∙ sym (add-zero (cond b 0 (length p.legs))) ∙ legs_to_more rows n b element.Act (length p.legs) names.legs_count begins kind;
  }

  -- and what it leaves open
  pub act_behind : (q : Progress) → is_held (field (get_or rows n []) 0) q.persons ≡ true → plan_number (get_or rows n []) ≡ length q.own
      → q.last ≡ Some (act_by links p (get_or rows n []))
      → Behind (tables_of links rows) (get_or rows n []) (first_row (drop (n + 1) rows)) q
  act_behind q held numbered last = record {
    held = held;
    numbered = numbered;
    last_is = rw kind (last ∙ ap (λ (a : Act). Some a) act_same);
    kinded = ap is_neither kind;
    goes_on = λ none. let yes : is_act (kind_of (get_or rows n [])) ≡ true = ap is_act kind in cc;
  }

module _ (links : List (List ℕ)) (ends : List (ℕ × ℕ)) (rows : List Row) (n : ℕ) (p : Progress) (r : IsReadTo links ends rows n p)
    (x : Next links ends rows n p r) (kind : kind_of (get_or rows n []) ≡ element.Act) where
  -- the activity goes on with the opened plan
  pub act_in_plan : same_plan r.latest (get_or rows n []) ≡ true
      → IsReadTo links ends rows (n + 1) (same_plan_act (with_kind p (get_or rows n [])) (act_by links p (get_or rows n [])))
  act_in_plan plan =
      let y = get_or rows n [] in
      let tables = tables_of links rows in
      let person = plan_of_person r.latest y plan in
      let held : is_held (field y 0) p.persons ≡ true = rw (← same_name r.latest y person) r.behind.held in
      let opened = vacant links ends rows n p r x (ap is_act kind) plan in
      let g = r.groups in
      let among = among_act tables (g.begun ++ r.latest ∷ []) y kind in
      let before : p.acts ≡ acts_among tables (g.begun ++ r.latest ∷ []) = rw (opened, append-nil) at g.acts_are in
      read_on links ends rows n _ x.none
      (act_names links rows n p x.within r.names kind false (rw (r.is_latest, plan) refl) _
      (sym (with_held p.persons (field y 0) held)) refl refl refl (sym (append-nil p.starts)) refl)
      (act_behind links rows n p x.within r.names kind _ held (sym (plan_of_number r.latest y plan) ∙ r.behind.numbered) refl)
      (record {
        earlier = g.earlier;
        others = g.others;
        front = g.front ++ r.latest ∷ [];
        begun = g.begun ++ r.latest ∷ [];
        split = rw (take_more rows n [] x.within) (runs_on same_person (take n rows) g.earlier g.front r.latest y g.split person);
        split_own = runs_on same_plan (g.front ++ r.latest ∷ []) g.others g.begun r.latest y g.split_own plan;
        plans_are = g.plans_are;
        own_are = g.own_are;
        acts_are = rw (among.0, before, act_same links rows n p x.within r.names kind);
        legs_are = g.legs_are ∙ sym among.1;
      })
      (sound_in_plan tables ends p y _ r.sound opened (act_named links rows n p x.within r.names kind x.ok.linked))

  -- it begins a further plan of the person
  pub act_of_new_plan : same_person r.latest (get_or rows n []) ≡ true → same_plan r.latest (get_or rows n []) ≡ false
      → IsReadTo links ends rows (n + 1) (new_plan (with_kind p (get_or rows n [])) (n + 1) (act_by links p (get_or rows n [])))
  act_of_new_plan person other =
      let y = get_or rows n [] in
      let tables = tables_of links rows in
      let held : is_held (field y 0) p.persons ≡ true = rw (← same_name r.latest y person) r.behind.held in
      let opened = closes links ends rows n p r x other in
      let g = r.groups in
      let among = among_act tables [] y kind in
      read_on links ends rows n _ x.none
      (act_names links rows n p x.within r.names kind true (rw (r.is_latest, other) refl) _
      (sym (with_held p.persons (field y 0) held)) refl refl refl refl refl)
      (act_behind links rows n p x.within r.names kind _ held
      (rw (next_number r.latest y person other x.order.counted, r.behind.numbered, length-append p.own) refl) refl)
      (record {
        earlier = g.earlier;
        others = g.others ++ (g.begun ++ r.latest ∷ []) ∷ [];
        front = g.front ++ r.latest ∷ [];
        begun = [];
        split = rw (take_more rows n [] x.within) (runs_on same_person (take n rows) g.earlier g.front r.latest y g.split person);
        split_own = runs_new same_plan (g.front ++ r.latest ∷ []) g.others g.begun r.latest y g.split_own other;
        plans_are = g.plans_are;
        own_are = own_closed tables (take n rows) r.latest p g opened;
        acts_are = rw (among.0, act_same links rows n p x.within r.names kind);
        legs_are = sym among.1;
      })
      (sound_new_plan tables ends p y (n + 1) _ r.sound (act_named links rows n p x.within r.names kind x.ok.linked))

  -- it begins a person
  pub act_of_new_person : same_person r.latest (get_or rows n []) ≡ false → same_plan r.latest (get_or rows n []) ≡ false
      → IsReadTo links ends rows (n + 1) (new_person (with_kind p (get_or rows n [])) (get_or rows n []) (n + 1) (act_by links p (get_or rows n [])))
  act_of_new_person person other =
      let y = get_or rows n [] in
      let tables = tables_of links rows in
      let opened = closes links ends rows n p r x other in
      let g = r.groups in
      let among = among_act tables [] y kind in
      read_on links ends rows n _ x.none
      (act_names links rows n p x.within r.names kind true (rw (r.is_latest, other) refl) _ refl refl refl refl refl refl)
      (act_behind links rows n p x.within r.names kind _ (held_there p.persons (field y 0)) (first_number r.latest y person x.order.early) refl)
      (record {
        earlier = g.earlier ++ (g.front ++ r.latest ∷ []) ∷ [];
        others = [];
        front = [];
        begun = [];
        split = rw (take_more rows n [] x.within) (runs_new same_person (take n rows) g.earlier g.front r.latest y g.split person);
        split_own = runs_one same_plan y;
        plans_are = plans_closed tables (take n rows) r.latest p g opened;
        own_are = refl;
        acts_are = rw (among.0, act_same links rows n p x.within r.names kind);
        legs_are = sym among.1;
      })
      (sound_new_person tables ends p (Some r.latest) (kind_of y) y (length p.legs) (n + 1) _ r.sound
      (act_named links rows n p x.within r.names kind x.ok.linked) (few_own r.latest p r.behind.numbered) (ap not person) x.ok.together x.ok.few)
