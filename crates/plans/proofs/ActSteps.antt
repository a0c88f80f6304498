-- A row more is read, of an activity or of a leg: what is known of the rows so far stays known.
use Rattle.records.proofs.Common.{◌≡◌, List, ap, ℕ, length, ◌∙◌, map, [], ◌<◌, sym, None, Some, ◌++◌, ◌∷◌, refl, true, Bool, Option, ◌+◌, false, cond, get_or}
use Rattle.records.proofs.Common.{take, add-one, map-append, fold, is_some, option_to_list, append-nil, Mode, with_name, is_held, field, Row}
use Rattle.std.proofs.lemmas.List.Elements.{filter-append}
use Rattle.rows.specs.declared.plan.Act.{Act}
use Rattle.plans.{proofs.Naming.named_more, specs.Kinds.kind_of, specs.Kinds.is_act, specs.Kinds.is_leg, specs.Kinds.is_transit, specs.Kinds.items_of}
use Rattle.plans.specs.{Kinds.item, Progress.Progress, Progress.Grouped, Progress.closed_acts, Progress.closed_of, Progress.lines_with, Progress.stops_with}
use Rattle.plans.specs.Values.{Tables, kind_in, line_in, stops_in, named_by, act_of, leg_of, endless, acts_among, legs_among, last_endless, plan_among}
use Rattle.plans.specs.{Values.plans_among, Values.legs_to, Values.starts_to, Values.begins_at, declared.kinds.ElementKind.ElementKind}
use Rattle.plans.specs.declared.kinds.ElementKind.TheVariants as element

-- the activities and the legs among rows, one more row, which is an activity
pub among_act : (tables : Tables) (rows : List Row) (row : Row) → kind_of row ≡ element.Act
    → (acts_among tables (rows ++ row ∷ []) ≡ acts_among tables rows ++ act_of tables.kinds tables.links row ∷ [])
    × (legs_among tables (rows ++ row ∷ []) ≡ legs_among tables rows)
among_act tables rows row is = (simp (filter-append, map-append, is), simp (filter-append, is, append-nil))

-- or a leg
pub among_leg : (tables : Tables) (rows : List Row) (row : Row) (mode : Mode) → kind_of row ≡ element.Leg (Some mode)
    → (acts_among tables (rows ++ row ∷ []) ≡ acts_among tables rows)
    × (legs_among tables (rows ++ row ∷ []) ≡ legs_among tables rows ++ leg_of tables.lines tables.stops tables.links row ∷ [])
among_leg tables rows row mode is = (simp (filter-append, is, append-nil), simp (filter-append, map-append, is))

last_endless_push : (acts : List Act) (last : Act) → last_endless (acts ++ last ∷ []) ≡ acts ++ endless last ∷ []
last_endless_push [] last = refl
last_endless_push (act ∷ []) last = refl
last_endless_push (act ∷ next ∷ acts) last = ap (λ (l : List Act). act ∷ l) (last_endless_push (next ∷ acts) last)

closed_by : (acts : List Act) (last : Option Act) → is_some last ≡ true → closed_acts acts last ≡ last_endless (acts ++ option_to_list last)
closed_by acts None there = cc
closed_by acts (Some last) there = sym (last_endless_push acts last)

-- the open plan, closed, is the plan that its rows are
pub closed_is : (tables : Tables) (rows : List Row) (p : Progress) → is_some p.last ≡ true → p.acts ++ option_to_list p.last ≡ acts_among tables rows → p.legs ≡ legs_among tables rows
    → closed_of p ≡ plan_among tables rows
unfolding plan_among
closed_is tables rows p there acts legs = let closed = closed_by p.acts p.last there ∙ ap last_endless acts in cc

-- the last person's plans, once the open one is closed, and those of all persons
pub own_closed : (tables : Tables) (rows : List Row) (latest : Row) (p : Progress) → (g : Grouped tables rows latest p) → is_some p.last ≡ true
    → p.own ++ closed_of p ∷ [] ≡ map (plan_among tables) (g.others ++ (g.begun ++ latest ∷ []) ∷ [])
own_closed tables rows latest p g there = rw (map-append, g.own_are, closed_is tables (g.begun ++ latest ∷ []) p there g.acts_are g.legs_are)

pub plans_closed : (tables : Tables) (rows : List Row) (latest : Row) (p : Progress) → (g : Grouped tables rows latest p) → is_some p.last ≡ true
    → p.plans ++ (p.own ++ closed_of p ∷ []) ∷ [] ≡ map (plans_among tables) (g.earlier ++ (g.front ++ latest ∷ []) ∷ [])
unfolding plans_among
plans_closed tables rows latest p g there = rw (map-append, g.plans_are, own_closed tables rows latest p g there, g.split_own)

-- the names in a row of a kind
names_in : (row : Row) (k : ElementKind) → kind_of row ≡ k
    → (kind_in row ≡ cond (is_act k) (field row 3 ∷ []) []) × (line_in row ≡ cond (is_transit k) (item (items_of row) 0 ∷ []) [])
    × (stops_in row ≡ cond (is_transit k) (item (items_of row) 1 ∷ item (items_of row) 2 ∷ []) [])
unfolding kind_in line_in stops_in
names_in row k is = (rw is, rw is, rw is)

-- names, one more row
pub names_more : (names : Row → List (List ℕ)) (rows : List Row) (n : ℕ) (now more : List (List ℕ)) → n < length rows → now ≡ named_by names (take n rows)
    → names (get_or rows n []) ≡ more
    → fold with_name now more ≡ named_by names (take (n + 1) rows)
names_more names rows n now more less is one = rw (named_more names rows n less, one, is)

cond_fold : (b : Bool) (names more : List (List ℕ)) → cond b (fold with_name names more) names ≡ fold with_name names (cond b more [])
cond_fold true names more = refl
cond_fold false names more = refl

-- the kinds, the lines and the stops, a row of a kind read
pub kinds_more : (rows : List Row) (n : ℕ) (kinds : List (List ℕ)) (k : ElementKind) → n < length rows → kinds ≡ named_by kind_in (take n rows)
    → kind_of (get_or rows n []) ≡ k
    → cond (is_act k) (with_name kinds (field (get_or rows n []) 3)) kinds ≡ named_by kind_in (take (n + 1) rows)
kinds_more rows n kinds k less is kind =
    cond_fold (is_act k) kinds (field (get_or rows n []) 3 ∷ []) ∙ names_more kind_in rows n kinds _ less is (names_in (get_or rows n []) k kind).0

pub lines_more : (rows : List Row) (n : ℕ) (lines : List (List ℕ)) (k : ElementKind) → n < length rows → lines ≡ named_by line_in (take n rows)
    → kind_of (get_or rows n []) ≡ k
    → lines_with (is_transit k) lines (items_of (get_or rows n [])) ≡ named_by line_in (take (n + 1) rows)
lines_more rows n lines k less is kind =
    let items = items_of (get_or rows n []) in
    cond_fold (is_transit k) lines (item items 0 ∷ []) ∙ names_more line_in rows n lines _ less is (names_in (get_or rows n []) k kind).1

pub stops_more : (rows : List Row) (n : ℕ) (stops : List (List ℕ)) (k : ElementKind) → n < length rows → stops ≡ named_by stops_in (take n rows)
    → kind_of (get_or rows n []) ≡ k
    → stops_with (is_transit k) stops (items_of (get_or rows n [])) ≡ named_by stops_in (take (n + 1) rows)
stops_more rows n stops k less is kind =
    let items = items_of (get_or rows n []) in
    cond_fold (is_transit k) stops (item items 1 ∷ item items 2 ∷ []) ∙ names_more stops_in rows n stops _ less is (names_in (get_or rows n []) k kind).2

-- a name that is held is not put twice
pub with_held : (names : List (List ℕ)) (name : List ℕ) → is_held name names ≡ true → with_name names name ≡ names
with_held names name held = rw held

-- where plans begin, one more row
pub starts_more : (rows : List Row) (n : ℕ) (b : Bool) (starts : List ℕ) → starts ≡ starts_to rows n → begins_at rows n ≡ b → starts ++ cond b ((n + 1) ∷ []) [] ≡ starts_to rows (n + 1)
unfolding starts_to
starts_more rows n b starts is begins = rw (add-one, is, ← begins)

-- the legs of the open plan, one more row
pub legs_to_more : (rows : List Row) (n : ℕ) (b : Bool) (k : ElementKind) (legs : ℕ) → legs ≡ legs_to rows n → begins_at rows n ≡ b → kind_of (get_or rows n []) ≡ k → cond b 0 legs + cond (is_leg k) 1 0 ≡ legs_to rows (n + 1)
unfolding legs_to
legs_to_more rows n b k legs is begins kind = rw (add-one, is, ← begins, ← kind)
