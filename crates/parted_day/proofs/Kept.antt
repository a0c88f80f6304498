-- The strays of one second more.
use Rattle.traffic.proofs.Common.{◌≡◌, ℕ, ◌+◌, ◌<◌, ◌≤◌, true, List, [], ◌++◌, ◌∙◌, ap, refl, sym, append-nil, add-one, Bool, subst, arith, length, get_or}
use Rattle.traffic.proofs.Common.{drop, below, filter, All-get_or, All-from_recursion, Setup}
use Rattle.traffic.proofs.Each.{each_map, each_filter, each_all}
use Rattle.std.{proofs.lemmas.List.get_or_default, specs.List.AllByRecursion as Each}
use Rattle.parts.specs.{Owners.Owner, Owners.near, Parts.out}
use Rattle.law_partitions.proofs.Whole.{near-both}
use Rattle.part_seconds.specs.{Contents.parcel_of, Parcels.nothing, Sending.parcel_at, declared.contents.Contents.Contents}
use Rattle.step_core.specs.{Nets.border_at, declared.part.Border.Border}
use Rattle.divided_day.specs.Borders.{border_from, borders_of}
use Rattle.parted_day.proofs.Pushed.{flat_pushed, flat_whole}
use Rattle.parted_day.specs.{Strays.strays_to, Strays.strays_over, Strays.strays_before, Strays.AreStrays, declared.straying.Stray.Stray}

pub one_more : (S : Setup) (own : Owner) (parts p t : ℕ) (borders : List Border) (old now : List Stray) → borders ≡ borders_of S own parts p
    → AreStrays S own parts p t old → now ≡ old ++ strays_over S own p t borders → AreStrays S own parts p (t + 1) now
unfolding strays_before
one_more S own parts p t borders old now are was made =
    made ∙ ap (λ (xs : List Stray). xs ++ strays_over S own p t borders) was
    ∙ ap (λ (bs : List Border). strays_before S own parts p t ++ strays_over S own p t bs) are
    ∙ ap (strays_before S own parts p) (sym (add-one t))

-- where nobody goes astray in this second
pub none_more : (S : Setup) (own : Owner) (parts p t : ℕ) (old : List Stray) → AreStrays S own parts p t old
    → strays_over S own p t (borders_of S own parts p) ≡ [] → AreStrays S own parts p (t + 1) old
none_more S own parts p t old was none =
    one_more S own parts p t (borders_of S own parts p) old old refl was
    (sym (append-nil old) ∙ ap (λ (xs : List Stray). old ++ xs) (sym none))

-- NEIGHBOURS
pub each_near : (S : Setup) (own : Owner) (parts p : ℕ) → Each (λ (b : Border). near S own p b.neighbour ≡ true) (borders_of S own parts p)
each_near S own parts p =
    let pass : ℕ → Bool = λ q. near S own q p in
    each_map (λ (q : ℕ). near S own q p ≡ true) (λ (b : Border). near S own p b.neighbour ≡ true) (border_from S own p)
    (λ q e. near-both S own p q ∙ e) (filter pass (below parts))
    (each_filter (λ (q : ℕ). Unit {0}) (λ (q : ℕ). near S own q p ≡ true) pass (λ q e u. e) (below parts)
    (each_all (λ (q : ℕ). Unit {0}) (λ q. tt) (below parts)))

-- the border at a place, as code reads it
abbrev pub here : List Border → ℕ → Border
here borders k = get_or borders k (record { neighbour = 0; lag = 0 })

pub is_near : (S : Setup) (own : Owner) (parts p k : ℕ) (borders : List Border) → borders ≡ borders_of S own parts p → k < length borders
    → near S own p (here borders k).neighbour ≡ true
is_near S own parts p k borders are lt =
    let P : Border → Type 0 = λ x. near S own p x.neighbour ≡ true in
    let all : Each P borders = subst (λ (bs : List Border). Each P bs) (sym are) (each_near S own parts p) in
    All-get_or P borders k (record { neighbour = 0; lag = 0 }) lt (All-from_recursion P borders all)

pub is_right : (S : Setup) (own : Owner) (p t k : ℕ) (borders : List Border) (parcels : List Contents) (x : Contents)
    → length parcels ≡ length borders → k < length parcels → x ≡ get_or parcels k x
    → ((j : ℕ) → j < length borders → parcel_of S t (parcel_at parcels j) ≡ out S own p (border_at borders j).neighbour t)
    → parcel_of S t x ≡ out S own p (here borders k).neighbour t
is_right S own p t k borders parcels x many lt is right =
    let there : k < length borders = omega arith in
    ap (parcel_of S t) (is ∙ get_or_default parcels k x nothing lt) ∙ right k there

-- so over lists of borders that are the same
pub same_right : (S : Setup) (own : Owner) (p t : ℕ) (borders rows : List Border) (parcels : List Contents) → borders ≡ rows
    → ((k : ℕ) → k < length rows → parcel_of S t (parcel_at parcels k) ≡ out S own p (border_at rows k).neighbour t)
    → (k : ℕ) → k < length borders
    → parcel_of S t (parcel_at parcels k) ≡ out S own p (border_at borders k).neighbour t
same_right S own p t borders rows parcels same right =
    subst (λ (bs : List Border). (k : ℕ) → k < length bs
    → parcel_of S t (parcel_at parcels k) ≡ out S own p (border_at bs k).neighbour t) (sym same) right

pub over_next : (S : Setup) (own : Owner) (p t k : ℕ) (borders : List Border) (old now whole : List Stray) → k < length borders
    → now ≡ old ++ strays_to S own p t (here borders k).neighbour → old ++ strays_over S own p t (drop k borders) ≡ whole
    → now ++ strays_over S own p t (drop (k + 1) borders) ≡ whole
over_next S own p t k borders old now whole lt made so_far =
    flat_pushed (λ (y : Border). strays_to S own p t y.neighbour) k borders (here borders k) old now whole lt
    (get_or_default borders k (record { neighbour = 0; lag = 0 }) (here borders k) lt) made so_far

pub over_whole : (S : Setup) (own : Owner) (p t k : ℕ) (borders : List Border) (out_is whole : List Stray) → length borders ≤ k
    → out_is ++ strays_over S own p t (drop k borders) ≡ whole → out_is ≡ whole
over_whole S own p t k borders out_is whole le so_far =
    flat_whole (λ (y : Border). strays_to S own p t y.neighbour) k borders out_is whole le so_far
