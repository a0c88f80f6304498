-- The table of places, with one entry more, or with another one.
use Rattle.std.proofs.Common.{◌≡◌, ℕ, zero, suc, ◌+◌, ◌<◌, ◌≤◌, false, List, [], ◌∷◌, length, get_or, refl, ap, sym, ◌∙◌, arith, inl, inr, subst, true}
use Rattle.std.proofs.Math.Path.{fun_ext}
use Rattle.std.proofs.lemmas.{Bool.cases_Bool, Bool.eqb-true, Bool.eqb-false, Bool.eq-eqb, Bool.ne_eqb, List.get_or_default}
use Rattle.std.proofs.Common.{Bool, ◌-◌, Result, Ok, Err, OnOk, OnErr}
use Rattle.std.specs.Prelude.{set, ◌==◌, if◌then◌else◌, Option, None, Some}
use Rattle.traffic.specs.{Nodes.one_more, declared.node_views.OutLink.OutLink}
use Rattle.node_move.specs.Entries.{SpaceRows, entry_at, entry_in, places_of, holes_of, fewer, holes_put, rows_of, no_entry, StandsAt}
use Rattle.node_move.specs.{Starts.entry_number, Spaces.places_in, Spaces.holes_in, declared.space.Entry.Entry}

-- ENTRIES
pub entry_past : (es : List Entry) (m k : ℕ) → length es ≤ k → entry_at es m k ≡ None
entry_past [] m k le = refl
entry_past (x ∷ es) m zero le = absurd (omega arith)
entry_past (x ∷ es) m (suc k) le = entry_past es m k (omega arith)

entry_is : (es : List Entry) (m k : ℕ) → k < length es
    → entry_at es m k ≡ (if (get_or es k no_entry).link == m then Some (get_or es k no_entry) else None)
entry_is [] m k lt = absurd (omega arith)
entry_is (x ∷ es) m zero lt = refl
entry_is (x ∷ es) m (suc k) lt = entry_is es m k (omega arith)

pub entry_own : (es : List Entry) (e : Entry) (m k : ℕ) → k < length es → entry_at (set es k e) m k ≡ (if e.link == m then Some e else None)
entry_own [] e m k lt = absurd (omega arith)
entry_own (x ∷ es) e m zero lt = refl
entry_own (x ∷ es) e m (suc k) lt = entry_own es e m k (omega arith)

-- nor is another entry of a link
pub entry_kept : (es : List Entry) (e : Entry) (m k j : ℕ) → (e.link == m) ≡ false → ((get_or es k no_entry).link == m) ≡ false
    → entry_at (set es k e) m j ≡ entry_at es m j
entry_kept [] e m k j h g = refl
entry_kept (x ∷ es) e m zero zero h g = rw (h, g) refl
entry_kept (x ∷ es) e m zero (suc j) h g = refl
entry_kept (x ∷ es) e m (suc k) zero h g = refl
entry_kept (x ∷ es) e m (suc k) (suc j) h g = entry_kept es e m k j h g

-- THE TABLE
-- a link has no entry where its number is past all entries, nor where that of another link stands there
pub none_there : (ks : List ℕ) (es : List Entry) (m : ℕ) → length es ≤ entry_number ks m → entry_in (rows_of ks es) m ≡ None
unfolding entry_in
none_there ks es m le = entry_past es m (entry_number ks m) le

pub other_there : (ks : List ℕ) (es : List Entry) (m k : ℕ) → k ≡ entry_number ks m → k < length es → ((get_or es k no_entry).link ≡ m → ⊥)
    → entry_in (rows_of ks es) m ≡ None
unfolding entry_in
other_there ks es m k is within ne =
    let e : ((get_or es k no_entry).link == m) ≡ false = ne_eqb (get_or es k no_entry).link m ne in
    ap (entry_at es m) (sym is) ∙ entry_is es m k within ∙ rw e refl

pub found : (ks : List ℕ) (es : List Entry) (m k : ℕ) → StandsAt ks es m k → entry_in (rows_of ks es) m ≡ Some (get_or es k no_entry)
unfolding entry_in
found ks es m k h =
    let e : ((get_or es k no_entry).link == m) ≡ true = eq-eqb (get_or es k no_entry).link m h.link in
    ap (entry_at es m) h.number ∙ entry_is es m k h.within ∙ rw e refl

-- another entry of link l
pub replaced : (ks : List ℕ) (es : List Entry) (l k : ℕ) (e : Entry) (m : ℕ) → e.link ≡ l → StandsAt ks es l k
    → entry_in (rows_of ks (set es k e)) m ≡ (if m == l then Some e else entry_in (rows_of ks es) m)
unfolding entry_in
replaced ks es l k e m named h =
    elim (cases_Bool (m == l)) [
      | inl q ↦
          let s : m ≡ l = eqb-true m l q in
          let own : (e.link == m) ≡ true = eq-eqb e.link m (named ∙ sym s) in
          rw q (ap (entry_at (set es k e) m) (ap (entry_number ks) s ∙ h.number) ∙ entry_own es e m k h.within ∙ rw own refl)
      | inr q ↦
          let a : (e.link == m) ≡ false = ne_eqb e.link m (λ (z : e.link ≡ m). eqb-false m l q (sym z ∙ named)) in
          let b : ((get_or es k no_entry).link == m) ≡ false
          = ne_eqb (get_or es k no_entry).link m (λ (z : (get_or es k no_entry).link ≡ m). eqb-false m l q (sym z ∙ h.link)) in
          rw q (entry_kept es e m k (entry_number ks m) a b)
    ]

-- AS CALLS FIND IT
stands : (ks starts : List ℕ) (es entries : List Entry) (m k : ℕ) → starts ≡ ks → entries ≡ es → StandsAt starts entries m k → StandsAt ks es m k
stands ks starts es entries m k a b h =
    subst (λ (ls : List ℕ). StandsAt ls es m k) a (subst (λ (xs : List Entry). StandsAt starts xs m k) b h)

pub found_there : (ks starts : List ℕ) (es entries : List Entry) (m k : ℕ) (e : Entry) → starts ≡ ks → entries ≡ es → StandsAt starts entries m k
    → e ≡ get_or es k e → entry_in (rows_of ks es) m ≡ Some e
found_there ks starts es entries m k e a b h read =
    let g = stands ks starts es entries m k a b h in
    let is : e ≡ get_or es k no_entry = read ∙ get_or_default es k e no_entry g.within in
    found ks es m k g ∙ ap (λ (x : Entry). Some x) (sym is)

pub named_there : (starts : List ℕ) (es entries : List Entry) (m k : ℕ) (e : Entry) → entries ≡ es → StandsAt starts entries m k
    → e ≡ get_or es k e → e.link ≡ m
named_there starts es entries m k e b h read =
    let g = stands starts starts es entries m k refl b h in
    ap (λ (x : Entry). x.link) (read ∙ get_or_default es k e no_entry g.within) ∙ g.link

pub none_read : (ks starts : List ℕ) (es entries : List Entry) (m : ℕ) → starts ≡ ks → entries ≡ es
    → entry_in (rows_of starts entries) m ≡ None → entry_in (rows_of ks es) m ≡ None
none_read ks starts es entries m a b h =
    subst (λ (ls : List ℕ). entry_in (rows_of ls es) m ≡ None) a (subst (λ (xs : List Entry). entry_in (rows_of starts xs) m ≡ None) b h)

pub replaced_there : (ks starts : List ℕ) (es entries : List Entry) (l k : ℕ) (e : Entry) (m : ℕ) → e.link ≡ l → starts ≡ ks → entries ≡ es
    → StandsAt starts entries l k → entry_in (rows_of ks (set es k e)) m ≡ (if m == l then Some e else entry_in (rows_of ks es) m)
replaced_there ks starts es entries l k e m named a b h = replaced ks es l k e m named (stands ks starts es entries l k a b h)

-- what follows where a call went well, and where it failed
pub on_ok : {A E : Type 0} {P Q : Type 0} (r : Result A E) → (P → Q) → OnOk r P → OnOk r Q
on_ok (Ok x) f h = f h
on_ok (Err e) f h = tt

pub on_err : {A E : Type 0} {P Q : Type 0} (r : Result A E) → (P → Q) → OnErr r P → OnErr r Q
on_err (Ok x) f h = tt
on_err (Err e) f h = f h

-- THEIR PLACES AND HOLES
pub places_are : (rows : SpaceRows) (m : ℕ) (o : Option Entry) → entry_in rows m ≡ o → places_in rows m ≡ places_of o
unfolding places_in
places_are rows m o h = ap places_of h

pub holes_are : (rows : SpaceRows) (m : ℕ) (o : Option Entry) → entry_in rows m ≡ o → holes_in rows m ≡ holes_of o
unfolding holes_in
holes_are rows m o h = ap holes_of h

pub same_places : (new old : SpaceRows) (m : ℕ) → entry_in new m ≡ entry_in old m → places_in new m ≡ places_in old m
unfolding places_in
same_places new old m h = ap places_of h

pub same_holes : (new old : SpaceRows) (m : ℕ) → entry_in new m ≡ entry_in old m → holes_in new m ≡ holes_in old m
unfolding holes_in
same_holes new old m h = ap holes_of h

if_placed : (b : Bool) (e : Entry) (x y : Option Entry) → x ≡ (if b then Some e else y) → places_of x ≡ (if b then Some e.places else places_of y)
if_placed true e x y h = ap places_of h
if_placed false e x y h = ap places_of h

if_holed : (b : Bool) (e : Entry) (x y : Option Entry) → x ≡ (if b then Some e else y) → holes_of x ≡ (if b then e.holes else holes_of y)
if_holed true e x y h = ap holes_of h
if_holed false e x y h = ap holes_of h

-- where link l has another entry now
pub placed : (new old : SpaceRows) (l : ℕ) (e : Entry) (m : ℕ) → entry_in new m ≡ (if m == l then Some e else entry_in old m)
    → places_in new m ≡ (if m == l then Some e.places else places_in old m)
unfolding places_in
placed new old l e m h = if_placed (m == l) e (entry_in new m) (entry_in old m) h

pub holed : (new old : SpaceRows) (l : ℕ) (e : Entry) (m : ℕ) → entry_in new m ≡ (if m == l then Some e else entry_in old m)
    → holes_in new m ≡ (if m == l then e.holes else holes_in old m)
unfolding holes_in
holed new old l e m h = if_holed (m == l) e (entry_in new m) (entry_in old m) h

-- what another entry of link l is to its places and holes, by those that it had
pub placed_by : (new old : SpaceRows) (l : ℕ) (d e : Entry) (f : Option OutLink → Option OutLink) (m : ℕ) → entry_in old l ≡ Some d
    → Some e.places ≡ f (Some d.places) → entry_in new m ≡ (if m == l then Some e else entry_in old m)
    → places_in new m ≡ (if m == l then f (places_in old m) else places_in old m)
placed_by new old l d e f m was is h =
    placed new old l e m h
    ∙ elim (cases_Bool (m == l)) [
      | inl q ↦ rw q (is ∙ ap f (sym (places_are old l (Some d) was)) ∙ ap (λ (k : ℕ). f (places_in old k)) (sym (eqb-true m l q)))
      | inr q ↦ rw q refl
    ]

pub places_stay : (new old : SpaceRows) (l : ℕ) (d e : Entry) (m : ℕ) → entry_in old l ≡ Some d → e.places ≡ d.places
    → entry_in new m ≡ (if m == l then Some e else entry_in old m) → places_in new m ≡ places_in old m
places_stay new old l d e m was is h =
    placed new old l e m h
    ∙ elim (cases_Bool (m == l)) [
      | inl q ↦
          rw q (ap (λ (p : OutLink). Some p) is ∙ sym (places_are old l (Some d) was) ∙ ap (places_in old) (sym (eqb-true m l q)))
      | inr q ↦ rw q refl
    ]

pub holes_stay : (new old : SpaceRows) (l : ℕ) (d e : Entry) (m : ℕ) → entry_in old l ≡ Some d → e.holes ≡ d.holes
    → entry_in new m ≡ (if m == l then Some e else entry_in old m) → holes_in new m ≡ holes_in old m
holes_stay new old l d e m was is h =
    holed new old l e m h
    ∙ elim (cases_Bool (m == l)) [
      | inl q ↦ rw q (is ∙ sym (holes_are old l (Some d) was) ∙ ap (holes_in old) (sym (eqb-true m l q)))
      | inr q ↦ rw q refl
    ]

pub holes_become : (new old : SpaceRows) (l k : ℕ) (e : Entry) (m : ℕ) → e.holes ≡ k
    → entry_in new m ≡ (if m == l then Some e else entry_in old m) → holes_in new m ≡ (if m == l then k else holes_in old m)
holes_become new old l k e m is h = holed new old l e m h ∙ ap (λ (n : ℕ). if m == l then n else holes_in old m) is

-- so many holes of link l, which has an entry
pub holes_are_put : (new old : SpaceRows) (l k : ℕ) (d e : Entry) (m : ℕ) → entry_in old l ≡ Some d → e.holes ≡ k
    → entry_in new m ≡ (if m == l then Some e else entry_in old m)
    → holes_in new m ≡ (if m == l then holes_put k (places_in old m) else holes_in old m)
holes_are_put new old l k d e m was is h =
    holed new old l e m h
    ∙ elim (cases_Bool (m == l)) [
      | inl q ↦
          rw q (is ∙ ap (holes_put k) (sym (places_are old l (Some d) was)) ∙ ap (λ (j : ℕ). holes_put k (places_in old j)) (sym (eqb-true m l q)))
      | inr q ↦ rw q refl
    ]

-- NO ENTRY
pub none_fewer : (rows : SpaceRows) (l m : ℕ) → entry_in rows l ≡ None → places_in rows m ≡ (if m == l then fewer 1 (places_in rows m) else places_in rows m)
none_fewer rows l m none =
    elim (cases_Bool (m == l)) [
      | inl q ↦
          let is = ap (places_in rows) (eqb-true m l q) ∙ places_are rows l None none in
          rw q (is ∙ ap (fewer 1) (sym is))
      | inr q ↦ rw q refl
    ]

pub none_holes : (rows : SpaceRows) (l m : ℕ) → entry_in rows l ≡ None → holes_in rows m ≡ (if m == l then holes_in rows l - 1 else holes_in rows m)
none_holes rows l m none =
    elim (cases_Bool (m == l)) [
      | inl q ↦
          let is = holes_are rows l None none in
          rw q (ap (holes_in rows) (eqb-true m l q) ∙ is ∙ ap (λ (k : ℕ). k - 1) (sym is))
      | inr q ↦ rw q refl
    ]

pub none_put : (rows : SpaceRows) (l k m : ℕ) → entry_in rows l ≡ None
    → holes_in rows m ≡ (if m == l then holes_put k (places_in rows m) else holes_in rows m)
none_put rows l k m none =
    elim (cases_Bool (m == l)) [
      | inl q ↦
          let there = eqb-true m l q in
          let is = ap (places_in rows) there ∙ places_are rows l None none in
          rw q (ap (holes_in rows) there ∙ holes_are rows l None none ∙ ap (holes_put k) (sym is))
      | inr q ↦ rw q refl
    ]

-- ONE PLACE MORE
one_there : (P : ℕ → Option OutLink) (k : ℕ) (e : OutLink) (m : ℕ) → P k ≡ Some e
    → (if m == k then Some (record e { taken = e.taken + 1 }) else P m) ≡ one_more k P m
unfolding one_more
one_there P k e m h =
    elim (cases_Bool (m == k)) [
      | inl q ↦ let f : m ≡ k = eqb-true m k q in rw (q, f, h) refl
      | inr q ↦ rw q refl
    ]

pub taken : (P Q : ℕ → Option OutLink) (k : ℕ) (e : OutLink) → P k ≡ Some e
    → ((m : ℕ) → Q m ≡ (if m == k then Some (record e { taken = e.taken + 1 }) else P m)) → Q ≡ one_more k P
taken P Q k e h f = fun_ext (λ m. f m ∙ one_there P k e m h)

nothing_at : (P : ℕ → Option OutLink) (k m : ℕ) → P k ≡ None → P m ≡ one_more k P m
unfolding one_more
nothing_at P k m h =
    elim (cases_Bool (m == k)) [
      | inl q ↦ let f : m ≡ k = eqb-true m k q in rw (q, f, h) refl
      | inr q ↦ rw q refl
    ]

pub nothing : (P : ℕ → Option OutLink) (k : ℕ) → P k ≡ None → P ≡ one_more k P
nothing P k h = fun_ext (λ m. nothing_at P k m h)
