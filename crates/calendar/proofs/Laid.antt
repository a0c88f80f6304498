-- Hooks when a number is hung up, and when those of a second are given back.
use Rattle.std.proofs.{Math.Seq.get_or-append_seam, lemmas.Map.Steps.length-le_from_distinct_below, Common.◌≡◌, Common.ℕ, Common.zero, Common.suc}
use Rattle.std.proofs.Common.{◌+◌, ◌<◌, ◌≤◌, true, false, inl, inr, List, [], ◌∷◌, ◌++◌, length, refl, ap, sym, ◌∙◌, subst, arith, append_assoc, append-nil}
use Rattle.std.proofs.lemmas.{Bool.cases_Bool, Bool.eqb-true, Bool.eqb-false, Bool.eq-eqb, List.get_or-set_same, List.get_or-set_other, List.length-set}
use Rattle.std.proofs.lemmas.{List.get_or_append_left, List.length-append, List.reverse-append}
use Rattle.std.specs.List.{AllByRecursion as Each, list_any, IsDistinct}
use Rattle.std.specs.Prelude.{eqb, map, set, reverse, ◌==◌, if◌then◌else◌, Option, None, Some}
use Rattle.calendar.specs.{Hooks.hook_at, Hooks.walk, Hooks.numbers_at, Hooks.last_from, Hooks.last_at, Hooks.freed_from, Hooks.given_back, Hooks.first_free}
use Rattle.calendar.specs.{Hooks.IsHooked, Hooks.IsNew, Hooks.IsChain, Hooks.AreLaid, Waking.is_second, declared.by_second.Hook.Hook}

apart : (i j : ℕ) → (i ≡ j → ⊥) → (i == j) ≡ false
apart i j ne = elim (cases_Bool (i == j)) [ inl e ↦ absurd (ne (eqb-true i j e)) | inr e ↦ e ]

-- HOW MANY HANG FROM A HOOK
abbrev AreBelow : ℕ → List ℕ → Type 0
AreBelow n js = Each (λ (j : ℕ). j < n) js

any_below : (n : ℕ) (js : List ℕ) (i : ℕ) → AreBelow n js → list_any (eqb i) js ≡ true → i < n
any_below n [] i b h = absurd (cc)
any_below n (j ∷ js) i b h =
    elim (cases_Bool (i == j)) [
      | inl e ↦ let s = eqb-true i j e in let lt = b.0 in omega arith
      | inr e ↦ any_below n js i b.1 (rw e at h)
    ]

chain_distinct : (owner : ℕ → Option ℕ) (who : Option ℕ) (hooks : List Hook) (head : Option ℕ) (js : List ℕ)
    → IsChain owner who hooks head js → IsDistinct eqb js
unfolding IsDistinct
chain_distinct owner who hooks head [] c = tt
chain_distinct owner who hooks head (j ∷ js) c = (c.3, chain_distinct owner who hooks (hook_at hooks j).next js c.4)

-- WHAT HANGS FROM A HOOK
abbrev number_in : List Hook → ℕ → ℕ
number_in hooks j = (hook_at hooks j).number

walk_chain : (owner : ℕ → Option ℕ) (who : Option ℕ) (hooks : List Hook) (n : ℕ) (head : Option ℕ) (js : List ℕ)
    → IsChain owner who hooks head js → length js ≤ n → walk hooks n head ≡ map (number_in hooks) js
unfolding walk
walk_chain owner who hooks zero head [] c le = refl
walk_chain owner who hooks zero head (j ∷ js) c le = absurd (omega arith)
walk_chain owner who hooks (suc n) head [] c le = rw c refl
walk_chain owner who hooks (suc n) head (j ∷ js) c le =
    rw c.0 (ap (λ (xs : List ℕ). number_in hooks j ∷ xs) (walk_chain owner who hooks n (hook_at hooks j).next js c.4 (omega arith)))

module _ (owner : ℕ → Option ℕ) (who : Option ℕ) (hooks : List Hook) where
  chain_below : (head : Option ℕ) (js : List ℕ) → IsChain owner who hooks head js → AreBelow (length hooks) js
  chain_below head [] c = tt
  chain_below head (j ∷ js) c = (c.1, chain_below (hook_at hooks j).next js c.4)

  few : (head : Option ℕ) (js : List ℕ) → IsChain owner who hooks head js → length js ≤ length hooks
  few head js c =
      length-le_from_distinct_below js (length hooks) (chain_distinct owner who hooks head js c)
      (λ i. any_below (length hooks) js i (chain_below head js c))

  new_owner : (k : ℕ) (head : Option ℕ) (js : List ℕ) → IsChain owner who hooks head js → (owner k ≡ who → ⊥) → IsNew k js
  new_owner k head [] c ne = tt
  new_owner k head (j ∷ js) c ne =
      (apart k j (λ e. ne (ap owner e ∙ c.2)), new_owner k (hook_at hooks j).next js c.4 ne)

  new_past : (k : ℕ) (head : Option ℕ) (js : List ℕ) → IsChain owner who hooks head js → length hooks ≤ k → IsNew k js
  new_past k head [] c le = tt
  new_past k head (j ∷ js) c le =
      (apart k j (λ e. let lt = c.1 in omega arith), new_past k (hook_at hooks j).next js c.4 le)

  numbers_are : (head : Option ℕ) (js : List ℕ) → IsChain owner who hooks head js → numbers_at hooks head ≡ reverse (map (number_in hooks) js)
  numbers_are head js c = ap reverse (walk_chain owner who hooks (length hooks) head js c (few head js c))

-- HOOKS OF WHICH ONE IS ANOTHER NOW
record Keeps (k : ℕ) (old new : List Hook) : Type 0 where
  more : length old ≤ length new
  same : (i : ℕ) → i < length old → (k == i) ≡ false → hook_at new i ≡ hook_at old i

set_keeps : (old : List Hook) (k : ℕ) (hook : Hook) → Keeps k old (set old k hook)
set_keeps old k hook =
    record {
      more = let e = length-set old k hook in omega arith;
      same = λ i lt ne. get_or-set_other old k i hook _ (λ e. eqb-false k i ne (sym e));
    }

more_keeps : (old : List Hook) (hook : Hook) → Keeps (length old) old (old ++ hook ∷ [])
more_keeps old hook =
    record {
      more = let e = length-append old (hook ∷ []) in omega arith;
      same = λ i lt ne. get_or_append_left old (hook ∷ []) _ i lt;
    }

kept : (k : ℕ) (old new : List Hook) (owner later : ℕ → Option ℕ) (who whom head : Option ℕ) (js : List ℕ) → Keeps k old new
    → ((i : ℕ) → owner i ≡ who → (k == i) ≡ false → later i ≡ whom) → IsNew k js → IsChain owner who old head js
    → IsChain later whom new head js
kept k old new owner later who whom head [] keeps own w c = c
kept k old new owner later who whom head (j ∷ js) keeps own w c =
    let more = keeps.more in
    let lt = c.1 in (
      c.0,
      omega arith,
      own j c.2 w.0,
      c.3,
      subst (λ (hook : Hook). IsChain later whom new hook.next js) (sym (keeps.same j c.1 w.0))
          (kept k old new owner later who whom (hook_at old j).next js keeps own w.1 c.4),
    )

numbers_kept : (k : ℕ) (old new : List Hook) (js : List ℕ) → Keeps k old new → IsNew k js → AreBelow (length old) js
    → map (number_in new) js ≡ map (number_in old) js
numbers_kept k old new [] keeps w b = refl
numbers_kept k old new (j ∷ js) keeps w b =
    ap (λ (hook : Hook). hook.number ∷ map (number_in new) js) (keeps.same j b.0 w.0)
    ∙ ap (λ (xs : List ℕ). number_in old j ∷ xs) (numbers_kept k old new js keeps w.1 b.1)

-- what hangs from a hook hangs there still, and the same numbers
numbers_still : (k : ℕ) (old new : List Hook) (owner later : ℕ → Option ℕ) (who whom head : Option ℕ) (js : List ℕ) → Keeps k old new
    → ((i : ℕ) → owner i ≡ who → (k == i) ≡ false → later i ≡ whom) → IsNew k js → IsChain owner who old head js
    → numbers_at new head ≡ numbers_at old head
numbers_still k old new owner later who whom head js keeps own w c =
    numbers_are later whom new head js (kept k old new owner later who whom head js keeps own w c)
    ∙ ap reverse (numbers_kept k old new js keeps w (chain_below owner who old head js c))
    ∙ sym (numbers_are owner who old head js c)

pub laid_same : (heads now : ℕ → Option ℕ) (hooks : List Hook) (free : Option ℕ) → AreLaid heads hooks free → ((v : ℕ) → now v ≡ heads v)
    → AreLaid now hooks free
laid_same heads now hooks free laid same =
    record {
      owner = laid.owner;
      row = laid.row;
      rest = laid.rest;
      rows = λ v. subst (λ (head : Option ℕ). IsChain laid.owner (Some v) hooks head (laid.row v)) (sym (same v)) (laid.rows v);
      others = laid.others;
    }

-- ONE NUMBER MORE
-- one hook is laid on those of second u, and in no other second anything is new
pub record IsHung (heads now : ℕ → Option ℕ) (old new : List Hook) (free : Option ℕ) (u number : ℕ) : Type 0 where
  pub laid : AreLaid now new free
  pub numbers : (v : ℕ) → numbers_at new (now v) ≡ (if v == u then numbers_at old (heads v) ++ number ∷ [] else numbers_at old (heads v))

module _ (heads now : ℕ → Option ℕ) (old new : List Hook) (hook : Hook) (j u : ℕ) (owner : ℕ → Option ℕ) (row : ℕ → List ℕ)
    (rows : (v : ℕ) → IsChain owner (Some v) old (heads v) (row v)) (keeps : Keeps j old new) (there : j < length new)
    (is : hook_at new j ≡ hook) (next : heads u ≡ hook.next) (fresh : (v : ℕ) → IsNew j (row v))
    (head : (v : ℕ) → now v ≡ (if v == u then Some j else heads v)) where
  abbrev later : ℕ → Option ℕ
  later i = if j == i then Some u else owner i

  own : (who : Option ℕ) (i : ℕ) → owner i ≡ who → (j == i) ≡ false → later i ≡ who
  own who i e ne = rw ne e

  behind_it : (v : ℕ) → v ≡ u → (hook_at new j).next ≡ heads v
  behind_it v e = ap (λ (h : Hook). h.next) is ∙ sym next ∙ ap heads (sym e)

  row_kept : (v : ℕ) → IsChain later (Some v) new (heads v) (row v)
  row_kept v = kept j old new owner later (Some v) (Some v) (heads v) (row v) keeps (own (Some v)) (fresh v) (rows v)

  more_row : (v : ℕ) → (v == u) ≡ true → IsChain later (Some v) new (now v) (j ∷ row v)
  more_row v e =
      let s : v ≡ u = eqb-true v u e in
      let at : (j == j) ≡ true = eq-eqb j j refl in
      let mine : later j ≡ Some v = rw at (ap Some (sym s)) in (
        head v ∙ rw e refl,
        there,
        mine,
        fresh v,
        subst (λ (x : Option ℕ). IsChain later (Some v) new x (row v)) (sym (behind_it v s)) (row_kept v),
      )

  other_row : (v : ℕ) → (v == u) ≡ false → IsChain later (Some v) new (now v) (row v)
  other_row v e =
      let f : now v ≡ heads v = head v ∙ rw e refl in
      subst (λ (x : Option ℕ). IsChain later (Some v) new x (row v)) (sym f) (row_kept v)

  hung_row : (v : ℕ) → IsChain later (Some v) new (now v) (if v == u then j ∷ row v else row v)
  hung_row v = elim (cases_Bool (v == u)) [ inl e ↦ rw e (more_row v e) | inr e ↦ rw e (other_row v e) ]

  number_there : (v : ℕ) → map (number_in new) (row v) ≡ map (number_in old) (row v)
  number_there v = numbers_kept j old new (row v) keeps (fresh v) (chain_below owner (Some v) old (heads v) (row v) (rows v))

  more_numbers : (v : ℕ) → (v == u) ≡ true → numbers_at new (now v) ≡ numbers_at old (heads v) ++ hook.number ∷ []
  more_numbers v e =
      numbers_are later (Some v) new (now v) (j ∷ row v) (more_row v e)
      ∙ ap (λ (h : Hook). reverse (h.number ∷ map (number_in new) (row v))) is
      ∙ reverse-append (hook.number ∷ []) (map (number_in new) (row v))
      ∙ ap (λ (xs : List ℕ). reverse xs ++ hook.number ∷ []) (number_there v)
      ∙ ap (λ (xs : List ℕ). xs ++ hook.number ∷ []) (sym (numbers_are owner (Some v) old (heads v) (row v) (rows v)))

  other_numbers : (v : ℕ) → (v == u) ≡ false → numbers_at new (now v) ≡ numbers_at old (heads v)
  other_numbers v e =
      let f : now v ≡ heads v = head v ∙ rw e refl in
      ap (numbers_at new) f
      ∙ numbers_still j old new owner later (Some v) (Some v) (heads v) (row v) keeps (own (Some v)) (fresh v) (rows v)

  hung_numbers : (v : ℕ) → numbers_at new (now v) ≡ (if v == u then numbers_at old (heads v) ++ hook.number ∷ [] else numbers_at old (heads v))
  hung_numbers v = elim (cases_Bool (v == u)) [ inl e ↦ rw e (more_numbers v e) | inr e ↦ rw e (other_numbers v e) ]

  hung_with : (free : Option ℕ) (js : List ℕ) → IsNew j js → IsChain owner None old free js → IsHung heads now old new free u hook.number
  hung_with free js w c =
      record {
        laid = record {
          owner = later;
          row = λ v. if v == u then j ∷ row v else row v;
          rest = js;
          rows = hung_row;
          others = kept j old new owner later None None free js keeps (own None) w c;
        };
        numbers = hung_numbers;
      }

none_owned : (x : Option ℕ) (v : ℕ) → x ≡ None → x ≡ Some v → ⊥
none_owned x v e f = let g : None ≡ Some v = sym e ∙ f in cc

hung_free : (heads now : ℕ → Option ℕ) (old new : List Hook) (hook : Hook) (i j u : ℕ) (free : Option ℕ) (laid : AreLaid heads old (Some i))
    (js : List ℕ) → IsChain laid.owner None old (Some i) js → j ≡ i → free ≡ (hook_at old i).next → new ≡ set old i hook → heads u ≡ hook.next
    → ((v : ℕ) → now v ≡ (if v == u then Some j else heads v)) → IsHung heads now old new free u hook.number
hung_free heads now old new hook i j u free laid [] c e f g next head = absurd (let h : Some i ≡ None = c in cc)
hung_free heads now old new hook i j u free laid (k ∷ js) c e f g next head =
    let same : j ≡ k = let s : Some i ≡ Some k = c.0 in cc in
    let keeps : Keeps j old new = rw (g, e) (set_keeps old i hook) in
    let lt : j < length old = let l = c.1 in omega arith in
    let is : hook_at new j ≡ hook = rw (g, e) (get_or-set_same old i hook _ (omega arith)) in
    let there : j < length new = let m = keeps.more in omega arith in
    let bare : laid.owner j ≡ None = ap laid.owner same ∙ c.2 in
    let fresh : (v : ℕ) → IsNew j (laid.row v)
    = λ v. new_owner laid.owner (Some v) old j (heads v) (laid.row v) (laid.rows v) (none_owned (laid.owner j) v bare) in
    let apart_from : IsNew j js = subst (λ (n : ℕ). IsNew n js) (sym same) c.3 in
    let from : (hook_at old k).next ≡ free = ap (λ (n : ℕ). (hook_at old n).next) (sym same ∙ e) ∙ sym f in
    hung_with heads now old new hook j u laid.owner laid.row laid.rows keeps there is next fresh head free js apart_from
    (subst (λ (x : Option ℕ). IsChain laid.owner None old x js) from c.4)

hung_new : (heads now : ℕ → Option ℕ) (old new : List Hook) (hook : Hook) (j u : ℕ) (free : Option ℕ) → AreLaid heads old None
    → j ≡ length old → free ≡ None → new ≡ old ++ hook ∷ [] → heads u ≡ hook.next
    → ((v : ℕ) → now v ≡ (if v == u then Some j else heads v)) → IsHung heads now old new free u hook.number
hung_new heads now old new hook j u free laid e f g next head =
    let keeps : Keeps j old new = rw (g, e) (more_keeps old hook) in
    let is : hook_at new j ≡ hook = rw (g, e) (get_or-append_seam old hook [] _) in
    let there : j < length new = let l = length-append old (hook ∷ []) in let m = ap (λ (hs : List Hook). length hs) g in omega arith in
    let fresh : (v : ℕ) → IsNew j (laid.row v)
    = λ v. new_past laid.owner (Some v) old j (heads v) (laid.row v) (laid.rows v) (omega arith) in
    hung_with heads now old new hook j u laid.owner laid.row laid.rows keeps there is next fresh head free [] tt f

pub hung_up : (heads now : ℕ → Option ℕ) (old new : List Hook) (hook : Hook) (j u : ℕ) (free left : Option ℕ) → AreLaid heads old free
    → IsHooked hook free old j left new → heads u ≡ hook.next → ((v : ℕ) → now v ≡ (if v == u then Some j else heads v))
    → IsHung heads now old new left u hook.number
hung_up heads now old new hook j u None left laid h next head = hung_new heads now old new hook j u left laid h.0 h.1 h.2 next head
hung_up heads now old new hook j u (Some i) left laid h next head =
    hung_free heads now old new hook i j u left laid laid.rest laid.others h.0 h.1 h.2 next head

-- THE HOOKS OF A SECOND ARE GIVEN BACK
abbrev last_in : ℕ → List ℕ → ℕ
last_in j [] = j
last_in j (i ∷ js) = last_in i js

last_is : (owner : ℕ → Option ℕ) (who : Option ℕ) (hooks : List Hook) (n j : ℕ) (next : Option ℕ) (js : List ℕ)
    → IsChain owner who hooks next js → length js ≤ n → last_from hooks n j next ≡ last_in j js
unfolding last_from
last_is owner who hooks zero j next [] c le = refl
last_is owner who hooks zero j next (i ∷ js) c le = absurd (omega arith)
last_is owner who hooks (suc n) j next [] c le = rw c refl
last_is owner who hooks (suc n) j next (i ∷ js) c le = rw c.0 (last_is owner who hooks n i (hook_at hooks i).next js c.4 (omega arith))

last_new : (j i : ℕ) (js : List ℕ) → IsNew j (i ∷ js) → (j == last_in i js) ≡ false
last_new j i [] w = w.0
last_new j i (k ∷ js) w = last_new j k js w.1

new_append : (j : ℕ) (js ks : List ℕ) → IsNew j js → IsNew j ks → IsNew j (js ++ ks)
new_append j [] ks w z = z
new_append j (i ∷ js) ks w z = (w.0, new_append j js ks w.1 z)

last_stands : (owner : ℕ → Option ℕ) (who : Option ℕ) (hooks : List Hook) (j : ℕ) (head : Option ℕ) (js : List ℕ)
    → IsChain owner who hooks head (j ∷ js) → (last_in j js < length hooks) × (owner (last_in j js) ≡ who)
last_stands owner who hooks j head [] c = (c.1, c.2)
last_stands owner who hooks j head (i ∷ js) c = last_stands owner who hooks i (hook_at hooks j).next js c.4

spliced : (k : ℕ) (old new : List Hook) (owner later : ℕ → Option ℕ) (u : ℕ) (free : Option ℕ) (rest : List ℕ) → Keeps k old new
    → (hook_at new k).next ≡ free → ((i : ℕ) → owner i ≡ Some u → later i ≡ None) → IsChain owner None old free rest
    → IsChain later None new free rest → (head : Option ℕ) (j : ℕ) (js : List ℕ) → k ≡ last_in j js → IsChain owner (Some u) old head (j ∷ js)
    → IsChain later None new head (j ∷ js ++ rest)
spliced k old new owner later u free rest keeps is own before others head j [] e c =
    let more = keeps.more in
    let lt = c.1 in (
      c.0,
      omega arith,
      own j c.2,
      new_owner owner None old j free rest before (λ n. none_owned (owner j) u n c.2),
      subst (λ (x : Option ℕ). IsChain later None new x rest) (sym is ∙ ap (λ (n : ℕ). (hook_at new n).next) e) others,
    )
spliced k old new owner later u free rest keeps is own before others head j (i ∷ js) e c =
    let more = keeps.more in
    let lt = c.1 in
    let ne : (k == j) ≡ false = apart k j (λ s. eqb-false j (last_in i js) (last_new j i js c.3) (sym s ∙ e)) in (
      c.0,
      omega arith,
      own j c.2,
      new_append j (i ∷ js) rest c.3 (new_owner owner None old j free rest before (λ n. none_owned (owner j) u n c.2)),
      subst (λ (hook : Hook). IsChain later None new hook.next (i ∷ js ++ rest)) (sym (keeps.same j c.1 ne))
          (spliced k old new owner later u free rest keeps is own before others (hook_at old j).next i js e c.4),
    )

-- the hooks of second u are free, and in no other second anything is new
pub record IsTaken (heads now : ℕ → Option ℕ) (old new : List Hook) (free : Option ℕ) (u : ℕ) : Type 0 where
  pub laid : AreLaid now new free
  pub numbers : (v : ℕ) → numbers_at new (now v) ≡ (if v == u then [] else numbers_at old (heads v))

abbrev freed : ℕ → (ℕ → Option ℕ) → ℕ → Option ℕ
freed u owner i = if is_second u (owner i) then None else owner i

freed_none : (u : ℕ) (x : Option ℕ) → x ≡ None → (if is_second u x then None else x) ≡ None
freed_none u x e = rw e refl

freed_own : (u : ℕ) (x : Option ℕ) → x ≡ Some u → (if is_second u x then None else x) ≡ None
freed_own u x e = let s : (u == u) ≡ true = eq-eqb u u refl in rw (e, s) refl

freed_other : (u v : ℕ) (x : Option ℕ) → (v == u) ≡ false → x ≡ Some v → (if is_second u x then None else x) ≡ Some v
freed_other u v x s e = rw (e, s) refl

other_owned : (u v : ℕ) (x : Option ℕ) → (v == u) ≡ false → x ≡ Some u → x ≡ Some v → ⊥
other_owned u v x s e f =
    let g : Some u ≡ Some v = sym e ∙ f in
    let h : v ≡ u = cc in
    let t : true ≡ false = sym (eq-eqb v u h) ∙ s in
    cc

module _ (heads now : ℕ → Option ℕ) (old new : List Hook) (free : Option ℕ) (j k u : ℕ) (laid : AreLaid heads old free) (keeps : Keeps k old new)
    (mine : laid.owner k ≡ Some u) (head : (v : ℕ) → now v ≡ (if v == u then None else heads v)) where
  other_taken : (v : ℕ) → (v == u) ≡ false → IsNew k (laid.row v)
  other_taken v s = new_owner laid.owner (Some v) old k (heads v) (laid.row v) (laid.rows v) (other_owned u v (laid.owner k) s mine)

  taken_row : (v : ℕ) → IsChain (freed u laid.owner) (Some v) new (now v) (if v == u then [] else laid.row v)
  taken_row v =
      elim (cases_Bool (v == u)) [
        | inl e ↦ rw e (head v ∙ rw e refl)
        | inr e ↦
            let f : now v ≡ heads v = head v ∙ rw e refl in
            rw (e, f) (kept k old new laid.owner (freed u laid.owner) (Some v) (Some v) (heads v) (laid.row v) keeps
            (λ i o ne. freed_other u v (laid.owner i) e o) (other_taken v e) (laid.rows v))
      ]

  taken_numbers : (v : ℕ) → numbers_at new (now v) ≡ (if v == u then [] else numbers_at old (heads v))
  taken_numbers v =
      elim (cases_Bool (v == u)) [
        | inl e ↦ rw e (let f : now v ≡ None = head v ∙ rw e refl in numbers_are (freed u laid.owner) (Some v) new (now v) [] f)
        | inr e ↦
            let f : now v ≡ heads v = head v ∙ rw e refl in
            rw (e, f) (numbers_still k old new laid.owner (freed u laid.owner) (Some v) (Some v) (heads v) (laid.row v) keeps
            (λ i o ne. freed_other u v (laid.owner i) e o) (other_taken v e) (laid.rows v))
      ]

taken_by : (heads now : ℕ → Option ℕ) (old new : List Hook) (free : Option ℕ) (j u : ℕ) (laid : AreLaid heads old free) (js : List ℕ)
    → laid.row u ≡ js → heads u ≡ Some j → new ≡ freed_from old free (last_at old (Some j))
    → ((v : ℕ) → now v ≡ (if v == u then None else heads v)) → IsTaken heads now old new (Some j) u
taken_by heads now old new free j u laid [] r e g head =
    absurd (let c : heads u ≡ None = subst (λ (ks : List ℕ). IsChain laid.owner (Some u) old (heads u) ks) r (laid.rows u) in
    let h : None ≡ Some j = sym c ∙ e in cc)
taken_by heads now old new free j u laid (i ∷ js) r e g head =
    let c : IsChain laid.owner (Some u) old (heads u) (i ∷ js)
    = subst (λ (ks : List ℕ). IsChain laid.owner (Some u) old (heads u) ks) r (laid.rows u) in
    let k = last_at old (Some j) in
    let enough : length (i ∷ js) ≤ length old = few laid.owner (Some u) old (heads u) (i ∷ js) c in
    let last : k ≡ last_in i js
    = ap (last_at old) (sym e) ∙ last_is laid.owner (Some u) old (length old) 0 (heads u) (i ∷ js) c enough in
    let stands = last_stands laid.owner (Some u) old i (heads u) js c in
    let mine : laid.owner k ≡ Some u = ap laid.owner last ∙ stands.1 in
    let lt : k < length old = let l = stands.0 in omega arith in
    let keeps : Keeps k old new = rw g (set_keeps old k (record { number = 0; next = free })) in
    let is : (hook_at new k).next ≡ free
    = rw g (ap (λ (hook : Hook). hook.next) (get_or-set_same old k (record { number = 0; next = free }) _ lt)) in
    let others : IsChain (freed u laid.owner) None new free laid.rest
    = kept k old new laid.owner (freed u laid.owner) None None free laid.rest keeps (λ n o ne. freed_none u (laid.owner n) o)
    (new_owner laid.owner None old k free laid.rest laid.others (λ n. none_owned (laid.owner k) u n mine)) laid.others in
    record {
      laid = record {
        owner = freed u laid.owner;
        row = λ v. if v == u then [] else laid.row v;
        rest = i ∷ js ++ laid.rest;
        rows = taken_row heads now old new free j k u laid keeps mine head;
        others = subst (λ (x : Option ℕ). IsChain (freed u laid.owner) None new x (i ∷ js ++ laid.rest)) e
            (spliced k old new laid.owner (freed u laid.owner) u free laid.rest keeps is (λ n o. freed_own u (laid.owner n) o) laid.others others
            (heads u) i js last c);
      };
      numbers = taken_numbers heads now old new free j k u laid keeps mine head;
    }

taken_back : (heads now : ℕ → Option ℕ) (old new : List Hook) (free : Option ℕ) (j u : ℕ) → AreLaid heads old free → heads u ≡ Some j
    → new ≡ freed_from old free (last_at old (Some j)) → ((v : ℕ) → now v ≡ (if v == u then None else heads v))
    → IsTaken heads now old new (Some j) u
taken_back heads now old new free j u laid e g head = taken_by heads now old new free j u laid (laid.row u) refl e g head

-- WHERE NOTHING HANGS
pub none_hangs : (hooks : List Hook) (head : Option ℕ) → head ≡ None → numbers_at hooks head ≡ []
none_hangs hooks head e = numbers_are (λ n. None) None hooks head [] e

pub laid_none : (heads : ℕ → Option ℕ) → ((v : ℕ) → heads v ≡ None) → AreLaid heads [] None
laid_none heads none = record { owner = λ n. None; row = λ v. []; rest = []; rows = none; others = refl }

taken_none : (heads now : ℕ → Option ℕ) (hooks : List Hook) (free : Option ℕ) (u : ℕ) → AreLaid heads hooks free → heads u ≡ None
    → ((v : ℕ) → now v ≡ (if v == u then None else heads v)) → IsTaken heads now hooks hooks free u
taken_none heads now hooks free u laid e head = record { laid = laid_same heads now hooks free laid same; numbers = numbers }
  where
    same : (v : ℕ) → now v ≡ heads v
    same v =
        elim (cases_Bool (v == u)) [
          | inl q ↦ let f : now v ≡ None = head v ∙ rw q refl in f ∙ sym (ap heads (eqb-true v u q) ∙ e)
          | inr q ↦ head v ∙ rw q refl
        ]

    numbers : (v : ℕ) → numbers_at hooks (now v) ≡ (if v == u then [] else numbers_at hooks (heads v))
    numbers v =
        elim (cases_Bool (v == u)) [
          | inl q ↦ rw q (none_hangs hooks (now v) (head v ∙ rw q refl))
          | inr q ↦ rw q (ap (numbers_at hooks) (same v))
        ]

pub taken_all : (heads now : ℕ → Option ℕ) (old new : List Hook) (free left : Option ℕ) (head : Option ℕ) (u : ℕ) → AreLaid heads old free
    → heads u ≡ head → left ≡ first_free free head → new ≡ given_back old free head
    → ((v : ℕ) → now v ≡ (if v == u then None else heads v)) → IsTaken heads now old new left u
taken_all heads now old new free left None u laid e f g more =
    subst (λ (hooks : List Hook). IsTaken heads now old hooks left u) (sym g)
    (subst (λ (x : Option ℕ). IsTaken heads now old old x u) (sym f) (taken_none heads now old free u laid e more))
taken_all heads now old new free left (Some j) u laid e f g more =
    subst (λ (x : Option ℕ). IsTaken heads now old new x u) (sym f) (taken_back heads now old new free j u laid e g more)

-- ONE HOOK AFTER THE OTHER
pub walk_done : (hooks : List Hook) (out : List ℕ) (n : ℕ) (rest : Option ℕ) → rest ≡ None → out ++ walk hooks 0 rest ≡ out ++ walk hooks n rest
unfolding walk
walk_done hooks out zero rest e = refl
walk_done hooks out (suc n) rest e = rw e refl

pub walk_more : (hooks : List Hook) (out : List ℕ) (n m : ℕ) (hook : Hook) (rest : Option ℕ) (j : ℕ) → rest ≡ Some j → hook ≡ hook_at hooks j
    → n ≡ m + 1 → (out ++ hook.number ∷ []) ++ walk hooks m hook.next ≡ out ++ walk hooks n rest
unfolding walk
walk_more hooks out zero m hook rest j e f g = absurd (omega arith)
walk_more hooks out (suc n) m hook rest j e f g =
    let s : m ≡ n = omega arith in
    rw (e, f, s) (append_assoc out (number_in hooks j ∷ []) (walk hooks n (hook_at hooks j).next))

pub walk_end : (hooks : List Hook) (out : List ℕ) (n : ℕ) (rest : Option ℕ) → n ≤ 0 → out ++ walk hooks n rest ≡ out
unfolding walk
walk_end hooks out zero rest le = append-nil out
walk_end hooks out (suc n) rest le = absurd (omega arith)

pub last_done : (hooks : List Hook) (n j : ℕ) (rest : Option ℕ) → rest ≡ None → last_from hooks 0 j rest ≡ last_from hooks n j rest
unfolding last_from
last_done hooks zero j rest e = refl
last_done hooks (suc n) j rest e = rw e refl

pub last_more : (hooks : List Hook) (n m j i : ℕ) (hook : Hook) (rest : Option ℕ) → rest ≡ Some i → hook ≡ hook_at hooks i → n ≡ m + 1
    → last_from hooks m i hook.next ≡ last_from hooks n j rest
unfolding last_from
last_more hooks zero m j i hook rest e f g = absurd (omega arith)
last_more hooks (suc n) m j i hook rest e f g = let s : m ≡ n = omega arith in rw (e, f, s) refl

pub last_end : (hooks : List Hook) (n j : ℕ) (rest : Option ℕ) → n ≤ 0 → last_from hooks n j rest ≡ j
unfolding last_from
last_end hooks zero j rest le = refl
last_end hooks (suc n) j rest le = absurd (omega arith)
