-- Laws of numbered lists of names.
use Rattle.std.proofs.Common.{◌≡◌, ℕ, zero, suc, ◌+◌, ◌<◌, ◌≤◌, ◌^◌, Bool, true, false, cond, not, ◌&&◌, ◌||◌, List, [], ◌∷◌, ◌++◌, length, get_or, Option}
use Rattle.std.proofs.Common.{None, Some, Ok, refl, sym, ◌∙◌, ap, arith, length-append}
use Rattle.std.proofs.lemmas.{Bool.Decides.nat_tests, Cmp.nat_list_eq_equiv, List.Folds.list_any-append, List.Folds.list_all-append, List.Folds.list_any_at}
use Rattle.std.proofs.lemmas.List.{Folds.list_all_at, Folds.position_or_len_push, Quantifiers.position-Some, Sums.position_or_len_is, Sums.fold-append}
use Rattle.std.proofs.lemmas.{Map.Steps.list_any_congr, Slice.Eq.bytes_eq-Decides}
use Rattle.std.specs.{List.position_or_len, List.list_any, List.list_all, Prelude.bytes_eq, Prelude.nat_lt, Prelude.nat_eq as eqb, Prelude.fold}
use Rattle.events.specs.Names.{is_name, number_of, name_at, is_held, are_distinct, AreNames, with_name, firsts, Adds}
use Rattle.events.specs.declared.names.Added.{Added, TheVariants.New, TheVariants.Held}

abbrev no_number : Option ℕ
no_number = None

absent_step : (b c : Bool) (n m : ℕ) → (c ≡ false → n ≡ m) → (b || c) ≡ false → cond (not b) (1 + n) 0 ≡ suc m
absent_step true c n m more h = cc
absent_step false c n m more h = omega (arith, more h)

-- no element passes: the first place that does is the length
pub absent : {X : Type 0} (t : X → Bool) (xs : List X) → list_any t xs ≡ false → position_or_len t xs ≡ length xs
absent t [] h = refl
absent t (x ∷ xs) h = absent_step (t x) (list_any t xs) (position_or_len t xs) (length xs) (absent t xs) h

present_step : (b c : Bool) (n m : ℕ) → (c ≡ true → n < m) → (b || c) ≡ true → cond (not b) (1 + n) 0 < suc m
present_step true c n m more h = omega arith
present_step false c n m more h = omega (arith, more h)

-- some element passes: the first place that does is within
pub present : {X : Type 0} (t : X → Bool) (xs : List X) → list_any t xs ≡ true → position_or_len t xs < length xs
present t [] h = cc
present t (x ∷ xs) h = present_step (t x) (list_any t xs) (position_or_len t xs) (length xs) (present t xs) h

none_at_end : (n m : ℕ) → n ≡ m → cond (nat_lt n m) (Some n) None ≡ no_number
none_at_end n m same = grind (arith, nat_tests)

pub some_within : (n m : ℕ) → n < m → cond (nat_lt n m) (Some n) None ≡ Some n
some_within n m less = grind (arith, nat_tests)

-- a name that is not held has no number
pub number_of-absent : (name : List ℕ) (names : List (List ℕ)) → is_held name names ≡ false → number_of name names ≡ None
unfolding number_of
number_of-absent name names h = none_at_end _ _ (absent (bytes_eq name) names h)

-- a name that is held has the first place where it stands
pub number_of-held : (name : List ℕ) (names : List (List ℕ)) → is_held name names ≡ true → number_of name names ≡ Some (position_or_len (bytes_eq name) names)
unfolding number_of
number_of-held name names h = some_within _ _ (present (bytes_eq name) names h)

-- a name with no number is not held
pub no_number-absent : (names : List (List ℕ)) (name : List ℕ) → number_of name names ≡ None → is_held name names ≡ false
no_number-absent names name none = by (is_held name names) refl
  where
    by : (b : Bool) → is_held name names ≡ b → is_held name names ≡ false
    by false is = is
    by true is = let some = number_of-held name names is in cc

-- a name with a number is held
pub number_held : (names : List (List ℕ)) (name : List ℕ) (n : ℕ) → number_of name names ≡ Some n → is_held name names ≡ true
number_held names name n some = by (is_held name names) refl
  where
    by : (b : Bool) → is_held name names ≡ b → is_held name names ≡ true
    by true is = is
    by false is = let none = number_of-absent name names is in cc

-- a number is below the length, and its name is the one that was sought
pub name_at-number_of : (name : List ℕ) (names : List (List ℕ)) (n : ℕ) → number_of name names ≡ Some n → (n < length names) × (name_at names n ≡ name)
unfolding number_of
name_at-number_of name names n h =
    let at = position-Some (bytes_eq name) names n [] h in
    (at.0, sym ((bytes_eq-Decides name (get_or names n [])).0 at.1))

not_first : (b c d : Bool) → (not b && d) ≡ true → (c ≡ true → b ≡ true) → c ≡ false
not_first b c d h more = grind arith

rest_first : (b d : Bool) → (not b && d) ≡ true → d ≡ true
rest_first b d h = grind arith

-- two places of distinct names have different names
apart : (names : List (List ℕ)) (k n : ℕ) → are_distinct names ≡ true → k < n → n < length names → bytes_eq (get_or names n []) (get_or names k []) ≡ false
apart [] k n h less within = absurd (omega arith)
apart (x ∷ xs) k zero h less within = absurd (omega arith)
apart (x ∷ xs) zero (suc n) h less within =
    let in_rest : n < length xs = omega arith in
    nat_list_eq_equiv.symm (get_or xs n []) x ∙ not_first (list_any (bytes_eq x) xs) (bytes_eq x (get_or xs n [])) (are_distinct xs) h (list_any_at (bytes_eq x) xs n [] in_rest)
apart (x ∷ xs) (suc k) (suc n) h less within =
    let before : k < n = omega arith in
    let in_rest : n < length xs = omega arith in
    apart xs k n (rest_first (list_any (bytes_eq x) xs) (are_distinct xs) h) before in_rest

-- the number of the name that stands at a place is that place
pub number_of-name_at : (names : List (List ℕ)) (n : ℕ) → are_distinct names ≡ true → n < length names → number_of (name_at names n) names ≡ Some n
unfolding number_of
number_of-name_at names n h within =
    let test : List ℕ → Bool = bytes_eq (get_or names n []) in
    let at_end : n ≤ length names = omega arith in
    let same = position_or_len_is test names n [] at_end (λ k less. apart names k n h less within) (λ _. nat_list_eq_equiv.refl (get_or names n [])) in
    ap (λ (m : ℕ). cond (nat_lt m (length names)) (Some m) None) same ∙ some_within n (length names) within

all_at : (b : Bool) → (b ≡ false → false ≡ true) → b ≡ true
all_at b h = grind arith

-- what stands at a place of a list of names is a name
pub is_name-name_at : (names : List (List ℕ)) (n : ℕ) → AreNames names → n < length names → is_name (name_at names n) ≡ true
is_name-name_at names n h within = all_at (is_name (get_or names n [])) (λ no. sym (list_all_at is_name names n [] within no) ∙ h.each)

distinct_step : (a b c d e : Bool) → (not a && b) ≡ true → c ≡ false → e ≡ (a || (c || false)) → (b ≡ true → d ≡ true) → (not e && d) ≡ true
distinct_step a b c d e h other same more = grind arith

distinct-push : (names : List (List ℕ)) (name : List ℕ) → are_distinct names ≡ true → is_held name names ≡ false → are_distinct (names ++ name ∷ []) ≡ true
distinct-push [] name h fresh = refl
distinct-push (x ∷ xs) name h fresh =
    let parts = or_false (bytes_eq name x) (list_any (bytes_eq name) xs) fresh in
    distinct_step (list_any (bytes_eq x) xs) (are_distinct xs) (bytes_eq x name) (are_distinct (xs ++ name ∷ [])) (list_any (bytes_eq x) (xs ++ name ∷ [])) h
    (nat_list_eq_equiv.symm x name ∙ parts.0) (list_any-append (bytes_eq x) xs (name ∷ [])) (λ rest. distinct-push xs name rest parts.1)
  where
    or_false : (b c : Bool) → (b || c) ≡ false → (b ≡ false) × (c ≡ false)
    or_false true c h = absurd (cc h)
    or_false false c h = (refl, h)

-- one more name that is not held leaves a list of names
pub AreNames-push : (names : List (List ℕ)) (name : List ℕ) → AreNames names → is_name name ≡ true → is_held name names ≡ false → length names < 2 ^ 31 → AreNames (names ++ name ∷ [])
AreNames-push names name h named fresh room = record {
  each = list_all-append is_name names (name ∷ []) ∙ both (list_all is_name names) (is_name name) h.each named;
  distinct = distinct-push names name h.distinct fresh;
  few = omega (arith, length-append names (name ∷ []));
}
  where
    both : (b c : Bool) → b ≡ true → c ≡ true → (b && (c && true)) ≡ true
    both b c h k = grind arith

-- what `add` leaves is the list with the name
pub with_name-Adds : (old : List (List ℕ)) (name : List ℕ) (added : Added) (new : List (List ℕ)) → Adds old name (Ok added) new → new ≡ with_name old name
with_name-Adds old name (New number) new h = h.2 ∙ sym (ap (λ (b : Bool). cond b old (old ++ name ∷ [])) (no_number-absent old name h.0))
with_name-Adds old name (Held number) new h = h.1 ∙ sym (ap (λ (b : Bool). cond b old (old ++ name ∷ [])) (number_held old name number h.0))

-- the first names, one more taken in
pub firsts-push : (names : List (List ℕ)) (name : List ℕ) → firsts (names ++ name ∷ []) ≡ with_name (firsts names) name
unfolding firsts
firsts-push names name = fold-append with_name [] names (name ∷ [])

some_parts : (m l n : ℕ) → cond (nat_lt m l) (Some m) None ≡ Some n → (m ≡ n) × (m < l)
some_parts m l n h = (grind (arith, nat_tests), grind (arith, nat_tests))

push_at_end : (m l a t : ℕ) (b : Bool) → m ≡ l → b ≡ true → a ≡ cond (eqb m l) (l + cond b 0 1) m → t ≡ l + 1 → cond (nat_lt a t) (Some a) None ≡ Some l
push_at_end m l a t b last same is long = grind (arith, nat_tests)

push_behind : (m l a t : ℕ) (b : Bool) → m < l → a ≡ cond (eqb m l) (l + cond b 0 1) m → t ≡ l + 1 → cond (nat_lt a t) (Some a) None ≡ Some m
push_behind m l a t b before is long = grind (arith, nat_tests)

-- a new name gets the number that comes next
pub number_of-New : (old : List (List ℕ)) (name : List ℕ) → number_of name old ≡ None → number_of name (old ++ name ∷ []) ≡ Some (length old)
unfolding number_of
number_of-New old name h =
    push_at_end (position_or_len (bytes_eq name) old) (length old) _ _ (bytes_eq name name) (absent (bytes_eq name) old (no_number-absent old name h)) (nat_list_eq_equiv.refl name)
    (position_or_len_push (bytes_eq name) old name) (length-append old (name ∷ []))

-- and each name that was held keeps its number
pub number_of-kept : (old : List (List ℕ)) (name other : List ℕ) (n : ℕ) → number_of other old ≡ Some n → number_of other (old ++ name ∷ []) ≡ Some n
unfolding number_of
number_of-kept old name other n h =
    let parts = some_parts (position_or_len (bytes_eq other) old) (length old) n h in
    push_behind (position_or_len (bytes_eq other) old) (length old) _ _ (bytes_eq other name) parts.1
    (position_or_len_push (bytes_eq other) old name) (length-append old (name ∷ []))
    ∙ ap (λ (m : ℕ). Some m) parts.0

or_absorbed : (a c : Bool) → (c ≡ true → a ≡ true) → a ≡ (a || c)
or_absorbed a c h = grind arith

or_last : (a c : Bool) → (a || (c || false)) ≡ (a || c)
or_last a c = grind arith

or_three : (a c d : Bool) → ((a || c) || d) ≡ (a || (c || d))
or_three a c d = grind arith

-- a list with one more name holds that name and those before
pub is_held-with_name : (names : List (List ℕ)) (name other : List ℕ) → is_held other (with_name names name) ≡ (is_held other names || bytes_eq other name)
is_held-with_name names name other = by (is_held name names) refl
  where
    by : (b : Bool) → is_held name names ≡ b → is_held other (with_name names name) ≡ (is_held other names || bytes_eq other name)
    by true is = ap (λ (b : Bool). is_held other (cond b names (names ++ name ∷ []))) is
        ∙ or_absorbed (is_held other names) (bytes_eq other name) (λ same. list_any_congr nat_list_eq_equiv other name names same ∙ is)
    by false is = ap (λ (b : Bool). is_held other (cond b names (names ++ name ∷ []))) is
        ∙ list_any-append (bytes_eq other) names (name ∷ []) ∙ or_last (is_held other names) (bytes_eq other name)

is_held-fold : (start names : List (List ℕ)) (name : List ℕ) → is_held name (fold with_name start names) ≡ (is_held name start || is_held name names)
is_held-fold start [] name = or_false (is_held name start)
  where
    or_false : (a : Bool) → a ≡ (a || false)
    or_false a = grind arith
is_held-fold start (x ∷ xs) name =
    is_held-fold (with_name start x) xs name ∙ ap (λ (b : Bool). b || is_held name xs) (is_held-with_name start x name)
    ∙ or_three (is_held name start) (bytes_eq name x) (is_held name xs)

-- the firsts hold the same names
pub is_held-firsts : (names : List (List ℕ)) (name : List ℕ) → is_held name (firsts names) ≡ is_held name names
unfolding firsts
is_held-firsts names name = is_held-fold [] names name
