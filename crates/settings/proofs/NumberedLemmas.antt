-- Tables by the numbers of their kinds are such as a day may be scored by.
use Rattle.std.proofs.Common.{◌≡◌, ℕ, suc, ◌+◌, ◌≤◌, ◌||◌, ◌&&◌, Bool, true, false, not, nat_eq, nat_le, bytes_eq, List, [], ◌∷◌, ◌++◌, map, length, Option}
use Rattle.std.proofs.Common.{None, Some, refl, sym, ap, ◌∙◌, subst, arith}
use Rattle.std.proofs.lemmas.{Bool.and_parts, Bool.Decides.nat_tests, List.Elements.filter_map-append, Slice.Eq.bytes_eq-Decides}
use Rattle.std.specs.{Cmp.Derive.both_true, List.list_all, List.list_any, List.filter_map, Prelude.option_map, Prelude.option_to_list}
use Rattle.events.{proofs.NameLists.name_at-number_of, specs.Names.number_of, specs.Names.name_at, specs.Names.is_held, specs.Names.are_distinct}
use Rattle.scoring.specs.{Limits.kind_of, Limits.are_tables, declared.TheConstants.MAX_TABLES, declared.table.Table.Table}
use Rattle.scoring.specs.Limits as limits
use Rattle.settings.specs.{NamedTables.kind_name, NamedTables.is_right, NamedTables.are_right, Numbered.numbered, declared.named_tables.NamedTable.NamedTable}

-- one more table
one : (kinds : List (List ℕ)) (t : NamedTable) (o : Option Table) → o ≡ numbered kinds t → filter_map (numbered kinds) (t ∷ []) ≡ option_to_list o
one kinds t None e = rw (← e)
one kinds t (Some table) e = rw (← e)

pub numbered_more : (kinds : List (List ℕ)) (named : List NamedTable) (t : NamedTable) (o : Option Table) (before after : List Table)
    → o ≡ numbered kinds t → before ≡ filter_map (numbered kinds) named → after ≡ before ++ option_to_list o
    → after ≡ filter_map (numbered kinds) (named ++ t ∷ [])
numbered_more kinds named t o before after e so_far is =
    is ∙ ap (λ (l : List Table). l ++ option_to_list o) so_far ∙ ap (λ (l : List Table). filter_map (numbered kinds) named ++ l) (sym (one kinds t o e))
    ∙ sym (filter_map-append (numbered kinds) named (t ∷ []))

-- a table that has a number has the points of the named one, and the number is that of its name
pub record IsOf (kinds : List (List ℕ)) (t : NamedTable) (table : Table) : Type 0 where
  pub number : number_of t.kind kinds ≡ Some table.kind
  pub right : limits.is_right table ≡ is_right t

is_of : (kinds : List (List ℕ)) (t : NamedTable) (o : Option ℕ) (table : Table) → number_of t.kind kinds ≡ o
    → option_map (λ kind. record { kind = kind; points = t.points; latest = t.latest }) o ≡ Some table → IsOf kinds t table
is_of kinds t None table e is = cc
is_of kinds t (Some n) table e is =
    let made : Table = record { kind = n; points = t.points; latest = t.latest } in
    let same : made ≡ table = cc in
    subst (IsOf kinds t) same (record { number = e; right = refl })

-- two names with one number are one name
same_name : (kinds : List (List ℕ)) (a b : List ℕ) (n m : ℕ) → number_of a kinds ≡ Some n → number_of b kinds ≡ Some m → n ≡ m → bytes_eq a b ≡ true
same_name kinds a b n m e f same =
    let left = (name_at-number_of a kinds n e).1 in
    let right = (name_at-number_of b kinds m f).1 in
    let equal : a ≡ b = sym left ∙ ap (name_at kinds) same ∙ right in
    (bytes_eq-Decides a b).1 equal

same_number : (n m : ℕ) → nat_eq n m ≡ true → n ≡ m
same_number n m h = grind (arith, nat_tests)

neither : (b c : Bool) → (b || c) ≡ false → (b ≡ false) × (c ≡ false)
neither false c e = (refl, e)
neither true c e = cc

apart : (a b : List ℕ) (n m : ℕ) (c : Bool) → nat_eq n m ≡ c → (n ≡ m → bytes_eq a b ≡ true) → bytes_eq a b ≡ false → nat_eq n m ≡ false
apart a b n m false e equal other = e
apart a b n m true e equal other = let x = equal (same_number n m e) in cc

-- a kind that no later table has, has a number that no later table has
abbrev IsAlone : List (List ℕ) → Table → List NamedTable → Type 0
IsAlone kinds table named = list_any (λ m. nat_eq table.kind m) (map kind_of (filter_map (numbered kinds) named)) ≡ false

alone_by : (kinds : List (List ℕ)) (t : NamedTable) (table : Table) (u : NamedTable) (named : List NamedTable) (o : Option Table) → numbered kinds u ≡ o
    → IsOf kinds t table → bytes_eq t.kind u.kind ≡ false → IsAlone kinds table named → IsAlone kinds table (u ∷ named)
alone_by kinds t table u named None e is other later = rw e later
alone_by kinds t table u named (Some v) e is other later =
    let of_v = is_of kinds u (number_of u.kind kinds) v refl e in
    let here : nat_eq table.kind v.kind ≡ false =
    apart t.kind u.kind table.kind v.kind (nat_eq table.kind v.kind) refl (same_name kinds t.kind u.kind table.kind v.kind is.number of_v.number) other in
    rw (e, here) later

alone : (kinds : List (List ℕ)) (t : NamedTable) (table : Table) (named : List NamedTable) → IsOf kinds t table → is_held t.kind (map kind_name named) ≡ false
    → IsAlone kinds table named
alone kinds t table [] is absent = refl
alone kinds t table (u ∷ named) is absent =
    let parts = neither (bytes_eq t.kind u.kind) (is_held t.kind (map kind_name named)) absent in
    alone_by kinds t table u named (numbered kinds u) refl is parts.0 (alone kinds t table named is parts.1)

-- tables that are right have numbers that are distinct, and are right
pub record AreGood (tables : List Table) : Type 0 where
  pub right : list_all limits.is_right tables ≡ true
  pub distinct : limits.are_distinct (map kind_of tables) ≡ true

held_not : (b c : Bool) → (not b && c) ≡ true → (b ≡ false) × (c ≡ true)
held_not false c h = (refl, h)
held_not true c h = cc

good_by : (kinds : List (List ℕ)) (t : NamedTable) (named : List NamedTable) (o : Option Table) → numbered kinds t ≡ o → is_right t ≡ true
    → is_held t.kind (map kind_name named) ≡ false → AreGood (filter_map (numbered kinds) named) → AreGood (filter_map (numbered kinds) (t ∷ named))
good_by kinds t named None e right fresh later = rw e later
good_by kinds t named (Some table) e right fresh later =
    let is = is_of kinds t (number_of t.kind kinds) table refl e in
    let new = alone kinds t table named is fresh in
    rw e (record { right = both_true (is.right ∙ right) later.right; distinct = both_true (ap not new) later.distinct })

good : (kinds : List (List ℕ)) (named : List NamedTable) → list_all is_right named ≡ true → are_distinct (map kind_name named) ≡ true
    → AreGood (filter_map (numbered kinds) named)
good kinds [] all distinct = record { right = refl; distinct = refl }
good kinds (t ∷ named) all distinct =
    let parts = and_parts (is_right t) (list_all is_right named) all in
    let names = held_not (is_held t.kind (map kind_name named)) (are_distinct (map kind_name named)) distinct in
    good_by kinds t named (numbered kinds t) refl parts.0 names.0 (good kinds named parts.1 names.1)

-- no more tables have numbers than there are
no_more_by : (kinds : List (List ℕ)) (t : NamedTable) (named : List NamedTable) (o : Option Table) → numbered kinds t ≡ o
    → length (filter_map (numbered kinds) named) ≤ length named → length (filter_map (numbered kinds) (t ∷ named)) ≤ suc (length named)
no_more_by kinds t named None e later = rw e (omega arith)
no_more_by kinds t named (Some table) e later = rw e (omega arith)

no_more : (kinds : List (List ℕ)) (named : List NamedTable) → length (filter_map (numbered kinds) named) ≤ length named
no_more kinds [] = omega arith
no_more kinds (t ∷ named) = no_more_by kinds t named (numbered kinds t) refl (no_more kinds named)

few_enough : (n m : ℕ) → n ≤ m → nat_le n m ≡ true
few_enough n m h = grind (arith, nat_tests)

pub numbered_are_tables : (kinds : List (List ℕ)) (named : List NamedTable) → length named ≤ MAX_TABLES → are_right named ≡ true
    → are_tables (filter_map (numbered kinds) named) ≡ true
unfolding are_right
numbered_are_tables kinds named few right =
    let parts = and_parts (list_all is_right named) (are_distinct (map kind_name named)) right in
    let is = good kinds named parts.0 parts.1 in
    let count = no_more kinds named in
    both_true (both_true (few_enough (length (filter_map (numbered kinds) named)) MAX_TABLES (omega arith)) is.right) is.distinct
