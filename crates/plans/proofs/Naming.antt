-- Names numbered by first appearance in rows.
use Rattle.records.proofs.Common.{◌≡◌, List, ℕ, length, arith, [], ◌<◌, Some, ◌++◌, ◌∷◌, refl, true, ◌+◌, get_or, drop, take, append_assoc, take_more}
use Rattle.records.proofs.Common.{append-nil, fold-append, fold, flat_map, nat_lt, bytes_eq, number_of, with_name, is_held, firsts, Row}
use Rattle.records.proofs.Sound.{number_known}
use Rattle.std.{proofs.lemmas.Cmp.nat_list_eq_equiv, proofs.lemmas.Grind.flat_map-append, proofs.lemmas.List.take-append-drop, specs.List.position_or_len}
use Rattle.events.proofs.NameLists.{number_of-held, is_held-with_name, firsts-push}
use Rattle.plans.{proofs.Items.number_kept, specs.Values.named_by, specs.Values.number_in_table}

-- the names, one more row read
pub named_more : (names : Row → List (List ℕ)) (rows : List Row) (n : ℕ) → n < length rows → named_by names (take (n + 1) rows) ≡ fold with_name (named_by names (take n rows)) (names (get_or rows n []))
unfolding named_by firsts
named_more names rows n less =
    rw (take_more rows n [] less, flat_map-append names (take n rows), fold-append with_name [] (flat_map names (take n rows)), append-nil (names _))

-- no row, no name
pub named_none : (names : Row → List (List ℕ)) → named_by names [] ≡ []
unfolding named_by firsts
named_none names = refl

stays : (xs ys : List (List ℕ)) (name : List ℕ) (n : ℕ) → number_of name (firsts xs) ≡ Some n → number_of name (firsts (xs ++ ys)) ≡ Some n
stays xs [] name n is = rw append-nil is
stays xs (y ∷ ys) name n is = rw (← append_assoc xs (y ∷ []) ys) (stays (xs ++ y ∷ []) ys name n (rw firsts-push (number_kept (firsts xs) y name n is)))

-- a number in the names so far is the number in all of them
pub number_stays : (names : Row → List (List ℕ)) (rows : List Row) (n : ℕ) (name : List ℕ) (number : ℕ) → number_of name (named_by names (take n rows)) ≡ Some number → number_of name (named_by names rows) ≡ Some number
unfolding named_by
number_stays names rows n name number is =
    let all = stays (flat_map names (take n rows)) (flat_map names (drop n rows)) name number is in rw (← flat_map-append names, take-append-drop) at all

-- a name that was put into a list is held
pub held_there : (names : List (List ℕ)) (name : List ℕ) → is_held name (with_name names name) ≡ true
held_there names name = grind (arith, is_held-with_name names name name, nat_list_eq_equiv.refl name)

-- a held name has a number
pub record Numbered (name : List ℕ) (names : List (List ℕ)) : Type 0 where
  pub number : ℕ
  pub is : number_of name names ≡ Some number

pub numbered_held : (names : List (List ℕ)) (name : List ℕ) → is_held name names ≡ true → Numbered name names
numbered_held names name held = record { number = position_or_len (bytes_eq name) names; is = number_of-held name names held }

-- which is the same in the names so far and in all of them, and below the length of these
pub record IsSame (name : List ℕ) (now all : List (List ℕ)) : Type 0 where
  pub number : number_in_table name now ≡ number_in_table name all
  pub within : nat_lt (number_in_table name now) (length all) ≡ true

pub same_number : (names : Row → List (List ℕ)) (rows : List Row) (n : ℕ) (now : List (List ℕ)) (name : List ℕ) → now ≡ named_by names (take n rows)
    → is_held name now ≡ true → IsSame name now (named_by names rows)
same_number names rows n now name is held =
    let there = numbered_held now name held in
    let all = number_stays names rows n name there.number (rw (← is) there.is) in
    record { number = rw (there.is, all) refl; within = rw there.is (number_known (named_by names rows) name there.number all) }
