-- Pieces joined by a byte, and cut again at that byte.
use Rattle.records.proofs.Common.{◌≡◌, List, ℕ, length, arith, map, [], sym, ◌++◌, ◌∷◌, refl, true, Bool, false, get_or, ◌&&◌, ◌≤◌, drop, take}
use Rattle.records.proofs.Common.{append_assoc, ◌-◌, Bor, nat_tests, list_all, join_with_byte, flat_map, parts_of}
use Rattle.std.proofs.lemmas.List.{append-nil, take_all, Splits.slice_split-cons_yes, Splits.slice_split-cons_no}
use Rattle.std.specs.{List.slice_split, Prelude.◌==◌}

-- pieces, each behind the byte
abbrev pub behind_each : ℕ → List (List ℕ) → List ℕ
behind_each c pieces = flat_map (λ piece. c ∷ piece) pieces

-- the first piece, and then the others behind the byte
pub join_first : (c : ℕ) (x : List ℕ) (xs : List (List ℕ)) → join_with_byte c (x ∷ xs) ≡ x ++ behind_each c xs
join_first c x [] = sym (append-nil x)
join_first c x (y ∷ ys) = rw (join_first c y ys)

-- the first piece is written, and the others are still to come
pub first_joined : (c : ℕ) (pieces : List (Bor (List ℕ))) (none : Bor (List ℕ)) (old new : List ℕ) → 1 ≤ length pieces → new ≡ old ++ (get_or pieces 0 none).now
    → new ++ behind_each c (map (λ p. p.now) (take (length pieces - 1) (drop 1 pieces))) ≡ old ++ join_with_byte c (map (λ p. p.now) pieces)
first_joined c [] none old new some pushed = absurd (omega arith)
first_joined c (x ∷ xs) none old new some pushed =
    rw (pushed, take_all (length (x ∷ xs) - 1) xs (omega arith), join_first c x.now (map (λ p. p.now) xs), append_assoc)

-- one more piece behind the byte
pub piece_more : (text text' : List ℕ) (c : ℕ) (x : List ℕ) (xs : List (List ℕ)) → text' ≡ (text ++ c ∷ []) ++ x → text' ++ behind_each c xs ≡ text ++ behind_each c (x ∷ xs)
piece_more text text' c x xs more = rw (more, append_assoc, append_assoc)

pub both : (a b : Bool) → (a && b) ≡ true → (a ≡ true) × (b ≡ true)
both a b h = (grind arith, grind arith)

pub and_true : (a b : Bool) → a ≡ true → b ≡ true → (a && b) ≡ true
and_true a b p q = grind arith

same_byte : (c : ℕ) → (c == c) ≡ true
same_byte c = grind (arith, nat_tests)

-- a byte of a kind to which c does not belong is not c
differs : (p : ℕ → Bool) (c b : ℕ) → p c ≡ false → p b ≡ true → (b == c) ≡ false
differs p c b none one = grind (arith, nat_tests)

module _ (p : ℕ → Bool) (c : ℕ) (none : p c ≡ false) where
  abbrev cut : List ℕ → List (List ℕ)
  cut bytes = slice_split (λ b. b == c) bytes

  -- bytes of that kind are one part
  part_alone : (xs : List ℕ) → list_all p xs ≡ true → cut xs ≡ xs ∷ []
  part_alone [] h = refl
  part_alone (x ∷ xs) h =
      let parts = both (p x) (list_all p xs) h in
      rw (slice_split-cons_no (λ b. b == c) x xs (differs p c x none parts.0), part_alone xs parts.1)

  -- bytes of that kind before c are the first part
  part_before : (xs ys : List ℕ) → list_all p xs ≡ true → cut (xs ++ c ∷ ys) ≡ xs ∷ cut ys
  part_before [] ys h = slice_split-cons_yes (λ b. b == c) c ys (same_byte c)
  part_before (x ∷ xs) ys h =
      let parts = both (p x) (list_all p xs) h in
      rw (slice_split-cons_no (λ b. b == c) x (xs ++ c ∷ ys) (differs p c x none parts.0), part_before xs ys parts.1)

  -- pieces that are joined by c, cut at c again
  pub parts_back : (x : List ℕ) (xs : List (List ℕ)) → list_all (list_all p) (x ∷ xs) ≡ true → parts_of c (join_with_byte c (x ∷ xs)) ≡ x ∷ xs
  unfolding parts_of
  parts_back x [] h = part_alone x (both (list_all p x) true h).0
  parts_back x (y ∷ ys) h =
      let parts = both (list_all p x) (list_all (list_all p) (y ∷ ys)) h in
      rw (part_before x (join_with_byte c (y ∷ ys)) parts.0, parts_back y ys parts.1)

  -- what is cut behind a text and c, where the text has no c
  pub part_off : (xs ys : List ℕ) → list_all p xs ≡ true → parts_of c (xs ++ c ∷ ys) ≡ xs ∷ parts_of c ys
  unfolding parts_of
  part_off xs ys h = part_before xs ys h
