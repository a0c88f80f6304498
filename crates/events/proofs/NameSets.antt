-- From the keys of the set that holds names to the list of names.
use Rattle.std.proofs.Common.{◌≡◌, ℕ, suc, ◌+◌, ◌<◌, ◌^◌, Bool, true, false, cond, not, ◌||◌, List, [], ◌∷◌, ◌++◌, map, length, Some, Vec, Ok, rules, refl, sym}
use Rattle.std.proofs.Common.{◌∙◌, ap}
use Rattle.std.specs.{List.position_or_len, List.list_any, List.AllZip, Prelude.bytes_eq, Prelude.position, Prelude.vec_len, declared.alloc.Global.Global}
use Rattle.indexmap.specs.IndexSet.{insert_key}
use Rattle.events.specs.declared.names.Added.TheVariants.{New, Held}
use Rattle.events.specs.Names.{is_name, number_of, AreNames, Adds}
use Rattle.events.proofs.NameLists.{absent, present, some_within, number_of-absent, AreNames-push}

abbrev pub Bytes : Type 0
Bytes = Vec ℕ Global

abbrev pub texts : List Bytes → List (List ℕ)
texts keys = map (λ v. v.items) keys

abbrev pub same_text : Bytes → Bytes → Bool
same_text v w = bytes_eq v.items w.items

or_len-texts : (p : List ℕ → Bool) (keys : List Bytes) → position_or_len p (texts keys) ≡ position_or_len (λ v. p v.items) keys
or_len-texts p [] = refl
or_len-texts p (v ∷ keys) = ap (λ (n : ℕ). cond (not (p v.items)) (1 + n) 0) (or_len-texts p keys)

length-texts : (keys : List Bytes) → length (texts keys) ≡ length keys
length-texts [] = refl
length-texts (v ∷ keys) = ap suc (length-texts keys)

any-texts : (p : List ℕ → Bool) (keys : List Bytes) → list_any p (texts keys) ≡ list_any (λ v. p v.items) keys
any-texts p [] = refl
any-texts p (v ∷ keys) = ap (λ (b : Bool). p v.items || b) (any-texts p keys)

texts-push : (keys : List Bytes) (key : Bytes) → texts (keys ++ key ∷ []) ≡ texts keys ++ key.items ∷ []
texts-push [] key = refl
texts-push (v ∷ keys) key = ap (λ (l : List (List ℕ)). v.items ∷ l) (texts-push keys key)

-- the place of a key is the number of its name
pub number_texts : (name : List ℕ) (keys : List Bytes) → position (λ v. bytes_eq name v.items) keys ≡ number_of name (texts keys)
unfolding number_of
number_texts name keys = sym (rw (or_len-texts (bytes_eq name) keys, length-texts keys) refl)

pub not_held : (keys : List Bytes) (key : Bytes) → true ≡ not (list_any (same_text key) keys) → list_any (bytes_eq key.items) (texts keys) ≡ false
not_held keys key fresh = any-texts (bytes_eq key.items) keys ∙ search (rules, fresh)

grown_by : (keys new : List Bytes) (key : Bytes) → true ≡ not (list_any (same_text key) keys) → new ≡ insert_key same_text keys key → texts new ≡ texts keys ++ key.items ∷ []
grown_by keys new key fresh grown =
    let none : list_any (same_text key) keys ≡ false = search (rules, fresh) in
    ap texts (grown ∙ ap (λ (b : Bool). cond b keys (keys ++ key ∷ [])) none) ∙ texts-push keys key

-- a key that was new goes last
pub adds_new : (keys new : List Bytes) (key : Bytes) (n : ℕ) → true ≡ not (list_any (same_text key) keys) → new ≡ insert_key same_text keys key → n ≡ position_or_len (same_text key) keys → Adds (texts keys) key.items (Ok (New n)) (texts new)
adds_new keys new key n fresh grown is =
    let none : list_any (same_text key) keys ≡ false = search (rules, fresh) in (
      number_of-absent key.items (texts keys) (not_held keys key fresh),
      is ∙ absent (same_text key) keys none ∙ sym (length-texts keys),
      grown_by keys new key fresh grown,
    )

-- and leaves a list of names
pub names_new : (keys new : List Bytes) (key : Bytes) → AreNames (texts keys) → is_name key.items ≡ true → length (texts keys) < 2 ^ 31 → true ≡ not (list_any (same_text key) keys) → new ≡ insert_key same_text keys key → AreNames (texts new)
names_new keys new key h named room fresh grown = rw (grown_by keys new key fresh grown) (AreNames-push (texts keys) key.items h named (not_held keys key fresh) room)

-- a key that was there changes nothing
pub adds_held : (keys new : List Bytes) (key : Bytes) (n : ℕ) → false ≡ not (list_any (same_text key) keys) → new ≡ insert_key same_text keys key → n ≡ position_or_len (same_text key) keys → Adds (texts keys) key.items (Ok (Held n)) (texts new)
unfolding number_of
adds_held keys new key n old grown is =
    let some : list_any (same_text key) keys ≡ true = search (rules, old) in (
      sym (number_texts key.items keys) ∙ some_within _ _ (present (same_text key) keys some) ∙ ap (λ (m : ℕ). Some m) (sym is),
      ap texts (grown ∙ ap (λ (b : Bool). cond b keys (keys ++ key ∷ [])) some),
    )

same_items : (xs ys : List ℕ) → AllZip (λ (x y : ℕ). y ≡ x) xs ys → ys ≡ xs
same_items [] [] h = refl
same_items [] (y ∷ ys) h = absurd h
same_items (x ∷ xs) [] h = absurd h
same_items (x ∷ xs) (y ∷ ys) h = let rest = same_items xs ys h.1 in let first = h.0 in cc

-- clones of the keys hold the same names
pub texts-clone : (keys copies : List Bytes) → AllZip (λ (v w : Bytes). AllZip (λ (x y : ℕ). y ≡ x) v.items w.items × (vec_len w ≡ vec_len v)) keys copies → texts copies ≡ texts keys
texts-clone [] [] h = refl
texts-clone [] (w ∷ copies) h = absurd h
texts-clone (v ∷ keys) [] h = absurd h
texts-clone (v ∷ keys) (w ∷ copies) h = let rest = texts-clone keys copies h.1 in let first = same_items v.items w.items h.0.0 in cc
