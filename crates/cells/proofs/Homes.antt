-- Slots that go home all at once.
use Rattle.std.proofs.Common.{◌≡◌, ℕ, zero, suc, ◌<◌, ◌⊎◌, List, [], ◌∷◌, ◌++◌, length, slice_set, refl, sym, ◌∙◌, subst, inl, inr, ⊎_elim, length-set, arith}
use mathlib.Core.Option.{Option, some, some-injective, some-ne-none}
use mathlib.Core.Logic.{dite}
use native.Mathlib.Decide.{ℕ_discrete}
use lib.ListN.{get_elem?}
use Rattle.atomic_table.specs.Table.{Act, keeps, gives, chain, homes_after, carried_after, Valid}
use Rattle.atomic_table.proofs.Lists.{set_here, set_else}
use Rattle.cells.specs.Carried.{Carries}

module _ {A : Type 0} where
  pub among_more : (xs ys : List (ℕ × A)) (k : ℕ) (y : A) → Carries xs k y → Carries (xs ++ ys) k y
  among_more [] ys k y h = absurd h
  among_more (x ∷ xs) ys k y h = ⊎_elim (λ t. inl t) (λ t. inr (among_more xs ys k y t)) h

  pub among_last : (xs ys : List (ℕ × A)) (k : ℕ) (y : A) → Carries ys k y → Carries (xs ++ ys) k y
  among_last [] ys k y h = h
  among_last (x ∷ xs) ys k y h = inr (among_last xs ys k y h)

  pub among_either : (xs ys : List (ℕ × A)) (k : ℕ) (y : A) → Carries (xs ++ ys) k y → Carries xs k y ⊎ Carries ys k y
  among_either [] ys k y h = inr h
  among_either (x ∷ xs) ys k y h = ⊎_elim (λ t. inl (inl t)) (λ t. ⊎_elim (λ u. inl (inr u)) (λ u. inr u) (among_either xs ys k y t)) h

  abbrev pub give_all : List (ℕ × A) → Act A
  give_all [] = keeps
  give_all (x ∷ xs) = chain gives (give_all xs)

  pub all_valid : (hs : List (Option A)) (c : List (ℕ × A)) → Valid hs c (give_all c)
  all_valid hs [] = tt
  all_valid hs (x ∷ xs) = (tt, all_valid (slice_set hs x.0 (some x.1)) xs)

  pub all_given : (c : List (ℕ × A)) → carried_after c (give_all c) ≡ []
  all_given [] = refl
  all_given (x ∷ xs) = all_given xs

  abbrev pub home : List (Option A) → List (ℕ × A) → List (Option A)
  home hs c = homes_after hs c (give_all c)

  pub home_long : (hs : List (Option A)) (c : List (ℕ × A)) → length (home hs c) ≡ length hs
  home_long hs [] = refl
  home_long hs (x ∷ xs) = home_long (slice_set hs x.0 (some x.1)) xs ∙ length-set hs x.0 (some x.1)

  abbrev pub Came : List (Option A) → List (ℕ × A) → ℕ → Type 0
  Came hs c k = (y : A) × Carries c k y × (k < length hs → get_elem? (home hs c) k ≡ some (some y))

  abbrev pub Stayed : List (Option A) → List (ℕ × A) → ℕ → Type 0
  Stayed hs c k = ((y : A) → Carries c k y → ⊥) × (get_elem? (home hs c) k ≡ get_elem? hs k)

  pub home_at : (hs : List (Option A)) (c : List (ℕ × A)) (k : ℕ) → Came hs c k ⊎ Stayed hs c k
  home_at hs [] k = inr ((λ y h. h), refl)
  home_at hs (x ∷ xs) k = ⊎_elim
      (λ t. inl (t.0, inr t.1, λ lt. t.2 (subst (λ z. k < z) (sym (length-set hs x.0 (some x.1))) lt)))
      (λ t. dite (ℕ_discrete k x.0)
      (λ is. inl (
        x.1,
        inl (sym is, refl),
        λ lt. t.1 ∙ subst (λ z. get_elem? (slice_set hs x.0 (some x.1)) z ≡ some (some x.1)) (sym is)
            (set_here hs x.0 (some x.1) (subst (λ z. z < length hs) is lt)),
      ))
      (λ ne. inr ((λ y h. ⊎_elim (λ u. ne (sym u.0)) (λ u. t.0 y u) h), t.1 ∙ set_else hs x.0 k (some x.1) ne)))
      (home_at (slice_set hs x.0 (some x.1)) xs k)

  -- the place of an element at the end
  pub at_end : (l : List A) (a b : A) (j : ℕ) → get_elem? (l ++ a ∷ []) j ≡ some b → (get_elem? l j ≡ some b) ⊎ ((j ≡ length l) × (a ≡ b))
  at_end [] a b zero e = inr (refl, some-injective a b e)
  at_end [] a b (suc j) e = absurd (some-ne-none b (sym e))
  at_end (x ∷ xs) a b zero e = inl e
  at_end (x ∷ xs) a b (suc j) e = ⊎_elim (λ t. inl t) (λ t. let q : j ≡ length xs = t.0 in inr (omega arith, t.1)) (at_end xs a b j e)

  pub at_below : (l : List A) (j : ℕ) (a : A) → get_elem? l j ≡ some a → j < length l
  at_below [] j a e = absurd (some-ne-none a (sym e))
  at_below (x ∷ xs) zero a e = omega arith
  at_below (x ∷ xs) (suc j) a e = let h = at_below xs j a e in omega arith
