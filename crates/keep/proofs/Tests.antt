-- What tests of numbers say, and what an option or a test chose.
use Rattle.std.proofs.Common.{◌≡◌, ◌⊎◌, ℕ, ◌<◌, ◌≤◌, Bool, true, false, cond, ◌&&◌, Option, None, Some, refl, inl, inr, arith}
use Rattle.std.{proofs.lemmas.Bool.Decides.nat_tests, specs.Prelude.nat_eq, specs.Prelude.nat_lt, specs.Prelude.option_and_then}

pub eq_says : (m n : ℕ) → nat_eq m n ≡ true → m ≡ n
eq_says m n h = grind (arith, nat_tests)

pub eq_true : (m n : ℕ) → m ≡ n → nat_eq m n ≡ true
eq_true m n h = grind (arith, nat_tests)

pub ne_says : (m n : ℕ) → nat_eq m n ≡ false → m ≡ n → ⊥
ne_says m n h same = grind (arith, nat_tests)

pub less_ne : (m n : ℕ) → m < n → nat_eq m n ≡ false
less_ne m n h = grind (arith, nat_tests)

pub more_ne : (m n : ℕ) → n < m → nat_eq m n ≡ false
more_ne m n h = grind (arith, nat_tests)

pub lt_says : (m n : ℕ) → nat_lt m n ≡ true → m < n
lt_says m n h = grind (arith, nat_tests)

pub lt_true : (m n : ℕ) → m < n → nat_lt m n ≡ true
lt_true m n h = grind (arith, nat_tests)

pub ge_says : (m n : ℕ) → nat_lt m n ≡ false → n ≤ m
ge_says m n h = grind (arith, nat_tests)

pub ge_false : (m n : ℕ) → n ≤ m → nat_lt m n ≡ false
ge_false m n h = grind (arith, nat_tests)

pub and_false : (a : Bool) → (a && false) ≡ false
and_false true = refl
and_false false = refl

pub none_some : {A : Type 0} (x : A) → ◌≡◌ {A = Option A} None (Some x) → ⊥
none_some x e = cc

pub same_some : {A : Type 0} (x y : A) → ◌≡◌ {A = Option A} (Some x) (Some y) → x ≡ y
same_some x y e = cc

-- a test that gave something was met
pub some_if : {A : Type 0} (b : Bool) (o : Option A) (y : A) → cond b o None ≡ Some y → (b ≡ true) × (o ≡ Some y)
some_if true o y e = (refl, e)
some_if false o y e = absurd (none_some y e)

-- and one that gave something where it was not met was not
pub some_unless : {A : Type 0} (b : Bool) (o : Option A) (y : A) → cond b None o ≡ Some y → (b ≡ false) × (o ≡ Some y)
some_unless true o y e = absurd (none_some y e)
some_unless false o y e = (refl, e)

pub some_either : {A : Type 0} (b : Bool) (o p : Option A) (y : A) → cond b o p ≡ Some y → ((b ≡ true) × (o ≡ Some y)) ⊎ ((b ≡ false) × (p ≡ Some y))
some_either true o p y e = inl (refl, e)
some_either false o p y e = inr (refl, e)

-- what gave something in two steps gave something in the first
pub some_then : {A B : Type 0} (f : A → Option B) (o : Option A) (y : B) → option_and_then f o ≡ Some y → (x : A) × (o ≡ Some x) × (f x ≡ Some y)
some_then f None y e = absurd (none_some y e)
some_then f (Some x) y e = (x, refl, e)
