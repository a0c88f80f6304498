-- Lists of several partitions can be merged where each ascends and no two share a key.
use Rattle.std.proofs.Common.{◌≡◌, ℕ, zero, suc, ◌+◌, ◌<◌, ◌≤◌, List, arith, map}
use Rattle.std.specs.List.{Contains, AllByRecursion as Each}
use Rattle.events.specs.declared.event.Event.{Event}
use Rattle.traffic.specs.{Frames.Ascends, Lists.below, Lists.numbers}
use Rattle.event_merge.specs.Lists.{IsApart, AreApart, CanMerge}

all_ascend : (told : ℕ → List Event) → ((p : ℕ) → Ascends (told p)) → (k n : ℕ) → Each Ascends (map told (numbers k n))
all_ascend told h k zero = tt
all_ascend told h k (suc n) = (h k, all_ascend told h (k + 1) n)

-- no two of the lists of so many partitions share a key
abbrev pub ShareNone : (ℕ → List Event) → ℕ → Type 0
ShareNone told parts = (p q : ℕ) → p < parts → q < parts → (a b : Event) → Contains (told p) a → Contains (told q) b → a.key ≡ b.key → p ≡ q

one_apart : (told : ℕ → List Event) (parts : ℕ) → ShareNone told parts → (p : ℕ) → p < parts → (k n : ℕ) → p < k → k + n ≤ parts → Each (IsApart (told p)) (map told (numbers k n))
one_apart told parts h p lt k zero less le = tt
one_apart told parts h p lt k (suc n) less le =
    (λ a b x y e. let q = h p k lt (omega arith) a b x y e in omega arith, one_apart told parts h p lt (k + 1) n (omega arith) (omega arith))

all_apart : (told : ℕ → List Event) (parts : ℕ) → ShareNone told parts → (k n : ℕ) → k + n ≤ parts → AreApart (map told (numbers k n))
all_apart told parts h k zero le = tt
all_apart told parts h k (suc n) le = (one_apart told parts h k (omega arith) (k + 1) n (omega arith) (omega arith), all_apart told parts h (k + 1) n (omega arith))

pub parts_can_merge : (told : ℕ → List Event) (parts : ℕ) → ((p : ℕ) → Ascends (told p)) → ShareNone told parts → CanMerge (map told (below parts))
parts_can_merge told parts ascend apart = record { ascend = all_ascend told ascend 0 parts; apart = all_apart told parts apart 0 parts (omega arith) }
