-- Hooks on which numbers hang, one from another.
use Rattle.std.specs.Prelude.{◌≡◌, ℕ, zero, suc, ◌<◌, ◌==◌, false, List, [], ◌∷◌, ◌++◌, length, get_or, set, reverse, Option, None, Some}
use Rattle.std.specs.List.{AllByRecursion as Each}
use Rattle.calendar.specs.declared.by_second.Hook.{Hook}

-- a hook, or an empty one where there is none
abbrev pub hook_at : List Hook → ℕ → Hook
hook_at hooks j = get_or hooks j (record { number = 0; next = None })

-- the numbers that hang from a hook, the last one first, at most so many
unfoldable pub walk : List Hook → ℕ → Option ℕ → List ℕ
walk hooks zero head = []
walk hooks (suc n) None = []
walk hooks (suc n) (Some j) = (hook_at hooks j).number ∷ walk hooks n (hook_at hooks j).next

-- the numbers that hang from a hook, in the order in which they came
abbrev pub numbers_at : List Hook → Option ℕ → List ℕ
numbers_at hooks head = reverse (walk hooks (length hooks) head)

-- the last of hook j and those that hang from it, where this one is behind it and at most so many are
unfoldable pub last_from : List Hook → ℕ → ℕ → Option ℕ → ℕ
last_from hooks zero j next = j
last_from hooks (suc n) j None = j
last_from hooks (suc n) j (Some i) = last_from hooks n i (hook_at hooks i).next

-- the last of the hooks that hang from that of a second, where it has one
abbrev pub last_at : List Hook → Option ℕ → ℕ
last_at hooks head = last_from hooks (length hooks) 0 head

-- the hooks when those of which hook j is the last are free, before those that were
abbrev pub freed_from : List Hook → Option ℕ → ℕ → List Hook
freed_from hooks free j = set hooks j (record { number = 0; next = free })

-- the hooks when those that hang from that of a second, where it has one, are free, before those that were
abbrev pub given_back : List Hook → Option ℕ → Option ℕ → List Hook
given_back hooks free None = hooks
given_back hooks free (Some j) = freed_from hooks free (last_at hooks (Some j))

-- the first hook that is free then
abbrev pub first_free : Option ℕ → Option ℕ → Option ℕ
first_free free None = free
first_free free (Some j) = Some j

-- a number is hung up: on the first hook that is free, or on a new one
abbrev pub IsHooked : Hook → Option ℕ → List Hook → ℕ → Option ℕ → List Hook → Type 0
IsHooked hook None old j free new = (j ≡ length old) × (free ≡ None) × (new ≡ old ++ hook ∷ [])
IsHooked hook (Some i) old j free new = (j ≡ i) × (free ≡ (hook_at old i).next) × (new ≡ set old i hook)

-- none of these is j
abbrev pub IsNew : ℕ → List ℕ → Type 0
IsNew j js = Each (λ (i : ℕ). (j == i) ≡ false) js

-- these hooks, each once and each owned by this second, or by none, hang from this one, each from the one before it
abbrev pub IsChain : (ℕ → Option ℕ) → Option ℕ → List Hook → Option ℕ → List ℕ → Type 0
IsChain owner who hooks head [] = head ≡ None
IsChain owner who hooks head (j ∷ js) =
    (head ≡ Some j) × (j < length hooks) × (owner j ≡ who) × IsNew j js × IsChain owner who hooks (hook_at hooks j).next js

-- from the hook of each second hang its own, and from the first that is free others that are free
pub record AreLaid (heads : ℕ → Option ℕ) (hooks : List Hook) (free : Option ℕ) : Type 0 where
  pub owner : ℕ → Option ℕ
  pub row : ℕ → List ℕ
  pub rest : List ℕ
  pub rows : (u : ℕ) → IsChain owner (Some u) hooks (heads u) (row u)
  pub others : IsChain owner None hooks free rest
