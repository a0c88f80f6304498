-- Moves that put nobody's vehicle anywhere, and what lists they leave.
use Rattle.traffic.proofs.Common.{◌≡◌, ℕ, List, refl, [], ◌∷◌, arith, true, ◌++◌, ◌+◌, Bool, inl, inr, ◌≤◌, false, suc, zero, drop, cases_Bool, sum_by-append}
use Rattle.traffic.proofs.Common.{sum_by-cons, flat_map, map, filter, ◌&&◌, if◌then◌else◌, waiting, on_front, without_at, at_after_all, at_second, same}
use Rattle.traffic.proofs.{Common.at_after, Common.on, Common.listed, Common.listed_in, Each.each_weaker}
use Rattle.traffic.specs.declared.moves.Move.{Move, TheVariants.Transfer, TheVariants.Remove, TheVariants.Enter, TheVariants.SetFrontSince}
use Rattle.traffic.specs.declared.{stage.Stage.Stage, stage.Stage.TheVariants.Queue, stage.Stage.TheVariants.Buffer, world.Row.Row}
use Rattle.std.specs.List.{AllByRecursion as Each}
use Rattle.law_one_place.proofs.Places.{rides}
use Rattle.parts.specs.Parts.{enters_queue}

pub listed-cons : (i : ℕ) (r : Row) (rs : List Row) → listed i (r ∷ rs) ≡ rides i r.vehicle + listed i rs
listed-cons i r rs = sum_by-cons (listed_in i) r rs

pub listed-append : (i : ℕ) (xs ys : List Row) → listed i (xs ++ ys) ≡ listed i xs + listed i ys
listed-append i xs ys = sum_by-append (listed_in i) xs ys

pub listed-waiting : (i l : ℕ) (p : Row → Bool) (rows : List Row) → listed i (map (waiting l) (filter p rows)) ≤ listed i rows
listed-waiting i l p [] = omega arith
listed-waiting i l p (r ∷ rs) =
    let a = listed-cons i r rs in
    let b = listed-waiting i l p rs in
    elim (cases_Bool (p r)) [
      | inl e ↦ rw e (let c = listed-cons i (waiting l r) (map (waiting l) (filter p rs)) in omega arith)
      | inr e ↦ rw e (omega arith)
    ]

-- a move by which his vehicle comes nowhere
abbrev pub Carries : ℕ → Move → Type 0
Carries i (Transfer a s k was now) = rides i now.vehicle ≡ 0
Carries i (Enter now) = rides i now.vehicle ≡ 0
Carries i _ = Unit {0}

abbrev pub Spare : ℕ → List Move → Type 0
Spare i ms = Each (Carries i) ms

-- WHAT LISTS ARE LEFT
listed-without : (i k : ℕ) (xs : List Row) → listed i (without_at k xs) ≤ listed i xs
listed-without i k [] = omega arith
listed-without i zero (x ∷ xs) = let a = listed-cons i x xs in omega arith
listed-without i (suc k) (x ∷ xs) = let a = listed-cons i x xs in let b = listed-cons i x (without_at k xs) in let c = listed-without i k xs in omega arith

listed-cut : (i k : ℕ) (b : Bool) (xs : List Row) → listed i (if b then without_at k xs else xs) ≤ listed i xs
listed-cut i k true xs = listed-without i k xs
listed-cut i k false xs = omega arith

pub listed-one : (i : ℕ) (b : Bool) (now : Row) → rides i now.vehicle ≡ 0 → listed i (if b then now ∷ [] else []) ≡ 0
listed-one i true now h = let c = listed-cons i now [] in omega arith
listed-one i false now h = refl

listed-front : (i t : ℕ) (b : Bool) (xs : List Row) → listed i (if b then on_front (at_second t) xs else xs) ≤ listed i xs
listed-front i t false xs = omega arith
listed-front i t true [] = omega arith
listed-front i t true (x ∷ xs) = let a = listed-cons i x xs in let b = listed-cons i (at_second t x) xs in omega arith

-- a move that brings nothing of his into one list
abbrev pub Brings : ℕ → ℕ → Stage → Move → Type 0
Brings i l s (Transfer a z k was now) = listed i (if on l s now then now ∷ [] else []) ≡ 0
Brings i l s (Enter now) = listed i (if on l s now then now ∷ [] else []) ≡ 0
Brings i l s _ = Unit {0}

pub spare-brings : (i l : ℕ) (s : Stage) (m : Move) → Carries i m → Brings i l s m
spare-brings i l s (Transfer a z k was now) h = listed-one i (on l s now) now h
spare-brings i l s (Enter now) h = listed-one i (on l s now) now h
spare-brings i l s _ h = tt

pub one-left : (i l : ℕ) (s : Stage) (m : Move) (xs : List Row) → Brings i l s m → listed i (at_after l s m xs) ≤ listed i xs
one-left i l s (Transfer a z k was now) xs h =
    let c = listed-cut i k (same l s a z) xs in let e = listed-append i (if same l s a z then without_at k xs else xs) (if on l s now then now ∷ [] else []) in omega arith
one-left i l s (Remove a z k was) xs h = listed-cut i k (same l s a z) xs
one-left i l s (Enter now) xs h = let e = listed-append i xs (if on l s now then now ∷ [] else []) in omega arith
one-left i l s (SetFrontSince a u) xs h = listed-front i u (same l s a Buffer) xs
one-left i l s _ xs h = omega arith

pub brings-left : (i l : ℕ) (s : Stage) (ms : List Move) (xs : List Row) → Each (Brings i l s) ms → listed i (at_after_all l s ms xs) ≤ listed i xs
brings-left i l s [] xs h = omega arith
brings-left i l s (m ∷ ms) xs h = let a = one-left i l s m xs h.0 in let b = brings-left i l s ms (at_after l s m xs) h.1 in omega arith

pub spare-left : (i l : ℕ) (s : Stage) (ms : List Move) (xs : List Row) → Spare i ms → listed i (at_after_all l s ms xs) ≤ listed i xs
spare-left i l s ms xs h = brings-left i l s ms xs (each_weaker (Carries i) (Brings i l s) (spare-brings i l s) ms h)

spare-enter : (i : ℕ) (pass : ℕ → Bool) (m : Move) → Carries i m → listed i (enters_queue pass m) ≡ 0
spare-enter i pass (Transfer a z k was now) h = listed-one i (pass now.link && on now.link Queue now) now h
spare-enter i pass _ h = refl

pub spare-enters : (i : ℕ) (pass : ℕ → Bool) (ms : List Move) → Spare i ms → listed i (flat_map (enters_queue pass) ms) ≡ 0
spare-enters i pass [] h = refl
spare-enters i pass (m ∷ ms) h =
    let d = spare-enter i pass m h.0 in let e = listed-append i (enters_queue pass m) (flat_map (enters_queue pass) ms) in let r = spare-enters i pass ms h.1 in omega arith

pub listed-drop : (i k : ℕ) (xs : List Row) → listed i (drop k xs) ≤ listed i xs
listed-drop i zero xs = omega arith
listed-drop i (suc k) [] = omega arith
listed-drop i (suc k) (x ∷ xs) = let a = listed-cons i x xs in let b = listed-drop i k xs in omega arith
