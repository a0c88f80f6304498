-- No queue has more rows that were not pushed in than its storage.
use Rattle.traffic.proofs.Common.{◌≡◌, ℕ, List, refl, sym, [], ◌∷◌, arith, ◌<◌, true, ◌++◌, Bool, inl, inr, subst, ◌≤◌, false, suc, zero, append-nil, ◌⊎◌, cond}
use Rattle.traffic.proofs.Common.{sum_by-cons, not, if◌then◌else◌, count_by, world_at, world_start, phases, second, without_at, run, same, at_after, World, at}
use Rattle.traffic.proofs.{Common.on, Common.Setup, Common.storage_of, Moments.along_weaker, Moments.kept_along, Sublists.on_is, Sublists.at-done}
use Rattle.traffic.{proofs.Walks.seconds_keep, specs.Worlds.Storage, specs.declared.moves.Move.Move, specs.declared.moves.Move.TheVariants.Transfer}
use Rattle.traffic.specs.declared.{moves.Move.TheVariants.Remove, moves.Move.TheVariants.Enter, stage.Stage.TheVariants.Queue, world.Row.Row}
use Rattle.std.proofs.lemmas.List.Sums.{sum_by_push, count_by-le-length}
use Rattle.law_capacity.{proofs.Elsewhere.second_rule, proofs.Turns.through_moves, specs.Moves.second_moves, specs.Moves.IsLetIn, specs.Moves.KeepsRule}

-- 1 for a row that was not pushed in
abbrev free_one : Row → ℕ
free_one r = cond (not r.vehicle.pushed) 1 0

abbrev unpushed : List Row → ℕ
unpushed xs = count_by (λ (r : Row). not r.vehicle.pushed) xs

without_less : (k : ℕ) (xs : List Row) → unpushed (without_at k xs) ≤ unpushed xs
without_less k [] = omega arith
without_less zero (x ∷ xs) = let e = sum_by-cons free_one x xs in omega arith
without_less (suc k) (x ∷ xs) = let e = sum_by-cons free_one x xs in let f = sum_by-cons free_one x (without_at k xs) in let h = without_less k xs in omega arith

cut_less : (b : Bool) (k : ℕ) (xs : List Row) → unpushed (if b then without_at k xs else xs) ≤ unpushed xs
cut_less b k xs = grind (arith, without_less k xs)

-- a row is taken out of these or not, and a row comes or does not: one for which there is room, or one that is pushed in
put_keeps : (b c : Bool) (k storage : ℕ) (xs : List Row) (now : Row) → unpushed xs ≤ storage → (c ≡ true → (unpushed xs < storage) ⊎ (now.vehicle.pushed ≡ true)) →
    unpushed ((if b then without_at k xs else xs) ++ (if c then now ∷ [] else [])) ≤ storage
put_keeps b false k storage xs now h g = let e = cut_less b k xs in rw (append-nil (if b then without_at k xs else xs)) (omega arith)
put_keeps b true k storage xs now h g =
    grind (arith, g refl, cut_less b k xs, sum_by_push free_one (if b then without_at k xs else xs) now)

-- the taken places cover the rows that were not pushed in
room : (S : Setup) (t : ℕ) (W : World) (was now : Row) → IsLetIn S t W was now → (unpushed (at now.link Queue W) < storage_of S now.link) ⊎ (now.vehicle.pushed ≡ true)
room S t W was now h =
    elim h [ inl a ↦ inl (let f = a.0 in omega (arith, count_by-le-length (λ (r : Row). not r.vehicle.pushed) (at now.link Queue W))) | inr b ↦ inr b.3 ]

move_keeps : (S : Setup) (t l : ℕ) (m : Move) (W : World) → KeepsRule S t W m → unpushed (at l Queue W) ≤ storage_of S l → unpushed (at_after l Queue m (at l Queue W)) ≤ storage_of S l
move_keeps S t l (Transfer a z k was now) W h le =
    put_keeps (same l Queue a z) (on l Queue now) k (storage_of S l) (at l Queue W) now le
    (λ e. let q = on_is l Queue now e in subst (λ (i : ℕ). (unpushed (at i Queue W) < storage_of S i) ⊎ (now.vehicle.pushed ≡ true)) q.1 (room S t W was now (h q.0).3))
move_keeps S t l (Remove a z k was) W h le = let e = cut_less (same l Queue a z) k (at l Queue W) in omega arith
move_keeps S t l (Enter now) W h le = put_keeps false (on l Queue now) 0 (storage_of S l) (at l Queue W) now le (λ e. absurd (h (on_is l Queue now e).0))
move_keeps S t l _ W h le = le

second_keeps : (S : Setup) (t : ℕ) (W : World) → Storage S W → Storage S (run S t (second_moves S t W) W)
second_keeps S t W =
    kept_along (Storage S) S t (second_moves S t W) W
    (along_weaker (KeepsRule S t) _ (λ V m h s l lt. subst (λ (xs : List Row). unpushed xs ≤ storage_of S l) (sym (at-done S t l Queue m V)) (move_keeps S t l m V h (s l lt))) S t _ W (second_rule S t W))

pub second_storage : (S : Setup) (t : ℕ) (W : World) → Storage S W → Storage S (second S t W)
second_storage S t W s = subst (Storage S) (sym (through_moves S t phases W)) (second_keeps S t W s)

pub start_storage : (S : Setup) → Storage S (world_start S)
unfolding world_start
start_storage S l lt = omega arith

pub day_storage : (S : Setup) (t : ℕ) → Storage S (world_at S t)
day_storage S t = seconds_keep (Storage S) S (second_storage S) (world_start S) t (start_storage S)
