-- The members of a run as they are made, and its partitions at the end.
use Rattle.std.proofs.Common.{◌≡◌, ℕ, ◌+◌, ◌<◌, true, false, List, [], ◌∷◌, ◌++◌, map, length, get_or, slice_index_or, sym, ap, ◌∙◌, subst, inl, refl, arith}
use Rattle.std.proofs.{Common.length-append, lemmas.List.get_or_push, lemmas.List.get_or_append_left}
use mathlib.Core.Logic.{dite}
use native.Mathlib.Decide.{ℕ_discrete}
use Rattle.cells.specs.declared.board.Board.{Board}
use Rattle.cells.specs.Ports.{IsPort, degree, handover, partition_of, done_of, waits, still, is_awaited}
use Rattle.step_core.specs.{Views.PartView, Views.IsAt, Views.EachAt, declared.part.Border.Border}
use Rattle.workers.specs.Members.{Rests, IsMember, AreMembers, AreAll, AllEnd, is_stopped, number_of, seconds_of}
use Rattle.workers.specs.{Parcels.right_or_none, declared.members.Member.Member, declared.members.ParcelsOf.ParcelsOf}

module _ {T R P : Type 0} where
  pub all_more : (n : ℕ) (ms : List (Member T R P)) (x : Member T R P) → AreAll n ms → number_of x ≡ n
      → AreAll (n + 1) (ms ++ x ∷ [])
  all_more n ms x all is = let l = length-append ms (x ∷ []) in let m = all.many in record {
    many = omega arith;
    numbered = λ i d lt. dite (ℕ_discrete i (length ms))
        (λ e. ap number_of (get_or_push ms x d i (sym e)) ∙ (is ∙ (sym m ∙ sym e)))
        (λ ne. ap number_of (get_or_append_left ms (x ∷ []) d i (omega arith)) ∙ all.numbered i d (omega arith));
  }

  pub level_more : (t : ℕ) (ms : List (Member T R P)) (x : Member T R P) → AllEnd t ms → is_stopped x ≡ false → seconds_of x ≡ t
      → AllEnd t (ms ++ x ∷ [])
  level_more t ms x level goes at i d lt = let n = length-append ms (x ∷ []) in
      let F : Member T R P → Type 0 = λ z. (is_stopped z ≡ false) × (seconds_of z ≡ t) in dite (ℕ_discrete i (length ms))
      (λ e. subst F (sym (get_or_push ms x d i (sym e))) (goes, at))
      (λ ne. subst F (sym (get_or_append_left ms (x ∷ []) d i (omega arith))) (level i d (omega arith)))

  -- where all are at the end, so is each
  pub ends_at : (end : ℕ) (ms : List (Member T R P)) (k : ℕ) (m : Member T R P) → k < length ms → slice_index_or ms k m ≡ m
      → AllEnd end ms → (is_stopped m ≡ false) × (seconds_of m ≡ end)
  ends_at end ms k m lt is all = let w = all k m lt in
      subst (λ (x : Member T R P). (is_stopped x ≡ false) × (seconds_of x ≡ end)) is w

  -- some member of a list that is not empty
  pub one_of : {A : Type 0} (ms : List (Member T R P)) → 0 < length ms → (Member T R P → A) → A
  one_of [] lt f = absurd (omega arith)
  one_of (m ∷ ms) lt f = f m

pub map_itself : {X : Type 0} (xs : List X) → map (λ x. x) xs ≡ xs
map_itself [] = refl
map_itself (x ∷ xs) = ap (λ ys. x ∷ ys) (map_itself xs)

-- PARTITIONS BEFORE THEIR FIRST SECOND
module _ {T P : Type 0} (nothing : P) (see : T → PartView P) (stands : T → Type 0) (degree : ℕ → ℕ) where
  pub none_at : (xs : List T) → EachAt nothing see stands 0 degree 0 xs
  none_at xs p d lt = absurd (omega arith)

  -- one more of them
  pub each_next : (n : ℕ) (xs ys : List T) (x : T) → length xs ≡ n → EachAt nothing see stands 0 degree n xs
      → IsAt nothing see stands n 0 (degree n) x → ys ≡ xs ++ x ∷ [] → EachAt nothing see stands 0 degree (n + 1) ys
  each_next n xs ys x long each at is p d lt = dite (ℕ_discrete p n)
      (λ e. subst (λ z. IsAt nothing see stands p 0 (degree p) z) (sym (ap (λ l. get_or l p d) is ∙ get_or_push xs x d p (long ∙ sym e)))
      (subst (λ q. IsAt nothing see stands q 0 (degree q) x) (sym e) at))
      (λ ne. subst (λ z. IsAt nothing see stands p 0 (degree p) z)
      (sym (ap (λ l. get_or l p d) is ∙ get_or_append_left xs (x ∷ []) d p (omega arith)))
      (each p d (omega arith)))

  -- those before the last one
  pub each_front : (xs : List T) (x : T) → EachAt nothing see stands 0 degree (length (xs ++ x ∷ [])) (xs ++ x ∷ [])
      → EachAt nothing see stands 0 degree (length xs) xs
  each_front xs x each p d lt = let n = length-append xs (x ∷ []) in
      subst (λ z. IsAt nothing see stands p 0 (degree p) z) (get_or_append_left xs (x ∷ []) d p (omega arith)) (each p d (omega arith))

  -- and the last one
  pub last_at : (k : ℕ) (xs : List T) (x : T) → k ≡ length xs
      → EachAt nothing see stands 0 degree (length (xs ++ x ∷ [])) (xs ++ x ∷ []) → IsAt nothing see stands k 0 (degree k) x
  last_at k xs x e each = let n = length-append xs (x ∷ []) in
      subst (λ z. IsAt nothing see stands k 0 (degree k) z) (get_or_push xs x x k (sym e)) (each k x (omega arith))

  pub each_all : (xs ys : List T) → xs ≡ ys → EachAt nothing see stands 0 degree (length ys) ys
      → EachAt nothing see stands 0 degree (length xs) xs
  each_all xs ys e each = subst (λ (l : List T). EachAt nothing see stands 0 degree (length l) l) (sym e) each

module _ {T R P : Type 0} (until : ℕ) (borders : R → ℕ → List Border) (nothing : P) (see : T → PartView P) (stands : R → T → Type 0)
    (right : R → ℕ → ℕ → ℕ → P → Type 0) (run : R) (b : Board (ParcelsOf T) R P) where
  -- a partition at the start with its new port
  pub starts : (m : Member T R P) (n : ℕ) → IsPort (right_or_none nothing right) b m.port → partition_of m.port ≡ n → done_of m.port ≡ 0
      → ((k : ℕ) → k < degree m.port → is_awaited (handover m.port k) ≡ true) → waits m.port ≡ 0 → still m.port ≡ 0
      → IsAt nothing see (stands run) n 0 (length (borders run n)) m.part → Rests until borders nothing see stands right run b m
  starts m n port partition done awaited w s at = record {
    port = port;
    untouched = λ k lt. inl (awaited k lt);
    at = subst (λ (t : ℕ). IsAt nothing see (stands run) (number_of m) t (length (borders run (number_of m))) m.part) (sym done)
        (subst (λ (p : ℕ). IsAt nothing see (stands run) p 0 (length (borders run p)) m.part) (sym partition) at);
    within = omega arith;
    counts = omega arith;
  }

module _ {T R P : Type 0} (until : ℕ) (borders : R → ℕ → List Border) (nothing : P) (see : T → PartView P) (stands : R → T → Type 0)
    (spent : T → Type 0) (right : R → ℕ → ℕ → ℕ → P → Type 0) (run : R) (b : Board (ParcelsOf T) R P) where
  pub members_more : (ms : List (Member T R P)) (x : Member T R P) → AreMembers until borders nothing see stands spent right run b ms
      → IsMember until borders nothing see stands spent right run b x → AreMembers until borders nothing see stands spent right run b
      (ms ++ x ∷ [])
  members_more ms x are is i d lt = let n = length-append ms (x ∷ []) in dite (ℕ_discrete i (length ms))
      (λ e. subst (λ (z : Member T R P). IsMember until borders nothing see stands spent right run b z) (sym (get_or_push ms x d i (sym e)))
      is)
      (λ ne. subst (λ (z : Member T R P). IsMember until borders nothing see stands spent right run b z)
      (sym (get_or_append_left ms (x ∷ []) d i (omega arith)))
      (are i d (omega arith)))

  pub end_of : (t p : ℕ) (m : Member T R P) → IsMember until borders nothing see stands spent right run b m → is_stopped m ≡ false
      → seconds_of m ≡ t → number_of m ≡ p → IsAt nothing see (stands run) p t (length (borders run p)) m.part
  end_of t p m is alive at name = let r : Rests until borders nothing see stands right run b m = is.rests alive in
      subst (λ (s : ℕ). IsAt nothing see (stands run) p s (length (borders run p)) m.part) at
      (subst (λ (n : ℕ). IsAt nothing see (stands run) n (seconds_of m) (length (borders run n)) m.part) name r.at)
