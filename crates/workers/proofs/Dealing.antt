-- Members in any order, and their partitions by number.
use Rattle.std.proofs.Common.{◌≡◌, ◌≢◌, ℕ, zero, suc, ◌+◌, ◌<◌, ◌≤◌, ◌⊎◌, inl, inr, ⊎_elim, false, List, [], ◌∷◌, ◌++◌, length, get_or, slice_index_or}
use Rattle.std.proofs.Common.{swap_remove, Contains, IsPermutation, sym, ap, ◌∙◌, subst, arith, length-append}
use Rattle.std.proofs.lemmas.List.{get_or_push, get_or_append_left, get_or_default, Elements.Contains-push, Elements.Contains-append_left}
use Rattle.std.proofs.lemmas.List.Sorted.{IsPermutation-sym, IsPermutation-swap_remove, Contains-permutation}
use mathlib.Core.Logic.{dite}
use native.Mathlib.Decide.{ℕ_discrete}
use Rattle.cells.specs.declared.board.Board.{Board}
use Rattle.step_core.specs.{Views.PartView, Views.IsAt, Views.EachAt, declared.part.Border.Border}
use Rattle.workers.proofs.{Resting.rests_within, Starting.one_of, Starting.end_of}
use Rattle.workers.specs.Members.{IsMember, AreMembers, AreAll, AllEnd, AllGo, is_stopped, number_of, seconds_of}
use Rattle.workers.specs.{Sharing.HasOne, Sharing.IsPartIn, Sharing.ArePartsOf, declared.members.Member.Member, declared.members.ParcelsOf.ParcelsOf}

module _ {X : Type 0} where
  in_rest : (x : X) (ys : List X) (m : X) → Contains ys m → Contains (x ∷ ys) m
  in_rest x ys m c = let lt = c.1 in (suc c.0, omega arith, c.2)

  at_head : (x : X) (ys : List X) (m : X) (k : ℕ) → k < length (x ∷ ys) → slice_index_or (x ∷ ys) k m ≡ m → (x ≡ m) ⊎ Contains ys m
  at_head x ys m zero lt is = inl is
  at_head x ys m (suc k) lt is = inr (k, omega arith, is)

  taken : (left new : List X) (place : ℕ) (x : X) → place < length left → x ≡ slice_index_or left place x
      → new ≡ swap_remove left place x → IsPermutation left (x ∷ new)
  taken left new place x lt at is = subst (λ ys. IsPermutation left (x ∷ ys)) (sym is) (IsPermutation-swap_remove left place x lt at)

module _ {T R P : Type 0} where
  pub no_parts : (ms : List (Member T R P)) (parts : List T) → parts ≡ [] → ArePartsOf ms 0 parts
  no_parts ms parts is = record { many = ap length is; each = λ p d lt. absurd (omega arith) }

  -- one member more: that of partition n, with this part
  pub part_more : (ms : List (Member T R P)) (x : Member T R P) (n : ℕ) (parts : List T) (y : T) → ArePartsOf ms n parts
      → number_of x ≡ n → x.part ≡ y → ArePartsOf (ms ++ x ∷ []) (n + 1) (parts ++ y ∷ [])
  part_more ms x n parts y own name is = let long = own.many in let l = length-append parts (y ∷ []) in record {
    many = omega arith;
    each = λ p d lt. dite (ℕ_discrete p n)
        (λ e. (x, Contains-push ms x, name ∙ sym e, get_or_push parts y d p (long ∙ sym e) ∙ sym is))
        (λ ne. let o = own.each p d (omega arith) in (
          o.0,
          Contains-append_left ms (x ∷ []) o.0 o.1,
          o.2,
          get_or_append_left parts (y ∷ []) d p (omega arith) ∙ o.3,
        ));
  }

  -- one member more was taken out of those that are left: that of partition n
  pub next_part : (ms left new : List (Member T R P)) (n count place : ℕ) (x : Member T R P) (parts more : List T)
      → ArePartsOf ms n parts → ((p : ℕ) → n ≤ p → p < count → HasOne p left) → ((m : Member T R P) → Contains left m → Contains ms m)
      → place < length left → x ≡ slice_index_or left place x → number_of x ≡ n → new ≡ swap_remove left place x
      → more ≡ parts ++ x.part ∷ []
      → ArePartsOf ms (n + 1) more × ((p : ℕ) → n + 1 ≤ p → p < count → HasOne p new)
      × ((m : Member T R P) → Contains new m → Contains ms m)
  next_part ms left new n count place x parts more done rest all lt at name is push =
      let perm = taken left new place x lt at is in let long = done.many in (
        record {
          many = ap length push ∙ (let l = length-append parts (x.part ∷ []) in
              let q : length (parts ++ x.part ∷ []) ≡ n + 1 = omega arith in q);
          each = λ p d lp. dite (ℕ_discrete p n)
              (λ e. (
                x,
                all x (place, lt, sym at),
                name ∙ sym e,
                ap (λ z. get_or z p d) push ∙ get_or_push parts x.part d p (long ∙ sym e),
              ))
              (λ ne. let o = done.each p d (omega arith) in (
                o.0,
                o.1,
                o.2,
                ap (λ z. get_or z p d) push ∙ get_or_append_left parts (x.part ∷ []) d p (omega arith) ∙ o.3,
              ));
        },
        (λ p le lc. let w = rest p (omega arith) lc in
            let c : Contains (x ∷ new) w.0 = Contains-permutation left (x ∷ new) w.0 perm w.1 in
            ⊎_elim (λ e. absurd (let same : number_of x ≡ number_of w.0 = ap number_of e in let q = w.2 in omega arith))
            (λ i. (w.0, i, w.2)) (at_head x new w.0 c.0 c.1 c.2)),
        (λ m i. all m (Contains-permutation (x ∷ new) left m (IsPermutation-sym left (x ∷ new) perm) (in_rest x new m i))),
      )

  -- where some member is that of a partition, it is found
  pub none_of : (left seen : List (Member T R P)) (n : ℕ) → HasOne n left → seen ≡ left
      → ((i : ℕ) (d : Member T R P) → i < length seen → number_of (slice_index_or seen i d) ≢ n) → ⊥
  none_of left seen n w is others =
      subst (λ (zs : List (Member T R P)). ((i : ℕ) (d : Member T R P) → i < length zs → number_of (slice_index_or zs i d) ≢ n) → ⊥) (sym is)
      (λ none. none w.1.0 w.0 w.1.1 (ap number_of w.1.2 ∙ w.2)) others

  -- members of all partitions, in another order
  pub shared_has : (n : ℕ) (xs ys : List (Member T R P)) → AreAll n xs → IsPermutation xs ys → (p : ℕ) → p < n → HasOne p ys
  shared_has n xs ys all perm p lt = let many = all.many in one_of xs (omega arith) (λ e.
      let m : Member T R P = slice_index_or xs p e in let there : p < length xs = omega arith in
      (m, Contains-permutation xs ys m perm (p, there, get_or_default xs p m e there), all.numbered p e there))

  -- and with the same parts
  pub shared_parts : (n : ℕ) (xs ys : List (Member T R P)) (parts : List T) → IsPermutation xs ys → ArePartsOf xs n parts
      → ArePartsOf ys n parts
  shared_parts n xs ys parts perm own = record {
    many = own.many;
    each = λ p d lt. let o = own.each p d lt in (o.0, Contains-permutation xs ys o.0 perm o.1, o.2, o.3);
  }

  -- and later
  pub still_has : (ys zs : List (Member T R P)) (p : ℕ) → AllGo ys zs → HasOne p ys → HasOne p zs
  still_has ys zs p go w =
      let m : Member T R P = w.0 in let c : Contains ys m = w.1 in let z : Member T R P = slice_index_or zs c.0 m in
      let long = go.long in let l = c.1 in (
        z,
        (c.0, omega arith, get_or_default zs c.0 z m (omega arith)),
        (go.each c.0 m c.1).number ∙ (ap number_of c.2 ∙ w.2),
      )

  pub shared_level : (t : ℕ) (xs ys : List (Member T R P)) → IsPermutation xs ys → AllEnd t xs → AllEnd t ys
  shared_level t xs ys perm level i d lt =
      let m : Member T R P = slice_index_or ys i d in
      let c : Contains xs m = Contains-permutation ys xs m (IsPermutation-sym xs ys perm) (i, lt, get_or_default ys i m d lt) in
      subst (λ (z : Member T R P). (is_stopped z ≡ false) × (seconds_of z ≡ t)) c.2 (level c.0 m c.1)

module _ {T R P : Type 0} (until : ℕ) (borders : R → ℕ → List Border) (nothing : P) (see : T → PartView P) (stands : R → T → Type 0)
    (spent : T → Type 0) (right : R → ℕ → ℕ → ℕ → P → Type 0) (run : R) (b : Board (ParcelsOf T) R P) where
  pub shared_members : (xs ys : List (Member T R P)) → IsPermutation xs ys
      → AreMembers until borders nothing see stands spent right run b xs → AreMembers until borders nothing see stands spent right run b ys
  shared_members xs ys perm are i d lt =
      let m : Member T R P = slice_index_or ys i d in
      let c : Contains xs m = Contains-permutation ys xs m (IsPermutation-sym xs ys perm) (i, lt, get_or_default ys i m d lt) in
      subst (λ (z : Member T R P). IsMember until borders nothing see stands spent right run b z) c.2 (are c.0 m c.1)

  -- members that are all at one second are so up to any second that this is not beyond
  pub members_within : (t v : ℕ) (ms : List (Member T R P)) → AreMembers until borders nothing see stands spent right run b ms
      → AllEnd t ms → t ≤ v → AreMembers v borders nothing see stands spent right run b ms
  members_within t v ms are level le i d lt =
      let m : Member T R P = slice_index_or ms i d in
      let a : IsMember until borders nothing see stands spent right run b m = are i d lt in
      let e = (level i d lt).1 in
      record {
        rests = λ goes. rests_within until borders nothing see stands right run b v m (a.rests goes) (omega arith);
        poor = a.poor;
      }

  -- the partition of a member among those that are all at one second
  part_at : (t p : ℕ) (ms : List (Member T R P)) (x : T) → AreMembers until borders nothing see stands spent right run b ms
      → AllEnd t ms → IsPartIn p ms x → IsAt nothing see (stands run) p t (length (borders run p)) x
  part_at t p ms x are level w =
      let m : Member T R P = w.0 in let c : Contains ms m = w.1 in let e = level c.0 m c.1 in
      subst (λ (z : T). IsAt nothing see (stands run) p t (length (borders run p)) z) (sym w.3)
      (end_of until borders nothing see stands spent right run b t p m
      (subst (λ (z : Member T R P). IsMember until borders nothing see stands spent right run b z) c.2 (are c.0 m c.1))
      (subst (λ (z : Member T R P). is_stopped z ≡ false) c.2 e.0)
      (subst (λ (z : Member T R P). seconds_of z ≡ t) c.2 e.1) w.2)

  pub all_at : (t n : ℕ) (ms : List (Member T R P)) → AreMembers until borders nothing see stands spent right run b ms
      → AllEnd t ms → (parts : List T) → ArePartsOf ms n parts → EachAt nothing see (stands run) t (λ p. length (borders run p)) n parts
  all_at t n ms are level parts all p d lt = part_at t p ms (get_or parts p d) are level (all.each p d lt)
