-- Members in a list.
use Rattle.std.proofs.Common.{◌≡◌, ℕ, suc, ◌+◌, ◌<◌, List, [], ◌∷◌, ◌++◌, length, set, slice_index_or, sym, ap, ◌∙◌, subst, length-append, length-set}
use Rattle.std.proofs.{Common.get_or-set_same, Common.get_or-set_other, Common.arith, Math.ListN.get_or-append, Math.Seq.get_or-append_seam}
use mathlib.Core.Logic.{dite}
use native.Mathlib.Decide.{ℕ_discrete, dec_le}
use Rattle.std.{proofs.lemmas.List.with_items_is, specs.Vec.with_items}
use Rattle.cell_tests.specs.Members.{NumberBoard, IsMember, AreMembers, IsTrial}
use Rattle.cell_tests.specs.declared.members.{Member.Member, Trial.Trial}

-- one member more
pub members_more : (b : NumberBoard) (ms : List Member) (m : Member) → AreMembers b ms → IsMember b m → AreMembers b (ms ++ m ∷ [])
members_more b ms m all one i d lt = let l = length-append ms (m ∷ []) in dite (dec_le (suc i) (length ms))
    (λ le. subst (IsMember b) (sym (get_or-append ms (m ∷ []) d i le)) (all i d le))
    (λ no. let at : i ≡ length ms = omega arith in
    subst (IsMember b) (sym (ap (λ z. slice_index_or (ms ++ m ∷ []) z d) at ∙ get_or-append_seam ms m [] d)) one)

-- the last member, and those before it
pub members_last : (b : NumberBoard) (ms all : List Member) (m : Member) → AreMembers b all → all ≡ ms ++ m ∷ []
    → AreMembers b ms × IsMember b m × (length all ≡ length ms + 1)
members_last b ms all m are is = let l = length-append ms (m ∷ []) in let e = ap (λ (z : List Member). length z) is in (
  (λ i d lt. subst (IsMember b) (ap (λ z. slice_index_or z i d) is ∙ get_or-append ms (m ∷ []) d i lt) (are i d (omega arith))),
  subst (IsMember b) (ap (λ z. slice_index_or z (length ms) m) is ∙ get_or-append_seam ms m [] m) (are (length ms) m (omega arith)),
  omega arith,
)

-- another member in the place of one
pub members_set : (b : NumberBoard) (ms : List Member) (k : ℕ) (m : Member) → AreMembers b ms → k < length ms → IsMember b m
    → AreMembers b (set ms k m)
members_set b ms k m all below one i d lt = let l = length-set ms k m in dite (ℕ_discrete i k)
    (λ e. subst (IsMember b) (sym (ap (λ z. slice_index_or (set ms k m) z d) e ∙ get_or-set_same ms k m d below)) one)
    (λ ne. subst (IsMember b) (sym (get_or-set_other ms k i m d ne)) (all i d (omega arith)))

-- a trial whose members went on
pub trial_on : (t : Trial) (ms : List Member) → IsTrial t → length ms ≡ t.members.len → AreMembers t.board ms
    → IsTrial record t { members = with_items t.members ms }
trial_on t ms is long are = record {
  board = is.board;
  count = is.count;
  hub = is.hub;
  members = subst (AreMembers t.board) (sym (with_items_is t.members ms long)) are;
}
