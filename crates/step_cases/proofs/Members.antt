-- A bundle of one member.
use Rattle.std.proofs.Common.{◌≡◌, ℕ, zero, suc, ◌<◌, List, [], ◌∷◌, length, slice_index_or, sym, ap, ◌∙◌, refl, subst, arith}
use Rattle.cells.specs.declared.board.Board.{Board}
use Rattle.step_core.specs.{Views.PartView, declared.part.Border.Border}
use Rattle.workers.specs.{Members.IsMember, Members.AreMembers, declared.members.Member.Member, declared.members.ParcelsOf.ParcelsOf}

one_at : {A : Type 0} (x d : A) (i : ℕ) → i < 1 → slice_index_or (x ∷ []) i d ≡ x
one_at x d zero lt = refl
one_at x d (suc i) lt = absurd (omega arith)

pub one_member : {T R P : Type 0} (until : ℕ) (borders : R → ℕ → List Border) (nothing : P)
    (see : T → PartView P) (stands : R → T → Type 0) (spent : T → Type 0)
    (right : R → ℕ → ℕ → ℕ → P → Type 0) (run : R) (b : Board (ParcelsOf T) R P) (ms : List (Member T R P)) (m : Member T R P)
    → ms ≡ m ∷ [] → IsMember until borders nothing see stands spent right run b m
    → AreMembers until borders nothing see stands spent right run b ms
one_member {T} {R} {P} until borders nothing see stands spent right run b ms m e is i d lt = let long = ap length e in
    subst (λ (x : Member T R P). IsMember until borders nothing see stands spent right run b x)
    (sym (ap (λ (xs : List (Member T R P)). slice_index_or xs i d) e ∙ one_at m d i (omega arith))) is
