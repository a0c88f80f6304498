-- Members that were cut into lists.
use Rattle.std.{proofs.Common.ℕ, proofs.Common.◌+◌, proofs.Common.List, proofs.Common.sym, proofs.Common.subst, proofs.Common.arith, specs.Fork.IsChunk}
use Rattle.cells.specs.declared.board.Board.{Board}
use Rattle.step_core.specs.{Views.PartView, declared.part.Border.Border}
use Rattle.workers.specs.{Members.IsMember, Members.AreMembers, declared.members.Member.Member, declared.members.ParcelsOf.ParcelsOf}

module _ {T R P : Type 0} (until : ℕ) (borders : R → ℕ → List Border) (nothing : P) (see : T → PartView P) (stands : R → T → Type 0)
    (spent : T → Type 0) (right : R → ℕ → ℕ → ℕ → P → Type 0) (run : R) (b : Board (ParcelsOf T) R P) where
  pub chunk_members : (xs ys : List (Member T R P)) (size start : ℕ) → AreMembers until borders nothing see stands spent right run b xs
      → IsChunk xs size start ys → AreMembers until borders nothing see stands spent right run b ys
  chunk_members xs ys size start all is i d lt = let within = is.in_bounds in
      subst (λ (m : Member T R P). IsMember until borders nothing see stands spent right run b m) (sym (is.elements i d lt))
      (all (start + i) d (omega arith))
