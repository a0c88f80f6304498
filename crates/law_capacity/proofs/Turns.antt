-- All moves of a second, one after the other.
use Rattle.traffic.proofs.Common.{◌≡◌, ℕ, List, ◌∙◌, refl, sym, [], ◌∷◌, ◌<◌, Phase, turns_of, turns_in, moves_of, through, after, count_of, run, World, Setup}
use Rattle.traffic.proofs.{Moments.Along, Moments.along_append, Sublists.run-append, Walks.along_is, Walks.phase_walk}
use Rattle.traffic.specs.declared.moves.Move.{Move}
use Rattle.law_capacity.specs.Moves.{moves_in}

-- each move of these phases is such, where each move of their turns is
pub phases_along : (F : World → Move → Type 0) (S : Setup) (t : ℕ) → ((p : Phase) (n : ℕ) (W : World) → n < count_of S p → Along F S t (turns_of S t p n W) W) → (ps : List Phase) (W : World) → Along F S t (moves_in S t ps W) W
unfolding moves_in
phases_along F S t f [] W = tt
phases_along F S t f (p ∷ ps) W =
    along_append F S t (moves_of (turns_in S t p W)) _ W (phase_walk (λ V ms. Along F S t ms V) S t p (along_is F S t) (f p) W) (phases_along F S t f ps (after S t (turns_in S t p W) W))

pub through_moves : (S : Setup) (t : ℕ) (ps : List Phase) (W : World) → through S t ps W ≡ run S t (moves_in S t ps W) W
unfolding through moves_in
through_moves S t [] W = refl
through_moves S t (p ∷ ps) W =
    let us = turns_in S t p W in
    through_moves S t ps (after S t us W) ∙ sym (run-append S t (moves_of us) (moves_in S t ps (after S t us W)) W)
