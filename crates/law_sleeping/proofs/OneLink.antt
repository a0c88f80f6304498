-- The turns of all links, seen from one link: only its own counts.
use Rattle.std.proofs.Common.{◌≡◌, ◌≢◌, ℕ, zero, suc, ◌+◌, ◌<◌, ◌≤◌, List, [], ◌++◌, ap, sym, ◌∙◌, eqb, arith, inl, inr}
use Rattle.std.{proofs.lemmas.Bool.cases_Bool, proofs.lemmas.Bool.eqb-true, proofs.lemmas.Bool.eqb-false, specs.List.flat_map}
use Rattle.traffic.proofs.Links.{link-at}
use Rattle.traffic.specs.{Day.link_turns, Frames.AreAt, Lists.numbers, Rows.World, Setup.Setup, declared.moves.Move.Move}

-- of what moves make one after the other of something at the link, and of which the moves of other links change nothing
module _ {X : Type 0} (F : List Move → X → X) (S : Setup) (t m : ℕ) (V : World) (append : (xs ys : List Move) (x : X) → F (xs ++ ys) x ≡ F ys (F xs x))
    (other : (l : ℕ) (ms : List Move) (x : X) → m ≢ l → AreAt l ms → F ms x ≡ x) where
  pub none_of : (k count : ℕ) (x : X) → ((l : ℕ) → k ≤ l → l < k + count → m ≢ l) → F (flat_map (λ l. link_turns S t l V) (numbers k count)) x ≡ x
  none_of k zero x away = other (suc m) [] x (λ q. omega arith) tt
  none_of k (suc count) x away =
      let later = flat_map (λ l. link_turns S t l V) (numbers (k + 1) count) in
      append (link_turns S t k V) later x
      ∙ ap (F later) (other k (link_turns S t k V) x (away k (omega arith) (omega arith)) (link-at S t k V))
      ∙ none_of (k + 1) count x (λ l low high. away l (omega arith) (omega arith))

  pub one_of : (k count : ℕ) (x : X) → k ≤ m → m < k + count → F (flat_map (λ l. link_turns S t l V) (numbers k count)) x ≡ F (link_turns S t m V) x
  one_of k zero x low high = absurd (omega arith)
  one_of k (suc count) x low high =
      let later = flat_map (λ l. link_turns S t l V) (numbers (k + 1) count) in
      append (link_turns S t k V) later x
      ∙ elim (cases_Bool (eqb k m)) [
        | inl e ↦
            none_of (k + 1) count (F (link_turns S t k V) x) (λ l behind within same. let here = eqb-true k m e in omega arith)
            ∙ ap (λ (l : ℕ). F (link_turns S t l V) x) (eqb-true k m e)
        | inr e ↦
            let apart : k ≢ m = eqb-false k m e in
            ap (F later) (other k (link_turns S t k V) x (λ same. apart (sym same)) (link-at S t k V))
            ∙ one_of (k + 1) count x (omega arith) (omega arith)
      ]
