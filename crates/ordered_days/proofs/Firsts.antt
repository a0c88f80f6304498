-- A partition before its first second, of which nobody has heard yet.
use Rattle.std.proofs.Common.{◌≡◌, ℕ, ◌∙◌, ap, List, arith, length, sym, subst}
use Rattle.step_core.specs.Nets.{Net, IsNet, AreBorders, border_at}
use Rattle.step_core.specs.{Views.PartView, Views.AreEmpty, Views.HasHeard, Views.IsAt, declared.part.Border.Border}

module _ {T P : Type 0} (nothing : P) (see : T → PartView P) (stands : T → Type 0) (borders : ℕ → List Border) (p : ℕ) (x : T)
    (at : IsAt nothing see stands p 0 (length (borders p)) x) where
  pub heard_at_first : (right : ℕ → ℕ → ℕ → P → Type 0) (N : Net) → IsNet N → AreBorders N p (borders p)
      → HasHeard nothing right (see x).number (see x).seconds (borders (see x).number) (see x).inbox
  heard_at_first right N net found =
      let first : HasHeard nothing right p 0 (borders p) (see x).inbox
      = λ k lt. record {
        came = λ le.
            absurd (let l = found.lags k lt in let s = net.some (border_at (borders p) k).neighbour p (found.each k lt) in omega arith);
        none = λ early. at.empty.none k lt;
      } in
      subst (λ (n : ℕ). HasHeard nothing right n (see x).seconds (borders n) (see x).inbox) (sym at.number)
      (subst (λ (t : ℕ). HasHeard nothing right p t (borders p) (see x).inbox) (sym at.seconds) first)

  pub places_at_first : length (see x).inbox ≡ length (borders (see x).number)
  places_at_first = at.empty.many ∙ ap (λ (n : ℕ). length (borders n)) (sym at.number)

  pub gone_at_first : AreEmpty nothing (length (borders (see x).number)) (see x).outbox
  gone_at_first = subst (λ (n : ℕ). AreEmpty nothing (length (borders n)) (see x).outbox) (sym at.number) at.gone
