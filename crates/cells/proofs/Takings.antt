-- How many parcels a port has taken.
use Rattle.std.proofs.Common.{◌≡◌, ◌≢◌, ℕ, ◌+◌, ◌-◌, ◌<◌, true, List, sym, ap, ◌∙◌, refl, true≢false}
use Rattle.cells.specs.Ports.{border_at, is_taken, taken_by, taken_count, handover, lag_from, degree}
use Rattle.cells.specs.declared.board.Handover.{Handover, TheVariants.Awaited, TheVariants.Arrived, TheVariants.Taken, TheVariants.Put}
use Rattle.cells.specs.declared.{board.Port.Port, table.Border.Border}

module _ {P : Type 0} where
  pub taken-taken : (l t : ℕ) (h : Handover P) → is_taken h ≡ true → taken_by l t h ≡ t + 1 - l
  taken-taken l t Awaited is = absurd (true≢false (sym is))
  taken-taken l t (Arrived x) is = absurd (true≢false (sym is))
  taken-taken l t Taken is = refl
  taken-taken l t (Put y) is = refl

module _ {T R P : Type 0} where
  -- what all sent was taken, and now nothing is held
  pub takes_next : (old mid : Port T R P) → mid.borders.items ≡ old.borders.items → mid.done ≡ old.done
      → ((k : ℕ) → k < degree old → is_taken (handover old k) ≡ true) → ((k : ℕ) → k < degree old → handover mid k ≡ Awaited)
      → (k : ℕ) → k < degree old → taken_by (lag_from mid k) (mid.done + 1) (handover mid k) ≡ taken_count old k
  takes_next old mid borders done taken away k lt =
      ap (taken_by (lag_from mid k) (mid.done + 1)) (away k lt) ∙ ap (λ (z : ℕ). z + 1 - lag_from mid k) done
      ∙ ap (λ (z : List Border). old.done + 1 - (border_at z k).lag) borders
      ∙ sym (taken-taken (lag_from old k) old.done (handover old k) (taken k lt))
