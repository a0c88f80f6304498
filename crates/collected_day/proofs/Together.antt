-- All partitions at one second.
use Rattle.std.proofs.Common.{◌≡◌, ℕ, ◌+◌, ◌<◌, ◌≤◌, List, arith, subst}
use Rattle.step_core.specs.{Nets.Net, Views.PartView, declared.part.Border.Border}
use Rattle.workers.specs.{Running.IsRunning, declared.days.Running.Running}
use Rattle.collected_day.specs.{Spans.IsUnderWay, declared.spans.TheConstants.SPAN_SECONDS}

module _ {T R P : Type 0} (net : R → Net) (borders : R → ℕ → List Border) (nothing : P) (see : T → PartView P)
    (stands : R → T → Type 0) (spent : T → Type 0) (right : R → ℕ → ℕ → ℕ → P → Type 0) (run : R) where
  pub goes_on : (t until : ℕ) (running new : Running T R P) → IsUnderWay net borders nothing see stands spent right run t running
      → t < (net run).end → until ≤ (net run).end → (until < (net run).end → until ≡ t + SPAN_SECONDS)
      → IsRunning net borders nothing see stands spent right run until new
      → IsUnderWay net borders nothing see stands spent right run until new
  goes_on t until running new h early within next ran =
      let w = h.whole early in
      record {
        running = ran;
        within = within;
        whole = λ before. (w.0 + 1, let e = next before in let b = w.1 in omega arith);
      }

  -- at the end
  pub at_end : (t : ℕ) (running : Running T R P) → IsUnderWay net borders nothing see stands spent right run t running
      → (net run).end ≤ t → IsRunning net borders nothing see stands spent right run (net run).end running
  at_end t running h over =
      let le = h.within in
      let e : t ≡ (net run).end = omega arith in
      subst (λ (s : ℕ). IsRunning net borders nothing see stands spent right run s running) e h.running
