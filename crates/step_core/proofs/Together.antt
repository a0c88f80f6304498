-- A core in which all partitions have done as many seconds.
use Rattle.std.proofs.Common.{◌≡◌, ℕ, ◌+◌, ◌-◌, ◌<◌, ◌≤◌, Bool, List, length, get_or, refl, subst, subst₂, arith}
use Rattle.std.specs.Prelude.{true, false, ◌==◌, ◌%◌, if◌then◌else◌}
use mathlib.Core.Logic.{dite}
use native.Mathlib.Decide.{dec_lt}
use Rattle.step_core.specs.{Cores.IsCore, Cores.AllAt, Cores.AreRound, Cores.done_at, Cores.number_in_round, Nets.Net, Nets.IsNet, Nets.MayStep, Views.PartView}
use Rattle.step_core.specs.{Views.IsAt, Views.EachAt, declared.part.Border.Border, declared.wheel.Wheel.Wheel}

-- each of them stands after so many
pub each_at : {T P : Type 0} (nothing : P) (N : Net) (borders : ℕ → List Border) (see : T → PartView P) (stands spent : T → Type 0)
    (right : ℕ → ℕ → ℕ → P → Type 0) (done : List ℕ) (stopped : List Bool) (tables : List (List Border)) (parts : List T)
    (wheels : List (Wheel P)) (t : ℕ) → IsCore nothing N borders see stands spent right done stopped tables parts wheels
    → AllAt N.parts t done stopped → EachAt nothing see stands t (λ p. length (borders p)) N.parts parts
each_at nothing N borders see stands spent right done stopped tables parts wheels t core at p d lt =
    subst₂ (λ (s : ℕ) (rows : List Border). IsAt nothing see stands p s (length rows) (get_or parts p d)) (at.all p lt) (core.given p lt)
    (core.members p d lt (at.goes p lt))

-- an order of so many partitions
pub record IsOrder (count : ℕ) (turn : ℕ → ℕ) : Type 0 where
  pub there : (k : ℕ) → k < count → turn k < count
  pub place : (p : ℕ) → p < count → (k : ℕ) × (k < count) × (turn k ≡ p)
  pub once : (j k : ℕ) → j < count → k < count → turn j ≡ turn k → j ≡ k

to_or_fro : (forwards : Bool) (count : ℕ) → IsOrder count (λ k. if forwards then k else count - 1 - k)
to_or_fro true count = record { there = λ k lt. lt; place = λ p lt. (p, lt, refl); once = λ j k _ _ same. same }
to_or_fro false count = record {
  there = λ k lt. omega arith;
  place = λ p lt. (count - 1 - p, omega arith, omega arith);
  once = λ j k lj lk same. omega arith;
}

pub to_and_fro : (count t : ℕ) → IsOrder count (number_in_round count t)
to_and_fro count t = to_or_fro (t % 2 == 0) count

-- in a round nobody is behind by a lag
pub may_in_round : (turn : ℕ → ℕ) (N : Net) (k t : ℕ) (done : List ℕ) (stopped : List Bool) → IsNet N → IsOrder N.parts turn
    → AreRound turn N.parts k t done stopped → k < N.parts → t < N.end → MayStep N (turn k) (done_at done)
may_in_round turn N k t done stopped net order round there before =
    let here = round.behind k (omega arith) there in
    record {
      is_part = order.there k there;
      before_end = omega arith;
      heard = λ q n.
          let some = net.some q (turn k) n in
          let (j, lt, is) = order.place q (net.there q (turn k) n).0 in
          subst (λ (x : ℕ). done_at done (turn k) < done_at done x + N.lag q (turn k)) is
          (dite (dec_lt j k)
          (λ less. let e = round.before j less in omega arith)
          (λ more. let e = round.behind j (omega arith) lt in omega arith));
    }

-- when the last one had its turn, all have stepped
pub round_over : (turn : ℕ → ℕ) (count k t : ℕ) (done : List ℕ) (stopped : List Bool) → IsOrder count turn → count ≤ k
    → AreRound turn count k t done stopped → AllAt count (t + 1) done stopped
round_over turn count k t done stopped order over round = record {
  all = λ p lt. let (j, lj, is) = order.place p lt in subst (λ (x : ℕ). done_at done x ≡ t + 1) is (round.before j (omega arith));
  goes = round.goes;
}
