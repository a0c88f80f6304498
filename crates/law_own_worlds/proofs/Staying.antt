-- A fit world stays fit through the second of a partition.
use Rattle.traffic.proofs.Common.{ℕ, ◌<◌, List, [], ◌∷◌, sym, subst, arith, length, eqb, Phase, Setup, World, run, turns, turns_of, after, moves_of, through}
use Rattle.traffic.proofs.{Common.count_of, Common.below, Each.each_kept, Each.each_number, Sublists.run-append}
use Rattle.std.specs.List.{AllByRecursion as Each}
use Rattle.events.specs.declared.event.Phase.TheVariants as phase
use Rattle.law_in_range.proofs.{Kept.run_fit, Seconds.turn_fit, Seconds.through_fit}
use Rattle.law_in_range.specs.{Rows.Counts, Rows.IsFitWorld, Setups.IsFitSetup}
use Rattle.parts.specs.Owners.{Owner, owner_of}
use Rattle.law_partitions.specs.Alone.{first_of, my_nodes, my_links, my_runs}
use Rattle.law_own_worlds.specs.OwnWorlds.{left, set_out, crossed, driven, StaysFit}

-- some turns of a phase
turns_fit : (z : Counts) (S : Setup) (t : ℕ) (p : Phase) (ns : List ℕ) (W : World) → IsFitSetup z S → IsFitWorld z W
    → Each (λ (n : ℕ). n < count_of S p) ns → IsFitWorld z (after S t (turns S t (turns_of S t p) ns W) W)
unfolding turns
turns_fit z S t p [] W f h there = h
turns_fit z S t p (n ∷ ns) W f h there =
    let ms = turns_of S t p n W in
    let next = run S t ms W in
    let fit = run_fit z S t ms W f h (turn_fit z S t n p W f h there.0) in
    subst (λ (X : World). IsFitWorld z X) (sym (run-append S t ms (moves_of (turns S t (turns_of S t p) ns next)) W))
    (turns_fit z S t p ns next f fit there.1)

module _ (z : Counts) (S : Setup) (own : Owner) (p t : ℕ) (V : World) (f : IsFitSetup z S) (h : IsFitWorld z V) where
  left_fit : IsFitWorld z (left S t V)
  unfolding through
  left_fit = through_fit z S t (phase.A ∷ phase.B1 ∷ []) V f h

  set_out_fit : IsFitWorld z (set_out S own p t V)
  unfolding turns_of
  set_out_fit =
      let n = length S.departures in
      turns_fit z S t phase.B2 (my_runs S own p) (left S t V) f left_fit
      (each_kept (λ (d : ℕ). d < n) (λ (d : ℕ). eqb (owner_of S own (first_of S d)) p) (below n) (each_number n 0 n (omega arith)))

  crossed_fit : IsFitWorld z (crossed S own p t V)
  unfolding turns_of
  crossed_fit =
      let n = S.nodes in
      turns_fit z S t phase.C (my_nodes S own p) (set_out S own p t V) f set_out_fit
      (each_kept (λ (m : ℕ). m < n) (λ (m : ℕ). eqb (own m) p) (below n) (each_number n 0 n (omega arith)))

  driven_fit : IsFitWorld z (driven S own p t V)
  unfolding turns_of
  driven_fit =
      let n = length S.links in
      turns_fit z S t phase.D (my_links S own p) (crossed S own p t V) f crossed_fit
      (each_kept (λ (l : ℕ). l < n) (λ (l : ℕ). eqb (owner_of S own l) p) (below n) (each_number n 0 n (omega arith)))

  pub stays_fit : StaysFit z S own p t V
  stays_fit = record { left_is = left_fit; set_out_is = set_out_fit; crossed_is = crossed_fit; driven_is = driven_fit }
