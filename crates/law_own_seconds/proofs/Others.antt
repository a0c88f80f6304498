-- Nobody is on the links of other partitions in the own world of a partition, before nodes let vehicles pass.
use Rattle.traffic.proofs.Common.{◌≡◌, ℕ, Bool, true, false, not, List, [], ◌∷◌, ◌∙◌, ap, refl, sym, subst, inl, inr, cases_Bool, eqb, eqb-true, flat_map}
use Rattle.traffic.proofs.Common.{filter, Option, Some, None, length, Setup, at, moves_of, below, Untouched, landing_moves, leaving_moves, departure_moves}
use Rattle.traffic.proofs.{Common.world_at, Common.person_of, Sublists.at_after_all-untouched, Sublists.Untouched-append, Walks.flight_walk}
use Rattle.traffic.{proofs.Walks.departure_walk, specs.declared.moves.Move.Move, specs.declared.stage.Stage.Stage, specs.declared.stage.Stage.TheVariants.Queue}
use Rattle.traffic.specs.declared.{stage.Stage.TheVariants.Buffer, stage.Stage.TheVariants.Wait, stage.Stage.TheVariants.Bay, world.Person.Person}
use Rattle.law_in_range.specs.{Rows.Counts, Setups.IsFitSetup}
use Rattle.parts.specs.{Owners.Owner, Owners.owner_of, Parts.Held, Parts.mine, Parts.has, Parts.unheard, Parts.ready}
use Rattle.law_partitions.proofs.{Begins.person1, Begins.moves_of-parts, Calms.calm, Early.A_world, Ends.less, Heard.late_of, Heard.within, Heard.heard}
use Rattle.law_partitions.{proofs.Home.leave_away, proofs.Second.held_run-list, specs.Alone.acts, specs.Alone.first_of}
use Rattle.law_partitions.specs.{Alone.my_runs, Alone.A_part, Alone.B1_part, Alone.B2_part, Alone.after_A, Alone.after_B1, Alone.early, Premises.Lawful}
use Rattle.law_own_worlds.{proofs.Knowing.ready_known, proofs.Making.made, specs.Days.world_before, specs.Days.is_there, specs.OwnWorlds.IsSecondOf}
use Rattle.law_own_seconds.specs.{Others.OthersAreEmpty, Seconds.held_early, Seconds.world_early}

-- WHO SETS OUT
all_untouched : (l : ℕ) (plan : ℕ → List Move) → ((n : ℕ) → Untouched l Wait (plan n)) → (ns : List ℕ) → Untouched l Wait (flat_map plan ns)
all_untouched l plan h [] = tt
all_untouched l plan h (n ∷ ns) = Untouched-append l Wait (plan n) (flat_map plan ns) (h n) (all_untouched l plan h ns)

act_untouched : (l : ℕ) (f : ℕ → Person → List Move) (i : ℕ) (b : Bool) (P : Person) (o : Option Person) → o ≡ mine b P
    → (b ≡ true → Untouched l Wait (f i P)) → Untouched l Wait (acts f i o)
act_untouched l f i true P o e h = subst (λ (x : Option Person). Untouched l Wait (acts f i x)) (sym e) (h refl)
act_untouched l f i false P o e h = subst (λ (x : Option Person). Untouched l Wait (acts f i x)) (sym e) tt

landing_untouched : (S : Setup) (t i l : ℕ) (P : Person) → Untouched l Wait (landing_moves S t i P)
landing_untouched S t i l P = flight_walk (λ ms. Untouched l Wait ms) S t i P tt (λ mode seconds start p w e. (refl, tt))

lands_untouched : (S : Setup) (t i l : ℕ) (o : Option Person) → Untouched l Wait (acts (landing_moves S t) i o)
lands_untouched S t i l None = tt
lands_untouched S t i l (Some P) = landing_untouched S t i l P

start_untouched : (S : Setup) (t d l : ℕ) → eqb (first_of S d) l ≡ false → Untouched l Wait (departure_moves S t d)
start_untouched S t d l ne = departure_walk (λ ms. Untouched l Wait ms) S t d tt (λ f. (rw ne refl, tt))

other_link : (S : Setup) (own : Owner) (p a l : ℕ) → eqb (owner_of S own a) p ≡ true → eqb (owner_of S own l) p ≡ false → eqb a l ≡ false
other_link S own p a l e off =
    elim (cases_Bool (eqb a l)) [
      | inl q ↦
          absurd (let z : true ≡ false = sym e ∙ ap (λ (x : ℕ). eqb (owner_of S own x) p) (eqb-true a l q) ∙ off in cc)
      | inr q ↦ q
    ]

runs_untouched : (S : Setup) (own : Owner) (p t l : ℕ) → eqb (owner_of S own l) p ≡ false → (ds : List ℕ)
    → Untouched l Wait (flat_map (departure_moves S t) (filter (λ d. eqb (owner_of S own (first_of S d)) p) ds))
runs_untouched S own p t l off [] = tt
runs_untouched S own p t l off (d ∷ ds) =
    elim (cases_Bool (eqb (owner_of S own (first_of S d)) p)) [
      | inl e ↦
          simp e (Untouched-append l Wait (departure_moves S t d) _ (start_untouched S t d l (other_link S own p (first_of S d) l e off))
          (runs_untouched S own p t l off ds))
      | inr e ↦ simp e (runs_untouched S own p t l off ds)
    ]

module _ (S : Setup) (own : Owner) (p t : ℕ) (z : Counts) (law : Lawful S) (fit : IsFitSetup z S)
    (second : IsSecondOf S own p t (is_there S own p t) (ready S own p t) (world_before S own p t)) where
  abbrev H : Held
  H = ready S own p t

  abbrev H1 : Held
  H1 = after_A S t H

  abbrev H2 : Held
  H2 = after_B1 S t H1

  abbrev mine_p : ℕ → Bool
  mine_p = has S own (less S own) p t

  none_held : (l : ℕ) (s : Stage) → eqb (owner_of S own l) p ≡ false → H.list l s ≡ []
  unfolding unheard
  none_held l s off = rw off refl

  -- who is there after phase A
  there1 : (i : ℕ) → H1.person i ≡ mine (mine_p i) (person_of i (A_world S t (world_at S t)))
  there1 i =
      person1 S own p t (late_of S own (less S own) p t) mine_p H (heard S own (less S own) p t (within S own law.long)) (calm S own p t law) i

  leaves_untouched : (l i : ℕ) → eqb (owner_of S own l) p ≡ false → Untouched l Wait (acts (leaving_moves S t) i (H1.person i))
  leaves_untouched l i off =
      let P = person_of i (A_world S t (world_at S t)) in
      act_untouched l (leaving_moves S t) i (mine_p i) P (H1.person i) (there1 i)
      (λ e. leave_away S own p t l i law ((heard S own (less S own) p t (within S own law.long)).there i e) (off ∙ ap not (sym e)))

  wait1 : (l : ℕ) → eqb (owner_of S own l) p ≡ false → H1.list l Wait ≡ []
  wait1 l off =
      let f = λ (i : ℕ). acts (landing_moves S t) i (H.person i) in
      held_run-list S t l Wait (moves_of (A_part S t H)) H
      ∙ at_after_all-untouched l Wait (moves_of (A_part S t H)) (H.list l Wait)
      (subst (λ (ms : List Move). Untouched l Wait ms) (sym (moves_of-parts f (below (length S.persons))))
      (all_untouched l f (λ i. lands_untouched S t i l (H.person i)) (below (length S.persons))))
      ∙ none_held l Wait off

  wait2 : (l : ℕ) → eqb (owner_of S own l) p ≡ false → H2.list l Wait ≡ []
  wait2 l off =
      let f = λ (i : ℕ). acts (leaving_moves S t) i (H1.person i) in
      held_run-list S t l Wait (moves_of (B1_part S t H1)) H1
      ∙ at_after_all-untouched l Wait (moves_of (B1_part S t H1)) (H1.list l Wait)
      (subst (λ (ms : List Move). Untouched l Wait ms) (sym (moves_of-parts f (below (length S.persons))))
      (all_untouched l f (λ i. leaves_untouched l i off) (below (length S.persons))))
      ∙ wait1 l off

  wait3 : (l : ℕ) → eqb (owner_of S own l) p ≡ false → (held_early S own p t).list l Wait ≡ []
  wait3 l off =
      held_run-list S t l Wait (moves_of (B2_part S own p t)) H2
      ∙ at_after_all-untouched l Wait (moves_of (B2_part S own p t)) (H2.list l Wait)
      (subst (λ (ms : List Move). Untouched l Wait ms) (sym (moves_of-parts (departure_moves S t) (my_runs S own p)))
      (runs_untouched S own p t l off (below (length S.departures))))
      ∙ wait2 l off

  at_start : (l : ℕ) (s : Stage) → eqb (owner_of S own l) p ≡ false → at l s (world_before S own p t) ≡ []
  at_start l s off = sym ((made S own p t H (ready_known S own p t z fit)).world.list l s) ∙ none_held l s off

  set_out_at : (l : ℕ) (s : Stage) → eqb (owner_of S own l) p ≡ false → at l s (world_early S own p t) ≡ []
  set_out_at l Wait off = sym (second.after_departures.list l Wait) ∙ wait3 l off
  set_out_at l Queue off = second.lists l Queue refl ∙ at_start l Queue off
  set_out_at l Buffer off = second.lists l Buffer refl ∙ at_start l Buffer off
  set_out_at l Bay off = second.lists l Bay refl ∙ at_start l Bay off

  pub others_empty : OthersAreEmpty S own p t
  others_empty = record { start = at_start; early = set_out_at }
