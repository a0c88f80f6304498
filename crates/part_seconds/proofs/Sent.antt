-- What a day says of the parcels of one of its partitions.
use Rattle.traffic.proofs.Common.{◌≡◌, ℕ, ◌<◌, List, length, map, false, ap, ◌∙◌, arith, Setup, person_of}
use Rattle.traffic.specs.declared.world.Person.{Person}
use Rattle.town.specs.{Views.setup, declared.day_input.DayInput.DayInput}
use Rattle.law_in_range.{proofs.Days.chosen_fit, proofs.Towns.town_fit, specs.Setups.IsFitSetup, specs.Setups.HaveFittingPlans, specs.Setups.counts_in}
use Rattle.law_matches_plans.proofs.Towns.{town_sound, town_consistent}
use Rattle.law_sound_setups.specs.{Consistent.IsConsistentSetup, Setups.IsSoundSetup}
use Rattle.parts.specs.Owners.{Owner}
use Rattle.law_partitions.proofs.Setting.{lawful, alighting, are_local}
use Rattle.law_partitions.specs.{Laws.IsOwner, Premises.Lawful, Premises.Arrivals}
use Rattle.law_own_seconds.specs.Seconds.{world_driven}
use Rattle.law_own_worlds.{proofs.Days.follows, specs.Days.world_before, specs.OwnWorlds.set_out}
use Rattle.law_parcels.{proofs.Ending.second, proofs.Sending.sends, specs.Sending.sent_rows, specs.Sending.is_gone, specs.Sending.SendsParcels}
use Rattle.node_move.specs.declared.crossings.Entering.{Entering}
use Rattle.node_seconds.specs.Networks.{is_among}
use Rattle.part_nodes.specs.Phase.{entering_of}
use Rattle.part_persons.specs.declared.persons.Persons.{Persons}
use Rattle.part_seconds.{proofs.Went.went, proofs.Without.same_go, specs.Leaving.AreWithout, specs.Leaving.HaveGone, specs.Sending.all_gone}

module _ (day : DayInput) (own : Owner) (parts p t : ℕ) (given : HaveFittingPlans day) (shares : IsOwner own parts) where
  abbrev S : Setup
  S = setup day

  sound : IsSoundSetup S
  sound = town_sound day (chosen_fit day given)

  consistent : IsConsistentSetup S
  consistent = town_consistent day (chosen_fit day given)

  law : Lawful S
  law = lawful S sound consistent

  arrivals : Arrivals S
  arrivals = alighting S sound consistent

  fit : IsFitSetup (counts_in day) S
  fit = town_fit day (chosen_fit day given)

  pub day_sends : SendsParcels S own p t
  day_sends =
      sends S own p t (counts_in day) law arrivals fit
      (follows S own parts p t (counts_in day) (are_local S sound consistent own parts shares) fit)

  pub day_goes : (es : List Entering) (ns gone : List ℕ) (old new : Persons) → old.world.persons ≡ (world_driven S own p t).persons
      → es ≡ map entering_of (sent_rows S own p t)
      → ((i : ℕ) → is_among i ns ≡ false
      → person_of i (set_out S own p t (world_before S own p t)) ≡ person_of i (world_before S own p t))
      → gone ≡ all_gone S own p t old.world.persons es ns
      → AreWithout (λ i. is_among i gone) old new
      → HaveGone S own p t old new
  day_goes es ns gone old new persons rows same e went_out =
      same_go (λ i. is_among i gone) (is_gone S own p t) old new went_out
      (λ i lt.
      let many : length (world_driven S own p t).persons ≡ length S.persons
      = (second S own p t (counts_in day) law arrivals fit).after_links.one_each in
      let there : i < length S.persons = (let a = ap length persons in omega (arith, lt, a, many)) in
      ap (is_among i) (e ∙ ap (λ (ps : List Person). all_gone S own p t ps es ns) persons)
      ∙ went S own p t (counts_in day) law arrivals fit es ns rows same i there)
