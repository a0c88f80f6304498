-- A second before which nothing came, and in which nobody of a part has anything to do, changes nothing.
use Rattle.traffic.proofs.Common.{◌≡◌, ℕ, suc, ◌<◌, List, [], ◌∷◌, ◌++◌, ◌∙◌, ap, refl, sym, arith, inl, inr, cases_Bool, length, Setup}
use Rattle.town.specs.{Views.setup, declared.day_input.DayInput.DayInput}
use Rattle.law_in_range.specs.{Rows.Counts, Setups.IsFitSetup, Setups.counts_in, Setups.HaveFittingPlans}
use Rattle.law_sound_setups.specs.{Consistent.IsConsistentSetup, Setups.IsSoundSetup}
use Rattle.law_own_worlds.specs.Days.{world_before}
use Rattle.law_partitions.specs.Laws.{IsOwner}
use Rattle.law_parcels.specs.Worlds.{world_held, LetsGo}
use Rattle.law_parts_of_days.proofs.Worlds.{fit_setup, sound_setup, consistent_setup}
use Rattle.parts.specs.{Owners.Owner as Owning, Parts.held, Parts.ready, Parts.out, Parts.Parcel as Sent}
use Rattle.partition.specs.{Owned.owner_in, declared.owner.Owner.Owner}
use Rattle.step_core.specs.{Nets.border_at, Views.HasHeard, declared.part.Border.Border}
use Rattle.divided_day.specs.{Days.borders_in, Slots.AreSlots}
use Rattle.part_persons.specs.declared.persons.Persons.{Persons}
use Rattle.node_seconds.specs.Networks.{is_among}
use Rattle.part_seconds.proofs.{Idle.HasNoTurns, Idle.no_turns, Right.right_parcel, Sent.day_sends, Sent.day_goes}
use Rattle.part_seconds.specs.{Contents.parcel_of, Leaving.AreWithout, Leaving.HaveGone, Parcels.nothing, Parcels.HasNothing, Resting.IsAtRest}
use Rattle.part_seconds.specs.{Stands.AreaStands, declared.area.Area.Area, declared.contents.Contents.Contents}
use Rattle.parted_day.proofs.{Going.next_stands, Kept.none_more, Rounds.MakeReady, Rounds.AreBetween, Rounds.TakeIn, Rounds.quiet, Rounds.finished}
use Rattle.parted_day.{proofs.Sending.are_others, proofs.Telling.all_told_in, specs.Absorbed.IsRight}
use Rattle.parted_day.specs.{Rest.ChangesNothing, Strays.strays_in, Strays.comes_too_late, Strays.strays_to, Strays.strays_over, declared.straying.Stray.Stray}

-- what the law of worlds says of all setups
abbrev pub LetGo : Type 0
LetGo =
    (S : Setup) (own : Owning) (parts p t : ℕ) (z : Counts) → IsSoundSetup S → IsConsistentSetup S → IsOwner own parts
    → IsFitSetup z S → LetsGo S own p t

-- NOBODY GOES
nobody_goes : (persons : Persons) → AreWithout (λ i. is_among i []) persons persons
nobody_goes persons = record {
  each = λ i lt. refl;
  count = refl;
  rest = refl;
  followed = λ S end t f. f;
  wakes = refl;
}

-- NOBODY STRAYS
-- who goes with a parcel with nothing in it
none_to : (S : Setup) (own : Owning) (p t q : ℕ) → parcel_of S t nothing ≡ out S own p q t → strays_to S own p t q ≡ []
none_to S own p t q e =
    elim (cases_Bool (comes_too_late S own p q t)) [
      | inl late ↦ rw late (ap (λ (x : Sent). strays_in t x) (sym e))
      | inr on_time ↦ rw on_time refl
    ]

none_over : (S : Setup) (own : Owning) (p t : ℕ) (borders : List Border)
    → ((k : ℕ) → k < length borders → parcel_of S t nothing ≡ out S own p (border_at borders k).neighbour t)
    → strays_over S own p t borders ≡ []
none_over S own p t [] h = refl
none_over S own p t (b ∷ borders) h =
    ap (λ (xs : List Stray). xs ++ strays_over S own p t borders) (none_to S own p t b.neighbour (h 0 (omega arith)))
    ∙ none_over S own p t borders (λ k lt. h (suc k) (omega arith))

-- THE SECOND
module _ (day : DayInput) (owner : Owner) (given : HaveFittingPlans day) (p t : ℕ) (slots : List ℕ)
    (are : AreSlots (setup day) (owner_in owner.of_node) slots) (in_day : t < day.town.now.settings.end_second) (A : Area)
    (idle : IsAtRest t A) where
  abbrev S : Setup
  S = setup day

  abbrev own : Owning
  own = owner_in owner.of_node

  abbrev rows : List Border
  rows = borders_in day owner p

  module _ (g : HasNoTurns day own p t A) where
    -- the parcel for each neighbour is the one with nothing in it
    nothing_goes : (k : ℕ) → k < length rows → parcel_of S t nothing ≡ out S own p (border_at rows k).neighbour t
    nothing_goes k lt =
        right_parcel S own p t k rows (are_others day owner given p rows refl) lt [] [] []
        (day_sends day own owner.parts p t given owner.owned) g.rows g.looked g.others g.freed

    nobody_gone : HaveGone S own p t A.persons A.persons
    nobody_gone =
        day_goes day own owner.parts p t given owner.owned [] [] [] A.persons A.persons g.stands.persons.persons g.rows g.others refl
        (nobody_goes A.persons)

    behind : LetGo → ChangesNothing day owner p t A
    behind lets = record {
      stands = next_stands day own p t given
          (lets S own owner.parts p t (counts_in day) (sound_setup day given) (consistent_setup day given) owner.owned
          (fit_setup day given))
          A A.persons g.stands nobody_gone;
      told = sym (all_told_in S own p t [] [] [] [] g.early g.crossed g.driven);
      sent = λ parcels none k lt. ap (parcel_of S t) (none k) ∙ nothing_goes k lt;
      strays = λ strays was. none_more S own owner.parts p t strays was (none_over S own p t rows nothing_goes);
    }

  pub rest_is_nothing : MakeReady → AreBetween → TakeIn → LetGo → (inbox : List Contents)
      → AreaStands day own p t t t A (held S own p t) (world_held S own p t)
      → HasHeard nothing (IsRight S own) p t rows inbox → HasNothing inbox → ChangesNothing day owner p t A
  rest_is_nothing makes between takes lets inbox h heard none =
      let n = length rows in
      let before : AreaStands day own p t t t A (ready S own p t) (world_before S own p t)
      = finished day owner given p t slots are makes between A h takes n A (omega arith)
      (quiet day owner given p t slots are makes between A h n inbox (omega arith) heard none) in
      behind (no_turns day own owner.parts p t slots given owner.owned are in_day A idle before) lets
