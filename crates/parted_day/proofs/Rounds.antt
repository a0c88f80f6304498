-- A part absorbs what lies in the places of its inbox, place by place.
use Rattle.traffic.proofs.Common.{◌≡◌, ℕ, zero, suc, ◌+◌, ◌-◌, ◌<◌, ◌≤◌, List, ◌∙◌, ap, refl, sym, subst, arith, inl, inr}
use Rattle.traffic.proofs.Common.{cases_lt, add-one, length, set, take, get_or-set_same, get_or-set_other, Setup}
use Rattle.std.proofs.lemmas.List.{take_all}
use Rattle.town.specs.{Views.setup, declared.day_input.DayInput.DayInput}
use Rattle.law_in_range.specs.{Rows.Counts, Setups.counts_in, Setups.HaveFittingPlans, Setups.IsFitSetup}
use Rattle.partition.specs.{Owned.owner_in, declared.owner.Owner.Owner}
use Rattle.parts.specs.{Owners.Owner as Owning, Parts.held, Parts.ready}
use Rattle.law_sound_setups.specs.{Consistent.IsConsistentSetup, Setups.IsSoundSetup}
use Rattle.law_partitions.specs.Laws.{IsOwner}
use Rattle.law_own_worlds.specs.Days.{world_before}
use Rattle.law_parcels.specs.{Hearing.HearsFrom, Hearing.IsReadyBy, Hearing.IsBetween, Worlds.world_held, Worlds.TakesIn}
use Rattle.law_parts_of_days.proofs.Worlds.{fit_setup, sound_setup, consistent_setup}
use Rattle.step_core.specs.{Nets.border_at, Views.IsHeard, Views.HasHeard, Views.in_place, declared.part.Border.Border}
use Rattle.divided_day.{proofs.Whole.borders_sound, specs.Borders.borders_of, specs.Slots.AreSlots}
use Rattle.part_seconds.specs.{Parcels.nothing, Parcels.HasNothing, Stands.AreaStands, declared.area.Area.Area, declared.contents.Contents.Contents}
use Rattle.parted_day.{specs.Absorbed.IsRight, specs.Absorbed.neighbours_at, specs.Absorbed.HasAbsorbedParcel, specs.Absorbed.HasAbsorbed, proofs.Senders.many}
use Rattle.parted_day.proofs.{Senders.neighbour_is, Senders.hears_from, Nothing.none_come, Steps.none_absorbed, Steps.absorbed_next, Ready.ready_stands}

-- what the laws of parcels say of all setups
abbrev pub MakeReady : Type 0
MakeReady =
    (S : Setup) (own : Owning) (parts p t : ℕ) (ns : List ℕ) → IsSoundSetup S → IsConsistentSetup S → IsOwner own parts
    → HearsFrom S own p ns
    → IsReadyBy S own p t ns

abbrev pub AreBetween : Type 0
AreBetween = (S : Setup) (own : Owning) (q p s : ℕ) → IsBetween S own q p s

abbrev pub TakeIn : Type 0
TakeIn =
    (S : Setup) (own : Owning) (parts p t : ℕ) (z : Counts) (ns : List ℕ) → IsSoundSetup S → IsConsistentSetup S → IsOwner own parts
    → IsFitSetup z S → HearsFrom S own p ns → TakesIn S own p t ns

-- INBOXES
-- the places before one more are empty once that one is
pub emptied_next : (inbox new : List Contents) (k : ℕ) → new ≡ set inbox k nothing → k < length inbox
    → ((j : ℕ) → j < k → in_place nothing inbox j ≡ nothing) → (j : ℕ) → j < k + 1 → in_place nothing new j ≡ nothing
emptied_next inbox new k e lt was j less =
    ap (λ (xs : List Contents). in_place nothing xs j) e
    ∙ elim (cases_lt j k) [
      | inl before ↦ get_or-set_other inbox k j nothing nothing (λ (same : j ≡ k). omega arith) ∙ was j before
      | inr behind ↦
          let same : j ≡ k = omega arith in
          ap (λ (i : ℕ). in_place nothing (set inbox k nothing) i) same ∙ get_or-set_same inbox k nothing nothing lt
    ]

pub kept_next : (inbox first new : List Contents) (k : ℕ) → new ≡ set inbox k nothing
    → ((j : ℕ) → k ≤ j → in_place nothing inbox j ≡ in_place nothing first j) → (j : ℕ) → k + 1 ≤ j
    → in_place nothing new j ≡ in_place nothing first j
kept_next inbox first new k e was j le =
    ap (λ (xs : List Contents). in_place nothing xs j) e
    ∙ get_or-set_other inbox k j nothing nothing (λ (same : j ≡ k). omega arith) ∙ was j (omega arith)

module _ (day : DayInput) (owner : Owner) (given : HaveFittingPlans day) (p t : ℕ) (slots : List ℕ)
    (are : AreSlots (setup day) (owner_in owner.of_node) slots) (makes : MakeReady) (between : AreBetween) (old : Area)
    (h : AreaStands day (owner_in owner.of_node) p t t t old (held (setup day) (owner_in owner.of_node) p t)
    (world_held (setup day) (owner_in owner.of_node) p t)) where
  abbrev S : Setup
  S = setup day

  abbrev own : Owning
  own = owner_in owner.of_node

  abbrev rows : List Border
  rows = borders_of S own owner.parts p

  abbrev all : List ℕ
  all = neighbours_at rows

  hears : HearsFrom S own p all
  hears = hears_from S own owner.parts day.town.now.settings.end_second p rows (borders_sound day owner given p)

  becomes : IsReadyBy S own p t all
  becomes = makes S own owner.parts p t all (sound_setup day given) (consistent_setup day given) owner.owned hears

  -- one place more
  pub round : (k s : ℕ) (x : Contents) (inbox : List Contents) (now new : Area) → k < length rows → s ≡ t - (border_at rows k).lag
      → HasHeard nothing (IsRight S own) p t rows inbox → x ≡ in_place nothing inbox k → HasAbsorbed day own p t (take k all) old now
      → HasAbsorbedParcel day slots s x now new → HasAbsorbed day own p t (take (k + 1) all) old new
  round k s x inbox now new lt is heard there g e =
      let b = border_at rows k in
      let borders = borders_sound day owner given p in
      let here : IsHeard nothing (IsRight S own) p t b x
      = subst (λ (y : Contents). IsHeard nothing (IsRight S own) p t b y) (sym there) (heard k lt) in
      let n = many rows in
      absorbed_next day own p t old h slots are all k b (omega arith) (neighbour_is rows k lt) (borders.each k lt) (borders.lags k lt)
      becomes
      (λ u. between S own b.neighbour p u) x now new here g (subst (λ (u : ℕ). HasAbsorbedParcel day slots u x now new) is e)

  -- nothing is in the places from this one up to that one
  pub passed : (from to : ℕ) (inbox : List Contents) (now : Area) → from ≤ to → to ≤ length rows
      → HasHeard nothing (IsRight S own) p t rows inbox → ((k : ℕ) → from ≤ k → k < to → in_place nothing inbox k ≡ nothing)
      → HasAbsorbed day own p t (take from all) old now → HasAbsorbed day own p t (take to all) old now
  passed from zero inbox now le last heard none g =
      subst (λ (n : ℕ). HasAbsorbed day own p t (take n all) old now) (let e : from ≡ zero = omega arith in e) g
  passed from (suc to) inbox now le last heard none g =
      elim (cases_lt to from) [
        | inl behind ↦ subst (λ (n : ℕ). HasAbsorbed day own p t (take n all) old now) (let e : from ≡ suc to = omega arith in e) g
        | inr before ↦
            let s = t - (border_at rows to).lag in
            let there = none to (omega arith) (omega arith) in
            let so_far = passed from to inbox now (omega arith) (omega arith) heard (λ k ge lt. none k ge (omega arith)) g in
            subst (λ (n : ℕ). HasAbsorbed day own p t (take n all) old now) (add-one to)
            (round to s nothing inbox now now (omega arith) refl heard (sym there) so_far (none_come day slots s now g.persons.wakes))
      ]

  -- nothing is in any place: the part is as it was
  pub quiet : (k : ℕ) (inbox : List Contents) → k ≤ length rows → HasHeard nothing (IsRight S own) p t rows inbox → HasNothing inbox
      → HasAbsorbed day own p t (take k all) old old
  quiet k inbox le heard none = passed 0 k inbox old (omega arith) le heard (λ j ge lt. none j) (none_absorbed day own p t old h)

  -- behind the last one
  pub finished : TakeIn → (k : ℕ) (new : Area) → length rows ≤ k → HasAbsorbed day own p t (take k all) old new
      → AreaStands day own p t t t new (ready S own p t) (world_before S own p t)
  finished takes k new le g =
      let n = many rows in
      let full : length all ≤ k = omega arith in
      ready_stands day own owner.parts p t given owner.owned all
      (takes S own owner.parts p t (counts_in day) all
      (sound_setup day given) (consistent_setup day given) owner.owned (fit_setup day given) hears)
      becomes old new h (subst (λ (ns : List ℕ). HasAbsorbed day own p t ns old new) (take_all k all full) g)
