-- What a partition tells second by second.
use Rattle.traffic.proofs.Common.{◌≡◌, ℕ, suc, ◌+◌, ◌-◌, Bool, true, false, List, [], ◌++◌, ◌∙◌, ap, refl, sym, arith, add-one, append_assoc, filter-append}
use Rattle.traffic.proofs.Common.{if◌then◌else◌, ◌==◌, Setup, Event, world_start, world_from, events_from, events_in, turns_in}
use Rattle.traffic.specs.Day.{second_events}
use Rattle.std.proofs.lemmas.List.{append_cancel_left}
use Rattle.events.specs.declared.event.Phase.TheVariants as phase
use Rattle.town.specs.{Setups.setup_of, Views.setup, declared.day_input.DayInput.DayInput}
use Rattle.law_in_range.specs.Setups.{HaveFittingPlans, counts_in}
use Rattle.parts.specs.{Owners.Owner as Owning, Owners.owner_of_event, Parts.own_events}
use Rattle.partition.specs.{Owned.owner_in, declared.owner.Owner.Owner}
use Rattle.law_partitions.proofs.Setting.{are_local}
use Rattle.law_own_worlds.proofs.Days.{follows}
use Rattle.law_own_worlds.specs.{Days.world_before, Days.run_turns, Days.my_node_turns, Days.my_link_turns, Days.FollowsTheDay, OwnWorlds.landed}
use Rattle.law_parts_of_days.proofs.Worlds.{fit_setup, sound_setup, consistent_setup}
use Rattle.divided_day.specs.Days.{told_at, told_in, end_told_in}
use Rattle.parted_day.specs.{Parts.HasTold, Turns.turns_told}

-- ONE SECOND
regrouped : (first a b c d e : List Event) → ((first ++ (a ++ (b ++ c))) ++ d) ++ e ≡ first ++ (a ++ (b ++ (c ++ (d ++ e))))
regrouped first a b c d e = simp append_assoc

-- what each phase told, put together
pub all_told_in : (S : Setup) (own : Owning) (p t : ℕ) (first early crossed now : List Event)
    → early ≡ first ++ (events_in t phase.A (turns_in S t phase.A (world_before S own p t))
    ++ (events_in t phase.B1 (turns_in S t phase.B1 (landed S t (world_before S own p t)))
    ++ events_in t phase.B2 (run_turns S own p t)))
    → crossed ≡ early ++ events_in t phase.C (my_node_turns S own p t)
    → now ≡ crossed ++ events_in t phase.D (my_link_turns S own p t)
    → now ≡ first ++ turns_told S own p t
all_told_in S own p t first early crossed now a b c =
    let V = world_before S own p t in
    let cs = events_in t phase.C (my_node_turns S own p t) in
    let ds = events_in t phase.D (my_link_turns S own p t) in
    c ∙ ap (λ (es : List Event). es ++ ds) (b ∙ ap (λ (es : List Event). es ++ cs) a)
    ∙ regrouped first (events_in t phase.A (turns_in S t phase.A V)) (events_in t phase.B1 (turns_in S t phase.B1 (landed S t V)))
    (events_in t phase.B2 (run_turns S own p t)) cs ds

-- THE DAY
module _ (day : DayInput) (owner : Owner) (given : HaveFittingPlans day) (p t : ℕ) where
  abbrev S : Setup
  S = setup day

  abbrev own : Owning
  own = owner_in owner.of_node

  abbrev now : List Event
  now = turns_told S own p t

  follows_day : FollowsTheDay S own p t
  follows_day =
      follows S own owner.parts p t (counts_in day)
      (are_local S (sound_setup day given) (consistent_setup day given) own owner.parts owner.owned) (fit_setup day given)

  pub next_own : own_events S own p (t + 1) ≡ own_events S own p t ++ now
  next_own = ap (own_events S own p) (add-one t) ∙ follows_day.told

  one_more : own_events S own p (suc t) ≡ own_events S own p t ++ told_at day owner p t
  unfolding own_events events_from
  one_more =
      filter-append (λ (e : Event). owner_of_event S own e == p) (events_from S (world_start S) t)
      (second_events S t (world_from S (world_start S) t))

  -- the events of a second that belong to it are what it told in it
  pub told_is : told_at day owner p t ≡ now
  told_is = append_cancel_left (own_events S own p t) (told_at day owner p t) now (sym one_more ∙ follows_day.told)

  pub told_next : (streams : Bool) (first all : List Event) → HasTold streams day owner p t first
      → all ≡ (if streams then [] else first) ++ now → HasTold streams day owner p (t + 1) all
  told_next streams first all h e =
      let second : t ≡ (t + 1) - 1 = omega arith in
      record {
        all = λ off.
            e ∙ ap (λ (b : Bool). (if b then [] else first) ++ now) off
            ∙ ap (λ (es : List Event). es ++ now) (h.all off) ∙ sym next_own;
        last = λ on some.
            e ∙ ap (λ (b : Bool). (if b then [] else first) ++ now) on ∙ sym told_is
            ∙ ap (λ (n : ℕ). told_at day owner p n) second;
      }

-- before the first second it has told nothing
pub none_told : (streams : Bool) (day : DayInput) (owner : Owner) (p : ℕ) → HasTold streams day owner p 0 []
unfolding own_events events_from
none_told streams day owner p = record { all = λ off. refl; last = λ on some. absurd (omega arith) }

-- AT THE END
end_of : (day : DayInput) → (setup day).settings.end_second ≡ day.town.now.settings.end_second
unfolding setup_of
end_of day = refl

-- what it told and was not taken, and the events of the end
pub told_in_all : (streams : Bool) (day : DayInput) (owner : Owner) (p t : ℕ) (first ended all : List Event)
    → t ≡ day.town.now.settings.end_second → HasTold streams day owner p t first → ended ≡ end_told_in day owner p
    → all ≡ (if streams then ended else first ++ ended)
    → all ≡ (if streams then end_told_in day owner p else told_in day owner p)
told_in_all true day owner p t first ended all over h e is = is ∙ e
told_in_all false day owner p t first ended all over h e is =
    let S = setup day in
    let own = owner_in owner.of_node in
    is ∙ ap (λ (es : List Event). es ++ ended) (h.all refl ∙ ap (own_events S own p) (over ∙ sym (end_of day)))
    ∙ ap (λ (es : List Event). own_events S own p S.settings.end_second ++ es) e
