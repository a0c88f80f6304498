-- What stands on the links of a partition in the course of a second, in its own world, is what the day has there.
use Rattle.traffic.proofs.Common.{◌≡◌, ℕ, ◌+◌, ◌<◌, List, [], ◌++◌, ◌∙◌, ap, refl, sym, subst, inl, inr, cases_Bool, true, false, Bool, eqb, eqb-true, eq-eqb}
use Rattle.traffic.proofs.Common.{append-nil, Setup, World, at, person_of, through, world_at, link_of_stop}
use Rattle.traffic.specs.declared.stage.Stage.TheVariants.{Queue, Buffer, Wait, Bay}
use Rattle.traffic.{specs.declared.world.Person.Person, specs.declared.world.Place.TheVariants.Waiting, specs.declared.world.Row.Row, proofs.Each.each_append}
use Rattle.std.specs.{List.AllByRecursion as Each, Prelude.is_some, Prelude.if◌then◌else◌}
use Rattle.law_in_range.specs.{Rows.Counts, Setups.IsFitSetup}
use Rattle.parts.specs.{Owners.Owner, Owners.owner_of, Owners.begins_in, Parts.Held, Parts.mine, Parts.has, Parts.unheard, Parts.ready}
use Rattle.law_partitions.proofs.{Calms.calm, Early.mid, Ends.less, Ends.sh, Heard.late_of, Home.IsHome, Home.home_mid, Second.Short}
use Rattle.law_partitions.proofs.Second.{C_world, came_in, came_late, waiters-here, queue_other, C_after-queue_own, C_after-buffer, C_after-wait, C_after-bay}
use Rattle.law_partitions.{proofs.Second.C_after-person, proofs.Second.C_waiters, specs.Alone.early, specs.Premises.Lawful}
use Rattle.law_own_worlds.specs.OwnWorlds.{IsSecondOf, set_out, crossed}
use Rattle.law_own_worlds.specs.Days.{world_before, is_there, IsAsInTheDay, StandsAsInTheDay}

had : (b : Bool) (P : Person) → is_some (mine b P) ≡ b
had true P = refl
had false P = refl

-- who is had by both
same_person : (a b : Bool) (P Q : Person) → mine a P ≡ mine b Q → a ≡ true → P ≡ Q
same_person true true P Q e h = cc
same_person true false P Q e h = absurd (cc)
same_person false b P Q e h = absurd (cc)

module _ (S : Setup) (own : Owner) (parts p t : ℕ) (z : Counts) (law : Lawful S) (fit : IsFitSetup z S)
    (second : IsSecondOf S own p t (is_there S own p t) (ready S own p t) (world_before S own p t)) where
  abbrev H : Held
  H = ready S own p t

  abbrev E : Held
  E = early S own p t H

  abbrev mine_p : ℕ → Bool
  mine_p = has S own (less S own) p t

  abbrev late : ℕ → List Row
  late = late_of S own (less S own) p t

  abbrev W : World
  W = mid S t

  abbrev U : World
  U = C_world S t W

  abbrev V3 : World
  V3 = set_out S own p t (world_before S own p t)

  abbrev V4 : World
  V4 = crossed S own p t (world_before S own p t)

  short : Short S own p t late mine_p W E
  short = sh S own p t law.long (calm S own p t law)

  owned : (l : ℕ) → owner_of S own l ≡ p → eqb (owner_of S own l) p ≡ true
  owned l o = eq-eqb (owner_of S own l) p o

  before_nodes : IsAsInTheDay S own p t W V3
  before_nodes = record {
    late = late;
    not_due = short.not_due;
    queue = λ l o. short.queue l (owned l o) ∙ ap (λ (rs : List Row). rs ++ late l) (second.after_departures.list l Queue);
    buffer = λ l o. sym (second.after_departures.list l Buffer) ∙ short.buffer l (owned l o);
    wait = λ l o. sym (second.after_departures.list l Wait) ∙ short.wait l (owned l o);
    bay = λ l o. sym (second.after_departures.list l Bay) ∙ short.bay l (owned l o);
    person = λ i e. same_person (is_there S own p t i) (mine_p i) (person_of i V3) (person_of i W)
        (sym (second.after_departures.person i) ∙ short.person i) e;
    waits = λ l o.
        sym (second.waiters_before l)
        ∙ waiters-here S l mine_p E W short.few short.person (λ i lt e. short.elsewhere l i (owned l o) e);
  }

  -- the queue of a link is short of what came from elsewhere
  abbrev late_now : ℕ → List Row
  late_now l = if eqb (begins_in S own l) p then [] else late l ++ came_in S t W l

  late_own : (l : ℕ) → eqb (begins_in S own l) p ≡ true → late_now l ≡ []
  late_own l e = rw e refl

  late_other : (l : ℕ) → eqb (begins_in S own l) p ≡ false → late_now l ≡ late l ++ came_in S t W l
  late_other l e = rw e refl

  none_due : (l : ℕ) → Each (λ (r : Row). t < r.second) (late_now l)
  none_due l =
      elim (cases_Bool (eqb (begins_in S own l) p)) [
        | inl e ↦ subst (λ (rs : List Row). Each (λ (r : Row). t < r.second) rs) (sym (late_own l e)) tt
        | inr e ↦
            subst (λ (rs : List Row). Each (λ (r : Row). t < r.second) rs) (sym (late_other l e))
            (each_append (λ (r : Row). t < r.second) (late l) (came_in S t W l) (short.not_due l) (came_late S t l W))
      ]

  queue_now : (l : ℕ) → owner_of S own l ≡ p → at l Queue U ≡ at l Queue V4 ++ late_now l
  queue_now l o =
      elim (cases_Bool (eqb (begins_in S own l) p)) [
        | inl e ↦
            sym (C_after-queue_own S own p t late mine_p W E short l (owned l o) e) ∙ second.after_nodes.list l Queue
            ∙ sym (append-nil (at l Queue V4)) ∙ ap (λ (rs : List Row). at l Queue V4 ++ rs) (sym (late_own l e))
        | inr e ↦
            queue_other S own p t late mine_p W E short l (owned l o) e
            ∙ ap (λ (rs : List Row). rs ++ (late l ++ came_in S t W l)) (second.after_nodes.list l Queue)
            ∙ ap (λ (rs : List Row). at l Queue V4 ++ rs) (sym (late_other l e))
      ]

  before_links : IsAsInTheDay S own p t U V4
  before_links = record {
    late = late_now;
    not_due = none_due;
    queue = queue_now;
    buffer = λ l o. sym (second.after_nodes.list l Buffer) ∙ C_after-buffer S own p t late mine_p W E short l (owned l o);
    wait = λ l o. sym (second.after_nodes.list l Wait) ∙ C_after-wait S own p t late mine_p W E short l (owned l o);
    bay = λ l o. sym (second.after_nodes.list l Bay) ∙ C_after-bay S own p t late mine_p W E short l (owned l o);
    person = λ i e. same_person (is_there S own p t i) (mine_p i) (person_of i V4) (person_of i U)
        (sym (second.after_nodes.person i) ∙ C_after-person S own p t late mine_p W E short i) e;
    waits = λ l o. sym (second.waiters_behind l) ∙ C_waiters S own p t late mine_p W E short l (owned l o);
  }

  -- STOPS
  has_it : (i : ℕ) → is_there S own p t i ≡ true → mine_p i ≡ true
  unfolding unheard
  has_it i e = sym (had (mine_p i) (person_of i (world_at S t))) ∙ e

  at_home : (i stop since : ℕ) → is_there S own p t i ≡ true → (person_of i V3).place ≡ Waiting stop since
      → owner_of S own (link_of_stop S stop) ≡ p
  at_home i stop since e w =
      let there = second.after_departures.there i e in
      let home = home_mid S own p t i law there in
      let here : person_of i V3 ≡ person_of i W = before_nodes.person i e in
      let placed : (person_of i W).place ≡ Waiting stop since = ap (λ (P : Person). P.place) (sym here) ∙ w in
      let is : IsHome S own p t (mine_p i) i (person_of i W).element (Waiting stop since)
      = subst (IsHome S own p t (mine_p i) i (person_of i W).element) placed home in
      eqb-true (owner_of S own (link_of_stop S stop)) p (is ∙ has_it i e)

  pub stands : StandsAsInTheDay S own p t
  unfolding through
  stands = record { before_nodes = before_nodes; before_links = before_links; stops = at_home }
