-- What the laws ask of a day follows from what its setup is: sound, and fitting.
use Rattle.traffic.proofs.Common.{◌≡◌, ℕ, List, ◌∙◌, length, refl, sym, [], ◌∷◌, arith, ◌<◌, true, ◌+◌, Bool, inl, inr, subst, ◌≤◌, ◌-◌, ◌/◌, ◌*◌, cases_Bool}
use Rattle.traffic.proofs.Common.{All-get_or, flat_map, Event, Act, Leg, below, person_of, at, Setup, act_after, leg_at, act_at, person_plan, seconds_of}
use Rattle.traffic.{proofs.Each.each_flat, proofs.Each.each_number, specs.declared.stage.Stage.Stage}
use Rattle.std.specs.List.{AllByRecursion as Each}
use Rattle.events.specs.declared.event.Phase.TheVariants as phase
use Rattle.rows.specs.declared.plan.Leg.TheVariants as leg
use Rattle.law_sound_setups.{proofs.Alighting.all_alight, proofs.Laws.day_sound, proofs.Laws.phases_sound, proofs.Steps.plan_sound, specs.Alighting.AlightAll}
use Rattle.law_sound_setups.specs.{Consistent.LeadsFrom, Consistent.link_of_act, Consistent.IsConsistentPlan, Consistent.IsConsistentSetup, Setups.IsSoundSetup}
use Rattle.parts.specs.{Core.Core, Core.Allowed, Core.Shows, Owners.Owner, Owners.Hop, Owners.hop, Owners.hop_at, Owners.hops, Owners.near, Owners.lag}
use Rattle.parts.specs.{Owners.crosses, Parts.Held, Parts.Parcel, Parts.down, Parts.held, Parts.out, Parts.own_events}
use Rattle.law_partitions.proofs.{Absorbed.absorb_is, Apart.told_ascends, Apart.told_apart, Enders.ender_at, Enders.shared, Enders.parts_make_the_day as made}
use Rattle.law_partitions.proofs.{Heard.known_and, Joined.near-self, Lags.lag-down, Lags.lag-up, Lags.lag-hop, Lags.lag-some, Lags.lag-most, Lags.seconds_some}
use Rattle.law_partitions.proofs.{Locality.alone_is, Owning.listed_before_D, Parcels.parcel_is, Passing.person_in_one, Rebuilt.rebuilt, Riders.rider_link}
use Rattle.law_partitions.proofs.{Shown.shows_next, Shown.kept_where, Start.starts_whole, Telling.tells_is}
use Rattle.law_partitions.proofs.Whole.{near-both, near_part, every_interleaving, some_may_advance, all_come_to_the_end}
use Rattle.law_partitions.specs.{Kept.MayGoOn, Laws.IsOwner, Laws.HasNeighbours, Laws.SecondsAreLocal, Laws.ShowsNext, Laws.AdvanceInAnyOrder, Laws.MakeTheDay}
use Rattle.law_partitions.specs.{Laws.GoesInParts, Premises.LongHops, Premises.before_D, Premises.Lawful, Premises.Arrivals, Whole.rule}

each_below : {X : Type 0} (P : X → Type 0) (f : ℕ → List X) (n : ℕ) → ((j : ℕ) → j < n → Each P (f j)) → Each P (flat_map f (below n))
each_below P f n h = each_flat (λ j. j < n) P f h (below n) (each_number n 0 n (omega arith))

module _ (S : Setup) (sound : IsSoundSetup S) (consistent : IsConsistentSetup S) where
  -- the leg of an element of a plan
  his : (i e : ℕ) (w : Leg) → i < length S.persons → e / 2 < length (person_plan S i).legs → leg_at S i e ≡ w → LeadsFrom S (link_of_act (person_plan S i).acts (e / 2)) (link_of_act (person_plan S i).acts (e / 2 + 1)) w
  his i e w lt few f = subst (LeadsFrom S (link_of_act (person_plan S i).acts (e / 2)) (link_of_act (person_plan S i).acts (e / 2 + 1))) f (All-get_or (IsConsistentPlan S) S.persons i (record { acts = []; legs = [] }) lt consistent.persons (e / 2) few)

  long_hop : (here there : Act) (x y : ℕ) (w : Leg) → LeadsFrom S x y w → Each (λ (h : Hop). 1 ≤ h.seconds) (hop here there w)
  long_hop here there x y (leg.Car route) f = tt
  long_hop here there x y (leg.Teleport mode seconds) f = (f, tt)
  long_hop here there x y (leg.Transit line access egress) f = tt

  long : LongHops S
  unfolding hops
  long = each_below (λ (h : Hop). 1 ≤ h.seconds) (λ i. flat_map (hop_at S i) (below (length (person_plan S i).legs))) (length S.persons) (λ i lt.
      each_below (λ (h : Hop). 1 ≤ h.seconds) (hop_at S i) (length (person_plan S i).legs) (λ k le.
      let half : (2 * k) / 2 ≡ k = omega arith in
      long_hop (act_at S i (2 * k)) (act_after S i (2 * k)) _ _ (leg_at S i (2 * k)) (his i (2 * k) (leg_at S i (2 * k)) (omega arith) (omega arith) refl)))

  pub lawful : Lawful S
  lawful =
      record {
        long = long;
        one_more = λ i lt. (plan_sound S i sound lt).one_more;
        drive = λ i e route lt few w. (his i e (leg.Car route) lt few w).0;
        access = λ i e line access egress lt few w. (his i e (leg.Transit line access egress) lt few w).0;
        sound = λ t. day_sound S t sound;
      }

  -- whoever alights before phase D has his next activity there
  alight : (t i l : ℕ) (s : Stage) → i < length S.persons → AlightAll S l i (person_of i (before_D S t)).element (at l s (before_D S t))
  alight t i l s lt = all_alight S i (before_D S t) consistent (phases_sound S t (phase.A ∷ phase.B1 ∷ phase.B2 ∷ phase.C ∷ []) sound) (listed_before_D S t i lt) lt l s

  pub alighting : Arrivals S
  alighting = record { alight = alight }

  -- THE LAWS
  module _ (own : Owner) (parts : ℕ) (shares : IsOwner own parts) where
    pub has_neighbours : HasNeighbours S own parts
    has_neighbours =
        let there = λ (p q : ℕ) (e : near S own p q ≡ true). near_part S own parts p q shares e in
        record {
          others = near-self S own;
          both = near-both S own;
          there = λ p q e. (there p q e, there q p (sym (near-both S own p q) ∙ e));
          some = lag-some S own long;
          most = lag-most S own;
          links = lag-down S own;
          holes = lag-up S own;
          hops = lag-hop S own;
        }

    -- what the end of a link has not heard of came in fewer seconds than the link takes
    late_in_time : (l : ℕ) → down S own (lag S own) l ≤ seconds_of S l
    late_in_time l = elim (cases_Bool (crosses S own l)) [ inl c ↦ let e = lag-down S own l c in rw c e | inr c ↦ let e = seconds_some S l in rw c (omega arith) ]

    pub are_local : SecondsAreLocal S own parts
    are_local =
        record {
          starts = starts_whole S own;
          short = λ t l lt. known_and S own (lag S own) l t (late_in_time l);
          rides = λ t i v lt e. rider_link S t i v sound lt e;
          absorbs = λ p t. absorb_is S own parts p t lawful alighting shares;
          holds = λ p t. alone_is S own p t lawful alighting;
          sends = λ p q t. parcel_is S own p q t lawful alighting;
          tells = λ p t. tells_is S own p t lawful;
          rebuilt = rebuilt S own;
        }

    some_may : (end p : ℕ) (c : Core Held Parcel Event) → p < parts → c.done p < end → MayGoOn (rule S own parts) end c
    some_may end p c lt before = let r = some_may_advance S own parts end (parts - 1) p lawful alighting shares (omega arith) c lt before in record { who = r.0; allowed = r.1 }

    shown_next : (goes : ℕ → Bool) (end p : ℕ) (c d : Core Held Parcel Event) → Shows (rule S own parts) goes c d → goes p ≡ true → Allowed (rule S own parts) end p c → ShowsNext S own parts goes end p c d
    shown_next goes end p c d shows on al =
        let next = shows_next (rule S own parts) (λ a b e. near_part S own parts a b shares e) (near-both S own) (near-self S own) goes end p c d shows on al in
        record { allowed = next.0; shows = next.1 }

    pub advance_so : AdvanceInAnyOrder S own parts
    advance_so =
        record {
          kept = λ end ps d e. every_interleaving S own parts end lawful alighting shares ps d e;
          in_one = λ end i lt ps d e. person_in_one S own parts end i lawful alighting shares lt ps d e;
          no_dead_end = some_may;
          to_the_end = λ end ps d e n p lt. all_come_to_the_end S own parts end lawful alighting shares ps d e n p lt;
          shown_kept = λ goes end ps c d e shows. kept_where (rule S own parts) (λ a b n. near_part S own parts a b shares n) (near-both S own) goes (held S own) (out S own) (own_events S own) c d
              (every_interleaving S own parts end lawful alighting shares ps d e) shows;
          shown = shown_next;
        }

    pub make_the_day : MakeTheDay S own parts
    make_the_day =
        record {
          ascends = told_ascends S own parts;
          apart = λ p q lt le a b in_p in_q e. told_apart S own parts (ender_at S own S.settings.end_second) (shared S own parts lawful alighting shares) p q lt le a b in_p in_q e;
          ends = λ i lt. record { who = ender_at S own S.settings.end_second i; there = (shared S own parts lawful alighting shares).ends i; ends = λ p le. (shared S own parts lawful alighting shares).who p i le lt };
          merged = made S own parts lawful alighting shares;
        }

    pub goes_in_parts : GoesInParts S own parts
    goes_in_parts = record { neighbours = has_neighbours; seconds = are_local; order = advance_so; day = make_the_day }
