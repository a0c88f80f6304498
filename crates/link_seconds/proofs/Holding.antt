-- What holds of each row of a link's queue and wait list holds of those that are left, and of a vehicle that stops.
use Rattle.std.proofs.Common.{◌≡◌, ℕ, ◌-◌, true, List, [], ◌∷◌, ◌++◌, length, refl, sym, subst}
use Rattle.std.specs.{List.AllByRecursion as Each, Prelude.nat_lt}
use Rattle.fixed_flow.specs.declared.TheConstants.{VEHICLE_COST}
use Rattle.rows.specs.declared.settings.Dwelling.{Dwelling}
use Rattle.traffic.specs.{Links.LinkState, Links.buffered, Links.is_last, Links.may_pass, Stops.calls_on, Telling.starts}
use Rattle.traffic.specs.declared.{moves.Occurrence.Occurrence, world.Row.Row, world.Waiter.Waiter}
use Rattle.law_sleeping.proofs.Settling.{lists_with}
use Rattle.queue_link.specs.declared.{numbers.LinkNumbers.LinkNumbers, fates.Fate.Fate, fates.Fate.TheVariants.Stops, fates.Fate.TheVariants.Arrives}
use Rattle.queue_link.specs.declared.{fates.Fate.TheVariants.Passes, fates.Fate.TheVariants.Stays, turns.Turn.Turn, turns.Turn.TheVariants.Stop}
use Rattle.queue_link.specs.{declared.turns.Turn.TheVariants.Arrive, declared.turns.Turn.TheVariants.Done, Numbers.rules_of, Numbers.no_dwelling, Turns.Outcome}
use Rattle.queue_link.{specs.Turns.fate_of, specs.Turns.queue_fate, specs.Turns.wait_fate, specs.Turns.goes_on, proofs.Fronts.stops_by, proofs.Fronts.due_by}
use Rattle.queue_link.proofs.Steps.{queue_passes, queue_stops, queue_arrives, wait_passes, wait_stops, wait_arrives, both_stay, wait_stays_on}

-- a vehicle that stops is that of such a row, and its next call is on the link
abbrev pub StopSuch : (Row → Type 0) → ℕ → Turn → Type 0
StopSuch R l (Stop v) = (r : Row) × ((r.vehicle ≡ v) × R r × (calls_on l v ≡ true))
StopSuch R l (Arrive v) = Unit {0}
StopSuch R l Done = Unit {0}

pub record HoldsOf (R : Row → Type 0) (l : ℕ) (o : Outcome) : Type 0 where
  pub queue : Each R o.lists.queue
  pub wait : Each R o.lists.wait
  pub stops : StopSuch R l o.turn

by : (R : Row → Type 0) (l : ℕ) (o p : Outcome) → o ≡ p → HoldsOf R l p → HoldsOf R l o
by R l o p e h = subst (λ (x : Outcome). HoldsOf R l x) (sym e) h

stops_not_stays : Stops ≡ Stays → ⊥
stops_not_stays e = cc

-- THE WAIT LIST
wait_front : (R : Row → Type 0) (n : LinkNumbers) (dwell : Dwelling) (t : ℕ) (ws : List Waiter) (q b : List Row) (r : Row) (rs y : List Row) (c : ℕ)
    (said : List Occurrence)
    → ((b2 : List Row) (c2 : ℕ) (said2 : List Occurrence) → queue_fate n t (length b2) c2 q ≡ Stays
    → HoldsOf R n.link (goes_on n dwell ws t (lists_with q b2 rs y c2) said2))
    → Each R q → R r → Each R rs → queue_fate n t (length b) c q ≡ Stays → (f : Fate) → wait_fate n (length b) c (r ∷ rs) ≡ f
    → HoldsOf R n.link (goes_on n dwell ws t (lists_with q b (r ∷ rs) y c) said)
wait_front R n dwell t ws q b r rs y c said ih hq hr hw s Stops e =
    by R n.link _ (record { turn = Stop r.vehicle; lists = lists_with q b rs y c; told = said ++ starts r })
    (wait_stops n dwell ws t r q rs b y c said s e)
    (record {
      queue = hq;
      wait = hw;
      stops = (r, (refl, hr, stops_by (calls_on n.link r.vehicle) (is_last r.vehicle) (may_pass (rules_of n no_dwelling) (length b) c) e));
    })
wait_front R n dwell t ws q b r rs y c said ih hq hr hw s Arrives e =
    by R n.link _ _ (wait_arrives n dwell ws t r q rs b y c said s e) (record { queue = hq; wait = hw; stops = tt })
wait_front R n dwell t ws q b r rs y c said ih hq hr hw s Stays e =
    by R n.link _ _ (both_stay n dwell ws t q b (r ∷ rs) y c said s e) (record { queue = hq; wait = (hr, hw); stops = tt })
wait_front R n dwell t ws q b r rs y c said ih hq hr hw s Passes e =
    let now = buffered t n.link (length b) r in
    by R n.link _ _ (wait_passes n dwell ws t r q rs b y c said s e)
    (ih (b ++ now ∷ []) (c - VEHICLE_COST) (said ++ starts r) (wait_stays_on n t q b now c s))

wait_holds : (R : Row → Type 0) (n : LinkNumbers) (dwell : Dwelling) (t : ℕ) (ws : List Waiter) (q b w y : List Row) (c : ℕ) (said : List Occurrence)
    → Each R q → Each R w → queue_fate n t (length b) c q ≡ Stays → HoldsOf R n.link (goes_on n dwell ws t (lists_with q b w y c) said)
wait_holds R n dwell t ws q b [] y c said hq hw s =
    by R n.link _ _ (both_stay n dwell ws t q b [] y c said s refl) (record { queue = hq; wait = tt; stops = tt })
wait_holds R n dwell t ws q b (r ∷ rs) y c said hq hw s =
    wait_front R n dwell t ws q b r rs y c said (λ b2 c2 said2 s2. wait_holds R n dwell t ws q b2 rs y c2 said2 hq hw.1 s2) hq hw.0 hw.1 s
    (wait_fate n (length b) c (r ∷ rs)) refl

-- THE QUEUE
queue_front : (R : Row → Type 0) (n : LinkNumbers) (dwell : Dwelling) (t : ℕ) (ws : List Waiter) (r : Row) (rs b w y : List Row) (c : ℕ)
    (said : List Occurrence)
    → ((b2 : List Row) (c2 : ℕ) (said2 : List Occurrence) → HoldsOf R n.link (goes_on n dwell ws t (lists_with rs b2 w y c2) said2))
    → R r → Each R rs → Each R w → (f : Fate) → queue_fate n t (length b) c (r ∷ rs) ≡ f
    → HoldsOf R n.link (goes_on n dwell ws t (lists_with (r ∷ rs) b w y c) said)
queue_front R n dwell t ws r rs b w y c said ih hr hq hw Stops e =
    by R n.link _ (record { turn = Stop r.vehicle; lists = lists_with rs b w y c; told = said }) (queue_stops n dwell ws t r rs b w y c said e)
    (record {
      queue = hq;
      wait = hw;
      stops = (
        r,
        (
          refl,
          hr,
          stops_by (calls_on n.link r.vehicle) (is_last r.vehicle) (may_pass (rules_of n no_dwelling) (length b) c)
              (due_by (nat_lt t r.second) (fate_of n (length b) c r.vehicle) Stops e stops_not_stays).1,
        ),
      );
    })
queue_front R n dwell t ws r rs b w y c said ih hr hq hw Arrives e =
    by R n.link _ _ (queue_arrives n dwell ws t r rs b w y c said e) (record { queue = hq; wait = hw; stops = tt })
queue_front R n dwell t ws r rs b w y c said ih hr hq hw Stays e = wait_holds R n dwell t ws (r ∷ rs) b w y c said (hr, hq) hw e
queue_front R n dwell t ws r rs b w y c said ih hr hq hw Passes e =
    let now = buffered t n.link (length b) r in
    by R n.link _ _ (queue_passes n dwell ws t r rs b w y c said e) (ih (b ++ now ∷ []) (c - VEHICLE_COST) said)

queue_holds : (R : Row → Type 0) (n : LinkNumbers) (dwell : Dwelling) (t : ℕ) (ws : List Waiter) (q b w y : List Row) (c : ℕ) (said : List Occurrence)
    → Each R q → Each R w → HoldsOf R n.link (goes_on n dwell ws t (lists_with q b w y c) said)
queue_holds R n dwell t ws [] b w y c said hq hw = wait_holds R n dwell t ws [] b w y c said tt hw refl
queue_holds R n dwell t ws (r ∷ rs) b w y c said hq hw =
    queue_front R n dwell t ws r rs b w y c said (λ b2 c2 said2. queue_holds R n dwell t ws rs b2 w y c2 said2 hq.1 hw) hq.0 hq.1 hw
    (queue_fate n t (length b) c (r ∷ rs)) refl

pub holds : (R : Row → Type 0) (n : LinkNumbers) (dwell : Dwelling) (t : ℕ) (ws : List Waiter) (L : LinkState) (said : List Occurrence) (o : Outcome)
    → Each R L.queue → Each R L.wait → goes_on n dwell ws t L said ≡ o → HoldsOf R n.link o
holds R n dwell t ws L said o hq hw e =
    subst (λ (x : Outcome). HoldsOf R n.link x) e (queue_holds R n dwell t ws L.queue L.buffer L.wait L.bay L.credit said hq hw)
