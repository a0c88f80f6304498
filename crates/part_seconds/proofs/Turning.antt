-- Of links in slots: that they can turn, and stop where stops lie, where they stand for those of a world.
use Rattle.traffic.proofs.Common.{◌≡◌, ℕ, ◌<◌, true, false, List, [], ◌∙◌, ap, sym, subst, arith, length, All-get_or, recursion_from_All, and_parts, ltb-true}
use Rattle.traffic.proofs.Common.{eqb, eqb-true, eq-eqb, VehicleId, StopCall, World, Setup, Departure, VehicleState, at, on, nat_lt, LinkState, link_of_stop}
use Rattle.traffic.proofs.{Common.departure, Common.next_call, Common.calls_on, Common.IsOwn, Common.IsSoundRow, Common.Sound, Each.each_filter, Sublists.on_is}
use Rattle.traffic.specs.declared.{stage.Stage.Stage, stage.Stage.TheVariants.Queue, stage.Stage.TheVariants.Wait, stage.Stage.TheVariants.Bay, world.Row.Row}
use Rattle.std.specs.List.{AllByRecursion as Each}
use Rattle.events.specs.declared.event.VehicleId.TheVariants as vehicle
use Rattle.law_in_range.proofs.{Sizes.call_offset, Telling.call_fit}
use Rattle.law_in_range.specs.Rows.{Counts, IsFitVehicle, IsFitRow, IsFitWorld}
use Rattle.law_sound_setups.specs.Consistent.{AreAtStops, IsConsistentSetup}
use Rattle.queue_link.specs.Links.{LinkView}
use Rattle.link_seconds.specs.Seconds.{CanStop, IsReady, IsThere}
use Rattle.node_seconds.specs.Networks.{lane}
use Rattle.part_links.{proofs.Standing.link_is, specs.Links.LinksStandAt, specs.Links.CanTurn, specs.Links.StopsThere, specs.Links.lies_on}

-- STOPS THAT ARE THERE
can_stop : (z : Counts) (v : VehicleState) → IsFitVehicle z v → CanStop z.stops v
can_stop z v h = record {
  few_calls = h.few_calls;
  departed = h.departed;
  stop = λ lt. (call_fit z v v.served h lt).stop;
  offset = call_offset z v h;
  few_riders = h.few_riders;
}

are_ready : (z : Counts) (l : ℕ) (s : Stage) (V : World) → IsFitWorld z V → Each (IsReady z.stops l) (at l s V)
are_ready z l s V fit =
    each_filter (IsFitRow z) (IsReady z.stops l) (on l s) (λ r e h. ((on_is l s r e).1, can_stop z r.vehicle h.vehicle)) V.rows
    (recursion_from_All (IsFitRow z) V.rows fit.rows)

-- STOPS THAT LIE WHERE THEY ARE CALLED AT
stop_there : (S : Setup) (l : ℕ) (v : VehicleState) (id : VehicleId) → IsConsistentSetup S → IsOwn S v id → calls_on l v ≡ true
    → lies_on S l (next_call v).stop ≡ true
stop_there S l v (vehicle.Car i) cons own h =
    let p = and_parts (nat_lt v.served (length v.calls)) (eqb (next_call v).link l) h in
    let lt = ltb-true v.served (length v.calls) p.0 in
    let none = ap (λ (cs : List StopCall). length cs) own.calls in
    absurd (omega arith)
stop_there S l v (vehicle.Transit d) cons own h =
    let p = and_parts (nat_lt v.served (length v.calls)) (eqb (next_call v).link l) h in
    let lt = ltb-true v.served (length v.calls) p.0 in
    let is_at = λ (D : Departure). AreAtStops S D.calls in
    let calls : AreAtStops S (departure S d).calls
    = All-get_or is_at S.departures d (record { second = 0; seats = 0; line = 0; route = []; calls = [] }) own.there cons.departures in
    let own_calls : AreAtStops S v.calls = subst (AreAtStops S) (sym own.calls) calls in
    let lies = All-get_or (λ (c : StopCall). link_of_stop S c.stop ≡ c.link) v.calls v.served (record { stop = 0; link = 0; offset = 0; wait = false }) lt own_calls in
    eq-eqb (link_of_stop S (next_call v).stop) l (lies ∙ eqb-true (next_call v).link l p.1)

pub are_there : (S : Setup) (l : ℕ) (s : Stage) (V : World) → IsConsistentSetup S → Sound S V → Each (IsThere (lies_on S l) l) (at l s V)
are_there S l s V cons sound =
    each_filter (IsSoundRow S V) (IsThere (lies_on S l) l) (on l s) (λ r e h. stop_there S l r.vehicle r.vehicle.id cons h.own) V.rows
    (recursion_from_All (IsSoundRow S V) V.rows sound.rows)

-- THE LINKS OF A PART
-- a list of a link that stands for one of the world
moved : (P : ℕ → Row → Type 0) (m l : ℕ) (xs ys : List Row) → m ≡ l → xs ≡ ys → Each (P l) ys → Each (P m) xs
moved P m l xs ys e f h = subst (λ (k : ℕ). Each (P k) xs) (sym e) (subst (λ (rs : List Row). Each (P l) rs) (sym f) h)

-- of links in slots, whichever they are
pub can_turn_at : (number : ℕ → ℕ) (size : ℕ) (S : Setup) (z : Counts) (t stops : ℕ) (links : List LinkView) (V : World) → IsFitWorld z V
    → stops ≡ z.stops → LinksStandAt number size S t links V → (k : ℕ) → k < length links → CanTurn stops t (lane links k)
can_turn_at number size S z t stops links V fit same stand k lt =
    let n = stand.count in
    let there : k < size = omega arith in
    let l = number k in
    let v = lane links k in
    let own = link_is S l v (stand.numbers k there) in
    let lists = stand.lists k there in
    let ready = λ (m : ℕ) (r : Row). IsReady z.stops m r in
    subst (λ (m : ℕ). CanTurn m t v) (sym same) (record {
      raised = stand.raised k there;
      ready = record {
        queue = moved ready v.numbers.link l v.lists.queue (at l Queue V) own (ap (λ (L : LinkState). L.queue) lists) (are_ready z l Queue V fit);
        wait = moved ready v.numbers.link l v.lists.wait (at l Wait V) own (ap (λ (L : LinkState). L.wait) lists) (are_ready z l Wait V fit);
      };
      bay = moved ready v.numbers.link l v.lists.bay (at l Bay V) own (ap (λ (L : LinkState). L.bay) lists) (are_ready z l Bay V fit);
    })

-- where each row calls at stops that lie on its link
pub stops_there_at : (number : ℕ → ℕ) (size : ℕ) (S : Setup) (t : ℕ) (links : List LinkView) (V : World) → LinksStandAt number size S t links V
    → ((k : ℕ) (s : Stage) → k < size → Each (IsThere (lies_on S (number k)) (number k)) (at (number k) s V))
    → (k : ℕ) → k < size → StopsThere S (number k) (lane links k)
stops_there_at number size S t links V stand lie k there =
    let l = number k in
    let v = lane links k in
    let own = link_is S l v (stand.numbers k there) in
    let lists = stand.lists k there in
    let lies = λ (m : ℕ) (r : Row). IsThere (lies_on S l) m r in
    record {
      there = record {
        queue = moved lies v.numbers.link l v.lists.queue (at l Queue V) own (ap (λ (L : LinkState). L.queue) lists) (lie k Queue there);
        wait = moved lies v.numbers.link l v.lists.wait (at l Wait V) own (ap (λ (L : LinkState). L.wait) lists) (lie k Wait there);
      };
      bay = moved lies v.numbers.link l v.lists.bay (at l Bay V) own (ap (λ (L : LinkState). L.bay) lists) (lie k Bay there);
    }
