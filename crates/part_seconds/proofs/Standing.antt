-- The links stand for those of a world, and sleep, once the vehicles that start in a second came to them.
use Rattle.traffic.proofs.Common.{◌≡◌, ◌≢◌, ℕ, ◌<◌, ◌≤◌, false, List, [], ◌∷◌, ◌++◌, ◌∙◌, ap, refl, sym, subst, arith, inl, inr, cases_Bool, eqb, eqb-true}
use Rattle.traffic.proofs.Common.{eqb-false, eq-eqb, ne_eqb, lt-ltb, length, get_or, filter, map, filter-append, append-nil, append_assoc, Option, None, Some}
use Rattle.traffic.proofs.Common.{Setup, World, at, on}
use Rattle.traffic.specs.{Links.LinkState, Links.link_state, Vehicles.VehicleState, declared.stage.Stage.Stage, declared.stage.Stage.TheVariants.Queue}
use Rattle.traffic.specs.declared.{stage.Stage.TheVariants.Buffer, stage.Stage.TheVariants.Wait, stage.Stage.TheVariants.Bay, world.Row.Row}
use Rattle.std.{proofs.lemmas.List.get_or-set_same, proofs.lemmas.List.get_or-set_other, specs.List.AllByRecursion as Each}
use Rattle.rows.specs.declared.settings.Dwelling.{Dwelling}
use Rattle.calendar.specs.Waking.{wake_of, earlier}
use Rattle.queue_link.specs.{Links.LinkView, Links.row_on, Numbers.numbers_of, declared.numbers.LinkNumbers.LinkNumbers}
use Rattle.node_move.specs.NodeStates.{no_link}
use Rattle.link_seconds.specs.Seconds.{lists_at}
use Rattle.law_waking.specs.Resting.{Rests, sleeps_to}
use Rattle.node_seconds.specs.Networks.{lane}
use Rattle.part_links.specs.Links.{IsLink, AreNumbered, LinksStandAt, AreAsleep}
use Rattle.part_persons.specs.Phases.{joined}
use Rattle.part_seconds.specs.Starting.{with_waiting, started, all_started, woken_for, woken_for_all}
use Rattle.part_seconds.proofs.Started.{started_length, woken_length}

-- a row at the end of the wait list of a link that is there, as it comes there
pub record Starts (count : ℕ) (r : Row) : Type 0 where
  pub link : r.link < count
  pub row : r ≡ row_on r.link Wait 0 r.vehicle

-- LANES
own_lane : (r : Row) (links : List LinkView) → r.link < length links → lane (started r links) r.link ≡ with_waiting r.vehicle (lane links r.link)
own_lane r links lt =
    let e = lt-ltb r.link (length links) lt in
    rw e (get_or-set_same links r.link (with_waiting r.vehicle (lane links r.link)) no_link lt)

other_lane : (r : Row) (l : ℕ) (links : List LinkView) → r.link < length links → l ≢ r.link → lane (started r links) l ≡ lane links l
other_lane r l links lt ne =
    let e = lt-ltb r.link (length links) lt in
    rw e (get_or-set_other links r.link l (with_waiting r.vehicle (lane links r.link)) no_link ne)

-- a world with one more row
abbrev pub with_row : Row → World → World
with_row r W = record W { rows = W.rows ++ r ∷ [] }

abbrev alone : ℕ → Stage → Row → List Row
alone l s r = filter (on l s) (r ∷ [])

at_more : (l : ℕ) (s : Stage) (r : Row) (W : World) → at l s (with_row r W) ≡ at l s W ++ alone l s r
at_more l s r W = filter-append (on l s) W.rows (r ∷ [])

-- what it adds to the lists of its own link, and of another one
waits_there : (l : ℕ) (c : VehicleState) → alone l Wait (row_on l Wait 0 c) ≡ row_on l Wait 0 c ∷ []
waits_there l c = let e = eq-eqb l l refl in rw e refl

waits_elsewhere : (l m : ℕ) (c : VehicleState) → l ≢ m → alone l Wait (row_on m Wait 0 c) ≡ []
waits_elsewhere l m c ne = let e : eqb m l ≡ false = ne_eqb m l (λ q. ne (sym q)) in rw e refl

-- the lists of a link with one more row in the wait list
abbrev longer : LinkState → List Row → LinkState
longer L rs = record L { wait = L.wait ++ rs }

state_more : (l m : ℕ) (c : VehicleState) (W : World) → link_state l (with_row (row_on m Wait 0 c) W) ≡ longer (link_state l W) (alone l Wait (row_on m Wait 0 c))
state_more l m c W =
    let r = row_on m Wait 0 c in
    let q : at l Queue (with_row r W) ≡ at l Queue W = at_more l Queue r W ∙ append-nil (at l Queue W) in
    let b : at l Buffer (with_row r W) ≡ at l Buffer W = at_more l Buffer r W ∙ append-nil (at l Buffer W) in
    let y : at l Bay (with_row r W) ≡ at l Bay W = at_more l Bay r W ∙ append-nil (at l Bay W) in
    let w = at_more l Wait r W in
    let state = λ (q b w y : List Row). (let L : LinkState = record { queue = q; buffer = b; wait = w; bay = y; credit = get_or W.credits l 0 } in L) in
    ap (λ (xs : List Row). state xs (at l Buffer (with_row r W)) (at l Wait (with_row r W)) (at l Bay (with_row r W))) q
    ∙ ap (λ (xs : List Row). state (at l Queue W) xs (at l Wait (with_row r W)) (at l Bay (with_row r W))) b
    ∙ ap (λ (xs : List Row). state (at l Queue W) (at l Buffer W) xs (at l Bay (with_row r W))) w
    ∙ ap (λ (xs : List Row). state (at l Queue W) (at l Buffer W) (at l Wait W ++ alone l Wait r) xs) y

-- ONE VEHICLE
link_number : (S : Setup) (l : ℕ) (v : LinkView) → IsLink S l v → v.numbers.link ≡ l
unfolding numbers_of
link_number S l v h = ap (λ (n : LinkNumbers). n.link) h.numbers

-- the row of a vehicle that starts in a slot, as it stands in a world: on the link of that slot
abbrev pub in_world : (ℕ → ℕ) → Row → Row
in_world number r = record r { link = number r.link }

one_stands : (number : ℕ → ℕ) (size : ℕ) (S : Setup) (t : ℕ) (r : Row) (links : List LinkView) (W : World) → AreNumbered S size number
    → Starts (length links) r → LinksStandAt number size S t links W → LinksStandAt number size S t (started r links) (with_row (in_world number r) W)
one_stands number size S t r links W numbered st h =
    let many = started_length r links in
    let own : lane (started r links) r.link ≡ with_waiting r.vehicle (lane links r.link) = own_lane r links st.link in
    let there : r.link < size = (let k = h.count in let p = st.link in omega arith) in
    let m = number r.link in
    let row : in_world number r ≡ row_on m Wait 0 r.vehicle = ap (in_world number) st.row in
    let is : (l : ℕ) → link_state l (with_row (in_world number r) W) ≡ longer (link_state l W) (alone l Wait (row_on m Wait 0 r.vehicle))
    = λ l. ap (λ (x : Row). link_state l (with_row x W)) row ∙ state_more l m r.vehicle W in
    record {
      count = many ∙ h.count;
      credits = h.credits;
      numbers = λ l lt.
          elim (cases_Bool (eqb l r.link)) [
            | inl q ↦
                let same : l ≡ r.link = eqb-true l r.link q in
                subst (λ (k : ℕ). IsLink S (number k) (lane (started r links) k)) (sym same)
                (subst (λ (v : LinkView). IsLink S m v) (sym own) (record { numbers = (h.numbers r.link there).numbers }))
            | inr q ↦ subst (λ (v : LinkView). IsLink S (number l) v) (sym (other_lane r l links st.link (eqb-false l r.link q))) (h.numbers l lt)
          ];
      raised = λ l lt.
          elim (cases_Bool (eqb l r.link)) [
            | inl q ↦
                let same : l ≡ r.link = eqb-true l r.link q in
                subst (λ (k : ℕ). (lane (started r links) k).raised ≤ t) (sym same)
                (subst (λ (v : LinkView). v.raised ≤ t) (sym own) (h.raised r.link there))
            | inr q ↦ subst (λ (v : LinkView). v.raised ≤ t) (sym (other_lane r l links st.link (eqb-false l r.link q))) (h.raised l lt)
          ];
      lists = λ l lt.
          elim (cases_Bool (eqb l r.link)) [
            | inl q ↦
                let same : l ≡ r.link = eqb-true l r.link q in
                let number_is : (lane links r.link).numbers.link ≡ m = link_number S m (lane links r.link) (h.numbers r.link there) in
                subst (λ (k : ℕ). lists_at t (lane (started r links) k) ≡ link_state (number k) (with_row (in_world number r) W)) (sym same)
                (ap (lists_at t) own ∙ ap (λ (k : ℕ). longer (lists_at t (lane links r.link)) (row_on k Wait 0 r.vehicle ∷ [])) number_is
                ∙ ap (λ (L : LinkState). longer L (row_on m Wait 0 r.vehicle ∷ [])) (h.lists r.link there)
                ∙ ap (longer (link_state m W)) (sym (waits_there m r.vehicle)) ∙ sym (is m))
            | inr q ↦
                let off = eqb-false l r.link q in
                let ne : number l ≢ m = λ e. off (numbered.apart l r.link lt there e) in
                ap (lists_at t) (other_lane r l links st.link off) ∙ h.lists l lt
                ∙ ap (λ (xs : List Row). (let L : LinkState = record (link_state (number l) W) { wait = xs } in L)) (sym (append-nil (at (number l) Wait W)))
                ∙ ap (longer (link_state (number l) W)) (sym (waits_elsewhere (number l) m r.vehicle ne)) ∙ sym (is (number l))
          ];
    }

own_wake : (t : ℕ) (r : Row) (wakes : List (Option ℕ)) → r.link < length wakes → wake_of (woken_for t r wakes) r.link ≡ earlier t (wake_of wakes r.link)
own_wake t r wakes lt =
    let e = lt-ltb r.link (length wakes) lt in
    rw e (get_or-set_same wakes r.link (earlier t (wake_of wakes r.link)) None lt)

other_wake : (t : ℕ) (r : Row) (l : ℕ) (wakes : List (Option ℕ)) → r.link < length wakes → l ≢ r.link → wake_of (woken_for t r wakes) l ≡ wake_of wakes l
other_wake t r l wakes lt ne =
    let e = lt-ltb r.link (length wakes) lt in
    rw e (get_or-set_other wakes r.link l (earlier t (wake_of wakes r.link)) None ne)

-- who sleeps to this second or longer is woken in it
at_once : (t : ℕ) (o : Option ℕ) → ((u : ℕ) → o ≡ Some u → t ≤ u) → earlier t o ≡ Some t
at_once t None h = refl
at_once t (Some u) h = let le = h u refl in ap (λ (n : ℕ). Some n) (omega arith)

woken_at : (t : ℕ) (r : Row) (wakes : List (Option ℕ)) → r.link < length wakes → ((u : ℕ) → wake_of wakes r.link ≡ Some u → t ≤ u)
    → wake_of (woken_for t r wakes) r.link ≡ Some t
woken_at t r wakes lt h = own_wake t r wakes lt ∙ at_once t (wake_of wakes r.link) h

rests_none : (D : Dwelling) (t : ℕ) (v : LinkView) → Rests D t t v
rests_none D t v = λ u from to. absurd (omega arith)

one_asleep : (D : Dwelling) (end t : ℕ) (r : Row) (links : List LinkView) (wakes : List (Option ℕ)) → t < end → r.link < length links
    → AreAsleep D end t links wakes → AreAsleep D end t (started r links) (woken_for t r wakes)
one_asleep D end t r links wakes early there h =
    let many = started_length r links in
    let slots = woken_length t r wakes in
    let n = h.count in
    let slot : r.link < length wakes = omega arith in
    let at : wake_of (woken_for t r wakes) r.link ≡ Some t = woken_at t r wakes slot (λ u e. h.later r.link u there e) in
    record {
      count = slots ∙ n ∙ sym many;
      rests = λ l lt.
          elim (cases_Bool (eqb l r.link)) [
            | inl q ↦
                let same : l ≡ r.link = eqb-true l r.link q in
                subst (λ (k : ℕ). Rests D t (sleeps_to end (wake_of (woken_for t r wakes) k)) (lane (started r links) k)) (sym same)
                (subst (λ (o : Option ℕ). Rests D t (sleeps_to end o) (lane (started r links) r.link)) (sym at) (rests_none D t (lane (started r links) r.link)))
            | inr q ↦
                let ne = eqb-false l r.link q in
                subst (λ (v : LinkView). Rests D t (sleeps_to end (wake_of (woken_for t r wakes) l)) v) (sym (other_lane r l links there ne))
                (subst (λ (o : Option ℕ). Rests D t (sleeps_to end o) (lane links l)) (sym (other_wake t r l wakes slot ne)) (h.rests l (omega arith)))
          ];
      later = λ l u lt e.
          elim (cases_Bool (eqb l r.link)) [
            | inl q ↦
                let same : l ≡ r.link = eqb-true l r.link q in
                let is : Some u ≡ Some t = sym e ∙ ap (wake_of (woken_for t r wakes)) same ∙ at in
                let k : u ≡ t = cc in
                omega arith
            | inr q ↦ h.later l u (omega arith) (sym (other_wake t r l wakes slot (eqb-false l r.link q)) ∙ e)
          ];
      soon = λ l u lt e.
          elim (cases_Bool (eqb l r.link)) [
            | inl q ↦
                let same : l ≡ r.link = eqb-true l r.link q in
                let is : Some u ≡ Some t = sym e ∙ ap (wake_of (woken_for t r wakes)) same ∙ at in
                let k : u ≡ t = cc in
                omega arith
            | inr q ↦ h.soon l u (omega arith) (sym (other_wake t r l wakes slot (eqb-false l r.link q)) ∙ e)
          ];
    }

-- ALL OF THEM
-- a world with these rows besides
abbrev pub with_rows : List Row → World → World
with_rows rs W = record W { rows = W.rows ++ rs }

pub all_stand : (number : ℕ → ℕ) (size : ℕ) (S : Setup) (t count : ℕ) (rs : List Row) (links : List LinkView) (W : World)
    → AreNumbered S size number → count ≡ length links → Each (Starts count) rs
    → LinksStandAt number size S t links W → LinksStandAt number size S t (all_started rs links) (with_rows (map (in_world number) rs) W)
unfolding all_started
all_stand number size S t count [] links W own c st h =
    subst (λ (xs : List Row). LinksStandAt number size S t links (record W { rows = xs })) (sym (append-nil W.rows)) h
all_stand number size S t count (r ∷ rs) links W own c st h =
    let first : Starts (length links) r = subst (λ (n : ℕ). Starts n r) c st.0 in
    let x = in_world number r in
    subst (λ (xs : List Row). LinksStandAt number size S t (all_started rs (started r links)) (record W { rows = xs }))
    (append_assoc W.rows (x ∷ []) (map (in_world number) rs))
    (all_stand number size S t count rs (started r links) (with_row x W) own (c ∙ sym (started_length r links)) st.1
    (one_stands number size S t r links W own first h))

pub all_asleep : (D : Dwelling) (end t count : ℕ) (rs : List Row) (links : List LinkView) (wakes : List (Option ℕ)) → t < end → count ≡ length links
    → Each (Starts count) rs → AreAsleep D end t links wakes → AreAsleep D end t (all_started rs links) (woken_for_all t rs wakes)
unfolding all_started woken_for_all
all_asleep D end t count [] links wakes early c st h = h
all_asleep D end t count (r ∷ rs) links wakes early c st h =
    let there : r.link < length links = subst (λ (n : ℕ). r.link < n) c st.0.link in
    all_asleep D end t count rs (started r links) (woken_for t r wakes) early (c ∙ sym (started_length r links)) st.1
    (one_asleep D end t r links wakes early there h)

-- THE WORLD
-- links that stand for those of a world stand for those of any with the same rows of vehicles and the same credits
pub stand_alike : (number : ℕ → ℕ) (size : ℕ) (S : Setup) (t : ℕ) (links : List LinkView) (W V : World) → V.rows ≡ W.rows → V.credits ≡ W.credits
    → LinksStandAt number size S t links W → LinksStandAt number size S t links V
stand_alike number size S t links W V e c h = record {
  count = h.count;
  credits = ap (λ (cs : List ℕ). length cs) c ∙ h.credits;
  numbers = h.numbers;
  raised = h.raised;
  lists = λ l lt.
      h.lists l lt
      ∙ ap (λ (rs : List Row). link_state (number l) (record W { rows = rs })) (sym e)
      ∙ ap (λ (cs : List ℕ). link_state (number l) (record W { rows = V.rows; credits = cs })) (sym c);
}

-- once the vehicles that persons and departures let in came to the slots of their links, these stand for the links of the world
pub joined_at : (number : ℕ → ℕ) (size : ℕ) (S : Setup) (t count : ℕ) (rs : List Row) (links : List LinkView) (W P : World)
    → AreNumbered S size number → count ≡ length links → Each (Starts count) rs → P.rows ≡ map (in_world number) rs
    → LinksStandAt number size S t links W → LinksStandAt number size S t (all_started rs links) (joined W P)
joined_at number size S t count rs links W P own c st e h =
    stand_alike number size S t (all_started rs links) (with_rows (map (in_world number) rs) W) (joined W P)
    (ap (λ (xs : List Row). W.rows ++ xs) e) refl (all_stand number size S t count rs links W own c st h)
