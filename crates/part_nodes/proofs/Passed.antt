-- The turn of a node: the network stands for the world after it.
use Rattle.traffic.proofs.Common.{◌≡◌, ◌≢◌, ℕ, List, ◌∙◌, length, ap, refl, sym, [], ◌++◌, arith, ◌<◌, ◌+◌, true, false, Bool, inl, inr, eqb, subst, flat_map}
use Rattle.traffic.proofs.Common.{map, filter, not, true≢false, get_or, None, Option, cases_Bool, eq-eqb, set, get_or-set_same, get_or-set_other, length-set}
use Rattle.traffic.proofs.Common.{if◌then◌else◌, node_turns, World, at, Setup, into, link_row, seconds_of, at_after_all, run, out_links_after, told}
use Rattle.traffic.proofs.{Common.credit_of, Common.keyed, Common.phase_code, Nodes.node-buffers, Nodes.buffers-credit, Nodes.node_untouched}
use Rattle.traffic.{proofs.Sublists.at-run, proofs.Sublists.credits-run, proofs.Sublists.at_after_all-untouched, specs.Links.LinkState, specs.Links.link_state}
use Rattle.traffic.specs.declared.{moves.Move.Move, moves.Occurrence.Occurrence, node_views.OutLink.OutLink, stage.Stage.TheVariants.Queue}
use Rattle.traffic.specs.declared.{stage.Stage.TheVariants.Buffer, stage.Stage.TheVariants.Wait, stage.Stage.TheVariants.Bay, world.Row.Row}
use Rattle.rows.specs.declared.settings.Stuck.{Stuck}
use Rattle.std.specs.List.{AllByRecursion as Each}
use Rattle.events.specs.declared.event.Event.{Event}
use Rattle.events.specs.declared.event.Phase.TheVariants as phase
use Rattle.law_in_range.{proofs.Junctions.node_fit, proofs.Kept.run_fit, specs.Rows.Counts, specs.Setups.IsFitSetup}
use Rattle.calendar.specs.{Due.AreIn, Waking.wake_of}
use Rattle.queue_link.specs.{Links.LinkView, Numbers.numbers_of, declared.numbers.LinkNumbers.LinkNumbers}
use Rattle.node_move.specs.{Entries.SpaceRows, NodeStates.buffer_after, NodeStates.entering_by, Spaces.places_in, Spaces.holes_in}
use Rattle.node_move.specs.declared.{crossings.Entering.Entering, turns.NodeTurn.NodeTurn}
use Rattle.link_seconds.specs.Seconds.{lists_at}
use Rattle.node_seconds.specs.Networks.{lane, is_among, slot_in, accepted_all, wakes_after_all, goes_out}
use Rattle.node_seconds.specs.Turns.{moves_in, IsNodeSecond}
use Rattle.part_links.specs.{Links.LinksStandAt, Links.AreAsleep, Phase.of_persons}
use Rattle.part_nodes.proofs.Buffered.{nobody_in, moves_of_some}
use Rattle.part_nodes.proofs.Crossings.{AreCrossings, node_crossings, rows_into, queue_after, aside_after, buffer_keeps, buffer_empty, places_are, out_rows}
use Rattle.part_nodes.proofs.Entered.{length_all, all_accepted, queued_on, all_accepted_asleep, all_come}
use Rattle.part_nodes.proofs.{Held.waits_again, Ready.some_in, Rested.handed_over_asleep, Seen.number_is, Seen.buffer_is}
use Rattle.part_nodes.proofs.Slots.{AreNumberedBy, stand_numbered, node_among, slot_finds, slot_nowhere}
use Rattle.part_nodes.specs.{InLinks.slots_of, Phase.Extent, Phase.HasLinks, Phase.LinksStandFor, Phase.IsPassed, Phase.IsTurn, Phase.going_out}
use Rattle.part_nodes.specs.Turns.{IsTurnOf, lights_of, buffered_in, is_buffered, wake_all_emptied, node_due, up_to}
use Rattle.part_nodes.specs.declared.{network.NetworkState.NetworkState, node_turns.Buffered.Buffered}
use Rattle.law_joined_routes.specs.Going.{GoesOn}

-- ONE LINK
-- a link whose buffer moves changed
abbrev pub handed : ℕ → List Move → LinkView → LinkView
handed l ms v = record v { lists = record v.lists { buffer = at_after_all l Buffer ms v.lists.buffer } }

handed_at : (l k : ℕ) (ms : List Move) (v : LinkView) → v.numbers.link ≡ k → k ≡ l → buffer_after ms v ≡ handed l ms v
handed_at l k ms v n e = ap (λ (j : ℕ). handed j ms v) (n ∙ e)

handed_same : (l : ℕ) (ms : List Move) (v : LinkView) → at_after_all l Buffer ms v.lists.buffer ≡ v.lists.buffer → v ≡ handed l ms v
handed_same l ms v e = ap (λ (xs : List Row). record v { lists = record v.lists { buffer = xs } }) (sym e)

-- a link that does not lead into the node keeps its buffer
other_buffer : (S : Setup) (t n l : ℕ) (V : World) (xs : List Row) → eqb (link_row S l).to n ≡ false → at_after_all l Buffer (node_turns S t n V) xs ≡ xs
other_buffer S t n l V xs e = at_after_all-untouched l Buffer (node_turns S t n V) xs (node_untouched S t n l Buffer V e)

seconds_is : (E : Extent) (S : Setup) (t k : ℕ) (links : List LinkView) (V : World) → k < E.size → LinksStandAt E.number E.size S t links V
    → (lane links k).numbers.seconds ≡ seconds_of S (E.number k)
unfolding numbers_of
seconds_is E S t k links V lt h = ap (λ (n : LinkNumbers). n.seconds) (h.numbers k lt).numbers

handed_is : (S : Setup) (E : Extent) (t n k : ℕ) (slots : List ℕ) (old links : List LinkView) (V : World) (ks : List ℕ) → k < E.size
    → HasLinks S E slots → E.mine n ≡ true → LinksStandAt E.number E.size S t old V
    → AreCrossings S t (node_turns S t n V) → ks ≡ filter (is_buffered old) (slots_of slots (into S n))
    → lane links k ≡ (if is_among k ks then buffer_after (node_turns S t n V) (lane old k) else lane old k)
    → lane links k ≡ handed (E.number k) (node_turns S t n V) (lane old k)
handed_is S E t n k slots old links V ks lt has own h cross are e =
    let l = E.number k in
    let ms = node_turns S t n V in
    let buffer = (lane old k).lists.buffer in
    elim (cases_Bool (is_among k ks)) [
      | inl b ↦ e ∙ rw b (handed_at l l ms (lane old k) (number_is E S t k old V lt h) refl)
      | inr b ↦
          let kept : at_after_all l Buffer ms buffer ≡ buffer =
          elim (cases_Bool (eqb (link_row S l).to n)) [
            | inl q ↦
                let none : buffer ≡ []
                = nobody_in k old (slots_of slots (into S n)) (ap (is_among k) (sym are) ∙ b) (node_among S E slots n k has own lt ∙ q) in
                buffer_empty S t l ms buffer cross none ∙ sym none
            | inr q ↦ other_buffer S t n l V buffer q
          ] in
          e ∙ rw b (handed_same l ms (lane old k) kept)
    ]

same_state : (A B : LinkState) → A.queue ≡ B.queue → A.buffer ≡ B.buffer → A.wait ≡ B.wait → A.bay ≡ B.bay → A.credit ≡ B.credit → A ≡ B
same_state A B q b w y c = λ i. record { queue = q i; buffer = b i; wait = w i; bay = y i; credit = c i }

-- the lists of a link after the turn, once those who enter came
lists_are : (S : Setup) (t n l : ℕ) (V : World) (v : LinkView) (es : List Entering) → v.numbers.seconds ≡ seconds_of S l → lists_at t v ≡ link_state l V
    → AreCrossings S t (node_turns S t n V) → es ≡ flat_map entering_by (node_turns S t n V)
    → lists_at t (queued_on (handed l (node_turns S t n V) v) (rows_into l (t + v.numbers.seconds) es)) ≡ link_state l (run S t (node_turns S t n V) V)
lists_are S t n l V v es sec h cross e =
    let ms = node_turns S t n V in
    let U = run S t ms V in
    let rows = rows_into l (t + v.numbers.seconds) es in
    let rows_are : rows ≡ rows_into l (t + seconds_of S l) (flat_map entering_by ms)
    = ap (λ (k : ℕ). rows_into l (t + k) es) sec ∙ ap (rows_into l (t + seconds_of S l)) e in
    let queue : v.lists.queue ++ rows ≡ at l Queue U
    = ap (λ (L : LinkState). L.queue ++ rows) h ∙ ap (λ (xs : List Row). at l Queue V ++ xs) rows_are
    ∙ sym (queue_after S t l ms (at l Queue V) cross) ∙ sym (at-run S t l Queue ms V) in
    let buffer : at_after_all l Buffer ms v.lists.buffer ≡ at l Buffer U
    = ap (λ (L : LinkState). at_after_all l Buffer ms L.buffer) h ∙ sym (at-run S t l Buffer ms V) in
    let wait : v.lists.wait ≡ at l Wait U
    = ap (λ (L : LinkState). L.wait) h ∙ sym (at-run S t l Wait ms V ∙ aside_after S t l Wait ms (at l Wait V) refl refl cross) in
    let bay : v.lists.bay ≡ at l Bay U
    = ap (λ (L : LinkState). L.bay) h ∙ sym (at-run S t l Bay ms V ∙ aside_after S t l Bay ms (at l Bay V) refl refl cross) in
    let credit : (lists_at t v).credit ≡ credit_of l U
    = ap (λ (L : LinkState). L.credit) h ∙ sym (buffers-credit S t l ms V (node-buffers S t n V)) in
    same_state (lists_at t (queued_on (handed l ms v) rows)) (link_state l U) queue buffer wait bay credit

-- ALL LINKS
-- what the calls of a turn made of links, the seconds in which they are woken, places, and who goes out
pub record Calls (S : Setup) (end t n : ℕ) (V : World) (slots : List ℕ) (old : List LinkView) (slept : List (Option ℕ)) (free : SpaceRows)
    (ks : List ℕ) (mid : List LinkView) (woken : List (Option ℕ)) (es : List Entering) (links : List LinkView) (wakes : List (Option ℕ))
    (space : SpaceRows) (first_out out : List Entering) : Type 0 where
  pub some : ks ≡ filter (is_buffered old) (slots_of slots (into S n))
  pub count : length mid ≡ length old
  pub lanes : (k : ℕ) → k < length old → lane mid k ≡ (if is_among k ks then buffer_after (node_turns S t n V) (lane old k) else lane old k)
  pub places : places_in space ≡ out_links_after (node_turns S t n V) (places_in free)
  pub entering : es ≡ flat_map entering_by (node_turns S t n V)
  pub emptied : woken ≡ wake_all_emptied t (map (buffered_in old) ks) mid slept
  pub entered : links ≡ accepted_all (slot_in slots mid) t es mid
  pub woken_then : wakes ≡ wakes_after_all (slot_in slots mid) end t es mid woken
  pub gone : out ≡ first_out ++ filter (goes_out (slot_in slots mid)) es

module _ (z : Counts) (S : Setup) (E : Extent) (end t n : ℕ) (V : World) (slots : List ℕ) (old : List LinkView) (slept : List (Option ℕ))
    (free : SpaceRows) (ks : List ℕ) (mid : List LinkView) (woken : List (Option ℕ)) (es : List Entering) (links : List LinkView)
    (wakes : List (Option ℕ)) (space : SpaceRows) (first_out out : List Entering) (has : HasLinks S E slots) (own : E.mine n ≡ true)
    (h : LinksStandFor z S E end t old slept free V) (cross : AreCrossings S t (node_turns S t n V))
    (c : Calls S end t n V slots old slept free ks mid woken es links wakes space first_out out) where
  handed_mid : (k : ℕ) → k < E.size → lane mid k ≡ handed (E.number k) (node_turns S t n V) (lane old k)
  handed_mid k lt =
      let within : k < length old = (let q = h.stand.count in omega arith) in
      handed_is S E t n k slots old mid V ks lt has own h.stand cross c.some (c.lanes k within)

  mid_numbered : AreNumberedBy E mid
  mid_numbered =
      let was = stand_numbered E S t old V h.stand in
      record {
        count = c.count ∙ was.count;
        numbers = λ k lt. ap (λ (v : LinkView). v.numbers.link) (handed_mid k lt) ∙ was.numbers k lt;
      }

  lane_is : (k : ℕ) → k < E.size
      → lane links k ≡ queued_on (handed (E.number k) (node_turns S t n V) (lane old k)) (rows_into (E.number k) (t + (lane old k).numbers.seconds) es)
  lane_is k lt =
      let l = E.number k in
      let there : k < length mid = (let q = mid_numbered.count in omega arith) in
      ap (λ (xs : List LinkView). lane xs k) c.entered
      ∙ all_accepted (slot_in slots mid) t l k es mid there (mid_numbered.numbers k lt) (λ m. slot_finds S E slots mid m k has mid_numbered lt)
      ∙ ap (λ (v : LinkView). queued_on v (rows_into l (t + v.numbers.seconds) es)) (handed_mid k lt)

  they_rest : t < end → AreAsleep S.settings.dwell end t links wakes
  they_rest in_day =
      let D = S.settings.dwell in
      let P = slot_in slots mid in
      let there : AreIn (length old) ks = some_in S E slots n (length old) (is_buffered old) ks h.stand.count c.some has own in
      let over = handed_over_asleep D end t (node_turns S t n V) ks old mid slept in_day c.count there c.lanes h.asleep in
      let before : AreAsleep D end t mid woken = subst (λ (ws : List (Option ℕ)). AreAsleep D end t mid ws) (sym c.emptied) over in
      let after = all_accepted_asleep P D end t t es mid woken (all_come P t mid es) before in
      subst (λ (xs : List LinkView). AreAsleep D end t xs wakes) (sym c.entered)
      (subst (λ (ws : List (Option ℕ)). AreAsleep D end t (accepted_all P t es mid) ws) (sym c.woken_then) after)

  they_stand : LinksStandAt E.number E.size S t links (run S t (node_turns S t n V) V)
  they_stand =
      let ms = node_turns S t n V in
      record {
        count = ap length c.entered ∙ length_all (slot_in slots mid) t es mid ∙ c.count ∙ h.stand.count;
        credits = credits-run S t ms V ∙ h.stand.credits;
        numbers = λ k lt. record { numbers = ap (λ (v : LinkView). v.numbers) (lane_is k lt) ∙ (h.stand.numbers k lt).numbers };
        raised = λ k lt. (let q = ap (λ (v : LinkView). v.raised) (lane_is k lt) in let r = h.stand.raised k lt in omega arith);
        lists = λ k lt.
            ap (lists_at t) (lane_is k lt)
            ∙ lists_are S t n (E.number k) V (lane old k) es (seconds_is E S t k old V lt h.stand) (h.stand.lists k lt) cross c.entering;
      }

  they_go : out ≡ first_out ++ going_out S E.mine (node_turns S t n V)
  they_go =
      let P = slot_in slots mid in
      let ms = node_turns S t n V in
      c.gone ∙ ap (λ (xs : List Entering). first_out ++ filter (goes_out P) xs) c.entering
      ∙ ap (λ (xs : List Entering). first_out ++ xs)
      (out_rows S t (goes_out P) (λ (m : ℕ). not (E.mine (link_row S m).to)) ms (λ e lt. slot_nowhere S E slots mid e.link has mid_numbered lt) cross)

  pub passed : t < end → IsFitSetup z S → LinksStandFor z S E end t links wakes space (run S t (node_turns S t n V) V)
  passed in_day fit =
      let ms = node_turns S t n V in
      let moves_fit = node_fit z S t n V fit h.fit in
      record {
        fit = run_fit z S t ms V fit h.fit moves_fit;
        on = λ l lt its.
            subst (Each (GoesOn S l)) (sym (at-run S t l Buffer ms V))
            (buffer_keeps (GoesOn S l) S t l ms (at l Buffer V) (λ u r g. record { there = g.there; joined = g.joined }) cross (h.on l lt its));
        stand = they_stand;
        asleep = they_rest in_day;
        places = λ m lt begins.
            ap (λ (f : ℕ → Option OutLink). f m) c.places ∙ places_are S t n m V (places_in free) cross (h.places m lt begins);
      }

-- by the moves of the node, as its turn knows them
pub passed_on : (z : Counts) (S : Setup) (E : Extent) (end t n : ℕ) (V : World) (slots : List ℕ) (old : List LinkView) (slept : List (Option ℕ))
    (free : SpaceRows) (turn : NodeTurn) (ks : List ℕ) (greens : List Bool) (bs : List Buffered) (mid : List LinkView)
    (woken : List (Option ℕ)) (es : List Entering) (links : List LinkView) (wakes : List (Option ℕ)) (space : SpaceRows)
    (first now : List Occurrence) (first_out out : List Entering)
    → HasLinks S E slots → E.mine n ≡ true → t < end → IsFitSetup z S → IsTurnOf S t n turn.stuck turn.second turn.draws
    → ks ≡ filter (is_buffered old) (slots_of slots (into S n)) → greens ≡ lights_of S t old ks
    → bs ≡ map (buffered_in old) ks → length mid ≡ length old → first ≡ []
    → IsNodeSecond turn ks greens old mid free space es first now
    → woken ≡ wake_all_emptied t bs mid slept → links ≡ accepted_all (slot_in slots mid) t es mid
    → wakes ≡ wakes_after_all (slot_in slots mid) end t es mid woken → out ≡ first_out ++ filter (goes_out (slot_in slots mid)) es
    → LinksStandFor z S E end t old slept free V → IsPassed z S E end t n V links wakes space now first_out out
passed_on z S E end t n V slots old slept free turn ks greens bs mid woken es links wakes space first now first_out out has own in_day fit is to lit held
    count none made wa li lw go h =
    let P = places_in free in
    let were = moves_in turn old ks greens P in
    let ms = node_turns S t n V in
    let moves : were ≡ ms
    = ap (λ (gs : List Bool). moves_in turn old ks gs P) lit
    ∙ moves_of_some E S t n turn.stuck turn.second turn.draws old free V slots ks to has own is h.stand h.on h.places in
    let cross = node_crossings z S t n V (sym fit.links) (node_fit z S t n V fit h.fit) in
    let c : Calls S end t n V slots old slept free ks mid woken es links wakes space first_out out
    = record {
      some = to;
      count = count;
      lanes = λ k lt. made.links k lt ∙ ap (λ (xs : List Move). if is_among k ks then buffer_after xs (lane old k) else lane old k) moves;
      places = made.space ∙ ap (λ (xs : List Move). out_links_after xs P) moves;
      entering = made.entered ∙ ap (flat_map entering_by) moves;
      emptied = wa ∙ ap (λ (xs : List Buffered). wake_all_emptied t xs mid slept) held;
      entered = li;
      woken_then = lw;
      gone = go;
    } in
    record {
      stand = passed z S E end t n V slots old slept free ks mid woken es links wakes space first_out out has own h cross c in_day fit;
      said = made.said ∙ ap (λ (xs : List Occurrence). xs ++ flat_map told were) none ∙ ap (flat_map told) moves;
      gone = they_go z S E end t n V slots old slept free ks mid woken es links wakes space first_out out has own h cross c;
    }

-- WHEN THE NODE IS WOKEN AGAIN
pub turned : (z : Counts) (S : Setup) (E : Extent) (end t n : ℕ) (V : World) (slots : List ℕ) (old new : NetworkState) (ks : List ℕ)
    (seen links : List LinkView) (K : Stuck) (always : ℕ → Bool) (events out : List Event) (said heard now : List Occurrence)
    (first_out gone : List Entering)
    → HasLinks S E slots → E.mine n ≡ true
    → IsPassed z S E end t n V links new.link_wakes new.places.space now first_out gone
    → length old.node_wakes ≡ S.nodes → ((m : ℕ) → E.mine m ≡ false → wake_of old.node_wakes m ≡ None)
    → n < S.nodes → ks ≡ slots_of slots (into S n)
    → new.links.items ≡ links → seen ≡ links → ((m : ℕ) → holes_in new.places.space m ≡ holes_in old.places.space m) → new.places.freed ≡ old.places.freed
    → t < end → K ≡ S.settings.stuck → ((l : ℕ) → always l ≡ true → (u : ℕ) → S.green l u ≡ true)
    → new.node_wakes ≡ set old.node_wakes n (up_to end (node_due K t always new.places.space seen None ks))
    → out ≡ events ++ keyed t (phase_code phase.C) n 0 now → heard ≡ said ++ of_persons now
    → IsTurn z S E end t n V old new events out said heard first_out gone
turned z S E end t n V slots old new ks seen links K always events out said heard now first_out gone has own p nodes only lt to made sees_them ho fr
    in_day patience green woken ev sa =
    let U = run S t (node_turns S t n V) V in
    let h = p.stand in
    let space = new.places.space in
    let all = slots_of slots (into S n) in
    let due : Option ℕ = node_due S.settings.stuck t always space links None all in
    let wakes : new.node_wakes ≡ set old.node_wakes n (up_to end due)
    = woken
    ∙ ap (λ (k : Stuck). set old.node_wakes n (up_to end (node_due k t always space seen None ks))) patience
    ∙ ap (λ (xs : List LinkView). set old.node_wakes n (up_to end (node_due S.settings.stuck t always space xs None ks))) sees_them
    ∙ ap (λ (js : List ℕ). set old.node_wakes n (up_to end (node_due S.settings.stuck t always space links None js))) to in
    let within : n < length old.node_wakes = omega arith in
    let own_wake : wake_of new.node_wakes n ≡ up_to end due
    = ap (λ (ws : List (Option ℕ)). wake_of ws n) wakes ∙ get_or-set_same old.node_wakes n (up_to end due) None within in
    let others : (m : ℕ) → m ≢ n → wake_of new.node_wakes m ≡ wake_of old.node_wakes m
    = λ m ne. ap (λ (ws : List (Option ℕ)). wake_of ws m) wakes ∙ get_or-set_other old.node_wakes n m (up_to end due) None ne in
    record {
      stands = record {
        links = subst (λ (xs : List LinkView). LinksStandFor z S E end t xs new.link_wakes space U) (sym made) h;
        nodes = ap length wakes ∙ length-set old.node_wakes n (up_to end due) ∙ nodes;
        only = λ m foreign.
            others m (λ (e : m ≡ n). true≢false (sym own ∙ ap E.mine (sym e) ∙ foreign)) ∙ only m foreign;
      };
      holes = ho;
      freed = fr;
      others = others;
      awaited = λ l not_woken there leads.
          let its : E.mine (link_row S l).to ≡ true = ap E.mine leads ∙ own in
          let f = has.found l there its in
          let k = get_or slots l 0 in
          let a : is_among k all ≡ true
          = node_among S E slots n k has own f.there ∙ eq-eqb (link_row S (E.number k)).to n (ap (λ (j : ℕ). (link_row S j).to) f.link ∙ leads) in
          let number : (lane links k).numbers.link ≡ l = number_is E S t k links U f.there h.stand ∙ f.link in
          let buffer : (lane links k).lists.buffer ≡ at l Buffer U
          = buffer_is E S t k links U f.there h.stand ∙ ap (λ (j : ℕ). at j Buffer U) f.link in
          waits_again E.mine S end t l k always space links all U (at l Buffer U) (wake_of new.node_wakes n) in_day its (green l) h.places
          (h.on l there its) own_wake not_woken a number buffer;
      events = ev ∙ ap (λ (xs : List Occurrence). events ++ keyed t (phase_code phase.C) n 0 xs) p.said;
      said = sa ∙ ap (λ (xs : List Occurrence). said ++ of_persons xs) p.said;
      gone = p.gone;
    }
