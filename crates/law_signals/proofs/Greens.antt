-- What each turn tells is what signals let happen.
use Rattle.traffic.proofs.Common.{◌≡◌, ℕ, List, ◌∙◌, ap, refl, [], ◌∷◌, true, Bool, eqb-true, zero, suc, ◌+◌, ◌*◌, ◌≢◌, Option, get_or, map, and_parts, not}
use Rattle.traffic.proofs.Common.{eqb, phase_code, Phase, Act, Leg, World, Setup, false, at, rank, act_after, leg_at, person_of, into, told, leaves, enters}
use Rattle.traffic.proofs.Common.{boarded, flat_map, alighting, next_call, strands, starts, serves, arrives, told_to, told_transfer, told_removal, may_enter}
use Rattle.traffic.proofs.Common.{is_stuck, since_of, pass_node, pass_node_all, no_in_link, one_more, drawn, draw, without_at, next_link, out_links_after}
use Rattle.traffic.proofs.Common.{in_link, node_view, node_moves, ready, red, candidates, mark, is_nil, node_turns, link_turns, turns_of, rules, link_state}
use Rattle.traffic.proofs.{Common.waiters, Common.waiting, Common.sets_out, Each.each_all, Each.each_append, Each.each_if, Each.each_filter, Each.each_kept}
use Rattle.traffic.proofs.{Each.each_map, Each.each_flat_all, Each.each_without_at, Each.each_get_or, LinkEach.FrontMoves, LinkEach.serving_stage}
use Rattle.traffic.{proofs.LinkEach.link_each, proofs.Walks.flight_walk, proofs.Walks.leave_walk, proofs.Walks.departure_walk, specs.Rows.on}
use Rattle.traffic.specs.declared.{moves.Move.Move, moves.Occurrence.Occurrence, node_views.InLink.InLink, node_views.OutLink.OutLink, stage.Stage.Stage}
use Rattle.traffic.specs.declared.stage.Stage.TheVariants.{Queue, Buffer, Wait, Bay}
use Rattle.traffic.specs.declared.world.Row.{Row}
use Rattle.events.specs.declared.event.Phase.TheVariants as phase
use Rattle.events.specs.declared.event.VehicleId.TheVariants as vehicle
use Rattle.rows.specs.declared.plan.Leg.TheVariants as leg
use Rattle.std.specs.List.{AllByRecursion as Each}
use Rattle.law_signals.specs.Signals.{IsLet}

-- what is told is let happen
abbrev pub IsLetTold : Setup → ℕ → ℕ → Occurrence → Type 0
IsLetTold S t code x = IsLet S t code x.link x.word

-- so is all that a move tells
abbrev pub TellsLet : Setup → ℕ → ℕ → Move → Type 0
TellsLet S t code m = Each (IsLetTold S t code) (told m)

-- MOVES OF OTHER STAGES THAN BUFFERS
module _ (S : Setup) (t code : ℕ) where
  served_let : (was now : Row) → Each (IsLetTold S t code) (serves was now)
  served_let was now =
      let v = was.vehicle in
      let alight = alighting (next_call v).stop v.riders in
      let board = boarded (next_call v).stop v.riders now.vehicle.riders in (
        tt,
        each_append (IsLetTold S t code) (flat_map (leaves v.id was.link) alight) (flat_map (enters v.id) board)
            (each_flat_all (IsLetTold S t code) (leaves v.id was.link) (λ r. (tt, (tt, (tt, tt)))) alight) (each_flat_all (IsLetTold S t code) (enters v.id) (λ r. (tt, tt)) board),
      )

  to_let : (s : Stage) (was now : Row) → Each (IsLetTold S t code) (told_to s was now)
  to_let Queue was now = tt
  to_let Buffer was now = tt
  to_let Wait was now = tt
  to_let Bay was now = served_let was now

  starts_let : (r : Row) → Each (IsLetTold S t code) (starts r)
  starts_let r = each_if (IsLetTold S t code) r.vehicle.started [] _ tt (tt, tt)

  arrives_let : (r : Row) → Each (IsLetTold S t code) (arrives r)
  arrives_let r = (tt, each_flat_all (IsLetTold S t code) (leaves r.vehicle.id r.link) (λ x. (tt, (tt, (tt, tt)))) r.vehicle.riders)

  pub transfer_let : (s : Stage) (was now : Row) → s ≢ Buffer → Each (IsLetTold S t code) (told_transfer s was now)
  transfer_let Queue was now ne = to_let now.stage was now
  transfer_let Buffer was now ne = absurd (ne refl)
  transfer_let Wait was now ne = each_append (IsLetTold S t code) (starts was) (told_to now.stage was now) (starts_let was) (to_let now.stage was now)
  transfer_let Bay was now ne = (tt, tt)

  pub removal_let : (s : Stage) (was : Row) → s ≢ Buffer → Each (IsLetTold S t code) (told_removal s was)
  removal_let Queue was ne = arrives_let was
  removal_let Buffer was ne = absurd (ne refl)
  removal_let Wait was ne = each_append (IsLetTold S t code) (starts was) (arrives was) (starts_let was) (arrives_let was)
  removal_let Bay was ne = tt

  -- LINKS
  no_buffer : (s : Bool) → serving_stage s ≢ Buffer
  no_buffer true = λ q. cc
  no_buffer false = λ q. cc

  front_let : (l : ℕ) (s : Bool) → FrontMoves (rules S l) t l (λ v. Unit {0}) (λ ws. Unit {0}) (TellsLet S t code) s
  front_let l s = record {
    serve = λ ws r h w. transfer_let (serving_stage s) r _ (no_buffer s);
    left = λ v ws w. tt;
    arrive = λ r h. removal_let (serving_stage s) r (no_buffer s);
    pass = λ b r h. transfer_let (serving_stage s) r _ (no_buffer s);
    pay = λ credit. tt;
  }

  free_rows : (rows : List Row) → Each (λ (r : Row). Unit {0}) rows
  free_rows rows = each_all _ (λ r. tt) rows

  pub link_let : (l : ℕ) (W : World) → Each (TellsLet S t code) (link_turns S t l W)
  link_let l W =
      let L = link_state l W in
      link_each (rules S l) t l (λ v. Unit {0}) (λ ws. Unit {0}) (TellsLet S t code) (front_let l) (λ k r h. transfer_let Bay r (waiting l r) (λ q. cc)) tt (waiters S l W) L tt
      (free_rows L.queue) (free_rows L.wait) (free_rows L.bay)

  -- PERSONS AND DEPARTURES
  out_let : (i : ℕ) (w : Leg) (next : Act) → Each (TellsLet S t code) (sets_out S i w next)
  out_let i (leg.Car route) next = ((tt, tt), tt)
  out_let i (leg.Teleport mode seconds) next = tt
  out_let i (leg.Transit line access egress) next = ((tt, tt), tt)

-- NODES
module _ (S : Setup) (t : ℕ) where
  abbrev AtNode : Move → Type 0
  AtNode m = TellsLet S t (phase_code phase.C) m

  -- a green link hands over
  pass_let : (a : ℕ) → S.green a t ≡ true → (out_links : ℕ → Option OutLink) (since : ℕ) (rs : List Row) → Each (λ (r : Row). r.link ≡ a) rs → Each AtNode (pass_node S.settings.stuck t a out_links since rs)
  unfolding pass_node
  pass_let a green out_links since [] h = tt
  pass_let a green out_links since (r ∷ rs) h =
      let m = next_link r.vehicle in
      let here : S.green r.link t ≡ true = ap (λ (l : ℕ). S.green l t) h.0 ∙ green in
      each_if AtNode (may_enter S.settings.stuck t since (out_links m)) _ _ ((here, (tt, tt)), (tt, pass_let a green (one_more m out_links) t rs h.1))
      (each_if AtNode (is_stuck S.settings.stuck t since) _ _
      ((here, each_flat_all (IsLetTold S t (phase_code phase.C)) (strands r.vehicle.id r.link) (λ x. ((λ q. here), tt)) r.vehicle.riders), (tt, pass_let a green out_links t rs h.1)) tt)

  -- whatever the out-links
  abbrev HandsOver : InLink → Type 0
  HandsOver e = (out_links : ℕ → Option OutLink) → Each AtNode (pass_node_all S.settings.stuck t out_links e)

  none_let : HandsOver no_in_link
  unfolding pass_node
  none_let out_links = tt

  draw_let : (word : ℕ → ℕ) (left j : ℕ) (es : List InLink) (out_links : ℕ → Option OutLink) → Each HandsOver es → Each AtNode (draw S.settings.stuck t word left j es out_links)
  unfolding draw
  draw_let word zero j es out_links h = tt
  draw_let word (suc left) j es out_links h =
      let k = drawn es (word (16 * t + j)) in
      let ms = pass_node_all S.settings.stuck t out_links (get_or es k no_in_link) in
      each_append AtNode ms _ (each_get_or HandsOver es k no_in_link none_let h out_links)
      (draw_let word left (j + 1) (without_at k es) (out_links_after ms out_links) (each_without_at HandsOver k es h))

  -- an in-link as it is seen
  record IsSeen (e : InLink) : Type 0 where
    green : e.green ≡ S.green e.link t
    rows : Each (λ (r : Row). r.link ≡ e.link) e.rows

  rows_there : (l : ℕ) (W : World) → Each (λ (r : Row). r.link ≡ l) (at l Buffer W)
  rows_there l W =
      each_filter (λ (r : Row). Unit {0}) (λ (r : Row). r.link ≡ l) (on l Buffer) (λ r e k. eqb-true r.link l (and_parts (eqb (rank r.stage) (rank Buffer)) (eqb r.link l) e).1) W.rows
      (each_all _ (λ r. tt) W.rows)

  hands_over : (e : InLink) → e.green ≡ true → IsSeen e → HandsOver e
  hands_over e q k out_links =
      let green : S.green e.link t ≡ true = sym_to k.green q in
      pass_let e.link green out_links (since_of e.rows) e.rows k.rows
    where
      sym_to : {a b : Bool} → a ≡ b → a ≡ true → b ≡ true
      sym_to h g = cc

  pub node_let : (n : ℕ) (W : World) → Each AtNode (node_turns S t n W)
  unfolding node_moves
  node_let n W =
      let see = node_view S t n W in
      let seen = each_map (λ (l : ℕ). Unit {0}) IsSeen (in_link S t W) (λ l h. record { green = refl; rows = rows_there l W }) (into S n) (each_all _ (λ l. tt) (into S n)) in
      let some = each_kept IsSeen (λ (e : InLink). not (is_nil e.rows)) see.in_links seen in
      let es = candidates see.in_links in
      each_append AtNode (map (mark t) (red see.in_links)) _ (each_map (λ (e : InLink). Unit {0}) AtNode (mark t) (λ e h. tt) (red see.in_links) (each_all _ (λ e. tt) (red see.in_links)))
      (draw_let (S.word n) _ 0 es see.out_links (each_filter IsSeen HandsOver (λ (e : InLink). e.green) hands_over (ready see.in_links) some))

-- ALL TURNS
pub turn_let : (S : Setup) (t : ℕ) (p : Phase) (n : ℕ) (W : World) → Each (TellsLet S t (phase_code p)) (turns_of S t p n W)
unfolding turns_of
turn_let S t phase.A n W = flight_walk (λ ms. Each (TellsLet S t 0) ms) S t n (person_of n W) tt (λ mode seconds start e f g. ((tt, (tt, (tt, tt))), tt))
turn_let S t phase.B1 n W =
    let P = person_of n W in
    leave_walk (λ ms. Each (TellsLet S t 1) ms) S t n P tt (λ e. ((tt, (tt, tt)), out_let S t 1 n (leg_at S n P.element) (act_after S n P.element)))
turn_let S t phase.B2 n W = departure_walk (λ ms. Each (TellsLet S t 2) ms) S t n tt (λ e. ((tt, tt), tt))
turn_let S t phase.C n W = node_let S t n W
turn_let S t phase.D n W = link_let S t 4 n W
turn_let S t phase.E n W = tt
