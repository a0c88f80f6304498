-- No turn but a node's puts a row into a queue and none but a link's into a buffer, and those of persons and departures change no credit.
use Rattle.traffic.proofs.Common.{◌≡◌, ℕ, List, refl, ◌∷◌, ◌++◌, subst, ◌≢◌, Phase, Act, Leg, turns_of, phases, credits_after, run, sets_out, World, person_of}
use Rattle.traffic.proofs.{Common.Setup, Common.act_after, Common.leg_at, Each.each_weaker, LinkWalk.LinkCases, LinkWalk.link_walk}
use Rattle.traffic.proofs.Moments.{Along, along_at, along_weaker, along_each, each_along}
use Rattle.traffic.{proofs.NodeWalk.node_walk, proofs.Walks.flight_walk, proofs.Walks.leave_walk, proofs.Walks.departure_walk, specs.declared.moves.Move.Move}
use Rattle.traffic.specs.declared.{moves.Move.TheVariants.Transfer, moves.Move.TheVariants.Enter, stage.Stage.TheVariants.Queue, stage.Stage.TheVariants.Buffer}
use Rattle.std.specs.List.{AllByRecursion as Each}
use Rattle.events.specs.declared.event.Phase.TheVariants as phase
use Rattle.rows.specs.declared.plan.Leg.TheVariants as leg
use Rattle.law_capacity.proofs.{Entering.LetsIn, Entering.let_cases, Turns.phases_along}
use Rattle.law_capacity.specs.Moves.{IsElsewhere, second_moves, KeepsRule}

-- LINKS
link_cases : (S : Setup) (t l : ℕ) → LinkCases S t l (λ W m. IsElsewhere Queue m)
link_cases S t l =
    record {
      due = λ k r W e c q. cc;
      serve = λ s ws r xs W e c f q. cc;
      arrive = λ s r xs W e c o. tt;
      pass = λ s b r xs W e c o q. cc;
      pay = λ c W. tt;
      free = λ W. tt;
    }

-- PERSONS AND DEPARTURES
-- a move that changes no credit
abbrev pub IsFree : Move → Type 0
IsFree m = (cs : List ℕ) → credits_after m cs ≡ cs

-- a move of a person or a departure
abbrev IsStart : Move → Type 0
IsStart m = IsElsewhere Queue m × IsElsewhere Buffer m × IsFree m

out_start : (S : Setup) (i : ℕ) (w : Leg) (next : Act) → Each IsStart (sets_out S i w next)
out_start S i (leg.Car route) next = (((λ q. cc), (λ q. cc), λ cs. refl), tt)
out_start S i (leg.Teleport mode seconds) next = tt
out_start S i (leg.Transit line access egress) next = ((tt, tt, λ cs. refl), tt)

starts : (S : Setup) (t n : ℕ) (p : Phase) (W : World) → p ≢ phase.C → p ≢ phase.D → Each IsStart (turns_of S t p n W)
unfolding turns_of
starts S t n phase.A W c d = flight_walk (λ ms. Each IsStart ms) S t n (person_of n W) tt (λ mode seconds start e f g. ((tt, tt, λ cs. refl), tt))
starts S t n phase.B1 W c d = let P = person_of n W in leave_walk (λ ms. Each IsStart ms) S t n (person_of n W) tt (λ e. ((tt, tt, λ cs. refl), out_start S n (leg_at S n P.element) (act_after S n P.element)))
starts S t n phase.B2 W c d = departure_walk (λ ms. Each IsStart ms) S t n tt (λ e. (((λ q. cc), (λ q. cc), λ cs. refl), tt))
starts S t n phase.C W c d = absurd (c refl)
starts S t n phase.D W c d = absurd (d refl)
starts S t n phase.E W c d = tt

-- BY PHASES
node_lets : (S : Setup) (t n : ℕ) (W : World) → Along (LetsIn S t) S t (turns_of S t phase.C n W) W
unfolding turns_of
node_lets S t n W = node_walk S t n (LetsIn S t) (let_cases S t n) W

pub elsewhere : (S : Setup) (t n : ℕ) (p : Phase) (W : World) → p ≢ phase.C → Each (IsElsewhere Queue) (turns_of S t p n W)
unfolding turns_of
elsewhere S t n phase.C W ne = absurd (ne refl)
elsewhere S t n phase.D W ne = along_each (IsElsewhere Queue) S t _ W (link_walk S t n _ (link_cases S t n) W)
elsewhere S t n p W ne = each_weaker IsStart (IsElsewhere Queue) (λ m g. g.0) (turns_of S t p n W) (starts S t n p W (λ q. cc) (λ q. cc))

-- no turn but a link's puts a row into a buffer, or changes a credit
pub apart : (S : Setup) (t n : ℕ) (p : Phase) (W : World) → p ≢ phase.D → Each (λ m. IsElsewhere Buffer m × IsFree m) (turns_of S t p n W)
apart S t n phase.C W ne = along_each _ S t _ W (along_weaker (LetsIn S t) _ (λ V m g. (g.1, g.2)) S t _ W (node_lets S t n W))
apart S t n phase.D W ne = absurd (ne refl)
apart S t n p W ne = each_weaker IsStart _ (λ m g. (g.1, g.2)) (turns_of S t p n W) (starts S t n p W (λ q. cc) (λ q. cc))

pub no_buffer : (S : Setup) (t n : ℕ) (p : Phase) (W : World) → p ≢ phase.D → Each (IsElsewhere Buffer) (turns_of S t p n W)
no_buffer S t n p W ne = each_weaker (λ m. IsElsewhere Buffer m × IsFree m) (IsElsewhere Buffer) (λ m g. g.0) (turns_of S t p n W) (apart S t n p W ne)

-- ALL MOVES OF A SECOND
else_rule : (S : Setup) (t : ℕ) (W : World) (m : Move) → IsElsewhere Queue m → KeepsRule S t W m
else_rule S t W (Transfer l s k was now) h = λ q. absurd (h q)
else_rule S t W (Enter now) h = h
else_rule S t W _ h = tt

turn_rule : (S : Setup) (t : ℕ) (p : Phase) (n : ℕ) (W : World) → Along (KeepsRule S t) S t (turns_of S t p n W) W
turn_rule S t phase.C n W = along_weaker (LetsIn S t) (KeepsRule S t) (λ V m g. g.0) S t _ W (node_lets S t n W)
turn_rule S t p n W = along_weaker (λ V m. IsElsewhere Queue m) (KeepsRule S t) (else_rule S t) S t _ W (each_along (IsElsewhere Queue) S t _ W (elsewhere S t n p W (λ q. cc)))

pub second_rule : (S : Setup) (t : ℕ) (W : World) → Along (KeepsRule S t) S t (second_moves S t W) W
second_rule S t W = phases_along (KeepsRule S t) S t (λ p n V lt. turn_rule S t p n V) phases W

pub in_time : (S : Setup) (t : ℕ) (W : World) (before later : List Move) (m : Move) → second_moves S t W ≡ before ++ m ∷ later → KeepsRule S t (run S t before W) m
in_time S t W before later m e = along_at (KeepsRule S t) S t before later m W (subst (λ (ms : List Move). Along (KeepsRule S t) S t ms W) e (second_rule S t W))
