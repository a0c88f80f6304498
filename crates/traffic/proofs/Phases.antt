-- In each phase all turns are those of the world at its start.
use Rattle.traffic.proofs.Common.{◌≡◌, ℕ, refl, map, Phase, turns_of, link_turns, turns_in, count_of, Apart, turn_of, rules, link_state, below, World, Setup}
use Rattle.traffic.proofs.{Links.link-at, Links.link_state-other, Nodes.nodes_apart, Persons.flights_apart, Persons.leaves_apart, Persons.departures_apart}
use Rattle.traffic.proofs.{Turns.Distinct-numbers, Turns.turns_at_once, Waiting.waiters-other}
use Rattle.events.specs.declared.event.Phase.TheVariants as phase

pub links_apart : (S : Setup) (t : ℕ) → Apart S t (link_turns S t)
links_apart S t n m W ne = cc (waiters-other S t m n (rules S m) (link_state m W) W ne, link_state-other S t m n (link_turns S t m W) W ne (link-at S t m W))

pub plans_apart : (S : Setup) (t : ℕ) (p : Phase) → Apart S t (turns_of S t p)
unfolding turns_of
plans_apart S t phase.A = flights_apart S t
plans_apart S t phase.B1 = leaves_apart S t
plans_apart S t phase.B2 = departures_apart S t
plans_apart S t phase.C = nodes_apart S t
plans_apart S t phase.D = links_apart S t
plans_apart S t phase.E = λ n m W ne. refl

pub phase_at_once : (S : Setup) (t : ℕ) (p : Phase) (W : World) → turns_in S t p W ≡ map (turn_of (turns_of S t p) W) (below (count_of S p))
unfolding turns_in
phase_at_once S t p W = turns_at_once S t (turns_of S t p) (plans_apart S t p) (below (count_of S p)) W (Distinct-numbers 0 (count_of S p))
