-- The own world of a partition: what the partition holds, as a world.
use Rattle.std.specs.Prelude.{◌≡◌, ℕ, ◌<◌, Bool, true, false, length, ◌==◌}
use Rattle.events.specs.declared.event.Phase.TheVariants as phase
use Rattle.traffic.specs.{Day.departure_turns, Day.node_turns, Day.link_turns, Day.turns, Day.turns_in, Day.after, Nodes.taken_at, Persons.waiters, Rows.World}
use Rattle.traffic.specs.{Rows.at, Rows.rank, Rows.credit_of, Rows.person_of, Rows.nobody, Setup.Setup, declared.stage.Stage.Stage}
use Rattle.law_in_range.specs.Rows.{Counts, IsFitWorld}
use Rattle.parts.specs.{Owners.Owner, Owners.begins_in, Parts.Held, Parts.mine}
use Rattle.law_partitions.specs.Alone.{taken_here, waiters_here, my_nodes, my_links, my_runs, A_part, B1_part, B2_part, C_part, D_part}
use Rattle.law_partitions.specs.Alone.{after_A, after_B1, early, after_C, after_D}

-- World V has what a partition holds: its lists and credits, and the rows of those persons whom it has.
pub record IsWorldOf (S : Setup) (has : ℕ → Bool) (H : Held) (V : World) : Type 0 where
  pub list : (l : ℕ) (s : Stage) → H.list l s ≡ at l s V
  pub credit : (l : ℕ) → l < length S.links → H.credit l ≡ credit_of l V
  pub person : (i : ℕ) → H.person i ≡ mine (has i) (person_of i V)
  pub there : (i : ℕ) → has i ≡ true → i < length S.persons
  pub one_each : length V.persons ≡ length S.persons
  pub credits : length V.credits ≡ length S.links

-- So it is before second t of partition p: the places of the links that begin in p are taken as p knows, whoever stands on these links,
-- and the persons whom p lacks are nowhere.
pub record IsOwnWorld (S : Setup) (own : Owner) (p t : ℕ) (has : ℕ → Bool) (H : Held) (V : World) : Type 0 where
  pub world : IsWorldOf S has H V
  pub taken : (m : ℕ) → begins_in S own m ≡ p → taken_here S t H m ≡ taken_at S t m V
  pub nowhere : (i : ℕ) → has i ≡ false → person_of i V ≡ nobody

-- the world after each phase, in which all persons have their turns, but only those departures, nodes and links that are p's
abbrev pub landed : Setup → ℕ → World → World
landed S t V = after S t (turns_in S t phase.A V) V

abbrev pub left : Setup → ℕ → World → World
left S t V = after S t (turns_in S t phase.B1 (landed S t V)) (landed S t V)

abbrev pub set_out : Setup → Owner → ℕ → ℕ → World → World
set_out S own p t V = after S t (turns S t (departure_turns S t) (my_runs S own p) (left S t V)) (left S t V)

abbrev pub crossed : Setup → Owner → ℕ → ℕ → World → World
crossed S own p t V = after S t (turns S t (node_turns S t) (my_nodes S own p) (set_out S own p t V)) (set_out S own p t V)

abbrev pub driven : Setup → Owner → ℕ → ℕ → World → World
driven S own p t V = after S t (turns S t (link_turns S t) (my_links S own p) (crossed S own p t V)) (crossed S own p t V)

-- The turns of p in second t by itself are turns of that world, phase by phase, and these make of it what the partition then holds.
pub record IsSecondOf (S : Setup) (own : Owner) (p t : ℕ) (has : ℕ → Bool) (H : Held) (V : World) : Type 0 where
  pub landings : A_part S t H ≡ turns_in S t phase.A V
  pub leavings : B1_part S t (after_A S t H) ≡ turns_in S t phase.B1 (landed S t V)
  pub departures : B2_part S own p t ≡ turns S t (departure_turns S t) (my_runs S own p) (left S t V)
  pub nodes : C_part S own p t (early S own p t H) ≡ turns S t (node_turns S t) (my_nodes S own p) (set_out S own p t V)
  pub links :
      D_part S own p t (after_C S own p t (early S own p t H)) ≡ turns S t (link_turns S t) (my_links S own p) (crossed S own p t V)
  pub after_leavings : IsWorldOf S has (after_B1 S t (after_A S t H)) (left S t V)
  pub after_departures : IsWorldOf S has (early S own p t H) (set_out S own p t V)
  pub after_nodes : IsWorldOf S has (after_C S own p t (early S own p t H)) (crossed S own p t V)
  pub after_links : IsWorldOf S has (after_D S own p t (after_C S own p t (early S own p t H))) (driven S own p t V)
  -- who waits at stops before the nodes have their turns, and before the links have theirs
  pub waiters_before : (l : ℕ) → waiters_here S l (early S own p t H) ≡ waiters S l (set_out S own p t V)
  pub waiters_behind : (l : ℕ) → waiters_here S l (after_C S own p t (early S own p t H)) ≡ waiters S l (crossed S own p t V)
  -- before the nodes have their turns nothing has changed but wait lists and persons
  pub lists : (l : ℕ) (s : Stage) → (2 == rank s) ≡ false → at l s (set_out S own p t V) ≡ at l s V
  pub rows : (m : ℕ) → (early S own p t H).rows m ≡ H.rows m
  pub holes : (m : ℕ) → (early S own p t H).holes m ≡ H.holes m
  pub taken : (m : ℕ) → begins_in S own m ≡ p → taken_here S t (early S own p t H) m ≡ taken_at S t m (set_out S own p t V)

-- these worlds are fit
pub record StaysFit (z : Counts) (S : Setup) (own : Owner) (p t : ℕ) (V : World) : Type 0 where
  pub left_is : IsFitWorld z (left S t V)
  pub set_out_is : IsFitWorld z (set_out S own p t V)
  pub crossed_is : IsFitWorld z (crossed S own p t V)
  pub driven_is : IsFitWorld z (driven S own p t V)
