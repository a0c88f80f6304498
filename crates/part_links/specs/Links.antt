-- Links of a network and the lines of its stops, as they stand for those of a world, and when the links are woken. Links stand in slots:
-- those of the whole network, each in the slot of its own number, or those that one of several parts has.
use Rattle.std.specs.Prelude.{◌≡◌, ℕ, ◌+◌, ◌<◌, ◌≤◌, max, Bool, List, length, ◌==◌, Option, None, Some}
use Rattle.std.specs.List.{AllByRecursion as Each}
use Rattle.rows.specs.declared.settings.Dwelling.{Dwelling}
use Rattle.traffic.specs.{Links.link_state, Persons.waiters, Rows.World, Setup.Setup, Setup.link_row, Setup.link_of_stop, declared.world.Waiter.Waiter}
use Rattle.calendar.specs.Waking.{wake_of, within}
use Rattle.queue_link.specs.{Links.LinkView, Numbers.numbers_of, Waking.due_of}
use Rattle.link_seconds.specs.Seconds.{AreReady, IsReady, StopThere, IsThere, HaveLines, lists_at}
use Rattle.law_waking.specs.Resting.{Rests, sleeps_to}
use Rattle.node_seconds.specs.Networks.{lane}

-- THE LINKS
-- the numbers of link l are those of the setup
pub record IsLink (S : Setup) (l : ℕ) (v : LinkView) : Type 0 where
  pub numbers : v.numbers ≡ numbers_of l (link_row S l) S.settings

-- The links that are in so many slots, by slot, are links of the setup, each in one slot.
pub record AreNumbered (S : Setup) (size : ℕ) (number : ℕ → ℕ) : Type 0 where
  pub there : (k : ℕ) → k < size → number k < length S.links
  pub apart : (j k : ℕ) → j < size → k < size → number j ≡ number k → j ≡ k

-- Before the turns of second t the links in so many slots, with these numbers, stand for those of world V: with the gains of all seconds
-- before t each has the lists of V.
pub record LinksStandAt (number : ℕ → ℕ) (size : ℕ) (S : Setup) (t : ℕ) (links : List LinkView) (V : World) : Type 0 where
  pub count : length links ≡ size
  pub credits : length V.credits ≡ length S.links
  pub numbers : (k : ℕ) → k < size → IsLink S (number k) (lane links k)
  pub raised : (k : ℕ) → k < size → (lane links k).raised ≤ t
  pub lists : (k : ℕ) → k < size → lists_at t (lane links k) ≡ link_state (number k) V

-- THE LINES
-- whether a stop lies on link l
abbrev pub lies_on : Setup → ℕ → ℕ → Bool
lies_on S l stop = link_of_stop S stop == l

-- who waits at the stops of one of these links in world V stands in their lines, in turn
abbrev pub LinesStandAt : (ℕ → ℕ) → ℕ → Setup → List (List Waiter) → World → Type 0
LinesStandAt number size S lines V = (k : ℕ) → k < size → HaveLines (lies_on S (number k)) lines (waiters S (number k) V)

-- a link has had no turn in second t, and each of its vehicles can stop at one of so many stops
pub record CanTurn (stops t : ℕ) (v : LinkView) : Type 0 where
  pub raised : v.raised ≤ t
  pub ready : AreReady stops v
  pub bay : Each (IsReady stops v.numbers.link) v.lists.bay

-- a vehicle whose next call is on link l stops where the setup has the stop on that link
pub record StopsThere (S : Setup) (l : ℕ) (v : LinkView) : Type 0 where
  pub there : StopThere (lies_on S l) v
  pub bay : Each (IsThere (lies_on S l) v.numbers.link) v.lists.bay

-- WAKES
-- no sooner than this second
abbrev pub no_sooner : ℕ → Option ℕ → Option ℕ
no_sooner t None = None
no_sooner t (Some u) = Some (max t u)

-- when a link that had its turn in second t is woken again, where that is before the end
abbrev pub wake_after : ℕ → ℕ → LinkView → Option ℕ
wake_after end t v = within end (no_sooner (t + 1) (due_of v.numbers t v.lists))

-- From second t on each link rests up to the second in which it is woken, or up to the end; none is woken before t, nor from the end on.
pub record AreAsleep (D : Dwelling) (end t : ℕ) (links : List LinkView) (wakes : List (Option ℕ)) : Type 0 where
  pub count : length wakes ≡ length links
  pub rests : (l : ℕ) → l < length links → Rests D t (sleeps_to end (wake_of wakes l)) (lane links l)
  pub later : (l u : ℕ) → l < length links → wake_of wakes l ≡ Some u → t ≤ u
  pub soon : (l u : ℕ) → l < length links → wake_of wakes l ≡ Some u → u < end
