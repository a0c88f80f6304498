-- What the calls of the stand-in keep.
use Rattle.std.proofs.Common.{◌≡◌, ℕ, ◌<◌, List, length, sym, ap, ◌∙◌, subst}
use Rattle.step_core.specs.{Nets.border_at, Views.Stays, declared.part.Border.Border}
use Rattle.step_tests.proofs.Neighbours.{all_few}
use Rattle.step_tests.specs.{Counters.Counts, Rows.neighbours, declared.counters.Counter.Counter, declared.rows.Row.Row}

-- a partition whose number, neighbours and places are those that it had
pub stays : (old new : Counter) → new.number ≡ old.number → new.neighbours ≡ old.neighbours
    → length new.outbox.items ≡ length old.outbox.items → Stays Counts old new
stays old new number list long r h = record {
  there = subst (λ (p : ℕ). p < r.count) (sym number) h.there;
  neighbours = list ∙ (h.neighbours ∙ ap (λ (p : ℕ). neighbours r.count r.longest p) (sym number));
  places = long ∙ (h.places ∙ ap (λ rows. length rows) (sym list));
}

-- its neighbours are among as many partitions as there may be
pub few_in : (r : Row) (x : Counter) (rows : List Border) → Counts r x → rows ≡ x.neighbours → (k : ℕ) → k < length rows
    → (border_at rows k).neighbour < 64
few_in r x rows h e =
    subst (λ (list : List Border). (k : ℕ) → k < length list → (border_at list k).neighbour < 64) (sym (e ∙ h.neighbours))
    (all_few r.count r.longest r.end r.sound x.number h.there)
