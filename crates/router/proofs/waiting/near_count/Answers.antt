use Rattle.std.proofs.Common.{arith, ◌≤◌, inl, inr, sym}
use Rattle.std.proofs.lemmas.{Bool.cases_lt, List.Elements.All-weaker}
use Rattle.std.specs.{BinaryHeap.heap_items}
use Rattle.router.{proofs.Ringing.heap_earliest, specs.Rings.later_entries, specs.declared.waiting.Entry.Entry, specs.declared.waiting.TheConstants.RING_SECONDS}
use Rattle.router.proofs.waiting.near_count.Goals as goal

pub returns-in-Some-clause-later : goal.returns-in-Some-clause-later
returns-in-Some-clause-later c second after before =
    let some = c.saturating_sub.ensures in
    let few = c.min.ensures in
    let early : second ≤ c.in-Some.top.now.0.second = omega arith in
    All-weaker (λ (e : Entry). c.in-Some.top.now.0.second ≤ e.second) (λ (e : Entry). second ≤ e.second) (λ e h. omega arith)
    (later_entries (heap_items c.args.far.now))
    (heap_earliest c.in-Some.top.now (heap_items c.args.far.now) (c.in-Some.ensures.greatest c.requires))

pub returns-in-Some-clause-top : goal.returns-in-Some-clause-top
returns-in-Some-clause-top c =
    let some = c.saturating_sub.ensures in
    let few = c.min.ensures in
    elim (cases_lt c.saturating_sub.result RING_SECONDS) [
      | inl less ↦ inr (c.in-Some.top.now, sym c.in-Some.ensures.lookup, omega arith)
      | inr past ↦ inl (omega arith)
    ]
