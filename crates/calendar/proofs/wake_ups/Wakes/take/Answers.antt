use Rattle.std.proofs.Common.{◌≡◌, ◌∙◌, ℕ, List, ap, sym, subst}
use Rattle.std.specs.{List.Contains, Prelude.map, Prelude.filter, Prelude.Option}
use Rattle.calendar.proofs.{Ascending.asc_from, Hung.hung_taken, Hung.woken_is, Hung.all_asleep, Quiet.none_sleep}
use Rattle.calendar.proofs.wake_ups.Wakes.take.Goals.{After-lull}
use Rattle.calendar.specs.{Due.Due, Waking.AreHung, Waking.is_woken, Waking.woken, Waking.slept, Waking.asleep}
use Rattle.calendar.proofs.wake_ups.Wakes.take.Goals as goal

woken_then : (c : After-lull) → c.keep_woken.new.numbers.items ≡ woken c.args.second c.self.inside.due.items
woken_then c =
    let due = c.self.inside.due.items in
    let t = c.args.second in
    let numbers = c.ascending-numbers.result.items in
    c.keep_woken.ensures ∙ ap (λ (xs : List (Option ℕ)). filter (is_woken t xs) numbers) c.deref.ensures.value
    ∙ woken_is due c.self.inside.calendar t numbers c.self.invariant (asc_from numbers c.ascending-numbers.ensures.order)
    (λ n h. c.ascending-numbers.ensures.same n (subst (λ (xs : List ℕ). Contains xs n) (sym c.in_ok-numbers.ensures.due) h))

slept_then : (c : After-lull) → c.lull.new.due.items ≡ map (slept c.args.second) c.self.inside.due.items
slept_then c =
    let due = c.self.inside.due.items in
    c.lull.ensures ∙ ap (λ (ns : List ℕ). asleep ns due) (c.deref-2.ensures.value ∙ woken_then c) ∙ all_asleep c.args.second due

pub returns-then-is_quiet-clause-slept : goal.returns-then-is_quiet-clause-slept
returns-then-is_quiet-clause-slept c = none_sleep c.args.second 0 c.args.self.now (c.is_quiet.ensures c.if-is_quiet.true)

pub invariant_of-self : goal.invariant_of-self
invariant_of-self c = subst (λ (due : Due). AreHung c.self.inside.due.items due) (sym c.in_err-numbers.ensures.err) c.self.invariant

pub invariant_of-self-2 : goal.invariant_of-self-2
invariant_of-self-2 c =
    subst (λ (xs : List (Option ℕ)). AreHung xs c.take.new.self) (sym (slept_then (goal.at.invariant_of-self-2 c).After-lull))
    (hung_taken c.self.inside.due.items c.self.inside.calendar c.take.new.self c.args.second c.self.invariant c.in_ok-numbers.ensures.rest)

pub returns-clause-woken : goal.returns-clause-woken
returns-clause-woken c = woken_then (goal.at.returns-clause-woken c).After-lull ∙ ap (woken c.args.second) c.self.view_is

pub returns-clause-slept : goal.returns-clause-slept
returns-clause-slept c = slept_then (goal.at.returns-clause-slept c).After-lull ∙ ap (map (slept c.args.second)) c.self.view_is
