use Rattle.std.proofs.Common.{arith, ◌≡◌, inl, inr, ℕ, List, length, refl, sym, ◌∙◌, ap, subst}
use Rattle.std.proofs.lemmas.Bool.{cases_eq}
use Rattle.travel_times.{proofs.Networks.length-ends_of, specs.Times.arrivals}
use Rattle.rows.specs.{Joined.ends_of, declared.network.LinkRow.LinkRow}
use Rattle.walks.specs.Certificates.{IsKept}
use Rattle.route_check.proofs.Ends.{is_link, kept_by_row, row_kept}
use Rattle.route_check.proofs.are_kept.Goals as goal

pub returns-then-not-is_kept : goal.returns-then-not-is_kept
returns-then-not-is_kept c = (
  λ never. absurd (cc never),
  λ kept.
      let same : c.deref-link-items.result.now ≡ c.args.links.now = c.deref-link-items.ensures.value ∙ c.links.view_is in
      c.if-not-is_kept.ensures.1 (row_kept c.args.links.now c.deref-link-items.result.now (arrivals c.args.times.now) c.args.labels.now
      c.loop-number.number _ same c.loop-number-test.true
      (kept c.loop-number.number (is_link c.args.links.now c.deref-link-items.result.now c.loop-number.number same
      c.loop-number-test.true))),
)

pub loop-number-preserved : goal.loop-number-preserved
loop-number-preserved c k less = elim (cases_eq k c.loop-number.number) [
  | inl here ↦
      let same : c.deref-link-items.result.now ≡ c.args.links.now = c.deref-link-items.ensures.value ∙ c.links.view_is in
      let P : ℕ → Type 0 = λ n. IsKept (ends_of c.args.links.now) (arrivals c.args.times.now) c.args.labels.now n in
      subst P (sym here) (kept_by_row c.args.links.now c.deref-link-items.result.now (arrivals c.args.times.now) c.args.labels.now
      c.loop-number.number _ same c.loop-number-test.true (c.if-not-is_kept.ensures.0 refl))
  | inr other ↦ c.loop-number.invariant k (omega arith)
]

pub returns : goal.returns
returns c = (
  λ holds link within.
      let count = length-ends_of c.args.links.now in
      let same = ap (λ (ls : List LinkRow). length ls) (c.deref-link-items.ensures.value ∙ c.links.view_is) in
      let end = c.loop-number-test.false in
      c.loop-number.invariant link (omega arith),
  λ kept. refl,
)
