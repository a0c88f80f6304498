use Rattle.std.proofs.Common.{arith, ◌≡◌, ◌<◌, ◌≤◌, ℕ, Bool, ◌&&◌, List, length, Option, Some, true, false, refl, ap, sym, ◌∙◌, subst}
use Rattle.std.specs.Prelude.{slice_index, unwrap_or, IsSomeAnd}
use Rattle.travel_times.specs.Times.{arrivals}
use Rattle.walks.specs.Chosen.{leads}
use Rattle.std.proofs.lemmas.List.{length-map}
use Rattle.router.proofs.{Backs.least_before, Backs.below_more, Backs.below_kept, Stars.links_of, Stars.spoke_at, Stars.spoke_link}
use Rattle.router.proofs.ways.link_before.Goals.{then-is_leading+then-is_below, else-is_leading, else-is_leading-via-then-is_leading+else-is_below}
use Rattle.router.{proofs.ways.link_before.Goals.else-is_leading-via-else-is_leading, specs.Ways.is_below}
use Rattle.router.specs.declared.star.Spoke.{Spoke}
use Rattle.router.proofs.ways.link_before.Goals as goal

and-false : (b : Bool) → (b && false) ≡ false
and-false true = refl
and-false false = refl

pub loop-spoke-preserved : goal.loop-spoke-preserved
loop-spoke-preserved c =
    let ends = c.args.adjacency.now.ends in
    let arrive = arrivals c.args.times.now in
    let labels = c.args.labels.now in
    let node = c.args.node in
    let spokes = c.into-spoke-items.result.now in
    let links : List ℕ = links_of c.into-spoke-items.result.now in
    let i = c.loop-spoke.spoke-index in
    let link : ℕ = slice_index links i in
    let at : slice_index links i ≡ (spoke_at spokes i).link = spoke_link spokes i c.loop-spoke-test.true in
    let least = c.loop-spoke.least in
    let below = c.loop-spoke.invariant.below in
    elim c.if-is_leading.branch [
      | then-is_leading+then-is_below w ↦
          let leading : leads ends arrive labels node link ≡ true =
          ap (leads ends arrive labels node) at ∙ sym c.is_leading.ensures ∙ w.if-is_leading.true in
          let lower : is_below link least ≡ true = ap (λ (l : ℕ). is_below l least) at ∙ sym w.is_below.ensures ∙ w.if-is_below.true in
          let new = w.least-is ∙ ap Some (sym at) in
          record {
            below = λ k less led.
                let P : Option ℕ → Type 0 = λ o. IsSomeAnd o (λ m. m ≤ slice_index links k) in
                subst P (sym new) (below_more ends arrive labels node links i least below leading lower k less led);
            led = λ m is.
                let same : link ≡ m = ap (λ (o : Option ℕ). unwrap_or o 0) (sym new ∙ is) in
                let P : ℕ → Type 0 = λ n. (n < length ends) × (leads ends arrive labels node n ≡ true) in
                subst P same (
                  let own = (c.into-spoke-items.ensures.each i (record { link = 0; node = 0 }) c.loop-spoke-test.true).0 in omega arith,
                  leading,
                );
          }
      | else-is_leading w ↦
          let fails : (leads ends arrive labels node link && is_below link least) ≡ false = elim w.else-is_leading.branch [
            | else-is_leading-via-then-is_leading+else-is_below v ↦
                ap (λ (b : Bool). leads ends arrive labels node link && b)
                (ap (λ (l : ℕ). is_below l least) at ∙ sym v.is_below.ensures ∙ v.if-is_below.false)
                ∙ and-false (leads ends arrive labels node link)
            | else-is_leading-via-else-is_leading v ↦
                ap (λ (b : Bool). b && is_below link least)
                (ap (leads ends arrive labels node) at ∙ sym c.is_leading.ensures ∙ v.if-is_leading.false)
          ] in
          record {
            below = λ k less led.
                let P : Option ℕ → Type 0 = λ o. IsSomeAnd o (λ m. m ≤ slice_index links k) in
                subst P (sym w.least-is) (below_kept ends arrive labels node links i least below fails k less led);
            led = λ m is. c.loop-spoke.invariant.led m (sym w.least-is ∙ is);
          }
    ]

pub returns : goal.returns
returns c =
    sym (least_before c.args.adjacency.now.ends (arrivals c.args.times.now) c.args.labels.now c.args.node
    (links_of c.into-spoke-items.result.now) c.loop-spoke.least c.into-spoke-items.ensures.every
    (λ k within. c.loop-spoke.invariant.below k (let done = c.loop-spoke-test.false in
    let count = length-map c.into-spoke-items.result.now (λ (s : Spoke). s.link) in omega arith)) c.loop-spoke.invariant.led)
