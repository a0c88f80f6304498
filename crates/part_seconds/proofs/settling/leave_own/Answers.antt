use Rattle.std.proofs.Common.{◌≡◌, ℕ, ◌+◌, ◌∙◌, ap, arith, subst, length}
use Rattle.std.specs.Prelude.{OnOk}
use Rattle.town.specs.Views.{setup}
use Rattle.traffic.specs.Setup.{hole_of}
use Rattle.part_places.specs.Taking.{AreTakenOf, later}
use Rattle.law_parts_of_days.{proofs.Beginning.links_of, proofs.Taken.some_hole, specs.Settling.link_at, specs.Settling.queued_in}
use Rattle.part_seconds.proofs.settling.leave_own.Goals as goal

pub returns : goal.returns
returns c = λ begins T b few h.
    let day = c.args.day.now in
    let S = setup day in
    let links = c.args.links.now in
    let k = c.args.slot in
    let t = c.args.second in
    let end = day.town.now.settings.end_second in
    let count = length S.links in
    let n = c.number_at-link.result in
    let j = c.queued_in.result in
    let hole = c.hole_of.result in
    let e : n ≡ link_at links k = c.number_at-link.ensures in
    let q : j ≡ queued_in links k = c.queued_in.ensures in
    let d : hole ≡ hole_of S n = c.hole_of.ensures in
    let within = c.requires.link in
    let many = links_of day in
    let some = some_hole S n in
    let same = ap (λ (m : ℕ). T.queued m) e in
    subst (λ (m : ℕ). OnOk c.leave.result (AreTakenOf begins count end (t + 1) (later m (queued_in links k) (t + hole_of S m) T)
    c.leave.new.self)) e
    (subst (λ (i : ℕ). OnOk c.leave.result (AreTakenOf begins count end (t + 1) (later n i (t + hole_of S n) T) c.leave.new.self)) q
    (subst (λ (i : ℕ). OnOk c.leave.result (AreTakenOf begins count end (t + 1) (later n j (t + i) T) c.leave.new.self)) d
    (c.leave.ensures begins count (t + 1) T (omega arith) (ap begins e ∙ b) (omega arith) (omega arith) h)))
