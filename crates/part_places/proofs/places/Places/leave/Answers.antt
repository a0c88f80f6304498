use Rattle.std.proofs.Common.{ℕ, ◌+◌, ◌-◌, ◌≤◌, ◌≡◌, subst, arith}
use Rattle.std.specs.Prelude.{OnOk}
use Rattle.part_places.{proofs.Goings.queued_is, specs.Taking.AreTakenOf, specs.Taking.later}
use Rattle.part_places.proofs.places.Places.leave.Goals as goal

pub returns : goal.returns
returns c = λ begins count t T there here few soon h.
    let l = c.args.after.link in
    let end = c.args.end in
    let was = c.args.self.now in
    let second = c.args.after.second + c.args.after.hole_seconds in
    let is : c.taken_in.result - c.holes_of-holes.result ≡ T.queued l
    = queued_is begins count end t l c.taken_in.result c.holes_of-holes.result T was there here c.taken_in.ensures
    c.holes_of-holes.ensures h in
    let q = c.saturating_sub-queued.ensures in
    let s = c.saturating_sub.ensures in
    let gone : c.saturating_sub.result ≤ T.queued l = omega arith in
    let stay : T.queued l - c.saturating_sub.result ≡ c.args.after.queued = omega arith in
    subst (λ (k : ℕ). OnOk c.free_later.result (AreTakenOf begins count end t (later l k second T) c.free_later.new.self)) stay
    (c.free_later.ensures begins count t T there here gone soon h)
