use Rattle.std.proofs.Common.{ℕ, ◌+◌, ◌-◌, ◌≤◌, subst, sym, length}
use Rattle.town.specs.Views.{setup}
use Rattle.part_places.specs.Taking.{AreTakenOf, later}
use Rattle.part_seconds.proofs.freed.hear.Goals as goal

pub returns : goal.returns
returns c = λ begins t T can stand.
    let links = (setup c.args.day.now).links in
    let end = c.args.day.now.town.now.settings.end_second in
    let s = c.args.second in
    let f = c.args.freed in
    subst (λ (h : ℕ). AreTakenOf begins (length links) end t (later f.link (T.queued f.link - f.count) (s + h) T) c.free_later.new.self)
    c.hole_of.ensures
    (c.in_ok-free_later.ensures begins (length links) t T can.there can.here can.queued
    (subst (λ (h : ℕ). t ≤ s + h) (sym c.hole_of.ensures) can.still) stand)
