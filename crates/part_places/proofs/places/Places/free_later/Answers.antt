use Rattle.std.proofs.Common.{ℕ, ◌≡◌, ◌+◌, ◌-◌, ◌∙◌, ap, arith}
use Rattle.std.specs.Prelude.{replicate, ◌==◌, ◌++◌, if◌then◌else◌}
use Rattle.calendar.specs.Due.{due_at}
use Rattle.node_move.specs.Spaces.{holes_in}
use Rattle.part_places.{proofs.Goings.queued_is, proofs.Goings.holes_now, proofs.Goings.later_is, specs.declared.places.Places.Places}
use Rattle.part_places.proofs.places.Places.free_later.Goals as goal

pub returns : goal.returns
returns c = λ begins count t T there here few soon h.
    let l = c.args.freed.link in
    let end = c.args.end in
    let was = c.args.self.now in
    let now : Places = record { space = c.put_holes.new.space; freed = c.add_freed.new.freed } in
    let queued : c.taken_in.result - c.holes_of-holes.result ≡ T.queued l
    = queued_is begins count end t l c.taken_in.result c.holes_of-holes.result T was there here c.taken_in.ensures c.holes_of-holes.ensures h in
    let q = c.saturating_sub-queued.ensures in
    let s = c.saturating_sub.ensures in
    let v = c.saturating_sub-queued.result - c.saturating_sub.result in
    let many : c.saturating_sub-queued.result - c.saturating_sub.result ≡ c.args.freed.count = omega arith in
    let holes : c.holes_of-holes.result + v ≡ holes_in was.space l + c.args.freed.count = (let a = c.holes_of-holes.ensures in omega arith) in
    let is : (m : ℕ) → holes_in now.space m ≡ (if m == l then holes_in was.space l + c.args.freed.count else holes_in was.space m)
    = λ m. holes_now was.space now.space l (c.holes_of-holes.result + v) _ (h.places l there here) c.in_ok-put_holes.ensures.holes m
    ∙ ap (λ (k : ℕ). if m == l then k else holes_in was.space m) holes in
    later_is begins count end t l c.args.freed.count (c.args.freed.second + c.args.freed.hole_seconds) T was now there here few soon c.in_ok-put_holes.ensures.places is
    (λ u lt.
    c.in_ok-add_freed.ensures u lt
    ∙ ap (λ (s : ℕ). if u == s then due_at u was.freed ++ replicate v l else due_at u was.freed) (let a = c.from.ensures in let b = c.from-2.ensures in omega arith)
    ∙ ap (λ (k : ℕ). if u == c.args.freed.second + c.args.freed.hole_seconds then due_at u was.freed ++ replicate k l else due_at u was.freed) many) h
