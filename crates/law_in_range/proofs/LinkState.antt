-- The turn of a link makes fit moves.
use Rattle.traffic.proofs.Common.{◌≡◌, ℕ, length, refl, arith, ◌<◌, true, ◌+◌, Bool, false, nat_tests, link_turns, buffered, is_last, World, Setup, served_row}
use Rattle.traffic.proofs.{Common.told_to, Common.told_transfer, Common.told_removal, Common.arrives, Common.starts, LeftBehind.serving_stage}
use Rattle.traffic.{proofs.LinkWalk.LinkCases, proofs.LinkWalk.link_walk, specs.declared.stage.Stage.TheVariants.Bay, specs.declared.world.Row.Row}
use Rattle.std.specs.List.{AllByRecursion as Each}
use Rattle.law_in_range.proofs.{Boarding.IsFitWaiter, Boarding.driven, Boarding.riders_fit, Boarding.served_row_fit, Kept.along_fit, Sizes.row_at}
use Rattle.law_in_range.proofs.{Telling.said_append, Telling.starts_fit, Telling.arrives_fit, Telling.goes_on_fit, Telling.serves_fit, Travellers.waiters_fit}
use Rattle.law_in_range.specs.{Moves.AreFitOccurrences, Moves.IsFitMove, Moves.AreFitMoves, Rows.Counts, Rows.IsFitRow, Rows.IsFitWorld, Setups.IsFitSetup}

buffered_fit : (z : Counts) (t l b : ℕ) (r : Row) → l < z.links → IsFitRow z r → r.vehicle.place + 1 < length r.vehicle.route → IsFitRow z (buffered t l b r)
buffered_fit z t l b r lt h next = record { vehicle = driven z r.vehicle r.vehicle.place true r.vehicle.pushed h.vehicle h.vehicle.place; link = lt; stage = next }

not_last : (z : Counts) (r : Row) → IsFitRow z r → is_last r.vehicle ≡ false → r.vehicle.place + 1 < length r.vehicle.route
not_last z r h e = grind (arith, nat_tests, h.vehicle.place)

-- the front of the queue or of the wait list starts, where it has not, and then this is told
front_fit : (z : Counts) (s : Bool) (r now : Row) → IsFitRow z r → AreFitOccurrences z (told_to now.stage r now) → AreFitOccurrences z (told_transfer (serving_stage s) r now)
front_fit z true r now h g = said_append z (starts r) (told_to now.stage r now) (starts_fit z r h) g
front_fit z false r now h g = g

end_fit : (z : Counts) (s : Bool) (r : Row) → IsFitRow z r → AreFitOccurrences z (told_removal (serving_stage s) r)
end_fit z true r h = said_append z (starts r) (arrives r) (starts_fit z r h) (arrives_fit z r h)
end_fit z false r h = arrives_fit z r h

link_cases : (z : Counts) (S : Setup) (t l : ℕ) → IsFitSetup z S → l < z.links → LinkCases S t l (λ W m. IsFitWorld z W → IsFitMove z m)
link_cases z S t l f lt =
    record {
      due = λ k r W e c h. let g = row_at z l Bay k r W h e in (record { vehicle = g.0.vehicle; link = lt; stage = tt }, goes_on_fit z r g.0 g.1);
      serve = λ s ws r xs W e c q h. (
          let g = (row_at z l (serving_stage s) 0 r W h (rw e refl)).0 in
          let some : r.vehicle.served < length r.vehicle.calls = grind (arith, nat_tests) in
          let now = served_row S.settings.dwell t l ws r.vehicle in
          let wait : Each (IsFitWaiter z) ws = rw q (waiters_fit z S l W f h) in
          (served_row_fit z S.settings.dwell t l ws r.vehicle g.vehicle lt wait some, front_fit z s r now g (serves_fit z r now g (riders_fit z r.vehicle ws g.vehicle wait) some))
          );
      arrive = λ s r xs W e c o h. (tt, end_fit z s r (row_at z l (serving_stage s) 0 r W h (rw e refl)).0);
      pass = λ s b r xs W e c o h. let g = (row_at z l (serving_stage s) 0 r W h (rw e refl)).0 in (buffered_fit z t l b r lt g (not_last z r g o), front_fit z s r (buffered t l b r) g tt);
      pay = λ c W h. (lt, tt);
      free = λ W h. (lt, tt);
    }

pub link_fit : (z : Counts) (S : Setup) (t l : ℕ) (W : World) → IsFitSetup z S → IsFitWorld z W → l < length S.links → AreFitMoves z (link_turns S t l W)
link_fit z S t l W f h lt = along_fit z S t (link_turns S t l W) W f (link_walk S t l _ (link_cases z S t l f (let e = f.links in omega arith)) W) h
