-- In the world of each move each person is in one place, and no vehicle is in two.
use Rattle.traffic.proofs.Common.{◌≡◌, ℕ, List, ◌∙◌, length, ap, refl, [], ◌∷◌, arith, ◌<◌, true, false, inl, inr, eqb, cases_Bool, told}
use Rattle.traffic.proofs.Common.{world_at, world_start, done, person_after, of_person, departs, lands, car, transit_vehicle, World, person_of, Setup, departure, link_of_stop}
use Rattle.traffic.proofs.Common.{act_after, act_at, leg_at}
use Rattle.traffic.proofs.{Moments.Along, Sublists.person-done, Sublists.persons-length}
use Rattle.traffic.specs.declared.moves.Move.{TheVariants.Enter}
use Rattle.traffic.specs.declared.moves.Move.TheVariants.{Report}
use Rattle.traffic.specs.declared.{moves.Occurrence.Occurrence, world.Person.Person}
use Rattle.events.specs.declared.event.Word.TheVariants as word
use Rattle.events.specs.declared.event.More.TheVariants as more
use Rattle.events.specs.declared.event.VehicleId.TheVariants as vehicle
use Rattle.std.proofs.lemmas.Bool.{le-leb}
use Rattle.law_capacity.specs.Moves.{second_moves}
use Rattle.law_one_place.proofs.Places.{InOne, move_keeps, IsOff, Stays, Walks, Enters, Change, after_move, rides}
use Rattle.law_one_place.proofs.Turns.{Keeps_one, nodes_keep, links_keep, place_of, start_kept}
use Rattle.law_one_place.proofs.Boarding.{start_off}
use Rattle.law_journeys.proofs.{Always.KeepsWorld, Always.at_each_move, Walk.departing}

-- what is told of person j lets him walk, and is nothing to others
told_one : (S : Setup) (t j i : ℕ) (says : List Occurrence) (W : World) → (eqb j i ≡ true → IsOff (person_of i W).place × IsOff (after_move S t i (Report says) W).place) → (eqb j i ≡ false → after_move S t i (Report says) W ≡ person_of i W) → Keeps_one S t i W (Report says)
told_one S t j i says W walks stays h =
    move_keeps S t i (Report says) W tt (elim (cases_Bool (eqb j i)) [
      | inl e ↦ let w = walks e in Walks refl w.0 w.1
      | inr e ↦ Stays refl (ap (λ (P : Person). P.place) (stays e))
    ]) h

-- who has just left is on his way
left_off : (S : Setup) (t j i : ℕ) (W : World) → InOne i (done S t (departing S j W) W) → eqb j i ≡ true → IsOff (person_of i (done S t (departing S j W) W)).place
unfolding person_after
left_off S t j i W h q =
    let m = departing S j W in
    let e = persons-length S t (told m) W.persons in
    let lt = h.there in
    rw (person-done S t i m W (omega arith)) (simp q tt)

drives : (S : Setup) (t j i kind : ℕ) (route : List ℕ) (V : World) → (eqb j i ≡ true → IsOff (person_of i V).place) → Keeps_one S t i V (Enter (car j route kind))
unfolding person_after
drives S t j i kind route V off h =
    let r = car j route kind in
    let c : Change (vehicle.Car j) 0 (rides i r.vehicle) (person_of i V).place (after_move S t i (Enter r) V).place =
    elim (cases_Bool (eqb j i)) [ inl e ↦ simp e (Enters refl refl (off e) refl) | inr e ↦ simp e (Stays refl refl) ] in
    move_keeps S t i (Enter r) V tt c h

pub one_cases : (S : Setup) (i : ℕ) → KeepsWorld (InOne i) S
unfolding person_after
one_cases S i t =
    record {
      due = λ l k r W e u. (links_keep S t l i).due k r W e (le-leb r.second t u);
      serve = λ l s ws r xs W e u c q. (links_keep S t l i).serve s ws r xs W e c q;
      arrive = λ l s r xs W e u c o. (links_keep S t l i).arrive s r xs W e c o;
      pass = λ l s b r xs W e u c o. (links_keep S t l i).pass s b r xs W e c o;
      pay = λ l c W. (links_keep S t l i).pay c W;
      free = λ l W. (links_keep S t l i).free W;
      nodes = λ n. nodes_keep S t n i;
      land = λ j mode seconds start W lt p e. told_one S t j i (lands j mode seconds (act_after S j (person_of j W).element)) W (λ q. (rw (place_of j i W q ∙ p) tt, simp q (start_off S t i (person_of i W) (person_of i W).place refl))) (λ q. simp q);
      leave = λ j W lt p. told_one S t j i (departs j (act_at S j (person_of j W).element) (leg_at S j (person_of j W).element)) W (λ q. (rw (place_of j i W q ∙ p) tt, simp q tt)) (λ q. simp q);
      drive = λ j route W lt p e h. drives S t j i (act_after S j (person_of j W).element).kind route (done S t (departing S j W) W) (left_off S t j i W h) h;
      wait = λ j line access egress W lt p e h. told_one S t j i (of_person word.WaitingForPt j (link_of_stop S access) (more.Stop access) ∷ []) (done S t (departing S j W) W) (λ q. (left_off S t j i W h q, simp q tt)) (λ q. simp q) h;
      start = λ d W lt e h. move_keeps S t i (Enter (transit_vehicle d (departure S d))) W tt (Stays refl refl) h;
    }

pub start_one : (S : Setup) (i : ℕ) → i < length S.persons → InOne i (world_start S)
start_one S i lt = let k = start_kept S in let e = k.one_row in record { there = omega arith; listed = k.one_place i lt }

pub one_moves : (S : Setup) (i : ℕ) → i < length S.persons → (t : ℕ) → Along (λ V m. InOne i V) S t (second_moves S t (world_at S t)) (world_at S t)
one_moves S i lt t = at_each_move (InOne i) S (one_cases S i) (start_one S i lt) t
