-- At the start each part is held as it is.
use Rattle.traffic.proofs.Common.{◌≡◌, ℕ, List, ◌∙◌, length, ap, refl, sym, [], ◌∷◌, arith, ◌<◌, true, ◌++◌, Bool, inl, inr, false, eqb, ◌-◌, append-nil, take}
use Rattle.traffic.proofs.Common.{fun_ext, cases_Bool, cases_lt, nat_tests, flat_map, filter, not, ◌&&◌, nat_lt, world_at, person_of, at, holes_at, Setup}
use Rattle.traffic.{proofs.Common.hole_of, specs.declared.stage.Stage.Stage}
use Rattle.traffic.specs.declared.stage.Stage.TheVariants.{Queue, Buffer, Wait, Bay}
use Rattle.traffic.specs.declared.world.Place.{Place, TheVariants.At, TheVariants.Teleporting, TheVariants.Waiting, TheVariants.Riding, TheVariants.Aborted}
use Rattle.traffic.specs.declared.world.Row.{Row}
use Rattle.parts.specs.Owners.{Owner, owner_of, begins_in, owner_of_person, links_of, lag}
use Rattle.parts.specs.Parts.{came_last, went_last, lasting, up, late_rows, known_list, rides_in, is_late, has, is_person, mine, part, unheard, held}
use Rattle.law_partitions.proofs.{Flights.flights_began, Locality.same_held, Second.take_front}

late_none : (S : Setup) (own : Owner) (l : ℕ) → late_rows S own (lag S own) 0 l ≡ []
unfolding came_last
late_none S own l = refl

all_none : (S : Setup) (own : Owner) (ns : List ℕ) → flat_map (late_rows S own (lag S own) 0) ns ≡ []
all_none S own [] = refl
all_none S own (n ∷ ns) = ap (λ xs. xs ++ flat_map (late_rows S own (lag S own) 0) ns) (late_none S own n) ∙ all_none S own ns

list_start : (S : Setup) (own : Owner) (l : ℕ) (s : Stage) → known_list S own (lag S own) 0 l s ≡ at l s (world_at S 0)
list_start S own l Queue =
    let q = at l Queue (world_at S 0) in
    ap (λ (xs : List Row). take (length q - length xs) q) (late_none S own l) ∙ ap (λ (xs : List Row). take (length xs - length {A = Row} []) xs) (sym (append-nil q)) ∙ take_front q []
list_start S own l Buffer = refl
list_start S own l Wait = refl
list_start S own l Bay = refl

late_start : (S : Setup) (own : Owner) (p i : ℕ) → i < length S.persons → (pl : Place) → (person_of i (world_at S 0)).place ≡ pl → is_late S own (lag S own) p 0 i (person_of i (world_at S 0)).element pl ≡ false
late_start S own p i lt (Riding v) e = ap (rides_in i) (all_none S own (filter (λ l. eqb (owner_of S own l) p) (links_of S)))
late_start S own p i lt (Teleporting start) e = absurd (let z = flights_began S 0 i start lt e in omega arith)
late_start S own p i lt (At end) e = refl
late_start S own p i lt (Waiting stop since) e = refl
late_start S own p i lt (Aborted l) e = refl

and_true : (x : Bool) → (x && true) ≡ x
and_true true = refl
and_true false = refl

pub has_start : (S : Setup) (own : Owner) (p i : ℕ) → has S own (lag S own) p 0 i ≡ (is_person S i && eqb (owner_of_person S own (world_at S 0) i) p)
has_start S own p i = elim (cases_lt i (length S.persons)) [
  | inl lt ↦ let z = late_start S own p i lt (person_of i (world_at S 0)).place refl in ap (λ x. is_person S i && (eqb (owner_of_person S own (world_at S 0) i) p && not x)) z ∙ ap (λ x. is_person S i && x) (and_true (eqb (owner_of_person S own (world_at S 0) i) p))
  | inr past ↦ let e : nat_lt i (length S.persons) ≡ false = grind (arith, nat_tests) in (rw e refl)
]

pub starts_whole : (S : Setup) (own : Owner) (p : ℕ) → held S own p 0 ≡ part S own p 0 (world_at S 0)
unfolding unheard went_last
starts_whole S own p =
    same_held (held S own p 0) (part S own p 0 (world_at S 0))
    (fun_ext (λ l. fun_ext (λ s. elim (cases_Bool (eqb (owner_of S own l) p)) [ inl e ↦ rw e (list_start S own l s) | inr e ↦ rw e refl ])))
    refl
    (fun_ext (λ m. elim (cases_Bool (eqb (begins_in S own m) p)) [ inl e ↦ rw e (omega arith) | inr e ↦ rw e refl ]))
    (fun_ext (λ m. elim (cases_Bool (eqb (begins_in S own m) p)) [ inl e ↦ let z : 0 - up S own (lag S own) m ≡ 0 = omega arith in rw e (ap (λ j. lasting 0 (hole_of S m) (holes_at m (world_at S j))) z) | inr e ↦ rw e refl ]))
    (fun_ext (λ i. ap (λ b. mine b (person_of i (world_at S 0))) (has_start S own p i)))
