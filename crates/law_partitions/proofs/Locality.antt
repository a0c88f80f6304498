-- The second of a part: what it holds then, and what it sends.
use Rattle.traffic.proofs.Common.{◌≡◌, ℕ, List, ◌∙◌, length, ap, refl, sym, arith, ◌<◌, true, Bool, inl, inr, ◌≤◌, false, suc, eqb, fun_ext, cases_Bool}
use Rattle.traffic.proofs.Common.{and_parts, cases_lt, ltb-true, nat_tests, flat_map, Some, not, ◌&&◌, nat_lt, world_at, link_turns, moves_of, node_turns}
use Rattle.traffic.proofs.Common.{below, World, person_of, Setup}
use Rattle.traffic.specs.declared.{moves.Move.Move, world.Person.Person, world.Row.Row}
use Rattle.parts.specs.{Owners.Owner, Owners.owner_of, Owners.lag, Parts.Held, Parts.mine, Parts.is_person, Parts.has, Parts.unheard, Parts.held, Parts.ready}
use Rattle.law_partitions.proofs.{Calms.calm, Calms.link_away, Early.mid, Early.world-next, Ends.less, Ends.sh, Ends.alone-list, Ends.alone-credit}
use Rattle.law_partitions.proofs.{Ends.alone-rows, Ends.alone-holes, Flights.few_mid, Heard.late_of, Home.Lawful, Owning.Arrivals, Owning.has_next}
use Rattle.law_partitions.proofs.Quiet.{person_moves, person-run, person-filter, opt_moves, person-held}
use Rattle.law_partitions.proofs.Second.{C_world, D_moves, D_moves-are, C-length, Short, opt_mine, C_part-moves, C_after-person, D_part-moves}
use Rattle.law_partitions.specs.Alone.{my_nodes, C_part, D_part, early, after_C, after_D, sent_out, goes_out, if_stays, alone}

pub same_held : (A B : Held) → A.list ≡ B.list → A.credit ≡ B.credit → A.rows ≡ B.rows → A.holes ≡ B.holes → A.person ≡ B.person → A ≡ B
same_held A B e f g h k = λ i. record { list = e i; credit = f i; rows = g i; holes = h i; person = k i }

stays_mine : (S : Setup) (own : Owner) (p t : ℕ) (rows : List Row) (i : ℕ) (b : Bool) (P : Person) → if_stays S own p t rows i (mine b P) ≡ mine (b && not (goes_out S own p t rows i P.element P.place)) P
stays_mine S own p t rows i false P = refl
stays_mine S own p t rows i true P = elim (cases_Bool (goes_out S own p t rows i P.element P.place)) [ inl e ↦ rw e refl | inr e ↦ rw e refl ]

module _ (S : Setup) (own : Owner) (p t : ℕ) (law : Lawful S) (arrivals : Arrivals S) where
  abbrev R : Held
  R = ready S own p t

  abbrev E : Held
  E = early S own p t R

  abbrev A : Held
  A = after_C S own p t E

  abbrev B : Held
  B = after_D S own p t A

  abbrev mine_p : ℕ → Bool
  mine_p = has S own (less S own) p t

  abbrev V : World
  V = mid S t

  abbrev U : World
  U = C_world S t V

  abbrev short : Short S own p t (late_of S own (less S own) p t) mine_p V E
  short = sh S own p t law.long (calm S own p t law)

  -- what the nodes of a part do, as in the second of all
  pub my_turns : moves_of (C_part S own p t E) ≡ flat_map (λ n. node_turns S t n V) (my_nodes S own p)
  my_turns = C_part-moves S own p t (late_of S own (less S own) p t) mine_p V E short

  has-range : (k : ℕ → ℕ → ℕ) (s i : ℕ) → has S own k p s i ≡ true → i < length S.persons
  has-range k s i e = ltb-true i (length S.persons) (and_parts (is_person S i) _ e).0

  D_person : (i : ℕ) → mine_p i ≡ true → person_of i (world_at S (suc t)) ≡ person_moves S t i (moves_of (D_part S own p t A)) (person_of i U)
  D_person i e =
      let lt = has-range (less S own) t i e in
      let few = few_mid S t in
      let f2 = C-length S t V in
      let plan : ℕ → List Move = λ l. link_turns S t l U in
      ap (person_of i) (world-next S t) ∙ person-run S t i (D_moves S t U) U (omega arith)
      ∙ ap (λ ms. person_moves S t i ms (person_of i U)) (D_moves-are S t U)
      ∙ person-filter S t i plan (λ l. eqb (owner_of S own l) p) (λ l f. link_away S own p t i law lt l (f ∙ sym (ap not e))) (below (length S.links)) (person_of i U)
      ∙ ap (λ ms. person_moves S t i ms (person_of i U)) (sym (D_part-moves S own p t (late_of S own (less S own) p t) mine_p V E short))

  -- the rows of the persons whom p had, after its second
  pub D_after-person : (i : ℕ) → B.person i ≡ mine (mine_p i) (person_of i (world_at S (suc t)))
  D_after-person i =
      let ms = moves_of (D_part S own p t A) in
      person-held S t i ms A
      ∙ ap (opt_moves S t i ms) (C_after-person S own p t (late_of S own (less S own) p t) mine_p V E short i)
      ∙ opt_mine S t i ms (mine_p i) (person_of i U)
      ∙ elim (cases_Bool (mine_p i)) [ inl e ↦ rw e (ap Some (sym (D_person i e))) | inr e ↦ rw e refl ]

  past_has : (k : ℕ → ℕ → ℕ) (s i : ℕ) → length S.persons ≤ i → has S own k p s i ≡ false
  past_has k s i h = let e : nat_lt i (length S.persons) ≡ false = grind (arith, nat_tests) in (rw e refl)

  pub alone-person : (alone S own p t R).person ≡ (held S own p (suc t)).person
  unfolding alone unheard
  alone-person = fun_ext (λ i.
      let P1 = person_of i (world_at S (suc t)) in
      let rows = sent_out S own p (moves_of (C_part S own p t E)) in
      let same : rows ≡ sent_out S own p (flat_map (λ n. node_turns S t n V) (my_nodes S own p)) = ap (sent_out S own p) my_turns in
      ap (if_stays S own p t rows i) (D_after-person i)
      ∙ stays_mine S own p t rows i (mine_p i) P1
      ∙ elim (cases_lt i (length S.persons)) [
        | inl lt ↦ ap (λ rows. mine (mine_p i && not (goes_out S own p t rows i P1.element P1.place)) P1) same ∙ ap (λ b. mine b P1) (sym (has_next S own p t i law arrivals lt))
        | inr past ↦ let e = past_has (less S own) t i past in let f = past_has (lag S own) (suc t) i past in (rw (e, f) refl)
      ])

  -- THE SECOND, from what is ready to what is held
  pub alone_is : alone S own p t (ready S own p t) ≡ held S own p (suc t)
  alone_is =
      let c = calm S own p t law in
      same_held (alone S own p t R) (held S own p (suc t)) (alone-list S own p t law.long c) (alone-credit S own p t law.long c) (alone-rows S own p t law.long c) (alone-holes S own p t law.long c) alone-person
