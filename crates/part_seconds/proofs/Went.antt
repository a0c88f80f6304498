-- Who goes with the parcels of a second is gone from the own world.
use Rattle.traffic.proofs.Common.{◌≡◌, ℕ, zero, suc, ◌+◌, ◌<◌, List, [], ◌∷◌, ◌∙◌, ap, refl, sym, arith, inl, inr, cases_Bool, Bool, true, false, length, map}
use Rattle.traffic.proofs.Common.{flat_map, eqb, eqb-true, if◌then◌else◌, ◌==◌, ◌||◌, ◌&&◌, not, nat_lt, count_by, sum_by-cons, lt-ltb, cond, Setup, person_of}
use Rattle.traffic.{proofs.Common.listed, proofs.Common.listed_in, proofs.Common.Option, proofs.Common.Some, proofs.Common.None, specs.Setup.act_after}
use Rattle.traffic.specs.declared.{riders.Rider.Rider, world.Person.Person, world.Place.Place, world.Place.TheVariants.At}
use Rattle.traffic.specs.declared.world.{Place.TheVariants.Teleporting, Place.TheVariants.Waiting, Place.TheVariants.Riding, Place.TheVariants.Aborted, Row.Row}
use Rattle.std.specs.Prelude.{is_some}
use Rattle.node_move.specs.declared.crossings.Entering.{Entering}
use Rattle.node_seconds.specs.Networks.{is_among}
use Rattle.part_nodes.specs.Phase.{entering_of}
use Rattle.parts.specs.{Owners.Owner, Owners.owner_of, Parts.rides_in}
use Rattle.law_in_range.specs.{Rows.Counts, Setups.IsFitSetup}
use Rattle.law_own_seconds.specs.Seconds.{world_driven}
use Rattle.law_own_worlds.specs.{Days.is_there, Days.world_before, OwnWorlds.set_out}
use Rattle.law_partitions.{proofs.Spare.listed-cons, specs.Premises.Lawful, specs.Premises.Arrivals}
use Rattle.law_parcels.{proofs.Ending.lacked, proofs.Flying.flew_before, specs.Sending.sent_rows, specs.Sending.flies_out, specs.Sending.is_gone}
use Rattle.part_seconds.specs.Sending.{number_of, riders_of, teleports_to, teleports, one_if, if_teleports, all_gone}
use Rattle.part_seconds.proofs.Lists.{or_none, among_append}

-- RIDERS
some_of_two : (a b : ℕ) → nat_lt 0 (a + b) ≡ (nat_lt 0 a || nat_lt 0 b)
some_of_two zero b = let e : 0 + b ≡ b = omega arith in ap (nat_lt 0) e
some_of_two (suc a) b =
    lt-ltb 0 (suc a + b) (omega arith) ∙ sym (ap (λ (c : Bool). c || nat_lt 0 b) (lt-ltb 0 (suc a) (omega arith)))

one_rides : (i : ℕ) (b : Bool) → nat_lt 0 (cond b 1 0) ≡ b
one_rides i true = refl
one_rides i false = refl

riders_among : (i : ℕ) (rs : List Rider) → is_among i (map number_of rs) ≡ nat_lt 0 (count_by (λ (x : Rider). x.person == i) rs)
riders_among i [] = refl
riders_among i (r ∷ rs) =
    ap (λ (b : Bool). (r.person == i) || b) (riders_among i rs)
    ∙ ap (λ (b : Bool). b || nat_lt 0 (count_by (λ (x : Rider). x.person == i) rs)) (sym (one_rides i (r.person == i)))
    ∙ sym (some_of_two (cond (r.person == i) 1 0) (count_by (λ (x : Rider). x.person == i) rs))
    ∙ ap (nat_lt 0) (sym (sum_by-cons (λ (x : Rider). cond (x.person == i) 1 0) r rs))

pub rows_among : (i : ℕ) (rows : List Row) → is_among i (flat_map riders_of (map entering_of rows)) ≡ rides_in i rows
rows_among i [] = refl
rows_among i (r ∷ rs) =
    among_append i (map number_of r.vehicle.riders) (flat_map riders_of (map entering_of rs))
    ∙ ap (λ (b : Bool). b || is_among i (flat_map riders_of (map entering_of rs))) (riders_among i r.vehicle.riders)
    ∙ ap (λ (b : Bool). nat_lt 0 (listed_in i r) || b) (rows_among i rs)
    ∙ sym (some_of_two (listed_in i r) (listed i rs)) ∙ ap (nat_lt 0) (sym (listed-cons i r rs))

-- TELEPORTED PERSONS
and_true : (b : Bool) → (b && true) ≡ b
and_true true = refl
and_true false = refl

one_among : (i j : ℕ) (o : Option ℕ) → is_among i (one_if o j) ≡ ((j == i) && is_some o)
one_among i j None = elim (cases_Bool (eqb j i)) [ inl e ↦ rw e refl | inr e ↦ rw e refl ]
one_among i j (Some q) = or_none (j == i) ∙ sym (and_true (j == i))

spread : (a b c : Bool) → ((a && c) || (b && c)) ≡ ((a || b) && c)
spread true true true = refl
spread true true false = refl
spread true false true = refl
spread true false false = refl
spread false b c = refl

teleported_among : (f : ℕ → Option ℕ) (i : ℕ) (ns : List ℕ)
    → is_among i (flat_map (λ (j : ℕ). one_if (f j) j) ns) ≡ (is_among i ns && is_some (f i))
teleported_among f i [] = refl
teleported_among f i (j ∷ ns) =
    let here : ((j == i) && is_some (f j)) ≡ ((j == i) && is_some (f i))
    = elim (cases_Bool (eqb j i)) [
      | inl e ↦ ap (λ (n : ℕ). (j == i) && is_some (f n)) (eqb-true j i e)
      | inr e ↦ rw e refl
    ] in
    among_append i (one_if (f j) j) (flat_map (λ (j : ℕ). one_if (f j) j) ns)
    ∙ ap (λ (b : Bool). b || is_among i (flat_map (λ (j : ℕ). one_if (f j) j) ns)) (one_among i j (f j) ∙ here)
    ∙ ap (λ (b : Bool). ((j == i) && is_some (f i)) || b) (teleported_among f i ns) ∙ spread (j == i) (is_among i ns) (is_some (f i))

two_ways : (a b : Bool) (q : ℕ) → is_some (if a then (if b then None else Some q) else None) ≡ (a && not b)
two_ways true true q = refl
two_ways true false q = refl
two_ways false b q = refl

teleports_is : (S : Setup) (own : Owner) (p t i element : ℕ) (pl : Place)
    → is_some (teleports_to S own p t i element pl) ≡ flies_out S own p t i element pl
teleports_is S own p t i element (Teleporting start) =
    two_ways (start == t) (owner_of S own (act_after S i element).link == p) (owner_of S own (act_after S i element).link)
teleports_is S own p t i element (At end) = refl
teleports_is S own p t i element (Waiting stop since) = refl
teleports_is S own p t i element (Riding v) = refl
teleports_is S own p t i element (Aborted l) = refl

-- whoever did not set out teleports nowhere
stays_here : (S : Setup) (own : Owner) (p t i element : ℕ) (pl : Place) → (pl ≡ Teleporting t → ⊥)
    → flies_out S own p t i element pl ≡ false
stays_here S own p t i element (Teleporting start) h =
    elim (cases_Bool (eqb start t)) [
      | inl e ↦ absurd (h (ap (λ (n : ℕ). Teleporting n) (eqb-true start t e)))
      | inr e ↦ rw e refl
    ]
stays_here S own p t i element (At end) h = refl
stays_here S own p t i element (Waiting stop since) h = refl
stays_here S own p t i element (Riding v) h = refl
stays_here S own p t i element (Aborted l) h = refl

module _ (S : Setup) (own : Owner) (p t : ℕ) (z : Counts) (law : Lawful S) (arrivals : Arrivals S) (fit : IsFitSetup z S) where
  not_teleported : (i : ℕ) → i < length S.persons
      → person_of i (set_out S own p t (world_before S own p t)) ≡ person_of i (world_before S own p t)
      → (person_of i (world_driven S own p t)).place ≡ Teleporting t → ⊥
  not_teleported i lt same q =
      elim (cases_Bool (is_there S own p t i)) [
        | inl e ↦ flew_before S own p t z law arrivals fit i lt e same q
        | inr e ↦
            let n : Aborted 0 ≡ Teleporting t = ap (λ (Q : Person). Q.place) (sym (lacked S own p t z law arrivals fit i e)) ∙ q in
            cc
      ]

  pub went : (es : List Entering) (ns : List ℕ) → es ≡ map entering_of (sent_rows S own p t)
      → ((i : ℕ) → is_among i ns ≡ false
      → person_of i (set_out S own p t (world_before S own p t)) ≡ person_of i (world_before S own p t))
      → (i : ℕ) → i < length S.persons
      → is_among i (all_gone S own p t (world_driven S own p t).persons es ns) ≡ is_gone S own p t i
  went es ns rows same i lt =
      let V = world_driven S own p t in
      let P = person_of i V in
      let riders : is_among i (flat_map riders_of es) ≡ rides_in i (sent_rows S own p t)
      = ap (λ (xs : List Entering). is_among i (flat_map riders_of xs)) rows ∙ rows_among i (sent_rows S own p t) in
      let teleported : is_among i (flat_map (if_teleports S own p t V.persons) ns) ≡ flies_out S own p t i P.element P.place
      = teleported_among (teleports S own p t V.persons) i ns
      ∙ elim (cases_Bool (is_among i ns)) [
        | inl e ↦ rw e (teleports_is S own p t i P.element P.place)
        | inr e ↦ rw e (sym (stays_here S own p t i P.element P.place (not_teleported i lt (same i e))))
      ] in
      among_append i (flat_map riders_of es) (flat_map (if_teleports S own p t V.persons) ns)
      ∙ ap (λ (b : Bool). b || is_among i (flat_map (if_teleports S own p t V.persons) ns)) riders
      ∙ ap (λ (b : Bool). rides_in i (sent_rows S own p t) || b) teleported
