-- What a part tells in its second is what of the day's second belongs to it.
use Rattle.traffic.proofs.Common.{◌≡◌, ℕ, List, ◌∙◌, length, ap, refl, sym, [], ◌∷◌, arith, ◌<◌, true, ◌++◌, ◌+◌, Bool, inl, inr, subst, ◌≤◌, false, suc, eqb}
use Rattle.traffic.proofs.Common.{append-nil, cases_Bool, eqb-true, and_parts, cases_lt, true≢false, leb-true, get_or_past, filter-append, flat_map, map}
use Rattle.traffic.proofs.Common.{filter, Some, not, ◌&&◌, if◌then◌else◌, nat_le, phase_code, Event, Mode, Phase, world_at, turns_of, turns_in, world_start}
use Rattle.traffic.proofs.Common.{moves_of, keyed, world_from, events_from, landing_turns, leaving_turns, events_in, told_in, Turn, events_of, event_at, below}
use Rattle.traffic.proofs.Common.{told, landing_moves, leaving_moves, World, person_of, nobody, Setup, act_after, leg_at}
use Rattle.traffic.{proofs.Phases.phase_at_once, proofs.Waiting.run-length, proofs.Walks.flight_walk, proofs.Walks.leave_walk, specs.declared.moves.Move.Move}
use Rattle.traffic.specs.declared.{moves.Occurrence.Occurrence, world.Person.Person, world.Place.TheVariants.At, world.Place.TheVariants.Teleporting}
use Rattle.events.specs.declared.event.Phase.TheVariants as phase
use Rattle.rows.specs.declared.plan.Leg.TheVariants as leg
use Rattle.law_one_place.proofs.Turns.{always_kept}
use Rattle.parts.specs.Owners.{Owner, owner_of, owner_of_person, owner_of_turn, owner_of_event, link_at, lag}
use Rattle.parts.specs.Parts.{Held, mine, is_person, is_late, has, flies_from, own_events, unheard, ready}
use Rattle.law_partitions.proofs.Begins.{Ready, Calm, person1, turns-agree}
use Rattle.law_partitions.proofs.{Calms.calm, Early.A_world, Early.B1_world, Early.mid, Ends.less, Ends.sh, Heard.late_of, Heard.heard, Heard.within}
use Rattle.law_partitions.proofs.{Home.Lawful, Home.has-is, Home.B1_plan, Home.home0, Lags.lag-some, Lags.lag-hop, Second.C_world, Second.Short}
use Rattle.law_partitions.proofs.{Second.C_part-events, Second.D_part-events, Turns.events_mine, Turns.phase_events_mine}
use Rattle.law_partitions.specs.Alone.{acts, first_of, A_part, B1_part, B2_part, C_part, D_part, after_A, early, after_C, tells_alone}

-- WHO IS LATE DOES NOTHING
pub landing_off : (S : Setup) (t i : ℕ) (P : Person) → ((start : ℕ) → P.place ≡ Teleporting start → ⊥) → landing_moves S t i P ≡ []
landing_off S t i P h = flight_walk (λ ms. ms ≡ []) S t i P refl (λ mode seconds start p w e. absurd (h start p))

pub leaving_off : (S : Setup) (t i : ℕ) (P : Person) → ((end : ℕ) → P.place ≡ At (Some end) → ⊥) → leaving_moves S t i P ≡ []
leaving_off S t i P h = leave_walk (λ ms. ms ≡ []) S t i P refl (λ p. absurd (h t p))

-- a flight that is late is not due
not_due : (S : Setup) (own : Owner) (p t i e start seconds : ℕ) (mode : Mode) → Lawful S → i < length S.persons → leg_at S i e ≡ leg.Teleport mode seconds → start + seconds ≡ t → eqb (owner_of S own (act_after S i e).link) p ≡ true → is_late S own (less S own) p t i e (Teleporting start) ≡ true → ⊥
not_due S own p t i e start seconds mode law lt w due o late =
    let q = flies_from S own i e in
    let le = lag-hop S own i e mode seconds lt w in
    let some = lag-some S own law.long q (owner_of S own (act_after S i e).link) in
    let r = eqb-true (owner_of S own (act_after S i e).link) p o in
    let lep : lag S own q p ≤ seconds = subst (λ x. lag S own q x ≤ seconds) r le in
    let somep : 1 ≤ lag S own q p = subst (λ x. 1 ≤ lag S own q x) r some in
    let near = leb-true t (start + less S own q p) (and_parts (not (eqb q p)) (nat_le t (start + less S own q p)) late).1 in omega arith

pub late_idle : (S : Setup) (own : Owner) (p t i : ℕ) → Lawful S → i < length S.persons → let P = person_of i (world_at S t) in
    eqb (owner_of_person S own (world_at S t) i) p ≡ true → is_late S own (less S own) p t i P.element P.place ≡ true → (landing_moves S t i P ≡ []) × (leaving_moves S t i P ≡ [])
late_idle S own p t i law lt o late =
    let W = world_at S t in
    let P = person_of i W in (
      flight_walk (λ ms. ms ≡ []) S t i P refl
          (λ mode seconds start q w due. absurd (not_due S own p t i P.element start seconds mode law lt w due (subst (λ pl. eqb (owner_of S own (link_at S W i P.element pl)) p ≡ true) q o) (subst (λ pl. is_late S own (less S own) p t i P.element pl ≡ true) q late))),
      leaving_off S t i P (λ end q. true≢false (sym (subst (λ pl. is_late S own (less S own) p t i P.element pl ≡ true) q late))),
    )

unknown_late : (S : Setup) (own : Owner) (p t i : ℕ) → i < length S.persons → eqb (owner_of_person S own (world_at S t) i) p ≡ true → has S own (less S own) p t i ≡ false → let P = person_of i (world_at S t) in is_late S own (less S own) p t i P.element P.place ≡ true
unknown_late S own p t i lt o h =
    let P = person_of i (world_at S t) in
    let late = is_late S own (less S own) p t i P.element P.place in
    let q : (eqb (owner_of_person S own (world_at S t) i) p && not late) ≡ false = sym (has-is S own (less S own) p t i lt P.place refl) ∙ h in
    elim (cases_Bool late) [ inl e ↦ e | inr e ↦ absurd (true≢false (sym (rw (o, e) refl) ∙ q)) ]

-- EVENTS BY THEIR OWNER
keyed_owner : (S : Setup) (own : Owner) (p t c n k : ℕ) (xs : List Occurrence) → filter (λ (e : Event). eqb (owner_of_event S own e) p) (keyed t c n k xs) ≡ (if eqb (owner_of_turn S own t c n) p then keyed t c n k xs else [])
unfolding keyed
keyed_owner S own p t c n k [] = elim (cases_Bool (eqb (owner_of_turn S own t c n) p)) [ inl e ↦ rw e refl | inr e ↦ rw e refl ]
keyed_owner S own p t c n k (x ∷ xs) =
    let r = keyed_owner S own p t c n (k + 1) xs in
    elim (cases_Bool (eqb (owner_of_turn S own t c n) p)) [
      | inl e ↦ rw e (ap (λ ys. event_at t c n k x ∷ ys) (r ∙ (rw e refl)))
      | inr e ↦ rw e (r ∙ (rw e refl))
    ]

turns_owner : (S : Setup) (own : Owner) (p t : ℕ) (ph : Phase) (us : List Turn) →
    filter (λ (e : Event). eqb (owner_of_event S own e) p) (events_in t ph us) ≡ flat_map (λ (u : Turn). if eqb (owner_of_turn S own t (phase_code ph) u.number) p then events_of t ph u else []) us
turns_owner S own p t ph [] = refl
turns_owner S own p t ph (u ∷ us) =
    let f : Event → Bool = λ e. eqb (owner_of_event S own e) p in
    filter-append f (events_of t ph u) (events_in t ph us)
    ∙ ap (λ xs. xs ++ filter f (events_in t ph us)) (keyed_owner S own p t (phase_code ph) u.number 0 (flat_map told u.moves))
    ∙ ap (λ ys. (if eqb (owner_of_turn S own t (phase_code ph) u.number) p then events_of t ph u else []) ++ ys) (turns_owner S own p t ph us)

chosen : (mine : ℕ → Bool) (t : ℕ) (ph : Phase) (us : List Turn) → events_in t ph (filter (λ (u : Turn). mine u.number) us) ≡ flat_map (λ (u : Turn). if mine u.number then events_of t ph u else []) us
chosen mine t ph [] = refl
chosen mine t ph (u ∷ us) = elim (cases_Bool (mine u.number)) [ inl e ↦ rw e (ap (λ xs. events_of t ph u ++ xs) (chosen mine t ph us)) | inr e ↦ rw e (chosen mine t ph us) ]

same_if : (S : Setup) (own : Owner) (p t : ℕ) (ph : Phase) (mine : ℕ → Bool) (us : List Turn) → ((n : ℕ) → eqb (owner_of_turn S own t (phase_code ph) n) p ≡ mine n) →
    flat_map (λ (u : Turn). if eqb (owner_of_turn S own t (phase_code ph) u.number) p then events_of t ph u else []) us ≡ flat_map (λ (u : Turn). if mine u.number then events_of t ph u else []) us
same_if S own p t ph mine [] h = refl
same_if S own p t ph mine (u ∷ us) h =
    let r = same_if S own p t ph mine us h in
    ap (λ (b : Bool). (if b then events_of t ph u else []) ++ flat_map (λ (u : Turn). if eqb (owner_of_turn S own t (phase_code ph) u.number) p then events_of t ph u else []) us) (h u.number)
    ∙ ap (λ xs. (if mine u.number then events_of t ph u else []) ++ xs) r

-- the events of p in a phase are those of the numbers that are its
phase_owner : (S : Setup) (own : Owner) (p t : ℕ) (ph : Phase) (mine : ℕ → Bool) (us : List Turn) → ((n : ℕ) → eqb (owner_of_turn S own t (phase_code ph) n) p ≡ mine n) →
    filter (λ (e : Event). eqb (owner_of_event S own e) p) (events_in t ph us) ≡ filter (λ (e : Event). mine e.key.number) (events_in t ph us)
phase_owner S own p t ph mine us h =
    turns_owner S own p t ph us ∙ same_if S own p t ph mine us h ∙ sym (events_mine mine t ph us ∙ chosen mine t ph us)

by_number : (plan : ℕ → List Move) (t : ℕ) (ph : Phase) (mine : ℕ → Bool) (ns : List ℕ) →
    flat_map (λ (u : Turn). if mine u.number then events_of t ph u else []) (map (λ (n : ℕ). let u : Turn = record { number = n; moves = plan n } in u) ns) ≡ flat_map (λ n. if mine n then keyed t (phase_code ph) n 0 (flat_map told (plan n)) else []) ns
by_number plan t ph mine [] = refl
by_number plan t ph mine (n ∷ ns) = ap (λ xs. (if mine n then keyed t (phase_code ph) n 0 (flat_map told (plan n)) else []) ++ xs) (by_number plan t ph mine ns)

all_numbers : (plan : ℕ → List Move) (t : ℕ) (ph : Phase) (ns : List ℕ) → events_in t ph (map (λ (n : ℕ). let u : Turn = record { number = n; moves = plan n } in u) ns) ≡ flat_map (λ n. keyed t (phase_code ph) n 0 (flat_map told (plan n))) ns
all_numbers plan t ph [] = refl
all_numbers plan t ph (n ∷ ns) = ap (λ xs. keyed t (phase_code ph) n 0 (flat_map told (plan n)) ++ xs) (all_numbers plan t ph ns)

module _ (S : Setup) (own : Owner) (p t : ℕ) (law : Lawful S) where
  abbrev R : Held
  R = ready S own p t

  abbrev mine_p : ℕ → Bool
  mine_p = has S own (less S own) p t

  abbrev W0 : World
  W0 = world_at S t

  abbrev W1 : World
  W1 = A_world S t W0

  abbrev E : Held
  E = early S own p t R

  abbrev of_p : Event → Bool
  of_p e = eqb (owner_of_event S own e) p

  abbrev rd : Ready S own p t (late_of S own (less S own) p t) mine_p W0 R
  rd = heard S own (less S own) p t (within S own law.long)

  abbrev cm : Calm S own p t mine_p
  cm = calm S own p t law

  ready_person : (j : ℕ) → R.person j ≡ mine (mine_p j) (person_of j W0)
  unfolding unheard
  ready_person j = refl

  owned : (i : ℕ) → mine_p i ≡ true → eqb (owner_of_person S own W0 i) p ≡ true
  owned i e = (and_parts (eqb (owner_of_person S own W0 i) p) _ (and_parts (is_person S i) _ e).1).0

  idle0 : (i : ℕ) → mine_p i ≡ false → eqb (owner_of_person S own W0 i) p ≡ true → landing_moves S t i (person_of i W0) ≡ []
  idle0 i e o =
      let few = (always_kept S t).one_row in
      elim (cases_lt i (length S.persons)) [
        | inl lt ↦ let z = late_idle S own p t i law lt o (unknown_late S own p t i lt o e) in z.0
        | inr past ↦ let z = get_or_past W0.persons i nobody (omega arith) in subst (λ (P : Person). landing_moves S t i P ≡ []) (sym z) (landing_off S t i nobody (λ s q. cc))
      ]

  idle1 : (i : ℕ) → mine_p i ≡ false → eqb (owner_of_person S own W0 i) p ≡ true → leaving_moves S t i (person_of i W1) ≡ []
  idle1 i e o =
      let few = (always_kept S t).one_row in
      let f1 = run-length S t (moves_of (turns_in S t phase.A W0)) W0 in
      elim (cases_lt i (length S.persons)) [
        | inl lt ↦
            let z = late_idle S own p t i law lt o (unknown_late S own p t i lt o e) in
            elim (B1_plan S own p t i (mine_p i) law lt (home0 S own p t i law lt)).0 [
              | inl q ↦ subst (λ (P : Person). leaving_moves S t i P ≡ []) (sym q) z.1
              | inr none ↦ none
            ]
        | inr past ↦ let z = get_or_past W1.persons i nobody (omega arith) in subst (λ (P : Person). leaving_moves S t i P ≡ []) (sym z) (leaving_off S t i nobody (λ s q. cc))
      ]

  abbrev of_person : ℕ → Bool
  of_person n = eqb (owner_of_person S own W0 n) p

  A_told : events_in t phase.A (A_part S t R) ≡ filter of_p (events_in t phase.A (turns_in S t phase.A W0))
  unfolding turns_of
  A_told =
      let plan : ℕ → List Move = λ i. landing_turns S t i W0 in
      all_numbers (λ i. acts (landing_moves S t) i (R.person i)) t phase.A (below (length S.persons))
      ∙ turns-agree S own p t (late_of S own (less S own) p t) mine_p R rd cm (landing_moves S t) W0 R ready_person idle0 owned 0 0 (length S.persons)
      ∙ sym (turns_owner S own p t phase.A (turns_in S t phase.A W0)
      ∙ ap (flat_map (λ (u : Turn). if of_person u.number then events_of t phase.A u else [])) (phase_at_once S t phase.A W0)
      ∙ by_number plan t phase.A of_person (below (length S.persons)))

  B1_told : events_in t phase.B1 (B1_part S t (after_A S t R)) ≡ filter of_p (events_in t phase.B1 (turns_in S t phase.B1 W1))
  unfolding turns_of
  B1_told =
      let plan : ℕ → List Move = λ i. leaving_turns S t i W1 in
      let H1 = after_A S t R in
      all_numbers (λ i. acts (leaving_moves S t) i (H1.person i)) t phase.B1 (below (length S.persons))
      ∙ turns-agree S own p t (late_of S own (less S own) p t) mine_p R rd cm (leaving_moves S t) W1 H1 (person1 S own p t (late_of S own (less S own) p t) mine_p R rd cm) idle1 owned 1 0 (length S.persons)
      ∙ sym (turns_owner S own p t phase.B1 (turns_in S t phase.B1 W1)
      ∙ ap (flat_map (λ (u : Turn). if of_person u.number then events_of t phase.B1 u else [])) (phase_at_once S t phase.B1 W1)
      ∙ by_number plan t phase.B1 of_person (below (length S.persons)))

  B2_told : (W : World) → events_in t phase.B2 (B2_part S own p t) ≡ filter of_p (events_in t phase.B2 (turns_in S t phase.B2 W))
  unfolding turns_of
  B2_told W = sym (phase_owner S own p t phase.B2 (λ d. eqb (owner_of S own (first_of S d)) p) (turns_in S t phase.B2 W) (λ n. refl) ∙ phase_events_mine S t phase.B2 (λ d. eqb (owner_of S own (first_of S d)) p) W)

  abbrev V : World
  V = mid S t

  abbrev short : Short S own p t (late_of S own (less S own) p t) mine_p V E
  short = sh S own p t law.long cm

  C_told : events_in t phase.C (C_part S own p t E) ≡ filter of_p (events_in t phase.C (turns_in S t phase.C V))
  C_told = C_part-events S own p t (late_of S own (less S own) p t) mine_p V E short ∙ sym (phase_owner S own p t phase.C (λ n. eqb (own n) p) (turns_in S t phase.C V) (λ n. refl))

  D_told : events_in t phase.D (D_part S own p t (after_C S own p t E)) ≡ filter of_p (events_in t phase.D (turns_in S t phase.D (C_world S t V)))
  D_told = D_part-events S own p t (late_of S own (less S own) p t) mine_p V E short ∙ sym (phase_owner S own p t phase.D (λ l. eqb (owner_of S own l) p) (turns_in S t phase.D (C_world S t V)) (λ n. refl))

  -- THE EVENTS
  pub tells_is : own_events S own p t ++ tells_alone S own p t R ≡ own_events S own p (suc t)
  unfolding own_events events_from told_in tells_alone world_from
  tells_is =
      let U2 = B1_world S t W1 in
      let a = events_in t phase.A (turns_in S t phase.A W0) in
      let b = events_in t phase.B1 (turns_in S t phase.B1 W1) in
      let c = events_in t phase.B2 (turns_in S t phase.B2 U2) in
      let d = events_in t phase.C (turns_in S t phase.C V) in
      let e = events_in t phase.D (turns_in S t phase.D (C_world S t V)) in
      let before = events_from S (world_start S) t in
      let split : filter of_p (before ++ (a ++ (b ++ (c ++ (d ++ (e ++ []))))))
      ≡ filter of_p before ++ (filter of_p a ++ (filter of_p b ++ (filter of_p c ++ (filter of_p d ++ filter of_p e)))) =
      filter-append of_p before (a ++ (b ++ (c ++ (d ++ (e ++ [])))))
      ∙ ap (λ xs. filter of_p before ++ xs) (filter-append of_p a (b ++ (c ++ (d ++ (e ++ []))))
      ∙ ap (λ xs. filter of_p a ++ xs) (filter-append of_p b (c ++ (d ++ (e ++ [])))
      ∙ ap (λ xs. filter of_p b ++ xs) (filter-append of_p c (d ++ (e ++ []))
      ∙ ap (λ xs. filter of_p c ++ xs) (filter-append of_p d (e ++ []) ∙ ap (λ xs. filter of_p d ++ filter of_p xs) (append-nil e))))) in
      ap (λ xs. filter of_p before ++ (xs ++ (events_in t phase.B1 (B1_part S t (after_A S t R)) ++ (events_in t phase.B2 (B2_part S own p t) ++ (events_in t phase.C (C_part S own p t E) ++ events_in t phase.D (D_part S own p t (after_C S own p t E))))))) A_told
      ∙ ap (λ xs. filter of_p before ++ (filter of_p a ++ (xs ++ (events_in t phase.B2 (B2_part S own p t) ++ (events_in t phase.C (C_part S own p t E) ++ events_in t phase.D (D_part S own p t (after_C S own p t E))))))) B1_told
      ∙ ap (λ xs. filter of_p before ++ (filter of_p a ++ (filter of_p b ++ (xs ++ (events_in t phase.C (C_part S own p t E) ++ events_in t phase.D (D_part S own p t (after_C S own p t E))))))) (B2_told U2)
      ∙ ap (λ xs. filter of_p before ++ (filter of_p a ++ (filter of_p b ++ (filter of_p c ++ (xs ++ events_in t phase.D (D_part S own p t (after_C S own p t E))))))) C_told
      ∙ ap (λ xs. filter of_p before ++ (filter of_p a ++ (filter of_p b ++ (filter of_p c ++ (filter of_p d ++ xs))))) D_told
      ∙ sym split
