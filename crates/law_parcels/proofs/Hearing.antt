-- What absorbing parcels, one after the other, makes of what a partition holds.
use Rattle.traffic.proofs.Common.{◌≡◌, ◌≢◌, ◌⊎◌, ℕ, zero, suc, ◌+◌, ◌-◌, ◌<◌, ◌≤◌, List, [], ◌∷◌, ◌++◌, ◌∙◌, ap, refl, sym, subst, arith, inl, inr, cases_Bool}
use Rattle.traffic.proofs.Common.{cases_lt, true, false, true≢false, Bool, not, ◌&&◌, nat_le, leb-true, and_parts, length, length-append, get_or, map, filter}
use Rattle.traffic.proofs.Common.{flat_map, replicate, sum_by, sum_by-cons, eqb, eqb-true, eq-eqb, ne_eqb, Some, None, Option, Setup, at, on, rank, person_of}
use Rattle.traffic.proofs.{Common.world_at, Common.below, Each.each_flat_all, Each.each_filter, Each.each_kept, Each.each_map, Each.each_number}
use Rattle.traffic.specs.declared.{moves.Move.Move, moves.Move.TheVariants.Transfer, stage.Stage.Stage}
use Rattle.traffic.specs.declared.stage.Stage.TheVariants.{Queue, Buffer, Wait, Bay}
use Rattle.traffic.specs.declared.world.{Person.Person, Row.Row}
use Rattle.std.specs.List.{AllByRecursion as Each}
use Rattle.parts.specs.Owners.{Owner, owner_of, begins_in, crosses, leads, links_of, near, lag}
use Rattle.parts.specs.Parts.{Held, Passed, Freed, passed, is_some_freed, mine, enters_queue, node_phase_moves, went_last, up, has, unheard, held, ready, out}
use Rattle.law_partitions.proofs.{Absorbed.near_other, Absorbed.find_long, Absorbed.person_ready, Absorbed.absorb_is, Absorbing.Only, Absorbing.only-append}
use Rattle.law_partitions.proofs.{Absorbing.parcel_brings, Ends.less, History.length_copies, Joined.given-self, Joined.rows_more, Lags.lag-some}
use Rattle.law_partitions.specs.Alone.{rows_to, freed_of, freed_in, person_in, or_first, absorb, given}
use Rattle.law_partitions.specs.Premises.{Lawful, Arrivals}
use Rattle.law_own_worlds.specs.Making.{or_nobody}
use Rattle.law_parcels.specs.Hearing.{HearsFrom, heard_rows, heard_holes, heard_persons, last_or, IsReadyBy, IsBetween}
use Rattle.law_parcels.proofs.Lists.{Stands, flat_only}

-- WHERE WHAT IS SENT LEADS
module _ (S : Setup) (own : Owner) (q p s : ℕ) where
  abbrev Leads : Row → Type 0
  Leads r = leads S own q p r.link ≡ true

  move_leads : (m : Move) → Each Leads (enters_queue (leads S own q p) m)
  move_leads (Transfer a k n was now) =
      elim (cases_Bool (leads S own q p now.link && on now.link Queue now)) [
        | inl e ↦ rw e ((and_parts (leads S own q p now.link) (on now.link Queue now) e).0, tt)
        | inr e ↦ rw e tt
      ]
  move_leads _ = tt

  pub vehicles_lead : Each (λ (y : Passed). leads S own q p y.row.link ≡ true) (out S own q p s).vehicles
  unfolding out
  vehicles_lead =
      each_map Leads (λ (y : Passed). leads S own q p y.row.link ≡ true) (passed (world_at S s)) (λ r g. g) _
      (each_flat_all Leads (enters_queue (leads S own q p)) move_leads (node_phase_moves S s))

  abbrev Back : ℕ → Type 0
  Back l = (leads S own p q l ≡ true) × (l < length S.links)

  pub freed_lead : Each (λ (f : Freed). (leads S own p q f.link ≡ true) × (f.link < length S.links)) (out S own q p s).freed
  unfolding out
  freed_lead =
      each_kept (λ (f : Freed). (leads S own p q f.link ≡ true) × (f.link < length S.links)) is_some_freed _
      (each_map Back (λ (f : Freed). (leads S own p q f.link ≡ true) × (f.link < length S.links)) _ (λ l g. g) _
      (each_filter (λ (l : ℕ). l < length S.links) Back (leads S own p q) (λ l e lt. (e, lt)) (links_of S)
      (each_number (length S.links) 0 (length S.links) (omega arith))))

  pub between : IsBetween S own q p s
  between = record { vehicles = vehicles_lead; freed_places = freed_lead }

  -- nothing of it concerns other links
  pub not_on : (l : ℕ) → q ≢ begins_in S own l → (ys : List Passed) → Each (λ (y : Passed). leads S own q p y.row.link ≡ true) ys
      → filter (λ (r : Row). eqb r.link l) (map (λ (y : Passed). y.row) ys) ≡ []
  not_on l ne [] h = refl
  not_on l ne (y ∷ ys) h =
      let b = eqb-true (begins_in S own y.row.link) q
      (and_parts (eqb (begins_in S own y.row.link) q) (eqb (owner_of S own y.row.link) p) h.0).0 in
      let e : eqb y.row.link l ≡ false = ne_eqb y.row.link l (λ same. ne (sym b ∙ ap (begins_in S own) same)) in
      rw e (not_on l ne ys h.1)

  pub not_freed : (m : ℕ) → q ≢ owner_of S own m → (fs : List Freed)
      → Each (λ (f : Freed). (leads S own p q f.link ≡ true) × (f.link < length S.links)) fs → sum_by (freed_in m) fs ≡ 0
  not_freed m ne [] h = refl
  not_freed m ne (f ∷ fs) h =
      let b = eqb-true (owner_of S own f.link) q (and_parts (eqb (begins_in S own f.link) p) (eqb (owner_of S own f.link) q) h.0.0).1 in
      let e : eqb f.link m ≡ false = ne_eqb f.link m (λ same. ne (sym b ∙ ap (owner_of S own) same)) in
      let none : freed_in m f ≡ 0 = (rw e refl) in
      let rest = not_freed m ne fs h.1 in
      let c = sum_by-cons (freed_in m) f fs in
      omega arith

-- PERSONS
pub only_flat : (P : Person) (f : ℕ → List Person) → ((q : ℕ) → Only P (f q)) → (ns : List ℕ) → Only P (flat_map f ns)
only_flat P f h [] = tt
only_flat P f h (n ∷ ns) = only-append P (f n) (flat_map f ns) (h n) (only_flat P f h ns)

last_only : (P Q : Person) (xs : List Person) → Only P xs → 1 ≤ length xs → last_or Q xs ≡ P
last_only P Q [] h some = absurd (omega arith)
last_only P Q (x ∷ []) h some = h.0
last_only P Q (x ∷ y ∷ ys) h some = last_only P x (y ∷ ys) h.1 (omega arith)

nil_of : (xs : List Person) → length xs ≤ 0 → xs ≡ []
nil_of [] h = refl
nil_of (x ∷ xs) h = absurd (omega arith)

first_nothing : (o : Option Person) → or_first o [] ≡ o
first_nothing None = refl
first_nothing (Some P) = refl

at_place : (f : ℕ → List Person) (ns : List ℕ) (k : ℕ) → k < length ns → length (f (get_or ns k 0)) ≤ length (flat_map f ns)
at_place f [] k lt = absurd (omega arith)
at_place f (n ∷ ns) zero lt = let a = length-append (f n) (flat_map f ns) in omega arith
at_place f (n ∷ ns) (suc k) lt = let a = length-append (f n) (flat_map f ns) in let r = at_place f ns k (omega arith) in omega arith

module _ (S : Setup) (own : Owner) (parts p t : ℕ) (law : Lawful S) (arrivals : Arrivals S) (shares : (n : ℕ) → own n < parts) (ns : List ℕ)
    (hears : HearsFrom S own p ns) where
  abbrev R : Held
  R = ready S own p t

  abbrev K : Held
  K = held S own p t

  absorbed : absorb S own parts p t (given S own p t) K ≡ R
  absorbed = absorb_is S own parts p t law arrivals shares

  -- who is no neighbour gives nothing, and each neighbour is heard
  silent : (q : ℕ) → near S own q p ≡ false → given S own p t q ≡ None
  silent q e = rw e refl

  known : {X : Type 0} (f : ℕ → List X) (x : ℕ) → (given S own p t x ≡ None → f x ≡ []) → (f x ≡ []) ⊎ Stands x ns
  known f x h = elim (cases_Bool (near S own x p)) [ inl e ↦ inr (hears.all x e) | inr e ↦ inl (h (silent x e)) ]

  -- QUEUES
  none_to : (l q : ℕ) → q ≢ begins_in S own l → rows_to l (given S own p t q) ≡ []
  none_to l q ne =
      elim (cases_Bool (near S own q p && nat_le (lag S own q p) t)) [
        | inl e ↦ rw e (not_on S own q p (t - lag S own q p) l ne _ (vehicles_lead S own q p (t - lag S own q p)))
        | inr e ↦ rw e refl
      ]

  rows_of_link : (l : ℕ) → heard_rows S own p t ns l ≡ rows_to l (given S own p t (begins_in S own l))
  rows_of_link l =
      flat_only (λ (q : ℕ). rows_to l (given S own p t q)) (begins_in S own l) ns (none_to l) hears.ascend
      (known (λ (q : ℕ). rows_to l (given S own p t q)) (begins_in S own l) (λ g. ap (rows_to l) g))

  queue_is : (l : ℕ) → owner_of S own l ≡ p → R.list l Queue ≡ K.list l Queue ++ heard_rows S own p t ns l
  unfolding absorb
  queue_is l o =
      let e : eqb (owner_of S own l) p ≡ true = eq-eqb (owner_of S own l) p o in
      let one : (absorb S own parts p t (given S own p t) K).list l Queue
      ≡ K.list l Queue ++ rows_to l (given S own p t (begins_in S own l))
      = (rw e refl) in
      ap (λ (X : Held). X.list l Queue) (sym absorbed) ∙ one ∙ ap (λ (rows : List Row). K.list l Queue ++ rows) (sym (rows_of_link l))

  list_is : (l : ℕ) (s : Stage) → eqb (rank s) 0 ≡ false → R.list l s ≡ K.list l s
  unfolding unheard
  list_is l Queue z = absurd (true≢false z)
  list_is l Buffer z = refl
  list_is l Wait z = refl
  list_is l Bay z = refl

  credit_is : (l : ℕ) → R.credit l ≡ K.credit l
  unfolding unheard
  credit_is l = refl

  -- PLACES
  none_freed : (m q : ℕ) → q ≢ owner_of S own m → freed_of m (given S own p t q) ≡ 0
  none_freed m q ne =
      elim (cases_Bool (near S own q p && nat_le (lag S own q p) t)) [
        | inl e ↦ rw e (not_freed S own q p (t - lag S own q p) m ne _ (freed_lead S own q p (t - lag S own q p)))
        | inr e ↦ rw e refl
      ]

  abbrev pub left_places : ℕ → ℕ
  left_places m = freed_of m (given S own p t (owner_of S own m))

  pub holes_of_link : (m : ℕ) → heard_holes S own p t ns m ≡ replicate (left_places m) (t - lag S own (owner_of S own m) p)
  holes_of_link m =
      let f : ℕ → List ℕ = λ q. replicate (freed_of m (given S own p t q)) (t - lag S own q p) in
      flat_only f (owner_of S own m) ns (λ q ne. ap (λ (n : ℕ). replicate n (t - lag S own q p)) (none_freed m q ne)) hears.ascend
      (known f (owner_of S own m) (λ g. ap (λ x. replicate (freed_of m x) (t - lag S own (owner_of S own m) p)) g))

  held_rows : (m : ℕ) → begins_in S own m ≡ p
      → K.rows m ≡ length (at m Queue (world_at S t)) + went_last S m t (up S own (lag S own) m)
  unfolding unheard
  held_rows m b = let e : eqb (begins_in S own m) p ≡ true = eq-eqb (begins_in S own m) p b in (rw e refl)

  -- p knows the rows that left
  enough : (m : ℕ) → begins_in S own m ≡ p → left_places m ≤ K.rows m
  enough m b =
      let rows = held_rows m b in
      let o = owner_of S own m in
      elim (cases_Bool (eqb (begins_in S own m) o)) [
        | inl e ↦
            let same : eqb o p ≡ true = eq-eqb o p (sym (eqb-true (begins_in S own m) o e) ∙ b) in
            let none = ap (freed_of m) (given-self S own p t o same) in
            omega arith
        | inr e ↦
            let c : crosses S own m ≡ true = ap not e in
            let some = lag-some S own law.long o (begins_in S own m) in
            let u = lag S own o (begins_in S own m) - 1 in
            let is : lag S own o (begins_in S own m) ≡ suc u = omega arith in
            let last : went_last S m t (up S own (lag S own) m) ≡ went_last S m t (suc u) = (rw c (ap (went_last S m t) is)) in
            let more = (rows_more S own m t u c is).0 in
            let here : freed_of m (given S own (begins_in S own m) t o)
            ≡ left_places m = ap (λ (x : ℕ). freed_of m (given S own x t o)) b in
            omega arith
      ]

  rows_are : (m : ℕ) → begins_in S own m ≡ p → R.rows m + length (heard_holes S own p t ns m) ≡ K.rows m
  unfolding absorb
  rows_are m b =
      let e : eqb (begins_in S own m) p ≡ true = eq-eqb (begins_in S own m) p b in
      let one : (absorb S own parts p t (given S own p t) K).rows m ≡ K.rows m - left_places m = (rw e refl) in
      let is = ap (λ (X : Held). X.rows m) (sym absorbed) ∙ one in
      let many = ap (λ (xs : List ℕ). length xs) (holes_of_link m) ∙ length_copies (left_places m) (t - lag S own (owner_of S own m) p) in
      let le = enough m b in
      omega arith

  holes_are : (m : ℕ) → begins_in S own m ≡ p → R.holes m ≡ K.holes m ++ heard_holes S own p t ns m
  unfolding absorb
  holes_are m b =
      let e : eqb (begins_in S own m) p ≡ true = eq-eqb (begins_in S own m) p b in
      let one : (absorb S own parts p t (given S own p t) K).holes m
      ≡ K.holes m ++ replicate (left_places m) (t - lag S own (owner_of S own m) p) = (rw e refl) in
      ap (λ (X : Held). X.holes m) (sym absorbed) ∙ one ∙ ap (λ (hs : List ℕ). K.holes m ++ hs) (sym (holes_of_link m))

  -- PERSONS
  module _ (i : ℕ) (lt : i < length S.persons) where
    abbrev P : Person
    P = person_of i (world_at S t)

    abbrev of : ℕ → List Person
    of q = person_in i (t - lag S own q p) (given S own p t q)

    ready_is : R.person i ≡ mine (has S own (less S own) p t i) P
    unfolding unheard
    ready_is = refl

    held_is : K.person i ≡ mine (has S own (lag S own) p t i) P
    unfolding unheard
    held_is = refl

    pub brings : (q : ℕ) → Only P (of q) × (1 ≤ length (of q) → has S own (less S own) p t i ≡ true)
    brings q =
        elim (cases_Bool (near S own q p && nat_le (lag S own q p) t)) [
          | inl e ↦
              let g = and_parts (near S own q p) (nat_le (lag S own q p) t) e in
              let le = leb-true (lag S own q p) t g.1 in
              let s = t - lag S own q p in
              let back : s + lag S own q p ≡ t = omega arith in
              let other = near_other S own parts p t i law arrivals shares lt q g.0 in
              let there : Only P (person_in i s (Some (out S own q p s)))
              × (1 ≤ length (person_in i s (Some (out S own q p s))) → has S own (less S own) p t i ≡ true)
              = subst (λ (x : ℕ). Only (person_of i (world_at S x)) (person_in i s (Some (out S own q p s)))
              × (1 ≤ length (person_in i s (Some (out S own q p s))) → has S own (less S own) p x i ≡ true)) back
              (parcel_brings S own p q i s law arrivals lt other) in
              rw e there
          | inr e ↦ rw e (tt, λ h. absurd (omega arith))
        ]

    person_is : or_nobody (R.person i) ≡ last_or (or_nobody (K.person i)) (heard_persons S own p t ns i)
    person_is =
        let xs = flat_map of ns in
        let only : Only P xs = only_flat P of (λ q. (brings q).0) ns in
        let whole = person_ready S own parts p t i law arrivals shares lt in
        elim (cases_lt 0 (length xs)) [
          | inl some ↦
              let w = find_long of ns (omega arith) in
              let h : has S own (less S own) p t i ≡ true = (brings w.0).1 w.1 in
              ap or_nobody (ready_is ∙ ap (λ (b : Bool). mine b P) h) ∙ sym (last_only P (or_nobody (K.person i)) xs only (omega arith))
          | inr none ↦
              let here : xs ≡ [] = nil_of xs (omega arith) in
              let all : flat_map of (below parts) ≡ []
              = nil_of (flat_map of (below parts)) (elim (cases_lt 0 (length (flat_map of (below parts)))) [
                | inl some ↦
                    let w = find_long of (below parts) (omega arith) in
                    let near_one : near S own w.0 p ≡ true = (elim (cases_Bool (near S own w.0 p)) [
                      | inl e ↦ e
                      | inr e ↦
                          let off = ap (λ x. length (person_in i (t - lag S own w.0 p) x)) (silent w.0 e) in
                          let long = w.1 in
                          absurd (omega arith)
                    ]) in
                    let k = hears.all w.0 near_one in
                    let le = at_place of ns k.0 k.1 in
                    let same = ap (λ (q : ℕ). length (of q)) k.2 in
                    let long = w.1 in
                    omega arith
                | inr off ↦ omega arith
              ]) in
              let same : R.person i ≡ K.person i
              = ready_is ∙ sym whole ∙ ap (λ (ys : List Person). or_first (mine (has S own (lag S own) p t i) P) ys) all
              ∙ first_nothing (mine (has S own (lag S own) p t i) P) ∙ sym held_is in
              ap or_nobody same ∙ ap (λ (ys : List Person). last_or (or_nobody (K.person i)) ys) (sym here)
        ]

  pub makes_ready : IsReadyBy S own p t ns
  makes_ready = record {
    queue = queue_is;
    list = list_is;
    credit = credit_is;
    rows = rows_are;
    holes = holes_are;
    person = person_is;
  }
