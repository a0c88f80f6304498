-- What a partition holds, made a world.
use Rattle.traffic.proofs.Common.{◌≡◌, ◌≢◌, ℕ, zero, suc, ◌+◌, ◌-◌, ◌<◌, ◌≤◌, List, [], ◌∷◌, ◌++◌, ◌∙◌, ap, refl, sym, arith, inl, inr, cases_Bool, cases_lt}
use Rattle.traffic.proofs.Common.{true, false, Bool, length, get_or, get_or_past, map, flat_map, filter, replicate, eqb, eqb-true, eqb-false, eq-eqb, ne_eqb}
use Rattle.traffic.proofs.Common.{lt-ltb, nat_lt, length-append, length-map, filter-append, append-nil, Option, Some, None, Setup, World, at, on, rank}
use Rattle.traffic.proofs.Common.{credit_of, person_of, nobody, holes_at, taken_at, in_force, hole_of, hole_seconds, link_row, numbers, below, ◌&&◌}
use Rattle.traffic.specs.declared.stage.Stage.{Stage, TheVariants.Queue, TheVariants.Buffer, TheVariants.Wait, TheVariants.Bay}
use Rattle.traffic.specs.declared.world.{Hole.Hole, Person.Person, Row.Row}
use Rattle.std.specs.{List.AllByRecursion as Each, Prelude.is_some}
use Rattle.parts.specs.{Owners.Owner, Owners.begins_in, Parts.Held, Parts.mine}
use Rattle.law_partitions.{proofs.Listing.apart_lists, specs.Alone.taken_here}
use Rattle.law_own_worlds.specs.OwnWorlds.{IsWorldOf, IsOwnWorld}
use Rattle.law_own_worlds.specs.Making.{or_nobody, rows_on, hole, holes_on, own_world, IsKnown}

-- LISTS
filter_all : {X : Type 0} (p : X → Bool) (xs : List X) → Each (λ (x : X). p x ≡ true) xs → filter p xs ≡ xs
filter_all p [] h = refl
filter_all {X} p (x ∷ xs) h = let e = h.0 in rw e (ap (λ (ys : List X). x ∷ ys) (filter_all p xs h.1))

pub filter_none : {X : Type 0} (p : X → Bool) (xs : List X) → Each (λ (x : X). p x ≡ false) xs → filter p xs ≡ []
filter_none p [] h = refl
filter_none p (x ∷ xs) h = let e = h.0 in rw e (filter_none p xs h.1)

filter_flat : {X : Type 0} (p : X → Bool) (f : ℕ → List X) (ns : List ℕ) → filter p (flat_map f ns) ≡ flat_map (λ (n : ℕ). filter p (f n)) ns
filter_flat p f [] = refl
filter_flat {X} p f (n ∷ ns) =
    filter-append p (f n) (flat_map f ns) ∙ ap (λ (xs : List X). filter p (f n) ++ xs) (filter_flat p f ns)

-- of many numbers only one gives something
flat_away : {X : Type 0} (f : ℕ → List X) (l k n : ℕ) → ((m : ℕ) → m ≢ l → f m ≡ []) → l < k → flat_map f (numbers k n) ≡ []
flat_away f l k zero h lt = refl
flat_away {X} f l k (suc n) h lt =
    let ne : k ≢ l = omega arith in
    ap (λ (xs : List X). xs ++ flat_map f (numbers (k + 1) n)) (h k ne) ∙ flat_away f l (k + 1) n h (omega arith)

flat_past : {X : Type 0} (f : ℕ → List X) (l k n : ℕ) → ((m : ℕ) → m ≢ l → f m ≡ []) → k + n ≤ l → flat_map f (numbers k n) ≡ []
flat_past f l k zero h le = refl
flat_past {X} f l k (suc n) h le =
    let ne : k ≢ l = omega arith in
    ap (λ (xs : List X). xs ++ flat_map f (numbers (k + 1) n)) (h k ne) ∙ flat_past f l (k + 1) n h (omega arith)

flat_one : {X : Type 0} (f : ℕ → List X) (l k n : ℕ) → ((m : ℕ) → m ≢ l → f m ≡ []) → k ≤ l → l < k + n → flat_map f (numbers k n) ≡ f l
flat_one f l k zero h low high = absurd (omega arith)
flat_one {X} f l k (suc n) h low high =
    elim (cases_Bool (eqb k l)) [
      | inl e ↦
          let same : k ≡ l = eqb-true k l e in
          ap (λ (xs : List X). f k ++ xs) (flat_away f l (k + 1) n h (omega arith)) ∙ append-nil (f k) ∙ ap f same
      | inr e ↦
          let ne : k ≢ l = eqb-false k l e in
          ap (λ (xs : List X). xs ++ flat_map f (numbers (k + 1) n)) (h k ne) ∙ flat_one f l (k + 1) n h (omega arith) (omega arith)
    ]

numbers_length : (k n : ℕ) → length (numbers k n) ≡ n
numbers_length k zero = refl
numbers_length k (suc n) = ap suc (numbers_length (k + 1) n)

mapped_at : {X : Type 0} (f : ℕ → X) (d : X) (k n i : ℕ) → i < n → get_or (map f (numbers k n)) i d ≡ f (k + i)
mapped_at f d k zero i lt = absurd (omega arith)
mapped_at f d k (suc n) zero lt = let e : k ≡ k + 0 = omega arith in ap f e
mapped_at f d k (suc n) (suc i) lt =
    let e : (k + 1) + i ≡ k + suc i = omega arith in mapped_at f d (k + 1) n i (omega arith) ∙ ap f e

mapped_length : {X : Type 0} (f : ℕ → X) (n : ℕ) → length (map f (below n)) ≡ n
mapped_length f n = length-map (below n) f ∙ numbers_length 0 n

-- ROWS
pub both_false : (a b : Bool) → (b ≡ true → a ≡ false) → (a && b) ≡ false
both_false true b h = elim (cases_Bool b) [ inl e ↦ absurd (let z = h e in cc) | inr e ↦ e ]
both_false false b h = refl

module _ (S : Setup) (own : Owner) (p t : ℕ) (H : Held) (known : IsKnown S own p H) where
  abbrev V : World
  V = own_world S t H

  kept : (l : ℕ) (s : Stage) → filter (on l s) (H.list l s) ≡ H.list l s
  kept l s = filter_all (on l s) (H.list l s) (known.on l s)

  dropped : (l k : ℕ) (s z : Stage) → (eqb (rank z) (rank s) && eqb k l) ≡ false → filter (on l s) (H.list k z) ≡ []
  dropped l k s z e = filter_none (on l s) (H.list k z) (off (H.list k z) (known.on k z))
    where
      off : (rs : List Row) → Each (λ (r : Row). on k z r ≡ true) rs → Each (λ (r : Row). on l s r ≡ false) rs
      off [] h = tt
      off (r ∷ rs) h = (apart_lists k z l s e r h.0, off rs h.1)

  four : (l k : ℕ) (s : Stage) → filter (on l s) (rows_on H k)
      ≡ filter (on l s) (H.list k Queue) ++ (filter (on l s) (H.list k Buffer) ++ (filter (on l s) (H.list k Wait) ++ filter (on l s) (H.list k Bay)))
  four l k s =
      let q = H.list k Queue in
      let b = H.list k Buffer in
      let w = H.list k Wait in
      let y = H.list k Bay in
      filter-append (on l s) q (b ++ (w ++ y))
      ∙ ap (λ (xs : List Row). filter (on l s) q ++ xs) (filter-append (on l s) b (w ++ y))
      ∙ ap (λ (xs : List Row). filter (on l s) q ++ (filter (on l s) b ++ xs)) (filter-append (on l s) w y)

  four_are : (l k : ℕ) (s : Stage) (q b w y : List Row) → filter (on l s) (H.list k Queue) ≡ q → filter (on l s) (H.list k Buffer) ≡ b
      → filter (on l s) (H.list k Wait) ≡ w → filter (on l s) (H.list k Bay) ≡ y → filter (on l s) (rows_on H k) ≡ q ++ (b ++ (w ++ y))
  four_are l k s q b w y eq eb ew ey =
      let fq = filter (on l s) (H.list k Queue) in
      let fb = filter (on l s) (H.list k Buffer) in
      let fw = filter (on l s) (H.list k Wait) in
      let fy = filter (on l s) (H.list k Bay) in
      four l k s ∙ ap (λ (xs : List Row). xs ++ (fb ++ (fw ++ fy))) eq ∙ ap (λ (xs : List Row). q ++ (xs ++ (fw ++ fy))) eb
      ∙ ap (λ (xs : List Row). q ++ (b ++ (xs ++ fy))) ew ∙ ap (λ (xs : List Row). q ++ (b ++ (w ++ xs))) ey

  of_other : (l k : ℕ) (s z : Stage) → k ≢ l → filter (on l s) (H.list k z) ≡ []
  of_other l k s z ne = dropped l k s z (both_false (eqb (rank z) (rank s)) (eqb k l) (λ e. absurd (ne (eqb-true k l e))))

  elsewhere : (l : ℕ) (s : Stage) (k : ℕ) → k ≢ l → filter (on l s) (rows_on H k) ≡ []
  elsewhere l s k ne =
      four_are l k s [] [] [] [] (of_other l k s Queue ne) (of_other l k s Buffer ne) (of_other l k s Wait ne) (of_other l k s Bay ne)

  here : (l : ℕ) (s : Stage) → filter (on l s) (rows_on H l) ≡ H.list l s
  here l Queue =
      four_are l l Queue (H.list l Queue) [] [] [] (kept l Queue) (dropped l l Queue Buffer refl) (dropped l l Queue Wait refl)
      (dropped l l Queue Bay refl) ∙ append-nil (H.list l Queue)
  here l Buffer =
      four_are l l Buffer [] (H.list l Buffer) [] [] (dropped l l Buffer Queue refl) (kept l Buffer) (dropped l l Buffer Wait refl)
      (dropped l l Buffer Bay refl) ∙ append-nil (H.list l Buffer)
  here l Wait =
      four_are l l Wait [] [] (H.list l Wait) [] (dropped l l Wait Queue refl) (dropped l l Wait Buffer refl) (kept l Wait)
      (dropped l l Wait Bay refl) ∙ append-nil (H.list l Wait)
  here l Bay =
      four_are l l Bay [] [] [] (H.list l Bay) (dropped l l Bay Queue refl) (dropped l l Bay Buffer refl) (dropped l l Bay Wait refl)
      (kept l Bay)

  lists : (l : ℕ) (s : Stage) → H.list l s ≡ at l s V
  unfolding own_world
  lists l s =
      let n = length S.links in
      let f : ℕ → List Row = λ k. filter (on l s) (rows_on H k) in
      let all : at l s V ≡ flat_map f (below n) = filter_flat (on l s) (rows_on H) (below n) in
      elim (cases_lt l n) [
        | inl lt ↦ sym (all ∙ flat_one f l 0 n (elsewhere l s) (omega arith) (omega arith) ∙ here l s)
        | inr ge ↦ known.links l s ge ∙ sym (all ∙ flat_past f l 0 n (elsewhere l s) (omega arith))
      ]

  -- PERSONS AND CREDITS
  pub one_person : (i : ℕ) → person_of i V ≡ or_nobody (H.person i)
  unfolding own_world
  one_person i =
      let n = length S.persons in
      let f : ℕ → Person = λ k. or_nobody (H.person k) in
      let many = mapped_length f n in
      elim (cases_lt i n) [
        | inl lt ↦ mapped_at f nobody 0 n i lt ∙ (let e : 0 + i ≡ i = omega arith in ap f e)
        | inr ge ↦ get_or_past (map f (below n)) i nobody (omega arith) ∙ sym (ap or_nobody (known.persons i ge))
      ]

  has_or_not : (o : Option Person) → o ≡ mine (is_some o) (or_nobody o)
  has_or_not None = refl
  has_or_not (Some P) = refl

  lacks : (o : Option Person) → is_some o ≡ false → or_nobody o ≡ nobody
  lacks None e = refl
  lacks (Some P) e = absurd (cc)

  one_credit : (l : ℕ) → l < length S.links → H.credit l ≡ credit_of l V
  unfolding own_world
  one_credit l lt = let e : 0 + l ≡ l = omega arith in sym (mapped_at H.credit 0 0 (length S.links) l lt ∙ ap H.credit e)

  is_there : (i : ℕ) → is_some (H.person i) ≡ true → i < length S.persons
  is_there i e =
      elim (cases_lt i (length S.persons)) [
        | inl lt ↦ lt
        | inr ge ↦ absurd (let z : false ≡ true = sym (ap (λ (o : Option Person). is_some o) (known.persons i ge)) ∙ e in cc)
      ]

  pub one_each : length V.persons ≡ length S.persons
  unfolding own_world
  one_each = mapped_length (λ k. or_nobody (H.person k)) (length S.persons)

  pub credits : length V.credits ≡ length S.links
  unfolding own_world
  credits = mapped_length H.credit (length S.links)

  world_of : IsWorldOf S (λ i. is_some (H.person i)) H V
  world_of = record {
    list = lists;
    credit = one_credit;
    person = λ i. has_or_not (H.person i) ∙ ap (mine (is_some (H.person i))) (sym (one_person i));
    there = is_there;
    one_each = one_each;
    credits = credits;
  }

  -- PLACES
  is_of : ℕ → Hole → Bool
  is_of m x = eqb x.link m

  all_of : (m n : ℕ) (ss : List ℕ) → n ≡ m → Each (λ (x : Hole). is_of m x ≡ true) (map (hole n) ss)
  unfolding is_of
  all_of m n [] e = tt
  all_of m n (s ∷ ss) e = (eq-eqb n m e, all_of m n ss e)

  none_of : (m n : ℕ) (ss : List ℕ) → n ≢ m → Each (λ (x : Hole). is_of m x ≡ false) (map (hole n) ss)
  unfolding is_of
  none_of m n [] ne = tt
  none_of m n (s ∷ ss) ne = (ne_eqb n m ne, none_of m n ss ne)

  seconds_of_holes : (m : ℕ) (ss : List ℕ) → map (λ (x : Hole). x.second) (map (hole m) ss) ≡ ss
  seconds_of_holes m [] = refl
  seconds_of_holes m (s ∷ ss) = ap (λ (xs : List ℕ). s ∷ xs) (seconds_of_holes m ss)

  pub holes_are : (m : ℕ) → m < length S.links → holes_at m V ≡ H.holes m ++ replicate (H.rows m - length (H.list m Queue)) t
  unfolding own_world is_of
  holes_are m lt =
      let n = length S.links in
      let ss : ℕ → List ℕ = λ k. H.holes k ++ replicate (H.rows k - length (H.list k Queue)) t in
      let f : ℕ → List Hole = λ k. filter (is_of m) (map (hole k) (ss k)) in
      ap (map (λ (x : Hole). x.second))
      (filter_flat (is_of m) (holes_on H t) (below n)
      ∙ flat_one f m 0 n (λ k ne. filter_none (is_of m) (map (hole k) (ss k)) (none_of m k (ss k) ne)) (omega arith) (omega arith)
      ∙ filter_all (is_of m) (map (hole m) (ss m)) (all_of m m (ss m) refl))
      ∙ seconds_of_holes m (ss m)

  no_holes : (m : ℕ) → length S.links ≤ m → holes_at m V ≡ []
  unfolding own_world is_of
  no_holes m ge =
      let n = length S.links in
      let ss : ℕ → List ℕ = λ k. H.holes k ++ replicate (H.rows k - length (H.list k Queue)) t in
      let f : ℕ → List Hole = λ k. filter (is_of m) (map (hole k) (ss k)) in
      ap (map (λ (x : Hole). x.second))
      (filter_flat (is_of m) (holes_on H t) (below n)
      ∙ flat_past f m 0 n (λ k ne. filter_none (is_of m) (map (hole k) (ss k)) (none_of m k (ss k) ne)) (omega arith))

  hole_from : (n : ℕ) (speed : Option ℕ) → 0 < hole_seconds n speed
  unfolding hole_seconds
  hole_from n None = omega arith
  hole_from n (Some speed) = omega arith

  still_taken : (h k : ℕ) → 0 < h → in_force t h (replicate k t) ≡ k
  still_taken h zero lt = refl
  still_taken h (suc k) lt =
      let q = lt-ltb t (t + h) (omega arith) in
      let r = still_taken h k lt in
      simp q (ap suc r)

  force_more : (h : ℕ) (xs ys : List ℕ) → in_force t h (xs ++ ys) ≡ in_force t h xs + in_force t h ys
  force_more h xs ys =
      ap (λ (zs : List ℕ). length zs) (filter-append (λ (s : ℕ). nat_lt t (s + h)) xs ys)
      ∙ length-append (filter (λ (s : ℕ). nat_lt t (s + h)) xs) (filter (λ (s : ℕ). nat_lt t (s + h)) ys)

  taken : (m : ℕ) → begins_in S own m ≡ p → taken_here S t H m ≡ taken_at S t m V
  taken m b =
      let h = hole_of S m in
      let some : 0 < h = hole_from (link_row S m).length S.settings.hole_speed in
      let queue = ap (λ (rs : List Row). length rs) (lists m Queue) in
      elim (cases_lt m (length S.links)) [
        | inl lt ↦
            let k = H.rows m - length (H.list m Queue) in
            let le = known.queue m b in
            let e = ap (in_force t h) (holes_are m lt) ∙ force_more h (H.holes m) (replicate k t) in
            let f = still_taken h k some in
            omega arith
        | inr ge ↦
            let r = known.rows m ge in
            let a = ap (in_force t h) (known.holes m ge) in
            let q = ap (λ (rs : List Row). length rs) (known.links m Queue ge) in
            let e = ap (in_force t h) (no_holes m ge) in
            omega arith
      ]

  pub made : IsOwnWorld S own p t (λ i. is_some (H.person i)) H V
  made = record {
    world = world_of;
    taken = taken;
    nowhere = λ i e. one_person i ∙ lacks (H.person i) e;
  }
