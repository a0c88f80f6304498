-- The places of links once a partition heard from a neighbour how many vehicles left their queues.
use Rattle.traffic.proofs.Common.{◌≡◌, ℕ, zero, suc, ◌+◌, ◌-◌, ◌<◌, ◌≤◌, Bool, true, false, List, [], ◌∷◌, ◌++◌, ◌∙◌, ap, refl, sym, subst, arith, inl, inr}
use Rattle.traffic.proofs.Common.{cases_Bool, eqb, eqb-true, eqb-false, eq-eqb, ne_eqb, append-nil, append_assoc, length, length-append, map, map-append}
use Rattle.traffic.proofs.Common.{flat_map, flat_map-append, replicate, sum_by, sum_by-cons, Option, Setup, hole_of}
use Rattle.std.{proofs.lemmas.List.replicate-append-replicate, specs.List.AllByRecursion as Each}
use Rattle.parts.specs.Owners.{Owner, owner_of, begins_in, leads, near, lag}
use Rattle.parts.specs.Parts.{Freed, Parcel as Sent, held, out}
use Rattle.law_partitions.{proofs.History.length_copies, proofs.Lags.lag-up, specs.Alone.freed_in, specs.Alone.freed_of, specs.Alone.given}
use Rattle.law_parcels.specs.Hearing.{heard_holes, IsReadyBy, IsBetween}
use Rattle.part_places.specs.{Taking.Taking, Taking.AreTakenOf, Taking.begins_here, declared.places.Places.Places}
use Rattle.part_seconds.{proofs.Vacated.taken_alike, specs.Contents.freed_row, specs.Freed.heard, specs.Freed.heard_all, specs.Freed.CanHearAll}
use Rattle.part_seconds.specs.declared.contents.{Contents.Contents, FreedPlaces.FreedPlaces}
use Rattle.parted_day.{proofs.Borders.other_of, proofs.Borders.leads_over, proofs.Borders.given_is, specs.Absorbed.IsRight, specs.Absorbed.places_heard}

-- NUMBERS
less_both : (x y z a b c : ℕ) → x ≡ y - a → y ≡ z - b → c ≡ b + a → x ≡ z - c
less_both x y z a b c e f g = omega arith

first_less : (l r a q n : ℕ) → l ≤ q → l ≡ r + a → r ≡ n → n ≤ q
first_less l r a q n le e f = omega arith

few_less : (l r a q n : ℕ) → l ≡ r + a → l ≤ q → n ≡ q - r → a ≤ n
few_less l r a q n e le f = omega arith

back_less : (q r : ℕ) → r ≤ q → q - (q - r) ≡ r
back_less q r le = omega arith

copies_on : (h k s : ℕ) → map (λ (x : ℕ). x + h) (replicate k s) ≡ replicate k (s + h)
copies_on h zero s = refl
copies_on h (suc k) s = ap (λ (xs : List ℕ). (s + h) ∷ xs) (copies_on h k s)

-- WHAT LEFT
-- how many of these left the queue of link m
abbrev pub left_of : ℕ → List FreedPlaces → ℕ
left_of m fs = sum_by (freed_in m) (map freed_row fs)

left_cons : (m : ℕ) (f : FreedPlaces) (fs : List FreedPlaces) → left_of m (f ∷ fs) ≡ freed_in m (freed_row f) + left_of m fs
left_cons m f fs = sum_by-cons (freed_in m) (freed_row f) (map freed_row fs)

left_here : (f : FreedPlaces) → freed_in f.link (freed_row f) ≡ f.count
left_here f = let e = eq-eqb f.link f.link refl in rw e refl

-- what is heard of a link that begins here, where none of its places is free before second t
pub record IsHeardOf (S : Setup) (begins : ℕ → Bool) (t s : ℕ) (f : FreedPlaces) : Type 0 where
  pub there : f.link < length S.links
  pub here : begins f.link ≡ true
  pub still : t ≤ s + hole_of S f.link

module _ (S : Setup) (s : ℕ) where
  -- ONE LINK
  one_queued : (m : ℕ) (f : FreedPlaces) (T : Taking) → (heard S s f T).queued m ≡ T.queued m - freed_in m (freed_row f)
  one_queued m f T =
      elim (cases_Bool (eqb m f.link)) [
        | inl e ↦
            let same : m ≡ f.link = eqb-true m f.link e in
            let g : eqb f.link m ≡ true = eq-eqb f.link m (sym same) in
            rw (e, g) (ap (λ (n : ℕ). T.queued n - f.count) (sym same))
        | inr e ↦
            let g : eqb f.link m ≡ false = ne_eqb f.link m (λ z. eqb-false m f.link e (sym z)) in
            rw (e, g) (omega arith)
      ]

  one_frees : (m : ℕ) (f : FreedPlaces) (T : Taking) → f.count ≤ T.queued f.link
      → (heard S s f T).frees m ≡ T.frees m ++ replicate (freed_in m (freed_row f)) (s + hole_of S m)
  one_frees m f T few =
      elim (cases_Bool (eqb m f.link)) [
        | inl e ↦
            let same : m ≡ f.link = eqb-true m f.link e in
            let g : eqb f.link m ≡ true = eq-eqb f.link m (sym same) in
            let gone : T.queued m - (T.queued f.link - f.count) ≡ f.count
            = ap (λ (n : ℕ). T.queued n - (T.queued f.link - f.count)) same ∙ back_less (T.queued f.link) f.count few in
            rw (e, g) (ap (λ (n : ℕ). T.frees m ++ replicate n (s + hole_of S f.link)) gone
            ∙ ap (λ (l : ℕ). T.frees m ++ replicate f.count (s + hole_of S l)) (sym same))
        | inr e ↦
            let g : eqb f.link m ≡ false = ne_eqb f.link m (λ z. eqb-false m f.link e (sym z)) in
            rw (e, g) (sym (append-nil (T.frees m)))
      ]

  -- ALL OF THEM
  all_storage : (m : ℕ) (fs : List FreedPlaces) (T : Taking) → (heard_all S s fs T).storage m ≡ T.storage m
  unfolding heard_all
  all_storage m [] T = refl
  all_storage m (f ∷ fs) T = all_storage m fs (heard S s f T)

  all_seconds : (m : ℕ) (fs : List FreedPlaces) (T : Taking) → (heard_all S s fs T).seconds m ≡ T.seconds m
  unfolding heard_all
  all_seconds m [] T = refl
  all_seconds m (f ∷ fs) T = all_seconds m fs (heard S s f T)

  all_queued : (m : ℕ) (fs : List FreedPlaces) (T : Taking) → (heard_all S s fs T).queued m ≡ T.queued m - left_of m fs
  unfolding heard_all
  all_queued m [] T = (let e : T.queued m ≡ T.queued m - 0 = omega arith in e)
  all_queued m (f ∷ fs) T =
      let U = heard S s f T in
      less_both ((heard_all S s fs U).queued m) (U.queued m) (T.queued m) (left_of m fs) (freed_in m (freed_row f)) (left_of m (f ∷ fs))
      (all_queued m fs U) (one_queued m f T) (left_cons m f fs)

  module _ (begins : ℕ → Bool) (t : ℕ) where
    -- of each link that begins here no more vehicles left than are in its queue
    abbrev AreEnough : List FreedPlaces → Taking → Type 0
    AreEnough fs T = (m : ℕ) → begins m ≡ true → left_of m fs ≤ T.queued m

    first_few : (f : FreedPlaces) (fs : List FreedPlaces) (T : Taking) → begins f.link ≡ true → AreEnough (f ∷ fs) T → f.count ≤ T.queued f.link
    first_few f fs T here few =
        first_less (left_of f.link (f ∷ fs)) (freed_in f.link (freed_row f)) (left_of f.link fs) (T.queued f.link) f.count
        (few f.link here)
        (left_cons f.link f fs) (left_here f)

    next_few : (f : FreedPlaces) (fs : List FreedPlaces) (T : Taking) → AreEnough (f ∷ fs) T → AreEnough fs (heard S s f T)
    next_few f fs T few = λ m b.
        few_less (left_of m (f ∷ fs)) (freed_in m (freed_row f)) (left_of m fs) (T.queued m) ((heard S s f T).queued m)
        (left_cons m f fs) (few m b) (one_queued m f T)

    all_frees : (m : ℕ) (fs : List FreedPlaces) (T : Taking) → Each (IsHeardOf S begins t s) fs → AreEnough fs T
        → (heard_all S s fs T).frees m ≡ T.frees m ++ replicate (left_of m fs) (s + hole_of S m)
    unfolding heard_all
    all_frees m [] T are few = sym (append-nil (T.frees m))
    all_frees m (f ∷ fs) T are few =
        let u = s + hole_of S m in
        let r = freed_in m (freed_row f) in
        let n = left_of m fs in
        all_frees m fs (heard S s f T) are.1 (next_few f fs T few)
        ∙ ap (λ (xs : List ℕ). xs ++ replicate n u) (one_frees m f T (first_few f fs T are.0.here few))
        ∙ append_assoc (T.frees m) (replicate r u) (replicate n u)
        ∙ ap (λ (xs : List ℕ). T.frees m ++ xs) (replicate-append-replicate r n u)
        ∙ ap (λ (k : ℕ). T.frees m ++ replicate k u) (sym (left_cons m f fs))

    all_heard : (fs : List FreedPlaces) (T : Taking) → Each (IsHeardOf S begins t s) fs → AreEnough fs T → CanHearAll S begins t s fs T
    unfolding CanHearAll
    all_heard [] T are few = tt
    all_heard (f ∷ fs) T are few = (
      record { there = are.0.there; here = are.0.here; queued = first_few f fs T are.0.here few; still = are.0.still },
      all_heard fs (heard S s f T) are.1 (next_few f fs T few),
    )

-- OF A PARCEL
each_row : (P : Freed → Type 0) (Q : FreedPlaces → Type 0) → ((f : FreedPlaces) → P (freed_row f) → Q f) → (fs : List FreedPlaces)
    → Each P (map freed_row fs) → Each Q fs
each_row P Q g [] h = tt
each_row P Q g (f ∷ fs) h = (g f h.0, each_row P Q g fs h.1)

-- p knows of as many vehicles as all its neighbours tell that left
pub few_heard : (S : Setup) (own : Owner) (p t : ℕ) (ns : List ℕ) → IsReadyBy S own p t ns
    → (m : ℕ) → begins_here S own p m ≡ true → length (heard_holes S own p t ns m) ≤ (held S own p t).rows m
few_heard S own p t ns becomes m b = let r = becomes.rows m (eqb-true (begins_in S own m) p b) in omega arith

module _ (S : Setup) (own : Owner) (p q s t : ℕ) (all ns rest : List ℕ) (T : Taking) (x : Contents) (right : IsRight S own q p s x)
    (other : near S own q p ≡ true) (due : t ≡ s + lag S own q p) (between : IsBetween S own q p s) (split : all ≡ ns ++ q ∷ rest)
    (few : (m : ℕ) → begins_here S own p m ≡ true → length (heard_holes S own p t all m) ≤ T.queued m) where
  abbrev of : ℕ → ℕ → List ℕ
  of m r = replicate (freed_of m (given S own p t r)) (t - lag S own r p)

  abbrev before : Taking
  before = places_heard S own p t ns T

  abbrev next : Taking
  next = places_heard S own p t (ns ++ q ∷ []) T

  freed_is : map freed_row x.freed ≡ (out S own q p s).freed
  freed_is = ap (λ (y : Sent). y.freed) right

  -- so many holes of second s
  left_is : (m : ℕ) → left_of m x.freed ≡ freed_of m (given S own p t q)
  left_is m =
      ap (λ (fs : List Freed). sum_by (freed_in m) fs) freed_is
      ∙ sym (ap (λ (o : Option Sent). freed_of m o) (given_is S own p q s t other due))

  holes_of : (m : ℕ) → of m q ≡ replicate (left_of m x.freed) s
  holes_of m =
      let second : t - lag S own q p ≡ s = omega arith in
      ap (λ (u : ℕ). replicate (freed_of m (given S own p t q)) u) second ∙ ap (λ (n : ℕ). replicate n s) (sym (left_is m))

  many_of : (m : ℕ) → length (of m q) ≡ left_of m x.freed
  many_of m = ap (λ (hs : List ℕ). length hs) (holes_of m) ∙ length_copies (left_of m x.freed) s

  all_more : (m : ℕ) → heard_holes S own p t all m ≡ heard_holes S own p t ns m ++ (of m q ++ heard_holes S own p t rest m)
  all_more m = ap (flat_map (of m)) split ∙ flat_map-append (of m) ns (q ∷ rest)

  next_more : (m : ℕ) → heard_holes S own p t (ns ++ q ∷ []) m ≡ heard_holes S own p t ns m ++ of m q
  next_more m =
      flat_map-append (of m) ns (q ∷ []) ∙ ap (λ (hs : List ℕ). heard_holes S own p t ns m ++ hs) (append-nil (of m q))

  enough : (m : ℕ) → begins_here S own p m ≡ true → left_of m x.freed ≤ before.queued m
  enough m b =
      let a = ap (λ (hs : List ℕ). length hs) (all_more m) in
      let c = length-append (heard_holes S own p t ns m) (of m q ++ heard_holes S own p t rest m) in
      let d = length-append (of m q) (heard_holes S own p t rest m) in
      let e = many_of m in
      let f = few m b in
      omega arith

  heard_of : (f : FreedPlaces) → (leads S own p q f.link ≡ true) × (f.link < length S.links) → IsHeardOf S (begins_here S own p) t s f
  heard_of f h =
      let w = leads_over S own p q f.link (λ (e : p ≡ q). other_of S own p q other (sym e)) h.0 in
      let up = lag-up S own f.link w.over in
      let lags : lag S own (owner_of S own f.link) (begins_in S own f.link) ≡ lag S own q p
      = ap (λ (a : ℕ). lag S own a (begins_in S own f.link)) w.ends ∙ ap (λ (b : ℕ). lag S own q b) w.begins in
      record { there = h.1; here = eq-eqb (begins_in S own f.link) p w.begins; still = omega arith }

  are_heard_of : Each (IsHeardOf S (begins_here S own p) t s) x.freed
  are_heard_of =
      let P : Freed → Type 0 = λ f. (leads S own p q f.link ≡ true) × (f.link < length S.links) in
      each_row P (IsHeardOf S (begins_here S own p) t s) heard_of x.freed
      (subst (λ (fs : List Freed). Each P fs) (sym freed_is) between.freed_places)

  pub can_hear : CanHearAll S (begins_here S own p) t s x.freed before
  can_hear = all_heard S s (begins_here S own p) t x.freed before are_heard_of enough

  next_queued : (m : ℕ) → next.queued m ≡ (heard_all S s x.freed before).queued m
  next_queued m =
      let a = ap (λ (hs : List ℕ). length hs) (next_more m) in
      let b = length-append (heard_holes S own p t ns m) (of m q) in
      let c = many_of m in
      sym (less_both ((heard_all S s x.freed before).queued m) (before.queued m) (T.queued m) (left_of m x.freed)
      (length (heard_holes S own p t ns m)) (length (heard_holes S own p t (ns ++ q ∷ []) m)) (all_queued S s m x.freed before) refl
      (omega arith))

  next_frees : (m : ℕ) → next.frees m ≡ (heard_all S s x.freed before).frees m
  next_frees m =
      let h = hole_of S m in
      let f : ℕ → ℕ = λ u. u + h in
      let hs = heard_holes S own p t ns m in
      let n = left_of m x.freed in
      ap (λ (us : List ℕ). T.frees m ++ map f us) (next_more m)
      ∙ ap (λ (us : List ℕ). T.frees m ++ us) (map-append f hs (of m q))
      ∙ ap (λ (us : List ℕ). T.frees m ++ (map f hs ++ us)) (ap (map f) (holes_of m) ∙ copies_on h n s)
      ∙ sym (append_assoc (T.frees m) (map f hs) (replicate n (s + h)))
      ∙ sym (all_frees S s (begins_here S own p) t m x.freed before are_heard_of enough)

  pub places_next : (end count : ℕ) (P : Places) → AreTakenOf (begins_here S own p) count end t (heard_all S s x.freed before) P
      → AreTakenOf (begins_here S own p) count end t next P
  places_next end count P h =
      taken_alike (begins_here S own p) count end t (heard_all S s x.freed before) next P (record {
        storage = λ m lt b. sym (all_storage S s m x.freed before);
        seconds = λ m lt b. sym (all_seconds S s m x.freed before);
        queued = λ m lt b. next_queued m;
        frees = λ m lt b. next_frees m;
      }) h
