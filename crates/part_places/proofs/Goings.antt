-- Vehicles leave the queue of a link, whose places come free later.
use Rattle.std.proofs.Common.{◌≡◌, ◌≢◌, ℕ, ◌+◌, ◌-◌, ◌<◌, ◌≤◌, Bool, true, List, ◌++◌, refl, ap, sym, ◌∙◌, subst, eqb, inl, inr, arith}
use Rattle.std.specs.Prelude.{nat_le, replicate, ◌==◌, if◌then◌else◌, Some}
use Rattle.traffic.specs.declared.node_views.OutLink.{OutLink}
use Rattle.std.proofs.lemmas.Bool.{cases_Bool, eqb-true, eqb-false, eq-eqb, ne_eqb, le-leb}
use Rattle.calendar.specs.Due.{due_at}
use Rattle.node_move.specs.{Entries.SpaceRows, Entries.holes_put, Spaces.places_in, Spaces.holes_in}
use Rattle.part_places.proofs.{Counting.count_more, Counting.count_same, Freed.with_taken}
use Rattle.part_places.specs.{Taking.Taking, Taking.AreTakenOf, Taking.still, Taking.times, Taking.taken_in, Taking.later, declared.places.Places.Places}

-- so many vehicles are in the queue of a link: its places that are taken and are no holes
pub queued_is : (begins : ℕ → Bool) (count end t l taken holes : ℕ) (T : Taking) (P : Places) → l < count → begins l ≡ true
    → taken ≡ taken_in (places_in P.space l) → holes ≡ holes_in P.space l → AreTakenOf begins count end t T P → taken - holes ≡ T.queued l
queued_is begins count end t l taken holes T P there here e f h =
    let a = e ∙ ap taken_in (h.places l there here) in
    let b = f ∙ h.holes l there here in
    omega arith

-- so many holes of a link that has places
pub holes_now : (P Q : SpaceRows) (l k : ℕ) (p : OutLink) → places_in P l ≡ Some p
    → ((m : ℕ) → holes_in Q m ≡ (if m == l then holes_put k (places_in P m) else holes_in P m))
    → (m : ℕ) → holes_in Q m ≡ (if m == l then k else holes_in P m)
holes_now P Q l k p is h m =
    h m
    ∙ elim (cases_Bool (m == l)) [
      | inl q ↦ rw q (ap (λ (j : ℕ). holes_put k (places_in P j)) (eqb-true m l q) ∙ ap (holes_put k) is)
      | inr q ↦ rw q refl
    ]

still_more : (t s k : ℕ) (us : List ℕ) → t ≤ s → still t (us ++ replicate k s) ≡ still t us + k
still_more t s k us le = count_more (λ (u : ℕ). nat_le t u) k s us (le-leb t s le)

times_more : (m n k : ℕ) (ns : List ℕ) → n ≡ m → times m (ns ++ replicate k n) ≡ times m ns + k
times_more m n k ns e = count_more (λ (x : ℕ). x == m) k n ns (eq-eqb n m e)

times_same : (m n k : ℕ) (ns : List ℕ) → n ≢ m → times m (ns ++ replicate k n) ≡ times m ns
times_same m n k ns ne = count_same (λ (x : ℕ). x == m) k n ns (ne_eqb n m ne)

module _ (begins : ℕ → Bool) (count end t l v second : ℕ) (T : Taking) (P Q : Places) (there : l < count) (here : begins l ≡ true)
    (few : v ≤ T.queued l) (soon : t ≤ second) (space : (m : ℕ) → places_in Q.space m ≡ places_in P.space m)
    (holes : (m : ℕ) → holes_in Q.space m ≡ (if m == l then holes_in P.space l + v else holes_in P.space m))
    (freed :
    (u : ℕ) → u < end → due_at u Q.freed ≡ (if u == second then due_at u P.freed ++ replicate v l else due_at u P.freed))
    (h : AreTakenOf begins count end t T P) where
  -- how many left, by the queue of a link that may be this one
  gone : ℕ → ℕ
  gone m = T.queued m - (T.queued l - v)

  are_gone : (m : ℕ) → m ≡ l → gone m ≡ v
  unfolding gone
  are_gone m e = let q = ap T.queued e in omega arith

  abbrev queue : ℕ → Bool → ℕ
  queue m b = if b then T.queued l - v else T.queued m

  abbrev frees : ℕ → Bool → List ℕ
  frees m b = if b then T.frees m ++ replicate (gone m) second else T.frees m

  as_many : (m : ℕ) → T.queued m + still t (T.frees m) ≡ queue m (eqb m l) + still t (frees m (eqb m l))
  as_many m =
      elim (cases_Bool (eqb m l)) [
        | inl e ↦
            let same = eqb-true m l e in
            let q = ap T.queued same in
            let g = are_gone m same in
            let more = still_more t second (gone m) (T.frees m) soon in
            subst (λ (b : Bool). T.queued m + still t (T.frees m) ≡ queue m b + still t (frees m b)) (sym e) (omega arith)
        | inr e ↦ subst (λ (b : Bool). T.queued m + still t (T.frees m) ≡ queue m b + still t (frees m b)) (sym e) refl
      ]

  one_more : (m : ℕ) → m < count → begins m ≡ true → holes_in Q.space m ≡ still t (frees m (eqb m l))
  one_more m in_count mine =
      let x : ℕ = holes_in P.space l + v in
      holes m
      ∙ elim (cases_Bool (eqb m l)) [
        | inl e ↦
            let same = eqb-true m l e in
            let g = are_gone m same in
            let b : holes_in P.space l ≡ still t (T.frees m) = h.holes l there here ∙ ap (λ (k : ℕ). still t (T.frees k)) (sym same) in
            let more = still_more t second (gone m) (T.frees m) soon in
            subst (λ (b : Bool). (if b then x else holes_in P.space m) ≡ still t (frees m b)) (sym e) (omega arith)
        | inr e ↦ subst (λ (b : Bool). (if b then x else holes_in P.space m) ≡ still t (frees m b)) (sym e) (h.holes m in_count mine)
      ]

  come_free : (m u : ℕ) → m < count → begins m ≡ true → t ≤ u → u < end → times m (due_at u Q.freed) ≡ times u (frees m (eqb m l))
  come_free m u in_count mine from to =
      let due = due_at u P.freed in
      let before = h.freed m u in_count mine from to in
      ap (times m) (freed u to)
      ∙ elim (cases_Bool (eqb u second)) [
        | inl d ↦
            let now = eqb-true u second d in
            subst (λ (z : Bool). times m (if z then due ++ replicate v l else due) ≡ times u (frees m (eqb m l))) (sym d)
            (elim (cases_Bool (eqb m l)) [
              | inl e ↦
                  let same = eqb-true m l e in
                  let g = are_gone m same in
                  let a = times_more m l v due (sym same) in
                  let b = times_more u second (gone m) (T.frees m) (sym now) in
                  subst (λ (b : Bool). times m (due ++ replicate v l) ≡ times u (frees m b)) (sym e) (omega arith)
              | inr e ↦
                  subst (λ (b : Bool). times m (due ++ replicate v l) ≡ times u (frees m b)) (sym e)
                  (times_same m l v due (λ q. eqb-false m l e (sym q)) ∙ before)
            ])
        | inr d ↦
            let later_on : second ≢ u = λ q. eqb-false u second d (sym q) in
            subst (λ (z : Bool). times m (if z then due ++ replicate v l else due) ≡ times u (frees m (eqb m l))) (sym d)
            (elim (cases_Bool (eqb m l)) [
              | inl e ↦
                  subst (λ (b : Bool). times m due ≡ times u (frees m b)) (sym e)
                  (before ∙ sym (times_same u second (gone m) (T.frees m) later_on))
              | inr e ↦ subst (λ (b : Bool). times m due ≡ times u (frees m b)) (sym e) before
            ])
      ]

  pub later_is : AreTakenOf begins count end t (later l (T.queued l - v) second T) Q
  unfolding gone with_taken
  later_is = record {
    places = λ m in_count mine.
        space m ∙ h.places m in_count mine ∙ ap (λ (k : ℕ). with_taken k m T) (as_many m);
    holes = one_more;
    freed = come_free;
  }
