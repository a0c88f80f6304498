-- The places of links once their vehicles left, slot by slot.
use Rattle.traffic.proofs.Common.{◌≡◌, ◌≢◌, ℕ, ◌+◌, ◌-◌, ◌<◌, Bool, true, false, List, [], ◌∷◌, ◌++◌, ◌∙◌, ap, refl, sym, subst, arith, inl, inr}
use Rattle.traffic.proofs.Common.{cases_Bool, eqb, eqb-true, eqb-false, eq-eqb, ne_eqb, true≢false, length, replicate, Setup, hole_of, Some, Option}
use Rattle.traffic.specs.declared.node_views.OutLink.{OutLink}
use Rattle.calendar.specs.Due.{AreIn}
use Rattle.parts.specs.Owners.{Owner}
use Rattle.queue_link.specs.Links.{LinkView}
use Rattle.node_seconds.specs.Networks.{is_among, AreOnce}
use Rattle.part_places.specs.{Taking.Taking, Taking.AreTakenOf, Taking.begins_here, Taking.still, Taking.times, declared.places.Places.Places}
use Rattle.law_parts_of_days.specs.Settling.{link_at, queued_in}
use Rattle.part_seconds.specs.Settling.{left_one, left_all, AreFew, AreApart}

-- PLACES THAT ARE TAKEN ALIKE
pub record AreAlikeOf (begins : ℕ → Bool) (count : ℕ) (T U : Taking) : Type 0 where
  pub storage : (m : ℕ) → m < count → begins m ≡ true → U.storage m ≡ T.storage m
  pub seconds : (m : ℕ) → m < count → begins m ≡ true → U.seconds m ≡ T.seconds m
  pub queued : (m : ℕ) → m < count → begins m ≡ true → U.queued m ≡ T.queued m
  pub frees : (m : ℕ) → m < count → begins m ≡ true → U.frees m ≡ T.frees m

place : ℕ → ℕ → ℕ → Option OutLink
place n s k = Some (record { taken = n; storage = s; seconds = k })

pub taken_alike : (begins : ℕ → Bool) (count end t : ℕ) (T U : Taking) (P : Places) → AreAlikeOf begins count T U
    → AreTakenOf begins count end t T P → AreTakenOf begins count end t U P
unfolding place
taken_alike begins count end t T U P a h = record {
  places = λ m lt b.
      h.places m lt b
      ∙ ap (λ (n : ℕ). place (n + still t (T.frees m)) (T.storage m) (T.seconds m)) (sym (a.queued m lt b))
      ∙ ap (λ (fs : List ℕ). place (U.queued m + still t fs) (T.storage m) (T.seconds m)) (sym (a.frees m lt b))
      ∙ ap (λ (n : ℕ). place (U.queued m + still t (U.frees m)) n (T.seconds m)) (sym (a.storage m lt b))
      ∙ ap (λ (n : ℕ). place (U.queued m + still t (U.frees m)) (U.storage m) n) (sym (a.seconds m lt b));
  holes = λ m lt b. h.holes m lt b ∙ ap (λ (fs : List ℕ). still t fs) (sym (a.frees m lt b));
  freed = λ m u lt b from to. h.freed m u lt b from to ∙ ap (λ (fs : List ℕ). times u fs) (sym (a.frees m lt b));
}

-- AMONG SLOTS
pub among_first : (k : ℕ) (ks : List ℕ) → is_among k (k ∷ ks) ≡ true
among_first k ks = let e = eq-eqb k k refl in rw e refl

pub among_later : (k j : ℕ) (ks : List ℕ) → is_among k ks ≡ true → is_among k (j ∷ ks) ≡ true
among_later k j ks a = elim (cases_Bool (eqb j k)) [ inl q ↦ rw q refl | inr q ↦ rw q a ]

pub in_among : (count i : ℕ) (ks : List ℕ) → AreIn count ks → is_among i ks ≡ true → i < count
in_among count i [] h a = absurd (true≢false (sym a))
in_among count i (k ∷ ks) h a =
    elim (cases_Bool (eqb k i)) [
      | inl q ↦ let e : k ≡ i = eqb-true k i q in subst (λ (n : ℕ). n < count) e h.0
      | inr q ↦ in_among count i ks h.1 (let f = (rw q at a) in f)
    ]

-- ONE LINK
-- how many vehicles are in the queue of a link, and when places of it are free
pub record IsLike (T U : Taking) (m : ℕ) : Type 0 where
  pub queued : U.queued m ≡ T.queued m
  pub frees : U.frees m ≡ T.frees m

-- once its queue has so many
pub record HasQueue (t h n : ℕ) (T U : Taking) (m : ℕ) : Type 0 where
  pub queued : U.queued m ≡ n
  pub frees : U.frees m ≡ T.frees m ++ replicate (T.queued m - n) (t + h)

module _ (S : Setup) (own : Owner) (p t : ℕ) (links : List LinkView) where
  abbrev one : ℕ → Taking → Taking
  one k T = left_one S own p t links k T

  abbrev all : List ℕ → Taking → Taking
  all ks T = left_all S own p t links ks T

  one_other : (k m : ℕ) (T : Taking) → link_at links k ≢ m → IsLike T (one k T) m
  one_other k m T ne =
      let f : eqb m (link_at links k) ≡ false = ne_eqb m (link_at links k) (λ q. ne (sym q)) in
      elim (cases_Bool (begins_here S own p (link_at links k))) [
        | inl e ↦ record { queued = (rw (e, f) refl); frees = (rw (e, f) refl) }
        | inr e ↦ record { queued = (rw e refl); frees = (rw e refl) }
      ]

  one_here : (k m : ℕ) (T : Taking) → link_at links k ≡ m → begins_here S own p m ≡ true
      → HasQueue t (hole_of S m) (queued_in links k) T (one k T) m
  one_here k m T is b =
      let e : begins_here S own p (link_at links k) ≡ true = ap (begins_here S own p) is ∙ b in
      let f : eqb m (link_at links k) ≡ true = eq-eqb m (link_at links k) (sym is) in
      record {
        queued = (rw (e, f) refl);
        frees = (rw (e, f) (ap (λ (l : ℕ). T.frees m ++ replicate (T.queued m - queued_in links k) (t + hole_of S l)) is));
      }

  pub one_few : AreApart links → (k : ℕ) (T : Taking) → k < length links → AreFew S own p links T → AreFew S own p links (one k T)
  one_few apart k T lt few = λ j jlt b.
      elim (cases_Bool (eqb (link_at links k) (link_at links j))) [
        | inl q ↦
            let e : link_at links k ≡ link_at links j = eqb-true (link_at links k) (link_at links j) q in
            let same : k ≡ j = apart k j lt jlt e in
            let h = (one_here k (link_at links j) T e b).queued in
            let n = ap (λ (i : ℕ). queued_in links i) same in
            omega arith
        | inr q ↦
            let h = (one_other k (link_at links j) T (eqb-false (link_at links k) (link_at links j) q)).queued in
            let f = few j jlt b in
            omega arith
      ]

  -- the numbers of a link stay
  one_storage : (k m : ℕ) (T : Taking) → (one k T).storage m ≡ T.storage m
  one_storage k m T = elim (cases_Bool (begins_here S own p (link_at links k))) [ inl e ↦ rw e refl | inr e ↦ rw e refl ]

  one_seconds : (k m : ℕ) (T : Taking) → (one k T).seconds m ≡ T.seconds m
  one_seconds k m T = elim (cases_Bool (begins_here S own p (link_at links k))) [ inl e ↦ rw e refl | inr e ↦ rw e refl ]

  -- ALL OF THEM
  pub all_storage : (ks : List ℕ) (m : ℕ) (T : Taking) → (all ks T).storage m ≡ T.storage m
  unfolding left_all
  all_storage [] m T = refl
  all_storage (k ∷ ks) m T = all_storage ks m (one k T) ∙ one_storage k m T

  pub all_seconds : (ks : List ℕ) (m : ℕ) (T : Taking) → (all ks T).seconds m ≡ T.seconds m
  unfolding left_all
  all_seconds [] m T = refl
  all_seconds (k ∷ ks) m T = all_seconds ks m (one k T) ∙ one_seconds k m T

  pub all_last : (ks : List ℕ) (k : ℕ) (T : Taking) → all (ks ++ k ∷ []) T ≡ one k (all ks T)
  unfolding left_all
  all_last [] k T = refl
  all_last (j ∷ ks) k T = all_last ks k (one j T)

  pub all_none : (T : Taking) → all [] T ≡ T
  unfolding left_all
  all_none T = refl

  pub all_few : AreApart links → (ks : List ℕ) (T : Taking) → AreIn (length links) ks → AreFew S own p links T → AreFew S own p links (all ks T)
  unfolding left_all
  all_few apart [] T there few = few
  all_few apart (k ∷ ks) T there few = all_few apart ks (one k T) there.1 (one_few apart k T there.0 few)

  pub all_other : (ks : List ℕ) (m : ℕ) (T : Taking) → ((k : ℕ) → is_among k ks ≡ true → link_at links k ≢ m) → IsLike T (all ks T) m
  unfolding left_all
  all_other [] m T h = record { queued = refl; frees = refl }
  all_other (k ∷ ks) m T h =
      let a = one_other k m T (h k (among_first k ks)) in
      let r = all_other ks m (one k T) (λ j e. h j (among_later j k ks e)) in
      record { queued = r.queued ∙ a.queued; frees = r.frees ∙ a.frees }

  pub all_here : AreApart links → (ks : List ℕ) (m k : ℕ) (T : Taking) → AreIn (length links) ks → AreOnce ks → k < length links
      → is_among k ks ≡ true → link_at links k ≡ m → begins_here S own p m ≡ true
      → HasQueue t (hole_of S m) (queued_in links k) T (all ks T) m
  unfolding left_all
  all_here apart [] m k T there once lt a is b = absurd (true≢false (sym a))
  all_here apart (j ∷ js) m k T there once lt a is b =
      elim (cases_Bool (eqb j k)) [
        | inl q ↦
            let e : j ≡ k = eqb-true j k q in
            let at_j : link_at links j ≡ m = ap (link_at links) e ∙ is in
            let h = one_here j m T at_j b in
            let r = all_other js m (one j T) (λ i among same. (
            let there_i = in_among (length links) i js there.1 among in
            let i_is : i ≡ j = apart i j there_i there.0 (same ∙ sym at_j) in
            true≢false (sym among ∙ ap (λ (n : ℕ). is_among n js) i_is ∙ once.0))) in
            let n : queued_in links j ≡ queued_in links k = ap (λ (i : ℕ). queued_in links i) e in
            record {
              queued = r.queued ∙ h.queued ∙ n;
              frees = r.frees ∙ h.frees ∙ ap (λ (i : ℕ). T.frees m ++ replicate (T.queued m - i) (t + hole_of S m)) n;
            }
        | inr q ↦
            let ne : link_at links j ≢ m = λ e. eqb-false j k q (apart j k there.0 lt (e ∙ sym is)) in
            let o = one_other j m T ne in
            let r = all_here apart js m k (one j T) there.1 once.1 lt (let f = (rw q at a) in f) is b in
            record {
              queued = r.queued;
              frees = r.frees
                  ∙ ap (λ (n : ℕ). (one j T).frees m ++ replicate (n - queued_in links k) (t + hole_of S m)) o.queued
                  ∙ ap (λ (fs : List ℕ). fs ++ replicate (T.queued m - queued_in links k) (t + hole_of S m)) o.frees;
            }
      ]
