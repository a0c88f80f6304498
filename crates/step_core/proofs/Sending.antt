-- What a partition puts into the wheels of its neighbours, one after the other.
use Rattle.std.proofs.Common.{◌≡◌, ◌≢◌, ℕ, zero, suc, ◌+◌, ◌<◌, ◌≤◌, List, [], ◌∷◌, ◌∙◌, length, get_or, set, ap, refl, sym, subst, arith}
use Rattle.std.proofs.lemmas.List.{get_or-set_same, get_or-set_other, get_or_default, length-set, set-get_or}
use mathlib.Core.Logic.{dite}
use native.Mathlib.Decide.{ℕ_discrete}
use Rattle.step_core.proofs.Putting.{put_nothing}
use Rattle.step_core.specs.{Exchanges.neighbour_at, Exchanges.HaveRoom, Exchanges.AreSent, Views.PartView, Views.Stays, Views.in_place, Wheels.due_in}
use Rattle.step_core.specs.{Wheels.lies, Wheels.IsNoted, Wheels.IsPut, declared.part.Border.Border, declared.wheel.Wheel.Wheel}

-- one of a list in which one is
one_of : {X : Type 0} (xs : List X) (k : ℕ) → k < length xs → X
one_of [] k lt = absurd (omega arith)
one_of (x ∷ xs) k lt = x

-- one neighbour more
module _ {R T P : Type 0} (nothing : P) (see : T → PartView P) (stands : R → T → Type 0) (t p : ℕ) (rows : List Border) (k : ℕ)
    (old now : List (Wheel P)) (before z : T) (have : HaveRoom nothing t p rows old)
    (places : length (see before).outbox ≡ length rows) (h : AreSent nothing see stands t p rows k old now before z)
    (lt : k < length rows) where
  abbrev q : ℕ
  q = neighbour_at rows k

  lesser : (j : ℕ) → j < k → neighbour_at rows j ≢ q
  lesser j l = λ e. absurd (let up = have.listed.ascend j k l lt in omega arith)

  -- its wheel is still there as it was
  there : q < length now
  there = let long = h.sent.long in let lies = have.there k lt in omega arith

  as_it_was : (e d : Wheel P) → get_or now q e ≡ get_or old q d
  as_it_was e d = h.sent.others q e lesser ∙ get_or_default old q e d (have.there k lt)

  place : k < length (see z).outbox
  place = let degree = h.sent.degree in omega arith

  pub sends_next : (e v : Wheel P) (y : T)
      → IsPut nothing (due_in (get_or now q e) t p) p (in_place nothing (see z).outbox k) (get_or now q e) v
      → (see y).outbox ≡ set (see z).outbox k nothing → (see y).inbox ≡ (see z).inbox → (see y).number ≡ (see z).number
      → (see y).seconds ≡ (see z).seconds → Stays stands z y
      → AreSent nothing see stands t p rows (k + 1) old (set now q v) before y
  sends_next e v y put outbox inbox number seconds stays =
      let g = h.sent in
      record {
        sent = record {
          long = length-set now q v ∙ g.long;
          degree = ap (λ (xs : List P). length xs) outbox ∙ length-set (see z).outbox k nothing ∙ g.degree;
          gone = λ j l. dite (ℕ_discrete j k)
              (λ e. subst (λ (i : ℕ). in_place nothing (see y).outbox i ≡ nothing) (sym e)
              (ap (λ (xs : List P). get_or xs k nothing) outbox ∙ get_or-set_same (see z).outbox k nothing nothing place))
              (λ ne. ap (λ (xs : List P). get_or xs j nothing) outbox ∙ get_or-set_other (see z).outbox k j nothing nothing ne
              ∙ g.gone j (omega arith));
          kept = λ j l. ap (λ (xs : List P). get_or xs j nothing) outbox
              ∙ get_or-set_other (see z).outbox k j nothing nothing (λ e. absurd (omega arith)) ∙ g.kept j (omega arith);
          sent = λ j d l. dite (ℕ_discrete j k)
              (λ f. subst (λ (i : ℕ). IsPut nothing (due_in (get_or old (neighbour_at rows i) d) t p) p
              (in_place nothing (see before).outbox i) (get_or old (neighbour_at rows i) d)
              (get_or (set now q v) (neighbour_at rows i) d)) (sym f)
              (subst (λ (u : Wheel P). IsPut nothing (due_in (get_or old q d) t p) p (in_place nothing (see before).outbox k)
              (get_or old q d) u) (sym (get_or-set_same now q v d there))
              (subst (λ (x : P). IsPut nothing (due_in (get_or old q d) t p) p x (get_or old q d) v) (g.kept k (omega arith))
              (subst (λ (u : Wheel P). IsPut nothing (due_in u t p) p (in_place nothing (see z).outbox k) u v)
              (as_it_was e d) put))))
              (λ ne. subst (λ (u : Wheel P). IsPut nothing (due_in (get_or old (neighbour_at rows j) d) t p) p
              (in_place nothing (see before).outbox j) (get_or old (neighbour_at rows j) d) u)
              (sym (get_or-set_other now q (neighbour_at rows j) v d (lesser j (omega arith)))) (g.sent j d (omega arith)));
          others = λ b d beside. get_or-set_other now q b v d (λ e. beside k (omega arith) (sym e))
              ∙ g.others b d (λ j l. beside j (omega arith));
        };
        inbox = inbox ∙ h.inbox;
        number = number ∙ h.number;
        seconds = seconds ∙ h.seconds;
        stays = λ r s. stays r (h.stays r s);
      }

  -- where nothing is in the parcel no wheel is changed
  pub sends_none : (y : T) → in_place nothing (see z).outbox k ≡ nothing
      → (see y).outbox ≡ set (see z).outbox k nothing → (see y).inbox ≡ (see z).inbox → (see y).number ≡ (see z).number
      → (see y).seconds ≡ (see z).seconds → Stays stands z y → AreSent nothing see stands t p rows (k + 1) old now before y
  sends_none y none outbox inbox number seconds stays =
      let e : Wheel P = one_of now q there in
      let w : Wheel P = get_or now q e in
      let room : lies nothing w (due_in w t p) p ≡ nothing =
      subst (λ (u : Wheel P). lies nothing u (due_in u t p) p ≡ nothing) (sym (as_it_was e e)) (have.room k e lt) in
      let noted : IsNoted nothing w = subst (λ (u : Wheel P). IsNoted nothing u) (sym (as_it_was e e)) (have.noted q e (have.there k lt)) in
      subst (λ (ws : List (Wheel P)). AreSent nothing see stands t p rows (k + 1) old ws before y) (set-get_or now q e)
      (sends_next e w y (put_nothing nothing w (due_in w t p) p (in_place nothing (see z).outbox k) none room noted)
      outbox inbox number seconds stays)

-- where nothing is in several parcels that follow one another they need not be looked at
module _ {R T P : Type 0} (nothing : P) (see : T → PartView P) (stands : R → T → Type 0) (t p : ℕ) (rows : List Border)
    (old now : List (Wheel P)) (before z : T) (have : HaveRoom nothing t p rows old)
    (places : length (see before).outbox ≡ length rows) where
  passed_one : (k : ℕ) → AreSent nothing see stands t p rows k old now before z → k < length rows
      → in_place nothing (see z).outbox k ≡ nothing → AreSent nothing see stands t p rows (k + 1) old now before z
  passed_one k h lt none = sends_none nothing see stands t p rows k old now before z have places h lt z none
      (sym (ap (λ (x : P). set (see z).outbox k x) (sym none) ∙ set-get_or (see z).outbox k nothing)) refl refl refl (λ r s. s)

  pub passed_over : (n k m : ℕ) → k + n ≡ m → m ≤ length rows → AreSent nothing see stands t p rows k old now before z
      → ((j : ℕ) → k ≤ j → j < m → in_place nothing (see z).outbox j ≡ nothing) → AreSent nothing see stands t p rows m old now before z
  passed_over zero k m e le h none = subst (λ (i : ℕ). AreSent nothing see stands t p rows i old now before z) (omega arith) h
  passed_over (suc n) k m e le h none =
      passed_over n (k + 1) m (omega arith) le (passed_one k h (omega arith) (none k (omega arith) (omega arith)))
      (λ j ge lt. none j (omega arith) lt)
