-- A second of a partition that was done.
use Rattle.std.proofs.Common.{◌≡◌, ℕ, ◌<◌, false, true≢false, List, ◌∙◌, length, get_or, set, sym, subst, subst₂, Result, Ok, Err}
use Rattle.std.proofs.lemmas.List.{get_or-set_same, get_or-set_other, get_or_default, length-set}
use Rattle.std.specs.Result.{OnOk, is_err}
use Rattle.step_core.specs.Exchanges.{neighbour_at, AreTaken, HaveSent, IsReady, HasExchanged}
use Rattle.step_core.specs.{Views.in_place, Views.HasSent, Wheels.due_in, Wheels.IsPut, declared.part.Border.Border, declared.wheel.Wheel.Wheel}

-- p has taken what its neighbours sent out of its own wheel, and put what it made into theirs
module _ {P : Type 0} (nothing : P) (right : ℕ → ℕ → ℕ → P → Type 0) (t p : ℕ) (rows : List Border) (wheels : List (Wheel P))
    (ready : IsReady nothing right t p rows wheels) (e v : Wheel P) (taken : AreTaken nothing t rows (get_or wheels p e) v) where
  abbrev now : List (Wheel P)
  now = set wheels p v

  own_now : (d : Wheel P) → get_or now p d ≡ v
  own_now d = get_or-set_same wheels p v d ready.here

  taken_now : (d : Wheel P) → AreTaken nothing t rows (get_or wheels p d) v
  taken_now d = subst (λ (u : Wheel P). AreTaken nothing t rows u v) (get_or_default wheels p e d ready.here) taken

  beside_now : (k : ℕ) (d : Wheel P) → k < length rows → get_or now (neighbour_at rows k) d ≡ get_or wheels (neighbour_at rows k) d
  beside_now k d lt = get_or-set_other wheels p (neighbour_at rows k) v d (ready.other k lt)

  pub has_exchanged : (later : List (Wheel P)) (outbox after : List P) → HasSent nothing right p t rows outbox
      → HaveSent nothing t p rows (length rows) now later outbox after → HasExchanged nothing right t p rows wheels later
  has_exchanged later outbox after good sent = record {
    long = sent.long ∙ length-set wheels p v;
    taken = λ d. subst (λ (u : Wheel P). AreTaken nothing t rows (get_or wheels p d) u)
        (sym (sent.others p d ready.other ∙ own_now d)) (taken_now d);
    given = λ k d lt. record {
      parcel = in_place nothing outbox k;
      right = good k lt;
      put = subst (λ (u : Wheel P). IsPut nothing (due_in u t p) p (in_place nothing outbox k) u (get_or later (neighbour_at rows k) d))
          (beside_now k d lt) (sent.sent k d lt);
    };
    others = λ b d ne beside. sent.others b d beside ∙ get_or-set_other wheels p b v d ne;
  }

-- what is right to send, of a partition that bears its number and its second
pub sent_then : {P : Type 0} (nothing : P) (right : ℕ → ℕ → ℕ → P → Type 0) (p t q s : ℕ) (rows bs : List Border) (outbox : List P)
    → q ≡ p → s ≡ t → bs ≡ rows → HasSent nothing right q s bs outbox → HasSent nothing right p t rows outbox
sent_then nothing right p t q s rows bs outbox number seconds listed h =
    subst (λ (zs : List Border). HasSent nothing right p t zs outbox) listed
    (subst₂ (λ (a b : ℕ). HasSent nothing right a b bs outbox) number seconds h)

-- what holds where there was memory
pub when_done : {X E A : Type 0} (r : Result X E) → is_err r ≡ false → OnOk r A → A
when_done (Ok x) e h = h
when_done (Err y) e h = absurd (true≢false e)
