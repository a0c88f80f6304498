-- A wheel into which a parcel was put, and one from which one was taken.
use Rattle.std.proofs.Common.{◌≡◌, ◌≢◌, ◌+◌, ◌*◌, ◌<◌, arith, ℕ, false, List, ◌∙◌, get_or, length, set, ap, refl, sym, subst}
use Rattle.std.proofs.lemmas.{List.get_or-set_same, List.get_or-set_other, List.length-set}
use mathlib.Core.Logic.{dite}
use native.Mathlib.Decide.{ℕ_discrete}
use Rattle.number_sets.specs.Sets.{has}
use Rattle.step_core.specs.{Wheels.row_of, Wheels.place_in, Wheels.notes_at, Wheels.is_noted, Wheels.lies, Wheels.IsWhole, Wheels.IsNoted}
use Rattle.step_core.specs.{Wheels.IsPut, declared.wheel.Wheel.Wheel}

module _ {P : Type 0} (nothing : P) where
  -- a parcel with nothing in it need not be put where nothing lies
  pub put_nothing : (w : Wheel P) (u a : ℕ) (x : P) → x ≡ nothing → lies nothing w u a ≡ nothing → IsNoted nothing w
      → IsPut nothing u a x w w
  put_nothing w u a x none room noted = record {
    noted = noted;
    lags = refl;
    here = room ∙ sym none;
    rest = λ v ne. refl;
    others = λ v b few ne. refl;
  }

  -- what lies in one place is another parcel
  module _ (u a : ℕ) (x : P) (old new : Wheel P) (few : a < 64) (whole : IsWhole old)
      (parcels : new.parcels.items ≡ set old.parcels.items (place_in u a) x) where
    at_place : (i : ℕ) → get_or new.parcels.items i nothing ≡ get_or (set old.parcels.items (place_in u a) x) i nothing
    at_place i = ap (λ (xs : List P). get_or xs i nothing) parcels

    pub placed_here : lies nothing new u a ≡ x
    placed_here = at_place (place_in u a)
        ∙ get_or-set_same old.parcels.items (place_in u a) x nothing (let places = whole.places in omega arith)

    pub placed_rest : (v b : ℕ) → place_in v b ≢ place_in u a → lies nothing new v b ≡ lies nothing old v b
    placed_rest v b ne = at_place (place_in v b) ∙ get_or-set_other old.parcels.items (place_in u a) (place_in v b) x nothing ne

    pub put_there : IsNoted nothing new → new.lags.items ≡ old.lags.items → IsPut nothing u a x old new
    put_there noted lags = record {
      noted = noted;
      lags = lags;
      here = placed_here;
      rest = λ v ne. placed_rest v a (λ e. ne (omega arith));
      others = λ v b less ne. placed_rest v b (λ e. ne (omega arith));
    }

    -- where each sender of the row of u but a is noted as he was, and a is noted or nothing lies there now
    pub still_noted : (n : ℕ) → IsNoted nothing old → new.lags.items ≡ old.lags.items
        → new.noted.items ≡ set old.noted.items (row_of u) n
        → ((b : ℕ) → b ≢ a → has n b ≡ has (notes_at old u) b) → (has n a ≡ false → x ≡ nothing) → IsNoted nothing new
    still_noted n noted lags notes same here = record {
      whole = record {
        senders = ap (λ (xs : List ℕ). length xs) lags ∙ whole.senders;
        rows = ap (λ (xs : List ℕ). length xs) notes ∙ length-set old.noted.items (row_of u) n ∙ whole.rows;
        places = ap (λ (xs : List P). length xs) parcels ∙ length-set old.parcels.items (place_in u a) x ∙ whole.places;
      };
      quiet = λ v b less off. dite (ℕ_discrete (row_of v) (row_of u))
          (λ e.
          let row : notes_at new v ≡ n = ap (λ (r : ℕ). get_or new.noted.items r 0) e ∙ ap (λ (xs : List ℕ). get_or xs (row_of u) 0) notes
          ∙ get_or-set_same old.noted.items (row_of u) n 0 (let rows = whole.rows in omega arith) in
          dite (ℕ_discrete b a)
          (λ f. subst (λ (c : ℕ). lies nothing new v c ≡ nothing) (sym f)
          (ap (λ (r : ℕ). get_or new.parcels.items (a * 64 + r) nothing) e ∙ placed_here
          ∙ here (sym (ap (λ (m : ℕ). has m a) row) ∙ ap (λ (c : ℕ). is_noted new v c) (sym f) ∙ off)))
          (λ ne. placed_rest v b (λ g. ne (omega arith))
          ∙ noted.quiet v b less (ap (λ (r : ℕ). has (get_or old.noted.items r 0) b) e ∙ sym (same b ne)
          ∙ sym (ap (λ (m : ℕ). has m b) row) ∙ off)))
          (λ ne. placed_rest v b (λ g. ne (omega arith))
          ∙ noted.quiet v b less (sym (ap (λ (m : ℕ). has m b) (ap (λ (xs : List ℕ). get_or xs (row_of v) 0) notes
          ∙ get_or-set_other old.noted.items (row_of u) (row_of v) n 0 ne)) ∙ off));
    }
