-- What a partition hears, sender by sender, and where a neighbour stands.
use Rattle.std.proofs.Common.{◌≡◌, ◌≢◌, ℕ, zero, suc, ◌+◌, ◌<◌, ◌≤◌, false, List, ◌∙◌, length, get_or, set, ap, sym, refl, arith}
use Rattle.std.proofs.lemmas.List.{get_or-set_same, get_or-set_other, length-set}
use Rattle.std.proofs.lemmas.Bool.{cases_lt}
use Rattle.std.proofs.Common.{inl, inr}
use mathlib.Core.Logic.{dite}
use native.Mathlib.Decide.{ℕ_discrete}
use Rattle.number_sets.specs.Sets.{IsNext}
use Rattle.step_core.proofs.Putting.{placed_here, placed_rest}
use Rattle.step_core.specs.{Exchanges.neighbour_at, Exchanges.Ascend, Exchanges.AreListed, Exchanges.IsPlaceOf, Exchanges.HaveHeard, Exchanges.AreHeard, Exchanges.HasTakenIn}
use Rattle.step_core.specs.{Views.PartView, Views.in_place, Views.AreEmpty, Wheels.place_in, Wheels.notes_at, Wheels.is_noted}
use Rattle.step_core.specs.{Wheels.lies, Wheels.IsNoted, declared.part.Border.Border, declared.wheel.Wheel.Wheel}

-- a neighbour stands no further than its number
pub no_further : (rows : List Border) (k : ℕ) → Ascend rows → k < length rows → k ≤ neighbour_at rows k
no_further rows zero ascend lt = omega arith
no_further rows (suc k) ascend lt =
    let before : k ≤ neighbour_at rows k = no_further rows k ascend (omega arith) in
    let up : neighbour_at rows k < neighbour_at rows (suc k) = ascend k (suc k) (omega arith) lt in
    omega arith

-- two neighbours of the same number are one
pub same_neighbour : (rows : List Border) (j k : ℕ) → AreListed rows → j < length rows → k < length rows
    → neighbour_at rows j ≡ neighbour_at rows k → j ≡ k
same_neighbour rows j k listed lj lk e =
    dite (ℕ_discrete j k) (λ same. same)
    (λ ne. absurd (elim (cases_lt j k) [
      | inl lt ↦ let up = listed.ascend j k lt lk in omega arith
      | inr ge ↦ let up = listed.ascend k j (omega arith) lj in omega arith
    ]))

-- WHAT IS HEARD
-- The next of whom something may lie in the row of second t is s: what lies there is taken.
module _ {P : Type 0} (nothing : P) (t : ℕ) (rows : List Border) (b s : ℕ) (old now new : Wheel P) (inbox : List P)
    (listed : AreListed rows) (h : HaveHeard nothing t rows b old now inbox) (next : IsNext (notes_at now t) b s)
    (noted : IsNoted nothing new) (lags : new.lags.items ≡ now.lags.items)
    (parcels : new.parcels.items ≡ set now.parcels.items (place_in t s) nothing) where
  few : s < 64
  few = next.small

  not_there : (a : ℕ) → a < 64 → b ≤ a → a < s → lies nothing now t a ≡ nothing
  not_there a less ge lt = h.noted.quiet t a less (next.none a ge lt)

  here : lies nothing new t s ≡ nothing
  here = placed_here nothing t s nothing now new few h.noted.whole parcels

  rest : (u a : ℕ) → place_in u a ≢ place_in t s → lies nothing new u a ≡ lies nothing now u a
  rest u a ne = placed_rest nothing t s nothing now new few h.noted.whole parcels u a ne

  taken_now : (k : ℕ) → k < length rows → neighbour_at rows k < s + 1 → lies nothing new t (neighbour_at rows k) ≡ nothing
  taken_now k lt less =
      let a : ℕ = neighbour_at rows k in
      dite (ℕ_discrete a s)
      (λ e. ap (λ (x : ℕ). lies nothing new t x) e ∙ here)
      (λ ne. rest t a (λ e. ne (omega arith)) ∙ elim (cases_lt a b) [
        | inl before ↦ h.taken k lt before
        | inr ge ↦ not_there a (listed.each k lt) ge (omega arith)
      ])

  -- what lay there comes to the place of its sender
  pub heard_next : (k : ℕ) (later : List P) → IsPlaceOf rows s k → later ≡ set inbox k (lies nothing now t s)
      → HaveHeard nothing t rows (s + 1) old new later
  heard_next k later place is =
      let other : (j : ℕ) → j ≢ k → in_place nothing later j ≡ in_place nothing inbox j =
      λ j ne. ap (λ (xs : List P). get_or xs j nothing) is ∙ get_or-set_other inbox k j (lies nothing now t s) nothing ne in
      record {
        noted = noted;
        lags = lags ∙ h.lags;
        degree = ap (λ (xs : List P). length xs) is ∙ length-set inbox k (lies nothing now t s) ∙ h.degree;
        came = λ j lt less. dite (ℕ_discrete j k)
            (λ e. ap (λ (xs : List P). get_or xs j nothing) is
            ∙ ap (λ (i : ℕ). get_or (set inbox k (lies nothing now t s)) i nothing) e
            ∙ get_or-set_same inbox k (lies nothing now t s) nothing (let degree = h.degree in let there = place.there in omega arith)
            ∙ h.rest s few next.least
            ∙ ap (λ (a : ℕ). lies nothing old t a) (sym place.is ∙ ap (λ (i : ℕ). neighbour_at rows i) (sym e)))
            (λ ne. other j ne ∙ elim (cases_lt (neighbour_at rows j) b) [
              | inl before ↦ h.came j lt before
              | inr ge ↦ h.none j lt ge ∙ sym (sym (h.rest (neighbour_at rows j) (listed.each j lt) ge)
                  ∙ not_there (neighbour_at rows j) (listed.each j lt) ge
                  (lesser j (neighbour_at rows j) lt less (λ e. ne (same_neighbour rows j k listed lt place.there (e ∙ sym place.is)))))
            ]);
        none = λ j lt ge. other j (λ e. absurd (let is : neighbour_at rows j ≡ s = ap (λ (i : ℕ). neighbour_at rows i) e ∙ place.is in
            omega arith)) ∙ h.none j lt (let least = next.least in omega arith);
        taken = taken_now;
        rest = λ a less ge. rest t a (λ e. absurd (omega arith)) ∙ h.rest a less (let least = next.least in omega arith);
        others = λ u a less ne. rest u a (λ e. ne (omega arith)) ∙ h.others u a less ne;
      }
    where
      lesser : (j a : ℕ) → j < length rows → a < s + 1 → a ≢ s → a < s
      lesser j a lt less ne = omega arith

  -- or is of nobody here
  pub heard_none : ((k : ℕ) → k < length rows → neighbour_at rows k ≢ s) → HaveHeard nothing t rows (s + 1) old new inbox
  heard_none off = record {
    noted = noted;
    lags = lags ∙ h.lags;
    degree = h.degree;
    came = λ j lt less. elim (cases_lt (neighbour_at rows j) b) [
      | inl before ↦ h.came j lt before
      | inr ge ↦ h.none j lt ge ∙ sym (sym (h.rest (neighbour_at rows j) (listed.each j lt) ge)
          ∙ not_there (neighbour_at rows j) (listed.each j lt) ge (let ne = off j lt in omega arith))
    ];
    none = λ j lt ge. h.none j lt (let least = next.least in omega arith);
    taken = taken_now;
    rest = λ a less ge. rest t a (λ e. absurd (omega arith)) ∙ h.rest a less (let least = next.least in omega arith);
    others = λ u a less ne. rest u a (λ e. ne (omega arith)) ∙ h.others u a less ne;
  }

-- at first nobody was heard
pub none_heard : {P : Type 0} (nothing : P) (t : ℕ) (rows : List Border) (w : Wheel P) (inbox : List P) → IsNoted nothing w
    → AreEmpty nothing (length rows) inbox → HaveHeard nothing t rows 0 w w inbox
none_heard nothing t rows w inbox noted empty = record {
  noted = noted;
  lags = refl;
  degree = empty.many;
  came = λ k lt less. absurd (omega arith);
  none = λ k lt ge. empty.none k lt;
  taken = λ k lt less. absurd (omega arith);
  rest = λ a less ge. refl;
  others = λ u a less ne. refl;
}

-- and in the end all were
pub all_heard : {R T P : Type 0} (nothing : P) (see : T → PartView P) (stands : R → T → Type 0) (t : ℕ) (rows : List Border) (b : ℕ)
    (old now : Wheel P) (before z : T) → AreListed rows → AreHeard nothing see stands t rows b old now before z
    → ((a : ℕ) → b ≤ a → is_noted now t a ≡ false) → HasTakenIn nothing see stands t rows old now before z
all_heard nothing see stands t rows b old now before z listed h none =
    let g = h.heard in
    let off : (k : ℕ) → k < length rows → b ≤ neighbour_at rows k → lies nothing now t (neighbour_at rows k) ≡ nothing =
    λ k lt ge. g.noted.quiet t (neighbour_at rows k) (listed.each k lt) (none (neighbour_at rows k) ge) in
    record {
      taken = record {
        noted = g.noted;
        lags = g.lags;
        taken = λ k lt. elim (cases_lt (neighbour_at rows k) b) [ inl less ↦ g.taken k lt less | inr ge ↦ off k lt ge ];
        others = g.others;
      };
      came = λ k lt. elim (cases_lt (neighbour_at rows k) b) [
        | inl less ↦ g.came k lt less
        | inr ge ↦ g.none k lt ge ∙ sym (sym (g.rest (neighbour_at rows k) (listed.each k lt) ge) ∙ off k lt ge)
      ];
      degree = g.degree;
      outbox = h.outbox;
      number = h.number;
      seconds = h.seconds;
      stays = h.stays;
    }
