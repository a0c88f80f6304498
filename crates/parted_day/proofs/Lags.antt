-- The lag to a neighbour, as it stands among the neighbours of that one.
use Rattle.traffic.proofs.Common.{◌≡◌, ℕ, zero, suc, ◌+◌, ◌-◌, ◌<◌, ◌≤◌, Bool, true, false, List, [], ◌∷◌, ◌∙◌, ap, refl, sym, arith, inl, inr, cases_Bool}
use Rattle.traffic.proofs.Common.{cases_lt, nat_tests, ◌≢◌, nat_le, eqb, eqb-true, eqb-false, map, filter, numbers, flat_map, Setup}
use Rattle.limits.specs.declared.TheConstants.{MAX_LAG}
use Rattle.town.specs.{Setups.setup_of, Views.setup, declared.day_input.DayInput.DayInput}
use Rattle.parts.specs.Owners.{Owner, near, lag}
use Rattle.law_partitions.{proofs.Lags.lag-most, proofs.Whole.near-both, proofs.Whole.near_part, specs.Laws.IsOwner}
use Rattle.step_core.specs.declared.part.Border.{Border}
use Rattle.divided_day.specs.Borders.{border_from, borders_of}
use Rattle.parted_day.specs.{Strays.lag_among, Strays.comes_too_late, Strays.strays_to, Strays.strays_over, declared.straying.Stray.Stray}

pub end_is : (day : DayInput) → (setup day).settings.end_second ≡ day.town.now.settings.end_second
unfolding setup_of
end_is day = refl

-- AMONG NEIGHBOURS
found_at : (S : Setup) (own : Owner) (q p : ℕ) (pass : ℕ → Bool) (k c : ℕ) → k ≤ p → p < k + c → pass p ≡ true
    → lag_among p (map (border_from S own q) (filter pass (numbers k c))) ≡ lag S own p q
found_at S own q p pass k zero low high e = absurd (omega arith)
found_at S own q p pass k (suc c) low high e =
    let bs = map (border_from S own q) (filter pass (numbers (k + 1) c)) in
    elim (cases_Bool (eqb k p)) [
      | inl y ↦
          let same : k ≡ p = eqb-true k p y in
          let here : pass k ≡ true = ap pass same ∙ e in
          rw here (rw y (ap (λ (x : ℕ). lag S own x q) same))
      | inr y ↦
          let ne : k ≢ p = eqb-false k p y in
          let later = found_at S own q p pass (k + 1) c (omega arith) (omega arith) e in
          elim (cases_Bool (pass k)) [
            | inl z ↦ rw z (rw y later)
            | inr z ↦ rw z later
          ]
    ]

pub receiver_there : (S : Setup) (own : Owner) (parts p q : ℕ) → IsOwner own parts → near S own p q ≡ true → q < parts
receiver_there S own parts p q shares n = near_part S own parts q p shares (sym (near-both S own p q) ∙ n)

pub lag_is : (S : Setup) (own : Owner) (parts p q : ℕ) → IsOwner own parts → near S own p q ≡ true
    → lag_among p (borders_of S own parts q) ≡ lag S own p q
lag_is S own parts p q shares n =
    let there : p < parts = near_part S own parts p q shares n in
    found_at S own q p (λ (x : ℕ). near S own x q) 0 parts (omega arith) (omega arith) n

-- WHAT COMES TOO LATE
left_over : (end s d : ℕ) → nat_le (end - s) d ≡ nat_le end (s + d)
left_over end s d =
    elim (cases_lt (s + d) end) [
      | inl lt ↦
          let a : nat_le (end - s) d ≡ false = grind (arith, nat_tests) in
          let b : nat_le end (s + d) ≡ false = grind (arith, nat_tests) in
          a ∙ sym b
      | inr ge ↦
          let a : nat_le (end - s) d ≡ true = grind (arith, nat_tests) in
          let b : nat_le end (s + d) ≡ true = grind (arith, nat_tests) in
          a ∙ sym b
    ]

pub late_is : (day : DayInput) (own : Owner) (parts p q s left d : ℕ) (borders : List Border) → IsOwner own parts
    → near (setup day) own p q ≡ true
    → left ≡ day.town.now.settings.end_second - s → d ≡ lag_among p borders → borders ≡ borders_of (setup day) own parts q
    → nat_le left d ≡ comes_too_late (setup day) own p q s
late_is day own parts p q s left d borders shares n is_left is_lag are =
    let S = setup day in
    let end = day.town.now.settings.end_second in
    let is : d ≡ lag S own p q = is_lag ∙ ap (lag_among p) are ∙ lag_is S own parts p q shares n in
    ap (λ (x : ℕ). nat_le x d) is_left ∙ ap (λ (x : ℕ). nat_le (end - s) x) is ∙ left_over end s (lag S own p q)
    ∙ ap (λ (x : ℕ). nat_le x (s + lag S own p q)) (sym (end_is day))

none_each : (f : Border → List Stray) → ((b : Border) → f b ≡ []) → (bs : List Border) → flat_map f bs ≡ []
none_each f h [] = refl
none_each f h (b ∷ bs) = let e = h b in rw e (none_each f h bs)

-- nothing does that is sent earlier than the longest lag before the end
pub none_early : (day : DayInput) (own : Owner) (p s : ℕ) (borders : List Border) → MAX_LAG < day.town.now.settings.end_second - s
    → strays_over (setup day) own p s borders ≡ []
none_early day own p s borders early =
    let S = setup day in
    none_each (λ (b : Border). strays_to S own p s b.neighbour) (λ b. (
    let most = lag-most S own p b.neighbour in
    let is = end_is day in
    let lt : s + lag S own p b.neighbour < S.settings.end_second = omega arith in
    let e : nat_le S.settings.end_second (s + lag S own p b.neighbour) ≡ false = grind (arith, nat_tests) in
    rw e refl)) borders
